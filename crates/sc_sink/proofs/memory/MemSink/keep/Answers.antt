use Rattle.std.proofs.Common.{◌≡◌, [], ◌∷◌, ◌++◌, length, rules}
use Rattle.sc_sink.proofs.PieceLemmas.{pieces_of-push, AreLengths-push}
use Rattle.sc_sink.proofs.memory.MemSink.keep.Goals as goal

pub returns : goal.returns
returns c =
    let lens = c.self.inside.lens.items in
    let bytes = c.self.inside.bytes.items in
    let piece = c.args.piece.now in
    let long : c.push_reserved.new.self.items ≡ lens ++ length piece ∷ [] = search rules in
    let whole : c.extend_from_slice.new.self.items ≡ bytes ++ piece = search rules in
    rw (← c.self.view_is, long, whole, pieces_of-push lens bytes piece c.self.invariant)

pub invariant_of-self-2 : goal.invariant_of-self-2
invariant_of-self-2 c =
    let lens = c.self.inside.lens.items in
    let bytes = c.self.inside.bytes.items in
    let piece = c.args.piece.now in
    let long : c.push_reserved.new.self.items ≡ lens ++ length piece ∷ [] = search rules in
    let whole : c.extend_from_slice.new.self.items ≡ bytes ++ piece = search rules in
    rw (long, whole) (AreLengths-push lens bytes piece c.self.invariant)
