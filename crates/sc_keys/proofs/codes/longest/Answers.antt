use Rattle.std.proofs.Common.{◌<◌, ◌≤◌, arith, length, sym, subst}
use Rattle.std.proofs.lemmas.List.{take_all}
use Rattle.std.proofs.lemmas.Option.{get_or_from_slice_get}
use Rattle.std.specs.List.{All}
use Rattle.sc_keys.proofs.CodedLemmas.{longest_more}
use Rattle.sc_keys.proofs.codes.longest.Goals as goal

pub loop-i-preserved : goal.loop-i-preserved
loop-i-preserved c =
    let ks = c.args.keys.now in
    let k = c.get.result.now in
    let within : c.loop-i.i < length c.args.keys.now = omega arith in
    let up : c.loop-i.most ≤ c.max-most.result = omega (arith, c.max-most.ensures) in
    let own : length c.get.result.now ≤ c.max-most.result = omega (arith, c.max-most.ensures) in
    longest_more ks c.loop-i.i c.loop-i.most c.max-most.result k within
    (sym (get_or_from_slice_get ks c.loop-i.i k k c.get.ensures)) c.loop-i.invariant up own

pub returns : goal.returns
returns c =
    subst (All (λ t. length t ≤ c.loop-i.most)) (take_all c.loop-i.i c.args.keys.now (omega arith))
    c.loop-i.invariant
