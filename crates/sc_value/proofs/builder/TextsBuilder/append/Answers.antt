use Rattle.std.proofs.Common.{arith}
use Rattle.sc_value.specs.Spans.{part_at}
use Rattle.sc_value.proofs.BuilderLemmas.{AreAddedTo-more, AreAddedTo-within}
use Rattle.sc_value.proofs.builder.TextsBuilder.append.Goals as goal

pub loop-i-preserved : goal.loop-i-preserved
loop-i-preserved c =
    AreAddedTo-more c.args.self.now.texts c.args.texts.now c.loop-i.self.texts
    c.push_part.new.self.texts c.loop-i.self.open_text c.push_part.new.self.open_text
    (part_at c.place.result.0.now c.place.result.1) c.args.self.now.taken c.loop-i.self.taken
    c.push_part.new.self.taken c.loop-i.i c.place.ensures.text c.in-Ok.ensures.texts
    c.in-Ok.ensures.open_text c.in-Ok.ensures.taken c.in-Ok.ensures.within c.loop-i.invariant

pub returns-in-Err-clause-spent : goal.returns-in-Err-clause-spent
returns-in-Err-clause-spent c =
    let within = AreAddedTo-within c.args.self.now.texts c.args.texts.now c.loop-i.self.texts
    c.loop-i.self.open_text c.args.self.now.taken c.loop-i.self.taken c.loop-i.i
    c.loop-i.invariant in
    let kept = c.in-Err.ensures.taken in
    let cut = c.truncate.ensures.taken in
    omega (arith, within, kept, cut)
