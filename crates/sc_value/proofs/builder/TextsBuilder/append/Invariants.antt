use Rattle.sc_value.proofs.BuilderLemmas.{AreAddedTo}
use Rattle.sc_value.proofs.builder.TextsBuilder.append.Given as goal

abbrev pub invariant-loop-i : goal.invariant-loop-i
invariant-loop-i l =
    AreAddedTo l.fn.self.texts l.texts l.self.texts l.self.open_text l.fn.self.taken l.self.taken
    l.i
