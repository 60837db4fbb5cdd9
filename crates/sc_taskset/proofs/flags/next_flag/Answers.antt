use Rattle.std.proofs.Common.{arith}
use Rattle.sc_taskset.proofs.FlagLemmas.{found_from, found_none, found_set, rest_masked}
use Rattle.sc_taskset.proofs.flags.next_flag.Goals.{then-from-eq0, else-from-eq0}
use Rattle.sc_taskset.proofs.flags.next_flag.Goals as goal

pub loop-word-init : goal.loop-word-init
loop-word-init g c =
    record {
      there = omega (arith, c.if-many-from.false);
      reached = omega arith;
      none = λ k le l. absurd (omega (arith, le, l));
      rest = rest_masked c.args.words.now c.args.from;
      steps = elim c.if-from-eq0.branch [
        | then-from-eq0 w ↦
            let at = w.if-from-eq0.true in
            let one = w.tick.ensures in
            rw w.steps-is (omega (arith, at, one))
        | else-from-eq0 w ↦
            let at = w.if-from-eq0.false in
            rw w.steps-is (omega (arith, at))
      ];
    }

pub returns-clause-from : goal.returns-clause-from
returns-clause-from g c =
    found_from c.args.words.now c.args.from c.loop-word.at c.loop-word.word c.lowest.result
    c.lowest.ensures c.loop-word.invariant.rest c.loop-word.invariant.none

pub returns-clause-none : goal.returns-clause-none
returns-clause-none g c =
    found_none c.args.words.now c.args.from c.loop-word.at c.loop-word.word c.lowest.result
    c.lowest.ensures c.loop-word.invariant.rest c.loop-word.invariant.none

pub returns-clause-set : goal.returns-clause-set
returns-clause-set g c = λ l.
    found_set c.args.words.now c.args.from c.loop-word.at c.loop-word.word c.lowest.result
    c.lowest.ensures c.loop-word.invariant.rest c.loop-word.invariant.none
