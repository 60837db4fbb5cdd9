use Rattle.std.proofs.Common.{◌≡◌, ◌*◌, ◌-◌, ◌+◌, ◌<◌, length}
use Rattle.sc_taskset.specs.Looks.{words_for}
use Rattle.sc_taskset.proofs.FlagLemmas.{IsRest, NoneFrom}
use Rattle.sc_taskset.proofs.flags.next_flag.Given as goal

-- no flag is set before this word, which has those of its place from the number on, and each word
-- that was begun was a step
abbrev pub invariant-loop-word : goal.invariant-loop-word
invariant-loop-word g l = record {
  there : 64 * l.at < l.many;
  reached : l.from < 64 * (l.at + 1);
  none : NoneFrom l.words l.from (64 * l.at);
  rest : IsRest l.words l.from l.at l.word;
  steps : l.steps + words_for l.from ≡ l.fn.steps + (l.at + 1);
}

abbrev pub decreases-loop-word : goal.decreases-loop-word
decreases-loop-word g l = length l.words - l.at
