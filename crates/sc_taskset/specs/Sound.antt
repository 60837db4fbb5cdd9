-- What every task set keeps.
use Rattle.std.specs.Prelude.{ℕ, ◌<◌, ◌≡◌, ◌==◌, true, false, List, [], ◌∷◌, length}
use Rattle.std.specs.List.{All, AllPairs}
use Rattle.std.specs.List.Sorted.{IsNonDecreasing}
use Rattle.sc_taskset.specs.declared.tasks.RunningCopy.{RunningCopy}
use Rattle.sc_taskset.specs.TaskSetData.{TaskData, TaskSetData, partitions_of}
use Rattle.sc_taskset.specs.Lookups.{is_running, are_finished}

-- at most two attempts, with different numbers and on different executors
abbrev pub AreApart : List RunningCopy → Type 0
AreApart [] = Unit {0}
AreApart (c ∷ []) = Unit {0}
AreApart (c ∷ d ∷ []) = ((c.nth == d.nth) ≡ false) × ((c.exec == d.exec) ≡ false)
AreApart (c ∷ d ∷ e ∷ copies) = ⊥

-- a failure that counted: it was handed out, and runs no more
pub record IsPast (t : TaskData) (nth : ℕ) : Type 0 where
  pub handed_out : nth < t.given
  pub ended : is_running nth t.copies ≡ false

-- what every task keeps
pub record IsSoundTask (t : TaskData) : Type 0 where
  -- what runs was handed out
  pub handed_out : All (λ c. c.nth < t.given) t.copies
  -- few attempts run, on different executors
  pub apart : AreApart t.copies
  -- what failed was handed out, and runs no more
  pub past : All (IsPast t) t.failures
  -- no attempt fails twice
  pub once : AllPairs (λ m n. (m == n) ≡ false) t.failures

-- rising numbers, no two alike
abbrev pub AreRising : List ℕ → Type 0
AreRising partitions = AllPairs (λ p q. p < q) partitions

-- what every task set keeps
pub record IsSoundSet (s : TaskSetData) : Type 0 where
  -- its partitions rise
  pub rising : AreRising (partitions_of s)
  -- it has a task
  pub some : 0 < length s.tasks
  -- its tasks are sound
  pub tasks : All IsSoundTask s.tasks
  -- once all of them are finished, it is a zombie
  pub ends : are_finished s.tasks ≡ true → s.is_zombie ≡ true
  -- its durations rise
  pub durations : IsNonDecreasing s.durations
