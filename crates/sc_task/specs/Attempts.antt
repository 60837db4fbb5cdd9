-- Attempts in their states, as plain data.
use Rattle.std.specs.Prelude.{ℕ, ◌≡◌, ◌⊎◌, refl}
use Rattle.std.specs.Coded.{Coded, code_by, coded×, coded⊎, coded_ℕ}
use mathlib.Core.Logic.{inl, inr}
use Rattle.sc_ids.specs.contracts.blocks.Loc.{the_row as loc_row}
use Rattle.sc_ids.specs.declared.blocks.Loc.{Loc}
use Rattle.sc_net.specs.Tasks.{TaskData, task_code}
use Rattle.sc_net.specs.contracts.findings.Finding.{the_row as finding_row}
use Rattle.sc_net.specs.declared.findings.Finding.{Finding}
use Rattle.sc_task.specs.declared.attempts.Attempt.{Attempt}
use Rattle.sc_task.specs.declared.attempts.Attempt.TheVariants as attempts

-- an attempt of a task
pub data AttemptData : Type 0 where
  -- it reads, and has read so many blocks
  assigned : TaskData → ℕ → AttemptData
  -- it has computed what it is to compute
  computed : TaskData → AttemptData
  -- its block was put there
  stored : TaskData → Loc → AttemptData
  -- its part was written, and it is to ask whether it may commit
  staged : TaskData → AttemptData
  -- it may commit, and is to move its part
  granted : TaskData → AttemptData
  -- it reports this
  reported : TaskData → Finding → AttemptData

-- the task of an attempt
abbrev pub task_of : AttemptData → TaskData
task_of (assigned t got) = t
task_of (computed t) = t
task_of (stored t loc) = t
task_of (staged t) = t
task_of (granted t) = t
task_of (reported t finding) = t

-- an attempt as contracts see it
abbrev pub attempt_data_of : {W : _} → Attempt W → AttemptData
attempt_data_of (attempts.Assigned a) = assigned a.task a.got
attempt_data_of (attempts.Computed c) = computed c.task
attempt_data_of (attempts.Stored s) = stored s.task s.loc
attempt_data_of (attempts.Staged s) = staged s.task
attempt_data_of (attempts.Granted g) = granted g.task
attempt_data_of (attempts.Reported r) = reported r.task r.finding

-- the code of an attempt, by which proofs tell two of them apart
abbrev pub AttemptParts : Type 0
AttemptParts =
    (TaskData × ℕ) ⊎ (TaskData ⊎ ((TaskData × Loc) ⊎ ((TaskData × Finding)
    ⊎ (TaskData ⊎ TaskData))))

abbrev pub attempt_parts : AttemptData → AttemptParts
attempt_parts (assigned t got) = inl (t, got)
attempt_parts (computed t) = inr (inl t)
attempt_parts (stored t loc) = inr (inr (inl (t, loc)))
attempt_parts (reported t finding) = inr (inr (inr (inl (t, finding))))
attempt_parts (staged t) = inr (inr (inr (inr (inl t))))
attempt_parts (granted t) = inr (inr (inr (inr (inr t))))

abbrev pub attempt_from : AttemptParts → AttemptData
attempt_from (inl p) = assigned p.0 p.1
attempt_from (inr (inl t)) = computed t
attempt_from (inr (inr (inl p))) = stored p.0 p.1
attempt_from (inr (inr (inr (inl p)))) = reported p.0 p.1
attempt_from (inr (inr (inr (inr (inl t))))) = staged t
attempt_from (inr (inr (inr (inr (inr t))))) = granted t

pub attempt_from-parts : (a : AttemptData) → attempt_from (attempt_parts a) ≡ a
attempt_from-parts (assigned t got) = refl
attempt_from-parts (computed t) = refl
attempt_from-parts (stored t loc) = refl
attempt_from-parts (staged t) = refl
attempt_from-parts (granted t) = refl
attempt_from-parts (reported t finding) = refl

abbrev pub attempt_code : Coded AttemptData
attempt_code =
    code_by AttemptParts
    (coded⊎ (coded× task_code coded_ℕ)
    (coded⊎ task_code
    (coded⊎ (coded× task_code loc_row.coded)
    (coded⊎ (coded× task_code finding_row.coded) (coded⊎ task_code task_code)))))
    attempt_parts attempt_from attempt_from-parts
