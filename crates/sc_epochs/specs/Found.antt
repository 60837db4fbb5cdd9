-- When the epoch of a task alone tells that its output may be lost.
use Rattle.std.specs.Prelude.{ℕ, ◌≡◌, ◌≤◌, ◌⊎◌, true, All, IfSome}
use Rattle.sc_ids.specs.declared.blocks.Loc.{Loc}
use Rattle.sc_tracker.specs.TrackerData.{TrackerData, trust_of}
use Rattle.sc_tracker.specs.Trust.{is_marked}
use Rattle.sc_core.specs.CoreData.{is_of, job_runs}
use Rattle.sc_core.specs.declared.running.Running.{Running}
use Rattle.sc_net.specs.Reports.{ReportData}
use Rattle.sc_net.specs.declared.findings.Finding.{Finding}
use Rattle.sc_net.specs.declared.findings.Finding.TheVariants as findings
use Rattle.sc_net.specs.declared.shelved.ShelvedReport.{ShelvedReport}
use Rattle.sc_task.specs.Attempts.{AttemptData, assigned, computed, granted, reported, staged, stored, task_of}
use Rattle.sc_world.specs.WorldData.{WorldData, core_in, held_at}

-- An output of a task of this epoch lies there: it is of no generation below the one that is seen
-- there, or the epoch is at or below the executor's mark.
abbrev pub IsFoundByEpoch : TrackerData → ℕ → Loc → Type 0
IsFoundByEpoch t epoch loc =
    ((trust_of t loc.exec).seen ≤ loc.generation)
    ⊎ (is_marked (trust_of t loc.exec).mark epoch ≡ true)

-- the same of what a report tells, where that is a map output
abbrev pub TellsFound : TrackerData → ℕ → Finding → Type 0
TellsFound t epoch (findings.Map loc) = IsFoundByEpoch t epoch loc
TellsFound t epoch finding = Unit {0}

-- and of what an executor has out
abbrev pub HoldsFound : TrackerData → AttemptData → Type 0
HoldsFound t (assigned task got) = Unit {0}
HoldsFound t (computed task) = Unit {0}
HoldsFound t (stored task loc) = IsFoundByEpoch t task.hand_out.epoch loc
HoldsFound t (staged task) = Unit {0}
HoldsFound t (granted task) = Unit {0}
HoldsFound t (reported task finding) = TellsFound t task.hand_out.epoch finding

-- and of a report that is to be told later, where it is one of this running attempt
abbrev pub ShelvesFound : TrackerData → Running → ShelvedReport ReportData → Type 0
ShelvesFound t r s =
    is_of s.report.task.hand_out.attempt r ≡ true → TellsFound t r.hand_out.epoch s.report.finding

-- In a world the epochs of tasks find each output that may be lost: of those of attempts that
-- executors have out, and of those that are to be told later of attempts that run.
pub record FindsStale (w : WorldData) : Type 0 where
  -- what is out was handed out no later than now
  pub past : (exec : ℕ) → IfSome (held_at w exec)
      (λ a. (task_of a).hand_out.epoch ≤ (core_in w).dag.tracker.epoch)
  pub held : (exec : ℕ) → IfSome (held_at w exec) (HoldsFound (core_in w).dag.tracker)
  pub shelved : job_runs (core_in w) ≡ true
      → All (λ r. All (ShelvesFound (core_in w).dag.tracker r) w.desk.shelf) (core_in w).running
