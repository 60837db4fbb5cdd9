-- How the jobs of a run are recorded.
use Rattle.std.specs.Prelude.{ℕ, ◌≡◌, ◌<◌, ◌⊎◌, true, List, All, Contains, IfSome, Option, length, map, slice_get, vec_capacity, vec_len}
use Rattle.std.specs.List.{AllZip}
use Rattle.std.specs.Option.{option_map}
use Rattle.sc_core.specs.Journals.{Replays}
use Rattle.sc_core.specs.declared.entries.Entry.{Entry}
use Rattle.sc_core.specs.declared.journals.JobHistory.{JobHistory}
use Rattle.sc_lineage.specs.ScriptData.{WorkData}
use Rattle.sc_exec.specs.Lefts.{IsCause}
use Rattle.sc_exec.specs.Verdicts.{gives_up}
use Rattle.sc_exec.specs.declared.lefts.Left.{Left}
use Rattle.sc_logs.specs.Logs.{Interleaves}
use Rattle.sc_logs.specs.declared.logs.ExecLog.{ExecLog}
use Rattle.sc_context.specs.declared.records.GaveUp.{GaveUp}
use Rattle.sc_context.specs.declared.records.Records.{Records}

-- a job's entries are an interleaving of what its executors wrote down, so no call of theirs was
-- dropped, doubled or made up
abbrev pub IsLogged : JobHistory → List ExecLog → Type 0
IsLogged h logs = Interleaves h.entries.items logs

-- why a job is given up: its entries aren't such an interleaving, or an executor met what can't be
abbrev pub WasGivenUp : List Entry → List ExecLog → List Left → Type 0
WasGivenUp entries logs lefts =
    (Interleaves entries logs → ⊥)
    ⊎ ((left : Left) × Contains lefts left × (gives_up left ≡ true))

-- The executors of a job have stopped: each has a log, at its place, and why each takes no more
-- tasks is as its log tells.
pub record HaveStopped (work : WorkData) (logs : List ExecLog) (lefts : List Left) : Type 0 where
  pub many : length logs ≡ work.limits.executors
  pub places : (exec : ℕ) → IfSome (slice_get logs exec) (λ log. log.exec ≡ exec)
  pub causes : AllZip (λ log left. IsCause work log left) logs lefts

-- a job was given up for a reason, once its executors had stopped
pub record IsGivenUp (work : WorkData) (g : GaveUp) : Type 0 where
  pub replays : Replays g.history.opening g.history.entries.items g.history.end
  pub stopped : HaveStopped work g.logs.items g.lefts.items
  pub cause : WasGivenUp g.history.entries.items g.logs.items g.lefts.items

-- how jobs went that were given up, until then
abbrev pub histories_of : List GaveUp → List JobHistory
histories_of gave_up = map (λ g. g.history) gave_up

-- the same of one that may have been
abbrev pub tried_in : Option GaveUp → Option JobHistory
tried_in gave_up = option_map (λ g. g.history) gave_up

-- each job has what its executors wrote down, and each that was given up its reason
pub record AreKept (work : WorkData) (r : Records) : Type 0 where
  pub logged : AllZip (λ h logs. IsLogged h logs.items) r.histories.items r.logs.items
  pub given_up : All (IsGivenUp work) r.gave_up.items

-- there is room for how one job more went
pub record HasRoomToKeep (r : Records) : Type 0 where
  pub history : vec_len r.histories < vec_capacity r.histories
  pub logs : vec_len r.logs < vec_capacity r.logs

-- and, where it is given up, for how it went until then
pub record HasRoom (r : Records) : Type 0 where
  pub keep : HasRoomToKeep r
  pub given_up : vec_len r.gave_up < vec_capacity r.gave_up

-- records of the same jobs
pub record IsSame (r after : Records) : Type 0 where
  pub histories : after.histories.items ≡ r.histories.items
  pub logs : after.logs.items ≡ r.logs.items
  pub given_up : after.gave_up.items ≡ r.gave_up.items
