-- Trackers that fit the jobs of a work.
use Rattle.std.specs.Prelude.{ℕ, ◌≡◌, List, [], All, length}
use Rattle.sc_lineage.specs.ScriptData.{WorkData}
use Rattle.sc_ids.specs.declared.blocks.BlockId.{BlockId}
use Rattle.sc_ids.specs.declared.blocks.Loc.{Loc}
use Rattle.sc_tracker.specs.Tracking.{after_executor_lost, after_gone, registered, unregistered}
use Rattle.sc_tracker.specs.TrackerData.{ShuffleData, TrackerData, tracker_data}
use Rattle.sc_tracker.specs.declared.trust.Trust.{Trust}
use Rattle.sc_dag.specs.Openings.{FitsJob, sized_for_all}
use Rattle.sc_jobs.specs.JobData.{JobData}
use Rattle.sc_jobs.specs.Plans.{IsJobFor, maps_of}

-- a shuffle of a tracker has as many outputs as the work's shuffle has map tasks
abbrev pub HasItsMaps : WorkData → ShuffleData → Type 0
HasItsMaps work s = length s.outputs ≡ maps_of work s.shuffle

-- each shuffle that a tracker has room for has as many outputs as it has map tasks
abbrev pub FitsWork : WorkData → TrackerData → Type 0
FitsWork work t = All (HasItsMaps work) t.shuffles

-- a tracker that fits a work fits each of its jobs
abbrev pub TrackersFit : Type 0
TrackersFit =
    (work : WorkData) (job : JobData) (t : TrackerData)
    → IsJobFor work job → FitsWork work t → FitsJob t job.graph

-- a new tracker fits
abbrev pub NewTrackersFit : Type 0
NewTrackersFit =
    (work : WorkData) (trust : List Trust) (epoch : ℕ) → FitsWork work (tracker_data [] trust epoch)

-- one with room for a job fits again
abbrev pub SizedTrackersFit : Type 0
SizedTrackersFit =
    (work : WorkData) (job : JobData) (t : TrackerData)
    → IsJobFor work job → FitsWork work t → FitsWork work (sized_for_all t job.graph)

-- a tracker that fits still does when an output is registered, when outputs are forgotten, and when
-- nothing is registered any more
pub record ChangesFit (work : WorkData) (t : TrackerData) : Type 0 where
  pub output : (block : BlockId) (loc : Loc) → FitsWork work (registered t block loc)
  pub gone : (exec found : ℕ) → FitsWork work (after_gone t exec found)
  pub lost : (exec : ℕ) → FitsWork work (after_executor_lost t exec)
  pub none : FitsWork work (unregistered t)

abbrev pub ChangedTrackersFit : Type 0
ChangedTrackersFit = (work : WorkData) (t : TrackerData) → FitsWork work t → ChangesFit work t
