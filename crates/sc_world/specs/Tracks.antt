-- What a told report does to what the core knows of places.
use Rattle.std.specs.Prelude.{◌≡◌, ◌⊎◌, Option, Some, None}
use Rattle.sc_ids.specs.declared.attempts.AttemptId.{AttemptId}
use Rattle.sc_ids.specs.declared.blocks.BlockId.{BlockId}
use Rattle.sc_ids.specs.declared.failures.FailureCause.TheVariants as causes
use Rattle.sc_tracker.specs.TrackerData.{TrackerData}
use Rattle.sc_tracker.specs.Tracking.{after_gone, registered}
use Rattle.sc_dag.specs.DagData.{stage_at}
use Rattle.sc_dag.specs.Reports.{block_by}
use Rattle.sc_core.specs.CoreData.{CoreData}
use Rattle.sc_core.specs.Posts.{is_save}
use Rattle.sc_core.specs.Tells.{Tells}
use Rattle.sc_core.specs.declared.answers.Answer.{Answer}
use Rattle.sc_core.specs.declared.events.Outcome.{Outcome}
use Rattle.sc_core.specs.declared.events.Outcome.TheVariants as outcomes
use Rattle.sc_core.specs.declared.running.Running.{Running}

-- the tracker learns what a report tells: where its block lies, or that a generation was found
abbrev pub Learns : TrackerData → Option BlockId → Outcome → TrackerData → Type 0
Learns t (Some block) (outcomes.Map loc) after = after ≡ registered t block loc
Learns t None (outcomes.Map loc) after = ⊥
Learns t block outcomes.Result after = ⊥
Learns t block (outcomes.Failed (causes.Gone exec wanted found)) after =
    after ≡ after_gone t exec found
Learns t block (outcomes.Failed cause) after = ⊥

-- the block of an attempt, where its stage is one of map tasks
abbrev pub own_block : CoreData → AttemptId → Option BlockId
own_block c a = block_by (stage_at c.dag a.stage).target a.partition

-- what a told report leaves of what the core knows of places, and what it doesn't touch
pub record Tracks (c : CoreData) (a : AttemptId) (outcome : Outcome) (after : CoreData) : Type 0
  where
    pub stages : after.dag.stages ≡ c.dag.stages
    pub tracker : (after.dag.tracker ≡ c.dag.tracker)
        ⊎ Learns c.dag.tracker (own_block c a) outcome after.dag.tracker
    pub stays : after.left_first ≡ c.left_first
    pub saves : is_save after.committers ≡ is_save c.committers

abbrev pub ReportsMoveTrackers : Type 0
ReportsMoveTrackers =
    (c after : CoreData) (r : Running) (outcome : Outcome) (answer : Answer)
    → Tells c r outcome answer after → Tracks c r.hand_out.attempt outcome after
