-- Stores that are ready for the job behind another one.
use Rattle.std.proofs.Common.{◌≡◌, ◌∙◌, ℕ, zero, suc, ◌≤◌, Bool, true, false, if◌then◌else◌, List, [], ◌∷◌, ◌++◌, Option, None, IfSome, replicate, refl, ap, sym, subst}
use Rattle.sc_ids.specs.Graphs.{StageData}
use Rattle.sc_ids.specs.declared.blocks.BlockId.{BlockId}
use Rattle.sc_ids.specs.declared.blocks.Loc.{Loc}
use Rattle.sc_ids.specs.declared.blocks.ShuffleId.{ShuffleId}
use Rattle.sc_ids.specs.declared.blocks.Target.{Target}
use Rattle.sc_ids.specs.declared.blocks.Target.TheVariants as targets
use Rattle.sc_ids.specs.declared.limits.Limits.{Limits}
use Rattle.sc_lineage.specs.ScriptData.{WorkData}
use Rattle.sc_plan.specs.declared.lines.PlanLine.{PlanLine}
use Rattle.sc_tracker.specs.Outputs.{never, output_in}
use Rattle.sc_tracker.specs.TrackerData.{ShuffleData, TrackerData, is_of, output_of, output_under, shuffle_data, tracker_data}
use Rattle.sc_tracker.specs.Tracking.{has_room}
use Rattle.sc_tracker.specs.Trust.{trust_at}
use Rattle.sc_tracker.proofs.BlockLemmas.{under_behind, under_here}
use Rattle.sc_dag.specs.DagData.{DagData}
use Rattle.sc_dag.specs.Openings.{sized_by, sized_for_all}
use Rattle.sc_dag.specs.Submission.{IsSubmitted}
use Rattle.sc_core.specs.CoreData.{CoreData}
use Rattle.sc_core.specs.Openings.{IsOpening, told_before, tracker_behind}
use Rattle.sc_jobs.specs.JobData.{saves}
use Rattle.sc_jobs.specs.declared.goals.Goal.{Goal}
use Rattle.sc_store.specs.StoreData.{StoreData}
use Rattle.sc_desk.specs.Begins.{Begins}
use Rattle.sc_desk.specs.DeskData.{DeskData, PassedData, core_of}
use Rattle.sc_desk.specs.Dues.{wipes_due}
use Rattle.sc_world.specs.Runs.{AreReady}
use Rattle.sc_world.specs.Ties.{AreTied, StandsAt, generation_at}
use Rattle.sc_context.specs.Starts.{IsUnregistered}

-- ---- room for more outputs

-- What holds of where outputs were last, and of none.
module _ (P : Option Loc → Type 0) (none : P None) where
  -- room for one more shuffle, with no output registered
  under_more : (xs : List ShuffleData) (y : ShuffleData) (b : BlockId)
      → ((m : ℕ) → P (output_in y.outputs m).last) → P (output_under xs b).last
      → P (output_under (xs ++ y ∷ []) b).last
  under_more [] y b each h = by (is_of b.shuffle y) refl
    where
      by : (t : Bool) → is_of b.shuffle y ≡ t → P (output_under (y ∷ []) b).last
      by true e =
          subst (λ os. P (output_in os b.map).last) (sym (under_here y [] b.shuffle e)) (each b.map)
      by false e =
          subst (λ os. P (output_in os b.map).last) (sym (under_behind y [] b.shuffle e)) h
  under_more (x ∷ xs) y b each h =
      by (is_of b.shuffle x) refl (λ k. under_more xs y b each k)
    where
      by : (t : Bool) → is_of b.shuffle x ≡ t
          → (P (output_under xs b).last → P (output_under (xs ++ y ∷ []) b).last)
          → P (output_under (x ∷ (xs ++ y ∷ [])) b).last
      by true e more =
          subst (λ os. P (output_in os b.map).last)
          (under_here x xs b.shuffle e ∙ sym (under_here x (xs ++ y ∷ []) b.shuffle e)) h
      by false e more =
          subst (λ os. P (output_in os b.map).last)
          (sym (under_behind x (xs ++ y ∷ []) b.shuffle e))
          (more (subst (λ os. P (output_in os b.map).last) (under_behind x xs b.shuffle e) h))

  never_each : (n m : ℕ) → P (output_in (replicate n never) m).last
  never_each zero m = none
  never_each (suc n) zero = none
  never_each (suc n) (suc m) = never_each n m

  -- room for a stage
  sized_last : (t : TrackerData) (stage : StageData) (b : BlockId) → P (output_of t b).last
      → P (output_of (sized_by t stage) b).last
  sized_last t stage b h = by stage.target
    where
      more : (shuffle : ShuffleId) (made : Bool)
          → P (output_of (if made then t
          else tracker_data (t.shuffles ++ shuffle_data shuffle (replicate stage.tasks never) ∷ [])
          t.trust t.epoch) b).last
      more shuffle true = h
      more shuffle false =
          under_more t.shuffles (shuffle_data shuffle (replicate stage.tasks never)) b
          (never_each stage.tasks) h

      by : (target : Target)
          → P (output_of (sized_by t (record stage { target = target })) b).last
      by (targets.Map shuffle) = more shuffle (has_room t shuffle)
      by (targets.Result node) = h

  -- and for all of them
  sized_all_last : (t : TrackerData) (graph : List StageData) (b : BlockId)
      → P (output_of t b).last → P (output_of (sized_for_all t graph) b).last
  sized_all_last t [] b h = h
  sized_all_last t (stage ∷ graph) b h =
      sized_all_last (sized_by t stage) graph b (sized_last t stage b h)

-- what was heard of executors stays
sized_trust : (t : TrackerData) (stage : StageData) → (sized_by t stage).trust ≡ t.trust
sized_trust t stage = by stage.target
  where
    more : (shuffle : ShuffleId) (made : Bool)
        → (if made then t
        else tracker_data (t.shuffles ++ shuffle_data shuffle (replicate stage.tasks never) ∷ [])
        t.trust t.epoch).trust ≡ t.trust
    more shuffle true = refl
    more shuffle false = refl

    by : (target : Target) → (sized_by t (record stage { target = target })).trust ≡ t.trust
    by (targets.Map shuffle) = more shuffle (has_room t shuffle)
    by (targets.Result node) = refl

pub sized_all_trust : (t : TrackerData) (graph : List StageData)
    → (sized_for_all t graph).trust ≡ t.trust
sized_all_trust t [] = refl
sized_all_trust t (stage ∷ graph) =
    sized_all_trust (sized_by t stage) graph ∙ sized_trust t stage

-- so what a tracker knows stays so
sized_tied : (stores : List StoreData) (t : TrackerData) (graph : List StageData)
    → AreTied stores t → AreTied stores (sized_for_all t graph)
sized_tied stores t graph tied =
    record {
      last = λ b. sized_all_last (λ o. IfSome o (StandsAt stores b)) tt t graph b (tied.last b);
      seen = λ exec. subst (λ trust. (trust_at trust exec).seen ≤ generation_at stores exec)
          (sym (sized_all_trust t graph)) (tied.seen exec);
    }

-- ---- jobs that begin

submitted_tracker : (d after : DagData) (submitted : ℕ → Bool) → IsSubmitted d submitted after
    → after.tracker ≡ d.tracker
submitted_tracker d after submitted (looked, are, is) = ap (λ (x : DagData). x.tracker) is

pub opened_tracker : (graph : List StageData) (limits : Limits) (saved : Bool)
    (plan : List PlanLine) (last : Option CoreData) (c : CoreData)
    → IsOpening graph limits saved plan last c
    → c.dag.tracker ≡ sized_for_all (tracker_behind last limits) graph
opened_tracker graph limits saved plan last c opening =
    submitted_tracker opening.dag c.dag _ opening.submits ∙ opening.opens.tracker

-- where the tracker had no shuffles, a job begins with a desk that knows of no place
pub begun_unregistered : (work : WorkData) (passed : PassedData) (last : Option CoreData)
    (goal : Goal) (desk : DeskData) → (tracker_behind last work.limits).shuffles ≡ []
    → Begins work passed last goal desk → IsUnregistered desk
begun_unregistered work passed last goal desk none begins b =
    subst (λ (t : TrackerData). (output_of t b).last ≡ None) (sym is)
    (sized_all_last (λ o. o ≡ None) refl (tracker_behind last work.limits) desk.job.graph b
    (ap (λ ss. (output_under ss b).last) none))
  where
    is : (core_of desk).dag.tracker
        ≡ sized_for_all (tracker_behind last work.limits) desk.job.graph
    is =
        ap (λ (c : CoreData). c.dag.tracker) begins.core
        ∙ opened_tracker desk.job.graph work.limits (saves work goal) work.plan last
        desk.journal.opening begins.opening

-- the stores are ready for the job behind a core or none
abbrev pub AreReadyBehind : WorkData → List StoreData → Option CoreData → Type 0
AreReadyBehind work stores last =
    AreReady work stores (tracker_behind last work.limits) (told_before last)

-- and so they are ready for the job that begins there
pub ready_opening : (work : WorkData) (stores : List StoreData) (passed : PassedData)
    (last : Option CoreData) (goal : Goal) (desk : DeskData)
    → AreReadyBehind work stores last → Begins work passed last goal desk
    → AreReady work stores (core_of desk).dag.tracker (core_of desk).told
ready_opening work stores passed last goal desk ready begins =
    subst (λ (c : CoreData). AreReady work stores c.dag.tracker c.told) (sym begins.core) (record {
      many = ready.many;
      own = ready.own;
      tied = subst (AreTied stores)
          (sym (opened_tracker desk.job.graph work.limits (saves work goal) work.plan last
          desk.journal.opening begins.opening))
          (sized_tied stores (tracker_behind last work.limits) desk.job.graph ready.tied);
      due = λ exec. subst (λ told. generation_at stores exec ≤ wipes_due work told exec)
          (sym begins.opening.told) (ready.due exec);
    })
