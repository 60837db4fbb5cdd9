-- What holds of every desk holds where its job begins.
use Rattle.std.proofs.Common.{◌≡◌, ℕ, zero, suc, ◌+◌, ◌≤◌, Bool, true, false, if◌then◌else◌, List, [], ◌∷◌, length, map, arith, Option, Some, None, IfSome, is_some, replicate, slice_get, refl, ap, sym, subst, ◌∙◌}
use Rattle.std.specs.Option.{option_map}
use Rattle.std.proofs.lemmas.List.Elements.{All-nil}
use Rattle.std.proofs.lemmas.List.{length-replicate}
use Rattle.sc_base.specs.Lists.{at_or}
use Rattle.sc_compute.specs.declared.results.TaskResult.{TaskResult}
use Rattle.sc_ids.specs.Graphs.{StageData}
use Rattle.sc_ids.specs.declared.limits.Limits.{Limits}
use Rattle.sc_lineage.specs.ScriptData.{WorkData}
use Rattle.sc_stagecut.specs.Carrying.{AreRightBounds, IsCarriedFor}
use Rattle.sc_ids.specs.declared.blocks.Target.{Target}
use Rattle.sc_ids.specs.declared.blocks.Target.TheVariants as targets
use Rattle.sc_tracker.specs.TrackerData.{TrackerData, trust_of}
use Rattle.sc_tracker.specs.Tracking.{has_room}
use Rattle.sc_tracker.specs.Trust.{untold}
use Rattle.sc_dag.specs.DagData.{DagData, StageState}
use Rattle.sc_dag.specs.Openings.{FitsJob, blank_states, sized_by, sized_for_all}
use Rattle.sc_dag.specs.Outputs.{results_in}
use Rattle.sc_dag.specs.Submission.{is_map, this_stage}
use Rattle.sc_core.specs.CoreData.{CoreData, result_stage}
use Rattle.sc_core.specs.Openings.{IsOpening, plan_behind, told_before, tracker_behind}
use Rattle.sc_core.specs.Sound.{IsSoundCore, LeavesWell}
use Rattle.sc_core.proofs.MoveLemmas.{Calm}
use Rattle.sc_core.proofs.StageCallLemmas.{submitted_calm, submitted_results}
use Rattle.sc_history.proofs.OpeningLemmas.{openings_agree}
use Rattle.sc_jobs.specs.Fitting.{FitsWork}
use Rattle.sc_jobs.specs.JobData.{JobData, saves}
use Rattle.sc_jobs.specs.Plans.{IsJobFor}
use Rattle.sc_jobs.proofs.TrackerLemmas.{new_trackers_fit, sized_trackers_fit, trackers_fit}
use Rattle.sc_desk.specs.Begins.{FitsLast, IsFresh}
use Rattle.sc_desk.specs.DeskData.{DeskData, core_of}
use Rattle.sc_desk.specs.Sound.{IsResult, IsSeenDue, IsSoundDesk, has_result, result_at, result_count}
use Rattle.sc_net.specs.Reports.{ReportData}
use Rattle.sc_net.specs.declared.shelved.ShelvedReport.{ShelvedReport}
use Rattle.sc_desk.specs.Dues.{IsInTime, wipes_due}
use Rattle.sc_desk.specs.Shelves.{IsShelvedOf, as_shelved}
use Rattle.sc_desk.proofs.TrackLemmas.{submitted_trust}
use Rattle.sc_desk.proofs.KeepLemmas.{done_is}
use Rattle.sc_desk.proofs.RoomLemmas.{rooms_hold, submitted_rooms}
use Rattle.sc_jobs.specs.Plans as plans

-- the tracker behind which a job begins fits the work
pub fits_behind :
    (work : WorkData) (limits : Limits) (last : Option CoreData) → FitsLast work last
    → FitsWork work (tracker_behind last limits)
fits_behind work limits None fits =
    new_trackers_fit work (replicate limits.executors untold) 0
fits_behind work limits (Some last) fits = fits.tracker

-- its plan is that of the work
plan_of :
    (work : WorkData) (last : Option CoreData) → FitsLast work last
    → plan_behind last work.plan ≡ work.plan
plan_of work None fits = refl
plan_of work (Some last) fits = fits.plan

-- it has the executors of the work
execs_of :
    (work : WorkData) (last : Option CoreData) → FitsLast work last
    → length (tracker_behind last work.limits).trust ≡ work.limits.executors
execs_of work None fits = length-replicate work.limits.executors untold
execs_of work (Some last) fits = fits.execs

none_seen : (n exec : ℕ) → (at_or (replicate n untold) exec untold).seen ≡ 0
none_seen zero exec = refl
none_seen (suc n) zero = refl
none_seen (suc n) (suc exec) = none_seen n exec

-- and no generation was seen that no wipe has brought
seen_of :
    (work : WorkData) (last : Option CoreData) → FitsLast work last → (exec : ℕ)
    → (trust_of (tracker_behind last work.limits) exec).seen
    ≤ wipes_due work (told_before last) exec
seen_of work None fits exec = let none = none_seen work.limits.executors exec in omega (arith, none)
seen_of work (Some last) fits exec = fits.seen exec

pub fits_job :
    (work : WorkData) (limits : Limits) (job : JobData) (last : Option CoreData)
    → IsJobFor work job → FitsLast work last
    → FitsJob (tracker_behind last limits) job.graph
fits_job work limits job last is fits =
    trackers_fit work job (tracker_behind last limits) is (fits_behind work limits last fits)

-- two cores of one opening are one
pub opened_alike :
    (work : WorkData) (limits : Limits) (job : JobData) (saving : Bool) (last : Option CoreData)
    (x y : CoreData) → IsJobFor work job → FitsLast work last → IfSome last LeavesWell
    → IsOpening job.graph limits saving work.plan last x
    → IsOpening job.graph limits saving work.plan last y → x ≡ y
opened_alike work limits job saving last x y is fits sound a b =
    openings_agree job.graph limits saving work.plan last x y is.job
    (fits_job work limits job last is fits) sound a b

-- room for outputs changes nothing in who was heard of
sized_trust : (t : TrackerData) (graph : List StageData)
    → (sized_for_all t graph).trust ≡ t.trust
sized_trust t [] = refl
sized_trust t (stage ∷ graph) = sized_trust (sized_by t stage) graph ∙ by stage.target
  where
    room : (b : Bool) (u : TrackerData) → u.trust ≡ t.trust
        → (if b then t else u).trust ≡ t.trust
    room true u same = refl
    room false u same = same

    by : (target : Target) → (sized_by t (record stage { target = target })).trust ≡ t.trust
    by (targets.Map shuffle) = room (has_room t shuffle) _ refl
    by (targets.Result node) = refl

-- ---- nothing is there

abbrev nothing : Option TaskResult
nothing = None

nothing_at : (n p : ℕ) → is_some (at_or (replicate n nothing) p None) ≡ false
nothing_at zero p = refl
nothing_at (suc n) zero = refl
nothing_at (suc n) (suc p) = nothing_at n p

false_at : (n p : ℕ) → at_or (replicate n false) p false ≡ false
false_at zero p = refl
false_at (suc n) zero = refl
false_at (suc n) (suc p) = false_at n p

none_of : (work : WorkData) (job : JobData) (n p : ℕ)
    → IfSome (at_or (replicate n nothing) p None) (IsResult work job p)
none_of work job n p = by n p
  where
    by : (n q : ℕ)
        → IfSome (at_or (replicate n nothing) q None) (IsResult work job p)
    by zero q = tt
    by (suc n) zero = tt
    by (suc n) (suc q) = by n q

-- a stage that nothing was done for has no result
blank_at : (last : Option DagData) (n : ℕ) (stages : List StageData) (s p : ℕ)
    → at_or (results_in (slice_get (blank_states last n stages) s)) p false ≡ false
blank_at last n [] s p = refl
blank_at last n (stage ∷ stages) zero p =
    false_at (if is_map stage.target then 0 else stage.tasks) p
blank_at last n (stage ∷ stages) (suc s) p = blank_at last (n + 1) stages s p

-- ---- the desk

pub fresh_sound :
    (work : WorkData) (d : DeskData) (last : Option CoreData)
    → IsJobFor work d.job → FitsLast work last → IsSoundCore (core_of d)
    → IsFresh d.job.graph work.limits (saves work d.job.goal) work.plan last d.journal
    → d.results ≡ replicate (result_count (core_of d).dag) None
    → d.shelf ≡ [] → IsCarriedFor work.script.nodes d.carried → AreRightBounds work d.carried
    → length d.ordered ≡ work.limits.executors → IsSoundDesk work d
fresh_sound work d last is fits core fresh results shelf carried right many =
    record {
      last = last;
      opened = fresh.opening_is;
      began = subst IsSoundCore fresh.core_is core;
      stages = rw (fresh.core_is, calm.stages) opens.opens.numbered;
      limits = ap (λ (c : CoreData). c.dag.limits) fresh.core_is ∙ calm.limits ∙ opens.limits_are;
      plan = ap (λ (c : CoreData). c.plan) fresh.core_is ∙ opens.plan_is ∙ plan_of work last fits;
      execs = ap length trust ∙ execs_of work last fits;
      places = ap length results ∙ length-replicate (result_count (core_of d).dag) None;
      won = won;
      own = rw results (none_of work d.job (result_count (core_of d).dag));
      shelf = ap (λ ss. map as_shelved ss) shelf
          ∙ sym (ap (λ (c : CoreData). c.shelf) fresh.core_is ∙ opens.shelf);
      shelved = rw shelf (All-nil (IsShelvedOf work d.job));
      over = λ h. shelf;
      seen = seen;
      in_time = rw shelf (All-nil (λ (s : ShelvedReport ReportData).
          IsInTime work (core_of d).told s.report.finding));
      evidence = rw fresh.none (λ is. tt);
      carried = carried;
      bounds = right;
      fits = fitting;
      many = many;
    }
  where
    opens : IsOpening d.job.graph work.limits (saves work d.job.goal) work.plan last
        d.journal.opening
    opens = fresh.opening_is

    trust : (core_of d).dag.tracker.trust ≡ (tracker_behind last work.limits).trust
    trust =
        ap (λ (c : CoreData). c.dag.tracker.trust) fresh.core_is
        ∙ submitted_trust opens.dag d.journal.opening.dag (this_stage (result_stage opens.dag))
        opens.submits
        ∙ ap (λ (t : TrackerData). t.trust) opens.opens.tracker
        ∙ sized_trust (tracker_behind last work.limits) d.job.graph

    seen : IsSeenDue work (core_of d)
    seen exec =
        let told : (core_of d).told ≡ told_before last =
        ap (λ (c : CoreData). c.told) fresh.core_is ∙ opens.told in
        subst (λ (n : ℕ). (trust_of (core_of d).dag.tracker exec).seen ≤ wipes_due work n exec)
        (sym told)
        (subst (λ ts. (at_or ts exec untold).seen ≤ wipes_due work (told_before last) exec)
        (sym trust) (seen_of work last fits exec))

    calm : Calm opens.dag d.journal.opening.dag
    calm =
        submitted_calm opens.dag d.journal.opening.dag (this_stage (result_stage opens.dag))
        opens.submits

    blank : (s p : ℕ)
        → at_or (results_in (slice_get d.journal.opening.dag.states s)) p false ≡ false
    blank s p =
        ap (λ rs. at_or rs p false)
        (submitted_results opens.dag d.journal.opening.dag (this_stage (result_stage opens.dag))
        opens.submits s)
        ∙ ap (λ (states : List StageState). at_or (results_in (slice_get states s)) p false)
        opens.opens.states
        ∙ blank_at (option_map (λ l. l.dag) last) 0 opens.dag.stages s p

    won : (p : ℕ) → is_some (result_at d.results p) ≡ has_result (core_of d).dag p
    won p =
        ap (λ rs. is_some (result_at rs p)) results
        ∙ nothing_at (result_count (core_of d).dag) p
        ∙ sym (done_is (core_of d).dag (result_stage (core_of d).dag) p core.job.result
        ∙ ap (λ (c : CoreData).
        at_or (results_in (slice_get c.dag.states (result_stage (core_of d).dag))) p false)
        fresh.core_is
        ∙ blank (result_stage (core_of d).dag) p)

    sized : FitsWork work opens.dag.tracker
    sized =
        rw opens.opens.tracker
        (sized_trackers_fit work d.job (tracker_behind last work.limits) is
        (fits_behind work work.limits last fits))

    fitting : FitsWork work (core_of d).dag.tracker
    fitting =
        rw fresh.core_is
        (rooms_hold (λ r. r.1 ≡ plans.maps_of work r.0) opens.dag.tracker
        d.journal.opening.dag.tracker
        (submitted_rooms opens.dag d.journal.opening.dag (this_stage (result_stage opens.dag))
        opens.submits) sized)
