-- What holds of every desk holds behind each entry.
use Rattle.std.proofs.Common.{◌≡◌, ◌⊎◌, inl, inr, ℕ, ◌-◌, ◌<◌, ◌≤◌, All, Bool, true, false, cond, List, [], ◌∷◌, filter, length, map, nat_le, Some, None, IfSome, is_some, slice_get, refl, ap, sym, subst, ◌∙◌, arith, true≢false}
use Rattle.std.proofs.lemmas.Bool.{cases_eq}
use Rattle.std.proofs.lemmas.Bool.Decides.{nat_tests}
use Rattle.sc_base.specs.Lists.{at_or}
use Rattle.sc_ids.specs.Changes.{change_at}
use Rattle.sc_ids.specs.Graphs.{StageData}
use Rattle.sc_ids.specs.declared.attempts.AttemptId.{AttemptId}
use Rattle.sc_ids.specs.declared.attempts.Mark.{Mark}
use Rattle.sc_ids.specs.declared.blocks.Target.{Target}
use Rattle.sc_ids.specs.declared.blocks.Target.TheVariants as targets
use Rattle.sc_ids.proofs.ChangeLemmas.{at_or_change_other, at_or_change_same, length_change_at}
use Rattle.sc_lineage.specs.ScriptData.{WorkData}
use Rattle.sc_compute.specs.declared.results.TaskResult.{TaskResult}
use Rattle.sc_dag.specs.DagData.{DagData, no_stage, stage_at}
use Rattle.sc_dag.specs.Openings.{AreNumbered}
use Rattle.sc_dag.specs.Outputs.{is_done, is_done_by, results_in}
use Rattle.sc_dag.specs.Submission.{is_map}
use Rattle.sc_plan.specs.Orders.{Due, due_count, wipes_of}
use Rattle.sc_core.specs.CoreData.{CoreData, job_runs, result_stage}
use Rattle.sc_core.specs.Journals.{Replays, entry}
use Rattle.sc_core.specs.Sound.{IsSoundCore}
use Rattle.sc_core.specs.declared.answers.Answer.{Answer}
use Rattle.sc_core.specs.declared.events.Event.{Event}
use Rattle.sc_jobs.specs.Fitting.{FitsWork}
use Rattle.sc_jobs.specs.Plans.{maps_of}
use Rattle.sc_desk.specs.DeskData.{DeskData, core_of}
use Rattle.sc_net.specs.declared.findings.Finding.{Finding}
use Rattle.sc_net.specs.declared.findings.Finding.TheVariants as findings
use Rattle.sc_desk.specs.Dues.{IsInTime, wipes_due}
use Rattle.sc_desk.specs.Entries.{Enters}
use Rattle.sc_desk.specs.Shelves.{IsShelvedOf, as_shelved}
use Rattle.sc_desk.specs.Sound.{IsEvident, IsResult, IsSeenDue, IsSoundDesk, has_result, result_at, result_count}
use Rattle.sc_desk.proofs.EvidenceLemmas.{IsAllEvident, evident_more}
use Rattle.sc_desk.proofs.PassLemmas.{Passes}
use Rattle.sc_desk.proofs.RoomLemmas.{rooms_hold}
use Rattle.sc_desk.proofs.DagLemmas.{Leaves, SameJob}
use Rattle.sc_desk.proofs.StepLemmas.{Wins}

-- ---- results in the core

-- of a stage of results the results alone tell what is done
pub done_is :
    (d : DagData) (s p : ℕ) → is_map (stage_at d s).target ≡ false
    → is_done d s p ≡ at_or (results_in (slice_get d.states s)) p false
done_is d s p kind = by (stage_at d s).target kind
  where
    by : (target : Target) → is_map target ≡ false
        → is_done_by d.tracker target (results_in (slice_get d.states s)) p
        ≡ at_or (results_in (slice_get d.states s)) p false
    by (targets.Map shuffle) k = absurd (true≢false k)
    by (targets.Result node) k = refl

-- the result stage stays the same, and so does its kind
same_last : (d after : DagData) → after.stages ≡ d.stages → result_stage after ≡ result_stage d
same_last d after stages = ap (λ (all : List StageData). length all - 1) stages

same_stage : (d after : DagData) (s : ℕ) → after.stages ≡ d.stages
    → stage_at after s ≡ stage_at d s
same_stage d after s stages = ap (λ (all : List StageData). at_or all s no_stage) stages

same_count : (d after : DagData) → after.stages ≡ d.stages → result_count after ≡ result_count d
same_count d after stages =
    ap (λ s. (stage_at after s).tasks) (same_last d after stages)
    ∙ ap (λ (x : StageData). x.tasks) (same_stage d after (result_stage d) stages)

-- what the core has of results is told by those of its result stage
results_tell :
    (d after : DagData) (p : ℕ) → after.stages ≡ d.stages
    → is_map (stage_at d (result_stage d)).target ≡ false
    → has_result after p ≡ at_or (results_in (slice_get after.states (result_stage d))) p false
results_tell d after p stages kind =
    ap (λ s. is_done after s p) (same_last d after stages)
    ∙ done_is after (result_stage d) p
    (ap (λ (x : StageData). is_map x.target) (same_stage d after (result_stage d) stages) ∙ kind)

-- ---- what is due

-- no fewer are due later
due_more : (dues : List Due) (told more : ℕ) → told ≤ more
    → due_count dues told ≤ due_count dues more
due_more [] told more le = omega arith
due_more (due ∷ dues) told more le =
    by (nat_le due.0 told) (nat_le due.0 more) refl refl (due_more dues told more le)
  where
    by : (x y : Bool) → nat_le due.0 told ≡ x → nat_le due.0 more ≡ y
        → due_count dues told ≤ due_count dues more
        → length (cond x (due ∷ filter (λ d. nat_le d.0 told) dues)
        (filter (λ d. nat_le d.0 told) dues))
        ≤ length (cond y (due ∷ filter (λ d. nat_le d.0 more) dues)
        (filter (λ d. nat_le d.0 more) dues))
    by true true e f rest = omega (arith, rest)
    by true false e f rest = absurd (grind (arith, nat_tests, e, f, le))
    by false true e f rest = omega (arith, rest)
    by false false e f rest = rest

pub wipes_more : (work : WorkData) (told more exec : ℕ) → told ≤ more
    → wipes_due work told exec ≤ wipes_due work more exec
wipes_more work told more exec le = due_more (wipes_of work.plan exec) told more le

-- what is in time stays so
pub in_time_later : (work : WorkData) (told more : ℕ) (finding : Finding) → told ≤ more
    → IsInTime work told finding → IsInTime work more finding
in_time_later work told more (findings.Map loc) le h = tt
in_time_later work told more (findings.Result given) le h = tt
in_time_later work told more findings.Planned le h = tt
in_time_later work told more (findings.Raised r) le h = tt
in_time_later work told more (findings.Gone exec wanted found) le h =
    let later = wipes_more work told more exec le in omega (arith, h, later)
in_time_later work told more (findings.Metadata last) le h = tt
in_time_later work told more (findings.Device fault) le h = tt
in_time_later work told more findings.Denied le h = tt

-- how many wipes of each executor are due
abbrev pub bound_of : WorkData → CoreData → ℕ → ℕ
bound_of work c exec = wipes_due work c.told exec

-- ---- entries

-- one entry, with what it tells of the core
pub record Entered (work : WorkData) (d : DeskData) (by : Mark) (event : Event) (answer : Answer)
    (after : DeskData) : Type 0 where
  pub sound : IsSoundDesk work d
  pub core : IsSoundCore (core_of d)
  pub replays : Replays d.journal.opening d.journal.entries (core_of d)
  pub enters : Enters d by event answer after
  pub passes : Passes (bound_of work (core_of d)) (core_of d) (core_of after)
  pub evident : IsEvident work d.job (core_of d) event answer

-- what is kept of the reports on the shelf
pub record KeepsShelf (work : WorkData) (d after : DeskData) : Type 0 where
  pub tie : map as_shelved after.shelf ≡ (core_of after).shelf
  pub shelved : All (IsShelvedOf work d.job) after.shelf
  pub in_time : All (λ s. IsInTime work (core_of after).told s.report.finding) after.shelf
  pub over : job_runs (core_of after) ≡ false → after.shelf ≡ []

-- all but the results and the shelf, where the stages of the core stay
record KeepsRest (work : WorkData) (d after : DeskData) : Type 0 where
  stages : AreNumbered after.job.graph (core_of after).dag.stages
  limits : (core_of after).dag.limits ≡ work.limits
  plan : (core_of after).plan ≡ work.plan
  execs : length (core_of after).dag.tracker.trust ≡ work.limits.executors
  count : result_count (core_of after).dag ≡ result_count (core_of d).dag
  seen : IsSeenDue work (core_of after)
  evidence : IsAllEvident work after.job after.journal.opening after.journal.entries
      (core_of after)
  fits : FitsWork work (core_of after).dag.tracker

keeps_rest :
    (work : WorkData) (d after : DeskData) (by : Mark) (event : Event) (answer : Answer)
    → Entered work d by event answer after → SameJob (core_of d).dag (core_of after).dag
    → KeepsRest work d after
keeps_rest work d after by event answer e same =
    record {
      stages = rw (e.enters.job, same.stages) e.sound.stages;
      limits = same.limits ∙ e.sound.limits;
      plan = e.passes.plan ∙ e.sound.plan;
      execs = e.passes.sees.execs ∙ e.sound.execs;
      count = same_count (core_of d).dag (core_of after).dag same.stages;
      seen = seen;
      evidence = rw (e.enters.job, e.enters.opening, e.enters.entries)
          (evident_more work d.job d.journal.opening (core_of d) (core_of after) d.journal.entries
          (entry by event answer) e.sound.began e.replays e.sound.evidence e.evident);
      fits = rooms_hold (λ r. r.1 ≡ maps_of work r.0) (core_of d).dag.tracker
          (core_of after).dag.tracker same.rooms e.sound.fits;
    }
  where
    seen : IsSeenDue work (core_of after)
    seen exec =
        let now = e.passes.sees.within e.sound.seen exec in
        let later = wipes_more work (core_of d).told (core_of after).told exec e.passes.told in
        omega (arith, now, later)

-- a desk with other results, of which what is kept is known
with_results :
    (work : WorkData) (d after : DeskData) (by : Mark) (event : Event) (answer : Answer)
    → Entered work d by event answer after → KeepsRest work d after → KeepsShelf work d after
    → length after.results ≡ length d.results
    → ((p : ℕ) → is_some (result_at after.results p) ≡ has_result (core_of after).dag p)
    → ((p : ℕ) → IfSome (result_at after.results p) (IsResult work d.job p))
    → IsSoundDesk work after
with_results work d after by event answer e rest shelf long won own =
    record {
      last = e.sound.last;
      opened = rw (e.enters.job, e.enters.opening) e.sound.opened;
      began = rw e.enters.opening e.sound.began;
      stages = rest.stages;
      limits = rest.limits;
      plan = rest.plan;
      execs = rest.execs;
      places = long ∙ e.sound.places ∙ sym rest.count;
      won = won;
      own = rw e.enters.job own;
      shelf = shelf.tie;
      shelved = rw e.enters.job shelf.shelved;
      over = shelf.over;
      seen = rest.seen;
      in_time = shelf.in_time;
      evidence = rest.evidence;
      carried = rw e.enters.carried e.sound.carried;
      bounds = rw e.enters.carried e.sound.bounds;
      fits = rest.fits;
      many = rw e.enters.ordered e.sound.many;
    }

-- an entry that wins no result
pub leaves_keep :
    (work : WorkData) (d after : DeskData) (by : Mark) (event : Event) (answer : Answer)
    → Entered work d by event answer after → Leaves (core_of d).dag (core_of after).dag
    → KeepsShelf work d after → after.results ≡ d.results → IsSoundDesk work after
leaves_keep work d after by event answer e leaves shelf same =
    with_results work d after by event answer e
    (keeps_rest work d after by event answer e leaves.job) shelf (ap length same) won
    (rw same e.sound.own)
  where
    a : DagData
    a = (core_of d).dag

    b : DagData
    b = (core_of after).dag

    won : (p : ℕ) → is_some (result_at after.results p) ≡ has_result (core_of after).dag p
    won p =
        ap (λ rs. is_some (result_at rs p)) same ∙ e.sound.won p
        ∙ done_is a (result_stage a) p e.core.job.result
        ∙ ap (λ rs. at_or rs p false) (sym (leaves.results (result_stage a)))
        ∙ sym (results_tell a b p leaves.job.stages e.core.job.result)

-- an entry that wins one, which is kept
pub wins_keep :
    (work : WorkData) (d after : DeskData) (by : Mark) (event : Event) (answer : Answer)
    (at : AttemptId) (given : TaskResult)
    → Entered work d by event answer after → at.stage ≡ result_stage (core_of d).dag
    → at.partition < (stage_at (core_of d).dag at.stage).tasks
    → Wins (core_of d).dag at (core_of after).dag → KeepsShelf work d after
    → IsResult work d.job at.partition given
    → after.results ≡ change_at d.results at.partition (λ _. Some given)
    → IsSoundDesk work after
wins_keep work d after by event answer at given entered stage within wins shelf is same =
    with_results work d after by event answer entered
    (keeps_rest work d after by event answer entered wins.job) shelf
    (ap length same ∙ length_change_at d.results at.partition (λ _. Some given))
    (λ p. won p (cases_eq at.partition p)) (λ p. own p (cases_eq at.partition p))
  where
    a : DagData
    a = (core_of d).dag

    b : DagData
    b = (core_of after).dag

    last : ℕ
    last = result_stage (core_of d).dag

    before : List Bool
    before = results_in (slice_get (core_of d).dag.states (result_stage (core_of d).dag))

    now : results_in (slice_get (core_of after).dag.states (result_stage (core_of d).dag))
        ≡ change_at (results_in (slice_get (core_of d).dag.states (result_stage (core_of d).dag)))
        at.partition (λ _. true)
    now =
        subst (λ (s : ℕ). results_in (slice_get (core_of after).dag.states s)
        ≡ change_at (results_in (slice_get (core_of d).dag.states s)) at.partition (λ _. true))
        stage wins.results

    below : at.partition < result_count (core_of d).dag
    below = subst (λ (s : ℕ). at.partition < (stage_at (core_of d).dag s).tasks) stage within

    there : at.partition < length before
    there =
        let long : length before ≡ result_count (core_of d).dag =
        rw entered.core.job.result
        at (entered.core.job.dag.results (result_stage (core_of d).dag)) in
        omega (arith, below, long)

    room : at.partition < length d.results
    room = omega (arith, below, entered.sound.places)

    tells : (p : ℕ) → has_result (core_of after).dag p
        ≡ at_or (change_at before at.partition (λ _. true)) p false
    tells p =
        results_tell (core_of d).dag (core_of after).dag p wins.job.stages entered.core.job.result
        ∙ ap (λ rs. at_or rs p false) now

    won : (p : ℕ) → (at.partition ≡ p) ⊎ (at.partition ≡ p → ⊥)
        → is_some (result_at after.results p) ≡ has_result (core_of after).dag p
    won p (inl e) =
        subst (λ (q : ℕ). is_some (result_at after.results q) ≡ has_result (core_of after).dag q) e
        (ap (λ rs. is_some (result_at rs at.partition)) same
        ∙ ap (λ o. is_some o) (at_or_change_same d.results at.partition None (λ _. Some given) room)
        ∙ sym (at_or_change_same before at.partition false (λ _. true) there)
        ∙ sym (tells at.partition))
    won p (inr ne) =
        ap (λ rs. is_some (result_at rs p)) same
        ∙ ap (λ o. is_some o)
        (at_or_change_other d.results at.partition p None (λ _. Some given) (λ e. ne (sym e)))
        ∙ entered.sound.won p
        ∙ done_is (core_of d).dag (result_stage (core_of d).dag) p entered.core.job.result
        ∙ sym (at_or_change_other before at.partition p false (λ _. true) (λ e. ne (sym e)))
        ∙ sym (tells p)

    own : (p : ℕ) → (at.partition ≡ p) ⊎ (at.partition ≡ p → ⊥)
        → IfSome (result_at after.results p) (IsResult work d.job p)
    own p (inl e) =
        subst (λ (q : ℕ). IfSome (result_at after.results q) (IsResult work d.job q)) e
        (rw (same, at_or_change_same d.results at.partition None (λ _. Some given) room) is)
    own p (inr ne) =
        rw (
          same,
          at_or_change_other d.results at.partition p None (λ _. Some given) (λ e. ne (sym e)),
        ) (entered.sound.own p)
