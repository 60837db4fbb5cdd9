-- What an attempt finds that reads, and what the desk makes of a report.
use Rattle.std.proofs.Common.{◌≡◌, ◌≢◌, ℕ, zero, suc, ◌≤◌, true, List, [], ◌∷◌, Option, Some, None, IfSome, IsSomeAnd, slice_get, refl, ap, ap₂, sym, subst, ◌∙◌, arith}
use Rattle.std.specs.List.{AllZip}
use Rattle.sc_ids.specs.declared.blocks.BlockId.{BlockId}
use Rattle.sc_ids.specs.declared.blocks.Loc.{Loc}
use Rattle.sc_tracker.specs.declared.outputs.Location.{Location}
use Rattle.sc_tracker.specs.declared.outputs.Location.TheVariants as locations
use Rattle.sc_dag.specs.Openings.{AreNumbered}
use Rattle.sc_core.specs.Posts.{fits}
use Rattle.sc_lineage.specs.ScriptData.{WorkData}
use Rattle.sc_jobs.specs.JobData.{JobData, saves}
use Rattle.sc_store.specs.StoreData.{StoreData, output_in}
use Rattle.sc_net.specs.Reports.{IsTrueReport, outcome_of, report_data}
use Rattle.sc_net.specs.Tasks.{IsTaskOf, TaskData, blocks_of_task, task_data}
use Rattle.sc_net.specs.declared.findings.Finding.{Finding}
use Rattle.sc_net.specs.declared.findings.Finding.TheVariants as findings
use Rattle.sc_task.specs.Attempts.{assigned, reported, task_of}
use Rattle.sc_task.specs.Nexts.{next_at, next_of}
use Rattle.sc_desk.specs.Dues.{IsInTime, wipes_due}
use Rattle.sc_desk.specs.Posts.{IsKnown}
use Rattle.sc_world.specs.Places.{NextStands}
use Rattle.sc_world.specs.Sound.{InputStands, IsFrom, IsRight, IsSoundWorld, IsThatOf, RunsThere, Says}
use Rattle.sc_world.specs.Ties.{StandsAt, StandsIn, generation_at}
use Rattle.sc_world.specs.WorldData.{WorldData, core_in, held_at}
use Rattle.sc_world.proofs.FitLemmas.{report_fits}

-- ---- reading

next_among : (stores : List StoreData) (blocks : List BlockId) (inputs : List Location) (got : ℕ)
    → AllZip (InputStands stores) blocks inputs
    → NextStands stores (next_at (slice_get blocks got) (slice_get inputs got))
next_among stores [] inputs zero all = tt
next_among stores [] inputs (suc got) all = tt
next_among stores (b ∷ blocks) [] got all = absurd all
next_among stores (b ∷ blocks) (l ∷ inputs) zero (one, all) = by l one
  where
    by : (l : Location) → InputStands stores b l → NextStands stores (next_at (Some b) (Some l))
    by (locations.Here loc) h = h
    by (locations.Missing None) h = h
    by (locations.Missing (Some loc)) h = tt
next_among stores (b ∷ blocks) (l ∷ inputs) (suc got) (one, all) =
    next_among stores blocks inputs got all

pub next_stands : (work : WorkData) (w : WorldData) (exec : ℕ) (t : TaskData) (got : ℕ)
    → IsSoundWorld work w → held_at w exec ≡ Some (assigned t got)
    → NextStands w.stores (next_of t got)
next_stands work w exec t got sound held =
    next_among w.stores (blocks_of_task t) t.hand_out.inputs got right.inputs
  where
    right : IsRight w.stores exec (assigned t got)
    right = subst (λ o. IfSome o (IsRight w.stores exec)) held (sound.right exec)

-- the store of a location at which a block stands
pub store_there : (stores : List StoreData) (block : BlockId) (loc : Loc)
    → StandsAt stores block loc
    → (store : StoreData) × (slice_get stores loc.exec ≡ Some store)
    × (store.generation ≤ loc.generation → output_in store block ≢ None)
store_there stores block loc h = by (slice_get stores loc.exec) refl h
  where
    by : (o : Option StoreData) → slice_get stores loc.exec ≡ o
        → IsSomeAnd o (λ s. StandsIn s block loc)
        → (store : StoreData) × (slice_get stores loc.exec ≡ Some store)
        × (store.generation ≤ loc.generation → output_in store block ≢ None)
    by None e bad = absurd bad
    by (Some store) e stands = (store, e, stands.there)

-- ---- reporting

pub report_known : (work : WorkData) (w : WorldData) (exec : ℕ) (t : TaskData)
    (finding : Finding) → IsSoundWorld work w
    → AreNumbered w.desk.job.graph (core_in w).dag.stages → IsTaskOf t.job t.hand_out
    → held_at w exec ≡ Some (reported t finding) → IsTrueReport work t finding
    → IsKnown w.desk (report_data t finding)
report_known work w exec t finding sound numbered task held true_of r job found =
    record { given = given; fitting = fit }
  where
    right : IsRight w.stores exec (reported t finding)
    right = subst (λ o. IfSome o (IsRight w.stores exec)) held (sound.right exec)

    runs : RunsThere work (core_in w) exec (reported t finding)
    runs = subst (λ o. IfSome o (RunsThere work (core_in w) exec)) held (sound.runs job exec)

    one : IsThatOf work exec (reported t finding) r
    one = subst (λ o. IfSome o (IsThatOf work exec (reported t finding))) found runs

    job_is : t.job ≡ w.desk.job
    job_is = subst (λ o. IfSome o (λ a. (task_of a).job ≡ w.desk.job)) held (sound.of_job exec)

    given : t ≡ task_data w.desk.job r.hand_out
    given = ap₂ task_data job_is (sym one.same)

    fit : fits (core_in w) r (outcome_of finding) ≡ true
    fit =
        report_fits work (core_in w) r t finding
        (subst (λ j. AreNumbered j.graph (core_in w).dag.stages) (sym job_is) numbered) task
        one.same true_of (subst (λ (e : ℕ). IsFrom e finding) (sym one.on) right.brings.1)
        (sound.saving ∙ ap (λ (j : JobData). saves work j.goal) (sym job_is)) one.come

pub report_in_time : (work : WorkData) (w : WorldData) (exec : ℕ) (t : TaskData)
    (finding : Finding) → IsSoundWorld work w → held_at w exec ≡ Some (reported t finding)
    → IsInTime work (core_in w).told finding
report_in_time work w exec t finding sound held = by finding right.brings.0
  where
    right : IsRight w.stores exec (reported t finding)
    right = subst (λ o. IfSome o (IsRight w.stores exec)) held (sound.right exec)

    by : (finding : Finding) → Says w.stores t finding → IsInTime work (core_in w).told finding
    by (findings.Map loc) says = tt
    by (findings.Result given) says = tt
    by findings.Planned says = tt
    by (findings.Raised r) says = tt
    by (findings.Gone on wanted found) says =
        let le : found ≤ generation_at w.stores on = says in
        let due : generation_at w.stores on ≤ wipes_due work (core_in w).told on = sound.due on in
        omega (arith, le, due)
    by (findings.Metadata last) says = tt
    by (findings.Device fault) says = tt
    by findings.Denied says = tt
