-- How many attempts a stage has, by when they began.
use Rattle.std.proofs.Common.{◌≡◌, ℕ, zero, suc, ◌+◌, ◌-◌, ◌<◌, ◌≤◌, Bool, List, [], ◌∷◌, ◌++◌, All, get_or, length, Option, Some, None, slice_get, ap, sym, subst, ◌∙◌, arith}
use Rattle.std.specs.List.{AllPairs}
use Rattle.std.proofs.lemmas.List.{length-map}
use Rattle.std.proofs.lemmas.List.Elements.{All-head, All-nil, All-weaker}
use Rattle.sc_ids.specs.Graphs.{StageData}
use Rattle.sc_ids.specs.declared.limits.Limits.{Limits}
use Rattle.sc_plan.specs.declared.lines.PlanLine.{PlanLine}
use Rattle.sc_dag.specs.Births.{births_of}
use Rattle.sc_dag.specs.DagData.{DagData, StageState}
use Rattle.sc_dag.specs.Sound.{attempts_in, attempts_of}
use Rattle.sc_dag.specs.Submission.{this_stage}
use Rattle.sc_dag.proofs.Items.{pairs_head, pairs_tail}
use Rattle.sc_core.specs.CoreData.{CoreData, result_stage}
use Rattle.sc_core.specs.Journals.{Replays}
use Rattle.sc_core.specs.Openings.{IsOpening}
use Rattle.sc_core.specs.Sound.{IsSoundCore}
use Rattle.sc_core.specs.declared.entries.Entry.{Entry}
use Rattle.sc_history.specs.Trackers.{times_forgotten}
use Rattle.sc_history.proofs.BirthLemmas.{Later, MoreIn, later_is, later_then, submitted_later}
use Rattle.sc_history.proofs.LaterLemmas.{steps_later}
use Rattle.sc_history.proofs.TrackerLemmas.{epochs_count}
use Rattle.sc_epochs.specs.Apart.{BornOrder}
use Rattle.sc_epochs.proofs.EventLemmas.{blank_opening}

-- ---- rising numbers

-- each of some rising numbers is above the first by its place at least
rising_from : (xs : List ℕ) (first : ℕ) → AllPairs (λ a b. a < b) xs → All (λ x. first ≤ x) xs
    → (i d : ℕ) → i < length xs → first + i ≤ get_or xs i d
rising_from [] first pairs above i d lt = absurd (omega (arith, lt))
rising_from (x ∷ xs) first pairs above zero d lt =
    let le = All-head (λ y. first ≤ y) x xs above in omega (arith, le)
rising_from (x ∷ xs) first pairs above (suc i) d lt =
    let le = All-head (λ y. first ≤ y) x xs above in
    let next = rising_from xs (suc first) (pairs_tail (λ a b. a < b) x xs pairs)
    (All-weaker (λ y. x < y) (λ y. suc first ≤ y) (λ y more. omega (arith, le, more)) xs
    (pairs_head (λ a b. a < b) x xs pairs)) i d (omega (arith, lt)) in
    omega (arith, next)

-- so there are no more of them than fit
few_between : (xs : List ℕ) (first last : ℕ) → AllPairs (λ a b. a < b) xs
    → All (λ x. first ≤ x) xs → All (λ x. x ≤ last) xs → length xs ≤ 1 + (last - first)
few_between [] first last pairs above below = omega arith
few_between (x ∷ xs) first last pairs above below =
    let n = length xs in
    let le = rising_from (x ∷ xs) first pairs above n 0 (omega arith) in
    let most = below n 0 (omega arith) in
    omega (arith, le, most)

-- ---- attempts of a stage

attempts_many : (d : DagData) (s : ℕ)
    → length (births_of (attempts_of d s)) ≡ length (attempts_of d s)
attempts_many d s = length-map (attempts_of d s) (λ a. a.set.born)

-- there are no more than one, and one for each epoch so far
pub few_by_epoch : (c : CoreData) (s : ℕ) → IsSoundCore c → BornOrder c.dag
    → length (attempts_of c.dag s) ≤ 1 + c.dag.tracker.epoch
few_by_epoch c s sound order =
    let few = few_between (births_of (attempts_of c.dag s)) 0 c.dag.tracker.epoch (order s)
    (λ i d l. omega arith) (sound.job.dag.born s).past in
    let many = attempts_many c.dag s in
    omega (arith, few, many)

-- ---- attempts in a job

replays_later : (opening : CoreData) (entries : List Entry) (end : CoreData)
    → Replays opening entries end → Later opening.dag end.dag
replays_later opening [] end is = later_is opening.dag end.dag (ap (λ (c : CoreData). c.dag) is)
replays_later opening (e ∷ entries) end (mid, step, rest) =
    later_then opening.dag mid.dag end.dag (steps_later opening mid e.event e.answer step)
    (replays_later mid entries end rest)

-- none of a job began before the job
born_in_job : (graph : List StageData) (limits : Limits) (saves : Bool) (plan : List PlanLine)
    (last : Option CoreData) (opening end : CoreData) (entries : List Entry) (s : ℕ)
    → IsOpening graph limits saves plan last opening → Replays opening entries end
    → All (λ b. opening.dag.tracker.epoch ≤ b) (births_of (attempts_of end.dag s))
born_in_job graph limits saves plan last opening end entries s o replays =
    subst (λ (n : ℕ). All (λ b. n ≤ b) (births_of (attempts_of end.dag s))) (sym same)
    (by (slice_get o.dag.states s) (slice_get end.dag.states s)
    (blank_opening graph limits saves plan last opening o s) (all.births s))
  where
    all : Later o.dag end.dag
    all =
        later_then o.dag opening.dag end.dag
        (submitted_later o.dag opening.dag (this_stage (result_stage o.dag)) o.submits)
        (replays_later opening entries end replays)

    same : opening.dag.tracker.epoch ≡ o.dag.tracker.epoch
    same = ap (λ (d : DagData). d.tracker.epoch) o.submits.2

    by : (x y : Option StageState) → attempts_in x ≡ [] → MoreIn o.dag.tracker.epoch x y
        → All (λ b. o.dag.tracker.epoch ≤ b) (births_of (attempts_in y))
    by None None blank more = All-nil (λ b. o.dag.tracker.epoch ≤ b)
    by None (Some b) blank more = absurd more
    by (Some a) None blank more = absurd more
    by (Some a) (Some b) blank more =
        subst (λ bs. All (λ n. o.dag.tracker.epoch ≤ n) bs)
        (sym (more.births ∙ ap (λ xs. births_of xs ++ more.more) blank)) more.late

-- they are no more than one, and one for each time that outputs were forgotten in it
pub few_in_job : (graph : List StageData) (limits : Limits) (saves : Bool) (plan : List PlanLine)
    (last : Option CoreData) (opening end : CoreData) (entries : List Entry) (s : ℕ)
    → IsOpening graph limits saves plan last opening → IsSoundCore opening → IsSoundCore end
    → BornOrder end.dag → (replays : Replays opening entries end)
    → length (attempts_of end.dag s) ≤ 1 + times_forgotten opening entries end replays
few_in_job graph limits saves plan last opening end entries s o began sound order replays =
    let few = few_between (births_of (attempts_of end.dag s)) opening.dag.tracker.epoch
    end.dag.tracker.epoch (order s)
    (born_in_job graph limits saves plan last opening end entries s o replays)
    (sound.job.dag.born s).past in
    let many = attempts_many end.dag s in
    let counts = epochs_count opening end entries began replays in
    omega (arith, few, many, counts)
