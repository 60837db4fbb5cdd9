-- Two cores of one opening are the same.
use Rattle.std.proofs.Common.{◌≡◌, ◌⊎◌, inl, inr, ℕ, zero, suc, Bool, List, [], ◌∷◌, Contains, length, Option, Some, None, IfSome, option_map, slice_get, refl, ap, sym, subst, ◌∙◌, arith, rules}
use Rattle.std.proofs.lemmas.List.Elements.{All-contains, All-replicate}
use Rattle.sc_base.specs.Lists.{at_or}
use Rattle.sc_ids.specs.Graphs.{StageData}
use Rattle.sc_ids.specs.declared.limits.Limits.{Limits}
use Rattle.sc_plan.specs.declared.lines.PlanLine.{PlanLine}
use Rattle.sc_tracker.specs.TrackerData.{TrackerData}
use Rattle.sc_tracker.specs.TrackerFacts.{HasMarkBelow, IsSoundTracker}
use Rattle.sc_tracker.specs.Trust.{untold}
use Rattle.sc_dag.specs.DagData.{DagData, dag_data, no_stage}
use Rattle.sc_dag.specs.Openings.{AreNumbered, Opens, blank_states}
use Rattle.sc_dag.specs.Sound.{IsSoundDag}
use Rattle.sc_dag.specs.Submission.{IsSubmitted, this_stage}
use Rattle.sc_dag.proofs.Looking.{submissions_agree}
use Rattle.sc_dag.proofs.Opening.{openings_are_sound}
use Rattle.sc_core.specs.CoreData.{CoreData, core_data, result_stage}
use Rattle.sc_core.specs.Openings.{IsOpening, begun_core, committers_for, now_before, told_before, tracker_behind}
use Rattle.sc_core.specs.Sound.{LeavesWell}
use Rattle.sc_core.specs.declared.answers.JobState.TheVariants as jobs
use Rattle.sc_history.specs.Openings.{OpeningsAgree}

-- ---- stages by their numbers

same_items : {A : Type 0} (xs ys : List A) (d : A) → length xs ≡ length ys
    → ((i : ℕ) → at_or xs i d ≡ at_or ys i d) → xs ≡ ys
same_items [] [] d e h = refl
same_items [] (y ∷ ys) d e h = absurd (omega (arith, e))
same_items (x ∷ xs) [] d e h = absurd (omega (arith, e))
same_items (x ∷ xs) (y ∷ ys) d e h =
    ap (λ z. z ∷ xs) (h zero)
    ∙ ap (λ zs. y ∷ zs) (same_items xs ys d (omega (arith, e)) (λ i. h (suc i)))

at_or_found : {A : Type 0} (xs : List A) (i : ℕ) (x d : A) → slice_get xs i ≡ Some x
    → at_or xs i d ≡ x
at_or_found [] i x d e = absurd (search (rules, e))
at_or_found (y ∷ ys) zero x d e = search (rules, e)
at_or_found (y ∷ ys) (suc i) x d e = at_or_found ys i x d e

found : (graph stages : List StageData) (stage : StageData) → AreNumbered graph stages
    → Contains graph stage → at_or stages stage.id no_stage ≡ stage
found graph stages stage numbered one =
    at_or_found stages stage.id stage no_stage
    (All-contains (λ s. slice_get stages s.id ≡ Some s) graph stage numbered.each one)

numbered_agree : (graph x y : List StageData) → AreNumbered graph x → AreNumbered graph y
    → x ≡ y
numbered_agree graph x y a b = same_items x y no_stage (a.many ∙ sym b.many) at
  where
    IsAt : List StageData → ℕ → Type 0
    IsAt stages i = (at_or stages i no_stage ≡ no_stage)
        ⊎ (Contains graph (at_or stages i no_stage) × ((at_or stages i no_stage).id ≡ i))

    by : (i : ℕ) → IsAt x i → IsAt y i → at_or x i no_stage ≡ at_or y i no_stage
    by i (inl e) (inl f) = e ∙ sym f
    by i (inr (one, id)) other =
        sym (subst (λ k. at_or y k no_stage ≡ at_or x i no_stage) id
        (found graph y (at_or x i no_stage) b one))
    by i (inl e) (inr (one, id)) =
        subst (λ k. at_or x k no_stage ≡ at_or y i no_stage) id
        (found graph x (at_or y i no_stage) a one)

    at : (i : ℕ) → at_or x i no_stage ≡ at_or y i no_stage
    at i = by i (a.only i) (b.only i)

dag_alike : (d e : DagData) → d.stages ≡ e.stages → d.states ≡ e.states
    → d.tracker ≡ e.tracker → d.limits ≡ e.limits → d ≡ e
dag_alike d e stages states tracker limits =
    ap (λ x. dag_data x d.states d.tracker d.limits) stages
    ∙ ap (λ x. dag_data e.stages x d.tracker d.limits) states
    ∙ ap (λ x. dag_data e.stages e.states x d.limits) tracker
    ∙ ap (λ x. dag_data e.stages e.states e.tracker x) limits

opens_agree :
    (graph : List StageData) (last : Option DagData) (t : TrackerData) (d e : DagData)
    → Opens graph last t d → Opens graph last t e → d.limits ≡ e.limits → d ≡ e
opens_agree graph last t d e a b limits =
    dag_alike d e stages
    (a.states ∙ ap (λ x. blank_states last 0 x) stages ∙ sym b.states)
    (a.tracker ∙ sym b.tracker) limits
  where
    stages : d.stages ≡ e.stages
    stages = numbered_agree graph d.stages e.stages a.numbered b.numbered

-- ---- cores

behind_sound : (last : Option CoreData) (limits : Limits) → IfSome last LeavesWell
    → IsSoundTracker (tracker_behind last limits)
behind_sound None limits sound =
    record {
      outputs = λ i x l. absurd (omega (arith, l));
      marks = All-replicate (HasMarkBelow 0) limits.executors untold tt;
      events = omega arith;
    }
behind_sound (Some last) limits sound = sound.tracker

opening_is :
    (graph : List StageData) (limits : Limits) (saved : Bool) (plan : List PlanLine)
    (last : Option CoreData) (c : CoreData) → IsOpening graph limits saved plan last c
    → c ≡ begun_core saved plan last c.dag
opening_is graph limits saved plan last c o =
    ap (λ x. core_data x c.now c.handed c.job c.left_first c.running c.shelf c.next_key
    c.committers c.dag c.plan) o.told
    ∙ ap (λ x. core_data (told_before last) x c.handed c.job c.left_first c.running c.shelf
    c.next_key c.committers c.dag c.plan) o.now
    ∙ ap (λ x. core_data (told_before last) (now_before last) x c.job c.left_first c.running
    c.shelf c.next_key c.committers c.dag c.plan) o.handed
    ∙ ap (λ x. core_data (told_before last) (now_before last) 0 x c.left_first c.running
    c.shelf c.next_key c.committers c.dag c.plan) o.job
    ∙ ap (λ x. core_data (told_before last) (now_before last) 0 jobs.Running x c.running
    c.shelf c.next_key c.committers c.dag c.plan) o.left_first
    ∙ ap (λ x. core_data (told_before last) (now_before last) 0 jobs.Running None x
    c.shelf c.next_key c.committers c.dag c.plan) o.running
    ∙ ap (λ x. core_data (told_before last) (now_before last) 0 jobs.Running None []
    x c.next_key c.committers c.dag c.plan) o.shelf
    ∙ ap (λ x. core_data (told_before last) (now_before last) 0 jobs.Running None [] []
    x c.committers c.dag c.plan) o.next_key
    ∙ ap (λ x. core_data (told_before last) (now_before last) 0 jobs.Running None [] [] 0
    x c.dag c.plan) o.committers
    ∙ ap (λ x. core_data (told_before last) (now_before last) 0 jobs.Running None [] [] 0
    (committers_for saved c.dag) c.dag x) o.plan_is

pub openings_agree : OpeningsAgree
openings_agree graph limits saved plan last x y job fits sound a b =
    opening_is graph limits saved plan last x a ∙ ap (begun_core saved plan last) dags
    ∙ sym (opening_is graph limits saved plan last y b)
  where
    same : a.dag ≡ b.dag
    same =
        opens_agree graph (option_map (λ l. l.dag) last) (tracker_behind last limits) a.dag b.dag
        a.opens b.opens (a.limits_are ∙ sym b.limits_are)

    well : IsSoundDag a.dag
    well =
        (openings_are_sound graph (option_map (λ l. l.dag) last) (tracker_behind last limits)
        a.dag job fits (behind_sound last limits sound) a.opens).0

    dags : x.dag ≡ y.dag
    dags =
        submissions_agree a.dag x.dag y.dag (this_stage (result_stage a.dag)) well.stages
        a.submits
        (subst (λ d. IsSubmitted d (this_stage (result_stage d)) y.dag) (sym same) b.submits)
