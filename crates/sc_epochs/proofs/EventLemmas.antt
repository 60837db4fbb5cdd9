-- What events leave of when attempts began, and what a job begins with.
use Rattle.std.proofs.Common.{◌≡◌, inl, inr, ℕ, zero, suc, ◌+◌, ◌<◌, ◌-◌, Bool, true, List, [], ◌∷◌, length, Option, Some, None, option_map, slice_get, refl, ap, sym, subst, ◌∙◌, arith, rules}
use Rattle.std.specs.List.{AllPairs}
use Rattle.sc_ids.specs.Graphs.{StageData}
use Rattle.sc_ids.specs.declared.attempts.AttemptId.{AttemptId}
use Rattle.sc_ids.specs.declared.limits.Limits.{Limits}
use Rattle.sc_commit.specs.declared.committers.Ending.TheVariants as endings
use Rattle.sc_plan.specs.declared.lines.PlanLine.{PlanLine}
use Rattle.sc_taskset.specs.TaskSetData.{TaskSetData}
use Rattle.sc_tracker.specs.Trust.{is_live}
use Rattle.sc_dag.specs.Births.{births_of}
use Rattle.sc_dag.specs.DagData.{DagData, StageState, newest_at, set_in}
use Rattle.sc_dag.specs.Losses.{after_lost}
use Rattle.sc_dag.specs.Openings.{blank_states}
use Rattle.sc_dag.specs.Sound.{attempts_in, attempts_of}
use Rattle.sc_dag.specs.Submission.{IsSubmitted, this_stage}
use Rattle.sc_dag.specs.declared.attempts.StageAttempt.{StageAttempt}
use Rattle.sc_dag.proofs.Moving.{newest_among}
use Rattle.sc_dag.proofs.Tests.{both_left, both_right}
use Rattle.sc_core.specs.CoreData.{CoreData, job_runs, result_stage, with_dag}
use Rattle.sc_core.specs.Losses.{Loses, all_released, attempts_on, without_executor}
use Rattle.sc_core.specs.Openings.{IsOpening}
use Rattle.sc_core.specs.Sides.{MayHold}
use Rattle.sc_core.specs.Sound.{IsSoundCore}
use Rattle.sc_core.specs.Steps.{Steps}
use Rattle.sc_core.specs.Takes.{Takes}
use Rattle.sc_core.specs.Tells.{released}
use Rattle.sc_core.specs.declared.answers.Answer.{Answer}
use Rattle.sc_core.specs.declared.events.Event.{Event}
use Rattle.sc_core.specs.declared.events.Event.TheVariants.{Post, Release, Side, Take, TellLost}
use Rattle.sc_core.proofs.TakeCases.{TakesSo, takes_so}
use Rattle.sc_history.proofs.Events.{Comes, losses_come, posts_come, releases_come, sides_come}
use Rattle.sc_epochs.specs.Apart.{AreBornApart}
use Rattle.sc_epochs.proofs.ApartLemmas.{Never, Stills, never_apart, stills_is, stills_same, stills_then}
use Rattle.sc_epochs.proofs.CallLemmas.{handed_stills, hold_stills, lost_apart}
use Rattle.sc_epochs.proofs.HeardLemmas.{RulesByEpoch, heard_apart, released_stills}
use Rattle.sc_epochs.proofs.SubmitLemmas.{apart_looking}

-- ---- one event

may_hold_stills : (d after : DagData) → MayHold d after → Stills Never d after
may_hold_stills d after (inl is) = stills_is Never d after is
may_hold_stills d after (inr (s, p, denied, is)) =
    subst (λ x. Stills Never d x) (sym is) (hold_stills Never d s p denied)

comes_apart : (c after : CoreData) (event : Event) (answer : Answer) → IsSoundCore c
    → RulesByEpoch c event answer → Comes c after event answer → AreBornApart c.dag
    → AreBornApart after.dag
comes_apart c after event answer sound rules_by (inl q) apart =
    never_apart c.dag after.dag (may_hold_stills c.dag after.dag q.dag) apart
comes_apart c after event answer sound rules_by (inr h) apart =
    heard_apart c after event answer sound rules_by h apart

takes_apart : (c after : CoreData) (exec : ℕ) (answer : Answer) → Takes c exec answer after
    → AreBornApart c.dag → AreBornApart after.dag
takes_apart c after exec answer h apart = by (takes_so c after exec answer h)
  where
    by : TakesSo c after exec answer → AreBornApart after.dag
    by (inl t) =
        subst (λ (x : CoreData). AreBornApart x.dag) (sym t.is)
        (never_apart c.dag _ (handed_stills Never c.dag t.task.attempt exec c.now) apart)
    by (inr (inl b)) = subst (λ (x : CoreData). AreBornApart x.dag) (sym b.is) apart
    by (inr (inr same)) = subst (λ (x : CoreData). AreBornApart x.dag) (sym same.is) apart

all_stills : (these : List AttemptId) (c : CoreData)
    → Stills Never c.dag (all_released these c).dag
all_stills [] c = stills_same Never c.dag
all_stills (a ∷ these) c =
    stills_then Never c.dag (released c a endings.Failed).dag
    (all_released these (released c a endings.Failed)).dag (released_stills c a endings.Failed)
    (all_stills these (released c a endings.Failed))

losses_apart : (c after : CoreData) (exec : ℕ) (answer : Answer) → IsSoundCore c
    → Loses c exec answer after → AreBornApart c.dag → AreBornApart after.dag
losses_apart c after exec answer sound step apart =
    subst AreBornApart (sym (losses_come c after exec answer step).dag)
    (never_apart from.dag (without_executor c exec).dag
    (all_stills (attempts_on exec c.running) from)
    (lost_apart c.dag exec sound.job.dag live apart))
  where
    from : CoreData
    from = with_dag c (after_lost c.dag exec)

    live : is_live (slice_get c.dag.tracker.trust exec) ≡ true
    live =
        both_left (is_live (slice_get c.dag.tracker.trust exec)) _
        (both_right (job_runs c) _ step.0)

pub steps_apart : (c after : CoreData) (event : Event) (answer : Answer) → IsSoundCore c
    → RulesByEpoch c event answer → Steps c event answer after → AreBornApart c.dag
    → AreBornApart after.dag
steps_apart c after (Take exec) answer sound rules_by step apart =
    takes_apart c after exec answer step apart
steps_apart c after (Post a outcome) answer sound rules_by step apart =
    comes_apart c after (Post a outcome) answer sound rules_by
    (posts_come c after a outcome answer step) apart
steps_apart c after (Release key) answer sound rules_by step apart =
    comes_apart c after (Release key) answer sound rules_by
    (releases_come c after key answer step) apart
steps_apart c after (Side event) answer sound rules_by step apart =
    comes_apart c after (Side event) answer sound rules_by
    (sides_come c after event answer step) apart
steps_apart c after (TellLost exec) answer sound rules_by step apart =
    losses_apart c after exec answer sound step apart

-- ---- openings

-- nothing was done for a stage
blank_at : (last : Option DagData) (n : ℕ) (stages : List StageData) (s : ℕ)
    → attempts_in (slice_get (blank_states last n stages) s) ≡ []
blank_at last n [] s = refl
blank_at last n (stage ∷ stages) zero = refl
blank_at last n (stage ∷ stages) (suc s) = blank_at last (n + 1) stages s

pub blank_opening : (graph : List StageData) (limits : Limits) (saves : Bool)
    (plan : List PlanLine) (last : Option CoreData) (c : CoreData)
    → (o : IsOpening graph limits saves plan last c) → (s : ℕ) → attempts_of o.dag s ≡ []
blank_opening graph limits saves plan last c o s =
    ap (λ states. attempts_in (slice_get states s)) o.opens.states
    ∙ blank_at (option_map (λ l. l.dag) last) 0 o.dag.stages s

pub opening_apart : (graph : List StageData) (limits : Limits) (saves : Bool)
    (plan : List PlanLine) (last : Option CoreData) (c : CoreData)
    → IsOpening graph limits saves plan last c → AreBornApart c.dag
opening_apart graph limits saves plan last c o = by o.submits
  where
    d : DagData
    d = o.dag

    blank : (s : ℕ) → attempts_of o.dag s ≡ []
    blank = blank_opening graph limits saves plan last c o

    newest : (o : Option StageState) (set : TaskSetData) → attempts_in o ≡ []
        → newest_among o ≡ Some set → ⊥
    newest None set e n = search (rules, n)
    newest (Some state) set e n =
        search (rules, sym n ∙ ap (λ xs. newest_of xs) e)
      where
        newest_of : List StageAttempt → Option TaskSetData
        newest_of xs = set_in (slice_get xs (length xs - 1))

    none : (s : ℕ) (set : TaskSetData) → newest_at o.dag s ≡ Some set → ⊥
    none s set e = newest (slice_get d.states s) set (blank s) e

    start : AreBornApart o.dag
    start =
        record {
          own = λ s p set kind lt e wants lacks. absurd (none s set e);
          order = λ s. subst (λ xs. AllPairs (λ x y. x < y) (births_of xs)) (sym (blank s))
              (λ i j b lt l. absurd (omega (arith, l)));
        }

    by : IsSubmitted o.dag (this_stage (result_stage o.dag)) c.dag → AreBornApart c.dag
    by (looked, are, is) =
        subst AreBornApart (sym is)
        (apart_looking d looked (λ s set l e. absurd (none s set e)) start)
