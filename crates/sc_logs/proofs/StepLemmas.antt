-- No event takes back what was told, or has anybody leave but a Leave.
use Rattle.std.proofs.Common.{◌≡◌, inl, inr, ℕ, ◌==◌, Bool, true, false, List, [], ◌∷◌, length, slice_get, refl, ap, sym, subst, ◌∙◌, arith}
use Rattle.std.proofs.lemmas.Bool.Decides.{nat_tests}
use Rattle.sc_ids.specs.declared.attempts.AttemptId.{AttemptId}
use Rattle.sc_commit.specs.declared.committers.Ending.TheVariants as endings
use Rattle.sc_tracker.specs.Trust.{are_lost, is_live}
use Rattle.sc_tracker.specs.TrackerData.{trust_of}
use Rattle.sc_dag.specs.DagData.{DagData}
use Rattle.sc_dag.specs.Losses.{after_lost}
use Rattle.sc_dag.proofs.Tests.{both_left, both_right}
use Rattle.sc_core.specs.CoreData.{CoreData, is_running_job, job_runs, with_dag}
use Rattle.sc_core.specs.Losses.{Loses, LosesOrAborts, all_released, attempts_on, without_executor}
use Rattle.sc_core.specs.Sides.{IsAside, MayHold, StepsAside}
use Rattle.sc_core.specs.Sound.{IsSoundCore}
use Rattle.sc_core.specs.Steps.{Steps}
use Rattle.sc_core.specs.Takes.{Takes}
use Rattle.sc_core.specs.Tells.{released}
use Rattle.sc_core.specs.declared.answers.Answer.{Answer}
use Rattle.sc_core.specs.declared.events.Event.{Event}
use Rattle.sc_core.specs.declared.events.Event.TheVariants.{Post, Release, Side, Take, TellLost}
use Rattle.sc_core.specs.declared.events.SideEvent.{SideEvent}
use Rattle.sc_core.proofs.CallCarryLemmas.{lost_carries}
use Rattle.sc_core.proofs.LeftLemmas.{released_left}
use Rattle.sc_core.proofs.LoseLemmas.{IsLessOne, lose_less}
use Rattle.sc_core.proofs.SideLemmas.{steps_aside}
use Rattle.sc_core.proofs.TakeCases.{TakesSo, takes_so}
use Rattle.sc_core.proofs.TaskCallLemmas.{hold_calms}
use Rattle.sc_logs.proofs.FirstLemmas.{SameFirst, all_first, sides_first}
use Rattle.sc_logs.proofs.ForwardLemmas.{Forward, alike, alike_forward, itself, posts_forward, releases_forward}

-- ---- asking

takes_forward : (c after : CoreData) (exec : ℕ) (answer : Answer) → Takes c exec answer after
    → Forward (Take exec) c after
takes_forward c after exec answer step = by (takes_so c after exec answer step)
  where
    by : TakesSo c after exec answer → Forward (Take exec) c after
    by (inl t) =
        record {
          many = ap (λ (x : CoreData). length x.dag.tracker.trust) t.is;
          lost = λ e h. ap (λ (x : CoreData). (trust_of x.dag.tracker e).lost) t.is ∙ h;
          runs = λ h. t.asking.runs;
          first = λ stays. ap (λ (x : CoreData). x.left_first) t.is;
        }
    by (inr (inl b)) =
        record {
          many = ap (λ (x : CoreData). length x.dag.tracker.trust) b.is;
          lost = λ e h. ap (λ (x : CoreData). (trust_of x.dag.tracker e).lost) b.is ∙ h;
          runs = λ h. b.asking.runs;
          first = λ stays. ap (λ (x : CoreData). x.left_first) b.is;
        }
    by (inr (inr same)) =
        alike_forward (Take exec) c after (alike c c after (itself c) same.is)

-- ---- losses

all_many : (these : List AttemptId) (c : CoreData)
    → length (all_released these c).dag.tracker.trust ≡ length c.dag.tracker.trust
all_many [] c = refl
all_many (a ∷ these) c =
    all_many these (released c a endings.Failed) ∙ (released_left c a endings.Failed).many

loses_forward : (c after : CoreData) (exec : ℕ) (answer : Answer) → IsSoundCore c
    → Loses c exec answer after → Forward (TellLost exec) c after
loses_forward c after exec answer sound (may, step) =
    by (are_lost next.dag.tracker.trust) step
  where
    next : CoreData
    next = without_executor c exec

    these : List AttemptId
    these = attempts_on exec c.running

    from : CoreData
    from = with_dag c (after_lost c.dag exec)

    runs : job_runs c ≡ true
    runs = both_left (job_runs c) _ may

    live : is_live (slice_get c.dag.tracker.trust exec) ≡ true
    live = both_left (is_live (slice_get c.dag.tracker.trust exec)) _
        (both_right (job_runs c) _ may)

    many : length next.dag.tracker.trust ≡ length c.dag.tracker.trust
    many = all_many these from ∙ (lost_carries c.dag exec live).many

    first : SameFirst c next
    first = all_first these from

    facts : IsLessOne exec c next
    facts = lose_less c exec sound may

    lost : (e : ℕ) → (trust_of c.dag.tracker e).lost ≡ true
        → (trust_of next.dag.tracker e).lost ≡ true
    lost e h = one (e == exec) refl
      where
        one : (b : Bool) → (e == exec) ≡ b → (trust_of next.dag.tracker e).lost ≡ true
        one true f =
            let is : exec ≡ e = grind (arith, nat_tests, f) in
            subst (λ (x : ℕ). (trust_of next.dag.tracker x).lost ≡ true) is facts.now
        one false f = facts.others e f ∙ h

    by : (b : Bool) → LosesOrAborts b next answer after → Forward (TellLost exec) c after
    by true (told, is) =
        record {
          many = ap (λ (x : CoreData). length x.dag.tracker.trust) is ∙ many;
          lost = λ e h. ap (λ (x : CoreData). (trust_of x.dag.tracker e).lost) is ∙ lost e h;
          runs = λ h. runs;
          first = λ stays. ap (λ (x : CoreData). x.left_first) is ∙ first;
        }
    by false (told, is) =
        record {
          many = ap (λ (x : CoreData). length x.dag.tracker.trust) is ∙ many;
          lost = λ e h. ap (λ (x : CoreData). (trust_of x.dag.tracker e).lost) is ∙ lost e h;
          runs = λ h. runs;
          first = λ stays. ap (λ (x : CoreData). x.left_first) is ∙ first;
        }

-- ---- beside the reports

sides_forward : (c after : CoreData) (event : SideEvent) (answer : Answer)
    → StepsAside c event answer after → Forward (Side event) c after
sides_forward c after event answer step =
    record {
      many = many aside.dag;
      lost = λ e h. lost e aside.dag ∙ h;
      runs = λ h. ap is_running_job (sym aside.job) ∙ h;
      first = λ stays. sides_first c after event answer step stays;
    }
  where
    aside : IsAside c after
    aside = steps_aside c after event answer step

    many : MayHold c.dag after.dag
        → length after.dag.tracker.trust ≡ length c.dag.tracker.trust
    many (inl is) = ap (λ (d : DagData). length d.tracker.trust) is
    many (inr (s, p, denied, is)) =
        ap (λ (d : DagData). length d.tracker.trust) is ∙ (hold_calms c.dag s p denied).many

    lost : (e : ℕ) → MayHold c.dag after.dag
        → (trust_of after.dag.tracker e).lost ≡ (trust_of c.dag.tracker e).lost
    lost e (inl is) = ap (λ (d : DagData). (trust_of d.tracker e).lost) is
    lost e (inr (s, p, denied, is)) =
        ap (λ (d : DagData). (trust_of d.tracker e).lost) is ∙ (hold_calms c.dag s p denied).lost e

-- ---- every event

pub steps_forward : (c after : CoreData) (event : Event) (answer : Answer) → IsSoundCore c
    → Steps c event answer after → Forward event c after
steps_forward c after (Take exec) answer sound step = takes_forward c after exec answer step
steps_forward c after (Post a outcome) answer sound step =
    posts_forward c after a outcome answer step
steps_forward c after (Release key) answer sound step = releases_forward c after key answer step
steps_forward c after (TellLost exec) answer sound step =
    loses_forward c after exec answer sound step
steps_forward c after (Side event) answer sound step = sides_forward c after event answer step
