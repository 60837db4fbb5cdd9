-- What no event takes back, and that no report does.
use Rattle.std.proofs.Common.{◌≡◌, ℕ, Bool, true, false, Option, Some, None, length, refl, ap, sym, subst, ◌∙◌}
use Rattle.sc_ids.specs.declared.attempts.AttemptId.{AttemptId}
use Rattle.sc_tracker.specs.TrackerData.{trust_of}
use Rattle.sc_dag.specs.DagData.{DagData}
use Rattle.sc_core.specs.CoreData.{CoreData, is_running_job, job_runs, running_of, shelved, shelved_if, shelved_of, taken_off, told_once, without_shelved}
use Rattle.sc_core.specs.Posts.{Posts, PostsBy, PostsIf, PostsOf, comes_twice, delay_for}
use Rattle.sc_core.specs.Releases.{Releases, ReleasesIf, ReleasesOf}
use Rattle.sc_core.specs.Tells.{TellsTo}
use Rattle.sc_core.specs.declared.answers.Answer.{Answer}
use Rattle.sc_core.specs.declared.events.Event.{Event}
use Rattle.sc_core.specs.declared.events.Event.TheVariants.{Post, Release}
use Rattle.sc_core.specs.declared.events.Outcome.{Outcome}
use Rattle.sc_core.specs.declared.running.Running.{Running}
use Rattle.sc_core.specs.declared.running.Shelved.{Shelved}
use Rattle.sc_core.proofs.LeftLemmas.{Left, tells_left}
use Rattle.sc_logs.specs.Folds.{is_leave}
use Rattle.sc_logs.proofs.FirstLemmas.{SameFirst, tells_first}

-- No event brings an executor, or takes back that one was told lost. None has an ended job run
-- again, and but for a Leave none has anybody leave.
pub record Forward (event : Event) (c after : CoreData) : Type 0 where
  pub many : length after.dag.tracker.trust ≡ length c.dag.tracker.trust
  pub lost : (e : ℕ) → (trust_of c.dag.tracker e).lost ≡ true
      → (trust_of after.dag.tracker e).lost ≡ true
  pub runs : job_runs after ≡ true → job_runs c ≡ true
  pub first : is_leave event ≡ false → SameFirst c after

-- ---- the same core, as far as this goes

pub record IsAlike (c mid : CoreData) : Type 0 where
  pub dag : mid.dag ≡ c.dag
  pub job : mid.job ≡ c.job
  pub first : SameFirst c mid

pub itself : (c : CoreData) → IsAlike c c
itself c = record { dag = refl; job = refl; first = refl }

pub alike : (c mid after : CoreData) → IsAlike c mid → after ≡ mid → IsAlike c after
alike c mid after same is = subst (λ x. IsAlike c x) (sym is) same

pub alike_forward : (event : Event) (c after : CoreData) → IsAlike c after → Forward event c after
alike_forward event c after same =
    record {
      many = ap (λ (d : DagData). length d.tracker.trust) same.dag;
      lost = λ e h. ap (λ (d : DagData). (trust_of d.tracker e).lost) same.dag ∙ h;
      runs = λ h. ap is_running_job (sym same.job) ∙ h;
      first = λ stays. same.first;
    }

-- ---- reports

told_forward : (event : Event) (c mid after : CoreData) → IsAlike c mid → Left mid after
    → SameFirst mid after → Forward event c after
told_forward event c mid after same left first =
    record {
      many = left.many ∙ ap (λ (d : DagData). length d.tracker.trust) same.dag;
      lost = λ e h. left.lost e ∙ ap (λ (d : DagData). (trust_of d.tracker e).lost) same.dag ∙ h;
      runs = λ h. ap is_running_job (sym same.job) ∙ left.runs h;
      first = λ stays. first ∙ same.first;
    }

-- a report of an attempt that may run
tells_forward :
    (event : Event) (c mid after : CoreData) (o : Option Running) (a : AttemptId)
    (outcome : Outcome) (answer : Answer) → IsAlike c mid → TellsTo o mid a outcome answer after
    → Forward event c after
tells_forward event c mid after None a outcome answer same (told, is) =
    alike_forward event c after
    (alike c (told_once mid) after
    (record { dag = same.dag; job = same.job; first = same.first }) is)
tells_forward event c mid after (Some r) a outcome answer same tells =
    told_forward event c (taken_off mid a) after
    (record { dag = same.dag; job = same.job; first = same.first })
    (tells_left (taken_off mid a) after r outcome answer tells)
    (tells_first (taken_off mid a) after r outcome answer tells)

if_shelved : (twice : Bool) (c mid : CoreData) (a : AttemptId) (outcome : Outcome) (delay : ℕ)
    → IsAlike c mid → IsAlike c (shelved_if twice mid a outcome delay)
if_shelved true c mid a outcome delay same =
    record { dag = same.dag; job = same.job; first = same.first }
if_shelved false c mid a outcome delay same = same

pub posts_forward : (c after : CoreData) (a : AttemptId) (outcome : Outcome) (answer : Answer)
    → Posts c a outcome answer after → Forward (Post a outcome) c after
posts_forward c after a outcome answer step = by (job_runs c) step
  where
    Goal : Type 0
    Goal = Forward (Post a outcome) c after

    posts : (delay : Option ℕ) → PostsBy delay c a outcome answer after → Goal
    posts None tells =
        let mid = shelved_if (comes_twice c a) c a outcome 0 in
        tells_forward (Post a outcome) c mid after (running_of mid a) a outcome answer
        (if_shelved (comes_twice c a) c c a outcome 0 (itself c)) tells
    posts (Some delay) (told, is) =
        alike_forward (Post a outcome) c after
        (alike c _ after
        (if_shelved (comes_twice c a) c (shelved c a outcome delay) a outcome delay
        (record { dag = refl; job = refl; first = refl })) is)

    of : (o : Option Running) → PostsOf o c a outcome answer after → Goal
    of None (told, is) =
        alike_forward (Post a outcome) c after
        (alike c (told_once c) after (record { dag = refl; job = refl; first = refl }) is)
    of (Some r) (fit, h) = posts (delay_for c a) h

    by : (b : Bool) → PostsIf b c a outcome answer after → Goal
    by false (told, is) =
        alike_forward (Post a outcome) c after (alike c c after (itself c) is)
    by true h = of (running_of c a) h

pub releases_forward : (c after : CoreData) (key : ℕ) (answer : Answer)
    → Releases c key answer after → Forward (Release key) c after
releases_forward c after key answer step = by (job_runs c) step
  where
    of : (o : Option Shelved) → ReleasesOf o c key answer after → Forward (Release key) c after
    of None h = absurd h
    of (Some s) tells =
        tells_forward (Release key) c (without_shelved c key) after (running_of c s.attempt)
        s.attempt s.outcome answer (record { dag = refl; job = refl; first = refl }) tells

    by : (b : Bool) → ReleasesIf b c key answer after → Forward (Release key) c after
    by false (told, is) =
        alike_forward (Release key) c after (alike c c after (itself c) is)
    by true h = of (shelved_of c key) h
