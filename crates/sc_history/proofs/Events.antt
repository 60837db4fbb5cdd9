-- What events come to, as far as journals tell: a report that is heard, one that isn't, or a loss.
use Rattle.std.proofs.Common.{◌≡◌, ◌⊎◌, inl, inr, ℕ, Bool, true, false, if◌then◌else◌, List, [], ◌∷◌, Option, Some, None, option_map, refl, ap, sym, subst, ◌∙◌, true≢false}
use Rattle.sc_ids.specs.declared.attempts.AttemptId.{AttemptId}
use Rattle.sc_taskset.proofs.FindLemmas.{found_is}
use Rattle.sc_tracker.specs.Trust.{are_lost}
use Rattle.sc_commit.specs.declared.committers.Ending.TheVariants as endings
use Rattle.sc_dag.specs.Losses.{after_lost}
use Rattle.sc_dag.specs.Sound.{runner_of}
use Rattle.sc_dag.proofs.Tests.{both_left}
use Rattle.sc_core.specs.CoreData.{CoreData, as_in, has_key, is_of, job_runs, running_of, shelved, shelved_if, shelved_of, taken_off, told_once, with_dag, without_shelved}
use Rattle.sc_core.specs.HandOuts.{HandOutData}
use Rattle.sc_core.specs.Losses.{Loses, LosesOrAborts, all_released, attempts_on, without_executor}
use Rattle.sc_core.specs.Posts.{PostsBy, PostsIf, PostsOf, TellsNow, comes_twice, delay_for, fits}
use Rattle.sc_core.specs.Releases.{ReleasesIf, ReleasesOf}
use Rattle.sc_core.specs.Sound.{IsShelvedWell, IsSoundCore}
use Rattle.sc_core.specs.Tells.{Tells, TellsTo, released}
use Rattle.sc_core.specs.declared.answers.Abort.TheVariants.{NoExecutor}
use Rattle.sc_core.specs.declared.answers.Answer.{Answer}
use Rattle.sc_core.specs.declared.answers.Answer.TheVariants as says
use Rattle.sc_core.specs.declared.answers.JobState.TheVariants as jobs
use Rattle.sc_core.specs.declared.events.Event.{Event}
use Rattle.sc_core.specs.declared.events.Event.TheVariants.{Post, Release, Side}
use Rattle.sc_core.specs.declared.events.Outcome.{Outcome}
use Rattle.sc_core.specs.declared.running.Running.{Running}
use Rattle.sc_core.specs.declared.running.Shelved.{Shelved}
use Rattle.sc_core.proofs.ShelfLemmas.{awaits_it, find_in, fits_in}
use Rattle.sc_core.proofs.StepLemmas.{posted}
use Rattle.sc_history.specs.Results.{is_finish}
use Rattle.sc_history.specs.Tellings.{is_heard, telling, tellings_in, told_late}
use Rattle.sc_core.specs.Sides.{MayHold, StepsAside}
use Rattle.sc_core.specs.declared.events.SideEvent.{SideEvent}
use Rattle.sc_core.proofs.SideCases.{ended_aside}
use Rattle.sc_core.proofs.SideLemmas.{steps_aside}

-- ---- reports

-- an event beside the reports
abbrev pub is_aside : Event → Bool
is_aside (Side event) = true
is_aside event = false

-- No report is heard, and nothing changes but which ones are still to be told, and whether a
-- partition is held back while the job runs.
pub record IsQuiet (c after : CoreData) (event : Event) (answer : Answer) : Type 0 where
  pub dag : MayHold c.dag after.dag
  pub ended : job_runs c ≡ false → after.dag ≡ c.dag
  pub job : after.job ≡ c.job
  pub handed : after.handed ≡ c.handed
  -- who may commit is asked beside the reports alone
  pub committers : is_aside event ≡ false → after.committers ≡ c.committers
  pub unheard : is_heard answer ≡ false
  pub unfinished : is_finish answer ≡ false

-- the report of this event is one of this attempt, which runs and which it fits
pub record IsKnown (c : CoreData) (event : Event) (answer : Answer) (r : Running)
    (outcome : Outcome) : Type 0 where
  pub told : tellings_in c event answer ≡ telling r.hand_out.attempt outcome answer ∷ []
  pub in_set : runner_of c.dag r.hand_out.attempt ≡ Some r.exec
  pub fit : fits c r outcome ≡ true
  -- it is one of those that run, perhaps not out any more
  pub ran : Running
  pub found : running_of c ran.hand_out.attempt ≡ Some ran
  pub hand : ran.hand_out ≡ r.hand_out
  pub phase : r.phase ≡ ran.phase
  pub exec : r.exec ≡ ran.exec

-- a report is told to its attempt
pub record IsHeard (c after : CoreData) (event : Event) (answer : Answer) : Type 0 where
  pub runs : job_runs c ≡ true
  pub mid : CoreData
  pub dag : mid.dag ≡ c.dag
  pub job : mid.job ≡ c.job
  pub handed : mid.handed ≡ c.handed
  pub committers : mid.committers ≡ c.committers
  pub one : Running
  pub outcome : Outcome
  pub tells : Tells mid one outcome answer after
  pub known : IsSoundCore c → IsKnown c event answer one outcome

abbrev pub Comes : CoreData → CoreData → Event → Answer → Type 0
Comes c after event answer = IsQuiet c after event answer ⊎ IsHeard c after event answer

quiet :
    (c after d : CoreData) (event : Event) (answer said : Answer) → d.dag ≡ c.dag → d.job ≡ c.job
    → d.handed ≡ c.handed → d.committers ≡ c.committers → is_heard said ≡ false
    → is_finish said ≡ false → answer ≡ said → after ≡ d → IsQuiet c after event answer
quiet c after d event answer said dag job handed committers unheard unfinished told is =
    record {
      dag = inl (ap (λ (x : CoreData). x.dag) is ∙ dag);
      ended = λ e. ap (λ (x : CoreData). x.dag) is ∙ dag;
      job = ap (λ (x : CoreData). x.job) is ∙ job;
      handed = ap (λ (x : CoreData). x.handed) is ∙ handed;
      committers = λ e. ap (λ (x : CoreData). x.committers) is ∙ committers;
      unheard = ap is_heard told ∙ unheard;
      unfinished = ap is_finish told ∙ unfinished;
    }

-- an attempt that isn't out any more is the same one
pub in_hand : (a : AttemptId) (r : Running) → (as_in a r).hand_out ≡ r.hand_out
in_hand a r = by (is_of a r)
  where
    by : (b : Bool) → (if b then record r { is_out = false } else r).hand_out ≡ r.hand_out
    by true = refl
    by false = refl

pub in_exec : (a : AttemptId) (r : Running) → (as_in a r).exec ≡ r.exec
in_exec a r = by (is_of a r)
  where
    by : (b : Bool) → (if b then record r { is_out = false } else r).exec ≡ r.exec
    by true = refl
    by false = refl

pub in_phase : (a : AttemptId) (r : Running) → (as_in a r).phase ≡ r.phase
in_phase a r = by (is_of a r)
  where
    by : (b : Bool) → (if b then record r { is_out = false } else r).phase ≡ r.phase
    by true = refl
    by false = refl

pub posts_come : (c after : CoreData) (a : AttemptId) (outcome : Outcome) (answer : Answer)
    → PostsIf (job_runs c) c a outcome answer after → Comes c after (Post a outcome) answer
posts_come c after a outcome answer step = by (job_runs c) refl step
  where
    Goal : Type 0
    Goal = Comes c after (Post a outcome) answer

    known : (r one : Running) → running_of c a ≡ Some r → fits c r outcome ≡ true
        → one.hand_out ≡ r.hand_out → one.exec ≡ r.exec → one.phase ≡ r.phase
        → fits c one outcome ≡ fits c r outcome
        → IsSoundCore c → IsKnown c (Post a outcome) answer one outcome
    known r one e fit hand exec phase same sound =
        let p = posted c a r sound.job e in
        let at = ap (λ (h : HandOutData). h.attempt) hand in
        record {
          told = ap (λ b. telling b outcome answer ∷ []) (sym (at ∙ p.attempt));
          in_set = ap (λ b. runner_of c.dag b) at ∙ p.well.in_set ∙ ap Some (sym exec);
          fit = same ∙ fit;
          ran = r;
          found = subst (λ b. running_of c b ≡ Some r) (sym p.attempt) e;
          hand = sym hand;
          phase = phase;
          exec = exec;
        }

    now : (r : Running) → running_of c a ≡ Some r → fits c r outcome ≡ true
        → job_runs c ≡ true → (twice : Bool)
        → TellsNow (shelved_if twice c a outcome 0) a outcome answer after
        → Comes c after (Post a outcome) answer
    now r e fit runs false h =
        let tells : Tells (taken_off c a) r outcome answer after = rw e at h in
        inr (record {
          runs = runs;
          mid = taken_off c a;
          dag = refl;
          job = refl;
          handed = refl;
          committers = refl;
          one = r;
          outcome = outcome;
          tells = tells;
          known = known r r e fit refl refl refl refl;
        })
    now r e fit runs true h =
        let next = shelved c a outcome 0 in
        let found : running_of next a ≡ Some (as_in a r) =
        find_in a a c.running ∙ ap (option_map (as_in a)) e in
        let tells : Tells (taken_off next a) (as_in a r) outcome answer after = rw found at h in
        inr (record {
          runs = runs;
          mid = taken_off next a;
          dag = refl;
          job = refl;
          handed = refl;
          committers = refl;
          one = as_in a r;
          outcome = outcome;
          tells = tells;
          known = known r (as_in a r) e fit (in_hand a r) (in_exec a r) (in_phase a r)
              (fits_in c a r outcome);
        })

    late : (delay : ℕ) (twice : Bool) → answer ≡ says.Shelved
        → after ≡ shelved_if twice (shelved c a outcome delay) a outcome delay
        → Comes c after (Post a outcome) answer
    late delay false told is =
        inl (quiet c after _ _ answer _ refl refl refl refl refl refl told is)
    late delay true told is =
        inl (quiet c after _ _ answer _ refl refl refl refl refl refl told is)

    posts : (r : Running) → running_of c a ≡ Some r → fits c r outcome ≡ true
        → job_runs c ≡ true → (delay : Option ℕ) → PostsBy delay c a outcome answer after
        → Comes c after (Post a outcome) answer
    posts r e fit runs None h = now r e fit runs (comes_twice c a) h
    posts r e fit runs (Some delay) (told, is) = late delay (comes_twice c a) told is

    of : (o : Option Running) → running_of c a ≡ o → job_runs c ≡ true
        → PostsOf o c a outcome answer after → Comes c after (Post a outcome) answer
    of None e runs (told, is) =
        inl (quiet c after (told_once c) _ answer _ refl refl refl refl refl refl told is)
    of (Some r) e runs (fit, h) = posts r e fit runs (delay_for c a) h

    by : (b : Bool) → job_runs c ≡ b → PostsIf b c a outcome answer after → Goal
    by false runs (told, is) =
        inl (quiet c after c _ answer _ refl refl refl refl refl refl told is)
    by true runs h = of (running_of c a) refl runs h

pub releases_come : (c after : CoreData) (key : ℕ) (answer : Answer)
    → ReleasesIf (job_runs c) c key answer after → Comes c after (Release key) answer
releases_come c after key answer step = by (job_runs c) refl step
  where
    next : CoreData
    next = without_shelved c key

    late : (s : Shelved) → shelved_of c key ≡ Some s → job_runs c ≡ true
        → (o : Option Running) → running_of c s.attempt ≡ o
        → TellsTo o next s.attempt s.outcome answer after → Comes c after (Release key) answer
    late s e runs None f (told, is) =
        inl (quiet c after (told_once next) _ answer _ refl refl refl refl refl refl told is)
    late s e runs (Some r) f tells =
        inr (record {
          runs = runs;
          mid = taken_off next s.attempt;
          dag = refl;
          job = refl;
          handed = refl;
          committers = refl;
          one = r;
          outcome = s.outcome;
          tells = tells;
          known = λ sound. known sound;
        })
      where
        known : IsSoundCore c → IsKnown c (Release key) answer r s.outcome
        known sound =
            let p = posted c s.attempt r sound.job f in
            let well : IsShelvedWell c s =
            found_is (IsShelvedWell c) (has_key key) c.shelf s (sound.shelf runs).each e in
            record {
              told = ap (λ o. told_late o answer) e
                  ∙ ap (λ b. telling b s.outcome answer ∷ []) (sym p.attempt);
              in_set = p.well.in_set;
              fit = (awaits_it c s r well f).fit;
              ran = r;
              found = subst (λ b. running_of c b ≡ Some r) (sym p.attempt) f;
              hand = refl;
              phase = refl;
              exec = refl;
            }

    of : (o : Option Shelved) → shelved_of c key ≡ o → job_runs c ≡ true
        → ReleasesOf o c key answer after → Comes c after (Release key) answer
    of None e runs h = absurd h
    of (Some s) e runs h = late s e runs (running_of c s.attempt) refl h

    by : (b : Bool) → job_runs c ≡ b → ReleasesIf b c key answer after
        → Comes c after (Release key) answer
    by false runs (told, is) =
        inl (quiet c after c _ answer _ refl refl refl refl refl refl told is)
    by true runs h = of (shelved_of c key) refl runs h

-- what happens beside the reports is no report that is heard
pub sides_come : (c after : CoreData) (event : SideEvent) (answer : Answer)
    → StepsAside c event answer after → Comes c after (Side event) answer
sides_come c after event answer step =
    let is = steps_aside c after event answer step in
    inl (record {
      dag = is.dag;
      ended = λ e. ap (λ (x : CoreData). x.dag) (ended_aside c after event answer e step);
      job = is.job;
      handed = is.handed;
      committers = λ e. absurd (true≢false e);
      unheard = ap is_heard step.1;
      unfinished = ap is_finish step.1;
    })

-- ---- losses

-- an executor is told lost, which may end the job
pub record IsLoss (c after : CoreData) (exec : ℕ) (answer : Answer) : Type 0 where
  pub runs : job_runs c ≡ true
  pub dag : after.dag ≡ (without_executor c exec).dag
  pub handed : after.handed ≡ c.handed
  pub job : (after.job ≡ c.job) ⊎ (after.job ≡ jobs.Aborted NoExecutor)

all_handed : (these : List AttemptId) (c : CoreData) → (all_released these c).handed ≡ c.handed
all_handed [] c = refl
all_handed (a ∷ these) c = all_handed these (released c a endings.Failed)

-- attempts that end with their executor leave the job as it was
pub all_job : (these : List AttemptId) (c : CoreData) → (all_released these c).job ≡ c.job
all_job [] c = refl
all_job (a ∷ these) c = all_job these (released c a endings.Failed)

pub losses_come : (c after : CoreData) (exec : ℕ) (answer : Answer) → Loses c exec answer after
    → IsLoss c after exec answer
losses_come c after exec answer (may, step) = by (are_lost next.dag.tracker.trust) step
  where
    next : CoreData
    next = without_executor c exec

    these : List AttemptId
    these = attempts_on exec c.running

    from : CoreData
    from = with_dag c (after_lost c.dag exec)

    by : (b : Bool) → LosesOrAborts b next answer after → IsLoss c after exec answer
    by true (told, is) =
        record {
          runs = both_left (job_runs c) _ may;
          dag = ap (λ (x : CoreData). x.dag) is;
          handed = ap (λ (x : CoreData). x.handed) is ∙ all_handed these from;
          job = inr (ap (λ (x : CoreData). x.job) is);
        }
    by false (told, is) =
        record {
          runs = both_left (job_runs c) _ may;
          dag = ap (λ (x : CoreData). x.dag) is;
          handed = ap (λ (x : CoreData). x.handed) is ∙ all_handed these from;
          job = inl (ap (λ (x : CoreData). x.job) is ∙ all_job these from);
        }
