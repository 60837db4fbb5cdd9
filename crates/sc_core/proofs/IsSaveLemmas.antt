-- Whether a job saves: it does where it is to as it begins, and stays so behind every event.
use Rattle.std.proofs.Common.{◌≡◌, ℕ, zero, suc, inl, inr, Bool, true, false, Option, Some, None, refl, ap, sym, ◌∙◌, true≢false}
use Rattle.sc_ids.specs.declared.attempts.AttemptId.{AttemptId}
use Rattle.sc_tracker.specs.Trust.{are_lost}
use Rattle.sc_dag.specs.DagData.{stage_at}
use Rattle.sc_dag.specs.Losses.{after_lost}
use Rattle.sc_dag.specs.Outputs.{is_complete}
use Rattle.sc_core.specs.CoreData.{CoreData, is_running_job, job_runs, result_stage, running_of, shelved, shelved_if, shelved_of, taken_off, with_dag, without_shelved}
use Rattle.sc_core.specs.Losses.{Loses, LosesOrAborts, attempts_on, without_executor}
use Rattle.sc_core.specs.Openings.{committers_for}
use Rattle.sc_core.specs.Posts.{Posts, PostsBy, PostsIf, PostsOf, comes_twice, delay_for, is_save}
use Rattle.sc_core.specs.Releases.{Releases, ReleasesIf, ReleasesOf}
use Rattle.sc_core.specs.Sound.{IsSoundCore}
use Rattle.sc_core.specs.Steps.{Steps}
use Rattle.sc_core.specs.Takes.{Takes}
use Rattle.sc_core.specs.Tells.{TellsTo}
use Rattle.sc_core.specs.declared.answers.Answer.{Answer}
use Rattle.sc_core.specs.declared.answers.JobState.TheVariants as jobs
use Rattle.sc_core.specs.declared.events.Event.{Event}
use Rattle.sc_core.specs.declared.events.Event.TheVariants.{Post, Release, Side, Take, TellLost}
use Rattle.sc_core.specs.declared.events.Outcome.{Outcome}
use Rattle.sc_core.specs.declared.running.Running.{Running}
use Rattle.sc_core.specs.declared.running.Shelved.{Shelved}
use Rattle.sc_core.proofs.LeftLemmas.{tells_left}
use Rattle.sc_core.proofs.LoseLemmas.{all_left}
use Rattle.sc_core.proofs.SideLemmas.{steps_aside}
use Rattle.sc_core.proofs.TakeCases.{TakesSo, takes_so}

-- ---- as it begins

-- there is a place where a job begins that saves, since it isn't complete yet
pub opened_saving : (saving : Bool) (c : CoreData) → IsSoundCore c → c.job ≡ jobs.Running
    → is_save (committers_for saving c.dag) ≡ saving
opened_saving false c sound runs = refl
opened_saving true c sound runs =
    by (stage_at c.dag (result_stage c.dag)).tasks refl
    (sound.job.goes_on (ap is_running_job runs)).result.0
  where
    by : (tasks : ℕ) → (stage_at c.dag (result_stage c.dag)).tasks ≡ tasks
        → is_complete c.dag (result_stage c.dag) ≡ false
        → is_save (committers_for true c.dag) ≡ true
    by zero e lacks =
        let whole : is_complete c.dag (result_stage c.dag) ≡ true = rw e refl in
        absurd (true≢false (sym whole ∙ lacks))
    by (suc n) e lacks = rw e refl

-- ---- behind an event

-- a job saves in one state exactly where it does in another
abbrev pub SavesAs : CoreData → CoreData → Type 0
SavesAs c after = is_save after.committers ≡ is_save c.committers

-- an equal one
saves_equal : (c after : CoreData) → after ≡ c → SavesAs c after
saves_equal c after is = ap (λ (x : CoreData). is_save x.committers) is

takes_save : (c after : CoreData) (exec : ℕ) (answer : Answer) → Takes c exec answer after
    → SavesAs c after
takes_save c after exec answer step = by (takes_so c after exec answer step)
  where
    by : TakesSo c after exec answer → SavesAs c after
    by (inl t) = saves_equal _ after t.is
    by (inr (inl b)) = saves_equal _ after b.is
    by (inr (inr same)) = saves_equal _ after same.is

-- a report that is told to its attempt, or to nobody
tells_save : (o : Option Running) (c after : CoreData) (a : AttemptId) (outcome : Outcome)
    (answer : Answer) → TellsTo o c a outcome answer after → SavesAs c after
tells_save None c after a outcome answer (said, is) = saves_equal _ after is
tells_save (Some r) c after a outcome answer tells =
    (tells_left (taken_off c a) after r outcome answer tells).saves

-- one that is to be told later
later_saves : (twice : Bool) (c : CoreData) (a : AttemptId) (outcome : Outcome) (delay : ℕ)
    → SavesAs c (shelved_if twice c a outcome delay)
later_saves false c a outcome delay = refl
later_saves true c a outcome delay = refl

posts_save : (c after : CoreData) (a : AttemptId) (outcome : Outcome) (answer : Answer)
    → Posts c a outcome answer after → SavesAs c after
posts_save c after a outcome answer step = by (job_runs c) step
  where
    next : CoreData
    next = shelved_if (comes_twice c a) c a outcome 0

    when : (delay : Option ℕ) → PostsBy delay c a outcome answer after → SavesAs c after
    when None tells =
        tells_save (running_of next a) next after a outcome answer tells
        ∙ later_saves (comes_twice c a) c a outcome 0
    when (Some delay) (said, is) =
        saves_equal _ after is
        ∙ later_saves (comes_twice c a) (shelved c a outcome delay) a outcome delay

    of : (o : Option Running) → PostsOf o c a outcome answer after → SavesAs c after
    of None (said, is) = saves_equal _ after is
    of (Some r) (fit, posts) = when (delay_for c a) posts

    by : (b : Bool) → PostsIf b c a outcome answer after → SavesAs c after
    by false (said, is) = saves_equal _ after is
    by true posts = of (running_of c a) posts

releases_save : (c after : CoreData) (key : ℕ) (answer : Answer) → Releases c key answer after
    → SavesAs c after
releases_save c after key answer step = by (job_runs c) step
  where
    of : (o : Option Shelved) → ReleasesOf o c key answer after → SavesAs c after
    of None none = absurd none
    of (Some s) tells =
        tells_save (running_of c s.attempt) (without_shelved c key) after s.attempt s.outcome
        answer tells

    by : (b : Bool) → ReleasesIf b c key answer after → SavesAs c after
    by false (said, is) = saves_equal _ after is
    by true releases = of (shelved_of c key) releases

loses_save : (c after : CoreData) (exec : ℕ) (answer : Answer) → Loses c exec answer after
    → SavesAs c after
loses_save c after exec answer (may, step) = by (are_lost next.dag.tracker.trust) step
  where
    next : CoreData
    next = without_executor c exec

    freed : SavesAs c (without_executor c exec)
    freed = (all_left (attempts_on exec c.running) (with_dag c (after_lost c.dag exec))).saves

    by : (b : Bool) → LosesOrAborts b next answer after → SavesAs c after
    by true (said, is) = saves_equal _ after is ∙ freed
    by false (said, is) = saves_equal _ after is ∙ freed

pub step_saves : (c after : CoreData) (event : Event) (answer : Answer)
    → Steps c event answer after → SavesAs c after
step_saves c after (Take exec) answer step = takes_save c after exec answer step
step_saves c after (Post a outcome) answer step = posts_save c after a outcome answer step
step_saves c after (Release key) answer step = releases_save c after key answer step
step_saves c after (TellLost exec) answer step = loses_save c after exec answer step
step_saves c after (Side event) answer step = (steps_aside c after event answer step).saves
