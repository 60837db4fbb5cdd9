-- What holds of each attempt that runs goes on to hold, and which report of one is heard.
use Rattle.std.proofs.Common.{◌≡◌, ◌∙◌, ℕ, All, Bool, true, false, Option, Some, None, not, refl, ap, sym, subst, rules, true≢false}
use Rattle.std.specs.List.{filter}
use Rattle.std.proofs.lemmas.List.Elements.{All-filter, All-map, All-weaker}
use Rattle.sc_ids.specs.declared.attempts.AttemptId.{AttemptId}
use Rattle.sc_taskset.proofs.FindLemmas.{found_is}
use Rattle.sc_tracker.specs.Trust.{are_lost}
use Rattle.sc_core.specs.CoreData.{CoreData, as_in, has_key, is_of, job_runs, running_of, shelved, shelved_if, shelved_of, taken_off, without_shelved}
use Rattle.sc_core.specs.Losses.{Loses, LosesOrAborts, runs_on, without_executor}
use Rattle.sc_core.specs.Posts.{Posts, PostsBy, PostsIf, PostsOf, comes_twice, delay_for, fits}
use Rattle.sc_core.specs.Releases.{Releases, ReleasesIf, ReleasesOf}
use Rattle.sc_core.specs.Sound.{IsShelvedWell, IsSoundCore}
use Rattle.sc_core.specs.Tells.{TellsTo}
use Rattle.sc_core.specs.declared.answers.Answer.{Answer}
use Rattle.sc_core.specs.declared.answers.Answer.TheVariants as says
use Rattle.sc_core.specs.declared.events.Outcome.{Outcome}
use Rattle.sc_core.specs.declared.running.Running.{Running}
use Rattle.sc_core.specs.declared.running.Shelved.{Shelved}
use Rattle.sc_core.proofs.LeftLemmas.{tells_left}
use Rattle.sc_core.proofs.ShelfLemmas.{awaits_it}
use Rattle.sc_history.specs.Tellings.{is_heard}

-- ---- what runs

-- What holds of an attempt holds of it too once it isn't out any more.
module _ (P : Running → Type 0) (aside : (a : AttemptId) (r : Running) → P r → P (as_in a r))
  where
    shelved_hold : (twice : Bool) (c : CoreData) (a : AttemptId) (outcome : Outcome) (delay : ℕ)
        → All P c.running → All P (shelved_if twice c a outcome delay).running
    shelved_hold false c a outcome delay all = all
    shelved_hold true c a outcome delay all =
        All-map P (as_in a) c.running
        (All-weaker P (λ r. P (as_in a r)) (aside a) c.running all)

    told_hold : (o : Option Running) (c after : CoreData) (a : AttemptId) (outcome : Outcome)
        (answer : Answer) → All P c.running → TellsTo o c a outcome answer after
        → All P after.running
    told_hold None c after a outcome answer all (told, is) =
        subst (λ (x : CoreData). All P x.running) (sym is) all
    told_hold (Some r) c after a outcome answer all h =
        subst (λ running. All P running)
        (sym (tells_left (taken_off c a) after r outcome answer h).running)
        (All-filter (λ q. not (is_of a q)) P c.running all)

    pub posted_hold : (c after : CoreData) (a : AttemptId) (outcome : Outcome) (answer : Answer)
        → All P c.running → Posts c a outcome answer after → All P after.running
    posted_hold c after a outcome answer all step = by (job_runs c) step
      where
        late : (delay : Option ℕ) → PostsBy delay c a outcome answer after
            → All P after.running
        late None h =
            let mid = shelved_if (comes_twice c a) c a outcome 0 in
            told_hold (running_of mid a) mid after a outcome answer
            (shelved_hold (comes_twice c a) c a outcome 0 all) h
        late (Some delay) (told, is) =
            subst (λ (x : CoreData). All P x.running) (sym is)
            (shelved_hold (comes_twice c a) (shelved c a outcome delay) a outcome delay
            (shelved_hold true c a outcome delay all))

        of : (o : Option Running) → PostsOf o c a outcome answer after → All P after.running
        of None (told, is) = subst (λ (x : CoreData). All P x.running) (sym is) all
        of (Some r) (fit, h) = late (delay_for c a) h

        by : (b : Bool) → PostsIf b c a outcome answer after → All P after.running
        by false (told, is) = subst (λ (x : CoreData). All P x.running) (sym is) all
        by true h = of (running_of c a) h

    pub released_hold : (c after : CoreData) (key : ℕ) (answer : Answer) → All P c.running
        → Releases c key answer after → All P after.running
    released_hold c after key answer all step = by (job_runs c) step
      where
        of : (o : Option Shelved) → ReleasesOf o c key answer after → All P after.running
        of None h = absurd h
        of (Some s) h =
            told_hold (running_of c s.attempt) _ after s.attempt s.outcome answer all h

        by : (b : Bool) → ReleasesIf b c key answer after → All P after.running
        by false (told, is) = subst (λ (x : CoreData). All P x.running) (sym is) all
        by true h = of (shelved_of c key) h

    pub lost_hold : (c after : CoreData) (exec : ℕ) (answer : Answer) → All P c.running
        → Loses c exec answer after → All P after.running
    lost_hold c after exec answer all (may, step) =
        by (are_lost (without_executor c exec).dag.tracker.trust) step
      where
        kept : All P (filter (λ r. not (runs_on exec r)) c.running)
        kept = All-filter (λ r. not (runs_on exec r)) P c.running all

        by : (b : Bool) → LosesOrAborts b (without_executor c exec) answer after
            → All P after.running
        by true (told, is) = subst (λ (x : CoreData). All P x.running) (sym is) kept
        by false (told, is) = subst (λ (x : CoreData). All P x.running) (sym is) kept

-- ---- what is heard

ignored : {A : Type 0} (answer : Answer) → answer ≡ says.Ignored → is_heard answer ≡ true → A
ignored answer told heard = absurd (true≢false (sym heard ∙ ap is_heard told))

-- an attempt runs, and such a report fits it
pub record FitsOne (c : CoreData) (a : AttemptId) (outcome : Outcome) : Type 0 where
  pub running : Running
  pub found : running_of c a ≡ Some running
  pub fit : fits c running outcome ≡ true

-- what holds of each attempt that runs holds of it
pub holds_of_one : (P : Running → Type 0) (c : CoreData) (a : AttemptId) (outcome : Outcome)
    → All P c.running → (one : FitsOne c a outcome) → P one.running
holds_of_one P c a outcome all one = found_is P (is_of a) c.running one.running all one.found

-- a report that is heard as it is posted fits its attempt
pub post_fits : (c after : CoreData) (a : AttemptId) (outcome : Outcome) (answer : Answer)
    → is_heard answer ≡ true → Posts c a outcome answer after → FitsOne c a outcome
post_fits c after a outcome answer heard step = by (job_runs c) step
  where
    of : (o : Option Running) → running_of c a ≡ o → PostsOf o c a outcome answer after
        → FitsOne c a outcome
    of None e (told, is) = ignored answer told heard
    of (Some r) e (fit, h) = record { running = r; found = e; fit = fit }

    by : (b : Bool) → PostsIf b c a outcome answer after → FitsOne c a outcome
    by false (told, is) = ignored answer told heard
    by true h = of (running_of c a) refl h

-- so does one that is heard late
pub release_fits : (c after : CoreData) (key : ℕ) (answer : Answer) (s : Shelved) → IsSoundCore c
    → is_heard answer ≡ true → shelved_of c key ≡ Some s → Releases c key answer after
    → FitsOne c s.attempt s.outcome
release_fits c after key answer s sound heard e step = by (job_runs c) refl step
  where
    at : job_runs c ≡ true → (o : Option Running) → running_of c s.attempt ≡ o
        → (m : CoreData) → TellsTo o m s.attempt s.outcome answer after
        → FitsOne c s.attempt s.outcome
    at runs None f m (told, is) = ignored answer told heard
    at runs (Some r) f m h =
        let well : IsShelvedWell c s =
        found_is (IsShelvedWell c) (has_key key) c.shelf s (sound.shelf runs).each e in
        record { running = r; found = f; fit = (awaits_it c s r well f).fit }

    of : job_runs c ≡ true → (o : Option Shelved) → o ≡ Some s → ReleasesOf o c key answer after
        → FitsOne c s.attempt s.outcome
    of runs None f h = absurd h
    of runs (Some t) f h =
        let same : t ≡ s = search (rules, f) in
        at runs (running_of c s.attempt) refl _
        (subst (λ (x : Shelved). TellsTo (running_of c x.attempt) (without_shelved c key)
        x.attempt x.outcome answer after) same h)

    by : (b : Bool) → job_runs c ≡ b → ReleasesIf b c key answer after
        → FitsOne c s.attempt s.outcome
    by false over (told, is) = ignored answer told heard
    by true runs h = of runs (shelved_of c key) e h
