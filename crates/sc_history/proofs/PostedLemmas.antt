-- Each report that is heard was posted.
use Rattle.std.proofs.Common.{◌≡◌, ℕ, Bool, true, false, not, List, [], ◌∷◌, ◌++◌, All, Contains, Option, Some, None, refl, ap, sym, subst, ◌∙◌, append_assoc, true≢false, inl, inr}
use Rattle.std.proofs.lemmas.List.Elements.{All-append, All-cons, All-filter, All-nil, All-push, All-weaker, Contains-append_left, Contains-push}
use Rattle.sc_ids.specs.declared.attempts.AttemptId.{AttemptId}
use Rattle.sc_commit.specs.declared.committers.Ending.TheVariants as endings
use Rattle.sc_taskset.proofs.FindLemmas.{found_is}
use Rattle.sc_tracker.specs.Trust.{are_lost}
use Rattle.sc_dag.specs.Losses.{after_lost}
use Rattle.sc_dag.proofs.Tests.{both_left}
use Rattle.sc_core.specs.CoreData.{CoreData, has_key, job_runs, running_of, shelved, shelved_if, shelved_of, taken_off, to_be_told, with_dag, without_shelved}
use Rattle.sc_core.specs.Journals.{Replays}
use Rattle.sc_core.specs.Losses.{LosesOrAborts, all_released, attempts_on, without_executor}
use Rattle.sc_core.specs.Posts.{PostsBy, PostsIf, PostsOf, comes_twice, delay_for}
use Rattle.sc_core.specs.Releases.{ReleasesIf, ReleasesOf}
use Rattle.sc_core.specs.Steps.{Steps}
use Rattle.sc_core.specs.Takes.{Takes}
use Rattle.sc_core.specs.Tells.{TellsTo, released}
use Rattle.sc_core.specs.declared.answers.Answer.{Answer}
use Rattle.sc_core.specs.declared.entries.Entry.{Entry}
use Rattle.sc_core.specs.declared.events.Event.{Event}
use Rattle.sc_core.specs.declared.events.Event.TheVariants.{Post, Release, Side, Take, TellLost}
use Rattle.sc_core.specs.declared.events.Outcome.{Outcome}
use Rattle.sc_core.specs.declared.running.Running.{Running}
use Rattle.sc_core.specs.declared.running.Shelved.{Shelved}
use Rattle.sc_core.proofs.LeftLemmas.{tells_left}
use Rattle.sc_history.specs.Tellings.{IsPosted, ReportsArePosted, Telling, is_heard, telling, tellings, tellings_in, told_late}
use Rattle.sc_core.specs.CoreData.{is_running_job}
use Rattle.sc_core.proofs.SideLemmas.{steps_aside}
use Rattle.sc_core.proofs.TakeCases.{TakesSo, takes_so}

-- ---- what is to be told later

-- what holds of each report that is to be told later, in a job that runs
abbrev OfShelf : (Shelved → Type 0) → CoreData → Type 0
OfShelf P c = job_runs c ≡ true → All P c.shelf

-- it holds of each that an event puts there
abbrev OfPosted : (Shelved → Type 0) → Event → Type 0
OfPosted P event = (s : Shelved) → event ≡ Post s.attempt s.outcome → P s

tells_shelf :
    (P : Shelved → Type 0) (c after : CoreData) (o : Option Running) (a : AttemptId)
    (outcome : Outcome) (answer : Answer) → All P c.shelf → TellsTo o c a outcome answer after
    → OfShelf P after
tells_shelf P c after None a outcome answer all (told, is) =
    λ r. subst (λ (x : CoreData). All P x.shelf) (sym is) all
tells_shelf P c after (Some r) a outcome answer all tells =
    λ runs. subst (λ shelf. All P shelf)
    (sym ((tells_left (taken_off c a) after r outcome answer tells).shelf runs)) all

takes_shelf :
    (P : Shelved → Type 0) (c after : CoreData) (exec : ℕ) (answer : Answer)
    → Takes c exec answer after → OfShelf P c → OfShelf P after
takes_shelf P c after exec answer h all = by (takes_so c after exec answer h)
  where
    by : TakesSo c after exec answer → OfShelf P after
    by (inl t) = subst (λ x. OfShelf P x) (sym t.is) all
    by (inr (inl b)) = λ runs. absurd (true≢false (sym runs ∙ ap job_runs b.is))
    by (inr (inr same)) = subst (λ x. OfShelf P x) (sym same.is) all

posts_shelf :
    (P : Shelved → Type 0) (c after : CoreData) (a : AttemptId) (outcome : Outcome)
    (answer : Answer) → PostsIf (job_runs c) c a outcome answer after → OfShelf P c
    → OfPosted P (Post a outcome) → OfShelf P after
posts_shelf P c after a outcome answer step all new = by (job_runs c) refl step
  where
    one : (m : CoreData) (delay : ℕ) → All P m.shelf → All P (shelved m a outcome delay).shelf
    one m delay h =
        let s = to_be_told m a outcome delay in All-push P m.shelf s h (new s refl)

    more : (twice : Bool) (m : CoreData) (delay : ℕ) → All P m.shelf
        → All P (shelved_if twice m a outcome delay).shelf
    more false m delay h = h
    more true m delay h = one m delay h

    posts : All P c.shelf → (delay : Option ℕ) → PostsBy delay c a outcome answer after
        → OfShelf P after
    posts h None tells =
        let next = shelved_if (comes_twice c a) c a outcome 0 in
        tells_shelf P next after (running_of next a) a outcome answer (more (comes_twice c a) c 0 h)
        tells
    posts h (Some delay) (told, is) =
        λ runs. subst (λ (x : CoreData). All P x.shelf) (sym is)
        (more (comes_twice c a) (shelved c a outcome delay) delay (one c delay h))

    of : (o : Option Running) → All P c.shelf → PostsOf o c a outcome answer after
        → OfShelf P after
    of None h (told, is) = λ runs. subst (λ (x : CoreData). All P x.shelf) (sym is) h
    of (Some r) h (fit, tells) = posts h (delay_for c a) tells

    by : (b : Bool) → job_runs c ≡ b → PostsIf b c a outcome answer after → OfShelf P after
    by false e (told, is) = subst (λ x. OfShelf P x) (sym is) all
    by true e h = of (running_of c a) (all e) h

releases_shelf :
    (P : Shelved → Type 0) (c after : CoreData) (key : ℕ) (answer : Answer)
    → ReleasesIf (job_runs c) c key answer after → OfShelf P c → OfShelf P after
releases_shelf P c after key answer step all = by (job_runs c) refl step
  where
    of : (o : Option Shelved) → All P c.shelf → ReleasesOf o c key answer after
        → OfShelf P after
    of None h bad = absurd bad
    of (Some s) h tells =
        tells_shelf P (without_shelved c key) after (running_of c s.attempt) s.attempt s.outcome
        answer (All-filter (λ x. not (has_key key x)) P c.shelf h) tells

    by : (b : Bool) → job_runs c ≡ b → ReleasesIf b c key answer after → OfShelf P after
    by false e (told, is) = subst (λ x. OfShelf P x) (sym is) all
    by true e h = of (shelved_of c key) (all e) h

all_shelf : (these : List AttemptId) (c : CoreData) → (all_released these c).shelf ≡ c.shelf
all_shelf [] c = refl
all_shelf (a ∷ these) c = all_shelf these (released c a endings.Failed)

steps_shelf :
    (P : Shelved → Type 0) (c after : CoreData) (event : Event) (answer : Answer)
    → Steps c event answer after → OfShelf P c → OfPosted P event → OfShelf P after
steps_shelf P c after (Take exec) answer step all new =
    takes_shelf P c after exec answer step all
steps_shelf P c after (Post a outcome) answer step all new =
    posts_shelf P c after a outcome answer step all new
steps_shelf P c after (Release key) answer step all new =
    releases_shelf P c after key answer step all
steps_shelf P c after (Side event) answer step all new =
    let is = steps_aside c after event answer step in
    λ runs. subst (λ shelf. All P shelf) (sym is.shelf)
    (all (ap is_running_job (sym is.job) ∙ runs))
steps_shelf P c after (TellLost exec) answer (may, step) all new =
    by (are_lost next.dag.tracker.trust) step
  where
    next : CoreData
    next = without_executor c exec

    from : CoreData
    from = with_dag c (after_lost c.dag exec)

    runs : job_runs c ≡ true
    runs = both_left (job_runs c) _ may

    by : (b : Bool) → LosesOrAborts b next answer after → OfShelf P after
    by true (told, is) = λ r. absurd (true≢false (sym r ∙ ap job_runs is))
    by false (told, is) =
        λ r. subst (λ shelf. All P shelf)
        (sym (ap (λ (x : CoreData). x.shelf) is ∙ all_shelf (attempts_on exec c.running) from))
        (all runs)

-- ---- journals

-- a report that is to be told later was posted
abbrev WasPosted : List Entry → Shelved → Type 0
WasPosted entries s =
    (entry : Entry) × Contains entries entry × (entry.event ≡ Post s.attempt s.outcome)

abbrev IfHeard : List Entry → Telling → Type 0
IfHeard entries t = is_heard t.answer ≡ true → IsPosted entries t

posted_more : (entries more : List Entry) (s : Shelved) → WasPosted entries s
    → WasPosted (entries ++ more) s
posted_more entries more s (e, there, is) = (e, Contains-append_left entries more e there, is)

told_more : (entries more : List Entry) (t : Telling) → IfHeard entries t
    → IfHeard (entries ++ more) t
told_more entries more t h heard = by (h heard)
  where
    by : IsPosted entries t → IsPosted (entries ++ more) t
    by (e, there, is) = (e, Contains-append_left entries more e there, is)

-- the report that an entry is of
entry_told : (before : List Entry) (c after : CoreData) (e : Entry)
    → OfShelf (WasPosted before) c → Steps c e.event e.answer after
    → All (IfHeard (before ++ e ∷ [])) (tellings_in c e.event e.answer)
entry_told before c after e all step = by e.event refl step
  where
    new : List Entry
    new = before ++ e ∷ []

    late : (key : ℕ) (o : Option Shelved) → shelved_of c key ≡ o
        → ReleasesIf (job_runs c) c key e.answer after
        → All (IfHeard (before ++ e ∷ [])) (told_late o e.answer)
    late key None f h = All-nil (IfHeard new)
    late key (Some s) f h =
        All-cons (IfHeard new) (telling s.attempt s.outcome e.answer) [] heard
        (All-nil (IfHeard new))
      where
        ran : is_heard e.answer ≡ true → (b : Bool) → job_runs c ≡ b
            → ReleasesIf b c key e.answer after → job_runs c ≡ true
        ran says_so false g (told, is) = absurd (true≢false (sym says_so ∙ ap is_heard told))
        ran says_so true g k = g

        heard : IfHeard (before ++ e ∷ []) (telling s.attempt s.outcome e.answer)
        heard says_so =
            posted_more before (e ∷ []) s
            (found_is (WasPosted before) (has_key key) c.shelf s
            (all (ran says_so (job_runs c) refl h)) f)

    by : (event : Event) → e.event ≡ event → Steps c event e.answer after
        → All (IfHeard (before ++ e ∷ [])) (tellings_in c event e.answer)
    by (Take exec) is h = All-nil (IfHeard new)
    by (Post a outcome) is h =
        All-cons (IfHeard new) (telling a outcome e.answer) []
        (λ heard. (e, Contains-push before e, is)) (All-nil (IfHeard new))
    by (Release key) is h = late key (shelved_of c key) refl h
    by (Side event) is h = All-nil (IfHeard new)
    by (TellLost exec) is h = All-nil (IfHeard new)

posted_along : (before : List Entry) (c : CoreData) → OfShelf (WasPosted before) c
    → (entries : List Entry) (end : CoreData) (replays : Replays c entries end)
    → All (IfHeard (before ++ entries)) (tellings c entries end replays)
posted_along before c all [] end is = All-nil (IfHeard (before ++ []))
posted_along before c all (e ∷ entries) end (mid, step, rest) =
    All-append (IfHeard (before ++ e ∷ entries)) (tellings_in c e.event e.answer)
    (tellings mid entries end rest)
    (subst (λ es. All (IfHeard es) (tellings_in c e.event e.answer)) same
    (All-weaker (IfHeard (before ++ e ∷ [])) (IfHeard ((before ++ e ∷ []) ++ entries))
    (told_more (before ++ e ∷ []) entries) (tellings_in c e.event e.answer)
    (entry_told before c mid e all step)))
    (subst (λ es. All (IfHeard es) (tellings mid entries end rest)) same
    (posted_along (before ++ e ∷ []) mid next entries end rest))
  where
    same : (before ++ e ∷ []) ++ entries ≡ before ++ e ∷ entries
    same = append_assoc before (e ∷ []) entries

    next : OfShelf (WasPosted (before ++ e ∷ [])) mid
    next =
        steps_shelf (WasPosted (before ++ e ∷ [])) c mid e.event e.answer step
        (λ runs. All-weaker (WasPosted before) (WasPosted (before ++ e ∷ []))
        (posted_more before (e ∷ [])) c.shelf (all runs))
        (λ s is. (e, Contains-push before e, is))

pub reports_are_posted : ReportsArePosted
reports_are_posted opening end entries none replays =
    posted_along [] opening
    (λ runs. subst (λ shelf. All (WasPosted []) shelf) (sym none) (All-nil (WasPosted [])))
    entries end replays
