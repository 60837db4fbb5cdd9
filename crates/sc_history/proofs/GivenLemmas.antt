-- What runs was handed out.
use Rattle.std.proofs.Common.{◌≡◌, ℕ, Bool, true, false, not, List, [], ◌∷◌, ◌++◌, All, Option, Some, None, refl, ap, sym, subst, ◌∙◌, append_assoc, inl, inr}
use Rattle.std.specs.List.{filter}
use Rattle.std.proofs.lemmas.List.Elements.{All-append, All-cons, All-filter, All-map, All-nil, All-push, All-weaker, Contains-append_left, Contains-push}
use Rattle.sc_ids.specs.declared.attempts.AttemptId.{AttemptId}
use Rattle.sc_taskset.proofs.FindLemmas.{found_is}
use Rattle.sc_tracker.specs.Trust.{are_lost}
use Rattle.sc_dag.proofs.Tests.{clash}
use Rattle.sc_core.specs.CoreData.{CoreData, as_in, is_of, job_runs, running_of, shelved, shelved_if, shelved_of, taken_off, without_shelved}
use Rattle.sc_core.specs.HandOuts.{HandOutData}
use Rattle.sc_core.specs.Journals.{Replays}
use Rattle.sc_core.specs.Losses.{LosesOrAborts, runs_on, without_executor}
use Rattle.sc_core.specs.Posts.{PostsBy, PostsIf, PostsOf, comes_twice, delay_for}
use Rattle.sc_core.specs.Releases.{ReleasesIf, ReleasesOf}
use Rattle.sc_core.specs.Sound.{IsSoundCore}
use Rattle.sc_core.specs.Sides.{IsAside, StepsAside}
use Rattle.sc_core.specs.Steps.{Steps}
use Rattle.sc_core.specs.Takes.{Takes, running_on}
use Rattle.sc_core.specs.Tells.{TellsTo}
use Rattle.sc_core.specs.declared.answers.Answer.{Answer}
use Rattle.sc_core.specs.declared.answers.Answer.TheVariants as says
use Rattle.sc_core.specs.declared.entries.Entry.{Entry}
use Rattle.sc_core.specs.declared.events.Event.{Event}
use Rattle.sc_core.specs.declared.events.Event.TheVariants.{Post, Release, Side, Take, TellLost}
use Rattle.sc_core.specs.declared.events.Outcome.{Outcome}
use Rattle.sc_core.specs.declared.events.SideEvent.{SideEvent}
use Rattle.sc_core.specs.declared.running.Running.{Running}
use Rattle.sc_core.specs.declared.running.Shelved.{Shelved}
use Rattle.sc_core.proofs.LawLemmas.{steps_keep_sound}
use Rattle.sc_core.proofs.LeftLemmas.{tells_left}
use Rattle.sc_core.proofs.SideLemmas.{steps_aside}
use Rattle.sc_core.proofs.TakeCases.{TakesSo, takes_so}
use Rattle.sc_history.specs.Given.{HeardAreGiven, IsGiven, IsOfGiven, RunningAreGiven}
use Rattle.sc_history.specs.Tellings.{Telling, is_heard, telling, tellings, tellings_in, told_late}
use Rattle.sc_history.proofs.Events.{Comes, in_exec, in_hand, in_phase, posts_come, releases_come}

-- ---- what holds of all that run, by their tasks, executors and how far they have come

module _ (P : Running → Type 0)
    (same : (q r : Running) → r.hand_out ≡ q.hand_out → r.exec ≡ q.exec → r.phase ≡ q.phase → P q
    → P r) where
  tells_running :
      (o : Option Running) (m after : CoreData) (a : AttemptId) (outcome : Outcome)
      (answer : Answer) → All P m.running → TellsTo o m a outcome answer after
      → All P after.running
  tells_running None m after a outcome answer all (told, is) =
      subst (λ (x : CoreData). All P x.running) (sym is) all
  tells_running (Some r) m after a outcome answer all tells =
      subst (λ rs. All P rs) (sym (tells_left (taken_off m a) after r outcome answer tells).running)
      (All-filter (λ q. not (is_of a q)) P m.running all)

  posts_running :
      (c after : CoreData) (a : AttemptId) (outcome : Outcome) (answer : Answer)
      → PostsIf (job_runs c) c a outcome answer after → All P c.running → All P after.running
  posts_running c after a outcome answer step all = by (job_runs c) step
    where
      one : (m : CoreData) (delay : ℕ) → All P m.running
          → All P (shelved m a outcome delay).running
      one m delay h =
          All-map P (as_in a) m.running
          (All-weaker P (λ r. P (as_in a r))
          (λ r p. same r (as_in a r) (in_hand a r) (in_exec a r) (in_phase a r) p) m.running h)

      more : (twice : Bool) (m : CoreData) (delay : ℕ) → All P m.running
          → All P (shelved_if twice m a outcome delay).running
      more false m delay h = h
      more true m delay h = one m delay h

      posts : (delay : Option ℕ) → PostsBy delay c a outcome answer after → All P after.running
      posts None tells =
          let next = shelved_if (comes_twice c a) c a outcome 0 in
          tells_running (running_of next a) next after a outcome answer
          (more (comes_twice c a) c 0 all) tells
      posts (Some delay) (told, is) =
          subst (λ (x : CoreData). All P x.running) (sym is)
          (more (comes_twice c a) (shelved c a outcome delay) delay (one c delay all))

      of : (o : Option Running) → PostsOf o c a outcome answer after → All P after.running
      of None (told, is) = subst (λ (x : CoreData). All P x.running) (sym is) all
      of (Some r) (fit, tells) = posts (delay_for c a) tells

      by : (b : Bool) → PostsIf b c a outcome answer after → All P after.running
      by false (told, is) = subst (λ (x : CoreData). All P x.running) (sym is) all
      by true h = of (running_of c a) h

  releases_running :
      (c after : CoreData) (key : ℕ) (answer : Answer)
      → ReleasesIf (job_runs c) c key answer after → All P c.running → All P after.running
  releases_running c after key answer step all = by (job_runs c) step
    where
      of : (o : Option Shelved) → ReleasesOf o c key answer after → All P after.running
      of None bad = absurd bad
      of (Some s) tells =
          tells_running (running_of c s.attempt) (without_shelved c key) after s.attempt s.outcome
          answer all tells

      by : (b : Bool) → ReleasesIf b c key answer after → All P after.running
      by false (told, is) = subst (λ (x : CoreData). All P x.running) (sym is) all
      by true h = of (shelved_of c key) h

  takes_running :
      (c after : CoreData) (exec : ℕ) (answer : Answer) → Takes c exec answer after
      → All P c.running
      → ((h : HandOutData) → answer ≡ says.Task h → P (running_on h exec))
      → All P after.running
  takes_running c after exec answer step all new = by (takes_so c after exec answer step)
    where
      by : TakesSo c after exec answer → All P after.running
      by (inl t) =
          subst (λ (x : CoreData). All P x.running) (sym t.is)
          (All-push P c.running (running_on t.task exec) all (new t.task t.told))
      by (inr (inl b)) = subst (λ (x : CoreData). All P x.running) (sym b.is) all
      by (inr (inr held)) = subst (λ (x : CoreData). All P x.running) (sym held.is) all

  -- a task is new, and what happens beside the reports brings attempts further
  pub steps_running :
      (c after : CoreData) (event : Event) (answer : Answer) → Steps c event answer after
      → All P c.running
      → ((exec : ℕ) (h : HandOutData) → event ≡ Take exec → answer ≡ says.Task h
      → P (running_on h exec))
      → ((side : SideEvent) → event ≡ Side side → StepsAside c side answer after
      → All P after.running)
      → All P after.running
  steps_running c after (Take exec) answer step all new aside =
      takes_running c after exec answer step all (λ h told. new exec h refl told)
  steps_running c after (Post a outcome) answer step all new aside =
      posts_running c after a outcome answer step all
  steps_running c after (Release key) answer step all new aside =
      releases_running c after key answer step all
  steps_running c after (Side event) answer step all new aside = aside event refl step
  steps_running c after (TellLost exec) answer (may, step) all new aside =
      by (are_lost (without_executor c exec).dag.tracker.trust) step
    where
      left : All P (filter (λ r. not (runs_on exec r)) c.running)
      left = All-filter (λ r. not (runs_on exec r)) P c.running all

      by : (b : Bool) → LosesOrAborts b (without_executor c exec) answer after
          → All P after.running
      by true (told, is) = subst (λ (x : CoreData). All P x.running) (sym is) left
      by false (told, is) = subst (λ (x : CoreData). All P x.running) (sym is) left

-- ---- journals

given_same : (entries : List Entry) (q r : Running) → r.hand_out ≡ q.hand_out → r.exec ≡ q.exec
    → IsGiven entries q → IsGiven entries r
given_same entries q r hand exec g =
    record {
      entry = g.entry;
      among = g.among;
      asked = g.asked ∙ ap Take (sym exec);
      task = g.task ∙ ap says.Task (sym hand);
    }

given_more : (entries more : List Entry) (r : Running) → IsGiven entries r
    → IsGiven (entries ++ more) r
given_more entries more r g =
    record {
      entry = g.entry;
      among = Contains-append_left entries more g.entry g.among;
      asked = g.asked;
      task = g.task;
    }

-- one more entry
given_next : (before : List Entry) (e : Entry) (c after : CoreData)
    → All (IsGiven before) c.running → Steps c e.event e.answer after
    → All (IsGiven (before ++ e ∷ [])) after.running
given_next before e c after all step =
    steps_running (IsGiven now)
    (λ q r hand exec phase g. given_same now q r hand exec g) c after e.event e.answer step were
    (λ exec h asked told. record {
      entry = e;
      among = Contains-push before e;
      asked = asked;
      task = told;
    })
    (λ side is aside. further (steps_aside c after side e.answer aside))
  where
    now : List Entry
    now = before ++ e ∷ []

    were : All (IsGiven (before ++ e ∷ [])) c.running
    were =
        All-weaker (IsGiven before) (IsGiven now) (given_more before (e ∷ [])) c.running all

    further : IsAside c after → All (IsGiven (before ++ e ∷ [])) after.running
    further is =
        subst (λ rs. All (IsGiven now) rs) (sym is.running)
        (All-map (IsGiven now) is.further c.running
        (All-weaker (IsGiven now) (λ r. IsGiven now (is.further r))
        (λ r p. given_same now r (is.further r) (is.each r).hand_out (is.each r).exec p) c.running
        were))

given_along : (before : List Entry) (c : CoreData) → All (IsGiven before) c.running
    → (entries : List Entry) (end : CoreData) → Replays c entries end
    → All (IsGiven (before ++ entries)) end.running
given_along before c all [] end is =
    subst (λ (x : CoreData). All (IsGiven (before ++ [])) x.running) (sym is)
    (All-weaker (IsGiven before) (IsGiven (before ++ [])) (given_more before []) c.running all)
given_along before c all (e ∷ entries) end (mid, step, rest) =
    subst (λ es. All (IsGiven es) end.running) (append_assoc before (e ∷ []) entries)
    (given_along (before ++ e ∷ []) mid (given_next before e c mid all step) entries end rest)

pub running_are_given : RunningAreGiven
running_are_given opening end entries none replays =
    given_along [] opening (subst (λ rs. All (IsGiven []) rs) (sym none) (All-nil (IsGiven [])))
    entries end replays

-- ---- reports that are heard

abbrev IfHeard : List Entry → Telling → Type 0
IfHeard entries t = is_heard t.answer ≡ true → IsOfGiven entries t

heard_more : (entries more : List Entry) (t : Telling) → IfHeard entries t
    → IfHeard (entries ++ more) t
heard_more entries more t h heard =
    let g = h heard in
    record { one = g.one; attempt = g.attempt; given = given_more entries more g.one g.given }

-- no report is heard
unheard : (entries : List Entry) (c : CoreData) (event : Event) (answer : Answer)
    → is_heard answer ≡ false → All (IfHeard entries) (tellings_in c event answer)
unheard entries c event answer not_so = by event
  where
    one : (a : AttemptId) (outcome : Outcome)
        → All (IfHeard entries) (telling a outcome answer ∷ [])
    one a outcome =
        All-cons (IfHeard entries) (telling a outcome answer) []
        (λ is_so. absurd (clash is_so not_so))
        (All-nil (IfHeard entries))

    late : (o : Option Shelved) → All (IfHeard entries) (told_late o answer)
    late None = All-nil (IfHeard entries)
    late (Some s) = one s.attempt s.outcome

    by : (event : Event) → All (IfHeard entries) (tellings_in c event answer)
    by (Take exec) = All-nil (IfHeard entries)
    by (Post a outcome) = one a outcome
    by (Release key) = late (shelved_of c key)
    by (Side event) = All-nil (IfHeard entries)
    by (TellLost exec) = All-nil (IfHeard entries)

comes_heard : (entries : List Entry) (c after : CoreData) (event : Event) (answer : Answer)
    → IsSoundCore c → All (IsGiven entries) c.running → Comes c after event answer
    → All (IfHeard entries) (tellings_in c event answer)
comes_heard entries c after event answer sound all (inl q) =
    unheard entries c event answer q.unheard
comes_heard entries c after event answer sound all (inr h) =
    let known = h.known sound in
    subst (λ told. All (IfHeard entries) told) (sym known.told)
    (All-cons (IfHeard entries) (telling h.one.hand_out.attempt h.outcome answer) []
    (λ is_so. record {
      one = known.ran;
      attempt = ap (λ (x : HandOutData). x.attempt) known.hand;
      given = found_is (IsGiven entries) (is_of known.ran.hand_out.attempt) c.running known.ran all
          known.found;
    })
    (All-nil (IfHeard entries)))

entry_heard : (before : List Entry) (e : Entry) (c after : CoreData) → IsSoundCore c
    → All (IsGiven before) c.running → Steps c e.event e.answer after
    → All (IfHeard before) (tellings_in c e.event e.answer)
entry_heard before e c after sound all step = by e.event step
  where
    by : (event : Event) → Steps c event e.answer after
        → All (IfHeard before) (tellings_in c event e.answer)
    by (Take exec) h = All-nil (IfHeard before)
    by (Post a outcome) h =
        comes_heard before c after (Post a outcome) e.answer sound all
        (posts_come c after a outcome e.answer h)
    by (Release key) h =
        comes_heard before c after (Release key) e.answer sound all
        (releases_come c after key e.answer h)
    by (Side event) h = All-nil (IfHeard before)
    by (TellLost exec) h = All-nil (IfHeard before)

heard_along : (before : List Entry) (c : CoreData) → IsSoundCore c → All (IsGiven before) c.running
    → (entries : List Entry) (end : CoreData) (replays : Replays c entries end)
    → All (IfHeard (before ++ entries)) (tellings c entries end replays)
heard_along before c sound all [] end is = All-nil (IfHeard (before ++ []))
heard_along before c sound all (e ∷ entries) end (mid, step, rest) =
    All-append (IfHeard (before ++ e ∷ entries)) (tellings_in c e.event e.answer)
    (tellings mid entries end rest)
    (All-weaker (IfHeard before) (IfHeard (before ++ e ∷ entries)) (heard_more before (e ∷ entries))
    (tellings_in c e.event e.answer) (entry_heard before e c mid sound all step))
    (subst (λ es. All (IfHeard es) (tellings mid entries end rest))
    (append_assoc before (e ∷ []) entries)
    (heard_along (before ++ e ∷ []) mid (steps_keep_sound c mid e.event e.answer sound step)
    (given_next before e c mid all step) entries end rest))

pub heard_are_given : HeardAreGiven
heard_are_given opening end entries sound none replays =
    heard_along [] opening sound
    (subst (λ rs. All (IsGiven []) rs) (sym none) (All-nil (IsGiven []))) entries end replays
