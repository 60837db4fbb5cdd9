-- What each event does to grants and to who has won.
use Rattle.std.proofs.Common.{◌≡◌, ◌≢◌, ◌⊎◌, inl, inr, ℕ, ◌<◌, ◌≤◌, ◌==◌, ◌||◌, not, Bool, true, false, if◌then◌else◌, List, [], ◌∷◌, Some, None, get_or, length, slice_get, refl, ap, sym, subst, ◌∙◌, rules, true≢false}
use Rattle.std.proofs.lemmas.Option.{slice_get_cases}
use Rattle.sc_ids.specs.declared.attempts.AttemptId.{AttemptId}
use Rattle.sc_ids.proofs.ChangeLemmas.{at_or_change_same, at_or_slice_get, change_at_past}
use Rattle.sc_commit.specs.CommitFacts.{IsSoundCommit}
use Rattle.sc_commit.specs.CommitLaws.{holder_of, winner_of}
use Rattle.sc_commit.specs.Committers.{committer_at, holder_in, winner_in}
use Rattle.sc_commit.specs.Committing.{after_ask, after_end, answer_to, asked, is_same}
use Rattle.sc_commit.specs.declared.committers.Committer.{Committer}
use Rattle.sc_commit.specs.declared.committers.Committer.TheVariants.{Holder, Nobody, Winner}
use Rattle.sc_commit.specs.declared.committers.Ending.TheVariants as endings
use Rattle.sc_commit.specs.declared.committers.Permission.{Permission}
use Rattle.sc_commit.specs.declared.committers.Permission.TheVariants as permissions
use Rattle.sc_commit.proofs.LawLemmas.{winners_held}
use Rattle.sc_tracker.specs.Trust.{are_lost}
use Rattle.sc_dag.specs.DagData.{stage_at}
use Rattle.sc_dag.specs.Losses.{after_lost}
use Rattle.sc_dag.specs.Reports.{is_repeat, reaches_limit_in, result_success_of, set_of}
use Rattle.sc_dag.specs.Submission.{is_map}
use Rattle.sc_dag.specs.declared.reports.Success.{Success}
use Rattle.sc_dag.specs.declared.reports.Success.TheVariants as successes
use Rattle.sc_dag.proofs.Tests.{both_right}
use Rattle.sc_core.specs.CoreData.{CoreData, job_runs, running_of, with_dag}
use Rattle.sc_core.specs.HandOuts.{HandOutData}
use Rattle.sc_core.specs.Losses.{LosesOrAborts, all_released, attempts_on, without_executor}
use Rattle.sc_core.specs.Posts.{fits, has_moved, is_save}
use Rattle.sc_core.specs.Saving.{AsksBy, AsksIf, MovesIf, StagesIf, is_given, is_granted, is_staged, saver_phase}
use Rattle.sc_core.specs.Sides.{LeavesIf, Sides, TicksIf}
use Rattle.sc_core.specs.Sound.{IsSoundCore}
use Rattle.sc_core.specs.Steps.{Steps}
use Rattle.sc_core.specs.Tells.{Tells, TellsFailureIf, TellsResult, after_failure, after_result, done_if, is_zombie_in, released, success_answer, with_result_of}
use Rattle.sc_core.specs.declared.answers.Answer.{Answer}
use Rattle.sc_core.specs.declared.answers.Answer.TheVariants as says
use Rattle.sc_core.specs.declared.answers.SideAnswer.{SideAnswer}
use Rattle.sc_core.specs.declared.answers.SideAnswer.TheVariants as sides
use Rattle.sc_core.specs.declared.events.Event.{Event}
use Rattle.sc_core.specs.declared.events.Event.TheVariants.{Post, Release, Side, Take, TellLost}
use Rattle.sc_core.specs.declared.events.Outcome.{Outcome}
use Rattle.sc_core.specs.declared.events.Outcome.TheVariants as outcomes
use Rattle.sc_core.specs.declared.events.SideEvent.{SideEvent}
use Rattle.sc_core.specs.declared.events.SideEvent.TheVariants.{Ask, Leave, Move, Stage, Tick}
use Rattle.sc_core.specs.declared.running.Phase.{Phase}
use Rattle.sc_core.specs.declared.running.Phase.TheVariants as phases
use Rattle.sc_core.specs.declared.running.Running.{Running}
use Rattle.sc_core.proofs.GrantLemmas.{committer_other, equal, failed_winners, holder_ended}
use Rattle.sc_core.proofs.SaveAsideLemmas.{asked_winner}
use Rattle.sc_core.proofs.SaveResultLemmas.{holder_within}
use Rattle.sc_core.proofs.SaveTellLemmas.{causes_stay}
use Rattle.sc_core.proofs.TakeCases.{TakesSo, takes_so}
use Rattle.sc_commit.proofs.CommitLemmas.{change_sound, ended_sound}
use Rattle.sc_commit.specs.Committing as commit
use Rattle.sc_history.specs.Tellings.{telling, tellings_in}
use Rattle.sc_history.proofs.Events.{Comes, IsHeard, IsKnown, is_aside, posts_come, releases_come}

-- ---- a report

-- what a report that is told does to the committers: nothing, or its attempt has ended
abbrev pub EndsSo : List Committer → List Committer → AttemptId → Outcome → Answer → Type 0
EndsSo ks now a outcome answer =
    (now ≡ ks)
    ⊎ ((now ≡ after_end ks a endings.Failed)
    ⊎ ((now ≡ after_end ks a endings.Succeeded) × (outcome ≡ outcomes.Result)
    × (answer ≡ says.Finished)))

result_ends : (c after : CoreData) (r : Running) (answer : Answer)
    → TellsResult c r answer after
    → EndsSo c.committers after.committers r.hand_out.attempt outcomes.Result answer
result_ends c after r answer (told, is) = by (result_success_of c.dag a) refl told is
  where
    a : AttemptId
    a = r.hand_out.attempt

    freed : CoreData
    freed = released c r.hand_out.attempt endings.Succeeded

    done : (b : Bool) (m : CoreData) → (done_if b m).committers ≡ m.committers
    done true m = refl
    done false m = refl

    never : (b : Bool) → (if b then successes.Repeated else successes.Finished)
        ≢ successes.Registered
    never true e = search (rules, e)
    never false e = search (rules, e)

    nor : (b : Bool) → (if b then successes.Repeated else successes.Finished) ≢ successes.Bogus
    nor true e = search (rules, e)
    nor false e = search (rules, e)

    by : (s : Success) → result_success_of c.dag a ≡ s → answer ≡ success_answer s
        → after ≡ after_result s c a
        → EndsSo c.committers after.committers a outcomes.Result answer
    by successes.Repeated e told is = inl (ap (λ (x : CoreData). x.committers) is)
    by successes.Registered e told is = absurd (never (is_repeat c.dag a) e)
    by successes.Bogus e told is = absurd (nor (is_repeat c.dag a) e)
    by successes.Finished e told is =
        inr (inr (
          ap (λ (x : CoreData). x.committers) is ∙ done _ (with_result_of freed a),
          refl,
          told,
        ))

pub tells_end : (c after : CoreData) (r : Running) (outcome : Outcome) (answer : Answer)
    → Tells c r outcome answer after
    → EndsSo c.committers after.committers r.hand_out.attempt outcome answer
tells_end c after r (outcomes.Map loc) answer (next, up, told, is) =
    inl (ap (λ (x : CoreData). x.committers) is)
tells_end c after r outcomes.Result answer h = result_ends c after r answer h
tells_end c after r (outcomes.Failed cause) answer h =
    inr (inl (by (reaches_limit_in (set_of c.dag a) a cause) h))
  where
    a : AttemptId
    a = r.hand_out.attempt

    by : (b : Bool) → TellsFailureIf b c a cause answer after
        → after.committers ≡ after_end c.committers a endings.Failed
    by true (told, is) = ap (λ (x : CoreData). x.committers) is
    by false k =
        (causes_stay (after_failure c a cause) after a cause (is_zombie_in (set_of c.dag a)) answer
        k).committers

-- so nobody holds that didn't
ends_holders :
    (ks now : List Committer) (a : AttemptId) (outcome : Outcome) (answer : Answer) (p : ℕ)
    (h : AttemptId) → IsSoundCommit ks → EndsSo ks now a outcome answer
    → holder_of now p ≡ Some h → holder_of ks p ≡ Some h
ends_holders ks now a outcome answer p h sound (inl is) e = ap (λ xs. holder_of xs p) (sym is) ∙ e
ends_holders ks now a outcome answer p h sound (inr (inl is)) e =
    (holder_ended ks a endings.Failed p h sound (ap (λ xs. holder_of xs p) (sym is) ∙ e)).0
ends_holders ks now a outcome answer p h sound (inr (inr (is, result, told))) e =
    (holder_ended ks a endings.Succeeded p h sound (ap (λ xs. holder_of xs p) (sym is) ∙ e)).0

-- and only a holder wins, by its success
record WinsBy (ks : List Committer) (p : ℕ) (w a : AttemptId) (outcome : Outcome)
    (answer : Answer) : Type 0 where
  held : holder_of ks p ≡ Some w
  same : a ≡ w
  result : outcome ≡ outcomes.Result
  told : answer ≡ says.Finished

ends_winners :
    (ks now : List Committer) (a : AttemptId) (outcome : Outcome) (answer : Answer) (p : ℕ)
    (w : AttemptId) → EndsSo ks now a outcome answer → winner_of now p ≡ Some w
    → (winner_of ks p ≡ Some w) ⊎ WinsBy ks p w a outcome answer
ends_winners ks now a outcome answer p w (inl is) e =
    inl (ap (λ xs. winner_of xs p) (sym is) ∙ e)
ends_winners ks now a outcome answer p w (inr (inl is)) e =
    inl (sym (failed_winners ks a p) ∙ ap (λ xs. winner_of xs p) (sym is) ∙ e)
ends_winners ks now a outcome answer p w (inr (inr (is, result, told))) e =
    by (winners_held ks p a w endings.Succeeded (ap (λ xs. winner_of xs p) (sym is) ∙ e))
  where
    by : (winner_of ks p ≡ Some w)
        ⊎ ((holder_of ks p ≡ Some w) × (a ≡ w) × (endings.Succeeded ≡ endings.Succeeded))
        → (winner_of ks p ≡ Some w) ⊎ WinsBy ks p w a outcome answer
    by (inl f) = inl f
    by (inr (held, same, how)) =
        inr (record { held = held; same = same; result = result; told = told })

-- ---- an attempt asks

asked_holders : (ks : List Committer) (a : AttemptId) (p : ℕ) (h : AttemptId)
    → holder_of (after_ask ks a true) p ≡ Some h
    → (holder_of ks p ≡ Some h) ⊎ ((a ≡ h) × (answer_to ks a true ≡ permissions.Granted))
asked_holders ks a p h e = at (slice_get_cases ks a.partition).1
  where
    Goal : Type 0
    Goal = (holder_of ks p ≡ Some h) ⊎ ((a ≡ h) × (answer_to ks a true ≡ permissions.Granted))

    one : (k : Committer) → slice_get ks a.partition ≡ Some k → holder_in (asked a k) ≡ Some h
        → (holder_in k ≡ Some h) ⊎ ((a ≡ h) × (answer_to ks a true ≡ permissions.Granted))
    one Nobody is f = inr (search (rules, f), rw is refl)
    one (Winner w) is f = absurd (search (rules, f))
    one (Holder g d) is f = test (is_same g a) f
      where
        test : (b : Bool) → holder_in (if b then Holder g d else Holder g true) ≡ Some h
            → (Some g ≡ Some h) ⊎ ((a ≡ h) × (answer_to ks a true ≡ permissions.Granted))
        test true f = inl f
        test false f = inl f

    in_place : (k : Committer) → a.partition < length ks → slice_get ks a.partition ≡ Some k
        → (b : Bool) → (p == a.partition) ≡ b → Goal
    in_place k within is true f =
        let here : p ≡ a.partition = equal p a.partition f in
        let there : committer_at ks a.partition ≡ k =
        search (rules, is, at_or_slice_get ks a.partition Nobody within) in
        found here there (one k is
        (ap holder_in (sym (at_or_change_same ks a.partition Nobody (asked a) within
        ∙ ap (asked a) there))
        ∙ ap (holder_of (after_ask ks a true)) (sym here) ∙ e))
      where
        found : p ≡ a.partition → committer_at ks a.partition ≡ k
            → (holder_in k ≡ Some h) ⊎ ((a ≡ h) × (answer_to ks a true ≡ permissions.Granted))
            → (holder_of ks p ≡ Some h)
            ⊎ ((a ≡ h) × (answer_to ks a true ≡ permissions.Granted))
        found here there (inl g) = inl (ap (holder_of ks) here ∙ ap holder_in there ∙ g)
        found here there (inr g) = inr g
    in_place k within is false f =
        inl (ap holder_in (sym (committer_other ks a.partition p (asked a) f)) ∙ e)

    at : ((x : Committer) × (a.partition < length ks) × (slice_get ks a.partition ≡ Some x)
        × (get_or ks a.partition x ≡ x))
        ⊎ ((length ks ≤ a.partition) × (slice_get ks a.partition ≡ None)) → Goal
    at (inl (k, within, is, same)) = in_place k within is (p == a.partition) refl
    at (inr (past, is)) =
        inl (ap (λ xs. holder_of xs p) (sym (change_at_past ks a.partition (asked a) past)) ∙ e)

asked_winners : (ks : List Committer) (a : AttemptId) (p : ℕ)
    → winner_of (after_ask ks a true) p ≡ winner_of ks p
asked_winners ks a p = at (slice_get_cases ks a.partition).1
  where
    in_place : a.partition < length ks → (b : Bool) → (p == a.partition) ≡ b
        → winner_of (after_ask ks a true) p ≡ winner_of ks p
    in_place within true f =
        let here : p ≡ a.partition = equal p a.partition f in
        ap (winner_of (after_ask ks a true)) here
        ∙ ap winner_in (at_or_change_same ks a.partition Nobody (asked a) within)
        ∙ asked_winner a (committer_at ks a.partition) ∙ ap (winner_of ks) (sym here)
    in_place within false f = ap winner_in (committer_other ks a.partition p (asked a) f)

    at : ((x : Committer) × (a.partition < length ks) × (slice_get ks a.partition ≡ Some x)
        × (get_or ks a.partition x ≡ x))
        ⊎ ((length ks ≤ a.partition) × (slice_get ks a.partition ≡ None))
        → winner_of (after_ask ks a true) p ≡ winner_of ks p
    at (inl (k, within, is, same)) = in_place within (p == a.partition) refl
    at (inr (past, is)) = ap (λ xs. winner_of xs p) (change_at_past ks a.partition (asked a) past)

-- what an event beside the reports does to the committers: nothing, or an attempt has asked
abbrev AskedSo : List Committer → List Committer → SideEvent → SideAnswer → Type 0
AskedSo ks now event said =
    (now ≡ ks)
    ⊎ ((a : AttemptId) × (now ≡ after_ask ks a true)
    × (answer_to ks a true ≡ permissions.Granted
    → (event ≡ Ask a) × (said ≡ sides.Granted)))

sides_ask : (c after : CoreData) (event : SideEvent) (said : SideAnswer)
    → Sides c event said after → AskedSo c.committers after.committers event said
sides_ask c after (Leave exec) said step = by (job_runs c) step
  where
    by : (b : Bool) → LeavesIf b c exec said after
        → AskedSo c.committers after.committers (Leave exec) said
    by false (told, is) = inl (ap (λ (x : CoreData). x.committers) is)
    by true (told, is) = inl (ap (λ (x : CoreData). x.committers) is)
sides_ask c after (Tick now) said step = by (job_runs c) step
  where
    by : (b : Bool) → TicksIf b c now said after
        → AskedSo c.committers after.committers (Tick now) said
    by false (told, is) = inl (ap (λ (x : CoreData). x.committers) is)
    by true (told, is) = inl (ap (λ (x : CoreData). x.committers) is)
sides_ask c after (Stage a wrote) said step = by (is_given (saver_phase c a)) step
  where
    by : (b : Bool) → StagesIf b c a wrote said after
        → AskedSo c.committers after.committers (Stage a wrote) said
    by false (told, is) = inl (ap (λ (x : CoreData). x.committers) is)
    by true (told, is) = inl (ap (λ (x : CoreData). x.committers) is)
sides_ask c after (Ask a) said step = by (is_staged (saver_phase c a)) step
  where
    asks : (permission : Permission) → answer_to c.committers a true ≡ permission
        → AsksBy permission c a said after
        → AskedSo c.committers after.committers (Ask a) said
    asks permissions.Granted e (told, is) =
        inr (a, ap (λ (x : CoreData). x.committers) is, λ granted. (refl, told))
    asks (permissions.Denied other) e (told, is) =
        inr (
          a,
          ap (λ (x : CoreData). x.committers) is,
          λ granted. absurd (search (rules, e, granted)),
        )
    asks permissions.Over e (told, is) = inl (ap (λ (x : CoreData). x.committers) is)

    by : (b : Bool) → AsksIf b c a said after
        → AskedSo c.committers after.committers (Ask a) said
    by false (told, is) = inl (ap (λ (x : CoreData). x.committers) is)
    by true h = asks (answer_to c.committers a true) refl h
sides_ask c after (Move a renamed) said step = by (is_granted (saver_phase c a)) step
  where
    by : (b : Bool) → MovesIf b c a renamed said after
        → AskedSo c.committers after.committers (Move a renamed) said
    by false (told, is) = inl (ap (λ (x : CoreData). x.committers) is)
    by true (told, is) = inl (ap (λ (x : CoreData). x.committers) is)

-- ---- all events

-- an event is an attempt's asking, which is granted
abbrev pub IsGranted : Event → Answer → AttemptId → Type 0
IsGranted event answer a = (event ≡ Side (Ask a)) × (answer ≡ says.Side sides.Granted)

comes_holders : (c after : CoreData) (event : Event) (answer : Answer) (p : ℕ) (h : AttemptId)
    → IsSoundCommit c.committers → is_aside event ≡ false → Comes c after event answer
    → holder_of after.committers p ≡ Some h → holder_of c.committers p ≡ Some h
comes_holders c after event answer p h sound plain (inl q) e =
    ap (λ xs. holder_of xs p) (sym (q.committers plain)) ∙ e
comes_holders c after event answer p h sound plain (inr heard) e =
    ap (λ xs. holder_of xs p) (sym heard.committers)
    ∙ ends_holders heard.mid.committers after.committers heard.one.hand_out.attempt heard.outcome
    answer p h (subst IsSoundCommit (sym heard.committers) sound)
    (tells_end heard.mid after heard.one heard.outcome answer heard.tells) e

all_holders : (these : List AttemptId) (c : CoreData) (p : ℕ) (h : AttemptId)
    → IsSoundCommit c.committers → holder_of (all_released these c).committers p ≡ Some h
    → holder_of c.committers p ≡ Some h
all_holders [] c p h sound e = e
all_holders (a ∷ these) c p h sound e =
    (holder_ended c.committers a endings.Failed p h sound
    (all_holders these (released c a endings.Failed) p h
    (change_sound c.committers a.partition (commit.ended a endings.Failed)
    (ended_sound a endings.Failed) sound) e)).0

all_winners : (these : List AttemptId) (c : CoreData) (p : ℕ)
    → winner_of (all_released these c).committers p ≡ winner_of c.committers p
all_winners [] c p = refl
all_winners (a ∷ these) c p =
    all_winners these (released c a endings.Failed) p ∙ failed_winners c.committers a p

-- who holds a grant behind an event did so before it, or is granted by it
pub steps_holders : (c after : CoreData) (event : Event) (answer : Answer) (p : ℕ) (h : AttemptId)
    → IsSoundCommit c.committers → Steps c event answer after
    → holder_of after.committers p ≡ Some h
    → (holder_of c.committers p ≡ Some h) ⊎ IsGranted event answer h
steps_holders c after (Take exec) answer p h sound step e =
    inl (by (takes_so c after exec answer step))
  where
    by : TakesSo c after exec answer → holder_of c.committers p ≡ Some h
    by (inl t) = ap (λ (x : CoreData). holder_of x.committers p) (sym t.is) ∙ e
    by (inr (inl b)) = ap (λ (x : CoreData). holder_of x.committers p) (sym b.is) ∙ e
    by (inr (inr same)) = ap (λ (x : CoreData). holder_of x.committers p) (sym same.is) ∙ e
steps_holders c after (Post a outcome) answer p h sound step e =
    inl (comes_holders c after (Post a outcome) answer p h sound refl
    (posts_come c after a outcome answer step) e)
steps_holders c after (Release key) answer p h sound step e =
    inl (comes_holders c after (Release key) answer p h sound refl
    (releases_come c after key answer step) e)
steps_holders c after (TellLost exec) answer p h sound (may, step) e =
    inl (all_holders (attempts_on exec c.running) (with_dag c (after_lost c.dag exec)) p h sound
    (by (are_lost (without_executor c exec).dag.tracker.trust) step))
  where
    by : (b : Bool) → LosesOrAborts b (without_executor c exec) answer after
        → holder_of (without_executor c exec).committers p ≡ Some h
    by true (told, is) = ap (λ (x : CoreData). holder_of x.committers p) (sym is) ∙ e
    by false (told, is) = ap (λ (x : CoreData). holder_of x.committers p) (sym is) ∙ e
steps_holders c after (Side event) answer p h sound (said, told, step) e =
    by (sides_ask c after event said step)
  where
    asks : (a : AttemptId) → (answer_to c.committers a true ≡ permissions.Granted
        → (event ≡ Ask a) × (said ≡ sides.Granted))
        → (holder_of c.committers p ≡ Some h)
        ⊎ ((a ≡ h) × (answer_to c.committers a true ≡ permissions.Granted))
        → (holder_of c.committers p ≡ Some h) ⊎ IsGranted (Side event) answer h
    asks a so (inl f) = inl f
    asks a so (inr (same, granted)) =
        let both = so granted in
        inr (ap Side both.0 ∙ ap (λ b. Side (Ask b)) same, told ∙ ap says.Side both.1)

    by : AskedSo c.committers after.committers event said
        → (holder_of c.committers p ≡ Some h) ⊎ IsGranted (Side event) answer h
    by (inl is) = inl (ap (λ xs. holder_of xs p) (sym is) ∙ e)
    by (inr (a, is, so)) =
        asks a so
        (asked_holders c.committers a p h (ap (λ xs. holder_of xs p) (sym is) ∙ e))

-- an event tells the success of an attempt that held its grant, and had moved its output
pub record Finishes (c : CoreData) (event : Event) (answer : Answer) (w : AttemptId) : Type 0 where
  pub told : tellings_in c event answer ≡ telling w outcomes.Result says.Finished ∷ []
  pub one : Running
  pub found : running_of c w ≡ Some one
  pub moved : one.phase ≡ phases.Moved

moved_is : (phase : Phase) → has_moved phase ≡ true → phase ≡ phases.Moved
moved_is phases.Moved e = refl
moved_is phases.Given e = absurd (true≢false (sym e))
moved_is phases.Staged e = absurd (true≢false (sym e))
moved_is phases.Granted e = absurd (true≢false (sym e))
moved_is phases.Denied e = absurd (true≢false (sym e))
moved_is (phases.Faulted fault) e = absurd (true≢false (sym e))

heard_finishes : (c after : CoreData) (event : Event) (answer : Answer) (p : ℕ) (w : AttemptId)
    → IsSoundCore c → (heard : IsHeard c after event answer)
    → WinsBy heard.mid.committers p w heard.one.hand_out.attempt heard.outcome answer
    → Finishes c event answer w
heard_finishes c after event answer p w sound heard wins =
    record {
      told = known.told
          ∙ ap (λ b. telling b heard.outcome answer ∷ []) wins.same
          ∙ ap (λ o. telling w o answer ∷ []) wins.result
          ∙ ap (λ x. telling w outcomes.Result x ∷ []) wins.told;
      one = known.ran;
      found = subst (λ b. running_of c b ≡ Some known.ran)
          (ap (λ (x : HandOutData). x.attempt) known.hand ∙ wins.same) known.found;
      moved = sym known.phase ∙ moved_is heard.one.phase moved;
    }
  where
    known : IsKnown c event answer heard.one heard.outcome
    known = heard.known sound

    saves : is_save c.committers ≡ true
    saves =
        (holder_within c.committers p w
        (ap (λ xs. holder_of xs p) (sym heard.committers) ∙ wins.held)).0

    fit : fits c heard.one outcomes.Result ≡ true
    fit = subst (λ o. fits c heard.one o ≡ true) wins.result known.fit

    moved : has_moved heard.one.phase ≡ true
    moved =
        drop (is_save c.committers) saves
        (both_right (not (is_map (stage_at c.dag heard.one.hand_out.attempt.stage).target))
        (not (is_save c.committers) || has_moved heard.one.phase) fit)
      where
        drop : (b : Bool) → b ≡ true → (not b || has_moved heard.one.phase) ≡ true
            → has_moved heard.one.phase ≡ true
        drop true e h = h
        drop false e h = absurd (true≢false (sym e))

comes_winners : (c after : CoreData) (event : Event) (answer : Answer) (p : ℕ) (w : AttemptId)
    → IsSoundCore c → is_aside event ≡ false → Comes c after event answer
    → winner_of after.committers p ≡ Some w
    → (winner_of c.committers p ≡ Some w) ⊎ Finishes c event answer w
comes_winners c after event answer p w sound plain (inl q) e =
    inl (ap (λ xs. winner_of xs p) (sym (q.committers plain)) ∙ e)
comes_winners c after event answer p w sound plain (inr heard) e =
    by (ends_winners heard.mid.committers after.committers heard.one.hand_out.attempt heard.outcome
    answer p w (tells_end heard.mid after heard.one heard.outcome answer heard.tells) e)
  where
    by : (winner_of heard.mid.committers p ≡ Some w)
        ⊎ WinsBy heard.mid.committers p w heard.one.hand_out.attempt heard.outcome answer
        → (winner_of c.committers p ≡ Some w) ⊎ Finishes c event answer w
    by (inl f) = inl (ap (λ xs. winner_of xs p) (sym heard.committers) ∙ f)
    by (inr wins) = inr (heard_finishes c after event answer p w sound heard wins)

-- who has won behind an event had so before it, or wins by it
pub steps_winners : (c after : CoreData) (event : Event) (answer : Answer) (p : ℕ) (w : AttemptId)
    → IsSoundCore c → Steps c event answer after → winner_of after.committers p ≡ Some w
    → (winner_of c.committers p ≡ Some w) ⊎ Finishes c event answer w
steps_winners c after (Take exec) answer p w sound step e =
    inl (by (takes_so c after exec answer step))
  where
    by : TakesSo c after exec answer → winner_of c.committers p ≡ Some w
    by (inl t) = ap (λ (x : CoreData). winner_of x.committers p) (sym t.is) ∙ e
    by (inr (inl b)) = ap (λ (x : CoreData). winner_of x.committers p) (sym b.is) ∙ e
    by (inr (inr same)) = ap (λ (x : CoreData). winner_of x.committers p) (sym same.is) ∙ e
steps_winners c after (Post a outcome) answer p w sound step e =
    comes_winners c after (Post a outcome) answer p w sound refl
    (posts_come c after a outcome answer step) e
steps_winners c after (Release key) answer p w sound step e =
    comes_winners c after (Release key) answer p w sound refl
    (releases_come c after key answer step) e
steps_winners c after (TellLost exec) answer p w sound (may, step) e =
    inl (sym (all_winners (attempts_on exec c.running) (with_dag c (after_lost c.dag exec)) p)
    ∙ by (are_lost (without_executor c exec).dag.tracker.trust) step)
  where
    by : (b : Bool) → LosesOrAborts b (without_executor c exec) answer after
        → winner_of (without_executor c exec).committers p ≡ Some w
    by true (told, is) = ap (λ (x : CoreData). winner_of x.committers p) (sym is) ∙ e
    by false (told, is) = ap (λ (x : CoreData). winner_of x.committers p) (sym is) ∙ e
steps_winners c after (Side event) answer p w sound (said, told, step) e =
    inl (by (sides_ask c after event said step))
  where
    by : AskedSo c.committers after.committers event said → winner_of c.committers p ≡ Some w
    by (inl is) = ap (λ xs. winner_of xs p) (sym is) ∙ e
    by (inr (a, is, so)) =
        sym (asked_winners c.committers a p) ∙ ap (λ xs. winner_of xs p) (sym is) ∙ e
