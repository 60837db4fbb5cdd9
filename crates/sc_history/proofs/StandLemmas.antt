-- What stands of an attempt's output is a function of the entries.
use Rattle.std.proofs.Common.{◌≡◌, ◌⊎◌, inl, inr, ℕ, ◌&&◌, Bool, true, false, cond, if◌then◌else◌, List, [], ◌∷◌, ◌++◌, All, find, map, Option, Some, None, option_map, refl, ap, sym, subst, ◌∙◌, rules, true≢false}
use Rattle.std.proofs.lemmas.List.Elements.{All-map, All-nil, All-weaker}
use Rattle.sc_ids.specs.declared.attempts.AttemptId.{AttemptId}
use Rattle.sc_commit.specs.CommitLaws.{winner_of}
use Rattle.sc_commit.specs.Committers.{committer_at, winner_in}
use Rattle.sc_commit.specs.Committing.{answer_to, is_same}
use Rattle.sc_commit.specs.declared.committers.Committer.TheVariants.{Nobody}
use Rattle.sc_commit.specs.declared.committers.Permission.{Permission}
use Rattle.sc_commit.specs.declared.committers.Permission.TheVariants as permissions
use Rattle.sc_taskset.proofs.FindLemmas.{found_is, found_passes}
use Rattle.sc_dag.proofs.Tests.{both_left, clash}
use Rattle.sc_core.specs.CoreData.{CoreData, is_of, job_runs, running_of}
use Rattle.sc_core.specs.HandOuts.{HandOutData}
use Rattle.sc_core.specs.Saving.{AsksBy, AsksIf, MovesIf, StagesIf, as_far, is_given, is_granted, is_out_of, is_staged, may_save, move_answer, moved_by, phase_out, saver_phase, stage_answer, staged_by}
use Rattle.sc_core.specs.Sides.{LeavesIf, Sides, StepsAside, TicksIf}
use Rattle.sc_core.specs.Sound.{IsSoundCore}
use Rattle.sc_core.specs.Steps.{Steps}
use Rattle.sc_core.specs.declared.answers.Answer.{Answer}
use Rattle.sc_core.specs.declared.answers.Answer.TheVariants as says
use Rattle.sc_core.specs.declared.answers.SideAnswer.{SideAnswer}
use Rattle.sc_core.specs.declared.answers.SideAnswer.TheVariants as sides
use Rattle.sc_core.specs.declared.entries.Entry.{Entry}
use Rattle.sc_core.specs.declared.events.Event.{Event}
use Rattle.sc_core.specs.declared.events.Event.TheVariants.{Post, Release, Side, Take, TellLost}
use Rattle.sc_core.specs.declared.events.FileOutcome.{FileOutcome}
use Rattle.sc_core.specs.declared.events.FileOutcome.TheVariants as files
use Rattle.sc_core.specs.declared.events.SideEvent.{SideEvent}
use Rattle.sc_core.specs.declared.events.SideEvent.TheVariants.{Ask, Leave, Move, Stage, Tick}
use Rattle.sc_core.specs.declared.running.Phase.{Phase}
use Rattle.sc_core.specs.declared.running.Phase.TheVariants as phases
use Rattle.sc_core.specs.declared.running.Running.{Running}
use Rattle.sc_core.proofs.LawLemmas.{steps_keep_sound}
use Rattle.sc_core.proofs.LookupLemmas.{is_itself, same_is}
use Rattle.sc_core.proofs.RunningLemmas.{same_sym}
use Rattle.sc_core.proofs.SaveAsideLemmas.{given_is, granted_is, saver_of, staged_is}
use Rattle.sc_core.proofs.SaveOpenLemmas.{free_at}
use Rattle.sc_core.proofs.SaveLemmas.{saves_now}
use Rattle.sc_core.specs.declared.events.Outcome.TheVariants as outcomes
use Rattle.sc_history.specs.Tellings.{telling, tellings_in}
use Rattle.sc_history.specs.Stands.{Stand, StandsAreTold, StandsAsFar, committed, nothing, stand_after, stand_from, stand_of, stand_with, staged}
use Rattle.sc_history.proofs.Closing.{ended_stays}
use Rattle.sc_history.proofs.CommitSteps.{Finishes, steps_winners}
use Rattle.sc_history.proofs.Events.{is_aside}
use Rattle.sc_history.proofs.GivenLemmas.{steps_running}
use Rattle.sc_history.proofs.Journals.{replays_induct}

-- ---- one more entry

stand_push : (a : AttemptId) (s : Stand) (entries : List Entry) (e : Entry)
    → stand_from a s (entries ++ e ∷ [])
    ≡ stand_after a e.event e.answer (stand_from a s entries)
stand_push a s [] e = refl
stand_push a s (x ∷ entries) e = stand_push a (stand_after a x.event x.answer s) entries e

-- an event that isn't beside the reports changes no output
plain_stand : (a : AttemptId) (event : Event) (answer : Answer) (s : Stand)
    → is_aside event ≡ false → stand_after a event answer s ≡ s
plain_stand a (Take exec) answer s e = refl
plain_stand a (Post b outcome) answer s e = refl
plain_stand a (Release key) answer s e = refl
plain_stand a (TellLost exec) answer s e = refl
plain_stand a (Side event) answer s e = absurd (true≢false e)

aside_is : (event : Event) → is_aside event ≡ true → (side : SideEvent) × (event ≡ Side side)
aside_is (Side event) e = (event, refl)
aside_is (Take exec) e = absurd (true≢false (sym e))
aside_is (Post b outcome) e = absurd (true≢false (sym e))
aside_is (Release key) e = absurd (true≢false (sym e))
aside_is (TellLost exec) e = absurd (true≢false (sym e))

-- an attempt that may not go on changes nothing of its output
sides_stand : (c after : CoreData) (event : SideEvent) (said : SideAnswer) (a : AttemptId)
    (s : Stand) → Sides c event said after → saver_phase c a ≡ None
    → stand_after a (Side event) (says.Side said) s ≡ s
sides_stand c after (Leave exec) said a s step none = refl
sides_stand c after (Tick now) said a s step none = refl
sides_stand c after (Ask b) said a s step none = refl
sides_stand c after (Stage b wrote) said a s step none = by (is_same b a) refl
  where
    over : (x : Bool) → x ≡ false → StagesIf x c b wrote said after → said ≡ sides.Over
    over true e h = absurd (true≢false e)
    over false e h = h.0

    by : (x : Bool) → is_same b a ≡ x
        → (if x then stand_with (says.Side said) s else s) ≡ s
    by false e = refl
    by true e =
        ap (λ y. stand_with (says.Side y) s)
        (over (is_given (saver_phase c b))
        (ap is_given (ap (saver_phase c) (same_is b a e) ∙ none)) step)
sides_stand c after (Move b renamed) said a s step none = by (is_same b a) refl
  where
    over : (x : Bool) → x ≡ false → MovesIf x c b renamed said after → said ≡ sides.Over
    over true e h = absurd (true≢false e)
    over false e h = h.0

    by : (x : Bool) → is_same b a ≡ x
        → (if x then stand_with (says.Side said) s else s) ≡ s
    by false e = refl
    by true e =
        ap (λ y. stand_with (says.Side y) s)
        (over (is_granted (saver_phase c b))
        (ap is_granted (ap (saver_phase c) (same_is b a e) ∙ none)) step)

quiet_stand : (c after : CoreData) (event : Event) (answer : Answer) (a : AttemptId) (s : Stand)
    → Steps c event answer after → saver_phase c a ≡ None → stand_after a event answer s ≡ s
quiet_stand c after (Take exec) answer a s step none = refl
quiet_stand c after (Post b outcome) answer a s step none = refl
quiet_stand c after (Release key) answer a s step none = refl
quiet_stand c after (TellLost exec) answer a s step none = refl
quiet_stand c after (Side event) answer a s (said, told, step) none =
    ap (λ x. stand_after a (Side event) x s) told ∙ sides_stand c after event said a s step none

-- in a job that has ended none goes on
ended_none : (c : CoreData) (a : AttemptId) → job_runs c ≡ false → saver_phase c a ≡ None
ended_none c a e = rw e refl

-- nor does one that doesn't run
gone_none : (c : CoreData) (a : AttemptId) → running_of c a ≡ None → saver_phase c a ≡ None
gone_none c a none = by (may_save c a)
  where
    narrow : (rs : List Running) → find (is_of a) rs ≡ None → find (is_out_of a) rs ≡ None
    narrow [] e = refl
    narrow (r ∷ rs) e = one (is_of a r) r.is_out e (λ f. narrow rs f)
      where
        one : (x y : Bool) → cond x (Some r) (find (is_of a) rs) ≡ None
            → (find (is_of a) rs ≡ None → find (is_out_of a) rs ≡ None)
            → cond (x && y) (Some r) (find (is_out_of a) rs) ≡ None
        one true y f rest = absurd (search (rules, f))
        one false y f rest = rest f

    by : (b : Bool) → (if b then phase_out a c.running else None) ≡ None
    by false = refl
    by true = ap (option_map (λ r. r.phase)) (narrow c.running none)

-- ---- who runs

abbrev IsFar : List Entry → Running → Type 0
IsFar entries r = StandsAsFar r.phase (stand_of r.hand_out.attempt entries)

-- the same behind one more entry
abbrev IsFarWith : List Entry → Event → Answer → Running → Type 0
IsFarWith entries event answer r =
    StandsAsFar r.phase
    (stand_after r.hand_out.attempt event answer (stand_of r.hand_out.attempt entries))

-- where no output changes
far_still : (entries : List Entry) (event : Event) (answer : Answer) (rs : List Running)
    → ((a : AttemptId) (s : Stand) → stand_after a event answer s ≡ s)
    → All (IsFar entries) rs → All (IsFarWith entries event answer) rs
far_still entries event answer rs still all =
    All-weaker (IsFar entries) (IsFarWith entries event answer)
    (λ r h. subst (StandsAsFar r.phase)
    (sym (still r.hand_out.attempt (stand_of r.hand_out.attempt entries))) h) rs all

-- where one attempt comes further, with its output
far_moves :
    (entries : List Entry) (event : Event) (answer : Answer) (a : AttemptId) (phase : Phase)
    (rs : List Running)
    → ((b : AttemptId) (s : Stand) → is_same a b ≡ false → stand_after b event answer s ≡ s)
    → StandsAsFar phase (stand_after a event answer (stand_of a entries))
    → All (λ r. is_of a r ≡ true → is_out_of a r ≡ true) rs → All (IsFar entries) rs
    → All (IsFarWith entries event answer) (map (as_far a phase) rs)
far_moves entries event answer a phase rs others now alone all =
    All-map (IsFarWith entries event answer) (as_far a phase) rs
    (All-weaker (λ r. (is_of a r ≡ true → is_out_of a r ≡ true) × IsFar entries r)
    (λ r. IsFarWith entries event answer (as_far a phase r))
    (λ r h. by r h.0 h.1 (is_of a r) refl (is_out_of a r) refl) rs
    (λ i d l. (alone i d l, all i d l)))
  where
    by : (r : Running) → (is_of a r ≡ true → is_out_of a r ≡ true) → IsFar entries r
        → (x : Bool) → is_of a r ≡ x → (y : Bool) → is_out_of a r ≡ y
        → IsFarWith entries event answer (if y then record r { phase = phase } else r)
    by r only h true e false f = absurd (clash (only e) f)
    by r only h false e false f =
        subst (StandsAsFar r.phase)
        (sym (others r.hand_out.attempt (stand_of r.hand_out.attempt entries)
        (same_sym a r.hand_out.attempt ∙ e))) h
    by r only h x e true f =
        let same : r.hand_out.attempt ≡ a =
        same_is r.hand_out.attempt a (both_left (is_of a r) r.is_out f) in
        subst (λ b. StandsAsFar phase (stand_after b event answer (stand_of b entries)))
        (sym same) now

-- what stands of the output of an attempt that may go on
saver_stand : (entries : List Entry) (c : CoreData) (a : AttemptId) (phase : Phase)
    → saver_phase c a ≡ Some phase → All (IsFar entries) c.running
    → StandsAsFar phase (stand_of a entries)
saver_stand entries c a phase e all = by (may_save c a) e
  where
    one : (o : Option Running) → find (is_out_of a) c.running ≡ o
        → option_map (λ r. r.phase) o ≡ Some phase → StandsAsFar phase (stand_of a entries)
    one None f h = absurd (search (rules, h))
    one (Some r) f h =
        let passes = found_passes (is_out_of a) c.running r f in
        let same : r.hand_out.attempt ≡ a =
        same_is r.hand_out.attempt a (both_left (is_of a r) r.is_out passes) in
        let at : r.phase ≡ phase = search (rules, h) in
        subst (λ b. StandsAsFar phase (stand_of b entries)) same
        (subst (λ x. StandsAsFar x (stand_of r.hand_out.attempt entries)) at
        (found_is (IsFar entries) (is_out_of a) c.running r all f))

    by : (b : Bool) → (if b then phase_out a c.running else None) ≡ Some phase
        → StandsAsFar phase (stand_of a entries)
    by false h = absurd (search (rules, h))
    by true h = one (find (is_out_of a) c.running) refl h

-- another attempt's call changes nothing of this one's output
stage_other : (a b : AttemptId) (wrote : FileOutcome) (answer : Answer) (s : Stand)
    → is_same a b ≡ false → stand_after b (Side (Stage a wrote)) answer s ≡ s
stage_other a b wrote answer s e = rw e refl

move_other : (a b : AttemptId) (renamed : FileOutcome) (answer : Answer) (s : Stand)
    → is_same a b ≡ false → stand_after b (Side (Move a renamed)) answer s ≡ s
move_other a b renamed answer s e = rw e refl

aside_far :
    (entries : List Entry) (c after : CoreData) (event : SideEvent) (said : SideAnswer)
    → IsSoundCore c → job_runs c ≡ true → Sides c event said after → All (IsFar entries) c.running
    → All (IsFarWith entries (Side event) (says.Side said)) after.running
aside_far entries c after (Leave exec) said sound runs step all = by (job_runs c) step
  where
    by : (b : Bool) → LeavesIf b c exec said after → All (IsFar entries) after.running
    by false (told, is) = subst (λ (x : CoreData). All (IsFar entries) x.running) (sym is) all
    by true (told, is) = subst (λ (x : CoreData). All (IsFar entries) x.running) (sym is) all
aside_far entries c after (Tick now) said sound runs step all = by (job_runs c) step
  where
    by : (b : Bool) → TicksIf b c now said after → All (IsFar entries) after.running
    by false (told, is) = subst (λ (x : CoreData). All (IsFar entries) x.running) (sym is) all
    by true (told, is) = subst (λ (x : CoreData). All (IsFar entries) x.running) (sym is) all
aside_far entries c after (Stage a wrote) said sound runs step all =
    by (is_given (saver_phase c a)) refl step
  where
    Goal : Type 0
    Goal = All (IsFarWith entries (Side (Stage a wrote)) (says.Side said)) after.running

    still : said ≡ sides.Over → after ≡ c → Goal
    still told is =
        subst (λ (x : CoreData). All (IsFarWith entries (Side (Stage a wrote)) (says.Side said))
        x.running) (sym is)
        (far_still entries (Side (Stage a wrote)) (says.Side said) c.running
        (λ b s. same b s (is_same a b)) all)
      where
        same : (b : AttemptId) (s : Stand) (x : Bool)
            → (if x then stand_with (says.Side said) s else s) ≡ s
        same b s false = refl
        same b s true = ap (λ y. stand_with (says.Side y) s) told

    wrote_so : (wrote : FileOutcome) → said ≡ stage_answer wrote
        → StandsAsFar (staged_by wrote) (stand_with (says.Side said) (stand_of a entries))
    wrote_so files.Done told = ap (λ y. stand_with (says.Side y) (stand_of a entries)) told
    wrote_so (files.Failed fault) told =
        ap (λ y. stand_with (says.Side y) (stand_of a entries)) told

    by : (b : Bool) → is_given (saver_phase c a) ≡ b → StagesIf b c a wrote said after → Goal
    by false e (told, is) = still told is
    by true e (told, is) =
        subst (λ (x : CoreData). All (IsFarWith entries (Side (Stage a wrote)) (says.Side said))
        x.running) (sym is)
        (far_moves entries (Side (Stage a wrote)) (says.Side said) a (staged_by wrote) c.running
        (λ b s other. stage_other a b wrote (says.Side said) s other)
        (rw (is_itself a) (wrote_so wrote told))
        (saver_of c a phases.Given sound.job (sound.save runs)
        (given_is (saver_phase c a) e)).alone all)
aside_far entries c after (Ask a) said sound runs step all =
    by (is_staged (saver_phase c a)) refl step
  where
    Goal : Type 0
    Goal = All (IsFarWith entries (Side (Ask a)) (says.Side said)) after.running

    comes : is_staged (saver_phase c a) ≡ true → (phase : Phase)
        → (stand_of a entries ≡ staged → StandsAsFar phase (stand_of a entries))
        → All (IsFarWith entries (Side (Ask a)) (says.Side said))
        (map (as_far a phase) c.running)
    comes e phase so =
        far_moves entries (Side (Ask a)) (says.Side said) a phase c.running (λ b s other. refl)
        (so (saver_stand entries c a phases.Staged (staged_is (saver_phase c a) e) all))
        (saver_of c a phases.Staged sound.job (sound.save runs)
        (staged_is (saver_phase c a) e)).alone all

    asks : is_staged (saver_phase c a) ≡ true → (permission : Permission)
        → AsksBy permission c a said after → Goal
    asks e permissions.Granted (told, is) =
        subst (λ (x : CoreData). All (IsFarWith entries (Side (Ask a)) (says.Side said)) x.running)
        (sym is) (comes e phases.Granted (λ h. h))
    asks e (permissions.Denied other) (told, is) =
        subst (λ (x : CoreData). All (IsFarWith entries (Side (Ask a)) (says.Side said)) x.running)
        (sym is) (comes e phases.Denied (λ h. h))
    asks e permissions.Over (told, is) =
        subst (λ (x : CoreData). All (IsFar entries) x.running) (sym is) all

    by : (b : Bool) → is_staged (saver_phase c a) ≡ b → AsksIf b c a said after → Goal
    by false e (told, is) = subst (λ (x : CoreData). All (IsFar entries) x.running) (sym is) all
    by true e h = asks e (answer_to c.committers a true) h
aside_far entries c after (Move a renamed) said sound runs step all =
    by (is_granted (saver_phase c a)) refl step
  where
    Goal : Type 0
    Goal = All (IsFarWith entries (Side (Move a renamed)) (says.Side said)) after.running

    still : said ≡ sides.Over → after ≡ c → Goal
    still told is =
        subst (λ (x : CoreData). All (IsFarWith entries (Side (Move a renamed)) (says.Side said))
        x.running) (sym is)
        (far_still entries (Side (Move a renamed)) (says.Side said) c.running
        (λ b s. same b s (is_same a b)) all)
      where
        same : (b : AttemptId) (s : Stand) (x : Bool)
            → (if x then stand_with (says.Side said) s else s) ≡ s
        same b s false = refl
        same b s true = ap (λ y. stand_with (says.Side y) s) told

    renamed_so : (renamed : FileOutcome) → said ≡ move_answer renamed
        → StandsAsFar (moved_by renamed) (stand_with (says.Side said) (stand_of a entries))
    renamed_so files.Done told = ap (λ y. stand_with (says.Side y) (stand_of a entries)) told
    renamed_so (files.Failed fault) told =
        ap (λ y. stand_with (says.Side y) (stand_of a entries)) told

    by : (b : Bool) → is_granted (saver_phase c a) ≡ b → MovesIf b c a renamed said after → Goal
    by false e (told, is) = still told is
    by true e (told, is) =
        subst (λ (x : CoreData). All (IsFarWith entries (Side (Move a renamed)) (says.Side said))
        x.running) (sym is)
        (far_moves entries (Side (Move a renamed)) (says.Side said) a (moved_by renamed) c.running
        (λ b s other. move_other a b renamed (says.Side said) s other)
        (rw (is_itself a) (renamed_so renamed told))
        (saver_of c a phases.Granted sound.job (sound.save runs)
        (granted_is (saver_phase c a) e)).alone all)

-- ---- one more entry, for all that run and all that have won

record AreTold (entries : List Entry) (c : CoreData) : Type 0 where
  sound : IsSoundCore c
  far : All (IsFar entries) c.running
  won : (p : ℕ) (w : AttemptId) → winner_of c.committers p ≡ Some w
      → stand_of w entries ≡ committed

steps_far : (entries : List Entry) (c after : CoreData) (event : Event) (answer : Answer)
    → IsSoundCore c → Steps c event answer after → All (IsFar entries) c.running
    → All (IsFarWith entries event answer) after.running
steps_far entries c after event answer sound step all =
    by (job_runs c) refl (is_aside event) refl
  where
    same : (q r : Running) → r.hand_out ≡ q.hand_out → r.exec ≡ q.exec → r.phase ≡ q.phase
        → IsFarWith entries event answer q → IsFarWith entries event answer r
    same q r hand exec phase h =
        subst (λ x. StandsAsFar x (stand_after r.hand_out.attempt event answer
        (stand_of r.hand_out.attempt entries))) (sym phase)
        (subst (λ (x : HandOutData). StandsAsFar q.phase
        (stand_after x.attempt event answer (stand_of x.attempt entries))) (sym hand) h)

    plain : is_aside event ≡ false → All (IsFarWith entries event answer) after.running
    plain e =
        steps_running (IsFarWith entries event answer) same c after event answer step
        (far_still entries event answer c.running (λ a s. plain_stand a event answer s e) all)
        (λ exec h is told. tt)
        (λ side is h. absurd (true≢false (ap is_aside (sym is) ∙ e)))

    aside : job_runs c ≡ true → (side : SideEvent) × (event ≡ Side side)
        → All (IsFarWith entries event answer) after.running
    aside runs (side, is) =
        let h : StepsAside c side answer after = subst (λ x. Steps c x answer after) is step in
        subst (λ x. All (IsFarWith entries x answer) after.running) (sym is)
        (subst (λ x. All (IsFarWith entries (Side side) x) after.running) (sym h.1)
        (aside_far entries c after side h.0 sound runs h.2 all))

    by : (x : Bool) → job_runs c ≡ x → (y : Bool) → is_aside event ≡ y
        → All (IsFarWith entries event answer) after.running
    by false over y e =
        subst (λ (x : CoreData). All (IsFarWith entries event answer) x.running)
        (sym (ended_stays c after event answer over step))
        (far_still entries event answer c.running
        (λ a s. quiet_stand c after event answer a s step (ended_none c a over)) all)
    by true runs false e = plain e
    by true runs true e = aside runs (aside_is event e)

steps_won : (entries : List Entry) (c after : CoreData) (event : Event) (answer : Answer)
    → AreTold entries c → Steps c event answer after → (p : ℕ) (w : AttemptId)
    → winner_of after.committers p ≡ Some w
    → stand_after w event answer (stand_of w entries) ≡ committed
steps_won entries c after event answer told step p w won =
    by (steps_winners c after event answer p w told.sound step won)
  where
    none : winner_of c.committers p ≡ Some w → (b : Bool) → job_runs c ≡ b
        → saver_phase c w ≡ None
    none e false over = ended_none c w over
    none e true runs =
        gone_none c w ((saves_now c (told.sound.save runs)).winners p w e).over

    by : (winner_of c.committers p ≡ Some w) ⊎ Finishes c event answer w
        → stand_after w event answer (stand_of w entries) ≡ committed
    by (inl e) =
        quiet_stand c after event answer w (stand_of w entries) step
        (none e (job_runs c) refl) ∙ told.won p w e
    by (inr f) =
        plain_stand w event answer (stand_of w entries) (told_plain event f.told)
        ∙ subst (λ b. stand_of b entries ≡ committed)
        (same_is f.one.hand_out.attempt w (found_passes (is_of w) c.running f.one f.found))
        (subst (λ x. StandsAsFar x (stand_of f.one.hand_out.attempt entries)) f.moved
        (found_is (IsFar entries) (is_of w) c.running f.one told.far f.found))
      where
        told_plain : (event : Event)
            → tellings_in c event answer ≡ telling w outcomes.Result says.Finished ∷ []
            → is_aside event ≡ false
        told_plain (Side event) h = absurd (search (rules, h))
        told_plain (Take exec) h = refl
        told_plain (Post b outcome) h = refl
        told_plain (Release key) h = refl
        told_plain (TellLost exec) h = refl

entry_told : (entries : List Entry) (e : Entry) (c after : CoreData) → AreTold entries c
    → Steps c e.event e.answer after → AreTold (entries ++ e ∷ []) after
entry_told entries e c after told step =
    record {
      sound = steps_keep_sound c after e.event e.answer told.sound step;
      far = All-weaker (IsFarWith entries e.event e.answer) (IsFar (entries ++ e ∷ []))
          (λ r h. subst (StandsAsFar r.phase)
          (sym (stand_push r.hand_out.attempt nothing entries e)) h) after.running
          (steps_far entries c after e.event e.answer told.sound step told.far);
      won = λ p w won. stand_push w nothing entries e
          ∙ steps_won entries c after e.event e.answer told step p w won;
    }

pub stands_are_told : StandsAreTold
stands_are_told graph limits saves plan last opening end entries o sound replays =
    (told.far, told.won)
  where
    free : (p : ℕ) → committer_at opening.committers p ≡ Nobody
    free p = ap (λ ks. committer_at ks p) o.committers ∙ free_at saves opening.dag p

    told : AreTold ([] ++ entries) end
    told =
        replays_induct (λ es c. AreTold es c)
        (λ es e c after k step. entry_told es e c after k step) [] opening
        (record {
          sound = sound;
          far = subst (λ rs. All (IsFar []) rs) (sym o.running) (All-nil (IsFar []));
          won = λ q w e. absurd (search (rules, sym (ap winner_in (free q)) ∙ e));
        }) entries end replays
