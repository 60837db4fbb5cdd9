-- What attempts did, by the entries of a journal, and what stands of their outputs by that.
use Rattle.std.proofs.Common.{◌≡◌, ◌≢◌, ◌∙◌, ℕ, Bool, true, false, if◌then◌else◌, List, [], ◌∷◌, ◌++◌, All, find, Option, Some, None, option_map, append-nil, append_assoc, refl, ap, sym, subst, rules, true≢false}
use Rattle.std.specs.List.{cons_option}
use Rattle.std.proofs.lemmas.List.Elements.{filter_map-append}
use Rattle.sc_ids.specs.declared.attempts.AttemptId.{AttemptId}
use Rattle.sc_commit.specs.CommitLaws.{winner_of}
use Rattle.sc_commit.specs.Committing.{is_same}
use Rattle.sc_taskset.proofs.FindLemmas.{found_is, found_passes}
use Rattle.sc_dag.proofs.Tests.{both_left}
use Rattle.sc_lineage.specs.ScriptData.{WorkData}
use Rattle.sc_staging.specs.Done.{Deed, DidLast, Done, done_by, renamed, wrote}
use Rattle.sc_staging.proofs.DoneLemmas.{last-other, last-same}
use Rattle.sc_core.specs.CoreData.{CoreData, is_of}
use Rattle.sc_core.specs.Journals.{Replays}
use Rattle.sc_core.specs.Saving.{is_granted, is_out_of, may_save, phase_out, saver_phase}
use Rattle.sc_core.specs.Steps.{Steps}
use Rattle.sc_core.specs.declared.answers.Answer.{Answer}
use Rattle.sc_core.specs.declared.answers.Answer.TheVariants as says
use Rattle.sc_core.specs.declared.answers.SideAnswer.{SideAnswer}
use Rattle.sc_core.specs.declared.answers.SideAnswer.TheVariants as sides
use Rattle.sc_core.specs.declared.entries.Entry.{Entry}
use Rattle.sc_core.specs.declared.events.Event.{Event}
use Rattle.sc_core.specs.declared.events.Event.TheVariants.{Post, Release, Side, Take, TellLost}
use Rattle.sc_core.specs.declared.events.SideEvent.{SideEvent}
use Rattle.sc_core.specs.declared.events.SideEvent.TheVariants.{Ask, Leave, Move, Stage, Tick}
use Rattle.sc_core.specs.declared.running.Phase.{Phase}
use Rattle.sc_core.specs.declared.running.Phase.TheVariants as phases
use Rattle.sc_core.specs.declared.running.Running.{Running}
use Rattle.sc_core.proofs.LookupLemmas.{is_itself, same_is}
use Rattle.sc_core.proofs.SaveAsideLemmas.{granted_is}
use Rattle.sc_history.specs.Stands.{Stand, StandsAsFar, committed, nothing, stand_after, stand_by, stand_from, stand_of, staged, unknown}
use Rattle.sc_history.proofs.StandLemmas.{stands_are_told}
use Rattle.sc_jobs.specs.JobData.{saves}
use Rattle.sc_desk.specs.DeskData.{DeskData, core_of}
use Rattle.sc_desk.specs.Files.{HasReplay, deed_by, deed_in, deeds_of}
use Rattle.sc_desk.specs.Sound.{IsSoundDesk}

-- ---- one more entry

-- what was done, with what there may be more
abbrev pub with_deed : List Done → Option Done → List Done
with_deed done None = done
with_deed done (Some more) = done ++ more ∷ []

pub deeds_push : (entries : List Entry) (e : Entry)
    → deeds_of (entries ++ e ∷ []) ≡ with_deed (deeds_of entries) (deed_in e.event e.answer)
deeds_push entries e =
    filter_map-append (λ (x : Entry). deed_in x.event x.answer) entries (e ∷ [])
    ∙ one (deed_in e.event e.answer)
  where
    one : (o : Option Done)
        → deeds_of entries ++ cons_option o [] ≡ with_deed (deeds_of entries) o
    one None = append-nil (deeds_of entries)
    one (Some more) = refl

-- ---- what stands

-- an attempt did last what its output stands by
abbrev StandIs : AttemptId → List Done → Stand → Type 0
StandIs a done nothing = Unit {0}
StandIs a done staged = DidLast a wrote done
StandIs a done committed = DidLast a renamed done
StandIs a done unknown = Unit {0}

-- it does so still once another attempt did something
stands_still : (a : AttemptId) (s : Stand) (done : List Done) (more : Done) → more.attempt ≢ a
    → StandIs a done s → StandIs a (done ++ more ∷ []) s
stands_still a nothing done more other is = tt
stands_still a staged done more other is = last-other a wrote done more other is
stands_still a committed done more other is = last-other a renamed done more other is
stands_still a unknown done more other is = tt

-- a call for a part
part_stands : (a b : AttemptId) (s : Stand) (said : SideAnswer) (done : List Done)
    → StandIs a done s
    → StandIs a (with_deed done (option_map (done_by b) (deed_by said)))
    (if is_same b a then stand_by said s else s)
part_stands a b s said done is = by (is_same b a) refl
  where
    own : (x : SideAnswer)
        → StandIs a (with_deed done (option_map (done_by a) (deed_by x))) (stand_by x s)
    own sides.Staged = last-same a wrote done
    own sides.Moved = last-same a renamed done
    own (sides.Fault fault) = tt
    own sides.Ignored = is
    own sides.Left = is
    own sides.Ticked = is
    own sides.Over = is
    own sides.Granted = is
    own (sides.Denied holder) = is

    other : b ≢ a → (o : Option Deed)
        → StandIs a (with_deed done (option_map (done_by b) o)) s
    other apart None = is
    other apart (Some deed) = stands_still a s done (done_by b deed) apart is

    by : (x : Bool) → is_same b a ≡ x
        → StandIs a (with_deed done (option_map (done_by b) (deed_by said)))
        (if x then stand_by said s else s)
    by true e =
        subst (λ c. StandIs a (with_deed done (option_map (done_by c) (deed_by said)))
        (stand_by said s)) (sym (same_is b a e)) (own said)
    by false e =
        other (λ h. true≢false (sym (is_itself a) ∙ ap (λ c. is_same c a) (sym h) ∙ e))
        (deed_by said)

side_stands : (a : AttemptId) (s : Stand) (event : SideEvent) (said : SideAnswer)
    (done : List Done) → StandIs a done s
    → StandIs a (with_deed done (deed_in (Side event) (says.Side said)))
    (stand_after a (Side event) (says.Side said) s)
side_stands a s (Leave exec) said done is = is
side_stands a s (Tick now) said done is = is
side_stands a s (Ask b) said done is = is
side_stands a s (Stage b outcome) said done is = part_stands a b s said done is
side_stands a s (Move b outcome) said done is = part_stands a b s said done is

event_stands : (a : AttemptId) (s : Stand) (c after : CoreData) (event : Event) (answer : Answer)
    (done : List Done) → Steps c event answer after → StandIs a done s
    → StandIs a (with_deed done (deed_in event answer)) (stand_after a event answer s)
event_stands a s c after (Take exec) answer done step is = is
event_stands a s c after (Post b outcome) answer done step is = is
event_stands a s c after (Release key) answer done step is = is
event_stands a s c after (TellLost exec) answer done step is = is
event_stands a s c after (Side event) answer done (said, told, step) is =
    subst (λ x. StandIs a (with_deed done (deed_in (Side event) x))
    (stand_after a (Side event) x s)) (sym told) (side_stands a s event said done is)

entries_stand : (a : AttemptId) (s : Stand) (c end : CoreData) (entries : List Entry)
    (done : List Done) → Replays c entries end → StandIs a done s
    → StandIs a (done ++ deeds_of entries) (stand_from a s entries)
entries_stand a s c end [] done is stands =
    subst (λ ds. StandIs a ds s) (sym (append-nil done)) stands
entries_stand a s c end (e ∷ entries) done (mid, step, rest) stands =
    by (deed_in e.event e.answer) (event_stands a s c mid e.event e.answer done step stands)
    (λ ds is. entries_stand a next mid end entries ds rest is)
  where
    next : Stand
    next = stand_after a e.event e.answer s

    by : (o : Option Done) → StandIs a (with_deed done o) next
        → ((ds : List Done) → StandIs a ds next
        → StandIs a (ds ++ deeds_of entries) (stand_from a next entries))
        → StandIs a (done ++ cons_option o (deeds_of entries)) (stand_from a next entries)
    by None is more = more done is
    by (Some d) is more =
        subst (λ ds. StandIs a ds (stand_from a next entries))
        (append_assoc done (d ∷ []) (deeds_of entries)) (more (done ++ d ∷ []) is)

-- ---- the outputs of a desk's job

-- an attempt did last what its output stands by, as the entries tell
did_last : (d : DeskData) (a : AttemptId) (s : Stand) → HasReplay d
    → stand_of a d.journal.entries ≡ s → StandIs a (deeds_of d.journal.entries) s
did_last d a s replays is =
    subst (λ x. StandIs a (deeds_of d.journal.entries) x) is
    (entries_stand a nothing d.journal.opening (core_of d) d.journal.entries [] replays tt)

-- what holds of all that run holds of one that comes next
saver_has : (P : AttemptId → Phase → Type 0) (c : CoreData) (a : AttemptId) (phase : Phase)
    → saver_phase c a ≡ Some phase → All (λ r. P r.hand_out.attempt r.phase) c.running
    → P a phase
saver_has P c a phase e all = by (may_save c a) e
  where
    one : (o : Option Running) → find (is_out_of a) c.running ≡ o
        → option_map (λ r. r.phase) o ≡ Some phase → P a phase
    one None f h = absurd (search (rules, h))
    one (Some r) f h =
        let passes = found_passes (is_out_of a) c.running r f in
        let same : r.hand_out.attempt ≡ a =
        same_is r.hand_out.attempt a (both_left (is_of a r) r.is_out passes) in
        let far : r.phase ≡ phase = search (rules, h) in
        subst (λ b. P b phase) same (subst (λ x. P r.hand_out.attempt x) far
        (found_is (λ (q : Running). P q.hand_out.attempt q.phase) (is_out_of a) c.running r all f))

    by : (b : Bool) → (if b then phase_out a c.running else None) ≡ Some phase → P a phase
    by false h = absurd (search (rules, h))
    by true h = one (find (is_out_of a) c.running) refl h

-- one that is granted wrote its part last
pub granted_wrote : (work : WorkData) (d : DeskData) (a : AttemptId) → IsSoundDesk work d
    → HasReplay d → is_granted (saver_phase (core_of d) a) ≡ true
    → DidLast a wrote (deeds_of d.journal.entries)
granted_wrote work d a sound replays granted =
    let told = stands_are_told d.job.graph work.limits (saves work d.job.goal) work.plan sound.last
    d.journal.opening (core_of d) d.journal.entries sound.opened sound.began replays in
    did_last d a staged replays
    (saver_has (λ b phase. StandsAsFar phase (stand_of b d.journal.entries)) (core_of d) a
    phases.Granted (granted_is (saver_phase (core_of d) a) granted) told.0)

-- one that has won renamed its part last
pub winner_renamed : (work : WorkData) (d : DeskData) (p : ℕ) (a : AttemptId) → IsSoundDesk work d
    → HasReplay d → winner_of (core_of d).committers p ≡ Some a
    → DidLast a renamed (deeds_of d.journal.entries)
winner_renamed work d p a sound replays won =
    let told = stands_are_told d.job.graph work.limits (saves work d.job.goal) work.plan sound.last
    d.journal.opening (core_of d) d.journal.entries sound.opened sound.began replays in
    did_last d a committed replays (told.1 p a won)
