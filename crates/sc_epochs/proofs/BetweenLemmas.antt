-- Outputs are forgotten between the Take and the success of an attempt that comes too late.
use Rattle.std.proofs.Common.{◌≡◌, ℕ, zero, suc, ◌<◌, ◌≤◌, Bool, true, Contains, if◌then◌else◌, List, [], ◌∷◌, Option, Some, None, IfSome, refl, ap, sym, subst, ◌∙◌, arith, rules}
use Rattle.std.proofs.lemmas.Bool.Decides.{nat_tests}
use Rattle.sc_ids.specs.declared.blocks.Loc.{Loc}
use Rattle.sc_lineage.specs.ScriptData.{WorkData}
use Rattle.sc_tracker.specs.TrackerData.{trust_of}
use Rattle.sc_tracker.specs.Trust.{is_marked}
use Rattle.sc_tracker.proofs.BlockLemmas.{lookups_sound}
use Rattle.sc_taskset.proofs.FindLemmas.{found_is, found_passes}
use Rattle.sc_core.specs.CoreData.{CoreData, is_of, running_of, shelved_of}
use Rattle.sc_core.specs.HandOuts.{HandOutData}
use Rattle.sc_core.specs.Journals.{Replays}
use Rattle.sc_core.specs.Sound.{IsSoundCore}
use Rattle.sc_core.specs.Steps.{Steps}
use Rattle.sc_core.specs.Takes.{Takes}
use Rattle.sc_core.specs.declared.answers.Answer.{Answer}
use Rattle.sc_core.specs.declared.answers.Answer.TheVariants as says
use Rattle.sc_core.specs.declared.entries.Entry.{Entry}
use Rattle.sc_core.specs.declared.events.Event.{Event}
use Rattle.sc_core.specs.declared.events.Event.TheVariants.{Take}
use Rattle.sc_core.specs.declared.events.Outcome.TheVariants as outcomes
use Rattle.sc_core.specs.declared.running.Running.{Running}
use Rattle.sc_core.specs.declared.running.Shelved.{Shelved}
use Rattle.sc_core.proofs.LawLemmas.{steps_keep_sound}
use Rattle.sc_core.proofs.LookupLemmas.{same_is}
use Rattle.sc_history.specs.Given.{IsGiven}
use Rattle.sc_history.specs.Trackers.{forgets}
use Rattle.sc_history.proofs.GivenLemmas.{running_are_given}
use Rattle.sc_history.proofs.TrackerLemmas.{epochs_count, steps_count_epochs}
use Rattle.sc_net.specs.Tasks.{TaskData}
use Rattle.sc_net.specs.declared.findings.Finding.TheVariants as findings
use Rattle.sc_task.specs.Attempts.{reported}
use Rattle.sc_world.specs.Laws.{StepsKeepSound, WorldsBegin}
use Rattle.sc_world.specs.Runs.{IsWorld}
use Rattle.sc_world.specs.Steps.{Posts, ReleasesOne}
use Rattle.sc_world.specs.WorldData.{WorldData, core_in, held_at}
use Rattle.sc_epochs.specs.Between.{ForgetsSince, StaleWereForgotten}
use Rattle.sc_epochs.specs.Found.{FindsStale}
use Rattle.sc_epochs.proofs.BogusLemmas.{IsBogusOf, epochs_find_bogus, posted_bogus, posted_same}
use Rattle.sc_epochs.proofs.ReachLemmas.{find_stale_by}

-- ---- in a journal

-- a task is handed out with the epoch of now
out_epoch : (c after : CoreData) (exec : ℕ) (h : HandOutData) → Takes c exec (says.Task h) after
    → h.epoch ≡ c.dag.tracker.epoch
out_epoch c after exec h (asking, out, below, is) = out.epoch

-- one where something is so
abbrev one_if : Bool → ℕ
one_if b = if b then 1 else 0

-- where the epoch is above that of a task that an entry hands out, one behind it forgets outputs
since_asked : (opening end : CoreData) (entries : List Entry) (r : Running) (e : Entry)
    → IsSoundCore opening → Replays opening entries end → Contains entries e
    → e.event ≡ Take r.exec → e.answer ≡ says.Task r.hand_out
    → r.hand_out.epoch < end.dag.tracker.epoch
    → ForgetsSince opening end entries r.hand_out.attempt
since_asked opening end [] r e sound replays (i, l, is) event task lt = absurd (omega (arith, l))
since_asked opening end (x ∷ xs) r e sound (mid, step, rest) (zero, l, is) event task lt =
    record {
      before = [];
      asked = x;
      behind = xs;
      parts = refl;
      task = r.hand_out;
      given = given;
      attempt = refl;
      handed = mid;
      first = (mid, step, refl);
      rest = rest;
      forgets = (let count = steps_count_epochs opening mid x.event x.answer sound step in
          let more = epochs_count mid end xs
          (steps_keep_sound opening mid x.event x.answer sound step) rest in
          omega (arith, count, more, none, born, lt));
    }
  where
    asks : x.event ≡ Take r.exec
    asks = ap (λ (y : Entry). y.event) is ∙ event

    given : x.answer ≡ says.Task r.hand_out
    given = ap (λ (y : Entry). y.answer) is ∙ task

    none : one_if (forgets opening x.event x.answer) ≡ 0
    none = ap (λ (v : Event). one_if (forgets opening v x.answer)) asks

    born : r.hand_out.epoch ≡ opening.dag.tracker.epoch
    born =
        out_epoch opening mid r.exec r.hand_out
        (subst (λ (a : Answer). Steps opening (Take r.exec) a mid) given
        (subst (λ (v : Event). Steps opening v x.answer mid) asks step))
since_asked opening end (x ∷ xs) r e sound (mid, step, rest) (suc i, l, is) event task lt =
    let h = since_asked mid end xs r e (steps_keep_sound opening mid x.event x.answer sound step)
    rest (i, omega (arith, l), is) event task lt in
    record {
      before = x ∷ h.before;
      asked = h.asked;
      behind = h.behind;
      parts = ap (λ ys. x ∷ ys) h.parts;
      task = h.task;
      given = h.given;
      attempt = h.attempt;
      handed = h.handed;
      first = (mid, step, h.first);
      rest = h.rest;
      forgets = h.forgets;
    }

-- ---- in a world

-- an epoch that is marked is below that of now
marked_below : (mark : Option ℕ) (now epoch : ℕ) → IfSome mark (λ m. m < now)
    → is_marked mark epoch ≡ true → epoch < now
marked_below None now epoch below e = absurd (search (rules, e))
marked_below (Some mark) now epoch below e =
    let le : epoch ≤ mark = grind (arith, nat_tests, e) in omega (arith, le, below)

since_running : (work : WorkData) (w : WorldData) (r : Running) (loc : Loc) → IsWorld work w
    → Replays w.desk.journal.opening w.desk.journal.entries (core_in w)
    → running_of (core_in w) r.hand_out.attempt ≡ Some r
    → is_marked (trust_of (core_in w).dag.tracker loc.exec).mark r.hand_out.epoch ≡ true
    → ForgetsSince w.desk.journal.opening (core_in w) w.desk.journal.entries r.hand_out.attempt
since_running work w r loc h is ran marked =
    since_asked w.desk.journal.opening (core_in w) w.desk.journal.entries r g.entry h.desk.began is
    g.among g.asked g.task
    (marked_below (trust_of (core_in w).dag.tracker loc.exec).mark (core_in w).dag.tracker.epoch
    r.hand_out.epoch
    ((lookups_sound (core_in w).dag.tracker h.core.job.dag.tracker).1 loc.exec) marked)
  where
    g : IsGiven w.desk.journal.entries r
    g =
        found_is (IsGiven w.desk.journal.entries) (is_of r.hand_out.attempt) (core_in w).running r
        (running_are_given w.desk.journal.opening (core_in w) w.desk.journal.entries
        h.desk.opened.running is) ran

pub stale_were_forgotten : WorldsBegin → StepsKeepSound → StaleWereForgotten
stale_were_forgotten begins keeps work w after loc comes is = (posted, released)
  where
    h : IsWorld work w
    h = (find_stale_by begins keeps work w comes).0

    found : FindsStale w
    found = (find_stale_by begins keeps work w comes).1

    posted : (exec : ℕ) (task : TaskData)
        → held_at w exec ≡ Some (reported task (findings.Map loc))
        → Posts work w exec says.Bogus after
        → ForgetsSince w.desk.journal.opening (core_in w) w.desk.journal.entries
        task.hand_out.attempt
    posted exec task held p =
        subst (λ (x : HandOutData). ForgetsSince w.desk.journal.opening (core_in w)
        w.desk.journal.entries x.attempt) same
        (since_running work w b.one loc h is b.ran
        (subst (λ (x : HandOutData). is_marked
        (trust_of (core_in w).dag.tracker loc.exec).mark x.epoch ≡ true) (sym same)
        ((epochs_find_bogus work w after loc h found).0 exec task held p)))
      where
        b : IsBogusOf (core_in w) task.hand_out.attempt loc
        b = posted_bogus work w after exec task loc h held p

        same : b.one.hand_out ≡ task.hand_out
        same = posted_same work w exec task loc h held b

    released : (key : ℕ) (s : Shelved) (r : Running) → shelved_of (core_in w) key ≡ Some s
        → s.outcome ≡ outcomes.Map loc → running_of (core_in w) s.attempt ≡ Some r
        → ReleasesOne w key says.Bogus after
        → ForgetsSince w.desk.journal.opening (core_in w) w.desk.journal.entries
        r.hand_out.attempt
    released key s r there outcome ran p =
        since_running work w r loc h is (ap (running_of (core_in w)) itself ∙ ran)
        ((epochs_find_bogus work w after loc h found).1 key s r there outcome ran p)
      where
        itself : r.hand_out.attempt ≡ s.attempt
        itself =
            same_is r.hand_out.attempt s.attempt
            (found_passes (is_of s.attempt) (core_in w).running r ran)
