-- What holds of every desk holds behind each report that is taken off the shelf, and each loss.
use Rattle.std.proofs.Common.{◌≡◌, ◌≢◌, ℕ, not, Bool, true, false, [], Option, Some, None, IfSome, option_map, refl, ap, sym, subst, ◌∙◌, arith, rules}
use Rattle.std.specs.List.{AllPairs, find}
use Rattle.std.proofs.lemmas.List.Elements.{All-filter}
use Rattle.sc_ids.specs.declared.attempts.Mark.{Mark}
use Rattle.sc_lineage.specs.ScriptData.{WorkData}
use Rattle.sc_taskset.proofs.FindLemmas.{found_is}
use Rattle.sc_core.specs.CoreData.{job_runs, shelved_of}
use Rattle.sc_core.specs.Journals.{Replays}
use Rattle.sc_core.specs.Releases.{Releases as CoreReleases}
use Rattle.sc_core.specs.Sides.{IsAside}
use Rattle.sc_core.specs.Sound.{IsSoundCore}
use Rattle.sc_core.proofs.SideLemmas.{steps_aside}
use Rattle.sc_core.specs.declared.answers.Answer.{Answer}
use Rattle.sc_core.specs.declared.answers.Answer.TheVariants as says
use Rattle.sc_core.specs.declared.events.Event.{Event}
use Rattle.sc_core.specs.declared.events.Event.TheVariants.{Release, Side, Take, TellLost}
use Rattle.sc_core.specs.declared.events.SideEvent.{SideEvent}
use Rattle.sc_core.specs.declared.running.Shelved.{Shelved}
use Rattle.sc_net.specs.Reports.{ReportData, outcome_of}
use Rattle.sc_net.specs.Shelves.{IsBefore, is_under}
use Rattle.sc_net.specs.Tasks.{IsTaskOf}
use Rattle.sc_net.specs.declared.shelved.ShelvedReport.{ShelvedReport}
use Rattle.sc_desk.specs.DeskData.{DeskData, core_of}
use Rattle.sc_desk.specs.Dues.{IsInTime}
use Rattle.sc_desk.specs.Entries.{Enters}
use Rattle.sc_desk.specs.Posts.{attempt_of}
use Rattle.sc_desk.specs.Shelves.{IsShelvedOf, as_shelved, report_under, shelf_in, without_key}
use Rattle.sc_desk.specs.Sound.{EndedFor, IsEvident, IsEvidentAside, IsSoundDesk}
use Rattle.sc_desk.specs.Tellings.{results_with}
use Rattle.sc_desk.proofs.DagLemmas.{Leaves}
use Rattle.sc_desk.proofs.KeepLemmas.{Entered, KeepsShelf, bound_of, leaves_keep}
use Rattle.sc_desk.proofs.PassLemmas.{ReleaseShows, Released, Telling, aside_pass, losses_pass, releases_pass, takes_pass}
use Rattle.sc_desk.proofs.PostLemmas.{ended_for, shows_within, told_keeps}
use Rattle.sc_desk.proofs.ShelfLemmas.{all_later, ends_so, keys_rise, same_keeps, shelf_keeps, under_alike, without_tie}
use Rattle.sc_desk.proofs.StepLemmas.{IsWon, aside_leaves, losses_leave, releases_leave, releases_win, takes_leave}

-- ---- what tells no report

-- an event that tells no report, and takes none off the shelf
telling_keeps :
    (work : WorkData) (d after : DeskData) (by : Mark) (event : Event) (answer : Answer)
    → IsSoundDesk work d → IsSoundCore (core_of d)
    → Replays d.journal.opening d.journal.entries (core_of d)
    → Enters d by event answer after → IsEvident work d.job (core_of d) event answer
    → Telling (bound_of work (core_of d)) (core_of d) (core_of after)
    → Leaves (core_of d).dag (core_of after).dag → after.results ≡ d.results
    → after.shelf ≡ shelf_in (core_of after) d.shelf → IsSoundDesk work after
telling_keeps work d after by event answer sound core replays enters evident t leaves results
    shelf =
    leaves_keep work d after by event answer
    (record {
      sound = sound;
      core = core;
      replays = replays;
      enters = enters;
      passes = t.passes;
      evident = evident;
    })
    leaves (same_keeps work d after sound t.passes.told t.passes.ends t.shelf shelf) results

pub taken_keeps :
    (work : WorkData) (d after : DeskData) (by : Mark) (exec : ℕ) (answer : Answer)
    → IsSoundDesk work d → IsSoundCore (core_of d)
    → Replays d.journal.opening d.journal.entries (core_of d)
    → Enters d by (Take exec) answer after → after.results ≡ d.results
    → after.shelf ≡ shelf_in (core_of after) d.shelf → IsSoundDesk work after
taken_keeps work d after by exec answer sound core replays enters results shelf =
    telling_keeps work d after by (Take exec) answer sound core replays enters tt
    (takes_pass (bound_of work (core_of d)) (core_of d) (core_of after) exec answer enters.step)
    (takes_leave (core_of d) (core_of after) exec answer enters.step) results shelf

pub lost_keeps :
    (work : WorkData) (d after : DeskData) (by : Mark) (exec : ℕ) (answer : Answer)
    → IsSoundDesk work d → IsSoundCore (core_of d)
    → Replays d.journal.opening d.journal.entries (core_of d)
    → Enters d by (TellLost exec) answer after → after.results ≡ d.results
    → after.shelf ≡ shelf_in (core_of after) d.shelf → IsSoundDesk work after
lost_keeps work d after by exec answer sound core replays enters results shelf =
    telling_keeps work d after by (TellLost exec) answer sound core replays enters tt
    (losses_pass (bound_of work (core_of d)) (core_of d) (core_of after) exec answer enters.step)
    (losses_leave (core_of d) (core_of after) exec answer enters.step) results shelf

pub noted_keeps :
    (work : WorkData) (d after : DeskData) (by : Mark) (event : SideEvent) (answer : Answer)
    → IsSoundDesk work d → IsSoundCore (core_of d)
    → Replays d.journal.opening d.journal.entries (core_of d)
    → Enters d by (Side event) answer after → IsEvidentAside event
    → after.results ≡ d.results
    → after.shelf ≡ shelf_in (core_of after) d.shelf → IsSoundDesk work after
noted_keeps work d after by event answer sound core replays enters evident results shelf =
    telling_keeps work d after by (Side event) answer sound core replays enters evident
    (aside_pass (bound_of work (core_of d)) (core_of d) (core_of after) is)
    (aside_leaves (core_of d) (core_of after) is) results shelf
  where
    is : IsAside (core_of d) (core_of after)
    is = steps_aside (core_of d) (core_of after) event answer enters.step

-- ---- reports off the shelf

-- the keys of a desk rise
pub desk_rises :
    (work : WorkData) (d : DeskData) → IsSoundDesk work d → IsSoundCore (core_of d)
    → AllPairs IsBefore d.shelf
desk_rises work d sound core = by (job_runs (core_of d)) refl
  where
    none : AllPairs (IsBefore {R = ReportData}) []
    none i j s lt l = absurd (omega (arith, l))

    by : (b : Bool) → job_runs (core_of d) ≡ b → AllPairs IsBefore d.shelf
    by true runs = keys_rise d.shelf (core_of d).shelf sound.shelf (core.shelf runs).rising
    by false over = subst (λ ss. AllPairs IsBefore ss) (sym (sound.over over)) none

pub released_keeps :
    (work : WorkData) (d after : DeskData) (by : Mark) (key : ℕ) (answer : Answer)
    → IsSoundDesk work d → IsSoundCore (core_of d)
    → Replays d.journal.opening d.journal.entries (core_of d)
    → Enters d by (Release key) answer after
    → after.results ≡ results_with d.results (report_under d.shelf key) answer
    → after.shelf ≡ shelf_in (core_of after) (without_key d.shelf key) → IsSoundDesk work after
released_keeps work d after by key answer sound core replays enters results is =
    of (find (is_under key) d.shelf) refl results
  where
    Later : ShelvedReport ReportData → Type 0
    Later s = IsInTime work (core_of d).told s.report.finding

    alike : shelved_of (core_of d) key
        ≡ option_map as_shelved (find (is_under key) d.shelf)
    alike = under_alike d.shelf (core_of d).shelf key sound.shelf

    shows : (o : Option (ShelvedReport ReportData)) → find (is_under key) d.shelf ≡ o
        → ReleaseShows (bound_of work (core_of d)) (option_map as_shelved o)
    shows None e = tt
    shows (Some s) e =
        shows_within work (core_of d) s.report.finding
        (found_is Later (is_under key) d.shelf s sound.in_time e)

    r : Released (bound_of work (core_of d)) (core_of d) key (core_of after)
    r =
        releases_pass (bound_of work (core_of d)) (core_of d) (core_of after) key answer core.told
        (subst (λ o. ReleaseShows (bound_of work (core_of d)) o) (sym alike)
        (shows (find (is_under key) d.shelf) refl)) enters.step

    -- a report that is told late has its evidence
    Told : Option Shelved → Type 0
    Told o = IfSome o (λ s. EndedFor work d.job (core_of d).told s.attempt s.outcome)

    ended : (o : Option (ShelvedReport ReportData)) → find (is_under key) d.shelf ≡ o
        → Told (option_map as_shelved o)
    ended None e = tt
    ended (Some s) e =
        let kept : IsShelvedOf work d.job s =
        found_is (IsShelvedOf work d.job) (is_under key) d.shelf s sound.shelved e in
        subst (λ j. EndedFor work j (core_of d).told (attempt_of s.report)
        (outcome_of s.report.finding)) kept.of_job
        (ended_for work (core_of d).told s.report.task s.report.finding
        (subst (λ j. IsTaskOf j s.report.task.hand_out) (sym kept.of_job) kept.task) kept.is_true
        (found_is Later (is_under key) d.shelf s sound.in_time e))

    entered : Entered work d by (Release key) answer after
    entered =
        record {
          sound = sound;
          core = core;
          replays = replays;
          enters = enters;
          passes = r.passes;
          evident = subst (λ o. Told o) (sym alike) (ended (find (is_under key) d.shelf) refl);
        }

    shelf : KeepsShelf work d after
    shelf =
        shelf_keeps work d after (without_key d.shelf key) is (r.passes.ends (ends_so work d sound))
        (λ runs. without_tie d.shelf (core_of d).shelf key sound.shelf ∙ sym (r.shelf runs))
        (λ runs. All-filter (λ s. not (is_under key s)) (IsShelvedOf work d.job) d.shelf
        sound.shelved)
        (λ runs. all_later work (core_of d).told (core_of after).told (without_key d.shelf key)
        r.passes.told (All-filter (λ s. not (is_under key s)) Later d.shelf sound.in_time))

    -- a result is won by the report under the key
    late : (s : ShelvedReport ReportData) → find (is_under key) d.shelf ≡ Some s
        → answer ≡ says.Finished
        → IsWon (core_of d) (attempt_of s.report) (outcome_of s.report.finding) (core_of after)
    late s e says_so =
        let w = releases_win (core_of d) (core_of after) key core
        (subst (λ x. CoreReleases (core_of d) key x (core_of after)) says_so enters.step) in
        let some : Some w.report ≡ Some (as_shelved s) =
        sym w.found ∙ alike ∙ ap (λ o. option_map as_shelved o) e in
        let same : w.report ≡ as_shelved s = search (rules, some) in
        subst (λ (x : Shelved). IsWon (core_of d) x.attempt x.outcome (core_of after)) same w.is_won

    -- none is won without one
    never : find (is_under key) d.shelf ≡ None → answer ≢ says.Finished
    never e says_so =
        let w = releases_win (core_of d) (core_of after) key core
        (subst (λ x. CoreReleases (core_of d) key x (core_of after)) says_so enters.step) in
        let none : Some w.report ≡ None =
        sym w.found ∙ alike ∙ ap (λ o. option_map as_shelved o) e in
        search (rules, none)

    of : (o : Option (ShelvedReport ReportData)) → find (is_under key) d.shelf ≡ o
        → after.results ≡ results_with d.results (option_map (λ s. s.report) o) answer
        → IsSoundDesk work after
    of None e same =
        leaves_keep work d after by (Release key) answer entered
        (releases_leave (core_of d) (core_of after) key answer enters.step (never e)) shelf same
    of (Some s) e same =
        let kept : IsShelvedOf work d.job s =
        found_is (IsShelvedOf work d.job) (is_under key) d.shelf s sound.shelved e in
        told_keeps work d after by (Release key) answer s.report entered shelf
        (releases_leave (core_of d) (core_of after) key answer enters.step) (late s e)
        (λ says_so. kept.of_job) kept.is_true same
