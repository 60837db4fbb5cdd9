-- What holds of a world holds on, once a report is told that was to be told later.
use Rattle.std.proofs.Common.{◌≡◌, ℕ, ◌==◌, not, All, Bool, true, false, cond, List, [], ◌∷◌, Contains, Option, Some, None, find, map, option_map, refl, ap, sym, subst, ◌∙◌, rules}
use Rattle.std.proofs.lemmas.List.Elements.{All-contains, All-contains_itself, All-filter}
use Rattle.sc_taskset.proofs.FindLemmas.{found_is}
use Rattle.sc_dag.specs.Openings.{AreNumbered}
use Rattle.sc_dag.proofs.Tests.{clash}
use Rattle.sc_core.specs.CoreData.{CoreData, has_key, is_of, job_runs, shelved_of, without_shelved}
use Rattle.sc_core.specs.Releases.{Releases as CoreReleases}
use Rattle.sc_core.specs.Releases.{ReleasesIf, ReleasesOf}
use Rattle.sc_core.specs.Sound.{IsSoundCore}
use Rattle.sc_core.specs.declared.answers.Answer.{Answer}
use Rattle.sc_core.specs.declared.running.Shelved.{Shelved}
use Rattle.sc_lineage.specs.ScriptData.{WorkData}
use Rattle.sc_net.specs.Reports.{ReportData, outcome_of}
use Rattle.sc_net.specs.Shelves.{is_under}
use Rattle.sc_net.specs.Tasks.{IsTaskOf}
use Rattle.sc_net.specs.declared.shelved.ShelvedReport.{ShelvedReport}
use Rattle.sc_desk.specs.DeskData.{DeskData, core_of}
use Rattle.sc_desk.specs.Shelves.{IsShelvedOf, as_shelved, without_key}
use Rattle.sc_desk.specs.Sound.{IsSoundDesk}
use Rattle.sc_world.specs.Sound.{IsSoundWorld, Says}
use Rattle.sc_world.specs.Steps.{ReleasesOne}
use Rattle.sc_world.specs.WorldData.{WorldData, core_in, with_desk}
use Rattle.sc_world.proofs.BehindLemmas.{IsBehind, itself_behind, told_behind, without_behind}
use Rattle.sc_world.proofs.LeaveLemmas.{kept_sound, shelf_all, was_out}
use Rattle.sc_world.proofs.FewerLemmas.{AreAmong, filter_among}
use Rattle.sc_world.proofs.OutLemmas.{fewer_out}
use Rattle.sc_world.proofs.ToldLemmas.{IsTold, told_is}

-- the report of a key on a desk's shelf, as the core has it
find_shelved : (key : ℕ) (shelf : List (ShelvedReport ReportData))
    → find (has_key key) (map as_shelved shelf) ≡ option_map as_shelved (find (is_under key) shelf)
find_shelved key [] = refl
find_shelved key (s ∷ shelf) = by (s.key == key) (find_shelved key shelf)
  where
    by : (b : Bool)
        → find (has_key key) (map as_shelved shelf)
        ≡ option_map as_shelved (find (is_under key) shelf)
        → cond b (Some (as_shelved s)) (find (has_key key) (map as_shelved shelf))
        ≡ option_map as_shelved (cond b (Some s) (find (is_under key) shelf))
    by true h = refl
    by false h = h

-- the report of the desk that the core tells
record IsOnDesk (work : WorkData) (w : WorldData) (s : Shelved) : Type 0 where
  one : ShelvedReport ReportData
  same : s ≡ as_shelved one
  of_job : IsShelvedOf work w.desk.job one
  says : Says w.stores one.report.task one.report.finding

on_desk : (work : WorkData) (w : WorldData) (key : ℕ) (s : Shelved) → IsSoundWorld work w
    → IsSoundDesk work w.desk → shelved_of (core_in w) key ≡ Some s → IsOnDesk work w s
on_desk work w key s sound desk found =
    by (find (is_under key) w.desk.shelf) refl
    (sym (find_shelved key w.desk.shelf) ∙ ap (find (has_key key)) desk.shelf ∙ found)
  where
    by : (o : Option (ShelvedReport ReportData)) → find (is_under key) w.desk.shelf ≡ o
        → option_map as_shelved o ≡ Some s → IsOnDesk work w s
    by None e h = absurd (search (rules, h))
    by (Some one) e h =
        let there : Contains w.desk.shelf one =
        found_is (Contains w.desk.shelf) (is_under key) w.desk.shelf one
        (All-contains_itself w.desk.shelf) e in
        record {
          one = one;
          same = search (rules, h);
          of_job = All-contains (IsShelvedOf work w.desk.job) w.desk.shelf one desk.shelved there;
          says = All-contains (λ x. Says w.stores x.report.task x.report.finding) w.desk.shelf one
              sound.shelved there;
        }

-- ---- cores

-- what an event leaves of the core by which no more is out
pub record IsFewer (w : WorldData) (after : CoreData) : Type 0 where
  pub behind : IsBehind w after
  pub ran : job_runs after ≡ true → job_runs (core_in w) ≡ true
  pub among : job_runs after ≡ true → AreAmong after.running (core_in w).running

released : (work : WorkData) (w : WorldData) (key : ℕ) (answer : Answer) (after : CoreData)
    → IsSoundWorld work w → IsSoundCore (core_in w) → IsSoundDesk work w.desk
    → CoreReleases (core_in w) key answer after → IsFewer w after
released work w key answer after sound core desk step = by (job_runs (core_in w)) refl step
  where
    c : CoreData
    c = core_in w

    mid : CoreData
    mid = without_shelved (core_in w) key

    told : (one : ShelvedReport ReportData) → IsShelvedOf work w.desk.job one
        → Says w.stores one.report.task one.report.finding
        → IsTold mid one.report.task.hand_out.attempt (outcome_of one.report.finding) after
        → IsFewer w after
    told one of_job says is =
        record {
          behind = told_behind w mid after one.report.task one.report.finding
              (without_behind w c key (itself_behind work w sound)) core.told
              (subst (λ j. AreNumbered j.graph c.dag.stages) (sym of_job.of_job) desk.stages)
              (subst (λ j. IsTaskOf j one.report.task.hand_out) (sym of_job.of_job) of_job.task)
              says is;
          ran = is.runs;
          among = λ r. subst (λ rs. AreAmong rs c.running) (sym is.running)
              (filter_among (λ x. not (is_of one.report.task.hand_out.attempt x)) c.running
              core.job.apart);
        }

    of : (o : Option Shelved) → shelved_of (core_in w) key ≡ o → ReleasesOf o c key answer after
        → IsFewer w after
    of None e bad = absurd bad
    of (Some s) e tells =
        let on : IsOnDesk work w s = on_desk work w key s sound desk e in
        told on.one on.of_job on.says
        (subst (λ x. IsTold mid x.attempt x.outcome after) on.same
        (told_is mid after s.attempt s.outcome answer tells))

    by : (b : Bool) → job_runs (core_in w) ≡ b → ReleasesIf b c key answer after → IsFewer w after
    by false e (says, is) =
        subst (λ x. IsFewer w x) (sym is)
        (record {
          behind = itself_behind work w sound;
          ran = λ r. r;
          among = λ r. absurd (clash r e);
        })
    by true e h = of (shelved_of c key) refl h

-- ---- worlds

-- an event by which no more is out, and nothing else is to be told later
pub fewer_sound : (work : WorkData) (w : WorldData) (desk : DeskData) → IsSoundWorld work w
    → IsFewer w (core_of desk) → desk.job ≡ w.desk.job
    → All (λ s. Says w.stores s.report.task s.report.finding) desk.shelf
    → IsSoundWorld work (with_desk w desk)
fewer_sound work w desk sound fewer job shelved =
    kept_sound work w desk sound
    (record { job = job; behind = fewer.behind; shelved = shelved })
    (λ r. fewer_out work w.held (core_of desk).running (core_in w).running (fewer.among r)
    (was_out work w sound (fewer.ran r)))

pub releases_sound : (work : WorkData) (w : WorldData) (key : ℕ) (answer : Answer)
    (after : WorldData) → IsSoundWorld work w → IsSoundCore (core_in w)
    → IsSoundDesk work w.desk → ReleasesOne w key answer after → IsSoundWorld work after
releases_sound work w key answer after sound core desk p =
    subst (IsSoundWorld work) (sym p.is)
    (fewer_sound work w p.desk sound
    (released work w key p.receipt.answer (core_of p.desk) sound core desk p.releases.enters.step)
    p.releases.enters.job
    (subst (λ shelf. All Right shelf) (sym p.releases.shelf)
    (shelf_all Right (core_of p.desk) (without_key w.desk.shelf key)
    (All-filter (λ s. not (is_under key s)) Right w.desk.shelf sound.shelved))))
  where
    Right : ShelvedReport ReportData → Type 0
    Right s = Says w.stores s.report.task s.report.finding
