-- What holds of a world holds on, once an attempt has reported.
use Rattle.std.proofs.Common.{◌≡◌, ℕ, not, All, Bool, true, false, List, Option, Some, None, IfSome, drop, length, map, refl, sym, subst}
use Rattle.std.specs.List.{filter}
use Rattle.std.proofs.lemmas.List.Elements.{All-append, All-map}
use Rattle.sc_ids.specs.declared.attempts.AttemptId.{AttemptId}
use Rattle.sc_dag.specs.Openings.{AreNumbered}
use Rattle.sc_dag.proofs.Tests.{clash}
use Rattle.sc_core.specs.CoreData.{CoreData, as_in, is_of, job_runs, running_of, shelved, shelved_if, told_once}
use Rattle.sc_core.specs.Posts.{Posts as CorePosts}
use Rattle.sc_core.specs.Posts.{PostsBy, PostsIf, PostsOf, TellsNow, comes_twice, delay_for}
use Rattle.sc_core.specs.Sound.{IsSoundCore}
use Rattle.sc_core.specs.declared.answers.Answer.{Answer}
use Rattle.sc_core.specs.declared.events.Outcome.{Outcome}
use Rattle.sc_core.specs.declared.running.Running.{Running}
use Rattle.sc_core.specs.declared.running.Shelved.{Shelved}
use Rattle.sc_core.proofs.PlannedLemmas.{counted_more}
use Rattle.sc_lineage.specs.ScriptData.{WorkData}
use Rattle.sc_net.specs.Reports.{ReportData, outcome_of, report_data}
use Rattle.sc_net.specs.Tasks.{IsTaskOf, TaskData}
use Rattle.sc_net.specs.declared.findings.Finding.{Finding}
use Rattle.sc_net.specs.declared.shelved.ShelvedReport.{ShelvedReport}
use Rattle.sc_task.specs.Attempts.{reported, task_of}
use Rattle.sc_desk.specs.DeskData.{core_of}
use Rattle.sc_desk.specs.Shelves.{with_key_of, with_more}
use Rattle.sc_world.specs.Sound.{IsRight, IsSoundWorld, Says}
use Rattle.sc_world.specs.Steps.{Posts}
use Rattle.sc_world.specs.WorldData.{WorldData, core_in}
use Rattle.sc_world.proofs.BehindLemmas.{IsBehind, itself_behind, late_behind, told_behind}
use Rattle.sc_world.proofs.LeaveLemmas.{placed_sound, shelf_all, was_out}
use Rattle.sc_world.proofs.FewerLemmas.{AreLess, late_less, less_then, none_less, off_less}
use Rattle.sc_world.proofs.OutLemmas.{less_out}
use Rattle.sc_world.proofs.ToldLemmas.{IsTold, told_is}

-- ---- a second copy

-- a second copy leaves an attempt as it was, which isn't out
if_less : (twice : Bool) (c : CoreData) (a : AttemptId) (outcome : Outcome) (delay : ℕ)
    (running : List Running) → AreLess a running c.running
    → AreLess a running (shelved_if twice c a outcome delay).running
if_less false c a outcome delay running h = h
if_less true c a outcome delay running h =
    less_then a running c.running (map (as_in a) c.running) h (late_less a c.running)

if_told : (twice : Bool) (c : CoreData) (a : AttemptId) (outcome : Outcome) (delay : ℕ)
    → (shelved_if twice c a outcome delay).told ≡ c.told
if_told false c a outcome delay = refl
if_told true c a outcome delay = refl

if_runs : (twice : Bool) (c : CoreData) (a : AttemptId) (outcome : Outcome) (delay : ℕ)
    → job_runs (shelved_if twice c a outcome delay) ≡ true → job_runs c ≡ true
if_runs false c a outcome delay r = r
if_runs true c a outcome delay r = r

-- where a report is told at once, those that run are fewer by its attempt then, if it ran
told_less : (twice : Bool) (c after : CoreData) (a : AttemptId) (outcome : Outcome)
    → IsTold (shelved_if twice c a outcome 0) a outcome after
    → AreLess a c.running after.running
told_less twice c after a outcome is =
    by twice is
  where
    by : (twice : Bool) → IsTold (shelved_if twice c a outcome 0) a outcome after
        → AreLess a c.running after.running
    by false is = subst (λ rs. AreLess a c.running rs) (sym is.running) (off_less a c.running)
    by true is =
        subst (λ rs. AreLess a c.running rs) (sym is.running)
        (less_then a c.running (map (as_in a) c.running)
        (filter (λ r. not (is_of a r)) (map (as_in a) c.running)) (late_less a c.running)
        (off_less a (map (as_in a) c.running)))

-- ---- cores

-- what a report leaves of the core
record IsPosted (w : WorldData) (a : AttemptId) (after : CoreData) : Type 0 where
  behind : IsBehind w after
  ran : job_runs after ≡ true → job_runs (core_in w) ≡ true
  less : job_runs after ≡ true → AreLess a (core_in w).running after.running

posted : (work : WorkData) (w : WorldData) (t : TaskData) (finding : Finding) (answer : Answer)
    (after : CoreData) → IsSoundWorld work w → IsSoundCore (core_in w)
    → AreNumbered t.job.graph (core_in w).dag.stages → IsTaskOf t.job t.hand_out
    → Says w.stores t finding
    → CorePosts (core_in w) t.hand_out.attempt (outcome_of finding) answer after
    → IsPosted w t.hand_out.attempt after
posted work w t finding answer after sound core numbered task says step =
    by (job_runs (core_in w)) refl step
  where
    c : CoreData
    c = core_in w

    a : AttemptId
    a = t.hand_out.attempt

    outcome : Outcome
    outcome = outcome_of finding

    itself : IsBehind w (core_in w)
    itself = itself_behind work w sound

    late : (twice : Bool) (delay : ℕ)
        → IsPosted w a (shelved_if twice (shelved c a outcome delay) a outcome delay)
    late twice delay =
        record {
          behind = late_behind twice w (shelved c a outcome delay) a outcome delay
              (late_behind true w c a outcome delay itself);
          ran = λ r. if_runs twice (shelved c a outcome delay) a outcome delay r;
          less = λ r. if_less twice (shelved c a outcome delay) a outcome delay c.running
              (late_less a c.running);
        }

    at_once : (twice : Bool) → TellsNow (shelved_if twice c a outcome 0) a outcome answer after
        → IsPosted w a after
    at_once twice tells =
        let mid = shelved_if twice c a outcome 0 in
        let is : IsTold mid a outcome after = told_is mid after a outcome answer tells in
        record {
          behind = told_behind w mid after t finding (late_behind twice w c a outcome 0 itself)
              (rw (if_told twice c a outcome 0) core.told) numbered task says is;
          ran = λ r. if_runs twice c a outcome 0 (is.runs r);
          less = λ r. told_less twice c after a outcome is;
        }

    by_delay : (delay : Option ℕ) → PostsBy delay c a outcome answer after → IsPosted w a after
    by_delay None tells = at_once (comes_twice c a) tells
    by_delay (Some delay) (says, is) =
        subst (λ x. IsPosted w a x) (sym is) (late (comes_twice c a) delay)

    nobody : running_of (core_in w) t.hand_out.attempt ≡ None → IsPosted w a (told_once c)
    nobody e =
        record {
          behind = record {
            told = counted_more c.told core.told;
            stages = refl;
            tied = sound.tied;
            given = λ b g. g;
            saves = refl;
            stays = sound.stays;
          };
          ran = λ r. r;
          less = λ r. none_less a c.running e;
        }

    of : (o : Option Running) → running_of (core_in w) t.hand_out.attempt ≡ o
        → PostsOf o c a outcome answer after → IsPosted w a after
    of None e (says, is) = subst (λ x. IsPosted w a x) (sym is) (nobody e)
    of (Some r) e (fit, posts) = by_delay (delay_for c a) posts

    by : (b : Bool) → job_runs (core_in w) ≡ b → PostsIf b c a outcome answer after
        → IsPosted w a after
    by false e (says, is) =
        subst (λ x. IsPosted w a x) (sym is)
        (record { behind = itself; ran = λ r. r; less = λ r. absurd (clash r e) })
    by true e h = of (running_of c a) refl h

-- ---- worlds

-- what is on the shelf says right things of the stores, also with more of one that does
shelf_more : (w : WorldData) (t : TaskData) (finding : Finding)
    (shelf : List (ShelvedReport ReportData)) (of_core : List Shelved)
    → All (λ s. Says w.stores s.report.task s.report.finding) shelf → Says w.stores t finding
    → All (λ s. Says w.stores s.report.task s.report.finding)
    (with_more shelf (report_data t finding) of_core)
shelf_more w t finding shelf of_core all says =
    All-append Right shelf (map (with_key_of (report_data t finding)) (drop (length shelf) of_core))
    all
    (All-map Right (with_key_of (report_data t finding)) (drop (length shelf) of_core)
    (λ i d l. says))
  where
    Right : ShelvedReport ReportData → Type 0
    Right s = Says w.stores s.report.task s.report.finding

pub posts_sound : (work : WorkData) (w : WorldData) (exec : ℕ) (answer : Answer)
    (after : WorldData) → IsSoundWorld work w → IsSoundCore (core_in w)
    → AreNumbered w.desk.job.graph (core_in w).dag.stages → (p : Posts work w exec answer after)
    → IsTaskOf p.task.job p.task.hand_out → IsSoundWorld work after
posts_sound work w exec answer after sound core numbered p task =
    subst (IsSoundWorld work) (sym p.is)
    (placed_sound work w p.desk exec None sound
    (record {
      job = p.receives.enters.job;
      behind = is.behind;
      shelved = subst (λ shelf. All (λ s. Says w.stores s.report.task s.report.finding) shelf)
          (sym p.receives.shelf)
          (shelf_all (λ s. Says w.stores s.report.task s.report.finding) (core_of p.desk)
          (with_more w.desk.shelf (report_data p.task p.finding) (core_of p.desk).shelf)
          (shelf_more w p.task p.finding w.desk.shelf (core_of p.desk).shelf sound.shelved
          right.brings.0));
    })
    tt
    (λ r. less_out work w.held exec (reported p.task p.finding) (core_in w).running
    (core_of p.desk).running p.held (is.less r) (was_out work w sound (is.ran r))))
  where
    right : IsRight w.stores exec (reported p.task p.finding)
    right = subst (λ o. IfSome o (IsRight w.stores exec)) p.held (sound.right exec)

    graph_is : AreNumbered p.task.job.graph (core_in w).dag.stages
    graph_is =
        subst (λ j. AreNumbered j.graph (core_in w).dag.stages)
        (sym (subst (λ o. IfSome o (λ a. (task_of a).job ≡ w.desk.job)) p.held
        (sound.of_job exec)))
        numbered

    is : IsPosted w p.task.hand_out.attempt (core_of p.desk)
    is =
        posted work w p.task p.finding p.receipt.answer (core_of p.desk) sound core graph_is task
        right.brings.0 p.receives.enters.step
