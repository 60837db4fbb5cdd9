-- What holds of every desk holds behind each report that is posted.
use Rattle.std.proofs.Common.{◌≡◌, ◌≢◌, ℕ, zero, suc, ◌||◌, slice_index_or, ◌+◌, ◌<◌, ◌≤◌, ◌&&◌, All, Contains, Bool, true, false, if◌then◌else◌, List, [], ◌∷◌, drop, map, Option, Some, None, length, refl, arith, ap, ap₂, sym, subst, ◌∙◌, rules, true≢false}
use Rattle.sc_base.specs.Lists.{at_or}
use Rattle.sc_ids.specs.Changes.{change_at}
use Rattle.sc_ids.specs.declared.attempts.AttemptId.{AttemptId}
use Rattle.sc_ids.specs.declared.attempts.Mark.{Mark}
use Rattle.sc_lineage.specs.ScriptData.{WorkData}
use Rattle.sc_lineage.specs.Targets.{TargetData}
use Rattle.sc_compute.specs.Results.{HandsOver}
use Rattle.sc_compute.specs.declared.results.TaskResult.{TaskResult}
use Rattle.sc_tracker.specs.declared.outputs.Location.TheVariants as locations
use Rattle.sc_dag.specs.DagData.{no_stage, stage_at}
use Rattle.sc_dag.specs.Openings.{AreNumbered}
use Rattle.sc_dag.specs.Submission.{is_map}
use Rattle.sc_dag.proofs.Tests.{clash, not_false, not_true}
use Rattle.sc_core.specs.CoreData.{CoreData, job_runs, result_stage, running_of}
use Rattle.sc_core.specs.HandOuts.{HandOutData}
use Rattle.sc_core.specs.Journals.{Replays}
use Rattle.sc_core.specs.Posts.{comes_twice}
use Rattle.sc_core.specs.Posts as core
use Rattle.sc_core.specs.Sound.{IsSoundCore}
use Rattle.sc_core.specs.Steps.{is_enabled}
use Rattle.sc_core.specs.declared.answers.Answer.{Answer}
use Rattle.sc_core.specs.declared.answers.Answer.TheVariants as says
use Rattle.sc_core.specs.declared.events.Event.{Event}
use Rattle.sc_core.specs.declared.events.Event.TheVariants.{Post}
use Rattle.sc_core.specs.declared.events.Outcome.{Outcome}
use Rattle.sc_core.specs.declared.events.Outcome.TheVariants as outcomes
use Rattle.sc_core.specs.declared.running.Running.{Running}
use Rattle.sc_core.specs.declared.running.Shelved.{Shelved}
use Rattle.sc_ids.specs.declared.failures.FailureCause.TheVariants as causes
use Rattle.sc_jobs.specs.JobData.{target_of}
use Rattle.sc_net.specs.Reports.{IsTrueReport, ReportData, WasGiven, loc_at, outcome_of, result_in}
use Rattle.sc_net.specs.Tasks.{IsTaskOf, TaskData, task_data}
use Rattle.sc_net.specs.declared.shelved.ShelvedReport.{ShelvedReport}
use Rattle.sc_net.specs.declared.findings.Finding.{Finding}
use Rattle.sc_net.specs.declared.findings.Finding.TheVariants as findings
use Rattle.sc_desk.specs.DeskData.{DeskData, core_of}
use Rattle.sc_desk.specs.Entries.{Enters}
use Rattle.sc_desk.specs.Dues.{IsEarly, IsInTime}
use Rattle.sc_desk.specs.Shelves.{IsShelvedOf, count_of, shelf_in, with_key_of, with_more}
use Rattle.sc_desk.specs.declared.receipts.Receipt.{Receipt}
use Rattle.sc_desk.specs.Posts.{AreCopies, IsGiven, IsGivenIf, IsGivenOf, IsKnown, Receives, attempt_of, is_finished, results_after}
use Rattle.sc_desk.specs.Sound.{EndedFor, IsResult, IsSoundDesk}
use Rattle.sc_desk.proofs.AnswerLemmas.{posts_no_loss}
use Rattle.sc_desk.proofs.KeepLemmas.{Entered, KeepsShelf, bound_of, in_time_later, leaves_keep, wins_keep}
use Rattle.sc_desk.proofs.PassLemmas.{IsPutOff, Posted, copies_if, posts_pass}
use Rattle.sc_desk.proofs.ShelfLemmas.{all_later, behind, ends_so, more_tie, shelf_keeps, shelf_length}
use Rattle.sc_desk.proofs.TrackLemmas.{ShowsWithin}
use Rattle.sc_desk.proofs.StepLemmas.{IsTold, IsWon, posts_leave, posts_told, posts_win}
use Rattle.std.specs.List.{list_any}
use Rattle.std.proofs.lemmas.Bool.Decides.{nat_tests}
use Rattle.std.proofs.lemmas.List.Elements.{All-append, All-cons, All-head, All-nil, All-tail}
use Rattle.sc_desk.proofs.DagLemmas.{Leaves}
use Rattle.sc_desk.proofs.TaskLemmas.{result_target_is}

-- ---- who reports

-- a task that was given, where its attempt is known to run
given_so :
    (d : DeskData) (t : TaskData) (r : Running) → IsGiven d t → job_runs (core_of d) ≡ true
    → running_of (core_of d) t.hand_out.attempt ≡ Some r → IsGivenOf (Some r) d.job t
given_so d t r given runs one =
    subst (λ o. IsGivenOf o d.job t) one
    (subst (λ b. IsGivenIf b (running_of (core_of d) t.hand_out.attempt) d.job t) runs given)

-- who is known was given its task
pub known_given :
    (d : DeskData) (report : ReportData) → IsKnown d report → IsGiven d report.task
known_given d report known =
    by (job_runs (core_of d)) refl (running_of (core_of d) (attempt_of report)) refl
  where
    by : (b : Bool) → job_runs (core_of d) ≡ b → (o : Option Running)
        → running_of (core_of d) (attempt_of report) ≡ o → IsGivenIf b o d.job report.task
    by false e o f = tt
    by true e None f = tt
    by true e (Some r) f = (known r e f).given

-- what is answered to a report that fits
fits_so :
    (c after : CoreData) (a : AttemptId) (outcome : Outcome) (answer : Answer) (r : Running)
    → core.Posts c a outcome answer after → job_runs c ≡ true → running_of c a ≡ Some r
    → core.fits c r outcome ≡ true
fits_so c after a outcome answer r step runs one =
    (subst (λ o. core.PostsOf o c a outcome answer after) one
    (subst (λ b. core.PostsIf b c a outcome answer after) runs step)).0

answered_known :
    (d : DeskData) (after : CoreData) (report : ReportData) (answer : Answer)
    → IsGiven d report.task
    → core.Posts (core_of d) (attempt_of report) (outcome_of report.finding) answer after
    → IsKnown d report
answered_known d after report answer given step r runs one =
    record {
      given = given_so d report.task r given runs one;
      fitting = fits_so (core_of d) after (attempt_of report) (outcome_of report.finding) answer r
          step runs one;
    }

-- who isn't enabled is a stranger
pub misfit_strange :
    (d : DeskData) (report : ReportData)
    → is_enabled (core_of d) (Post (attempt_of report) (outcome_of report.finding)) ≡ false
    → IsKnown d report → ⊥
misfit_strange d report off known =
    by (job_runs (core_of d)) refl (running_of (core_of d) (attempt_of report)) refl
    (not_false _ off)
  where
    by : (b : Bool) → job_runs (core_of d) ≡ b → (o : Option Running)
        → running_of (core_of d) (attempt_of report) ≡ o
        → (b && core.misfits (core_of d) o (outcome_of report.finding)) ≡ true → ⊥
    by false e o f h = true≢false (sym h)
    by true e None f h = true≢false (sym h)
    by true e (Some r) f h = clash ((known r e f).fitting) (not_true _ h)

-- a test finds an item of a list that passes it
any_of : {A : Type 0} (p : A → Bool) (xs : List A) (x : A) → Contains xs x → p x ≡ true
    → list_any p xs ≡ true
any_of {A = A} p xs x (k, lt, is) e = at xs k lt is
  where
    more : (b c : Bool) → c ≡ true → (b || c) ≡ true
    more true c h = refl
    more false c h = h

    at : (ys : List A) (k : ℕ) → k < length ys → slice_index_or ys k x ≡ x
        → list_any p ys ≡ true
    at [] k lt is = absurd (omega (arith, lt))
    at (y ∷ ys) zero lt is = ap (λ b. b || list_any p ys) (ap p is ∙ e)
    at (y ∷ ys) (suc k) lt is = more (p y) (list_any p ys) (at ys k (omega (arith, lt)) is)

-- a report of a generation that its task was sent below fits the attempt that it is of
gone_fits : (c : CoreData) (r : Running) (t : TaskData) (exec wanted found : ℕ)
    → t.hand_out ≡ r.hand_out → WasGiven t (locations.Here (loc_at exec wanted)) → wanted < found
    → core.fits c r (outcomes.Failed (causes.Gone exec wanted found)) ≡ true
gone_fits c r t exec wanted found same given lt =
    let here : list_any (core.is_here (loc_at exec wanted)) r.hand_out.inputs ≡ true =
    subst (λ (h : HandOutData). list_any (core.is_here (loc_at exec wanted)) h.inputs ≡ true) same
    (any_of (core.is_here (loc_at exec wanted)) t.hand_out.inputs
    (locations.Here (loc_at exec wanted)) given
    (grind (arith, nat_tests))) in
    rw here (grind (arith, nat_tests, lt))

-- so one that is early is of the attempt that it is given to
pub early_known :
    (work : WorkData) (d : DeskData) (report : ReportData) (due : ℕ)
    → IsTrueReport work report.task report.finding → IsGiven d report.task
    → IsEarly work (core_of d).told report.finding due → IsKnown d report
early_known work d report due true_of given early r runs one =
    record {
      given = task;
      fitting = of report.finding true_of early;
    }
  where
    task : report.task ≡ task_data d.job r.hand_out
    task = given_so d report.task r given runs one

    of : (finding : Finding) → IsTrueReport work report.task finding
        → IsEarly work (core_of d).told finding due
        → core.fits (core_of d) r (outcome_of finding) ≡ true
    of (findings.Gone exec wanted found) (was, lt) e =
        gone_fits (core_of d) r report.task exec wanted found
        (ap (λ (t : TaskData). t.hand_out) task) was lt
    of (findings.Map loc) is e = absurd e
    of (findings.Result given) is e = absurd e
    of findings.Planned is e = absurd e
    of (findings.Raised x) is e = absurd e
    of (findings.Metadata last) is e = absurd e
    of (findings.Device fault) is e = absurd e
    of findings.Denied is e = absurd e

-- who is no stranger and in time is received
pub received :
    (work : WorkData) (d after : DeskData) (by : Mark) (report : ReportData) (receipt : Receipt)
    → IsGiven d report.task → IsInTime work (core_of d).told report.finding
    → receipt.entry ≡ length d.journal.entries
    → Enters d by (Post (attempt_of report) (outcome_of report.finding)) receipt.answer after
    → after.results ≡ results_after d.results report receipt.answer
    → after.shelf ≡ shelf_in (core_of after) (with_more d.shelf report (core_of after).shelf)
    → Receives work d by report receipt after
received work d after by report receipt given in_time place enters results shelf =
    record {
      known = answered_known d (core_of after) report receipt.answer given enters.step;
      in_time = in_time;
      place = place;
      enters = enters;
      no_loss = posts_no_loss (core_of d) (core_of after) (attempt_of report)
          (outcome_of report.finding) receipt.answer enters.step;
      results = results;
      shelf = shelf;
    }

-- ---- what is told

-- a true report in time has its evidence
pub ended_for :
    (work : WorkData) (told : ℕ) (t : TaskData) (finding : Finding) → IsTaskOf t.job t.hand_out
    → IsTrueReport work t finding
    → IsInTime work told finding
    → EndedFor work t.job told t.hand_out.attempt (outcome_of finding)
ended_for work told t (findings.Map loc) task is time = tt
ended_for work told t (findings.Result given) task is time = tt
ended_for work told t findings.Planned task is time = is
ended_for work told t (findings.Raised r) task is time =
    record { task = task.task; own = is.own; inputs = is.inputs }
ended_for work told t (findings.Gone exec wanted found) task is time = time
ended_for work told t (findings.Metadata last) task is time = tt
ended_for work told t (findings.Device fault) task is time = is
ended_for work told t findings.Denied task is time = is

-- and shows no generation above the wipes that are due
pub shows_within :
    (work : WorkData) (c : CoreData) (finding : Finding) → IsInTime work c.told finding
    → ShowsWithin (bound_of work c) (outcome_of finding)
shows_within work c (findings.Map loc) time = tt
shows_within work c (findings.Result given) time = tt
shows_within work c findings.Planned time = tt
shows_within work c (findings.Raised r) time = tt
shows_within work c (findings.Gone exec wanted found) time = time
shows_within work c (findings.Metadata last) time = tt
shows_within work c (findings.Device fault) time = tt
shows_within work c findings.Denied time = tt

-- a finding that is told as a result hands one over
record HasGiven (work : WorkData) (t : TaskData) (finding : Finding) : Type 0 where
  given : TaskResult
  kept : result_in finding ≡ Some given
  own : HandsOver work
      (target_of work t.job t.hand_out.attempt.stage t.hand_out.attempt.partition) given

has_given :
    (work : WorkData) (t : TaskData) (finding : Finding) → IsTrueReport work t finding
    → outcome_of finding ≡ outcomes.Result → HasGiven work t finding
has_given work t (findings.Result given) is e = record { given = given; kept = refl; own = is.own }
has_given work t (findings.Map loc) is e = absurd (search (rules, e))
has_given work t findings.Planned is e = absurd (search (rules, e))
has_given work t (findings.Raised r) is e = absurd (search (rules, e))
has_given work t (findings.Gone exec wanted found) is e = absurd (search (rules, e))
has_given work t (findings.Metadata last) is e = absurd (search (rules, e))
has_given work t (findings.Device fault) is e = absurd (search (rules, e))
has_given work t findings.Denied is e = absurd (search (rules, e))

finished_is : (answer : Answer) → is_finished answer ≡ true → answer ≡ says.Finished
finished_is says.Finished e = refl
finished_is (says.Task h) e = absurd (true≢false (sym e))
finished_is (says.Wait out) e = absurd (true≢false (sym e))
finished_is (says.Busy held) e = absurd (true≢false (sym e))
finished_is says.Lost e = absurd (true≢false (sym e))
finished_is (says.Stopped first) e = absurd (true≢false (sym e))
finished_is says.Ended e = absurd (true≢false (sym e))
finished_is (says.Aborted why) e = absurd (true≢false (sym e))
finished_is says.Ignored e = absurd (true≢false (sym e))
finished_is says.Repeated e = absurd (true≢false (sym e))
finished_is says.Registered e = absurd (true≢false (sym e))
finished_is says.Bogus e = absurd (true≢false (sym e))
finished_is says.Again e = absurd (true≢false (sym e))
finished_is says.Resubmitted e = absurd (true≢false (sym e))
finished_is (says.Side said) e = absurd (true≢false (sym e))
finished_is says.Shelved e = absurd (true≢false (sym e))
finished_is says.Told e = absurd (true≢false (sym e))

-- ---- results

-- a result of the result stage, which a true report hands over
record IsOwn (work : WorkData) (d : DeskData) (report : ReportData) : Type 0 where
  given : TaskResult
  kept : result_in report.finding ≡ Some given
  own : IsResult work d.job (attempt_of report).partition given

own_of :
    (work : WorkData) (d : DeskData) (report : ReportData)
    → AreNumbered d.job.graph (core_of d).dag.stages
    → is_map (stage_at (core_of d).dag (result_stage (core_of d).dag)).target ≡ false
    → IsTrueReport work report.task report.finding → report.task.job ≡ d.job
    → outcome_of report.finding ≡ outcomes.Result
    → (attempt_of report).stage ≡ result_stage (core_of d).dag → IsOwn work d report
own_of work d report numbered last true_of job outcome stage =
    let has : HasGiven work report.task report.finding =
    has_given work report.task report.finding true_of outcome in
    let kind : is_map (at_or (core_of d).dag.stages (attempt_of report).stage no_stage).target
    ≡ false =
    subst (λ (s : ℕ). is_map (at_or (core_of d).dag.stages s no_stage).target ≡ false)
    (sym stage) last in
    record {
      given = has.given;
      kept = has.kept;
      own = subst (λ (x : TargetData). HandsOver work x has.given)
          (ap (λ j. target_of work j (attempt_of report).stage (attempt_of report).partition) job
          ∙ result_target_is work d.job (core_of d).dag.stages (attempt_of report).stage
          (attempt_of report).partition numbered kind) has.own;
    }

-- an entry by which a report is told, or may be told later, as far as it may win a result
pub told_keeps :
    (work : WorkData) (d after : DeskData) (by : Mark) (event : Event) (answer : Answer)
    (report : ReportData)
    → Entered work d by event answer after → KeepsShelf work d after
    → (answer ≢ says.Finished → Leaves (core_of d).dag (core_of after).dag)
    → (answer ≡ says.Finished
    → IsWon (core_of d) (attempt_of report) (outcome_of report.finding) (core_of after))
    → (answer ≡ says.Finished → report.task.job ≡ d.job)
    → IsTrueReport work report.task report.finding
    → after.results ≡ results_after d.results report answer → IsSoundDesk work after
told_keeps work d after by event answer report e shelf leaves wins job true_of results =
    one (is_finished answer) refl results
  where
    won : answer ≡ says.Finished
        → after.results ≡ change_at d.results (attempt_of report).partition
        (λ _. result_in report.finding)
        → IsSoundDesk work after
    won says_so kept =
        let w = wins says_so in
        let own = own_of work d report e.sound.stages e.core.job.result true_of (job says_so)
        w.outcome_is w.stage in
        wins_keep work d after by event answer (attempt_of report) own.given e w.stage w.within
        w.wins shelf own.own
        (kept ∙ ap (λ o. change_at d.results (attempt_of report).partition (λ _. o)) own.kept)

    one : (b : Bool) → is_finished answer ≡ b
        → after.results ≡ (if b then change_at d.results (attempt_of report).partition
        (λ _. result_in report.finding) else d.results)
        → IsSoundDesk work after
    one true f kept = won (finished_is answer f) kept
    one false f kept =
        leaves_keep work d after by event answer e
        (leaves (λ says_so. clash (ap is_finished says_so) f)) shelf kept

-- ---- reports that are posted

-- a report that is posted
pub record IsPosted (work : WorkData) (d : DeskData) (by : Mark) (report : ReportData)
    (answer : Answer) (after : DeskData) : Type 0 where
  pub sound : IsSoundDesk work d
  pub core : IsSoundCore (core_of d)
  pub replays : Replays d.journal.opening d.journal.entries (core_of d)
  pub is_true : IsTrueReport work report.task report.finding
  pub is_task : IsTaskOf report.task.job report.task.hand_out
  pub given : IsGiven d report.task
  pub in_time : IsInTime work (core_of d).told report.finding
  pub enters : Enters d by (Post (attempt_of report) (outcome_of report.finding)) answer after

-- a report that is posted as an event of these numbers
pub posted_by :
    (work : WorkData) (d now after : DeskData) (by : Mark) (report : ReportData) (answer : Answer)
    (a : AttemptId) (o : Outcome) (t : TaskData)
    → d ≡ now → a ≡ attempt_of report → o ≡ outcome_of report.finding → t ≡ report.task
    → IsSoundDesk work d → IsSoundCore (core_of d)
    → Replays d.journal.opening d.journal.entries (core_of d)
    → IsTrueReport work report.task report.finding → IsTaskOf t.job t.hand_out
    → IsGiven now report.task → IsInTime work (core_of now).told report.finding
    → Enters d by (Post a o) answer after → IsPosted work d by report answer after
posted_by work d now after by report answer a o t same at outcome task sound core replays is_true
    is_task given in_time enters =
    record {
      sound = sound;
      core = core;
      replays = replays;
      is_true = is_true;
      is_task = subst (λ (x : TaskData). IsTaskOf x.job x.hand_out) task is_task;
      given = subst (λ x. IsGiven x report.task) (sym same) given;
      in_time = subst (λ (x : DeskData). IsInTime work (core_of x).told report.finding) (sym same)
          in_time;
      enters = subst (λ event. Enters d by event answer after) (ap₂ (λ x y. Post x y) at outcome)
          enters;
    }

-- so many copies there are
pub copies_counted :
    (c : CoreData) (report : ReportData) (copy : Option ReportData) → AreCopies c report copy
    → copies_if (comes_twice c (attempt_of report)) ≡ count_of copy
copies_counted c report None e = ap copies_if e
copies_counted c report (Some copy) (e, same) = ap copies_if e

-- what it leaves of the core
abbrev pub PostedTo : WorkData → DeskData → ReportData → Answer → CoreData → Type 0
PostedTo work d report answer after =
    Posted (bound_of work (core_of d)) (core_of d) (attempt_of report)
    (outcome_of report.finding) answer after

pub posted_to :
    (work : WorkData) (d after : DeskData) (by : Mark) (report : ReportData) (answer : Answer)
    → IsPosted work d by report answer after
    → PostedTo work d report answer (core_of after)
posted_to work d after by report answer p =
    posts_pass (bound_of work (core_of d)) (core_of d) (core_of after) (attempt_of report)
    (outcome_of report.finding) answer p.core.told
    (shows_within work (core_of d) report.finding p.in_time) p.enters.step

-- the core has no more of it than there are copies
pub posted_few :
    (work : WorkData) (d after : DeskData) (by : Mark) (report : ReportData) (answer : Answer)
    (copies : ℕ) → IsPosted work d by report answer after
    → copies_if (comes_twice (core_of d) (attempt_of report)) ≡ copies
    → length (core_of after).shelf ≤ length d.shelf + 1 + copies
posted_few work d after by report answer copies p few =
    now (job_runs (core_of after)) refl
  where
    to : PostedTo work d report answer (core_of after)
    to = posted_to work d after by report answer p

    now : (b : Bool) → job_runs (core_of after) ≡ b
        → length (core_of after).shelf ≤ length d.shelf + 1 + copies
    now true runs =
        let many = shelf_length d.shelf (core_of d).shelf (core_of after).shelf to.news
        p.sound.shelf (to.shelf runs) in
        omega (arith, many, to.few, few)
    now false over =
        let none = ap length (to.passes.ends (ends_so work d p.sound) over) in
        omega (arith, none)

pub posted_told :
    (work : WorkData) (d after : DeskData) (by : Mark) (report : ReportData) (answer : Answer)
    (copies : ℕ) → IsPosted work d by report answer after
    → copies_if (comes_twice (core_of d) (attempt_of report)) ≡ copies
    → is_finished answer ≡ true
    → length (core_of after).shelf ≤ length d.shelf + copies
posted_told work d after by report answer copies p few finished =
    now (job_runs (core_of after)) refl
  where
    to : PostedTo work d report answer (core_of after)
    to = posted_to work d after by report answer p

    told : length to.news ≤ copies_if (comes_twice (core_of d) (attempt_of report))
    told = to.told (λ e. true≢false (sym finished ∙ ap is_finished e))

    now : (b : Bool) → job_runs (core_of after) ≡ b
        → length (core_of after).shelf ≤ length d.shelf + copies
    now true runs =
        let many = shelf_length d.shelf (core_of d).shelf (core_of after).shelf to.news
        p.sound.shelf (to.shelf runs) in
        omega (arith, many, told, few)
    now false over =
        let none = ap length (to.passes.ends (ends_so work d p.sound) over) in
        omega (arith, none)

pub posted_keeps :
    (work : WorkData) (d after : DeskData) (by : Mark) (report : ReportData) (answer : Answer)
    → IsPosted work d by report answer after
    → after.results ≡ results_after d.results report answer
    → after.shelf ≡ shelf_in (core_of after) (with_more d.shelf report (core_of after).shelf)
    → IsSoundDesk work after
posted_keeps work d after by report answer p results is =
    told_keeps work d after by (Post a o) answer report
    (record {
      sound = p.sound;
      core = p.core;
      replays = p.replays;
      enters = p.enters;
      passes = to.passes;
      evident = evident;
    })
    shelf
    (posts_leave (core_of d) (core_of after) a o answer p.enters.step)
    (λ e. posts_win (core_of d) (core_of after) a o p.core
    (subst (λ x. core.Posts (core_of d) a o x (core_of after)) e p.enters.step))
    (λ e. of_job (posts_told (core_of d) (core_of after) a o answer p.enters.step
    (λ f. ignored (sym e ∙ f)))) p.is_true results
  where
    a : AttemptId
    a = attempt_of report

    o : Outcome
    o = outcome_of report.finding

    to : PostedTo work d report answer (core_of after)
    to = posted_to work d after by report answer p

    ignored : says.Finished ≡ says.Ignored → ⊥
    ignored e = search (rules, e)

    job_is : (r : Running) → job_runs (core_of d) ≡ true → running_of (core_of d) a ≡ Some r
        → report.task.job ≡ d.job
    job_is r runs one =
        ap (λ (t : TaskData). t.job) (given_so d report.task r p.given runs one)

    of_job : IsTold (core_of d) (attempt_of report) → report.task.job ≡ d.job
    of_job told = job_is told.one told.runs told.running

    evident : answer ≢ says.Ignored
        → EndedFor work d.job (core_of d).told (attempt_of report) (outcome_of report.finding)
    evident other =
        subst (λ job. EndedFor work job (core_of d).told (attempt_of report)
        (outcome_of report.finding))
        (of_job (posts_told (core_of d) (core_of after) a o answer p.enters.step other))
        (ended_for work (core_of d).told report.task report.finding p.is_task p.is_true p.in_time)

    shelved_of : (s : Shelved) → IsPutOff (core_of d) a o s
        → IsShelvedOf work d.job (with_key_of report s)
    shelved_of s put =
        let job = job_is put.one put.runs put.running in
        record {
          of_job = job;
          task = subst (λ j. IsTaskOf j report.task.hand_out) job p.is_task;
          is_true = p.is_true;
        }

    each : (news : List Shelved) → All (IsPutOff (core_of d) a o) news
        → All (IsShelvedOf work d.job) (map (with_key_of report) news)
    each [] all = All-nil (IsShelvedOf work d.job)
    each (s ∷ news) all =
        All-cons (IsShelvedOf work d.job) (with_key_of report s) (map (with_key_of report) news)
        (shelved_of s (All-head (IsPutOff (core_of d) a o) s news all))
        (each news (All-tail (IsPutOff (core_of d) a o) s news all))

    Later : ShelvedReport ReportData → Type 0
    Later s = IsInTime work (core_of after).told s.report.finding

    later : (news : List Shelved) → All Later (map (with_key_of report) news)
    later [] = All-nil Later
    later (s ∷ news) =
        All-cons Later (with_key_of report s) (map (with_key_of report) news)
        (in_time_later work (core_of d).told (core_of after).told report.finding to.passes.told
        p.in_time)
        (later news)

    behind_is : job_runs (core_of after) ≡ true
        → drop (length d.shelf) (core_of after).shelf ≡ to.news
    behind_is runs =
        behind d.shelf (core_of d).shelf (core_of after).shelf to.news p.sound.shelf (to.shelf runs)

    shelf : KeepsShelf work d after
    shelf =
        shelf_keeps work d after (with_more d.shelf report (core_of after).shelf) is
        (to.passes.ends (ends_so work d p.sound))
        (λ runs. more_tie (core_of d) d.shelf report (core_of d).shelf (core_of after).shelf to.news
        p.sound.shelf (to.shelf runs) to.put_off)
        (λ runs. All-append (IsShelvedOf work d.job) d.shelf
        (map (with_key_of report) (drop (length d.shelf) (core_of after).shelf)) p.sound.shelved
        (subst (λ ss. All (IsShelvedOf work d.job) (map (with_key_of report) ss))
        (sym (behind_is runs)) (each to.news to.put_off)))
        (λ runs. All-append Later d.shelf
        (map (with_key_of report) (drop (length d.shelf) (core_of after).shelf))
        (all_later work (core_of d).told (core_of after).told d.shelf to.passes.told
        p.sound.in_time)
        (later (drop (length d.shelf) (core_of after).shelf)))
