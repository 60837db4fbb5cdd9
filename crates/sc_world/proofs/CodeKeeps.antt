-- What every world keeps, it keeps over the steps that calls do.
use Rattle.std.proofs.Common.{◌≡◌, ℕ, ◌<◌, true, List, Option, Some, None, Result, Ok, Err, IfOk, IfSome, OnErr, OnOk, length, refl, ap, ap₂, sym, subst, ◌∙◌, ◌≤◌, arith, rules}
use Rattle.sc_base.specs.Lists.{at_or}
use Rattle.sc_ids.specs.Changes.{change_at}
use Rattle.sc_ids.specs.declared.attempts.Mark.{Mark}
use Rattle.sc_ids.specs.declared.attempts.Mark.TheVariants.{Driver}
use Rattle.sc_ids.specs.declared.blocks.Loc.{Loc}
use Rattle.sc_ids.proofs.ChangeLemmas.{length_change_at}
use Rattle.sc_lineage.specs.ScriptData.{WorkData}
use Rattle.sc_core.specs.CoreData.{job_runs}
use Rattle.sc_core.specs.declared.answers.Answer.{Answer}
use Rattle.sc_core.specs.declared.events.SideEvent.TheVariants.{Tick}
use Rattle.sc_plan.specs.Orders.{wipes_of}
use Rattle.sc_plan.specs.declared.orders.Order.{Order}
use Rattle.sc_jobs.specs.JobData.{saves}
use Rattle.sc_jobs.specs.declared.goals.Goal.{Goal}
use Rattle.sc_store.specs.StoreData.{StoreData}
use Rattle.sc_store.specs.declared.answers.WipeAnswer.{WipeAnswer}
use Rattle.sc_net.specs.Reports.{IsTrueReport, ReportData, report_data}
use Rattle.sc_net.specs.Tasks.{TaskData}
use Rattle.sc_net.specs.declared.findings.Finding.{Finding}
use Rattle.sc_net.specs.declared.findings.Finding.TheVariants as findings
use Rattle.sc_task.specs.Attempts.{AttemptData, assigned, computed, granted, reported, staged, stored}
use Rattle.sc_desk.specs.Asides.{Notes}
use Rattle.sc_desk.specs.DeskData.{DeskData, core_of}
use Rattle.sc_desk.specs.Dues.{IsEarly, IsInTime, IsOrdered, wipes_due}
use Rattle.sc_desk.specs.Orders.{IsDueAmong}
use Rattle.sc_desk.specs.Posts.{IsKnown, Posts, Receives}
use Rattle.sc_desk.specs.Sound.{IsSoundDesk}
use Rattle.sc_desk.specs.Takes.{TakesLogged}
use Rattle.sc_desk.specs.Tellings.{Releases, TellsLost}
use Rattle.sc_desk.specs.declared.posts.Posted.{Posted}
use Rattle.sc_desk.specs.declared.posts.Posted.TheVariants as posted
use Rattle.sc_desk.specs.declared.receipts.Noted.{Noted}
use Rattle.sc_desk.specs.declared.receipts.Receipt.{Receipt}
use Rattle.sc_desk.specs.declared.takes.Taken.{Taken}
use Rattle.sc_world.specs.Places.{ComputesAmong, EvictsAmong, IsReceived, PutsAmong, ReadStands, ReadsAmong, WipesAmong, held_with}
use Rattle.sc_core.specs.Openings.{IsOpening}
use Rattle.sc_core.specs.Sound.{IsSoundCore}
use Rattle.sc_world.specs.Runs.{AreReady, HasBegun, IsWorld, idle_world}
use Rattle.sc_world.specs.WorldData.{WorldData, core_in, held_at, world_data}
use Rattle.sc_world.specs.declared.steps.Applied.TheVariants as applied
use Rattle.sc_world.specs.declared.steps.Kept.{Kept}
use Rattle.sc_world.specs.declared.steps.Step.TheVariants as steps
use Rattle.sc_world.proofs.CodeAmong.{is_there, restored}
use Rattle.sc_world.proofs.KeepLemmas.{steps_keep_world}
use Rattle.sc_world.proofs.LawLemmas.{reports_are_known, worlds_begin}
use Rattle.sc_world.proofs.NextLemmas.{next_stands}
use Rattle.sc_world.proofs.CodeSteps.{computes_in, evicts_in, posts_in, puts_in, reads_in, takes_in, wipes_in}

-- ---- whether a call succeeds or not

pub either_way : {A E : Type 0} (r : Result A E) (P Q R : Type 0) → (P → R) → (Q → R) → OnOk r P
    → OnErr r Q → R
either_way (Ok v) P Q R f h p q = f p
either_way (Err e) P Q R f h p q = h q

pub either_if : {A E : Type 0} (r : Result A E) (P : A → Type 0) (Q R : Type 0)
    → ((a : A) → P a → R) → (Q → R) → IfOk r P → OnErr r Q → R
either_if (Ok v) P Q R f h p q = f v p
either_if (Err e) P Q R f h p q = h q

pub both_err : {A E : Type 0} (r : Result A E) (P Q R : Type 0) → (P → Q → R) → OnErr r P
    → OnErr r Q → OnErr r R
both_err (Ok v) P Q R f p q = tt
both_err (Err e) P Q R f p q = f p q

-- ---- an attempt that reads

-- what an attempt of a world reads next stands
pub read_stands : (work : WorkData) (w : WorldData) (exec : ℕ) → IsWorld work w
    → IfSome (held_at w exec) (ReadStands w.stores)
read_stands work w exec is = by (held_at w exec) refl
  where
    by : (o : Option AttemptData) → held_at w exec ≡ o → IfSome o (ReadStands w.stores)
    by None e = tt
    by (Some (assigned t got)) e = next_stands work w exec t got is.sound e
    by (Some (computed t)) e = tt
    by (Some (stored t loc)) e = tt
    by (Some (staged t)) e = tt
    by (Some (granted t)) e = tt
    by (Some (reported t finding)) e = tt

pub reads_keep : (work : WorkData) (w : WorldData) (exec : ℕ) (held : List (Option AttemptData))
    → IsWorld work w → ReadsAmong w.stores exec w.held held
    → IsWorld work (world_data w.desk w.stores held)
reads_keep work w exec held is r =
    steps_keep_world work w (world_data w.desk w.stores held) (steps.Read exec) applied.Done is
    (reads_in w exec held r) is.desk

-- ---- reports

-- a report that is known and in time is received
pub is_received : {W : _} (work : WorkData) (d : DeskData) (by : Mark) (report : ReportData)
    (posted : Posted W) (after : DeskData) → IsKnown d report
    → IsInTime work (core_of d).told report.finding → Posts work d by report posted after
    → IsReceived posted
is_received work d by report (posted.Receipt receipt) after known in_time r = tt
is_received work d by report (posted.Stranger back) after known in_time (stranger, is, same) =
    stranger known
is_received work d by report (posted.Early back due) after known in_time (of, early, is, same) =
    in_both report.finding in_time early
  where
    in_both : (finding : Finding) → IsInTime work (core_of d).told finding
        → IsEarly work (core_of d).told finding due → ⊥
    in_both (findings.Gone exec wanted found) le (due_is, lt) =
        let bound : found ≤ wipes_due work (core_of d).told exec = le in
        omega (arith, bound, due_is, lt)
    in_both (findings.Map loc) le bad = bad
    in_both (findings.Result given) le bad = bad
    in_both findings.Planned le bad = bad
    in_both (findings.Raised r) le bad = bad
    in_both (findings.Metadata last) le bad = bad
    in_both (findings.Device fault) le bad = bad
    in_both findings.Denied le bad = bad

-- one that an executor of a world has to tell is
pub posts_received : {W : _} (work : WorkData) (w : WorldData) (exec : ℕ) (report : ReportData)
    (posted : Posted W) (after : DeskData) → IsWorld work w
    → at_or w.held exec None ≡ Some (reported report.task report.finding)
    → IsTrueReport work report.task report.finding → Posts work w.desk Driver report posted after
    → IsReceived posted
posts_received work w exec report posted after is held true_of r =
    let known = reports_are_known work w exec report.task report.finding is held true_of in
    is_received work w.desk Driver report posted after known.0 known.1 r

-- where an attempt was, there is a place
pub gone_there : (held later : List (Option AttemptData)) (exec : ℕ) (a : AttemptData)
    → at_or held exec None ≡ Some a → later ≡ change_at held exec (λ _. None)
    → exec < length later
gone_there held later exec a has gone =
    subst (λ (h : List (Option AttemptData)). exec < length h) (sym gone)
    (rw (length_change_at held exec (λ _. None))
    (is_there held exec (λ none. search (rules, sym none ∙ has))))

-- a refused report is held as it was
pub held_again : (w : WorldData) (exec : ℕ) (desk : DeskData)
    (held later : List (Option AttemptData)) (report back : ReportData) → desk ≡ w.desk
    → at_or w.held exec None ≡ Some (reported report.task report.finding)
    → held ≡ change_at w.held exec (λ _. None) → back ≡ report
    → later ≡ change_at held exec (λ _. Some (reported back.task back.finding))
    → world_data desk w.stores later ≡ w
held_again w exec desk held later report back same has gone is again =
    ap₂ (λ d h. world_data d w.stores h) same
    (again
    ∙ ap (λ (r : ReportData). change_at held exec (λ _. Some (reported r.task r.finding))) is
    ∙ ap (λ (h : List (Option AttemptData)). change_at h exec
    (λ _. Some (reported report.task report.finding))) gone
    ∙ restored w.held exec (Some (reported report.task report.finding)) has)

-- ---- the other steps

pub takes_keep : {W : _} (work : WorkData) (w : WorldData) (exec : ℕ) (taken : Taken W)
    (answer : Answer) (desk : DeskData) (held : List (Option AttemptData)) → IsWorld work w
    → exec < length w.held → TakesLogged w.desk Driver exec taken answer desk
    → held ≡ held_with w.held exec taken → IsSoundDesk work desk
    → IsWorld work (world_data desk w.stores held)
takes_keep work w exec taken answer desk held is there takes held_is sound =
    steps_keep_world work w (world_data desk w.stores held) (steps.Take exec)
    (applied.Told answer) is (there, takes_in w exec taken answer desk held takes held_is) sound

pub computes_keep : (work : WorkData) (w : WorldData) (exec : ℕ) (kept : Kept)
    (held : List (Option AttemptData)) (stores : List StoreData) → IsWorld work w
    → ComputesAmong work exec w.held w.stores kept held stores
    → IsWorld work (world_data w.desk stores held)
computes_keep work w exec kept held stores is r =
    steps_keep_world work w (world_data w.desk stores held) (steps.Compute exec)
    (applied.Computed kept) is (computes_in work w exec kept held stores r) is.desk

pub puts_keep : (work : WorkData) (w : WorldData) (exec : ℕ) (loc : Loc)
    (held : List (Option AttemptData)) (stores : List StoreData) → IsWorld work w
    → PutsAmong work exec w.held w.stores loc held stores
    → IsWorld work (world_data w.desk stores held)
puts_keep work w exec loc held stores is r =
    steps_keep_world work w (world_data w.desk stores held) (steps.Put exec) (applied.Put loc) is
    (puts_in work w exec loc held stores is.sound.own r) is.desk

pub posts_keep : (work : WorkData) (w : WorldData) (exec : ℕ) (task : TaskData)
    (finding : Finding) (desk : DeskData) (receipt : Receipt) (held : List (Option AttemptData))
    → IsWorld work w → at_or w.held exec None ≡ Some (reported task finding)
    → Receives work w.desk Driver (report_data task finding) receipt desk
    → held ≡ change_at w.held exec (λ _. None) → IsSoundDesk work desk
    → IsWorld work (world_data desk w.stores held)
posts_keep work w exec task finding desk receipt held is has receives gone sound =
    steps_keep_world work w (world_data desk w.stores held) (steps.Post exec)
    (applied.Told receipt.answer) is
    (posts_in work w exec task finding desk receipt held has receives gone) sound

pub releases_keep : (work : WorkData) (w : WorldData) (key : ℕ) (desk : DeskData)
    (receipt : Receipt) → IsWorld work w → Releases w.desk Driver key receipt desk
    → IsSoundDesk work desk → IsWorld work (world_data desk w.stores w.held)
releases_keep work w key desk receipt is r sound =
    steps_keep_world work w (world_data desk w.stores w.held) (steps.Release key)
    (applied.Told receipt.answer) is
    (record { desk = desk; receipt = receipt; releases = r; told = refl; is = refl }) sound

pub ticks_keep : (work : WorkData) (w : WorldData) (now : ℕ) (desk : DeskData) (noted : Noted)
    → IsWorld work w → Notes w.desk Driver (Tick now) noted desk → IsSoundDesk work desk
    → IsWorld work (world_data desk w.stores w.held)
ticks_keep work w now desk noted is n sound =
    steps_keep_world work w (world_data desk w.stores w.held) (steps.Tick now)
    (applied.Noted noted.answer) is
    (record { desk = desk; noted = noted; notes = n; told = refl; is = refl }) sound

pub loses_keep : (work : WorkData) (w : WorldData) (exec : ℕ) (desk : DeskData)
    (receipt : Receipt) → IsWorld work w → TellsLost w.desk Driver exec receipt desk
    → IsSoundDesk work desk → IsWorld work (world_data desk w.stores w.held)
loses_keep work w exec desk receipt is r sound =
    steps_keep_world work w (world_data desk w.stores w.held) (steps.TellLost exec)
    (applied.Told receipt.answer) is
    (record { desk = desk; receipt = receipt; tells = r; told = refl; is = refl }) sound

pub wipes_keep : (work : WorkData) (w : WorldData) (order : Order) (answer : WipeAnswer)
    (stores : List StoreData) → IsWorld work w → job_runs (core_in w) ≡ true
    → IsDueAmong (wipes_of work.plan order.exec) (core_in w).told order
    → WipesAmong order w.stores answer stores
    → IsWorld work (world_data w.desk stores w.held)
wipes_keep work w order answer stores is runs due r =
    steps_keep_world work w (world_data w.desk stores w.held) (steps.Wipe order)
    (applied.Wipe answer) is (wipes_in work w order answer stores runs due r) is.desk

pub evicts_keep : (work : WorkData) (w : WorldData) (exec : ℕ) (stores : List StoreData)
    → IsWorld work w → job_runs (core_in w) ≡ true → EvictsAmong exec w.stores stores
    → IsWorld work (world_data w.desk stores w.held)
evicts_keep work w exec stores is runs r =
    steps_keep_world work w (world_data w.desk stores w.held) (steps.Evict exec) applied.Done is
    (evicts_in w exec stores runs r) is.desk

pub orders_keep : (work : WorkData) (w : WorldData) (order : Option Order) (desk : DeskData)
    → IsWorld work w → job_runs (core_in w) ≡ true → IsOrdered work w.desk order desk
    → IsSoundDesk work desk → IsWorld work (world_data desk w.stores w.held)
orders_keep work w order desk is runs ordered sound =
    steps_keep_world work w (world_data desk w.stores w.held) steps.NextOrder
    (applied.Ordered order) is
    (record { runs = runs; desk = desk; ordered = ordered; is = refl }) sound

-- ---- worlds that begin

pub begun_world : (work : WorkData) (desk : DeskData) (stores : List StoreData)
    → HasBegun work desk → IsSoundCore (core_of desk) → IsSoundDesk work desk
    → AreReady work stores (core_of desk).dag.tracker (core_of desk).told
    → IsWorld work (idle_world work desk stores)
begun_world work desk stores (passed, last, goal, b) core sound ready =
    worlds_begin work last desk stores core sound
    (subst (λ (x : Goal). IsOpening desk.job.graph work.limits (saves work x) work.plan last
    (core_of desk)) (sym b.goal_is)
    (subst (λ x. IsOpening desk.job.graph work.limits (saves work goal) work.plan last x)
    (sym b.core) b.opening))
    b.shelf ready
