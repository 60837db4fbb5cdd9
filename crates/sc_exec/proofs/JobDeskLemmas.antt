-- What a call leaves of a desk with its files: that of the same job.
use Rattle.std.proofs.Common.{◌≡◌, ◌∙◌, ℕ, true, List, [], Option, Some, None, IfSome, refl, ap, sym, subst, arith, Bool, false}
use Rattle.sc_base.specs.Outside.{FilesState, IsLaterFiles}
use Rattle.sc_base.specs.Trees.{Path}
use Rattle.sc_base.proofs.ChangeLemmas.{changes-compose, changes-none}
use Rattle.sc_lineage.specs.ScriptData.{WorkData}
use Rattle.sc_ids.specs.declared.attempts.AttemptId.{AttemptId}
use Rattle.sc_ids.specs.declared.attempts.Mark.{Mark}
use Rattle.sc_plan.specs.declared.orders.Order.{Order}
use Rattle.sc_output.specs.Calls.{IsOpen}
use Rattle.sc_output.specs.Names.{IsWithinTypes}
use Rattle.sc_output.proofs.CallLemmas.{later-then}
use Rattle.sc_staging.specs.Done.{text_of}
use Rattle.sc_staging.specs.Laws.{StaysUnderWay}
use Rattle.sc_staging.specs.Outputs.{GoesOnIn}
use Rattle.sc_staging.specs.Parts.{part_rename}
use Rattle.sc_staging.specs.StagingData.{StagingData}
use Rattle.sc_core.specs.CoreData.{job_runs}
use Rattle.sc_core.specs.Saving.{is_granted, saver_phase}
use Rattle.sc_core.specs.declared.answers.Answer.{Answer}
use Rattle.sc_core.specs.declared.events.Event.{Event}
use Rattle.sc_core.specs.declared.events.SideEvent.TheVariants.{Ask, Tick}
use Rattle.sc_jobs.specs.JobData.{JobData}
use Rattle.sc_net.specs.Reports.{ReportData}
use Rattle.sc_desk.specs.Asides.{Leaves, Notes}
use Rattle.sc_desk.specs.DeskData.{DeskData, core_of}
use Rattle.sc_desk.specs.Dues.{IsOrdered, IsOrderedIf}
use Rattle.sc_desk.specs.Entries.{Enters}
use Rattle.sc_desk.specs.Files.{AreCounted, CountsGoOn, FilesStand, HasReplay, deed_in, fault_in, faults_of, part_texts}
use Rattle.sc_desk.specs.Posts.{Posts}
use Rattle.sc_desk.specs.Saving.{MovesPart, StagesPart}
use Rattle.sc_desk.specs.Sound.{IsSoundDesk}
use Rattle.sc_desk.specs.Takes.{TakesLogged}
use Rattle.sc_desk.specs.Tellings.{Releases, TellsLost}
use Rattle.sc_desk.specs.declared.posts.Posted.{Posted}
use Rattle.sc_desk.specs.declared.posts.Posted.TheVariants as posteds
use Rattle.sc_desk.specs.declared.receipts.Noted.{Noted}
use Rattle.sc_desk.specs.declared.receipts.Receipt.{Receipt}
use Rattle.sc_desk.specs.declared.takes.Taken.{Taken}
use Rattle.sc_desk.proofs.CountLemmas.{counted_none, counted_then, counts_entered, counts_moved, counts_staged}
use Rattle.sc_desk.proofs.FilesLemmas.{files_go_on}
use Rattle.sc_exec.specs.JobDesks.{JobDeskData, IsJobOf, job_desk_data, opening_of}
use Rattle.sc_exec.specs.Openings.{OpeningData}

-- ---- one entry

-- a job goes on where its desk keeps how it began, and its files go on with it
goes_on : (work : WorkData) (o : OpeningData) (h after : JobDeskData)
    → after.desk.journal.opening ≡ h.desk.journal.opening → after.desk.job ≡ h.desk.job
    → after.desk.carried ≡ h.desk.carried → after.dir ≡ h.dir
    → FilesStand work after.desk after.dir after.files → IsLaterFiles o.files after.files
    → GoesOnIn o.dir o.files after.files → CountsGoOn h.desk after.desk h.files after.files
    → IsJobOf work o h → IsJobOf work o after
goes_on work o h after opening job carried dir stand later goes counts is =
    record {
      core = opening ∙ is.core;
      job = job ∙ is.job;
      carried = carried ∙ is.carried;
      dir = dir ∙ is.dir;
      stand = stand;
      later = later;
      goes = goes;
      counted = subst (λ fs. AreCounted o.files fs after.files) (sym counts.told)
          (counted_then o.files h.files after.files (faults_of h.desk.journal.entries)
          counts.faults is.counted counts.counted);
    }

-- an entry that tells of no call on the files
entered : (work : WorkData) (o : OpeningData) (d after : DeskData) (dir : Option Path)
    (files : FilesState) (by : Mark) (event : Event) (answer : Answer)
    → Enters d by event answer after → deed_in event answer ≡ None
    → fault_in event answer ≡ None → IsJobOf work o (job_desk_data d dir files)
    → IsJobOf work o (job_desk_data after dir files)
entered work o d after dir files by event answer enters no_deed no_fault is =
    goes_on work o (job_desk_data d dir files) (job_desk_data after dir files) enters.opening
    enters.job enters.carried refl
    (files_go_on.entered work d after by event answer dir files enters no_deed is.stand) is.later
    is.goes (counts_entered d after by event answer files enters no_fault) is

-- a call that changes nothing
pub job_same : (work : WorkData) (o : OpeningData) (d after : DeskData) (dir : Option Path)
    (files : FilesState) → after ≡ d → IsJobOf work o (job_desk_data d dir files)
    → IsJobOf work o (job_desk_data after dir files)
job_same work o d after dir files same is =
    subst (λ (x : DeskData). IsJobOf work o (job_desk_data x dir files)) (sym same) is

pub job_takes : {W : _} (work : WorkData) (o : OpeningData) (d after : DeskData)
    (dir : Option Path) (files : FilesState) (by : Mark) (exec : ℕ) (t : Taken W)
    (answer : Answer) → TakesLogged d by exec t answer after
    → IsJobOf work o (job_desk_data d dir files) → IsJobOf work o (job_desk_data after dir files)
job_takes work o d after dir files by exec t answer takes is =
    entered work o d after dir files by _ answer takes.1 refl refl is

pub job_posts : {W : _} (work : WorkData) (o : OpeningData) (d after : DeskData)
    (dir : Option Path) (files : FilesState) (by : Mark) (report : ReportData) (p : Posted W)
    → Posts work d by report p after → IsJobOf work o (job_desk_data d dir files)
    → IsJobOf work o (job_desk_data after dir files)
job_posts work o d after dir files by report (posteds.Receipt receipt) received is =
    entered work o d after dir files by _ receipt.answer received.enters refl refl is
job_posts work o d after dir files by report (posteds.Stranger back) (unknown, back_is, same) is =
    job_same work o d after dir files same is
job_posts work o d after dir files by report (posteds.Early back due)
    (known, early, back_is, same) is =
    job_same work o d after dir files same is

pub job_releases : (work : WorkData) (o : OpeningData) (d after : DeskData) (dir : Option Path)
    (files : FilesState) (by : Mark) (key : ℕ) (receipt : Receipt)
    → Releases d by key receipt after → IsJobOf work o (job_desk_data d dir files)
    → IsJobOf work o (job_desk_data after dir files)
job_releases work o d after dir files by key receipt releases is =
    entered work o d after dir files by _ receipt.answer releases.enters refl refl is

pub job_loses : (work : WorkData) (o : OpeningData) (d after : DeskData) (dir : Option Path)
    (files : FilesState) (by : Mark) (exec : ℕ) (receipt : Receipt)
    → TellsLost d by exec receipt after → IsJobOf work o (job_desk_data d dir files)
    → IsJobOf work o (job_desk_data after dir files)
job_loses work o d after dir files by exec receipt loses is =
    entered work o d after dir files by _ receipt.answer loses.enters refl refl is

pub job_asks : (work : WorkData) (o : OpeningData) (d after : DeskData) (dir : Option Path)
    (files : FilesState) (by : Mark) (a : AttemptId) (noted : Noted)
    → Notes d by (Ask a) noted after → IsJobOf work o (job_desk_data d dir files)
    → IsJobOf work o (job_desk_data after dir files)
job_asks work o d after dir files by a noted notes is =
    entered work o d after dir files by _ _ notes.enters refl refl is

pub job_ticks : (work : WorkData) (o : OpeningData) (d after : DeskData) (dir : Option Path)
    (files : FilesState) (by : Mark) (now : ℕ) (noted : Noted)
    → Notes d by (Tick now) noted after → IsJobOf work o (job_desk_data d dir files)
    → IsJobOf work o (job_desk_data after dir files)
job_ticks work o d after dir files by now noted notes is =
    entered work o d after dir files by _ _ notes.enters refl refl is

pub job_leaves : (work : WorkData) (o : OpeningData) (d after : DeskData) (dir : Option Path)
    (files : FilesState) (exec : ℕ) (left : Bool) → Leaves d exec left after
    → IsJobOf work o (job_desk_data d dir files) → IsJobOf work o (job_desk_data after dir files)
job_leaves work o d after dir files exec true (stayed, (noted, notes)) is =
    entered work o d after dir files _ _ _ notes.enters refl refl is
job_leaves work o d after dir files exec false (left, same) is =
    job_same work o d after dir files same is

-- an order that is handed out
pub job_ordered : (work : WorkData) (o : OpeningData) (d after : DeskData) (dir : Option Path)
    (files : FilesState) (order : Option Order) → IsOrdered work d order after
    → IsJobOf work o (job_desk_data d dir files) → IsJobOf work o (job_desk_data after dir files)
job_ordered work o d after dir files order ordered is = by (job_runs (core_of d)) ordered
  where
    by : (b : Bool) → IsOrderedIf b work d order after
        → IsJobOf work o (job_desk_data after dir files)
    by false (none, same) = job_same work o d after dir files same is
    by true (next, same) =
        job_same work o _ after dir files same
        (record {
          core = is.core;
          job = is.job;
          carried = is.carried;
          dir = is.dir;
          stand = record { opened_for = is.stand.opened_for; standing = is.stand.standing };
          later = is.later;
          goes = is.goes;
          counted = is.counted;
        })

-- ---- calls on the files

-- a save that was under way is under way behind one more call
goes_further : (work : WorkData) (o : OpeningData) (d : DeskData) (before left : StagingData)
    → IsJobOf work o (job_desk_data d (Some before.dir) before.files)
    → GoesOnIn (Some before.dir) before.files left.files → GoesOnIn o.dir o.files left.files
goes_further work o d before left is goes =
    subst (λ (dir : Option Path). GoesOnIn dir o.files left.files) is.dir
    (changes-compose (StaysUnderWay before.dir) (StaysUnderWay before.dir)
    (StaysUnderWay before.dir) o.files.shown before.files.shown left.files.shown
    (λ t u v p q opening under. q opening (p opening under))
    (subst (λ (dir : Option Path). GoesOnIn dir o.files before.files) (sym is.dir) is.goes) goes)

called : (work : WorkData) (o : OpeningData) (d after : DeskData) (by : Mark) (event : Event)
    (answer : Answer) (before left : StagingData) → Enters d by event answer after
    → left.dir ≡ before.dir → IsLaterFiles before.files left.files
    → FilesStand work after (Some left.dir) left.files
    × GoesOnIn (Some before.dir) before.files left.files
    → CountsGoOn d after before.files left.files
    → IsJobOf work o (job_desk_data d (Some before.dir) before.files)
    → IsJobOf work o (job_desk_data after (Some left.dir) left.files)
called work o d after by event answer before left enters dir later both counts is =
    goes_on work o (job_desk_data d (Some before.dir) before.files)
    (job_desk_data after (Some left.dir) left.files) enters.opening enters.job enters.carried
    (ap Some dir) both.0 (later-then o.files before.files left.files is.later later)
    (goes_further work o d before left is both.1) counts is

pub job_stages : (work : WorkData) (o : OpeningData) (d after : DeskData) (by : Mark)
    (a : AttemptId) (text : List ℕ) (before left : StagingData) (noted : Noted)
    → IsWithinTypes a → text ≡ text_of (part_texts work o.job.goal) a
    → StagesPart d by a text before left noted after
    → IsJobOf work o (job_desk_data d (Some before.dir) before.files)
    → IsJobOf work o (job_desk_data after (Some left.dir) left.files)
job_stages work o d after by a text before left noted within written stages is =
    called work o d after by _ _ before left stages.notes.enters stages.dir stages.later
    (files_go_on.staged work d after by a text before left noted within
    (λ given. written
    ∙ ap (λ (j : JobData). text_of (part_texts work j.goal) a) (sym is.job)) stages is.stand)
    (counts_staged d after by a text before left noted stages) is

pub job_moves : (work : WorkData) (o : OpeningData) (d after : DeskData) (by : Mark)
    (a : AttemptId) (before left : StagingData) (noted : Noted) → IsWithinTypes a
    → IsSoundDesk work d → HasReplay d → MovesPart d by a before left noted after
    → IsJobOf work o (job_desk_data d (Some before.dir) before.files)
    → IsJobOf work o (job_desk_data after (Some left.dir) left.files)
job_moves work o d after by a before left noted within sound replay moves is =
    called work o d after by _ _ before left moves.notes.enters moves.dir moves.later
    (files_go_on.moved work d after by a before left noted within sound replay moves is.stand)
    (counts_moved d after by a before left noted moves) is

-- an attempt that was granted may move its part
pub may_move : (work : WorkData) (o : OpeningData) (d : DeskData) (a : AttemptId)
    (before : StagingData) → IsWithinTypes a → IsSoundDesk work d → HasReplay d
    → IsJobOf work o (job_desk_data d (Some before.dir) before.files)
    → is_granted (saver_phase (core_of d) a) ≡ true
    → IfSome before.files.shown (IsOpen (part_rename before.dir a))
may_move work o d a before within sound replay is may =
    files_go_on.may_move work d a before.dir before.files within sound replay may is.stand

-- ---- where nothing happened yet

pub job_opened : (work : WorkData) (h : JobDeskData) → h.desk.journal.entries ≡ []
    → FilesStand work h.desk h.dir h.files → IsJobOf work (opening_of h) h
job_opened work h none stand =
    record {
      core = refl;
      job = refl;
      carried = refl;
      dir = refl;
      stand = stand;
      later = record {
        shown = changes-none (λ t u. Unit {0}) h.files.shown (λ t. tt);
        faults = omega arith;
        clashes = omega arith;
      };
      goes = goes h.dir;
      counted = subst (λ es. AreCounted h.files (faults_of es) h.files) (sym none)
          (counted_none h.files);
    }
  where
    goes : (dir : Option Path) → GoesOnIn dir h.files h.files
    goes None = refl
    goes (Some dir) =
        changes-none (StaysUnderWay dir) h.files.shown (λ t opening under. under)
