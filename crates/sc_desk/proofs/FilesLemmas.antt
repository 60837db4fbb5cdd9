-- How the files of a job stand, call by call.
use Rattle.std.proofs.Common.{◌≡◌, ◌∙◌, ℕ, zero, suc, ◌<◌, true, List, [], ◌∷◌, Option, None, Some, IfSome, length, slice_get, refl, ap, sym, subst}
use Rattle.std.proofs.lemmas.Option.{slice_get_within}
use Rattle.sc_base.specs.Outside.{FilesState}
use Rattle.sc_base.specs.Trees.{Path, Tree}
use Rattle.sc_base.proofs.ChangeLemmas.{if_some-weaker}
use Rattle.sc_ids.specs.declared.attempts.AttemptId.{AttemptId}
use Rattle.sc_ids.specs.declared.attempts.Mark.{Mark}
use Rattle.sc_lineage.specs.ScriptData.{WorkData}
use Rattle.sc_output.specs.Calls.{IsOpen}
use Rattle.sc_output.specs.Names.{IsWithinTypes}
use Rattle.sc_staging.specs.Done.{DidLast, Done, HasFiles, HaveRenamed, renamed, text_of}
use Rattle.sc_staging.specs.Opening.{opened_tree}
use Rattle.sc_staging.specs.Outputs.{GoesOnIn}
use Rattle.sc_staging.specs.Parts.{part_rename, part_write}
use Rattle.sc_staging.specs.StagingData.{StagingData}
use Rattle.sc_staging.proofs.DoneLemmas.{files_stand}
use Rattle.sc_core.specs.CoreData.{CoreData}
use Rattle.sc_core.specs.Journals.{entry}
use Rattle.sc_core.specs.Saving.{is_given, is_granted, move_answer, saver_phase, stage_answer}
use Rattle.sc_core.specs.declared.answers.Answer.{Answer}
use Rattle.sc_core.specs.declared.answers.Answer.TheVariants as says
use Rattle.sc_core.specs.declared.events.Event.{Event}
use Rattle.sc_core.specs.declared.events.Event.TheVariants.{Side}
use Rattle.sc_core.specs.declared.events.SideEvent.TheVariants.{Move, Stage}
use Rattle.sc_jobs.specs.JobData.{JobData}
use Rattle.sc_jobs.specs.declared.goals.Goal.{Goal}
use Rattle.sc_desk.specs.Begins.{Begins}
use Rattle.sc_desk.specs.DeskData.{DeskData, PassedData, core_of}
use Rattle.sc_desk.specs.Entries.{Enters}
use Rattle.sc_desk.specs.Files.{AreWinners, FilesGoOn, FilesStand, HasReplay, deed_in, deeds_of, dir_of_job, part_texts}
use Rattle.sc_desk.specs.Saving.{MovesPart, StagesPart}
use Rattle.sc_desk.specs.Sound.{IsSoundDesk}
use Rattle.sc_desk.specs.declared.receipts.Noted.{Noted}
use Rattle.sc_desk.proofs.DeedLemmas.{deeds_push, granted_wrote, winner_renamed, with_deed}
use Rattle.sc_desk.proofs.PartLemmas.{PartStands, move_said, part_called, part_renamed, part_written, stage_said}

-- ---- one entry

-- the files of a job stand behind one more entry, where they do so by its deed
entry_stands :
    (work : WorkData) (d after : DeskData) (by : Mark) (event : Event) (answer : Answer)
    (dir : Option Path) (files : FilesState) → Enters d by event answer after
    → dir ≡ dir_of_job work d.job.goal
    → IfSome dir (λ path. IfSome files.shown (HasFiles path (part_texts work d.job.goal)
    (with_deed (deeds_of d.journal.entries) (deed_in event answer))))
    → FilesStand work after dir files
entry_stands work d after by event answer dir files enters opened standing =
    record {
      opened_for = opened ∙ ap (λ (j : JobData). dir_of_job work j.goal) (sym enters.job);
      standing =
          subst (λ (j : JobData). Standing j.goal (deeds_of after.journal.entries))
          (sym enters.job)
          (subst (λ ds. Standing d.job.goal ds)
          (sym (ap deeds_of enters.entries
          ∙ deeds_push d.journal.entries (entry by event answer))) standing);
    }
  where
    Standing : Goal → List Done → Type 0
    Standing goal done =
        IfSome dir (λ path. IfSome files.shown (HasFiles path (part_texts work goal) done))

files_entered :
    (work : WorkData) (d after : DeskData) (by : Mark) (event : Event) (answer : Answer)
    (dir : Option Path) (files : FilesState) → Enters d by event answer after
    → deed_in event answer ≡ None → FilesStand work d dir files → FilesStand work after dir files
files_entered work d after by event answer dir files enters none stand =
    entry_stands work d after by event answer dir files enters stand.opened_for
    (subst (λ o. IfSome dir (λ path. IfSome files.shown
    (HasFiles path (part_texts work d.job.goal) (with_deed (deeds_of d.journal.entries) o))))
    (sym none) stand.standing)

-- ---- the laws

files_begun :
    (work : WorkData) (passed : PassedData) (last : Option CoreData) (goal : Goal) (d : DeskData)
    (dir : Option Path) (files : FilesState) → Begins work passed last goal d
    → dir ≡ dir_of_job work goal
    → IfSome dir (λ path. IfSome files.shown (λ t. (u : Tree) × (t ≡ opened_tree path u)))
    → FilesStand work d dir files
files_begun work passed last goal d dir files begins opened made =
    record {
      opened_for = opened ∙ ap (λ g. dir_of_job work g) (sym begins.goal_is);
      standing =
          subst (λ es. IfSome dir (λ path. IfSome files.shown
          (HasFiles path texts (deeds_of es)))) (sym begins.entries)
          (if_some-weaker
          (λ path. IfSome files.shown (λ t. (u : Tree) × (t ≡ opened_tree path u)))
          (λ path. IfSome files.shown (HasFiles path texts [])) dir
          (λ path h. if_some-weaker (λ t. (u : Tree) × (t ≡ opened_tree path u))
          (HasFiles path texts []) files.shown
          (λ t is. subst (HasFiles path texts []) (sym is.1) (files_stand.opened path texts is.0))
          h) made);
    }
  where
    texts : List (List ℕ)
    texts = part_texts work d.job.goal

files_staged :
    (work : WorkData) (d after : DeskData) (by : Mark) (a : AttemptId) (text : List ℕ)
    (before left : StagingData) (noted : Noted) → IsWithinTypes a
    → (is_given (saver_phase (core_of d) a) ≡ true
    → text ≡ text_of (part_texts work d.job.goal) a)
    → StagesPart d by a text before left noted after
    → FilesStand work d (Some before.dir) before.files
    → FilesStand work after (Some left.dir) left.files
    × GoesOnIn (Some before.dir) before.files left.files
files_staged work d after by a text before left noted within written stages stand = (
  subst (λ path. FilesStand work after (Some path) left.files) (sym stages.dir)
      (entry_stands work d after by (Side (Stage a stages.wrote)) (says.Side noted.answer)
      (Some before.dir) left.files stages.notes.enters stand.opened_for called.0),
  called.1,
)
  where
    texts : List (List ℕ)
    texts = part_texts work d.job.goal

    done : List Done
    done = deeds_of d.journal.entries

    called : PartStands before.dir texts done a before.files left.files noted.answer
    called =
        part_called (is_given (saver_phase (core_of d) a)) before.dir texts done a
        (part_write before.dir a text) before.files left.files stages.wrote
        (stage_answer stages.wrote) noted.answer stages.calls
        (stage_said (core_of d) (core_of after) a stages.wrote noted.answer
        stages.notes.enters.step) stand.standing
        (λ given answer is ended. part_written before.dir texts done a text before.files left.files
        stages.wrote answer within (written given) is ended stand.standing)

files_moved :
    (work : WorkData) (d after : DeskData) (by : Mark) (a : AttemptId)
    (before left : StagingData) (noted : Noted) → IsWithinTypes a → IsSoundDesk work d
    → HasReplay d → MovesPart d by a before left noted after
    → FilesStand work d (Some before.dir) before.files
    → FilesStand work after (Some left.dir) left.files
    × GoesOnIn (Some before.dir) before.files left.files
files_moved work d after by a before left noted within sound replays moves stand = (
  subst (λ path. FilesStand work after (Some path) left.files) (sym moves.dir)
      (entry_stands work d after by (Side (Move a moves.renamed)) (says.Side noted.answer)
      (Some before.dir) left.files moves.notes.enters stand.opened_for called.0),
  called.1,
)
  where
    texts : List (List ℕ)
    texts = part_texts work d.job.goal

    done : List Done
    done = deeds_of d.journal.entries

    called : PartStands before.dir texts done a before.files left.files noted.answer
    called =
        part_called (is_granted (saver_phase (core_of d) a)) before.dir texts done a
        (part_rename before.dir a) before.files left.files moves.renamed
        (move_answer moves.renamed) noted.answer moves.calls
        (move_said (core_of d) (core_of after) a moves.renamed noted.answer
        moves.notes.enters.step) stand.standing
        (λ granted answer is ended. part_renamed before.dir texts done a before.files left.files
        moves.renamed answer within (granted_wrote work d a sound replays granted) is ended
        stand.standing)

files_may_move :
    (work : WorkData) (d : DeskData) (a : AttemptId) (dir : Path) (files : FilesState)
    → IsWithinTypes a → IsSoundDesk work d → HasReplay d
    → is_granted (saver_phase (core_of d) a) ≡ true → FilesStand work d (Some dir) files
    → IfSome files.shown (IsOpen (part_rename dir a))
files_may_move work d a dir files within sound replays granted stand =
    if_some-weaker (HasFiles dir texts done) (IsOpen (part_rename dir a)) files.shown
    (λ t has. files_stand.may_rename dir texts done a t within
    (granted_wrote work d a sound replays granted) has) stand.standing
  where
    texts : List (List ℕ)
    texts = part_texts work d.job.goal

    done : List Done
    done = deeds_of d.journal.entries

all_renamed : (done : List Done) (ws : List AttemptId)
    → ((p : ℕ) (w : AttemptId) → slice_get ws p ≡ Some w → DidLast w renamed done)
    → HaveRenamed done ws
all_renamed done [] each = tt
all_renamed done (w ∷ ws) each =
    (each zero w refl, all_renamed done ws (λ p v is. each (suc p) v is))

files_won : (work : WorkData) (d : DeskData) (winners : List AttemptId) → IsSoundDesk work d
    → HasReplay d → AreWinners (core_of d).committers winners
    → HaveRenamed (deeds_of d.journal.entries) winners
files_won work d winners sound replays (long, each) =
    all_renamed (deeds_of d.journal.entries) winners
    (λ p w is. winner_renamed work d p w sound replays (each p (below p w is) ∙ is))
  where
    below : (p : ℕ) (w : AttemptId) → slice_get winners p ≡ Some w
        → p < length (core_of d).committers
    below p w is = subst (λ n. p < n) long (slice_get_within winners p w is)

pub files_go_on : FilesGoOn
files_go_on =
    record {
      begun = files_begun;
      staged = files_staged;
      moved = files_moved;
      may_move = files_may_move;
      entered = files_entered;
      won = files_won;
    }
