-- What an attempt of a save does at the desk with its files.
use Rattle.std.specs.Prelude.{◌≡◌, Bool, true, false, List, ℕ}
use Rattle.sc_base.specs.Outside.{FilesState, IsLaterFiles}
use Rattle.sc_ids.specs.Failures.{HasRisen}
use Rattle.sc_ids.specs.declared.attempts.AttemptId.{AttemptId}
use Rattle.sc_ids.specs.declared.attempts.Mark.{Mark}
use Rattle.sc_output.specs.Calls.{Call}
use Rattle.sc_staging.specs.Parts.{EndsPart, part_rename, part_write}
use Rattle.sc_staging.specs.StagingData.{StagingData}
use Rattle.sc_staging.specs.declared.parts.Written.{Written}
use Rattle.sc_staging.specs.declared.parts.Written.TheVariants as ends
use Rattle.sc_core.specs.Saving.{is_given, is_granted, saver_phase}
use Rattle.sc_core.specs.declared.answers.SideAnswer.{SideAnswer}
use Rattle.sc_core.specs.declared.answers.SideAnswer.TheVariants.{Fault, Moved, Staged}
use Rattle.sc_core.specs.declared.events.FileOutcome.{FileOutcome}
use Rattle.sc_core.specs.declared.events.FileOutcome.TheVariants.{Done, Failed}
use Rattle.sc_core.specs.declared.events.SideEvent.TheVariants.{Move, Stage}
use Rattle.sc_desk.specs.Asides.{Notes}
use Rattle.sc_desk.specs.DeskData.{DeskData, core_of}
use Rattle.sc_desk.specs.declared.receipts.Noted.{Noted}

-- how a call for a part ended, as the core is told of it
abbrev pub told_of : Written → FileOutcome
told_of ends.Done = Done
told_of (ends.Failed fault) = Failed fault

-- a call for a part is made where the attempt comes next, and none is made else
abbrev pub CallsIf : Bool → Call → FilesState → FilesState → FileOutcome → Type 0
CallsIf true call before after Done = EndsPart call before after ends.Done
CallsIf true call before after (Failed fault) = EndsPart call before after (ends.Failed fault)
CallsIf false call before after outcome = (outcome ≡ Done) × (after ≡ before)

-- what a call for a part leaves, by what its attempt is answered: where that was over none was made
abbrev pub CallsAs : Call → FilesState → FilesState → SideAnswer → Type 0
CallsAs call before after Staged = EndsPart call before after ends.Done
CallsAs call before after Moved = EndsPart call before after ends.Done
CallsAs call before after (Fault fault) = EndsPart call before after (ends.Failed fault)
CallsAs call before after said = after ≡ before

-- an answer has its evidence: that a call failed is told only where a count rose
abbrev pub IsEvidentAnswer : SideAnswer → Type 0
IsEvidentAnswer (Fault fault) = HasRisen fault
IsEvidentAnswer said = Unit {0}

-- An attempt that comes next to stage writes the part of its partition, and that is entered; where
-- it doesn't, nothing is written, and that it is over is entered.
pub record StagesPart (d : DeskData) (by : Mark) (attempt : AttemptId) (text : List ℕ)
    (before after : StagingData) (noted : Noted) (then : DeskData) : Type 0 where
  pub wrote : FileOutcome
  pub notes : Notes d by (Stage attempt wrote) noted then
  pub dir : after.dir ≡ before.dir
  pub later : IsLaterFiles before.files after.files
  pub calls : CallsIf (is_given (saver_phase (core_of d) attempt))
      (part_write before.dir attempt text) before.files after.files wrote

-- the same of an attempt that comes next to move, which gives its part its committed name
pub record MovesPart (d : DeskData) (by : Mark) (attempt : AttemptId)
    (before after : StagingData) (noted : Noted) (then : DeskData) : Type 0 where
  pub renamed : FileOutcome
  pub notes : Notes d by (Move attempt renamed) noted then
  pub dir : after.dir ≡ before.dir
  pub later : IsLaterFiles before.files after.files
  pub calls : CallsIf (is_granted (saver_phase (core_of d) attempt))
      (part_rename before.dir attempt) before.files after.files renamed
