-- What is told at a desk that wasn't posted: a report off the shelf, and that an executor is lost.
use Rattle.std.specs.Prelude.{ℕ, ◌≡◌, List, Option, Some, None, length}
use Rattle.sc_compute.specs.declared.results.TaskResult.{TaskResult}
use Rattle.sc_ids.specs.declared.attempts.Mark.{Mark}
use Rattle.sc_core.specs.declared.answers.Answer.{Answer}
use Rattle.sc_core.specs.declared.events.Event.TheVariants.{Release, TellLost}
use Rattle.sc_net.specs.Reports.{ReportData}
use Rattle.sc_desk.specs.DeskData.{DeskData, core_of}
use Rattle.sc_desk.specs.Entries.{Enters}
use Rattle.sc_desk.specs.Posts.{results_after}
use Rattle.sc_desk.specs.Shelves.{report_under, shelf_in, without_key}
use Rattle.sc_desk.specs.declared.receipts.Receipt.{Receipt}

-- the results with that of a report that may be there
abbrev pub results_with :
    List (Option TaskResult) → Option ReportData → Answer → List (Option TaskResult)
results_with results None answer = results
results_with results (Some report) answer = results_after results report answer

-- a report is taken off the shelf and told
pub record Releases (d : DeskData) (by : Mark) (key : ℕ) (receipt : Receipt) (after : DeskData)
    : Type 0 where
  pub place : receipt.entry ≡ length d.journal.entries
  pub enters : Enters d by (Release key) receipt.answer after
  pub results : after.results
      ≡ results_with d.results (report_under d.shelf key) receipt.answer
  pub shelf : after.shelf ≡ shelf_in (core_of after) (without_key d.shelf key)

-- an executor is told lost
pub record TellsLost (d : DeskData) (by : Mark) (exec : ℕ) (receipt : Receipt) (after : DeskData)
    : Type 0 where
  pub place : receipt.entry ≡ length d.journal.entries
  pub enters : Enters d by (TellLost exec) receipt.answer after
  pub results : after.results ≡ d.results
  pub shelf : after.shelf ≡ shelf_in (core_of after) d.shelf
