-- The queue of reports is drained.
use Rattle.std.specs.Prelude.{◌≡◌, ◌<◌, List, [], ◌∷◌, ◌++◌, Option, Some, None, Result, Ok, Err, length}
use Rattle.std.specs.declared.alloc.AllocError.{AllocError}
use Rattle.sc_ids.specs.declared.attempts.Mark.TheVariants.{Exec}
use Rattle.sc_lineage.specs.ScriptData.{WorkData}
use Rattle.sc_queue.specs.Rule.{as_list, popped_of}
use Rattle.sc_queue.specs.declared.rules.Hand.{Hand}
use Rattle.sc_queue.specs.declared.rules.Posted.{Posted}
use Rattle.sc_net.specs.Reports.{ReportData}
use Rattle.sc_desk.specs.DeskData.{DeskData, core_of}
use Rattle.sc_desk.specs.Posts.{IsKnown, Receives, attempt_of}
use Rattle.sc_desk.specs.declared.receipts.Receipt.{Receipt}
use Rattle.sc_exec.specs.Logging.{IsEarlyFor}
use Rattle.sc_exec.specs.declared.calls.Delivery.{Delivery}
use Rattle.sc_exec.specs.declared.calls.Delivery.TheVariants as deliveries
use Rattle.sc_exec.specs.declared.drains.Drained.{Drained}
use Rattle.sc_exec.specs.declared.drains.Drained.TheVariants as draineds
use Rattle.sc_exec.specs.declared.drains.Strange.{Strange}
use Rattle.sc_exec.specs.declared.drains.Strange.TheVariants as stranges

-- ---- one report

-- the desk refuses a report so
abbrev pub IsStrange : WorkData → DeskData → ReportData → Strange → Type 0
IsStrange work d report (stranges.Report refused) =
    (IsKnown d report → ⊥) × (refused.attempt ≡ attempt_of report)
IsStrange work d report (stranges.Early early) =
    IsKnown d report × IsEarlyFor work (core_of d).told report.finding early

-- what is known of such an answer whoever hears of it
abbrev pub IsMet : Strange → Type 0
IsMet (stranges.Report refused) = Unit {0}
IsMet (stranges.Early early) = early.due < early.found

-- what became of a report tells why it was refused, if it was
abbrev pub TellsStrange : {W : _} → Delivery W → Option Strange → Type 0
TellsStrange deliveries.Received None = Unit {0}
TellsStrange (deliveries.Stranger back refused) (Some (stranges.Report told)) = told ≡ refused
TellsStrange (deliveries.Early back early) (Some (stranges.Early told)) = told ≡ early
TellsStrange delivery strange = ⊥

-- it is entered under the mark of who posted it
abbrev pub IsEntered : WorkData → DeskData → Posted ReportData → DeskData → Type 0
IsEntered work d p after =
    (receipt : Receipt) × Receives work d (Exec p.exec) p.report receipt after

-- it is entered, or refused with nothing changed, or held where memory ran out
abbrev pub EntersNext : WorkData → DeskData → Posted ReportData → DeskData
    → Option (Posted ReportData) → Result (Option Strange) AllocError → Type 0
EntersNext work d p after held (Ok None) = (held ≡ None) × IsEntered work d p after
EntersNext work d p after held (Ok (Some strange)) =
    (held ≡ None) × (after ≡ d) × IsStrange work d p.report strange
EntersNext work d p after held (Err e) = (held ≡ Some p) × (after ≡ d)

-- ---- all of them

-- reports are entered in this order, and nothing else is
abbrev pub AreEntered : WorkData → DeskData → List (Posted ReportData) → DeskData → Type 0
AreEntered work d [] after = after ≡ d
AreEntered work d (p ∷ ps) after =
    (mid : DeskData) × IsEntered work d p mid × AreEntered work mid ps after

-- what lies behind the driver's lock: the desk, the report that is held, and what was popped so far
pub record Kept : Type 0 where
  pub desk : DeskData
  pub held : Option (Posted ReportData)
  pub popped : List (Posted ReportData)

abbrev pub kept_of : DeskData → Option (Posted ReportData) → Hand ReportData → Kept
kept_of desk held hand = record { desk = desk; held = held; popped = popped_of hand }

-- the report that was held and then each one popped were entered, in that order, but for some that
-- are left
pub record Gains (work : WorkData) (k after : Kept) (left : List (Posted ReportData))
    : Type 0 where
  pub came : List (Posted ReportData)
  pub done : List (Posted ReportData)
  pub popped : after.popped ≡ k.popped ++ came
  pub order : as_list k.held ++ came ≡ done ++ left
  pub entered : AreEntered work k.desk done after.desk

-- What a drain comes to. None is left, and the count is that of the entries; or the last one was
-- refused so; or memory ran out for the last one, which is held.
abbrev pub Drains : WorkData → Kept → Kept → Result Drained AllocError → Type 0
Drains work k after (Ok (draineds.All count)) =
    (gains : Gains work k after []) × (count ≡ length gains.done) × (after.held ≡ None)
Drains work k after (Ok (draineds.Strange strange)) =
    (p : Posted ReportData) × Gains work k after (p ∷ []) × (after.held ≡ None)
    × IsStrange work after.desk p.report strange
Drains work k after (Err e) =
    (p : Posted ReportData) × Gains work k after (p ∷ []) × (after.held ≡ Some p)

abbrev pub HasMet : Drained → Type 0
HasMet (draineds.All count) = Unit {0}
HasMet (draineds.Strange strange) = IsMet strange

abbrev pub HasMetNext : Option Strange → Type 0
HasMetNext None = Unit {0}
HasMetNext (Some strange) = IsMet strange
