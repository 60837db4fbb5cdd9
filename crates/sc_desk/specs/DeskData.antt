-- The driver's desk, as plain data.
use Rattle.std.specs.Prelude.{ℕ, List, Option, refl}
use Rattle.std.specs.Coded.{Coded, code_by, coded×, coded_list, coded_option, coded_ℕ}
use Rattle.sc_stagecut.specs.Carrying.{CarriedData}
use Rattle.sc_stagecut.specs.contracts.carried.Carried.{the_row as carried}
use Rattle.sc_core.specs.CoreData.{CoreData}
use Rattle.sc_core.specs.Journals.{JournalData}
use Rattle.sc_core.specs.contracts.journals.Journal.{the_row as journal}
use Rattle.sc_compute.specs.contracts.results.TaskResult.{the_row as result_row}
use Rattle.sc_compute.specs.declared.results.TaskResult.{TaskResult}
use Rattle.sc_jobs.specs.JobData.{JobData, job_code}
use Rattle.sc_net.specs.Reports.{ReportData, report_code}
use Rattle.sc_net.specs.Shelves.{shelved}
use Rattle.sc_net.specs.declared.shelved.ShelvedReport.{ShelvedReport}
use Rattle.sc_desk.specs.Orders.{orders_code}
use Rattle.sc_desk.specs.declared.orders.Ordered.{Ordered}

-- a desk
pub record DeskData : Type 0 where
  -- the job that it runs
  pub job : JobData
  -- what goes on to the next job
  pub carried : CarriedData
  -- how the job began, what happened since, and its core
  pub journal : JournalData
  -- for each partition what was handed over of its result, where it has one
  pub results : List (Option TaskResult)
  -- the reports that are to be told later, by rising keys
  pub shelf : List (ShelvedReport ReportData)
  -- which orders of the fault plan were handed out in the run so far, by executor
  pub ordered : List Ordered

-- the core as it is now
abbrev pub core_of : DeskData → CoreData
core_of d = d.journal.core

abbrev pub desk_data : JobData → CarriedData → JournalData → List (Option TaskResult)
    → List (ShelvedReport ReportData) → List Ordered → DeskData
desk_data job carried journal results shelf ordered =
    record {
      job = job;
      carried = carried;
      journal = journal;
      results = results;
      shelf = shelf;
      ordered = ordered;
    }

-- the code of a report on the shelf, by which proofs tell two of them apart
abbrev pub shelved_code : Coded (ShelvedReport ReportData)
shelved_code =
    code_by (ℕ × (ℕ × ReportData)) (coded× coded_ℕ (coded× coded_ℕ report_code))
    (λ s. (s.key, (s.due, s.report))) (λ p. shelved p.0 p.1.0 p.1.1) (λ _. refl)

-- that of a journal but for its room
abbrev pub journal_code : Coded JournalData
journal_code = code_by (JournalData × ℕ) journal.coded (λ j. (j, 0)) (λ p. p.0) (λ _. refl)

-- and that of a desk
abbrev pub desk_code : Coded DeskData
desk_code =
    code_by (((JobData × CarriedData) × (JournalData × List (Option TaskResult)))
    × (List (ShelvedReport ReportData) × List Ordered))
    (coded× (coded× (coded× job_code carried.coded)
    (coded× journal_code (coded_list (coded_option result_row.coded))))
    (coded× (coded_list shelved_code) orders_code))
    (λ d. (((d.job, d.carried), (d.journal, d.results)), (d.shelf, d.ordered)))
    (λ p. desk_data p.0.0.0 p.0.0.1 p.0.1.0 p.0.1.1 p.1.0 p.1.1) (λ _. refl)

-- what goes on from job to job: the stages and bounds that were found, and which orders were handed
-- out
pub record PassedData : Type 0 where
  pub carried : CarriedData
  pub ordered : List Ordered

abbrev pub passed_data : CarriedData → List Ordered → PassedData
passed_data carried ordered = record { carried = carried; ordered = ordered }

-- its code, by which proofs tell two of them apart
abbrev pub passed_code : Coded PassedData
passed_code =
    code_by (CarriedData × List Ordered) (coded× carried.coded orders_code)
    (λ p. (p.carried, p.ordered)) (λ p. passed_data p.0 p.1) (λ _. refl)
