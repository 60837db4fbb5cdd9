-- The reports on a desk's shelf.
use Rattle.std.specs.Prelude.{ℕ, ◌≡◌, ◌++◌, Bool, true, false, List, [], Option, Some, None, filter, not, drop, length, map}
use Rattle.std.specs.List.{find}
use Rattle.std.specs.Option.{option_map}
use Rattle.sc_lineage.specs.ScriptData.{WorkData}
use Rattle.sc_core.specs.CoreData.{CoreData, job_runs}
use Rattle.sc_core.specs.declared.running.Shelved.{Shelved}
use Rattle.sc_jobs.specs.JobData.{JobData}
use Rattle.sc_net.specs.Reports.{IsTrueReport, ReportData, outcome_of}
use Rattle.sc_net.specs.Shelves.{is_under, shelved}
use Rattle.sc_net.specs.Tasks.{IsTaskOf}
use Rattle.sc_net.specs.declared.shelved.ShelvedReport.{ShelvedReport}

-- a report on the shelf, as the core has it
abbrev pub as_shelved : ShelvedReport ReportData → Shelved
as_shelved s =
    record {
      key = s.key;
      due = s.due;
      attempt = s.report.task.hand_out.attempt;
      outcome = outcome_of s.report.finding;
    }

-- a report under the key of one that the core has
abbrev pub with_key_of : ReportData → Shelved → ShelvedReport ReportData
with_key_of report s = shelved s.key s.due report

-- a shelf with a report wherever the core has one more of it
abbrev pub with_more : List (ShelvedReport ReportData) → ReportData → List Shelved
    → List (ShelvedReport ReportData)
with_more shelf report shelf_of_core =
    shelf ++ map (with_key_of report) (drop (length shelf) shelf_of_core)

-- a shelf while the job runs; in the end all are dropped
abbrev pub shelf_if : Bool → List (ShelvedReport ReportData) → List (ShelvedReport ReportData)
shelf_if true shelf = shelf
shelf_if false shelf = []

abbrev pub shelf_in : CoreData → List (ShelvedReport ReportData) → List (ShelvedReport ReportData)
shelf_in c shelf = shelf_if (job_runs c) shelf

-- the shelf without the report under a key
abbrev pub without_key : List (ShelvedReport ReportData) → ℕ → List (ShelvedReport ReportData)
without_key shelf key = filter (λ s. not (is_under key s)) shelf

-- the report under a key
abbrev pub report_under : List (ShelvedReport ReportData) → ℕ → Option ReportData
report_under shelf key = option_map (λ s. s.report) (find (is_under key) shelf)

-- how many there are of what may be there
abbrev pub count_of : {A : Type 0} → Option A → ℕ
count_of None = 0
count_of (Some x) = 1

-- a report on the shelf is a true one, of a task of the job
pub record IsShelvedOf (work : WorkData) (job : JobData) (s : ShelvedReport ReportData) : Type 0
  where
    pub of_job : s.report.task.job ≡ job
    pub task : IsTaskOf job s.report.task.hand_out
    pub is_true : IsTrueReport work s.report.task s.report.finding
