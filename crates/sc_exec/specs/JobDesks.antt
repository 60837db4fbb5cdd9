-- The desk of a job with the job's files, as plain data.
use Rattle.std.specs.Prelude.{◌≡◌, Option, refl}
use Rattle.std.specs.Coded.{Coded, code_by, coded×, coded_list, coded_option, coded_ℕ}
use Rattle.sc_base.specs.Outside.{FilesState, IsLaterFiles, files_state_code}
use Rattle.sc_base.specs.Trees.{Path}
use Rattle.sc_lineage.specs.ScriptData.{WorkData}
use Rattle.sc_staging.specs.Outputs.{GoesOnIn}
use Rattle.sc_desk.specs.DeskData.{DeskData, desk_code}
use Rattle.sc_desk.specs.Files.{AreCounted, FilesStand, faults_of}
use Rattle.sc_exec.specs.Openings.{OpeningData, opening_data}

-- a desk with its job's files
pub record JobDeskData : Type 0 where
  pub desk : DeskData
  -- where the job saves to, if it saves
  pub dir : Option Path
  -- the files, with what they show
  pub files : FilesState

abbrev pub job_desk_data : DeskData → Option Path → FilesState → JobDeskData
job_desk_data desk dir files = record { desk = desk; dir = dir; files = files }

-- its code, by which proofs tell two of them apart
abbrev pub job_desk_code : Coded JobDeskData
job_desk_code =
    code_by (DeskData × (Option Path × FilesState))
    (coded× desk_code (coded× (coded_option (coded_list coded_ℕ)) files_state_code))
    (λ h. (h.desk, (h.dir, h.files))) (λ p. job_desk_data p.0 p.1.0 p.1.1) (λ _. refl)

-- how the job of a helm began, where nothing happened since
abbrev pub opening_of : JobDeskData → OpeningData
opening_of h = opening_data h.desk.journal.opening h.desk.job h.desk.carried h.dir h.files

-- A helm is that of a job that began so.
pub record IsJobOf (work : WorkData) (o : OpeningData) (h : JobDeskData) : Type 0 where
  pub core : h.desk.journal.opening ≡ o.core
  pub job : h.desk.job ≡ o.job
  pub carried : h.desk.carried ≡ o.carried
  pub dir : h.dir ≡ o.dir
  -- its files stand as its journal tells
  pub stand : FilesStand work h.desk h.dir h.files
  -- they are later ones than those of the beginning, where a save that was under way is under way
  pub later : IsLaterFiles o.files h.files
  pub goes : GoesOnIn o.dir o.files h.files
  -- and have counted just the faults that its journal tells of
  pub counted : AreCounted o.files (faults_of h.desk.journal.entries) h.files

-- the files stay as they are
abbrev pub KeepsFiles : JobDeskData → JobDeskData → Type 0
KeepsFiles h after = (after.dir ≡ h.dir) × (after.files ≡ h.files)
