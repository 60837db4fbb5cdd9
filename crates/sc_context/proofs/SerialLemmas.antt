-- What the driver leaves of a job that it ran alone.
use Rattle.std.proofs.Common.{◌≡◌, ◌∙◌, List, [], ap, sym, subst}
use Rattle.sc_base.specs.Outside.{FilesState}
use Rattle.sc_lineage.specs.ScriptData.{WorkData}
use Rattle.sc_staging.specs.Outputs.{output_dir, output_files}
use Rattle.sc_staging.specs.declared.outputs.Output.{Output}
use Rattle.sc_core.specs.declared.entries.Entry.{Entry}
use Rattle.sc_store.specs.StoreData.{StoreData}
use Rattle.sc_desk.specs.DeskData.{DeskData}
use Rattle.sc_desk.specs.Files.{AreCounted, FilesStand, faults_of}
use Rattle.sc_exec.specs.JobDesks.{job_desk_data}
use Rattle.sc_exec.specs.Openings.{OpeningData}
use Rattle.sc_world.specs.Files.{OutputGoesOn, OutputStands}
use Rattle.sc_world.specs.Laws.{DriverEnters}
use Rattle.sc_world.specs.Runs.{idle_world}
use Rattle.sc_world.specs.Serial.{IsSameJob}
use Rattle.sc_world.specs.WorldData.{WorldData}
use Rattle.sc_context.specs.Goings.{ComesFrom}
use Rattle.sc_context.specs.Histories.{AreDrivers}
use Rattle.sc_context.proofs.AloneLemmas.{comes_on, counts_alone, drivers_all}

-- the files of a world stand that is made of a desk whose files do
pub stands_idle : {F : Type 0} (work : WorkData) (d : DeskData) (stores : List StoreData)
    (w : WorldData) (state : F → FilesState) (output : Output F) → w ≡ idle_world work d stores
    → FilesStand work d (output_dir output) (output_files state output)
    → OutputStands work w state output
stands_idle work d stores w state output begun stand =
    subst (λ (x : WorldData). OutputStands work x state output) (sym begun) stand

-- A world, what the driver leaves of it that runs its job alone, and the desk of that.
module _ {F : Type 0} (work : WorkData) (w after : WorldData) (left : DeskData)
    (state : F → FilesState) (old new : Output F) (is : left ≡ after.desk) where
  -- its files stand
  pub stands_left : OutputGoesOn work w after state old new
      → FilesStand work left (output_dir new) (output_files state new)
  stands_left goes =
      subst (λ (x : DeskData). FilesStand work x (output_dir new) (output_files state new))
      (sym is) goes.stand

  -- it comes from where the job began
  pub comes_alone : IsSameJob w after → OutputGoesOn work w after state old new
      → (o : OpeningData)
      → ComesFrom work o (job_desk_data w.desk (output_dir old) (output_files state old))
      → ComesFrom work o (job_desk_data left (output_dir new) (output_files state new))
  comes_alone same goes o from =
      comes_on work o w.desk left (output_dir old) (output_dir new) (output_files state old)
      (output_files state new) from
      (ap (λ (x : DeskData). x.journal.opening) is ∙ same.opening)
      (ap (λ (x : DeskData). x.job) is ∙ same.job)
      (ap (λ (x : DeskData). x.carried) is ∙ same.carried)
      goes.goes.dir (stands_left goes) goes.goes.later goes.goes.goes

  -- all entries are the driver's
  pub entered_alone : (entries : List Entry) → w.desk.journal.entries ≡ []
      → DriverEnters w.desk after.desk → entries ≡ left.journal.entries → AreDrivers entries
  entered_alone entries none enters same =
      drivers_all w.desk after.desk entries none enters
      (same ∙ ap (λ (x : DeskData). x.journal.entries) is)

  -- and tell of all that the files have counted
  pub counted_alone : w.desk.journal.entries ≡ [] → OutputGoesOn work w after state old new
      → AreCounted (output_files state old) (faults_of left.journal.entries)
      (output_files state new)
  counted_alone none goes =
      subst (λ (x : DeskData). AreCounted (output_files state old) (faults_of x.journal.entries)
      (output_files state new)) (sym is)
      (counts_alone w.desk after.desk (output_files state old) (output_files state new) none
      goes.counts)

-- where a world is made of a desk, what comes from how its job began does from how that did
pub comes_idle : {F : Type 0} (work : WorkData) (d : DeskData) (stores : List StoreData)
    (w : WorldData) (state : F → FilesState) (output : Output F) → w ≡ idle_world work d stores
    → (o : OpeningData)
    → ComesFrom work o (job_desk_data d (output_dir output) (output_files state output))
    → ComesFrom work o (job_desk_data w.desk (output_dir output) (output_files state output))
comes_idle work d stores w state output begun o from =
    subst (λ (x : WorldData). ComesFrom work o
    (job_desk_data x.desk (output_dir output) (output_files state output))) (sym begun) from

pub none_before : (work : WorkData) (d : DeskData) (stores : List StoreData) (w : WorldData)
    → w ≡ idle_world work d stores → d.journal.entries ≡ [] → w.desk.journal.entries ≡ []
none_before work d stores w begun none =
    ap (λ (x : WorldData). x.desk.journal.entries) begun ∙ none
