-- The files of a job that begins.
use Rattle.std.proofs.Common.{◌≡◌, Option, Some, None, sym, subst}
use Rattle.std.specs.Prelude.{IfSome}
use Rattle.sc_base.specs.Outside.{Changes, FilesState}
use Rattle.sc_base.specs.Trees.{Path, Tree}
use Rattle.sc_lineage.specs.ScriptData.{WorkData}
use Rattle.sc_staging.specs.Opening.{IsOpened, opened_tree}
use Rattle.sc_staging.specs.Outputs.{output_dir, output_files}
use Rattle.sc_staging.specs.declared.outputs.Output.{Output}
use Rattle.sc_core.specs.CoreData.{CoreData}
use Rattle.sc_jobs.specs.declared.goals.Goal.{Goal}
use Rattle.sc_desk.specs.Begins.{Begins}
use Rattle.sc_desk.specs.DeskData.{DeskData, PassedData}
use Rattle.sc_desk.specs.Files.{FilesGoOn, FilesStand, dir_of_job}
use Rattle.sc_context.specs.Outputs.{IsOpenFor, IsOpenIn}

-- where those of a save show, both directories were made
opened_shows : (dir : Option Path) (before opened : FilesState) → IsOpenIn dir before opened
    → IfSome dir (λ d. IfSome opened.shown (λ t. (u : Tree) × (t ≡ opened_tree d u)))
opened_shows None before opened is = tt
opened_shows (Some dir) before opened is = by before.shown opened.shown is.2
  where
    by : (a b : Option Tree) → Changes (IsOpened dir) a b
        → IfSome b (λ t. (u : Tree) × (t ≡ opened_tree dir u))
    by a None is = tt
    by None (Some t) is = absurd is
    by (Some u) (Some t) is = (u, is.made)

-- so the files of a job that begins stand
pub begun_stands : {F : Type 0} → FilesGoOn → (work : WorkData) (passed : PassedData)
    (last : Option CoreData) (goal : Goal) (d : DeskData) (state : F → FilesState)
    (before : FilesState) (output : Output F) → Begins work passed last goal d
    → IsOpenFor state (dir_of_job work goal) before output
    → FilesStand work d (output_dir output) (output_files state output)
begun_stands law work passed last goal d state before output begins opened =
    let files = output_files state output in
    law.begun work passed last goal d (output_dir output) files begins opened.saves_to
    (subst (λ d. IfSome d (λ p. IfSome files.shown (λ t. (u : Tree) × (t ≡ opened_tree p u))))
    (sym opened.saves_to) (opened_shows (dir_of_job work goal) before files opened.opened))
