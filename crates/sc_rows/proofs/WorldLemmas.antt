-- The worlds that tests begin are worlds of a job that begins.
use Rattle.std.proofs.Common.{◌≡◌, List, None, Option, Some, refl, subst, sym}
use Rattle.std.specs.Prelude.{IfSome}
use Rattle.sc_base.specs.Outside.{Changes, FilesState}
use Rattle.sc_base.specs.Trees.{Path, Tree}
use Rattle.sc_lineage.specs.ScriptData.{WorkData}
use Rattle.sc_jobs.specs.declared.goals.Goal.TheVariants as goals
use Rattle.sc_desk.specs.Begins.{Begins, BeginsAgain}
use Rattle.sc_desk.specs.DeskData.{DeskData, PassedData, core_of, passed_data}
use Rattle.sc_desk.specs.Files.{FilesGoOn, FilesStand, dir_of_job}
use Rattle.sc_desk.specs.declared.orders.Ordered.{Ordered}
use Rattle.sc_desk.proofs.AgainLemmas.{again_is_begun}
use Rattle.sc_staging.specs.Opening.{IsOpened}
use Rattle.sc_store.specs.StoreData.{StoreData}
use Rattle.sc_world.specs.Runs.{AreReady, idle_world}
use Rattle.sc_world.specs.WorldData.{WorldData}
use Rattle.sc_context.specs.Starts.{new_stores}
use Rattle.sc_context.proofs.ReadyLemmas.{ready_opening}
use Rattle.sc_context.proofs.StartLemmas.{fresh_ready}
use Rattle.sc_rows.specs.Worlds.{IsFirstDesk, IsNewlyOpened, IsOfFirst}

pub first_ready : (work : WorkData) (desk : DeskData) → IsFirstDesk work desk
    → AreReady work (new_stores work) (core_of desk).dag.tracker (core_of desk).told
first_ready work desk (passed, begins) =
    ready_opening work (new_stores work) passed None (goals.Action 0) desk (fresh_ready work) begins

-- and the files of that job stand, where both directories of a save were just made
pub begun_stands : FilesGoOn → (work : WorkData) (desk : DeskData) (dir : Option Path)
    (files : FilesState) → IsFirstDesk work desk → dir ≡ dir_of_job work (goals.Action 0)
    → IfSome dir (λ d. IfSome files.shown (IsNewlyOpened d)) → FilesStand work desk dir files
begun_stands laws work desk dir files (passed, begins) same opened =
    laws.begun work passed None (goals.Action 0) desk dir files begins same opened

-- in its world too
pub first_stands : FilesGoOn → (work : WorkData) (desk : DeskData) (stores : List StoreData)
    (w : WorldData) (dir : Option Path) (files : FilesState) → IsFirstDesk work desk
    → w ≡ idle_world work desk stores → dir ≡ dir_of_job work (goals.Action 0)
    → IfSome dir (λ d. IfSome files.shown (IsNewlyOpened d)) → FilesStand work w.desk dir files
first_stands laws work desk stores w dir files first idle same opened =
    subst (λ (x : WorldData). FilesStand work x.desk dir files) (sym idle)
    (begun_stands laws work desk dir files first same opened)

-- both directories of a save that was opened were made, where they show
pub newly_opened : (dir own : Path) (before after : Option Tree) → own ≡ dir
    → Changes (IsOpened dir) before after → IfSome after (IsNewlyOpened own)
newly_opened dir own before after is opened =
    subst (λ p. IfSome after (IsNewlyOpened p)) (sym is) (made before after opened)
  where
    made : (a b : Option Tree) → Changes (IsOpened dir) a b → IfSome b (IsNewlyOpened dir)
    made a None opened = tt
    made None (Some t) opened = absurd opened
    made (Some u) (Some t) opened = (u, opened.made)

-- where the first job of a run begins again, behind whichever orders, it is a first job too
pub again_first : (work : WorkData) (d after : DeskData) (orders : List Ordered)
    → IsOfFirst work d → BeginsAgain work d None orders after → IsFirstDesk work after
again_first work d after orders is again = (
  behind,
  again_is_begun work behind None None (goals.Action 0) first d after orders begins is.job
      is.carried refl again,
)
  where
    behind : PassedData
    behind = passed_data is.begins.0.carried orders

    first : DeskData
    first = record (is.first) { ordered = orders }

    begins : Begins work behind None (goals.Action 0) first
    begins =
        record {
          goal_is = is.begins.1.goal_is;
          cut = is.begins.1.cut;
          carried_on = is.begins.1.carried_on;
          ordered = refl;
          opening = is.begins.1.opening;
          entries = is.begins.1.entries;
          core = is.begins.1.core;
          results = is.begins.1.results;
          shelf = is.begins.1.shelf;
        }
