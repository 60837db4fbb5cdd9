-- How a job goes on from its beginning, and begins again.
use Rattle.std.proofs.Common.{◌≡◌, ◌∙◌, ℕ, zero, suc, List, [], ◌++◌, Option, Some, None, IfSome, option_map, replicate, refl, ap, sym, subst}
use Rattle.sc_base.specs.Lists.{at_or}
use Rattle.sc_base.specs.Outside.{FilesState, IsLaterFiles}
use Rattle.sc_base.specs.Trees.{Path, Tree}
use Rattle.sc_base.proofs.ChangeLemmas.{changes-after, changes-compose, changes-none}
use Rattle.sc_lineage.specs.ScriptData.{WorkData}
use Rattle.sc_output.proofs.CallLemmas.{later-then}
use Rattle.sc_staging.specs.Done.{HasFiles}
use Rattle.sc_staging.specs.Laws as staging
use Rattle.sc_staging.specs.Laws.{StaysUnderWay}
use Rattle.sc_staging.specs.Renewal.{renewed_tree}
use Rattle.sc_staging.specs.Outputs.{GoesOnIn}
use Rattle.sc_ids.specs.declared.limits.Limits.{Limits}
use Rattle.sc_core.specs.CoreData.{CoreData}
use Rattle.sc_core.specs.Openings.{tracker_behind, unregistered_core}
use Rattle.sc_core.specs.declared.entries.Entry.{Entry}
use Rattle.sc_jobs.specs.JobData.{JobData}
use Rattle.sc_jobs.specs.declared.goals.Goal.{Goal}
use Rattle.sc_task.specs.Attempts.{AttemptData}
use Rattle.sc_desk.specs.Begins.{Begins, BeginsAgain}
use Rattle.sc_desk.specs.DeskData.{DeskData, PassedData}
use Rattle.sc_desk.specs.Files.{AreCounted, CountsGoOn, FilesStand, deeds_of, dir_of_job, faults_of, part_texts}
use Rattle.sc_desk.specs.declared.orders.Ordered.{Ordered}
use Rattle.sc_exec.specs.JobDesks.{JobDeskData, IsJobOf, job_desk_data}
use Rattle.sc_exec.specs.Openings.{OpeningData}
use Rattle.sc_world.specs.Laws.{DriverEnters}
use Rattle.sc_world.specs.Runs.{idle_world}
use Rattle.sc_world.specs.Serial.{IsResting}
use Rattle.sc_world.specs.WorldData.{WorldData}
use Rattle.sc_store.specs.StoreData.{StoreData}
use Rattle.sc_context.specs.Goings.{ComesFrom}
use Rattle.sc_context.specs.Histories.{AreDrivers}
use Rattle.sc_context.specs.Outputs.{IsRenewedIn}
use Rattle.sc_context.specs.Starts.{IsUnregistered}
use Rattle.sc_context.proofs.ReadyLemmas.{begun_unregistered}

-- ---- files that go on

pub goes_self : (dir : Option Path) (f : FilesState) → GoesOnIn dir f f
goes_self None f = refl
goes_self (Some dir) f = changes-none (StaysUnderWay dir) f.shown (λ t opening under. under)

goes_then : (dir : Option Path) (a b c : FilesState) → GoesOnIn dir a b → GoesOnIn dir b c
    → GoesOnIn dir a c
goes_then None a b c x y = y ∙ x
goes_then (Some dir) a b c x y =
    changes-compose (StaysUnderWay dir) (StaysUnderWay dir) (StaysUnderWay dir) a.shown b.shown
    c.shown (λ t u v p q opening under. q opening (p opening under)) x y

-- ---- a job that goes on

-- what executors leave comes from where they began
pub comes_along : (work : WorkData) (o : OpeningData) (h : JobDeskData) → IsJobOf work o h
    → ComesFrom work o h
comes_along work o h is =
    record {
      core = is.core;
      job = is.job;
      carried = is.carried;
      dir = is.dir;
      stand = is.stand;
      later = is.later;
      goes = is.goes;
    }

-- so does what the driver leaves that goes on alone
pub comes_on : (work : WorkData) (o : OpeningData) (d after : DeskData) (dir then : Option Path)
    (before files : FilesState) → ComesFrom work o (job_desk_data d dir before)
    → after.journal.opening ≡ d.journal.opening → after.job ≡ d.job → after.carried ≡ d.carried
    → then ≡ dir → FilesStand work after then files → IsLaterFiles before files
    → GoesOnIn dir before files → ComesFrom work o (job_desk_data after then files)
comes_on work o d after dir then before files from opening job carried same stand later goes =
    record {
      core = opening ∙ from.core;
      job = job ∙ from.job;
      carried = carried ∙ from.carried;
      dir = same ∙ from.dir;
      stand = stand;
      later = later-then o.files before files from.later later;
      goes = goes_then o.dir o.files before files from.goes
          (subst (λ (x : Option Path). GoesOnIn x before files) from.dir goes);
    }

-- ---- a job that the driver runs alone

none_at : (n e : ℕ) → at_or {A = Option AttemptData} (replicate n None) e None ≡ None
none_at zero e = refl
none_at (suc n) zero = refl
none_at (suc n) (suc e) = none_at n e

-- no executor has an attempt out as it begins
pub idle_rests : (work : WorkData) (d : DeskData) (stores : List StoreData) (w : WorldData)
    → w ≡ idle_world work d stores → IsResting w
idle_rests work d stores w is =
    subst (λ (x : WorldData). IsResting x) (sym is)
    (λ exec. none_at work.limits.executors exec)

-- it enters all, where nothing was entered before
pub drivers_all : (before after : DeskData) (entries : List Entry)
    → before.journal.entries ≡ [] → DriverEnters before after
    → entries ≡ after.journal.entries → AreDrivers entries
drivers_all before after entries empty (more, all, drivers) same =
    subst AreDrivers (sym (same ∙ all ∙ ap (λ (es : List Entry). es ++ more) empty)) drivers

-- and its entries tell of all that is counted
pub counts_alone : (before after : DeskData) (opened mid : FilesState)
    → before.journal.entries ≡ [] → CountsGoOn before after opened mid
    → AreCounted opened (faults_of after.journal.entries) mid
counts_alone before after opened mid none counts =
    subst (λ l. AreCounted opened l mid)
    (sym (counts.told ∙ ap (λ (es : List Entry). faults_of es ++ counts.faults) none))
    counts.counted

-- ---- a job that begins again

-- its files stand where those of the one that was given up did, with nothing in the staging area
pub again_stands : (law : staging.FilesStand) (work : WorkData) (d after : DeskData)
    (last : Option CoreData) (orders : List Ordered) (dir : Option Path)
    (files begun : FilesState) → BeginsAgain work d last orders after
    → FilesStand work d dir files → IsRenewedIn dir files begun → FilesStand work after dir begun
again_stands law work d after last orders dir files begun again stand renewed =
    record {
      opened_for = stand.opened_for
          ∙ ap (λ (j : JobData). dir_of_job work j.goal) (sym again.job);
      standing = by dir stand.standing renewed;
    }
  where
    Stood : Path → Tree → Type 0
    Stood p = HasFiles p (part_texts work d.job.goal) (deeds_of d.journal.entries)

    Stands : Path → Tree → Type 0
    Stands p = HasFiles p (part_texts work after.job.goal) (deeds_of after.journal.entries)

    anew : (p : Path) (t u : Tree) → Stood p t → u ≡ renewed_tree p t → Stands p u
    anew p t u stood is =
        subst (Stands p) (sym is)
        (subst (λ (es : List Entry).
        HasFiles p (part_texts work after.job.goal) (deeds_of es) (renewed_tree p t))
        (sym again.entries) (law.renewed p (part_texts work after.job.goal) t stood.there))

    by : (o : Option Path) → IfSome o (λ p. IfSome files.shown (Stood p))
        → IsRenewedIn o files begun → IfSome o (λ p. IfSome begun.shown (Stands p))
    by None stood is = tt
    by (Some p) stood is =
        changes-after (λ t u. u ≡ renewed_tree p t) (Stood p) (Stands p) files.shown begun.shown
        (anew p) stood is.2

-- its tracker knows of no place
nothing_behind : (last : Option CoreData) (limits : Limits)
    → (tracker_behind (option_map unregistered_core last) limits).shuffles ≡ []
nothing_behind None limits = refl
nothing_behind (Some last) limits = refl

pub again_unregistered : (work : WorkData) (passed : PassedData) (last : Option CoreData)
    (goal : Goal) (after : DeskData)
    → Begins work passed (option_map unregistered_core last) goal after → IsUnregistered after
again_unregistered work passed last goal after begins =
    begun_unregistered work passed (option_map unregistered_core last) goal after
    (nothing_behind last work.limits) begins
