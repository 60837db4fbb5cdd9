-- A job that begins again.
use Rattle.std.proofs.Common.{◌≡◌, Bool, true, false, Option, Some, None, IfSome, ap, sym, subst, ◌∙◌}
use Rattle.std.specs.Option.{option_map}
use Rattle.std.proofs.lemmas.List.Elements.{All-nil}
use Rattle.sc_lineage.specs.ScriptData.{WorkData}
use Rattle.sc_core.specs.CoreData.{CoreData}
use Rattle.sc_core.specs.Openings.{IsOpening, unregistered_core}
use Rattle.sc_core.specs.Sound.{IsSoundCore, LeavesWell}
use Rattle.sc_core.proofs.LeavingLemmas.{last_leaves_well, unregistered_leave_well}
use Rattle.sc_jobs.specs.Fitting.{HasItsMaps}
use Rattle.sc_jobs.specs.JobData.{JobData, saves}
use Rattle.sc_desk.specs.Begins.{AgainIsBegun, FitsLast, ServesUnregistered, left_for}

pub serves_unregistered : ServesUnregistered
serves_unregistered work None = (λ fits. fits, λ live. live)
serves_unregistered work (Some last) = (
  λ fits. record {
    tracker = All-nil (HasItsMaps work);
    execs = fits.execs;
    plan = fits.plan;
    seen = fits.seen;
  },
  (unregistered_leave_well last).1,
)

pub left_fits : (work : WorkData) (again : Bool) (last : Option CoreData) → FitsLast work last
    → FitsLast work (left_for again last)
left_fits work false last fits = fits
left_fits work true last fits = (serves_unregistered work last).0 fits

pub left_well : (again : Bool) (last : Option CoreData) → IfSome last IsSoundCore
    → IfSome (left_for again last) LeavesWell
left_well false last sound = last_leaves_well last sound
left_well true None sound = tt
left_well true (Some last) sound =
    (unregistered_leave_well last).0 (last_leaves_well (Some last) sound)

pub again_is_begun : AgainIsBegun
again_is_begun work passed before last goal first d after orders begins same_job same_carried
    same_orders again =
    record {
      goal_is = ap (λ (j : JobData). j.goal) job ∙ begins.goal_is;
      cut = rw job begins.cut;
      carried_on = rw job (again.carried ∙ same_carried ∙ begins.carried_on);
      ordered = again.ordered ∙ same_orders;
      opening = opening;
      entries = again.entries;
      core = again.core;
      results = again.results;
      shelf = again.shelf;
    }
  where
    job : after.job ≡ first.job
    job = again.job ∙ same_job

    opening : IsOpening after.job.graph work.limits (saves work goal) work.plan
        (option_map unregistered_core last) after.journal.opening
    opening =
        subst (λ (j : JobData). IsOpening j.graph work.limits (saves work goal) work.plan
        (option_map unregistered_core last) after.journal.opening) (sym again.job)
        (subst (λ g. IsOpening d.job.graph work.limits (saves work g) work.plan
        (option_map unregistered_core last) after.journal.opening)
        (ap (λ (j : JobData). j.goal) same_job ∙ begins.goal_is) again.opening)
