-- The results of a job that is done.
use Rattle.std.proofs.Common.{◌≡◌, true, List, length, Option, Some, None, IfSome, is_some, refl, ap, sym, ◌∙◌, arith, true≢false}
use Rattle.sc_lineage.specs.ScriptData.{WorkData}
use Rattle.sc_compute.specs.declared.results.TaskResult.{TaskResult}
use Rattle.sc_core.specs.Laws.{DoneJobsAreWhole}
use Rattle.sc_core.specs.Sound.{IsSoundCore}
use Rattle.sc_core.specs.declared.answers.JobState.TheVariants as jobs
use Rattle.sc_ids.proofs.ChangeLemmas.{length_change_at}
use Rattle.sc_plan.specs.declared.orders.Order.{Order}
use Rattle.sc_desk.specs.Orders.{after_order, counted}
use Rattle.sc_desk.specs.declared.orders.Ordered.{Ordered}
use Rattle.sc_desk.specs.DeskData.{DeskData, core_of}
use Rattle.sc_desk.specs.Sound.{AreAllResults, IsResult, IsSoundDesk, result_at}

-- a job that is done has all its results
pub all_there :
    DoneJobsAreWhole → (work : WorkData) (d : DeskData) → IsSoundDesk work d
    → IsSoundCore (core_of d) → (core_of d).job ≡ jobs.Done → AreAllResults work d.job d.results
all_there whole work d sound core done p lt =
    by (result_at d.results p) refl
    (sound.won p ∙ whole (core_of d) p core done (omega (arith, lt, sound.places))) (sound.own p)
  where
    by : (o : Option TaskResult) → result_at d.results p ≡ o → is_some o ≡ true
        → IfSome o (IsResult work d.job p)
        → (given : TaskResult) × (result_at d.results p ≡ Some given) × IsResult work d.job p given
    by None e some is = absurd (true≢false (sym some))
    by (Some given) e some is = (given, e, is)

-- ---- orders

-- a desk of which more orders were handed out
pub ordered_keeps :
    (work : WorkData) (d : DeskData) (ordered : List Ordered) (order : Option Order)
    → IsSoundDesk work d → ordered ≡ after_order d.ordered order
    → IsSoundDesk work (record d { ordered = ordered })
ordered_keeps work d ordered order sound is =
    record {
      last = sound.last;
      opened = sound.opened;
      began = sound.began;
      stages = sound.stages;
      limits = sound.limits;
      plan = sound.plan;
      execs = sound.execs;
      places = sound.places;
      won = sound.won;
      own = sound.own;
      shelf = sound.shelf;
      shelved = sound.shelved;
      over = sound.over;
      seen = sound.seen;
      in_time = sound.in_time;
      evidence = sound.evidence;
      carried = sound.carried;
      bounds = sound.bounds;
      fits = sound.fits;
      many = ap length is ∙ by order ∙ sound.many;
    }
  where
    by : (o : Option Order) → length (after_order d.ordered o) ≡ length d.ordered
    by None = refl
    by (Some x) = length_change_at d.ordered x.exec (counted x.kind)
