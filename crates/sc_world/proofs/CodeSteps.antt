-- What the calls on places and stores do, as steps of a world.
use Rattle.std.proofs.Common.{◌≡◌, ℕ, true, List, Option, Some, None, IfSome, slice_get, refl, ap, ap₂, subst, ◌∙◌}
use Rattle.sc_base.specs.Lists.{at_or}
use Rattle.sc_ids.specs.Changes.{change_at}
use Rattle.sc_ids.specs.declared.attempts.Mark.TheVariants.{Driver}
use Rattle.sc_ids.specs.declared.blocks.Loc.{Loc}
use Rattle.sc_lineage.specs.ScriptData.{WorkData}
use Rattle.sc_core.specs.CoreData.{job_runs}
use Rattle.sc_core.specs.declared.answers.Answer.{Answer}
use Rattle.sc_core.specs.declared.answers.Answer.TheVariants as says
use Rattle.sc_plan.specs.Orders.{wipes_of}
use Rattle.sc_plan.specs.declared.orders.Order.{Order}
use Rattle.sc_store.specs.StoreData.{StoreData}
use Rattle.sc_store.specs.declared.answers.WipeAnswer.{WipeAnswer}
use Rattle.sc_net.specs.Reports.{loc_at, report_data}
use Rattle.sc_net.specs.Tasks.{TaskData}
use Rattle.sc_net.specs.declared.findings.Finding.{Finding}
use Rattle.sc_task.specs.Attempts.{AttemptData, assigned, reported}
use Rattle.sc_desk.specs.DeskData.{DeskData}
use Rattle.sc_desk.specs.Orders.{IsDueAmong}
use Rattle.sc_desk.specs.Posts.{Receives}
use Rattle.sc_desk.specs.Takes.{IsTaken, TakesLogged}
use Rattle.sc_desk.specs.declared.receipts.Receipt.{Receipt}
use Rattle.sc_desk.specs.declared.takes.Taken.{Taken}
use Rattle.sc_desk.specs.declared.takes.Taken.TheVariants as takes
use Rattle.sc_world.specs.Places.{ComputesAmong, EvictsAmong, PutsAmong, ReadsAmong, WipesAmong, held_with}
use Rattle.sc_world.specs.Steps.{Computes, EvictsOne, Posts, Puts, Reads, Takes, WipesOne, given_to}
use Rattle.sc_world.specs.WorldData.{WorldData, core_in, world_data}
use Rattle.sc_world.specs.declared.steps.Kept.{Kept}

-- ---- steps

pub reads_in : (w : WorldData) (exec : ℕ) (held : List (Option AttemptData))
    → ReadsAmong w.stores exec w.held held → Reads w exec (world_data w.desk w.stores held)
reads_in w exec held r =
    record { held = r.next; reads = r.reads; is = ap (world_data w.desk w.stores) r.is }

pub computes_in : (work : WorkData) (w : WorldData) (exec : ℕ) (kept : Kept)
    (held : List (Option AttemptData)) (stores : List StoreData)
    → ComputesAmong work exec w.held w.stores kept held stores
    → Computes work w exec kept (world_data w.desk stores held)
computes_in work w exec kept held stores r =
    record {
      task = r.computes.task;
      got = r.computes.got;
      held = r.computes.held;
      complete = r.computes.complete;
      next = r.computes.next;
      makes = r.computes.makes;
      store = r.store;
      own = r.own;
      cached = r.cached;
      caches = r.computes.caches;
      is = ap₂ (world_data w.desk) r.stores_are
          (r.is ∙ ap (λ (o : Option AttemptData). change_at w.held exec (λ _. o)) r.computes.is);
    }

pub puts_in : (work : WorkData) (w : WorldData) (exec : ℕ) (loc : Loc)
    (held : List (Option AttemptData)) (stores : List StoreData)
    → ((e : ℕ) → IfSome (slice_get w.stores e) (λ s. s.exec ≡ e))
    → PutsAmong work exec w.held w.stores loc held stores
    → Puts work w exec loc (world_data w.desk stores held)
puts_in work w exec loc held stores own r =
    record {
      task = r.puts.task;
      held = r.puts.held;
      store = r.store;
      own = r.own;
      next = r.full;
      puts = r.puts.puts;
      loc_is = r.puts.loc_is ∙ ap (λ (e : ℕ). loc_at e r.store.generation) its;
      is = ap₂ (world_data w.desk) r.stores_are
          (r.is ∙ ap (λ (o : Option AttemptData). change_at w.held exec (λ _. o)) r.puts.is);
    }
  where
    its : r.store.exec ≡ exec
    its = subst (λ o. IfSome o (λ s. s.exec ≡ exec)) r.own (own exec)

pub wipes_in : (work : WorkData) (w : WorldData) (order : Order) (answer : WipeAnswer)
    (stores : List StoreData) → job_runs (core_in w) ≡ true
    → IsDueAmong (wipes_of work.plan order.exec) (core_in w).told order
    → WipesAmong order w.stores answer stores
    → WipesOne work w order answer (world_data w.desk stores w.held)
wipes_in work w order answer stores runs due r =
    record {
      runs = runs;
      due = due;
      store = r.store;
      own = r.own;
      next = r.next;
      wipes = r.wipes;
      is = ap (λ s. world_data w.desk s w.held) r.stores_are;
    }

pub evicts_in : (w : WorldData) (exec : ℕ) (stores : List StoreData)
    → job_runs (core_in w) ≡ true → EvictsAmong exec w.stores stores
    → EvictsOne w exec (world_data w.desk stores w.held)
evicts_in w exec stores runs r =
    record {
      runs = runs;
      store = r.store;
      own = r.own;
      is = ap (λ s. world_data w.desk s w.held) r.stores_are;
    }

pub takes_in : {W : _} (w : WorldData) (exec : ℕ) (taken : Taken W) (answer : Answer)
    (desk : DeskData) (held : List (Option AttemptData))
    → TakesLogged w.desk Driver exec taken answer desk → held ≡ held_with w.held exec taken
    → Takes w exec answer (world_data desk w.stores held)
takes_in {W = W} w exec taken answer desk held (taken_is, enters, results, shelf) is =
    record {
      desk = desk;
      enters = enters;
      results = results;
      shelf = shelf;
      is = ap (world_data desk w.stores) is ∙ by taken answer taken_is;
    }
  where
    by : (t : Taken W) (a : Answer) → IsTaken w.desk.job t a
        → world_data desk w.stores (held_with w.held exec t) ≡ given_to w exec desk a
    by (takes.Task t) (says.Task h) e =
        ap (λ (x : TaskData). world_data desk w.stores
        (change_at w.held exec (λ _. Some (assigned x 0)))) e
    by (takes.Wait out) (says.Wait attempt) e = refl
    by (takes.Busy out) (says.Busy attempt) e = refl
    by takes.Lost says.Lost e = refl
    by (takes.Stopped first) (says.Stopped x) e = refl
    by takes.Ended says.Ended e = refl
    by (takes.Aborted why) (says.Aborted cause) e = refl
    by t a bad = absurd bad

pub posts_in : (work : WorkData) (w : WorldData) (exec : ℕ) (task : TaskData) (finding : Finding)
    (desk : DeskData) (receipt : Receipt) (held : List (Option AttemptData))
    → at_or w.held exec None ≡ Some (reported task finding)
    → Receives work w.desk Driver (report_data task finding) receipt desk
    → held ≡ change_at w.held exec (λ _. None)
    → Posts work w exec receipt.answer (world_data desk w.stores held)
posts_in work w exec task finding desk receipt held has receives is =
    record {
      task = task;
      finding = finding;
      held = has;
      desk = desk;
      receipt = receipt;
      receives = receives;
      told = refl;
      is = ap (world_data desk w.stores) is;
    }
