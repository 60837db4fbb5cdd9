-- What the steps of a world enter at its desk is a journal of its job.
use Rattle.std.proofs.Common.{◌≡◌, ℕ, Bool, true, false, List, [], ◌∷◌, ◌++◌, Option, refl, ap, sym, subst, ◌∙◌}
use Rattle.sc_lineage.specs.ScriptData.{WorkData}
use Rattle.sc_plan.specs.declared.orders.Order.{Order}
use Rattle.sc_ids.specs.declared.attempts.Mark.{Mark}
use Rattle.sc_core.specs.CoreData.{CoreData, job_runs}
use Rattle.sc_core.specs.Journals.{Replays, entry}
use Rattle.sc_core.specs.declared.answers.Answer.{Answer}
use Rattle.sc_core.specs.declared.answers.Answer.TheVariants as says
use Rattle.sc_core.specs.declared.entries.Entry.{Entry}
use Rattle.sc_core.specs.declared.events.Event.{Event}
use Rattle.sc_desk.specs.DeskData.{DeskData, core_of}
use Rattle.sc_desk.specs.Dues.{IsOrderedIf}
use Rattle.sc_desk.specs.Entries.{Enters}
use Rattle.sc_world.specs.Runs.{Runs, idle_world}
use Rattle.sc_world.specs.Steps.{Does, Goes, HandsOrder, Takes, given_to}
use Rattle.sc_world.specs.WorldData.{WorldData}
use Rattle.sc_world.specs.declared.steps.Applied.{Applied}
use Rattle.sc_world.specs.declared.steps.Applied.TheVariants as applied
use Rattle.sc_world.specs.declared.steps.Step.{Step}
use Rattle.sc_world.specs.declared.steps.Step.TheVariants as steps
use Rattle.sc_epochs.specs.Worlds.{ComesAbout}

-- by some entries a desk comes to another one of the same job
pub record EntersAll (d after : DeskData) : Type 0 where
  pub job : after.job ≡ d.job
  pub entries : List Entry
  pub replays : Replays (core_of d) entries (core_of after)

replays_then : (a b c : CoreData) (first more : List Entry) → Replays a first b
    → Replays b more c → Replays a (first ++ more) c
replays_then a b c [] more is rest = subst (λ (x : CoreData). Replays x more c) is rest
replays_then a b c (e ∷ first) more (mid, step, next) rest =
    (mid, step, replays_then mid b c first more next rest)

then_all : (a b c : DeskData) → EntersAll a b → EntersAll b c → EntersAll a c
then_all a b c one more =
    record {
      job = more.job ∙ one.job;
      entries = one.entries ++ more.entries;
      replays = replays_then (core_of a) (core_of b) (core_of c) one.entries more.entries
          one.replays more.replays;
    }

none_entered : (d after : DeskData) → after ≡ d → EntersAll d after
none_entered d after is =
    record {
      job = ap (λ (x : DeskData). x.job) is;
      entries = [];
      replays = ap (λ (x : DeskData). core_of x) is;
    }

one_entered : (d : DeskData) (by : Mark) (event : Event) (answer : Answer) (after end : DeskData)
    → Enters d by event answer after → end ≡ after → EntersAll d end
one_entered d by event answer after end enters is =
    subst (λ (x : DeskData). EntersAll d x) (sym is)
    (record {
      job = enters.job;
      entries = entry by event answer ∷ [];
      replays = (core_of after, enters.step, refl);
    })

-- ---- one step

-- the desk behind a task that is asked for
desk_given : (w : WorldData) (exec : ℕ) (desk : DeskData) (answer : Answer)
    → (given_to w exec desk answer).desk ≡ desk
desk_given w exec desk (says.Task t) = refl
desk_given w exec desk (says.Aborted why) = refl
desk_given w exec desk says.Ended = refl
desk_given w exec desk (says.Stopped first) = refl
desk_given w exec desk says.Lost = refl
desk_given w exec desk (says.Busy held) = refl
desk_given w exec desk (says.Wait out) = refl
desk_given w exec desk says.Ignored = refl
desk_given w exec desk says.Repeated = refl
desk_given w exec desk says.Registered = refl
desk_given w exec desk says.Bogus = refl
desk_given w exec desk says.Finished = refl
desk_given w exec desk says.Again = refl
desk_given w exec desk says.Resubmitted = refl
desk_given w exec desk says.Shelved = refl
desk_given w exec desk says.Told = refl
desk_given w exec desk (says.Side said) = refl

-- the desk of a world that is another one
desk_of : (after next : WorldData) → after ≡ next → after.desk ≡ next.desk
desk_of after next is = ap (λ (x : WorldData). x.desk) is

takes_enter : (w : WorldData) (exec : ℕ) (answer : Answer) (after : WorldData)
    → Takes w exec answer after → EntersAll w.desk after.desk
takes_enter w exec answer after t =
    one_entered w.desk _ _ answer t.desk after.desk t.enters
    (desk_of after _ t.is ∙ desk_given w exec t.desk answer)

orders_enter : (work : WorkData) (w : WorldData) (order : Option Order) (after : WorldData)
    → HandsOrder work w order after → EntersAll w.desk after.desk
orders_enter work w order after p =
    subst (λ (d : DeskData). EntersAll w.desk d) (sym (desk_of after _ p.is))
    (by (job_runs (core_of w.desk)) p.ordered)
  where
    by : (b : Bool) → IsOrderedIf b work w.desk order p.desk → EntersAll w.desk p.desk
    by false (none, is) = none_entered w.desk p.desk is
    by true (next, is) =
        subst (λ (d : DeskData). EntersAll w.desk d) (sym is)
        (record { job = refl; entries = []; replays = refl })

does_enter : (work : WorkData) (w after : WorldData) (step : Step) (answer : Applied)
    → Does work w step answer after → EntersAll w.desk after.desk
does_enter work w after (steps.Take exec) (applied.Told answer) (place, takes) =
    takes_enter w exec answer after takes
does_enter work w after (steps.Read exec) applied.Done p =
    none_entered w.desk after.desk (desk_of after _ p.is)
does_enter work w after (steps.Compute exec) (applied.Computed kept) p =
    none_entered w.desk after.desk (desk_of after _ p.is)
does_enter work w after (steps.Put exec) (applied.Put loc) p =
    none_entered w.desk after.desk (desk_of after _ p.is)
does_enter work w after (steps.Stage exec) (applied.Noted answer) p =
    one_entered w.desk _ _ _ p.goes.desk after.desk p.goes.notes.enters (desk_of after _ p.goes.is)
does_enter work w after (steps.Ask exec) (applied.Noted answer) p =
    one_entered w.desk _ _ _ p.goes.desk after.desk p.goes.notes.enters (desk_of after _ p.goes.is)
does_enter work w after (steps.Move exec) (applied.Noted answer) p =
    one_entered w.desk _ _ _ p.goes.desk after.desk p.goes.notes.enters (desk_of after _ p.goes.is)
does_enter work w after (steps.Post exec) (applied.Told answer) p =
    one_entered w.desk _ _ _ p.desk after.desk p.receives.enters (desk_of after _ p.is)
does_enter work w after (steps.Release key) (applied.Told answer) p =
    one_entered w.desk _ _ _ p.desk after.desk p.releases.enters (desk_of after _ p.is)
does_enter work w after (steps.TellLost exec) (applied.Told answer) p =
    one_entered w.desk _ _ _ p.desk after.desk p.tells.enters (desk_of after _ p.is)
does_enter work w after (steps.Tick now) (applied.Noted answer) p =
    one_entered w.desk _ _ _ p.desk after.desk p.notes.enters (desk_of after _ p.is)
does_enter work w after (steps.Wipe order) (applied.Wipe answer) p =
    none_entered w.desk after.desk (desk_of after _ p.is)
does_enter work w after (steps.Evict exec) applied.Done p =
    none_entered w.desk after.desk (desk_of after _ p.is)
does_enter work w after steps.NextOrder (applied.Ordered order) p =
    orders_enter work w order after p
does_enter work w after step answer bad = absurd bad

goes_enter : (work : WorkData) (w after : WorldData) (step : Step) (answer : Applied)
    → Goes work w step answer after → EntersAll w.desk after.desk
goes_enter work w after step applied.NotEnabled (refused, is) =
    none_entered w.desk after.desk (desk_of after w is)
goes_enter work w after step (applied.Told answer) goes =
    does_enter work w after step (applied.Told answer) goes
goes_enter work w after step (applied.Noted answer) goes =
    does_enter work w after step (applied.Noted answer) goes
goes_enter work w after step (applied.Computed kept) goes =
    does_enter work w after step (applied.Computed kept) goes
goes_enter work w after step (applied.Put loc) goes =
    does_enter work w after step (applied.Put loc) goes
goes_enter work w after step (applied.Wipe answer) goes =
    does_enter work w after step (applied.Wipe answer) goes
goes_enter work w after step (applied.Ordered order) goes =
    does_enter work w after step (applied.Ordered order) goes
goes_enter work w after step applied.Done goes =
    does_enter work w after step applied.Done goes

-- ---- some steps

runs_enter : (work : WorkData) (steps : List Step) (answers : List Applied) (w after : WorldData)
    → Runs work w steps answers after → EntersAll w.desk after.desk
runs_enter work [] [] w after is = none_entered w.desk after.desk (desk_of after w is)
runs_enter work [] (answer ∷ answers) w after bad = absurd bad
runs_enter work (step ∷ steps) [] w after bad = absurd bad
runs_enter work (step ∷ steps) (answer ∷ answers) w after (mid, goes, sound, more) =
    then_all w.desk mid.desk after.desk (goes_enter work w mid step answer goes)
    (runs_enter work steps answers mid after more)

-- from where the job begins
pub comes_entered : (work : WorkData) (w : WorldData) (comes : ComesAbout work w)
    → EntersAll comes.desk w.desk
comes_entered work w comes =
    runs_enter work comes.reaches.steps comes.reaches.answers
    (idle_world work comes.desk comes.stores) w comes.reaches.runs
