-- Whatever the steps of a world enter is the driver's.
use Rattle.std.proofs.Common.{◌≡◌, ◌∙◌, true, List, [], ◌∷◌, ◌++◌, append-nil, append_assoc, Option, refl, ap, subst, sym}
use Rattle.std.proofs.lemmas.List.Elements.{All-append, All-cons, All-nil}
use Rattle.sc_ids.specs.declared.attempts.Mark.TheVariants.{Driver}
use Rattle.sc_lineage.specs.ScriptData.{WorkData}
use Rattle.sc_core.specs.Journals.{entry}
use Rattle.sc_core.specs.declared.answers.Answer.{Answer}
use Rattle.sc_core.specs.declared.entries.Entry.{Entry}
use Rattle.sc_core.specs.declared.events.Event.{Event}
use Rattle.sc_desk.specs.DeskData.{DeskData}
use Rattle.sc_desk.specs.Dues.{IsOrderedIf}
use Rattle.sc_desk.specs.Entries.{Enters}
use Rattle.sc_plan.specs.declared.orders.Order.{Order}
use Rattle.sc_world.specs.Laws.{DriverEnters, DriverEntersAll}
use Rattle.sc_world.specs.Runs.{Runs}
use Rattle.sc_world.specs.Steps.{Does, Goes, HandsOrder}
use Rattle.sc_world.specs.WorldData.{WorldData}
use Rattle.sc_world.specs.declared.steps.Applied.{Applied}
use Rattle.sc_world.specs.declared.steps.Applied.TheVariants as applied
use Rattle.sc_world.specs.declared.steps.Step.{Step}
use Rattle.sc_world.specs.declared.steps.Step.TheVariants as steps
use Rattle.sc_world.proofs.CodeRuns.{given_desk}

abbrev IsDrivers : Entry → Type 0
IsDrivers e = e.by ≡ Driver

-- nothing is entered
none : (d after : DeskData) → after.journal.entries ≡ d.journal.entries → DriverEnters d after
none d after is = ([], is ∙ sym (append-nil d.journal.entries), All-nil IsDrivers)

same : (w after : WorldData) → after.desk ≡ w.desk → DriverEnters w.desk after.desk
same w after is = none w.desk after.desk (ap (λ (d : DeskData). d.journal.entries) is)

-- one event is, where the desk is this one then
one : (w after : WorldData) (desk : DeskData) (event : Event) (answer : Answer)
    → Enters w.desk Driver event answer desk → after.desk ≡ desk
    → DriverEnters w.desk after.desk
one w after desk event answer enters is = (
  entry Driver event answer ∷ [],
  ap (λ (d : DeskData). d.journal.entries) is ∙ enters.entries,
  All-cons IsDrivers (entry Driver event answer) [] refl (All-nil IsDrivers),
)

-- some entries are, and then some more
both : (d mid after : DeskData) → DriverEnters d mid → DriverEnters mid after
    → DriverEnters d after
both d mid after (xs, first, all) (ys, then, rest) = (
  xs ++ ys,
  then ∙ ap (λ (es : List Entry). es ++ ys) first ∙ append_assoc d.journal.entries xs ys,
  All-append IsDrivers xs ys all rest,
)

-- ---- steps

desk_is : (after w : WorldData) → after ≡ w → after.desk ≡ w.desk
desk_is after w is = ap (λ (x : WorldData). x.desk) is

orders_enter : (work : WorkData) (w after : WorldData) (order : Option Order)
    → HandsOrder work w order after → DriverEnters w.desk after.desk
orders_enter work w after order r =
    by (subst (λ b. IsOrderedIf b work w.desk order r.desk) r.runs r.ordered)
  where
    by : IsOrderedIf true work w.desk order r.desk → DriverEnters w.desk after.desk
    by (next, is) =
        none w.desk after.desk
        (ap (λ (d : DeskData). d.journal.entries) (desk_is after _ r.is ∙ is))

does_enter : (work : WorkData) (w after : WorldData) (step : Step) (answer : Applied)
    → Does work w step answer after → DriverEnters w.desk after.desk
does_enter work w after (steps.Take exec) (applied.Told answer) (place, r) =
    one w after r.desk _ answer r.enters
    (desk_is after _ r.is ∙ given_desk w exec r.desk answer)
does_enter work w after (steps.Read exec) applied.Done r = same w after (desk_is after _ r.is)
does_enter work w after (steps.Compute exec) (applied.Computed kept) r =
    same w after (desk_is after _ r.is)
does_enter work w after (steps.Put exec) (applied.Put loc) r = same w after (desk_is after _ r.is)
does_enter work w after (steps.Stage exec) (applied.Noted answer) r =
    one w after r.goes.desk _ _ r.goes.notes.enters (desk_is after _ r.goes.is)
does_enter work w after (steps.Ask exec) (applied.Noted answer) r =
    one w after r.goes.desk _ _ r.goes.notes.enters (desk_is after _ r.goes.is)
does_enter work w after (steps.Move exec) (applied.Noted answer) r =
    one w after r.goes.desk _ _ r.goes.notes.enters (desk_is after _ r.goes.is)
does_enter work w after (steps.Post exec) (applied.Told answer) r =
    one w after r.desk _ _ r.receives.enters (desk_is after _ r.is)
does_enter work w after (steps.Release key) (applied.Told answer) r =
    one w after r.desk _ _ r.releases.enters (desk_is after _ r.is)
does_enter work w after (steps.TellLost exec) (applied.Told answer) r =
    one w after r.desk _ _ r.tells.enters (desk_is after _ r.is)
does_enter work w after (steps.Tick now) (applied.Noted answer) r =
    one w after r.desk _ _ r.notes.enters (desk_is after _ r.is)
does_enter work w after (steps.Wipe order) (applied.Wipe answer) r =
    same w after (desk_is after _ r.is)
does_enter work w after (steps.Evict exec) applied.Done r = same w after (desk_is after _ r.is)
does_enter work w after steps.NextOrder (applied.Ordered order) r =
    orders_enter work w after order r
does_enter work w after step answer bad = absurd bad

goes_enter : (work : WorkData) (w after : WorldData) (step : Step) (answer : Applied)
    → Goes work w step answer after → DriverEnters w.desk after.desk
goes_enter work w after step applied.NotEnabled (refused, is) = same w after (desk_is after w is)
goes_enter work w after step (applied.Told answer) r =
    does_enter work w after step (applied.Told answer) r
goes_enter work w after step (applied.Noted answer) r =
    does_enter work w after step (applied.Noted answer) r
goes_enter work w after step (applied.Computed kept) r =
    does_enter work w after step (applied.Computed kept) r
goes_enter work w after step (applied.Put loc) r =
    does_enter work w after step (applied.Put loc) r
goes_enter work w after step (applied.Wipe answer) r =
    does_enter work w after step (applied.Wipe answer) r
goes_enter work w after step (applied.Ordered order) r =
    does_enter work w after step (applied.Ordered order) r
goes_enter work w after step applied.Done r = does_enter work w after step applied.Done r

-- ---- some of them, one after the other

runs_enter : (work : WorkData) (w after : WorldData) (xs : List Step) (answers : List Applied)
    → Runs work w xs answers after → DriverEnters w.desk after.desk
runs_enter work w after [] [] is = same w after (desk_is after w is)
runs_enter work w after (x ∷ xs) (a ∷ answers) (mid, goes, sound, rest) =
    both w.desk mid.desk after.desk (goes_enter work w mid x a goes)
    (runs_enter work mid after xs answers rest)
runs_enter work w after [] (a ∷ answers) bad = absurd bad
runs_enter work w after (x ∷ xs) [] bad = absurd bad

pub driver_enters_all : DriverEntersAll
driver_enters_all work w after reaches =
    runs_enter work w after reaches.steps reaches.answers reaches.runs
