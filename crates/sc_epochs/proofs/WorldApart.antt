-- What each step of a world leaves of when attempts began.
use Rattle.std.proofs.Common.{◌≡◌, ℕ, ◌+◌, ◌≤◌, Bool, true, false, List, [], ◌∷◌, Option, length, refl, sym, subst, ◌∙◌, arith, rules}
use Rattle.std.proofs.lemmas.List.{length-map}
use Rattle.sc_lineage.specs.ScriptData.{WorkData}
use Rattle.sc_plan.specs.Orders.{planned_losses}
use Rattle.sc_plan.specs.declared.orders.Order.{Order}
use Rattle.sc_dag.specs.Sound.{attempts_of}
use Rattle.sc_core.specs.CoreData.{CoreData, job_runs}
use Rattle.sc_core.specs.Steps.{Steps}
use Rattle.sc_core.specs.declared.answers.Answer.{Answer}
use Rattle.sc_core.specs.declared.answers.Answer.TheVariants as says
use Rattle.sc_core.specs.declared.answers.SideAnswer.{SideAnswer}
use Rattle.sc_core.specs.declared.events.Event.{Event}
use Rattle.sc_core.specs.declared.events.Event.TheVariants.{Post, Release, Side, Take, TellLost}
use Rattle.sc_core.specs.declared.events.SideEvent.{SideEvent}
use Rattle.sc_core.specs.declared.events.SideEvent.TheVariants.{Tick}
use Rattle.sc_history.specs.Tellings.{tellings_in}
use Rattle.sc_net.specs.Reports.{outcome_of}
use Rattle.sc_task.specs.Attempts.{AttemptData}
use Rattle.sc_desk.specs.DeskData.{DeskData, core_of}
use Rattle.sc_desk.specs.Dues.{IsOrderedIf}
use Rattle.sc_world.specs.Laws.{StepsKeepSound, WorldsBegin}
use Rattle.sc_world.specs.Runs.{IsWorld, Runs, idle_world}
use Rattle.sc_world.specs.Steps.{Does, GoesAside, HandsOrder, LosesOne, Posts, ReleasesOne, Takes, TicksOne, given_to}
use Rattle.sc_world.specs.WorldData.{WorldData, core_in}
use Rattle.sc_world.specs.declared.steps.Applied.{Applied}
use Rattle.sc_world.specs.declared.steps.Applied.TheVariants as applied
use Rattle.sc_world.specs.declared.steps.Step.{Step}
use Rattle.sc_world.specs.declared.steps.Step.TheVariants as steps
use Rattle.sc_epochs.specs.Apart.{AreBornApart, sets_of}
use Rattle.sc_epochs.specs.ApartLaws.{AttemptsAreApart, AttemptsAreFew, AttemptsArePlanned, OutputsWereThere, StepsKeepApart}
use Rattle.sc_epochs.specs.Found.{FindsStale}
use Rattle.sc_epochs.specs.Worlds.{ComesAbout}
use Rattle.sc_epochs.proofs.BogusLemmas.{posts_ruled, releases_ruled}
use Rattle.sc_epochs.proofs.CountLemmas.{few_by_epoch, few_in_job}
use Rattle.sc_epochs.proofs.DeskLaws.{desks_forget_as_planned}
use Rattle.sc_epochs.proofs.EventLemmas.{opening_apart, steps_apart}
use Rattle.sc_epochs.proofs.HeardLemmas.{RulesByEpoch}
use Rattle.sc_epochs.proofs.ReachLemmas.{find_stale_by}
use Rattle.sc_epochs.proofs.WorldLemmas.{beginnings_find_stale, steps_find_stale}

-- ---- steps at the desk

-- an event that is no report rules out nothing
unreported : (c : CoreData) (event : Event) (answer : Answer)
    → tellings_in c event answer ≡ [] → RulesByEpoch c event answer
unreported c event answer none r loc runs ran told bogus =
    absurd (search (rules, sym none ∙ told))

-- what an event leaves
entered : (work : WorkData) (w : WorldData) (desk : DeskData) (event : Event) (answer : Answer)
    → IsWorld work w → RulesByEpoch (core_in w) event answer
    → Steps (core_in w) event answer (core_of desk) → AreBornApart (core_in w).dag
    → AreBornApart (core_of desk).dag
entered work w desk event answer h rules_by step apart =
    steps_apart (core_in w) (core_of desk) event answer h.core rules_by step apart

takes_apart : (work : WorkData) (w : WorldData) (exec : ℕ) (answer : Answer) (after : WorldData)
    → IsWorld work w → Takes w exec answer after → AreBornApart (core_in w).dag
    → AreBornApart (core_in after).dag
takes_apart work w exec answer after h takes apart =
    subst (λ (x : WorldData). AreBornApart (core_in x).dag) (sym takes.is) (by answer)
  where
    left : AreBornApart (core_of takes.desk).dag
    left =
        entered work w takes.desk (Take exec) answer h
        (unreported (core_in w) (Take exec) answer refl) takes.enters.step apart

    by : (answer : Answer) → AreBornApart (core_in (given_to w exec takes.desk answer)).dag
    by (says.Task t) = left
    by (says.Aborted why) = left
    by says.Ended = left
    by (says.Stopped first) = left
    by says.Lost = left
    by (says.Busy held) = left
    by (says.Wait out) = left
    by says.Ignored = left
    by says.Repeated = left
    by says.Registered = left
    by says.Bogus = left
    by says.Finished = left
    by says.Again = left
    by says.Resubmitted = left
    by says.Shelved = left
    by says.Told = left
    by (says.Side said) = left

posts_apart : (work : WorkData) (w : WorldData) (exec : ℕ) (answer : Answer) (after : WorldData)
    → IsWorld work w → FindsStale w → Posts work w exec answer after → AreBornApart (core_in w).dag
    → AreBornApart (core_in after).dag
posts_apart work w exec answer after h found p apart =
    subst (λ (x : WorldData). AreBornApart (core_in x).dag) (sym p.is)
    (entered work w p.desk (Post p.task.hand_out.attempt (outcome_of p.finding)) p.receipt.answer h
    (posts_ruled work w exec p.task p.finding p.receipt.answer h found p.held)
    p.receives.enters.step apart)

releases_apart : (work : WorkData) (w : WorldData) (key : ℕ) (answer : Answer) (after : WorldData)
    → IsWorld work w → FindsStale w → ReleasesOne w key answer after
    → AreBornApart (core_in w).dag → AreBornApart (core_in after).dag
releases_apart work w key answer after h found p apart =
    subst (λ (x : WorldData). AreBornApart (core_in x).dag) (sym p.is)
    (entered work w p.desk (Release key) p.receipt.answer h
    (releases_ruled work w key p.receipt.answer h found) p.releases.enters.step apart)

loses_apart : (work : WorkData) (w : WorldData) (exec : ℕ) (answer : Answer) (after : WorldData)
    → IsWorld work w → LosesOne w exec answer after → AreBornApart (core_in w).dag
    → AreBornApart (core_in after).dag
loses_apart work w exec answer after h p apart =
    subst (λ (x : WorldData). AreBornApart (core_in x).dag) (sym p.is)
    (entered work w p.desk (TellLost exec) p.receipt.answer h
    (unreported (core_in w) (TellLost exec) p.receipt.answer refl) p.tells.enters.step apart)

asides_apart : (work : WorkData) (w : WorldData) (exec : ℕ) (before : AttemptData)
    (event : SideEvent) (answer : SideAnswer) (after : WorldData) → IsWorld work w
    → GoesAside w exec before event answer after → AreBornApart (core_in w).dag
    → AreBornApart (core_in after).dag
asides_apart work w exec before event answer after h g apart =
    subst (λ (x : WorldData). AreBornApart (core_in x).dag) (sym g.is)
    (entered work w g.desk (Side event) (says.Side g.noted.answer) h
    (unreported (core_in w) (Side event) (says.Side g.noted.answer) refl) g.notes.enters.step
    apart)

ticks_apart : (work : WorkData) (w : WorldData) (now : ℕ) (answer : SideAnswer)
    (after : WorldData) → IsWorld work w → TicksOne w now answer after
    → AreBornApart (core_in w).dag → AreBornApart (core_in after).dag
ticks_apart work w now answer after h p apart =
    subst (λ (x : WorldData). AreBornApart (core_in x).dag) (sym p.is)
    (entered work w p.desk (Side (Tick now)) (says.Side p.noted.answer) h
    (unreported (core_in w) (Side (Tick now)) (says.Side p.noted.answer) refl) p.notes.enters.step
    apart)

orders_apart : (work : WorkData) (w : WorldData) (order : Option Order) (after : WorldData)
    → HandsOrder work w order after → AreBornApart (core_in w).dag
    → AreBornApart (core_in after).dag
orders_apart work w order after p apart =
    subst (λ (x : WorldData). AreBornApart (core_in x).dag) (sym p.is)
    (by (job_runs (core_in w)) p.ordered)
  where
    by : (b : Bool) → IsOrderedIf b work w.desk order p.desk → AreBornApart (core_of p.desk).dag
    by false (none, is) = subst (λ (x : DeskData). AreBornApart (core_of x).dag) (sym is) apart
    by true (next, is) = subst (λ (x : DeskData). AreBornApart (core_of x).dag) (sym is) apart

-- ---- any step

-- a step that leaves the desk
same_apart : (w after next : WorldData) → after ≡ next → core_in next ≡ core_in w
    → AreBornApart (core_in w).dag → AreBornApart (core_in after).dag
same_apart w after next is core apart =
    subst (λ (x : WorldData). AreBornApart (core_in x).dag) (sym is)
    (subst (λ (c : CoreData). AreBornApart c.dag) (sym core) apart)

does_apart : (work : WorkData) (w after : WorldData) (step : Step) (answer : Applied)
    → IsWorld work w → FindsStale w → Does work w step answer after
    → AreBornApart (core_in w).dag → AreBornApart (core_in after).dag
does_apart work w after (steps.Take exec) (applied.Told answer) h found (place, takes) apart =
    takes_apart work w exec answer after h takes apart
does_apart work w after (steps.Read exec) applied.Done h found p apart =
    same_apart w after _ p.is refl apart
does_apart work w after (steps.Compute exec) (applied.Computed kept) h found p apart =
    same_apart w after _ p.is refl apart
does_apart work w after (steps.Put exec) (applied.Put loc) h found p apart =
    same_apart w after _ p.is refl apart
does_apart work w after (steps.Stage exec) (applied.Noted answer) h found p apart =
    asides_apart work w exec _ _ answer after h p.goes apart
does_apart work w after (steps.Ask exec) (applied.Noted answer) h found p apart =
    asides_apart work w exec _ _ answer after h p.goes apart
does_apart work w after (steps.Move exec) (applied.Noted answer) h found p apart =
    asides_apart work w exec _ _ answer after h p.goes apart
does_apart work w after (steps.Post exec) (applied.Told answer) h found p apart =
    posts_apart work w exec answer after h found p apart
does_apart work w after (steps.Release key) (applied.Told answer) h found p apart =
    releases_apart work w key answer after h found p apart
does_apart work w after (steps.TellLost exec) (applied.Told answer) h found p apart =
    loses_apart work w exec answer after h p apart
does_apart work w after (steps.Tick now) (applied.Noted answer) h found p apart =
    ticks_apart work w now answer after h p apart
does_apart work w after (steps.Wipe order) (applied.Wipe answer) h found p apart =
    same_apart w after _ p.is refl apart
does_apart work w after (steps.Evict exec) applied.Done h found p apart =
    same_apart w after _ p.is refl apart
does_apart work w after steps.NextOrder (applied.Ordered order) h found p apart =
    orders_apart work w order after p apart
does_apart work w after step answer h found bad apart = absurd bad

pub steps_keep_apart : StepsKeepApart
steps_keep_apart work w after step applied.NotEnabled h found (refused, is) apart =
    subst (λ (x : WorldData). AreBornApart (core_in x).dag) (sym is) apart
steps_keep_apart work w after step (applied.Told answer) h found goes apart =
    does_apart work w after step (applied.Told answer) h found goes apart
steps_keep_apart work w after step (applied.Noted answer) h found goes apart =
    does_apart work w after step (applied.Noted answer) h found goes apart
steps_keep_apart work w after step (applied.Computed kept) h found goes apart =
    does_apart work w after step (applied.Computed kept) h found goes apart
steps_keep_apart work w after step (applied.Put loc) h found goes apart =
    does_apart work w after step (applied.Put loc) h found goes apart
steps_keep_apart work w after step (applied.Wipe answer) h found goes apart =
    does_apart work w after step (applied.Wipe answer) h found goes apart
steps_keep_apart work w after step (applied.Ordered order) h found goes apart =
    does_apart work w after step (applied.Ordered order) h found goes apart
steps_keep_apart work w after step applied.Done h found goes apart =
    does_apart work w after step applied.Done h found goes apart

-- ---- the worlds of a job

runs_apart : StepsKeepSound → (work : WorkData) (steps : List Step) (answers : List Applied)
    (w after : WorldData) → IsWorld work w → FindsStale w → Runs work w steps answers after
    → AreBornApart (core_in w).dag → AreBornApart (core_in after).dag
runs_apart keeps work [] [] w after h found is apart =
    subst (λ (x : WorldData). AreBornApart (core_in x).dag) (sym is) apart
runs_apart keeps work [] (answer ∷ answers) w after h found bad apart = absurd bad
runs_apart keeps work (step ∷ steps) [] w after h found bad apart = absurd bad
runs_apart keeps work (step ∷ steps) (answer ∷ answers) w after h found
    (mid, goes, sound, more) apart =
    runs_apart keeps work steps answers mid after (keeps work w mid step answer h goes sound)
    (steps_find_stale work w mid step answer h found goes) more
    (steps_keep_apart work w mid step answer h found goes apart)

module _ (begins : WorldsBegin) (keeps : StepsKeepSound) where
  worlds_apart : (work : WorkData) (w : WorldData) → ComesAbout work w
      → AreBornApart (core_in w).dag
  worlds_apart work w comes =
      let b = comes.begun in
      runs_apart keeps work comes.reaches.steps comes.reaches.answers
      (idle_world work comes.desk comes.stores) w
      (begins work b.last comes.desk comes.stores b.core b.sound b.opening b.shelf b.ready)
      (beginnings_find_stale work comes.desk comes.stores b.shelf) comes.reaches.runs
      (opening_apart _ _ _ _ b.last (core_of comes.desk) b.opening)

  pub outputs_were_there : OutputsWereThere
  outputs_were_there work w comes = (worlds_apart work w comes).own

  pub attempts_are_apart : AttemptsAreApart
  attempts_are_apart work w comes = (worlds_apart work w comes).order

  pub attempts_are_few : AttemptsAreFew
  attempts_are_few work w s comes is =
      let h = (find_stale_by begins keeps work w comes).0 in
      let few = few_in_job _ _ _ _ h.desk.last w.desk.journal.opening (core_in w)
      w.desk.journal.entries s h.desk.opened h.desk.began h.core
      (worlds_apart work w comes).order is in
      let many = length-map (attempts_of (core_in w).dag s) (λ a. a.set) in
      omega (arith, few, many)

  pub attempts_are_planned : AttemptsArePlanned
  attempts_are_planned work w s comes = omega (arith, few, many, most)
    where
      h : IsWorld work w
      h = (find_stale_by begins keeps work w comes).0

      c : CoreData
      c = core_in w

      few : length (attempts_of (core_in w).dag s) ≤ 1 + (core_in w).dag.tracker.epoch
      few = few_by_epoch c s h.core (worlds_apart work w comes).order

      many : length (sets_of (core_in w).dag s) ≡ length (attempts_of (core_in w).dag s)
      many = length-map (attempts_of c.dag s) (λ a. a.set)

      most : (core_in w).dag.tracker.epoch ≤ planned_losses work.plan
      most = desks_forget_as_planned work w.desk h.core h.desk
