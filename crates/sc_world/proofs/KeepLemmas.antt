-- Every step keeps what holds of every world.
use Rattle.std.proofs.Common.{◌≡◌, inl, inr, ℕ, ◌<◌, All, Bool, true, false, Option, Some, None, IfSome, length, ap, sym, subst, ◌∙◌, rules}
use Rattle.sc_ids.specs.declared.blocks.Loc.{Loc}
use Rattle.sc_lineage.specs.ScriptData.{WorkData}
use Rattle.sc_plan.specs.declared.orders.Order.{Order}
use Rattle.sc_core.specs.Sound.{IsSoundCore}
use Rattle.sc_core.specs.declared.answers.Answer.{Answer}
use Rattle.sc_core.specs.declared.answers.Answer.TheVariants as says
use Rattle.sc_core.specs.declared.answers.SideAnswer.{SideAnswer}
use Rattle.sc_core.specs.declared.events.Event.TheVariants.{Post, Release, Side, Take, TellLost}
use Rattle.sc_core.specs.declared.events.SideEvent.{SideEvent}
use Rattle.sc_core.specs.declared.events.SideEvent.TheVariants.{Tick}
use Rattle.sc_core.proofs.LawLemmas.{steps_keep_sound}
use Rattle.sc_net.specs.Reports.{outcome_of, report_data}
use Rattle.sc_net.specs.Tasks.{IsTaskOf, TaskData, task_data}
use Rattle.sc_net.specs.declared.findings.Finding.TheVariants as findings
use Rattle.sc_store.specs.declared.answers.WipeAnswer.{WipeAnswer}
use Rattle.sc_task.specs.Attempts.{AttemptData, assigned, computed, granted, reported, staged, task_of}
use Rattle.sc_desk.specs.DeskData.{DeskData, core_of}
use Rattle.sc_desk.specs.Posts.{attempt_of}
use Rattle.sc_desk.specs.Sound.{IsSoundDesk}
use Rattle.sc_desk.specs.Takes.{IsGivable}
use Rattle.sc_desk.proofs.TaskLemmas.{givable}
use Rattle.sc_world.specs.Laws.{StepsKeepSound}
use Rattle.sc_world.specs.Runs.{IsOfTask, IsWorld}
use Rattle.sc_world.specs.Sound.{IsSoundWorld, Says}
use Rattle.sc_world.specs.Steps.{AsksOne, Computes, Does, EvictsOne, GoesAside, HandsOrder, LosesOne, Moves, Posts, Puts, Reads, ReleasesOne, Stages, Takes, TicksOne, WipesOne, after_side, given_to}
use Rattle.sc_world.specs.WorldData.{WorldData, core_in, held_at, with_desk}
use Rattle.sc_world.specs.declared.steps.Applied.{Applied}
use Rattle.sc_world.specs.declared.steps.Applied.TheVariants as applied
use Rattle.sc_world.specs.declared.steps.Kept.{Kept}
use Rattle.sc_world.specs.declared.steps.Step.{Step}
use Rattle.sc_world.specs.declared.steps.Step.TheVariants as steps
use Rattle.sc_world.proofs.TickLemmas.{ticks_sound}
use Rattle.sc_world.proofs.AsideCases.{ComesOrOver}
use Rattle.sc_world.proofs.HeldLemmas.{held_each}
use Rattle.sc_world.proofs.LossLemmas.{loses_sound}
use Rattle.sc_world.proofs.PostLemmas.{posts_sound}
use Rattle.sc_world.proofs.ReleaseLemmas.{releases_sound}
use Rattle.sc_world.proofs.SideLemmas.{asks_leaves, asks_sound, moves_leaves, moves_sound, stages_leaves, stages_sound}
use Rattle.sc_world.proofs.StepLemmas.{GoesOn, computes_on, computes_sound, evicts_sound, on_sound, puts_sound, reads_on, wipes_sound}
use Rattle.sc_world.proofs.TakeLemmas.{takes_sound}
use Rattle.sc_core.specs.CoreData.{job_runs}
use Rattle.sc_desk.specs.Dues.{IsOrderedIf}
use Rattle.sc_world.proofs.LeaveLemmas.{same_sound}

-- ---- steps at the desk

takes_keep : (work : WorkData) (w : WorldData) (exec : ℕ) (answer : Answer) (after : WorldData)
    → IsWorld work w → exec < length w.held → Takes w exec answer after
    → IsSoundDesk work after.desk → IsWorld work after
takes_keep work w exec answer after h place takes desk_after =
    subst (IsWorld work) (sym takes.is)
    (by answer
    (givable w.desk.job (core_in w) (core_of takes.desk) exec answer h.desk.stages core
    takes.enters.step)
    (subst (λ x. IsSoundDesk work x.desk) takes.is desk_after)
    (subst (IsSoundWorld work) takes.is
    (takes_sound work w exec answer after h.sound h.core h.desk.stages place takes core)))
  where
    core : IsSoundCore (core_of takes.desk)
    core =
        steps_keep_sound (core_in w) (core_of takes.desk) (Take exec) answer h.core
        takes.enters.step

    plain : IsSoundDesk work takes.desk → IsSoundWorld work (with_desk w takes.desk)
        → IsWorld work (with_desk w takes.desk)
    plain d s = record { core = core; desk = d; tasks = h.tasks; sound = s }

    by : (answer : Answer) → IsGivable w.desk.job answer
        → IsSoundDesk work (given_to w exec takes.desk answer).desk
        → IsSoundWorld work (given_to w exec takes.desk answer)
        → IsWorld work (given_to w exec takes.desk answer)
    by (says.Task t) given d s =
        record {
          core = core;
          desk = d;
          tasks = held_each (λ e a. IsOfTask a) w.held exec
              (Some (assigned (task_data w.desk.job t) 0)) given h.tasks;
          sound = s;
        }
    by (says.Aborted why) given d s = plain d s
    by says.Ended given d s = plain d s
    by (says.Stopped first) given d s = plain d s
    by says.Lost given d s = plain d s
    by (says.Busy held) given d s = plain d s
    by (says.Wait out) given d s = plain d s
    by says.Ignored bad d s = absurd bad
    by says.Repeated bad d s = absurd bad
    by says.Registered bad d s = absurd bad
    by says.Bogus bad d s = absurd bad
    by says.Finished bad d s = absurd bad
    by says.Again bad d s = absurd bad
    by says.Resubmitted bad d s = absurd bad
    by says.Shelved bad d s = absurd bad
    by says.Told bad d s = absurd bad
    by (says.Side said) bad d s = absurd bad

posts_keep : (work : WorkData) (w : WorldData) (exec : ℕ) (answer : Answer) (after : WorldData)
    → IsWorld work w → Posts work w exec answer after → IsSoundDesk work after.desk
    → IsWorld work after
posts_keep work w exec answer after h p desk_after =
    subst (IsWorld work) (sym p.is) (record {
      core = steps_keep_sound (core_in w) (core_of p.desk)
          (Post (attempt_of (report_data p.task p.finding)) (outcome_of p.finding))
          p.receipt.answer h.core p.receives.enters.step;
      desk = subst (λ x. IsSoundDesk work x.desk) p.is desk_after;
      tasks = held_each (λ e b. IsOfTask b) w.held exec None tt h.tasks;
      sound = subst (IsSoundWorld work) p.is
          (posts_sound work w exec answer after h.sound h.core h.desk.stages p
          (subst (λ o. IfSome o IsOfTask) p.held (h.tasks exec)));
    })

releases_keep : (work : WorkData) (w : WorldData) (key : ℕ) (answer : Answer) (after : WorldData)
    → IsWorld work w → ReleasesOne w key answer after → IsSoundDesk work after.desk
    → IsWorld work after
releases_keep work w key answer after h p desk_after =
    subst (IsWorld work) (sym p.is) (record {
      core = steps_keep_sound (core_in w) (core_of p.desk) (Release key) p.receipt.answer h.core
          p.releases.enters.step;
      desk = subst (λ x. IsSoundDesk work x.desk) p.is desk_after;
      tasks = h.tasks;
      sound = subst (IsSoundWorld work) p.is
          (releases_sound work w key answer after h.sound h.core h.desk p);
    })

loses_keep : (work : WorkData) (w : WorldData) (exec : ℕ) (answer : Answer) (after : WorldData)
    → IsWorld work w → LosesOne w exec answer after → IsSoundDesk work after.desk
    → IsWorld work after
loses_keep work w exec answer after h p desk_after =
    subst (IsWorld work) (sym p.is) (record {
      core = steps_keep_sound (core_in w) (core_of p.desk) (TellLost exec) p.receipt.answer h.core
          p.tells.enters.step;
      desk = subst (λ x. IsSoundDesk work x.desk) p.is desk_after;
      tasks = h.tasks;
      sound = subst (IsSoundWorld work) p.is
          (loses_sound work w exec answer after h.sound h.core p);
    })

orders_keep : (work : WorkData) (w : WorldData) (order : Option Order) (after : WorldData)
    → IsWorld work w → HandsOrder work w order after → IsSoundDesk work after.desk
    → IsWorld work after
orders_keep work w order after h p desk_after =
    subst (IsWorld work) (sym p.is)
    (by (job_runs (core_in w)) p.ordered (subst (λ x. IsSoundDesk work x.desk) p.is desk_after))
  where
    like : (desk : DeskData) → core_of desk ≡ core_in w → desk.job ≡ w.desk.job
        → desk.shelf ≡ w.desk.shelf → IsSoundDesk work desk → IsWorld work (with_desk w desk)
    like desk core job shelf d =
        record {
          core = subst IsSoundCore (sym core) h.core;
          desk = d;
          tasks = h.tasks;
          sound = same_sound work w desk h.sound core job
              (subst (λ ss. All (λ s. Says w.stores s.report.task s.report.finding) ss)
              (sym shelf) h.sound.shelved);
        }

    by : (b : Bool) → IsOrderedIf b work w.desk order p.desk → IsSoundDesk work p.desk
        → IsWorld work (with_desk w p.desk)
    by false (none, is) d =
        like p.desk (ap core_of is) (ap (λ (x : DeskData). x.job) is)
        (ap (λ (x : DeskData). x.shelf) is) d
    by true (next, is) d =
        like p.desk (ap core_of is) (ap (λ (x : DeskData). x.job) is)
        (ap (λ (x : DeskData). x.shelf) is) d

-- ---- steps at executors

reads_keep : (work : WorkData) (w : WorldData) (exec : ℕ) (after : WorldData) → IsWorld work w
    → Reads w exec after → IsWorld work after
reads_keep work w exec after h r =
    subst (IsWorld work) (sym r.is) (record {
      core = h.core;
      desk = h.desk;
      tasks = held_each (λ e b. IsOfTask b) w.held exec r.held
          (rw on.is (rw on.on.same (subst (λ o. IfSome o IsOfTask) r.reads.held (h.tasks exec))))
          h.tasks;
      sound = on_sound work w exec r.reads.task r.reads.got r.held h.sound r.reads.held on;
    })
  where
    on : GoesOn work w.stores exec r.reads.task r.held
    on = reads_on work w.stores exec (held_at w exec) r.held r.reads

computes_keep : (work : WorkData) (w : WorldData) (exec : ℕ) (kept : Kept) (after : WorldData)
    → IsWorld work w → Computes work w exec kept after → IsWorld work after
computes_keep work w exec kept after h p =
    subst (IsWorld work) (sym p.is) (record {
      core = h.core;
      desk = h.desk;
      tasks = held_each (λ e b. IsOfTask b) w.held exec (Some p.next) next h.tasks;
      sound = subst (IsSoundWorld work) p.is (computes_sound work w exec kept after h.sound p);
    })
  where
    on : GoesOn work w.stores exec p.task (Some p.next)
    on = computes_on work w.stores exec p.task p.next p.makes

    is_next : Some p.next ≡ Some on.next → task_of p.next ≡ task_of on.next
    is_next e = search (rules, e)

    next : IsOfTask p.next
    next =
        subst (λ t. IsTaskOf t.job t.hand_out) (sym (is_next on.is ∙ on.on.same))
        (subst (λ o. IfSome o IsOfTask) p.held (h.tasks exec))

puts_keep : (work : WorkData) (w : WorldData) (exec : ℕ) (loc : Loc) (after : WorldData)
    → IsWorld work w → Puts work w exec loc after → IsWorld work after
puts_keep work w exec loc after h p =
    subst (IsWorld work) (sym p.is) (record {
      core = h.core;
      desk = h.desk;
      tasks = held_each (λ e b. IsOfTask b) w.held exec
          (Some (reported p.task (findings.Map loc)))
          (subst (λ o. IfSome o IsOfTask) p.held (h.tasks exec)) h.tasks;
      sound = subst (IsSoundWorld work) p.is (puts_sound work w exec loc after h.sound p);
    })

wipes_keep : (work : WorkData) (w : WorldData) (order : Order) (answer : WipeAnswer)
    (after : WorldData) → IsWorld work w → WipesOne work w order answer after → IsWorld work after
wipes_keep work w order answer after h p =
    subst (IsWorld work) (sym p.is) (record {
      core = h.core;
      desk = h.desk;
      tasks = h.tasks;
      sound = subst (IsSoundWorld work) p.is (wipes_sound work w order answer after h.sound p);
    })

evicts_keep : (work : WorkData) (w : WorldData) (exec : ℕ) (after : WorldData) → IsWorld work w
    → EvictsOne w exec after → IsWorld work after
evicts_keep work w exec after h p =
    subst (IsWorld work) (sym p.is) (record {
      core = h.core;
      desk = h.desk;
      tasks = h.tasks;
      sound = subst (IsSoundWorld work) p.is (evicts_sound work w exec after h.sound p);
    })

-- ---- an attempt of a save

aside_keep : (work : WorkData) (w : WorldData) (exec : ℕ) (before : AttemptData) (event : SideEvent)
    (answer : SideAnswer) (after : WorldData) → IsWorld work w
    → (g : GoesAside w exec before event answer after)
    → ComesOrOver work (core_in w) (core_of g.desk) before g.noted.answer
    → IsSoundWorld work after → IsSoundDesk work after.desk → IsWorld work after
aside_keep work w exec before event answer after h g leaves sound desk_after =
    subst (IsWorld work) (sym g.is) (record {
      core = steps_keep_sound (core_in w) (core_of g.desk) (Side event)
          (says.Side g.noted.answer) h.core g.notes.enters.step;
      desk = subst (λ x. IsSoundDesk work x.desk) g.is desk_after;
      tasks = held_each (λ e b. IsOfTask b) w.held exec (after_side before answer)
          (subst (λ s. IfSome (after_side before s) IsOfTask) (sym g.told) (of leaves)) h.tasks;
      sound = subst (IsSoundWorld work) g.is sound;
    })
  where
    was : IsOfTask before
    was = subst (λ o. IfSome o IsOfTask) g.held (h.tasks exec)

    of : ComesOrOver work (core_in w) (core_of g.desk) before g.noted.answer
        → IfSome (after_side before g.noted.answer) IsOfTask
    of (inl c) =
        subst (λ o. IfSome o IsOfTask) (sym c.is)
        (subst (λ (t : TaskData). IsTaskOf t.job t.hand_out) (sym c.same) was)
    of (inr o) = subst (λ q. IfSome q IsOfTask) (sym o.none) tt

stages_keep : (work : WorkData) (w : WorldData) (exec : ℕ) (answer : SideAnswer)
    (after : WorldData) → IsWorld work w → Stages w exec answer after
    → IsSoundDesk work after.desk → IsWorld work after
stages_keep work w exec answer after h p desk_after =
    aside_keep work w exec (computed p.task) _ answer after h p.goes
    (stages_leaves work w exec answer after h.sound p)
    (stages_sound work w exec answer after h.sound h.core h.desk.stages p
    (subst (λ o. IfSome o IsOfTask) p.goes.held (h.tasks exec)))
    desk_after

asks_keep : (work : WorkData) (w : WorldData) (exec : ℕ) (answer : SideAnswer)
    (after : WorldData) → IsWorld work w → AsksOne w exec answer after
    → IsSoundDesk work after.desk → IsWorld work after
asks_keep work w exec answer after h p desk_after =
    aside_keep work w exec (staged p.task) _ answer after h p.goes
    (asks_leaves work w exec answer after h.sound h.core p)
    (asks_sound work w exec answer after h.sound h.core p) desk_after

moves_keep : (work : WorkData) (w : WorldData) (exec : ℕ) (answer : SideAnswer)
    (after : WorldData) → IsWorld work w → Moves w exec answer after
    → IsSoundDesk work after.desk → IsWorld work after
moves_keep work w exec answer after h p desk_after =
    aside_keep work w exec (granted p.task) _ answer after h p.goes
    (moves_leaves work w exec answer after p)
    (moves_sound work w exec answer after h.sound h.core p) desk_after

-- ---- the time is entered

ticks_keep : (work : WorkData) (w : WorldData) (now : ℕ) (answer : SideAnswer)
    (after : WorldData) → IsWorld work w → TicksOne w now answer after
    → IsSoundDesk work after.desk → IsWorld work after
ticks_keep work w now answer after h p desk_after =
    subst (IsWorld work) (sym p.is) (record {
      core = steps_keep_sound (core_in w) (core_of p.desk) (Side (Tick now))
          (says.Side p.noted.answer) h.core p.notes.enters.step;
      desk = subst (λ (x : WorldData). IsSoundDesk work x.desk) p.is desk_after;
      tasks = h.tasks;
      sound = subst (IsSoundWorld work) p.is (ticks_sound work w now answer after h.sound p);
    })

-- ---- any step

does_keep : (work : WorkData) (w after : WorldData) (step : Step) (answer : Applied)
    → IsWorld work w → Does work w step answer after → IsSoundDesk work after.desk
    → IsWorld work after
does_keep work w after (steps.Take exec) (applied.Told answer) h (place, takes) d =
    takes_keep work w exec answer after h place takes d
does_keep work w after (steps.Read exec) applied.Done h p d = reads_keep work w exec after h p
does_keep work w after (steps.Compute exec) (applied.Computed kept) h p d =
    computes_keep work w exec kept after h p
does_keep work w after (steps.Put exec) (applied.Put loc) h p d =
    puts_keep work w exec loc after h p
does_keep work w after (steps.Stage exec) (applied.Noted answer) h p d =
    stages_keep work w exec answer after h p d
does_keep work w after (steps.Ask exec) (applied.Noted answer) h p d =
    asks_keep work w exec answer after h p d
does_keep work w after (steps.Move exec) (applied.Noted answer) h p d =
    moves_keep work w exec answer after h p d
does_keep work w after (steps.Post exec) (applied.Told answer) h p d =
    posts_keep work w exec answer after h p d
does_keep work w after (steps.Release key) (applied.Told answer) h p d =
    releases_keep work w key answer after h p d
does_keep work w after (steps.TellLost exec) (applied.Told answer) h p d =
    loses_keep work w exec answer after h p d
does_keep work w after (steps.Tick now) (applied.Noted answer) h p d =
    ticks_keep work w now answer after h p d
does_keep work w after (steps.Wipe order) (applied.Wipe answer) h p d =
    wipes_keep work w order answer after h p
does_keep work w after (steps.Evict exec) applied.Done h p d = evicts_keep work w exec after h p
does_keep work w after steps.NextOrder (applied.Ordered order) h p d =
    orders_keep work w order after h p d
does_keep work w after step answer h bad d = absurd bad

pub steps_keep_world : StepsKeepSound
steps_keep_world work w after step applied.NotEnabled h (refused, is) d =
    subst (IsWorld work) (sym is) h
steps_keep_world work w after step (applied.Told answer) h goes d =
    does_keep work w after step (applied.Told answer) h goes d
steps_keep_world work w after step (applied.Noted answer) h goes d =
    does_keep work w after step (applied.Noted answer) h goes d
steps_keep_world work w after step (applied.Computed kept) h goes d =
    does_keep work w after step (applied.Computed kept) h goes d
steps_keep_world work w after step (applied.Put loc) h goes d =
    does_keep work w after step (applied.Put loc) h goes d
steps_keep_world work w after step (applied.Wipe answer) h goes d =
    does_keep work w after step (applied.Wipe answer) h goes d
steps_keep_world work w after step (applied.Ordered order) h goes d =
    does_keep work w after step (applied.Ordered order) h goes d
steps_keep_world work w after step applied.Done h goes d =
    does_keep work w after step applied.Done h goes d
