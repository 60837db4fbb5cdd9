-- What holds of a world holds on, once an attempt of a save has written its part, asked whether it
-- may commit, or moved it.
use Rattle.std.proofs.Common.{◌≡◌, inl, inr, ℕ, ◌||◌, All, true, false, Option, Some, None, IfSome, refl, ap, sym, subst, ◌∙◌, rules}
use Rattle.sc_ids.specs.Changes.{change_at}
use Rattle.sc_ids.specs.declared.attempts.AttemptId.{AttemptId}
use Rattle.sc_ids.specs.declared.attempts.Mark.TheVariants.{Driver}
use Rattle.sc_dag.specs.Openings.{AreNumbered}
use Rattle.sc_core.specs.CoreData.{CoreData, is_running_job, job_runs, result_stage, running_of}
use Rattle.sc_core.specs.Posts.{is_save}
use Rattle.sc_core.specs.Sides.{IsAside, Sides, StepsAside}
use Rattle.sc_core.specs.Sound.{IsSoundCore, was_given}
use Rattle.sc_core.specs.declared.answers.Answer.TheVariants as says
use Rattle.sc_core.specs.declared.answers.SideAnswer.{SideAnswer}
use Rattle.sc_core.specs.declared.events.SideEvent.{SideEvent}
use Rattle.sc_core.specs.declared.running.Running.{Running}
use Rattle.sc_core.proofs.LawLemmas.{side_events_stay_aside}
use Rattle.sc_lineage.specs.ScriptData.{WorkData}
use Rattle.sc_jobs.specs.JobData.{JobData, saves}
use Rattle.sc_net.specs.Reports.{ReportData}
use Rattle.sc_net.specs.Tasks.{IsTaskOf, TaskData, is_map_task}
use Rattle.sc_net.specs.declared.shelved.ShelvedReport.{ShelvedReport}
use Rattle.sc_task.specs.Attempts.{AttemptData, computed, granted, staged, task_of}
use Rattle.sc_desk.specs.Asides.{Notes}
use Rattle.sc_desk.specs.DeskData.{DeskData, core_of}
use Rattle.sc_desk.specs.declared.receipts.Noted.{Noted}
use Rattle.sc_world.specs.Places.{IsAtRest}
use Rattle.sc_world.specs.Sound.{ComesAt, IsRight, IsSoundWorld, IsThatOf, RunsThere, Says}
use Rattle.sc_world.specs.Steps.{AsksOne, Moves, Stages, after_side}
use Rattle.sc_world.specs.WorldData.{WorldData, core_in, held_at, with_desk, with_held}
use Rattle.sc_world.proofs.AsideCases.{Comes, ComesOrOver, IsOver, asks_leave, moves_leave, stages_leave}
use Rattle.sc_world.proofs.BehindLemmas.{aside_behind}
use Rattle.sc_world.proofs.ComeLemmas.{come_out}
use Rattle.sc_world.proofs.FewerLemmas.{none_less}
use Rattle.sc_world.proofs.LeaveLemmas.{IsNext, placed_sound, shelf_all, was_out}
use Rattle.sc_world.proofs.OutLemmas.{AreOut, less_out}
use Rattle.sc_world.proofs.SaverLemmas.{result_of_task, saver_stage, saver_there}

-- what was answered, and left of the core
pub sides_of : (d after : DeskData) (event : SideEvent) (noted : Noted)
    → Notes d Driver event noted after → Sides (core_of d) event noted.answer (core_of after)
sides_of d after event noted n = by n.enters.step
  where
    by : StepsAside (core_of d) event (says.Side noted.answer) (core_of after)
        → Sides (core_of d) event noted.answer (core_of after)
    by (said, e, step) =
        let same : noted.answer ≡ said = search (rules, e) in
        subst (λ s. Sides (core_of d) event s (core_of after)) (sym same) step

-- an executor's attempt, which was so in a save, and was entered to do one of the three
module _ (work : WorkData) (w : WorldData) (exec : ℕ) (before : AttemptData) (event : SideEvent)
    (noted : Noted) (desk : DeskData) (sound : IsSoundWorld work w)
    (held : held_at w exec ≡ Some before) (notes : Notes w.desk Driver event noted desk)
    (saving : saves work (task_of before).job.goal ≡ true) where
  abbrev its : AttemptId
  its = (task_of before).hand_out.attempt

  of : (P : AttemptData → Type 0) → IfSome (held_at w exec) P → P before
  of P h = subst (λ o. IfSome o P) held h

  job_is : (task_of before).job ≡ w.desk.job
  job_is = of (λ b. (task_of b).job ≡ w.desk.job) (sound.of_job exec)

  aside : IsAside (core_in w) (core_of desk)
  aside =
      (side_events_stay_aside (core_in w) (core_of desk) event (says.Side noted.answer)
      notes.enters.step).0

  ran : job_runs (core_of desk) ≡ true → job_runs (core_in w) ≡ true
  ran r = ap is_running_job (sym aside.job) ∙ r

  abbrev Right : ShelvedReport ReportData → Type 0
  Right s = Says w.stores s.report.task s.report.finding

  next : (core_of desk).left_first ≡ (core_in w).left_first → IsNext w desk
  next stays =
      record {
        job = notes.enters.job;
        behind = aside_behind work w (core_of desk) sound aside stays;
        shelved = subst (λ shelf. All Right shelf) (sym notes.shelf)
            (shelf_all Right (core_of desk) w.desk.shelf sound.shelved);
      }

  -- it has come further
  come_sound : (h : Comes work (core_in w) (core_of desk) before noted.answer)
      → IsSoundWorld work (with_held (with_desk w desk) exec (Some h.next))
  come_sound h =
      placed_sound work w desk exec (Some h.next) sound (next h.stays)
      (record {
        of_job = ap (λ (t : TaskData). t.job) h.same ∙ job_is;
        given = subst (λ (t : TaskData). was_given (core_of desk).dag t.hand_out.attempt ≡ true)
            (sym h.same)
            ((next h.stays).behind.given its
            (of (λ b. was_given (core_in w).dag (task_of b).hand_out.attempt ≡ true)
            (sound.given exec)));
        right = record {
          inputs = rw h.same (of (IsRight w.stores exec) (sound.right exec)).inputs;
          brings = h.brings w.stores exec;
        };
        rests = h.rests;
      })
      (λ r. subst (λ rs. AreOut work (change_at w.held exec (λ _. Some h.next)) rs)
      (sym h.running)
      (come_out work w.held exec before h.next h.phase (core_in w).running held h.same h.comes
      (was_out work w sound (ran r))))

  -- it is over
  over_sound : IsOver (core_in w) (core_of desk) before noted.answer
      → (job_runs (core_in w) ≡ true → (r : Running) → running_of (core_in w) its ≡ Some r
      → ComesAt before r.phase → its.stage ≡ result_stage (core_in w).dag)
      → IsSoundWorld work (with_held (with_desk w desk) exec None)
  over_sound o stage =
      placed_sound work w desk exec None sound
      (next (ap (λ (x : CoreData). x.left_first) o.same)) tt
      (λ r. subst (λ (x : CoreData). AreOut work (change_at w.held exec (λ _. None)) x.running)
      (sym o.same)
      (less_out work w.held exec before (core_in w).running (core_in w).running held
      (none_less its (core_in w).running (gone (ran r))) (was_out work w sound (ran r))))
    where
      in_save : is_save (core_in w).committers ≡ true
      in_save = sound.saving ∙ ap (λ (j : JobData). saves work j.goal) (sym job_is) ∙ saving

      gone : job_runs (core_in w) ≡ true → running_of (core_in w) its ≡ None
      gone runs =
          by (running_of (core_in w) its) refl
          (of (RunsThere work (core_in w) exec) (sound.runs runs exec))
        where
          by : (q : Option Running) → running_of (core_in w) its ≡ q
              → IfSome q (IsThatOf work exec before) → q ≡ None
          by None e h = refl
          by (Some r) e h =
              let at = h.come saving in
              absurd (o.never r.phase at
              (saver_there (core_in w) its r runs in_save (stage runs r e at) e h.out))

  -- either way
  aside_sound : ComesOrOver work (core_in w) (core_of desk) before noted.answer
      → (job_runs (core_in w) ≡ true → (r : Running) → running_of (core_in w) its ≡ Some r
      → ComesAt before r.phase → its.stage ≡ result_stage (core_in w).dag)
      → IsSoundWorld work (with_held (with_desk w desk) exec (after_side before noted.answer))
  aside_sound (inl h) stage =
      subst (λ o. IsSoundWorld work (with_held (with_desk w desk) exec o)) (sym h.is)
      (come_sound h)
  aside_sound (inr o) stage =
      subst (λ o. IsSoundWorld work (with_held (with_desk w desk) exec o)) (sym o.none)
      (over_sound o stage)

-- ---- the three

-- an attempt that is to write its part is one of a save
part_saves : (work : WorkData) (t : TaskData) → IsAtRest work (Some (computed t))
    → is_map_task t ≡ false → saves work t.job.goal ≡ true
part_saves work t rests part =
    subst (λ b. (b || saves work t.job.goal) ≡ true) part rests

at_rest : (work : WorkData) (w : WorldData) (exec : ℕ) (a : AttemptData) → IsSoundWorld work w
    → held_at w exec ≡ Some a → IsAtRest work (Some a)
at_rest work w exec a sound held =
    subst (λ o. IfSome o (λ b. IsAtRest work (Some b))) held (sound.rests exec)

-- it writes its part
pub stages_leaves : (work : WorkData) (w : WorldData) (exec : ℕ) (answer : SideAnswer)
    (after : WorldData) → IsSoundWorld work w → (p : Stages w exec answer after)
    → ComesOrOver work (core_in w) (core_of p.goes.desk) (computed p.task) p.goes.noted.answer
stages_leaves work w exec answer after sound p =
    stages_leave work (core_in w) (core_of p.goes.desk) p.task p.wrote p.goes.noted.answer
    (part_saves work p.task (at_rest work w exec (computed p.task) sound p.goes.held) p.part)
    (sides_of w.desk p.goes.desk _ p.goes.noted p.goes.notes)

pub stages_sound : (work : WorkData) (w : WorldData) (exec : ℕ) (answer : SideAnswer)
    (after : WorldData) → IsSoundWorld work w → IsSoundCore (core_in w)
    → AreNumbered w.desk.job.graph (core_in w).dag.stages → (p : Stages w exec answer after)
    → IsTaskOf p.task.job p.task.hand_out → IsSoundWorld work after
stages_sound work w exec answer after sound core numbered p task =
    subst (IsSoundWorld work) (sym p.goes.is)
    (subst
    (λ s. IsSoundWorld work (with_held (with_desk w p.goes.desk) exec
    (after_side (computed p.task) s)))
    (sym p.goes.told)
    (aside_sound work w exec (computed p.task) _ p.goes.noted p.goes.desk sound p.goes.held
    p.goes.notes
    (part_saves work p.task (at_rest work w exec (computed p.task) sound p.goes.held) p.part)
    (stages_leaves work w exec answer after sound p)
    (λ runs r found at. result_of_task (core_in w) p.task core.job graph_is task p.part)))
  where
    job_is : p.task.job ≡ w.desk.job
    job_is =
        subst (λ o. IfSome o (λ b. (task_of b).job ≡ w.desk.job)) p.goes.held (sound.of_job exec)

    graph_is : AreNumbered p.task.job.graph (core_in w).dag.stages
    graph_is = subst (λ j. AreNumbered j.graph (core_in w).dag.stages) (sym job_is) numbered

-- it asks
pub asks_leaves : (work : WorkData) (w : WorldData) (exec : ℕ) (answer : SideAnswer)
    (after : WorldData) → IsSoundWorld work w → IsSoundCore (core_in w)
    → (p : AsksOne w exec answer after)
    → ComesOrOver work (core_in w) (core_of p.goes.desk) (staged p.task) p.goes.noted.answer
asks_leaves work w exec answer after sound core p =
    asks_leave work (core_in w) (core_of p.goes.desk) p.task p.goes.noted.answer core
    (at_rest work w exec (staged p.task) sound p.goes.held)
    (sides_of w.desk p.goes.desk _ p.goes.noted p.goes.notes)

pub asks_sound : (work : WorkData) (w : WorldData) (exec : ℕ) (answer : SideAnswer)
    (after : WorldData) → IsSoundWorld work w → IsSoundCore (core_in w)
    → AsksOne w exec answer after → IsSoundWorld work after
asks_sound work w exec answer after sound core p =
    subst (IsSoundWorld work) (sym p.goes.is)
    (subst
    (λ s. IsSoundWorld work (with_held (with_desk w p.goes.desk) exec
    (after_side (staged p.task) s)))
    (sym p.goes.told)
    (aside_sound work w exec (staged p.task) _ p.goes.noted p.goes.desk sound p.goes.held
    p.goes.notes (at_rest work w exec (staged p.task) sound p.goes.held)
    (asks_leaves work w exec answer after sound core p)
    (λ runs r found at. saver_stage (core_in w) p.task.hand_out.attempt r core runs found
    (λ given. search (rules, sym at ∙ given)))))

-- it moves its part
pub moves_leaves : (work : WorkData) (w : WorldData) (exec : ℕ) (answer : SideAnswer)
    (after : WorldData) → (p : Moves w exec answer after)
    → ComesOrOver work (core_in w) (core_of p.goes.desk) (granted p.task) p.goes.noted.answer
moves_leaves work w exec answer after p =
    moves_leave work (core_in w) (core_of p.goes.desk) p.task p.renamed p.goes.noted.answer
    (sides_of w.desk p.goes.desk _ p.goes.noted p.goes.notes)

pub moves_sound : (work : WorkData) (w : WorldData) (exec : ℕ) (answer : SideAnswer)
    (after : WorldData) → IsSoundWorld work w → IsSoundCore (core_in w)
    → Moves w exec answer after → IsSoundWorld work after
moves_sound work w exec answer after sound core p =
    subst (IsSoundWorld work) (sym p.goes.is)
    (subst
    (λ s. IsSoundWorld work (with_held (with_desk w p.goes.desk) exec
    (after_side (granted p.task) s)))
    (sym p.goes.told)
    (aside_sound work w exec (granted p.task) _ p.goes.noted p.goes.desk sound p.goes.held
    p.goes.notes (at_rest work w exec (granted p.task) sound p.goes.held)
    (moves_leaves work w exec answer after p)
    (λ runs r found at. saver_stage (core_in w) p.task.hand_out.attempt r core runs found
    (λ given. search (rules, sym at ∙ given)))))
