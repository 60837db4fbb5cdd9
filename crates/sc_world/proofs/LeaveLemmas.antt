-- What holds of a world holds on, once its desk has entered an event.
use Rattle.std.proofs.Common.{◌≡◌, ℕ, ◌≤◌, All, Bool, true, false, cond, List, [], ◌∷◌, Option, Some, None, IfSome, length, nat_le, refl, ap, sym, subst, ◌∙◌, arith}
use Rattle.std.specs.List.{filter}
use Rattle.std.proofs.lemmas.Bool.Decides.{nat_tests}
use Rattle.std.proofs.lemmas.List.Elements.{All-nil}
use Rattle.sc_base.specs.Lists.{at_or}
use Rattle.sc_ids.specs.Changes.{change_at}
use Rattle.sc_ids.proofs.ChangeLemmas.{length_change_at}
use Rattle.sc_lineage.specs.ScriptData.{WorkData}
use Rattle.sc_plan.specs.Orders.{Due, due_count, wipes_of}
use Rattle.sc_core.specs.CoreData.{CoreData, job_runs}
use Rattle.sc_core.specs.Sound.{was_given}
use Rattle.sc_jobs.specs.JobData.{JobData, saves}
use Rattle.sc_net.specs.Reports.{ReportData}
use Rattle.sc_net.specs.declared.shelved.ShelvedReport.{ShelvedReport}
use Rattle.sc_task.specs.Attempts.{AttemptData, task_of}
use Rattle.sc_desk.specs.DeskData.{DeskData, core_of}
use Rattle.sc_desk.specs.Dues.{wipes_due}
use Rattle.sc_desk.specs.Shelves.{shelf_in}
use Rattle.sc_world.specs.Places.{IsAtRest}
use Rattle.sc_world.specs.Sound.{IsOut, IsRight, IsSoundWorld, Says}
use Rattle.sc_world.specs.Ties.{generation_at}
use Rattle.sc_world.specs.WorldData.{WorldData, core_in, held_at, with_desk, with_held, world_data}
use Rattle.sc_world.proofs.HeldLemmas.{held_each}
use Rattle.sc_world.proofs.OutLemmas.{AreOut, HasOut}
use Rattle.sc_world.proofs.BehindLemmas.{IsBehind, itself_behind}

-- ---- what is due

-- once more reports were told no less is due
due_more : (dues : List Due) (m n : ℕ) → m ≤ n → due_count dues m ≤ due_count dues n
due_more [] m n le = omega arith
due_more (d ∷ ds) m n le = by (nat_le d.0 m) (nat_le d.0 n) refl refl (due_more ds m n le)
  where
    by : (x y : Bool) → nat_le d.0 m ≡ x → nat_le d.0 n ≡ y
        → due_count ds m ≤ due_count ds n
        → length (cond x (d ∷ filter (λ due. nat_le due.0 m) ds)
        (filter (λ due. nat_le due.0 m) ds))
        ≤ length (cond y (d ∷ filter (λ due. nat_le due.0 n) ds)
        (filter (λ due. nat_le due.0 n) ds))
    by true true e f h = omega (arith, h)
    by true false e f h = absurd (grind (arith, nat_tests, le, e, f))
    by false true e f h = omega (arith, h)
    by false false e f h = h

-- ---- worlds

-- what an executor has out fits a world behind an event
pub record IsFit (work : WorkData) (w : WorldData) (desk : DeskData) (exec : ℕ) (a : AttemptData)
    : Type 0 where
  pub of_job : (task_of a).job ≡ w.desk.job
  pub given : was_given (core_of desk).dag (task_of a).hand_out.attempt ≡ true
  pub right : IsRight w.stores exec a
  pub rests : IsAtRest work (Some a)

-- what the desk of a world is after an event, as far as it keeps the world sound
pub record IsNext (w : WorldData) (desk : DeskData) : Type 0 where
  pub job : desk.job ≡ w.desk.job
  pub behind : IsBehind w (core_of desk)
  pub shelved : All (λ s. Says w.stores s.report.task s.report.finding) desk.shelf

some_weaker : {A : Type 0} (P Q : A → Type 0) → ((a : A) → P a → Q a) → (o : Option A)
    → IfSome o P → IfSome o Q
some_weaker P Q f None h = tt
some_weaker P Q f (Some a) h = f a h

world_sound : (work : WorkData) (w : WorldData) (desk : DeskData)
    (held : List (Option AttemptData)) → IsSoundWorld work w → IsNext w desk
    → length held ≡ length w.held
    → ((exec : ℕ) → IfSome (at_or held exec None) (IsFit work w desk exec))
    → (job_runs (core_of desk) ≡ true → AreOut work held (core_of desk).running)
    → IsSoundWorld work (world_data desk w.stores held)
world_sound work w desk held sound next places fit out =
    record {
      stores = sound.stores;
      places = places ∙ sound.places;
      own = sound.own;
      tied = next.behind.tied;
      due = λ exec. due exec;
      of_job = λ exec. some_weaker (IsFit work w desk exec) (λ a. (task_of a).job ≡ desk.job)
          (λ a f. f.of_job ∙ sym next.job) (at_or held exec None) (fit exec);
      given = λ exec. some_weaker (IsFit work w desk exec)
          (λ a. was_given (core_of desk).dag (task_of a).hand_out.attempt ≡ true)
          (λ a f. f.given) (at_or held exec None) (fit exec);
      right = λ exec. some_weaker (IsFit work w desk exec) (IsRight w.stores exec) (λ a f. f.right)
          (at_or held exec None) (fit exec);
      shelved = next.shelved;
      rests = λ exec. some_weaker (IsFit work w desk exec) (λ a. IsAtRest work (Some a))
          (λ a f. f.rests) (at_or held exec None) (fit exec);
      runs = λ job. (out job).runs;
      out = λ job r is_in is.
          let o : HasOut held r = (out job).out r is_in is in
          record { attempt = o.attempt; held = o.there; same = o.same };
      saving = next.behind.saves ∙ sound.saving
          ∙ ap (λ (j : JobData). saves work j.goal) (sym next.job);
      stays = next.behind.stays;
    }
  where
    due : (exec : ℕ) → generation_at w.stores exec ≤ wipes_due work (core_of desk).told exec
    due exec =
        let was : generation_at w.stores exec ≤ wipes_due work (core_in w).told exec =
        sound.due exec in
        let more : wipes_due work (core_in w).told exec
        ≤ wipes_due work (core_of desk).told exec =
        due_more (wipes_of work.plan exec) (core_in w).told (core_of desk).told
        next.behind.told in
        omega (arith, was, more)

-- what was out fits still
fit_still : (work : WorkData) (w : WorldData) (desk : DeskData) → IsSoundWorld work w
    → IsNext w desk → (exec : ℕ) → IfSome (held_at w exec) (IsFit work w desk exec)
fit_still work w desk sound next exec =
    by (held_at w exec) (sound.of_job exec) (sound.given exec) (sound.right exec)
    (sound.rests exec)
  where
    by : (o : Option AttemptData) → IfSome o (λ a. (task_of a).job ≡ w.desk.job)
        → IfSome o (λ a. was_given (core_in w).dag (task_of a).hand_out.attempt ≡ true)
        → IfSome o (IsRight w.stores exec) → IfSome o (λ a. IsAtRest work (Some a))
        → IfSome o (IsFit work w desk exec)
    by None h g r q = tt
    by (Some a) h g r q =
        record {
          of_job = h;
          given = next.behind.given (task_of a).hand_out.attempt g;
          right = r;
          rests = q;
        }

-- what was out while the job ran
pub was_out : (work : WorkData) (w : WorldData) → IsSoundWorld work w → job_runs (core_in w) ≡ true
    → AreOut work w.held (core_in w).running
was_out work w sound job =
    record {
      runs = sound.runs job;
      out = λ r is_in is.
          let o : IsOut w r = sound.out job r is_in is in
          record { attempt = o.attempt; there = o.held; same = o.same };
    }

-- an event after which executors have out what they had
pub kept_sound : (work : WorkData) (w : WorldData) (desk : DeskData) → IsSoundWorld work w
    → IsNext w desk → (job_runs (core_of desk) ≡ true → AreOut work w.held (core_of desk).running)
    → IsSoundWorld work (with_desk w desk)
kept_sound work w desk sound next out =
    world_sound work w desk w.held sound next refl (fit_still work w desk sound next) out

-- an event that leaves the core as it is
pub same_sound : (work : WorkData) (w : WorldData) (desk : DeskData) → IsSoundWorld work w
    → core_of desk ≡ core_in w → desk.job ≡ w.desk.job
    → All (λ s. Says w.stores s.report.task s.report.finding) desk.shelf
    → IsSoundWorld work (with_desk w desk)
same_sound work w desk sound is job shelved =
    kept_sound work w desk sound
    (record {
      job = job;
      behind = subst (λ c. IsBehind w c) (sym is) (itself_behind work w sound);
      shelved = shelved;
    })
    (subst (λ (c : CoreData). job_runs c ≡ true → AreOut work w.held c.running) (sym is)
    (λ r. was_out work w sound r))

-- an event after which one executor has out something else, or nothing
pub placed_sound : (work : WorkData) (w : WorldData) (desk : DeskData) (exec : ℕ)
    (new : Option AttemptData) → IsSoundWorld work w → IsNext w desk
    → IfSome new (IsFit work w desk exec)
    → (job_runs (core_of desk) ≡ true
    → AreOut work (change_at w.held exec (λ _. new)) (core_of desk).running)
    → IsSoundWorld work (with_held (with_desk w desk) exec new)
placed_sound work w desk exec new sound next fit out =
    world_sound work w desk (change_at w.held exec (λ _. new)) sound next
    (length_change_at w.held exec (λ _. new))
    (held_each (IsFit work w desk) w.held exec new fit (fit_still work w desk sound next)) out

-- what holds of a shelf holds of it once the job has ended
pub shelf_all : (P : ShelvedReport ReportData → Type 0) (c : CoreData)
    (shelf : List (ShelvedReport ReportData)) → All P shelf → All P (shelf_in c shelf)
shelf_all P c shelf all = by (job_runs c) refl
  where
    by : (x : Bool) → job_runs c ≡ x → All P (shelf_in c shelf)
    by true e = rw e all
    by false e = rw e (All-nil P)
