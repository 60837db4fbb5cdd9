-- The laws of worlds.
use Rattle.std.proofs.Common.{ℕ, zero, suc, All, [], Contains, None, IfSome, replicate, ap, sym, subst, ◌∙◌}
use Rattle.std.proofs.lemmas.List.{length-replicate}
use Rattle.std.proofs.lemmas.List.Elements.{All-contains, All-nil}
use Rattle.sc_base.specs.Lists.{at_or}
use Rattle.sc_core.specs.Posts.{is_save}
use Rattle.sc_core.proofs.IsSaveLemmas.{opened_saving}
use Rattle.sc_jobs.specs.JobData.{saves}
use Rattle.sc_task.specs.Attempts.{AttemptData}
use Rattle.sc_desk.specs.DeskData.{core_of}
use Rattle.sc_world.specs.Laws.{FetchesFind, MissesAreKnown, ReportsAreKnown, WorldsBegin, WorldsLeaveReady}
use Rattle.sc_world.specs.Places.{NextStands}
use Rattle.sc_world.specs.Runs.{IsOfTask}
use Rattle.sc_world.specs.Sound.{Says}
use Rattle.sc_world.proofs.NextLemmas.{next_stands, report_in_time, report_known, store_there}

-- where nobody holds anything, all that is held is as it should be
none_held : (P : AttemptData → Type 0) (n e : ℕ) → IfSome (at_or (replicate n None) e None) P
none_held P zero zero = tt
none_held P zero (suc e) = tt
none_held P (suc n) zero = tt
none_held P (suc n) (suc e) = none_held P n e

pub worlds_begin : WorldsBegin
worlds_begin work last desk stores core desk_sound opening empty ready =
    record {
      core = core;
      desk = desk_sound;
      tasks = none_held IsOfTask work.limits.executors;
      sound = record {
        stores = ready.many;
        places = length-replicate work.limits.executors None;
        own = ready.own;
        tied = ready.tied;
        due = ready.due;
        of_job = λ e. none_held _ work.limits.executors e;
        given = λ e. none_held _ work.limits.executors e;
        right = λ e. none_held _ work.limits.executors e;
        shelved = subst (λ shelf. All (λ s. Says stores s.report.task s.report.finding) shelf)
            (sym empty) (All-nil (λ s. Says stores s.report.task s.report.finding));
        rests = λ e. none_held _ work.limits.executors e;
        runs = λ job e. none_held _ work.limits.executors e;
        out = λ job r is_in is. absurd (All-contains (λ x. ⊥) [] r (All-nil (λ x. ⊥))
            (subst (λ rs. Contains rs r) opening.running is_in));
        saving = ap is_save opening.committers
            ∙ opened_saving (saves work desk.job.goal) (core_of desk) core opening.job;
        stays = opening.left_first;
      };
    }

pub worlds_leave_ready : WorldsLeaveReady
worlds_leave_ready work w h =
    record {
      many = h.sound.stores;
      own = h.sound.own;
      tied = h.sound.tied;
      due = h.sound.due;
    }

pub fetches_find : FetchesFind
fetches_find work w exec t got block loc h held next =
    store_there w.stores block loc
    (subst (NextStands w.stores) next (next_stands work w exec t got h.sound held))

pub misses_are_known : MissesAreKnown
misses_are_known work w exec t got h held next =
    subst (NextStands w.stores) next (next_stands work w exec t got h.sound held)

pub reports_are_known : ReportsAreKnown
reports_are_known work w exec t finding h held true_of = (
  report_known work w exec t finding h.sound h.desk.stages
      (subst (λ o. IfSome o IsOfTask) held (h.tasks exec)) held true_of,
  report_in_time work w exec t finding h.sound held,
)
