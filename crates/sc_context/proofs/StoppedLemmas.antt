-- Executors of a job that have stopped.
use Rattle.std.proofs.Common.{◌≡◌, ◌∙◌, ℕ, zero, suc, ◌<◌, All, List, [], ◌∷◌, length, sym, subst, arith}
use Rattle.std.specs.Prelude.{IfSome, slice_get}
use Rattle.std.specs.List.{AllZip, slice_index_or}
use Rattle.std.proofs.lemmas.List.{length-map}
use Rattle.std.proofs.lemmas.List.Elements.{All-head, All-tail}
use Rattle.sc_lineage.specs.ScriptData.{WorkData}
use Rattle.sc_logs.specs.declared.logs.ExecLog.{ExecLog}
use Rattle.sc_exec.specs.Lefts.{IsCause}
use Rattle.sc_exec.specs.Workers.{AreInPlace, HasCause, lefts_of, logs_of}
use Rattle.sc_exec.specs.declared.lefts.Left.{Left}
use Rattle.sc_exec.specs.declared.workers.Worker.{Worker}
use Rattle.sc_context.specs.Records.{HaveStopped}

-- what holds of each log at its place
each_at : (P : ℕ → ExecLog → Type 0) (workers : List Worker)
    → ((exec : ℕ) (d : Worker) → exec < length workers → P exec (slice_index_or workers exec d).log)
    → (exec : ℕ) → IfSome (slice_get (logs_of workers) exec) (P exec)
each_at P [] holds exec = tt
each_at P (w ∷ workers) holds zero = holds zero w (omega arith)
each_at P (w ∷ workers) holds (suc exec) =
    each_at (λ n. P (suc n)) workers (λ n d within. holds (suc n) d (omega (arith, within))) exec

each_cause : (work : WorkData) (workers : List Worker) → All (HasCause work) workers
    → AllZip (λ log left. IsCause work log left) (logs_of workers) (lefts_of workers)
each_cause work [] all = tt
each_cause work (w ∷ workers) all = (
  All-head (HasCause work) w workers all,
  each_cause work workers (All-tail (HasCause work) w workers all),
)

-- executors that have all worked have stopped
pub have_stopped : (work : WorkData) (workers : List Worker) (logs : List ExecLog)
    (lefts : List Left) → logs ≡ logs_of workers → lefts ≡ lefts_of workers
    → AreInPlace work.limits.executors workers → All (HasCause work) workers
    → HaveStopped work logs lefts
have_stopped work workers logs lefts are whys places causes =
    subst (λ (ls : List ExecLog). HaveStopped work ls lefts) (sym are)
    (subst (HaveStopped work (logs_of workers)) (sym whys)
    (record {
      many = length-map workers (λ w. w.log) ∙ places.many;
      places = each_at (λ exec log. log.exec ≡ exec) workers places.place;
      causes = each_cause work workers causes;
    }))
