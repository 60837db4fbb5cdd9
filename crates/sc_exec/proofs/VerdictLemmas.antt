-- How a job went, by the logs of its executors and why each takes no more tasks.
use Rattle.std.proofs.Common.{◌≡◌, ◌∙◌, ◌⊎◌, inl, inr, ◌↔◌, ℕ, zero, suc, ◌<◌, ◌==◌, ◌||◌, All, Bool, true, false, IsTrue, List, [], ◌∷◌, Contains, length, refl, ap, sym, subst, arith, true≢false}
use Rattle.std.specs.List.{list_any, slice_index_or}
use Rattle.std.proofs.lemmas.Bool.Decides.{nat_tests}
use Rattle.std.proofs.lemmas.List.Elements.{All-cons, All-head, All-map, All-tail}
use Rattle.sc_lineage.specs.ScriptData.{WorkData}
use Rattle.sc_core.specs.CoreData.{CoreData, job_runs}
use Rattle.sc_core.specs.declared.entries.Entry.{Entry}
use Rattle.sc_dag.proofs.Tests.{clash}
use Rattle.sc_desk.specs.DeskData.{DeskData, core_of}
use Rattle.sc_desk.specs.Files.{HasReplay}
use Rattle.sc_desk.specs.Leaving.{IsOwnLeave, leaves}
use Rattle.sc_desk.specs.Sound.{IsSoundDesk}
use Rattle.sc_exec.specs.Lefts.{IsCause}
use Rattle.sc_exec.specs.Verdicts.{AreLogged, IsGivenUp, RunsOn, gives_up, is_no_memory, wants_memory}
use Rattle.sc_exec.specs.Workers.{AreInPlace, HasCause, lefts_of, logs_of}
use Rattle.sc_exec.specs.declared.lefts.Left.{Left}
use Rattle.sc_exec.specs.declared.lefts.Left.TheVariants as lefts
use Rattle.sc_exec.specs.declared.workers.Worker.{Worker}
use Rattle.sc_logs.specs.Endings.{HaveLogs, IsWorkedOut, LeavesItself, WorkedJobsHaveEnded}
use Rattle.sc_logs.specs.Logs.{IsLogIn, is_by, is_known}
use Rattle.sc_logs.specs.declared.logs.ExecLog.{ExecLog}

-- ---- logs

pub any_by : (e : Entry) (workers : List Worker)
    → list_any (λ (l : ExecLog). is_by l.exec e) (logs_of workers)
    ≡ list_any (λ (w : Worker). is_by w.log.exec e) workers
any_by e [] = refl
any_by e (w ∷ workers) = ap (λ b. is_by w.log.exec e || b) (any_by e workers)

-- what holds of each log holds of that of each executor
all_logs : (P : ExecLog → Type 0) (workers : List Worker) → All P (logs_of workers)
    → All (λ w. P w.log) workers
all_logs P [] all = λ k d lt. absurd (omega (arith, lt))
all_logs P (w ∷ workers) all =
    All-cons (λ x. P x.log) w workers (All-head P w.log (logs_of workers) all)
    (all_logs P workers (All-tail P w.log (logs_of workers) all))

-- Whether logs agree, by whether each is right and whether each entry is known.
module _ (entries : List Entry) (workers : List Worker) (logs known : Bool)
    (right : IsTrue logs ↔ All (λ w. IsLogIn entries w.log) workers) where
  pub agree_then : logs ≡ true
      → (IsTrue known ↔ All (λ e. is_known (logs_of workers) e ≡ true) entries)
      → IsTrue known ↔ AreLogged entries workers
  agree_then is all = (
    (λ h. (All-map (IsLogIn entries) (λ w. w.log) workers (right.0 is), all.0 h)),
    (λ h. all.1 h.1),
  )

  pub agree_else : logs ≡ false → IsTrue logs ↔ AreLogged entries workers
  agree_else is = (
    (λ h. absurd (true≢false (sym h ∙ is))),
    (λ h. right.1 (all_logs (IsLogIn entries) workers h.0)),
  )

-- the logs of executors at their places are those of all
have_logs : (work : WorkData) (d : DeskData) (workers : List Worker) → IsSoundDesk work d
    → AreInPlace work.limits.executors workers → HaveLogs (core_of d) (logs_of workers)
have_logs work d workers sound places exec there =
    of exec workers (λ w there. places.place exec w there)
    (subst (λ n. exec < n) (sound.execs ∙ sym places.many) there)
  where
    of : (i : ℕ) (ws : List Worker)
        → ((w : Worker) → i < length ws → (slice_index_or ws i w).log.exec ≡ exec)
        → i < length ws → (l : ExecLog) × Contains (logs_of ws) l × (l.exec ≡ exec)
    of i [] place lt = absurd (omega (arith, lt))
    of zero (w ∷ ws) place lt = (w.log, (0, omega arith, refl), place w (omega arith))
    of (suc i) (w ∷ ws) place lt =
        let rest = of i ws (λ x more. place x (omega (arith, more))) (omega (arith, lt)) in
        (rest.0, (suc rest.1.0, omega (arith, rest.1.1), rest.1.2), rest.2)

-- ---- why executors take no more tasks

-- one that wanted no memory and met nothing that can't be worked until there was no more for it
worked_out : (work : WorkData) (w : Worker) → HasCause work w → is_no_memory w.left ≡ false
    → gives_up w.left ≡ false → IsWorkedOut w.log
worked_out work w cause = by w.left cause
  where
    by : (left : Left) → IsCause work w.log left → is_no_memory left ≡ false
        → gives_up left ≡ false → IsWorkedOut w.log
    by lefts.JobEnded (told, works) memory stays =
        record { last = inl told; asks = works.asks; stays = works.stays }
    by (lefts.Stopped exec) (told, works) memory stays =
        record { last = inr (inl (exec, told)); asks = works.asks; stays = works.stays }
    by lefts.Lost (told, works) memory stays =
        record { last = inr (inr told); asks = works.asks; stays = works.stays }
    by (lefts.Busy held) why memory stays = absurd (true≢false stays)
    by (lefts.Stranger stranger) why memory stays = absurd (true≢false stays)
    by (lefts.Early early) why memory stays = absurd (true≢false stays)
    by (lefts.Drained strange) why memory stays = absurd (true≢false stays)
    by (lefts.Absent absence) why memory stays = absurd (true≢false stays)
    by lefts.NoMemory why memory stays = absurd (true≢false memory)

-- one of some executors met what can't be
abbrev GivesUp : List Worker → Type 0
GivesUp workers = (left : Left) × Contains (lefts_of workers) left × (gives_up left ≡ true)

with_one : (work : WorkData) (w : Worker) (workers : List Worker) → HasCause work w
    → (m g : Bool)
    → is_no_memory w.left ≡ m → gives_up w.left ≡ g → (m || wants_memory workers) ≡ false
    → (wants_memory workers ≡ false → All IsWorkedOut (logs_of workers) ⊎ GivesUp workers)
    → All IsWorkedOut (w.log ∷ logs_of workers) ⊎ GivesUp (w ∷ workers)
with_one work w workers cause true g is up none rest = absurd (true≢false none)
with_one work w workers cause false true is up none rest = inr (w.left, (0, omega arith, refl), up)
with_one work w workers cause false false is up none rest = by (rest none)
  where
    by : All IsWorkedOut (logs_of workers) ⊎ GivesUp workers
        → All IsWorkedOut (w.log ∷ logs_of workers) ⊎ GivesUp (w ∷ workers)
    by (inl all) =
        inl (All-cons IsWorkedOut w.log (logs_of workers) (worked_out work w cause is up) all)
    by (inr (left, (k, lt, at), gives)) =
        inr (left, (suc k, omega (arith, lt), at), gives)

-- either one did, or all worked until there was no more for them
all_or_one : (work : WorkData) (workers : List Worker) → All (HasCause work) workers
    → wants_memory workers ≡ false → All IsWorkedOut (logs_of workers) ⊎ GivesUp workers
all_or_one work [] causes memory = inl (λ k d lt. absurd (omega (arith, lt)))
all_or_one work (w ∷ workers) causes memory =
    with_one work w workers (All-head (HasCause work) w workers causes) (is_no_memory w.left)
    (gives_up w.left) refl refl memory
    (all_or_one work workers (All-tail (HasCause work) w workers causes))

-- ---- how a job went

leaves_itself : (entries : List Entry) → All IsOwnLeave entries → All LeavesItself entries
leaves_itself entries own = λ k d lt exec is. own k d lt exec (ap (leaves exec) is ∙ itself exec)
  where
    itself : (exec : ℕ) → (exec == exec) ≡ true
    itself exec = grind (arith, nat_tests)

-- a job that runs though its logs agree is one to be given up
pub runs_on : (work : WorkData) (d : DeskData) (workers : List Worker) → WorkedJobsHaveEnded
    → IsSoundDesk work d → HasReplay d → All IsOwnLeave d.journal.entries
    → All (HasCause work) workers → AreInPlace work.limits.executors workers
    → AreLogged d.journal.entries workers → wants_memory workers ≡ false
    → job_runs (core_of d) ≡ true
    → IsGivenUp d.journal.entries workers × RunsOn (core_of d) d.journal.entries workers
runs_on work d workers law sound replay own causes places logged memory runs =
    (by (all_or_one work workers causes memory), λ h. (memory, runs))
  where
    by : All IsWorkedOut (logs_of workers) ⊎ GivesUp workers
        → IsGivenUp d.journal.entries workers
    by (inl all) =
        absurd (clash runs
        (law d.journal.opening (core_of d) d.journal.entries (logs_of workers) sound.began
        sound.opened.left_first replay (leaves_itself d.journal.entries own) logged
        (have_logs work d workers sound places) all))
    by (inr one) = inr one

-- a job whose logs don't agree is one to be given up
pub unlogged : (c : CoreData) (entries : List Entry) (workers : List Worker)
    → (AreLogged entries workers → ⊥)
    → IsGivenUp entries workers × RunsOn c entries workers
unlogged c entries workers not_logged = (inl not_logged, λ h. absurd (not_logged h))
