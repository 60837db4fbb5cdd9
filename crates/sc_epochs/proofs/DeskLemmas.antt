-- What an event that a desk enters leaves of what epochs find.
use Rattle.std.proofs.Common.{◌≡◌, ℕ, zero, suc, ◌≤◌, Bool, true, false, All, List, [], ◌∷◌, Option, Some, None, IfSome, refl, ap, sym, subst, ◌∙◌, arith}
use Rattle.std.proofs.lemmas.List.Elements.{All-map, All-nil, All-weaker}
use Rattle.sc_base.specs.Lists.{at_or}
use Rattle.sc_ids.specs.Changes.{change_at}
use Rattle.sc_commit.specs.Committing.{is_same}
use Rattle.sc_tracker.specs.TrackerData.{TrackerData}
use Rattle.sc_dag.proofs.Tests.{clash}
use Rattle.sc_core.specs.CoreData.{CoreData, job_runs}
use Rattle.sc_core.specs.HandOuts.{HandOutData}
use Rattle.sc_core.specs.Sides.{IsAside}
use Rattle.sc_core.specs.Sound.{IsSoundCore, RunsWell}
use Rattle.sc_core.specs.Steps.{Steps}
use Rattle.sc_core.specs.Takes.{running_on}
use Rattle.sc_core.specs.declared.answers.Answer.{Answer}
use Rattle.sc_core.specs.declared.answers.Answer.TheVariants as says
use Rattle.sc_core.specs.declared.events.Event.{Event}
use Rattle.sc_core.specs.declared.events.Event.TheVariants.{Take}
use Rattle.sc_core.specs.declared.running.Running.{Running}
use Rattle.sc_core.proofs.SideLemmas.{steps_aside}
use Rattle.sc_net.specs.Reports.{ReportData}
use Rattle.sc_net.specs.declared.shelved.ShelvedReport.{ShelvedReport}
use Rattle.sc_task.specs.Attempts.{AttemptData, task_of}
use Rattle.sc_desk.specs.DeskData.{DeskData, core_of}
use Rattle.sc_history.specs.Trackers.{Tracks}
use Rattle.sc_history.proofs.Closing.{ended_stays}
use Rattle.sc_history.proofs.GivenLemmas.{steps_running}
use Rattle.sc_history.proofs.LaterLemmas.{steps_later}
use Rattle.sc_history.proofs.TrackerLemmas.{steps_track}
use Rattle.sc_store.specs.StoreData.{StoreData}
use Rattle.sc_world.specs.WorldData.{WorldData, core_in, held_at, with_desk, with_held, with_store}
use Rattle.sc_desk.specs.Shelves.{shelf_if, shelf_in}
use Rattle.sc_epochs.specs.Found.{FindsStale, HoldsFound, ShelvesFound, TellsFound}
use Rattle.sc_epochs.proofs.FoundLemmas.{holds_later, tells_later}

-- what follows from two facts of each item
pub both_all : {A : Type 0} (P Q R : A → Type 0) → ((a : A) → P a → Q a → R a) → (xs : List A)
    → All P xs → All Q xs → All R xs
both_all P Q R f xs p q = λ i d l. f _ (p i d l) (q i d l)

-- what holds of each place holds where one is filled with what it holds of too
held_each : {A : Type 0} (P : A → Type 0) (xs : List (Option A)) (i : ℕ) (o : Option A)
    → IfSome o P → ((j : ℕ) → IfSome (at_or xs j None) P)
    → (j : ℕ) → IfSome (at_or (change_at xs i (λ _. o)) j None) P
held_each P [] i o new all j = all j
held_each P (x ∷ xs) zero o new all zero = new
held_each P (x ∷ xs) zero o new all (suc j) = all (suc j)
held_each P (x ∷ xs) (suc i) o new all zero = all zero
held_each P (x ∷ xs) (suc i) o new all (suc j) = held_each P xs i o new (λ k. all (suc k)) j

-- what holds of all reports on a shelf holds of those that are left
pub shelf_all : (P : ShelvedReport ReportData → Type 0) (c : CoreData)
    (shelf : List (ShelvedReport ReportData)) → All P shelf → All P (shelf_in c shelf)
shelf_all P c shelf all = by (job_runs c)
  where
    by : (b : Bool) → All P (shelf_if b shelf)
    by true = all
    by false = All-nil P

-- the reports of a shelf, by the hand-out of a running attempt
abbrev pub AllFound : TrackerData → List (ShelvedReport ReportData) → Running → Type 0
AllFound t shelf r = All (ShelvesFound t r) shelf

-- a desk's shelf behind an event has reports of the shelf before
pub shelf_kept : (w : WorldData) (desk : DeskData) → FindsStale w
    → desk.shelf ≡ shelf_in (core_of desk) w.desk.shelf → job_runs (core_in w) ≡ true
    → All (AllFound (core_in w).dag.tracker desk.shelf) (core_in w).running
shelf_kept w desk found is runs =
    All-weaker (AllFound (core_in w).dag.tracker w.desk.shelf)
    (AllFound (core_in w).dag.tracker desk.shelf)
    (λ r all. subst (λ shelf. AllFound (core_in w).dag.tracker shelf r) (sym is)
    (shelf_all (ShelvesFound (core_in w).dag.tracker r) (core_of desk) w.desk.shelf all))
    (core_in w).running (found.shelved runs)

-- A world with another desk, behind an event of its core. No task that is handed out is one of
-- which a report is to be told later.
pub desk_found : (w : WorldData) (desk : DeskData) (event : Event) (answer : Answer)
    → IsSoundCore (core_in w) → FindsStale w → Steps (core_in w) event answer (core_of desk)
    → (job_runs (core_in w) ≡ true
    → All (AllFound (core_in w).dag.tracker desk.shelf) (core_in w).running)
    → ((exec : ℕ) (h : HandOutData) → event ≡ Take exec → answer ≡ says.Task h
    → All (λ s. is_same h.attempt s.report.task.hand_out.attempt ≡ false) desk.shelf)
    → FindsStale (with_desk w desk)
desk_found w desk event answer core found step shelf fresh =
    record {
      past = λ exec. past (held_at w exec) (found.past exec);
      held = λ exec. held (held_at w exec) (found.past exec) (found.held exec);
      shelved = shelved;
    }
  where
    c : CoreData
    c = core_in w

    t : TrackerData
    t = (core_of desk).dag.tracker

    tracks : Tracks (core_in w) (core_of desk).dag.tracker
    tracks = steps_track c (core_of desk) event answer core step

    later : (core_in w).dag.tracker.epoch ≤ (core_of desk).dag.tracker.epoch
    later = (steps_later c (core_of desk) event answer step).epoch

    past : (o : Option AttemptData)
        → IfSome o (λ a. (task_of a).hand_out.epoch ≤ (core_in w).dag.tracker.epoch)
        → IfSome o (λ a. (task_of a).hand_out.epoch ≤ (core_of desk).dag.tracker.epoch)
    past None le = tt
    past (Some a) le = omega (arith, le, later)

    held : (o : Option AttemptData)
        → IfSome o (λ a. (task_of a).hand_out.epoch ≤ (core_in w).dag.tracker.epoch)
        → IfSome o (HoldsFound (core_in w).dag.tracker)
        → IfSome o (HoldsFound (core_of desk).dag.tracker)
    held None le h = tt
    held (Some a) le h = holds_later c t a tracks le h

    runs : job_runs (core_of desk) ≡ true → job_runs (core_in w) ≡ true
    runs is = by (job_runs (core_in w)) refl
      where
        by : (b : Bool) → job_runs (core_in w) ≡ b → job_runs (core_in w) ≡ true
        by true e = e
        by false e =
            ap job_runs (sym (ended_stays c (core_of desk) event answer e step)) ∙ is

    P : Running → Type 0
    P = AllFound (core_of desk).dag.tracker desk.shelf

    same : (q r : Running) → r.hand_out ≡ q.hand_out → P q → P r
    same q r hand all =
        subst (λ (h : HandOutData). All (λ s. is_same h.attempt s.report.task.hand_out.attempt
        ≡ true → TellsFound t h.epoch s.report.finding) desk.shelf) (sym hand) all

    were : job_runs (core_in w) ≡ true → All P (core_in w).running
    were on =
        both_all (RunsWell c) (AllFound c.dag.tracker desk.shelf) P
        (λ r well all. All-weaker (ShelvesFound c.dag.tracker r) (ShelvesFound t r)
        (λ s h of. tells_later c t r.hand_out.epoch s.report.finding tracks
        well.handed_out.past (h of)) desk.shelf all)
        c.running core.job.running (shelf on)

    further : job_runs (core_in w) ≡ true → IsAside (core_in w) (core_of desk)
        → All P (core_of desk).running
    further on is =
        subst (λ rs. All P rs) (sym is.running)
        (All-map P is.further c.running
        (All-weaker P (λ r. P (is.further r))
        (λ r p. same r (is.further r) (is.each r).hand_out p) c.running (were on)))

    shelved : job_runs (core_of desk) ≡ true → All P (core_of desk).running
    shelved is =
        steps_running P (λ q r hand exec phase p. same q r hand p) c (core_of desk) event answer
        step (were (runs is))
        (λ exec h taken told. All-weaker
        (λ s. is_same h.attempt s.report.task.hand_out.attempt ≡ false)
        (ShelvesFound t (running_on h exec)) (λ s other of. absurd (clash of other)) desk.shelf
        (fresh exec h taken told))
        (λ side is_side aside. further (runs is) (steps_aside c (core_of desk) side answer aside))

-- ---- places

-- an executor has something else out, or nothing
pub place_found : (w : WorldData) (exec : ℕ) (o : Option AttemptData) → FindsStale w
    → IfSome o (λ a. (task_of a).hand_out.epoch ≤ (core_in w).dag.tracker.epoch)
    → IfSome o (HoldsFound (core_in w).dag.tracker) → FindsStale (with_held w exec o)
place_found w exec o found past held =
    record {
      past = held_each
          (λ a. (task_of a).hand_out.epoch ≤ (core_in w).dag.tracker.epoch) w.held exec o past
          found.past;
      held = held_each (HoldsFound (core_in w).dag.tracker) w.held exec o held found.held;
      shelved = found.shelved;
    }

-- a store has changed
pub store_found : (w : WorldData) (exec : ℕ) (store : StoreData) → FindsStale w
    → FindsStale (with_store w exec store)
store_found w exec store found =
    record { past = found.past; held = found.held; shelved = found.shelved }

-- another desk has the same core and the same shelf
pub like_found : (w : WorldData) (desk : DeskData) → FindsStale w → core_of desk ≡ core_in w
    → desk.shelf ≡ w.desk.shelf → FindsStale (with_desk w desk)
like_found w desk found core shelf =
    record {
      past = subst (λ (c : CoreData). (exec : ℕ) → IfSome (held_at w exec)
          (λ a. (task_of a).hand_out.epoch ≤ c.dag.tracker.epoch)) (sym core) found.past;
      held = subst (λ (c : CoreData). (exec : ℕ)
          → IfSome (held_at w exec) (HoldsFound c.dag.tracker)) (sym core) found.held;
      shelved = subst (λ (c : CoreData). job_runs c ≡ true
          → All (AllFound c.dag.tracker desk.shelf) c.running) (sym core)
          (subst (λ s. job_runs (core_in w) ≡ true
          → All (AllFound (core_in w).dag.tracker s) (core_in w).running) (sym shelf)
          found.shelved);
    }
