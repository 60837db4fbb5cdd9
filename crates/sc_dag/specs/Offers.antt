-- What stages have for an executor, and what handing it out leaves.
use Rattle.std.specs.Prelude.{ℕ, ◌+◌, ◌-◌, ◌≡◌, ◌<◌, Bool, false, Option, Some, None, length, slice_get}
use Rattle.sc_ids.specs.declared.attempts.AttemptId.{AttemptId}
use Rattle.sc_taskset.specs.Offers.{Offers, handed, may_be_given}
use Rattle.sc_taskset.specs.TaskSetData.{TaskSetData}
use Rattle.sc_taskset.specs.declared.tasks.GivenTask.{GivenTask}
use Rattle.sc_dag.specs.DagData.{DagData, StageState, changed_newest, newest_at, with_state}

-- what a task set that may be there has for an executor at a time
abbrev pub OffersIn : Option TaskSetData → ℕ → ℕ → Option GivenTask → Type 0
OffersIn None exec now None = Unit {0}
OffersIn None exec now (Some given) = ⊥
OffersIn (Some set) exec now given = Offers set exec now given

abbrev pub number_in : Option StageState → ℕ
number_in None = 0
number_in (Some state) = state.before + (length state.attempts - 1)

-- the number of the newest attempt of a stage
abbrev pub newest_number : DagData → ℕ → ℕ
newest_number d s = number_in (slice_get d.states s)

abbrev pub given_of : AttemptId → GivenTask
given_of a = record { partition = a.partition; nth = a.nth }

-- the next task for an executor at a time: of the first stage whose newest attempt has one for it
pub record IsOffer (d : DagData) (exec now : ℕ) (a : AttemptId) : Type 0 where
  pub offered : OffersIn (newest_at d a.stage) exec now (Some (given_of a))
  pub first : (s : ℕ) → s < a.stage → OffersIn (newest_at d s) exec now None
  pub newest : a.stage_attempt ≡ newest_number d a.stage

-- no stage has a task for an executor at a time
abbrev pub HasNone : DagData → ℕ → ℕ → Type 0
HasNone d exec now = (s : ℕ) → OffersIn (newest_at d s) exec now None

abbrev pub IsNextTask : DagData → ℕ → ℕ → Option AttemptId → Type 0
IsNextTask d exec now None = HasNone d exec now
IsNextTask d exec now (Some a) = IsOffer d exec now a

abbrev pub may_be_given_in : Option TaskSetData → ℕ → ℕ → ℕ → Bool
may_be_given_in None exec now partition = false
may_be_given_in (Some set) exec now partition = may_be_given set exec now partition

-- a task of the newest attempt of its stage handed out
abbrev pub handed_out : DagData → AttemptId → ℕ → ℕ → DagData
handed_out d a exec now =
    with_state d a.stage (changed_newest (λ set. handed set a.partition exec now))
