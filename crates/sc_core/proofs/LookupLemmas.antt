-- Attempts by their numbers, and tests on them.
use Rattle.std.proofs.Common.{◌≡◌, ℕ, ◌+◌, ◌-◌, All, true, length, Option, Some, None, slice_get, refl, ap, subst, ◌∙◌, arith, rules}
use Rattle.std.proofs.lemmas.Bool.Decides.{nat_tests}
use Rattle.sc_commit.specs.Committing.{is_same}
use Rattle.sc_ids.specs.declared.attempts.AttemptId.{AttemptId}
use Rattle.sc_taskset.specs.TaskSetData.{TaskSetData}
use Rattle.sc_dag.specs.DagData.{DagData, StageState, attempt_in, newest_at, place_of_attempt, set_in}
use Rattle.sc_dag.specs.Offers.{newest_number, number_in}
use Rattle.sc_dag.specs.Reports.{set_of}
use Rattle.sc_dag.specs.Sound.{attempts_in}
use Rattle.sc_dag.specs.declared.attempts.StageAttempt.{StageAttempt}
use Rattle.sc_dag.proofs.Items.{all_at}
use Rattle.sc_dag.proofs.Moving.{newest_among}
use Rattle.sc_dag.proofs.Runners.{place_newest}

-- ---- attempts

abbrev pub attempt : ℕ → ℕ → ℕ → ℕ → AttemptId
attempt stage number partition nth =
    record { stage = stage; stage_attempt = number; partition = partition; nth = nth }

-- attempts of the same numbers are one
pub same_is : (a b : AttemptId) → is_same a b ≡ true → a ≡ b
same_is a b e =
    let s : a.stage ≡ b.stage = grind (arith, nat_tests, e) in
    let k : a.stage_attempt ≡ b.stage_attempt = grind (arith, nat_tests, e) in
    let p : a.partition ≡ b.partition = grind (arith, nat_tests, e) in
    let n : a.nth ≡ b.nth = grind (arith, nat_tests, e) in
    λ i. record { stage = s i; stage_attempt = k i; partition = p i; nth = n i }

pub is_itself : (a : AttemptId) → is_same a a ≡ true
is_itself a = grind (arith, nat_tests)

-- ---- the set of an attempt

-- the task set of a number among those of a stage that may be there
abbrev pub set_among : Option StageState → ℕ → Option TaskSetData
set_among None number = None
set_among (Some state) number = set_in (attempt_in state number)

-- that of the newest number is the newest one
newest_among_is : (o : Option StageState) → set_among o (number_in o) ≡ newest_among o
newest_among_is None = refl
newest_among_is (Some state) =
    ap (λ place. set_in (slice_get state.attempts place))
    (place_newest state (state.before + (length state.attempts - 1)) refl)

-- the set of an attempt of the newest number is the newest one
pub set_of_newest : (d : DagData) (a : AttemptId) → a.stage_attempt ≡ newest_number d a.stage
    → set_of d a ≡ newest_at d a.stage
set_of_newest d a e =
    ap (λ n. set_among (slice_get d.states a.stage) n) e
    ∙ newest_among_is (slice_get d.states a.stage)

-- what holds of all attempts of a stage holds of the set of a number
pub set_holds :
    (P : TaskSetData → Type 0) (o : Option StageState) (n : ℕ) (set : TaskSetData)
    → All (λ a. P a.set) (attempts_in o) → set_among o n ≡ Some set → P set
set_holds P None n set all is = absurd (search (rules, is))
set_holds P (Some state) n set all is = by (attempt_in state n) refl is
  where
    by : (a : Option StageAttempt) → attempt_in state n ≡ a → set_in a ≡ Some set → P set
    by None at e = absurd (search (rules, e))
    by (Some a) at e =
        let same : a.set ≡ set = search (rules, e) in
        subst P same (all_at (λ b. P b.set) state.attempts (place_of_attempt state n) a all at)
