-- How many tasks all sets of a job have handed out, by how often each has handed out a partition.
use Rattle.std.proofs.Common.{◌≡◌, ℕ, suc, ◌+◌, ◌-◌, ◌<◌, All, Bool, true, false, if◌then◌else◌, List, [], ◌∷◌, length, nat_lt, Option, Some, None, slice_get, refl, ap, sym, ◌∙◌, arith}
use Rattle.std.specs.List.{sum_by}
use Rattle.std.proofs.lemmas.Bool.Decides.{nat_tests}
use Rattle.std.proofs.lemmas.List.Elements.{All-nil, All-weaker}
use Rattle.std.proofs.lemmas.List.Sums.{sum_by-cons}
use Rattle.sc_ids.specs.declared.limits.Limits.{Limits}
use Rattle.sc_taskset.specs.Lookups.{task_at}
use Rattle.sc_taskset.specs.Offers.{given_in}
use Rattle.sc_taskset.specs.Sound.{AreRising}
use Rattle.sc_taskset.specs.TaskSetData.{TaskData, TaskSetData}
use Rattle.sc_dag.specs.DagData.{DagData, StageState, place_of_attempt, set_in, stage_at}
use Rattle.sc_dag.specs.Sound.{IsSetOf, IsSoundDag}
use Rattle.sc_dag.specs.declared.attempts.StageAttempt.{StageAttempt}
use Rattle.sc_core.specs.CoreData.{CoreData}
use Rattle.sc_core.specs.Steps.{Steps}
use Rattle.sc_core.specs.declared.answers.Answer.{Answer}
use Rattle.sc_core.specs.declared.events.Event.{Event}
use Rattle.sc_history.proofs.Growing.{GrownDag, GrownIn, IsCalm}
use Rattle.sc_history.proofs.GrowingCalls.{steps_grow}
use Rattle.sc_bound.specs.Handed.{given_in_all, given_in_set, given_in_state}
use Rattle.sc_bound.specs.Numbered.{set_at, set_numbered}
use Rattle.sc_bound.proofs.AlikeLemmas.{Alike, given_at}
use Rattle.sc_bound.proofs.OlderLemmas.{set_sound}
use Rattle.sc_bound.proofs.PartLemmas.{parts}
use Rattle.sc_bound.proofs.PartSums.{sums_same}

-- ---- sums by places

-- what is counted at a place that may be none
abbrev count_in : {A : Type 0} → (A → ℕ) → Option A → ℕ
count_in g None = 0
count_in g (Some x) = g x

-- two lists have one sum where they have as much at each place
sums_at : {A : Type 0} (g : A → ℕ) (xs ys : List A)
    → ((i : ℕ) → count_in g (slice_get ys i) ≡ count_in g (slice_get xs i))
    → sum_by g ys ≡ sum_by g xs
sums_at g [] [] same = refl
sums_at g [] (y ∷ ys) same =
    let one = same 0 in
    let rest = sums_at g [] ys (λ i. same (suc i)) in
    let all = sum_by-cons g y ys in
    omega (arith, one, rest, all)
sums_at g (x ∷ xs) [] same =
    let one = same 0 in
    let rest = sums_at g xs [] (λ i. same (suc i)) in
    let all = sum_by-cons g x xs in
    omega (arith, one, rest, all)
sums_at g (x ∷ xs) (y ∷ ys) same =
    let one = same 0 in
    let rest = sums_at g xs ys (λ i. same (suc i)) in
    let a = sum_by-cons g x xs in
    let b = sum_by-cons g y ys in
    omega (arith, one, rest, a, b)

-- ---- the tasks of a set that may be there

abbrev tasks_in : Option TaskSetData → List TaskData
tasks_in None = []
tasks_in (Some set) = set.tasks

given_is : (o : Option TaskSetData) (p : ℕ) → given_at o p ≡ given_in (task_at p (tasks_in o))
given_is None p = refl
given_is (Some set) p = refl

total_in : Option TaskSetData → ℕ
total_in o = sum_by (λ t. t.given) (tasks_in o)

rising_in : (d : DagData) (s k : ℕ) → IsSoundDag d
    → AreRising (parts (tasks_in (set_at d s k)))
    × All (λ t. t.partition < (stage_at d s).tasks) (tasks_in (set_at d s k))
rising_in d s k sound = by (set_at d s k) refl
  where
    by : (o : Option TaskSetData) → set_at d s k ≡ o
        → AreRising (parts (tasks_in o))
        × All (λ t. t.partition < (stage_at d s).tasks) (tasks_in o)
    by None e = (
      λ i j x lt l. absurd (omega (arith, l)),
      All-nil (λ (t : TaskData). t.partition < (stage_at d s).tasks),
    )
    by (Some set) e =
        let of : IsSetOf (stage_at d s) set = set_sound d s k set sound e in
        (of.sound.rising, of.within)

-- sets that have handed out as much of each partition have handed out as much
totals_same : (d after : DagData) (s k : ℕ) → IsSoundDag d → IsSoundDag after
    → ((p : ℕ) → given_at (set_at after s k) p ≡ given_at (set_at d s k) p)
    → total_in (set_at after s k) ≡ total_in (set_at d s k)
unfolding total_in
totals_same d after s k sound next same =
    let a = rising_in d s k sound in
    let b = rising_in after s k next in
    sums_same (tasks_in (set_at d s k)) (tasks_in (set_at after s k))
    ((stage_at d s).tasks + (stage_at after s).tasks) a.0 b.0
    (All-weaker (λ (t : TaskData). t.partition < (stage_at d s).tasks)
    (λ (t : TaskData). t.partition < (stage_at d s).tasks + (stage_at after s).tasks)
    (λ t lt. omega (arith, lt)) (tasks_in (set_at d s k)) a.1)
    (All-weaker (λ (t : TaskData). t.partition < (stage_at after s).tasks)
    (λ (t : TaskData). t.partition < (stage_at d s).tasks + (stage_at after s).tasks)
    (λ t lt. omega (arith, lt)) (tasks_in (set_at after s k)) b.1)
    (λ p. sym (given_is (set_at after s k) p) ∙ same p ∙ given_is (set_at d s k) p)

-- and one that has handed nothing out of any has handed out nothing
total_none : (d : DagData) (s k : ℕ) → IsSoundDag d
    → ((p : ℕ) → given_at (set_at d s k) p ≡ 0) → total_in (set_at d s k) ≡ 0
unfolding total_in
total_none d s k sound none =
    let a = rising_in d s k sound in
    sums_same [] (tasks_in (set_at d s k)) (stage_at d s).tasks
    (λ i j x lt l. absurd (omega (arith, l))) a.0
    (All-nil (λ (t : TaskData). t.partition < (stage_at d s).tasks)) a.1
    (λ p. sym (given_is (set_at d s k) p) ∙ none p)

-- ---- the attempts of a stage by their places

-- the attempt at a place has the number of this place
place_at : (state : StageState) (i : ℕ) → place_of_attempt state (state.before + i) ≡ i
place_at state i = by (nat_lt (state.before + i) state.before) refl
  where
    by : (b : Bool) → nat_lt (state.before + i) state.before ≡ b
        → (if b then length state.attempts else state.before + i - state.before) ≡ i
    by true e = absurd (grind (arith, nat_tests, e))
    by false e = omega arith

placed_set : (d : DagData) (s i : ℕ) (state : StageState) → slice_get d.states s ≡ Some state
    → set_at d s (state.before + i) ≡ set_in (slice_get state.attempts i)
placed_set d s i state is =
    ap (λ o. set_numbered o (state.before + i)) is
    ∙ ap (λ (n : ℕ). set_in (slice_get state.attempts n)) (place_at state i)

total_is : (o : Option StageAttempt) → count_in (λ a. given_in_set a.set) o ≡ total_in (set_in o)
unfolding total_in
total_is None = refl
total_is (Some x) = refl

count_placed : (d : DagData) (s i : ℕ) (state : StageState) → slice_get d.states s ≡ Some state
    → count_in (λ a. given_in_set a.set) (slice_get state.attempts i)
    ≡ total_in (set_at d s (state.before + i))
count_placed d s i state is =
    total_is (slice_get state.attempts i) ∙ ap total_in (sym (placed_set d s i state is))

-- ---- all sets of a job

-- any two attempts, and any new one
pub Any : StageAttempt → StageAttempt → Type 0
Any x y = Unit {0}

pub Each : StageAttempt → Type 0
Each x = Unit {0}

any_calm : (limits : Limits) → IsCalm Any Each limits
unfolding Any Each
any_calm limits =
    record {
      same = λ x. tt;
      chain = λ x y z h k. tt;
      hands = λ x p exec now. tt;
      succeeds = λ x p nth now. tt;
      ends = λ x p nth. tt;
      holds = λ x p denied. tt;
      loses = λ x exec. tt;
      stops = λ x. tt;
      forgives = λ x. tt;
      begins = λ t stage results held. tt;
      stays = λ x y h k. tt;
    }

pub steps_number : (c after : CoreData) (event : Event) (answer : Answer)
    → Steps c event answer after → GrownDag Any Each c.dag.states after.dag.states
unfolding Any Each
steps_number c after event answer step =
    steps_grow Any Each c.dag.limits (any_calm c.dag.limits) (λ x. tt) (λ x p nth cause. tt) c after
    event answer refl step

pub all_same : (d after : DagData) → IsSoundDag d → IsSoundDag after → Alike d after
    → GrownDag Any Each d.states after.states → given_in_all after ≡ given_in_all d
all_same d after sound next alike grown =
    sums_at given_in_state d.states after.states
    (λ s. by s (slice_get d.states s) refl (slice_get after.states s) refl (grown s))
  where
    by : (s : ℕ) (o : Option StageState) → slice_get d.states s ≡ o
        → (x : Option StageState) → slice_get after.states s ≡ x → GrownIn Any Each o x
        → count_in given_in_state x ≡ count_in given_in_state o
    by s None e None f g = refl
    by s None e (Some y) f g = absurd g
    by s (Some x) e None f g = absurd g
    by s (Some x) e (Some y) f g =
        sums_at (λ (a : StageAttempt). given_in_set a.set) x.attempts y.attempts
        (λ i. count_placed after s i y f
        ∙ ap (λ (n : ℕ). total_in (set_at after s (n + i))) g.before
        ∙ totals_same d after s (x.before + i) sound next (alike s (x.before + i))
        ∙ sym (count_placed d s i x e))

-- where nothing was handed out of any set
pub all_none : (d : DagData) → IsSoundDag d → ((s k p : ℕ) → given_at (set_at d s k) p ≡ 0)
    → given_in_all d ≡ 0
all_none d sound none =
    sums_at given_in_state [] d.states (λ s. by s (slice_get d.states s) refl)
  where
    by : (s : ℕ) (o : Option StageState) → slice_get d.states s ≡ o
        → count_in given_in_state o ≡ 0
    by s None e = refl
    by s (Some x) e =
        sums_at (λ (a : StageAttempt). given_in_set a.set) [] x.attempts
        (λ i. count_placed d s i x e
        ∙ total_none d s (x.before + i) sound (none s (x.before + i)))
