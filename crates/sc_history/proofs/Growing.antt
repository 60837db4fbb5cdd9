-- What calls do to each attempt of each stage, for any relation that their changes keep.
use Rattle.std.proofs.Common.{◌≡◌, ◌⊎◌, inl, inr, ℕ, zero, suc, ◌-◌, Bool, true, false, if◌then◌else◌, List, [], ◌∷◌, ◌++◌, map, length, nat_lt, Option, Some, None, option_map, slice_get, refl, sym, subst, ◌∙◌, arith}
use Rattle.std.proofs.lemmas.Option.{slice_get_past}
use Rattle.std.proofs.lemmas.Bool.{cases_eq}
use Rattle.sc_ids.specs.Changes.{change_at}
use Rattle.sc_ids.specs.Graphs.{StageData}
use Rattle.sc_ids.specs.declared.limits.Limits.{Limits}
use Rattle.sc_ids.proofs.ChangeLemmas.{slice_get_change_other, slice_get_change_same}
use Rattle.sc_taskset.specs.Offers.{handed}
use Rattle.sc_taskset.specs.Reports.{after_end, after_held, after_loss, after_success, as_zombie}
use Rattle.sc_tracker.specs.TrackerData.{TrackerData}
use Rattle.sc_dag.specs.DagData.{DagData, StageState, attempt_in, stage_at, stage_attempt, with_attempts, with_set}
use Rattle.sc_dag.specs.Outputs.{has_inputs}
use Rattle.sc_dag.specs.Reports.{forgiven}
use Rattle.sc_dag.specs.Submission.{IsSubmitted, as_waiting, moved_if, new_set, started}
use Rattle.sc_dag.specs.declared.attempts.StageAttempt.{StageAttempt}
use Rattle.sc_dag.proofs.Items.{by_number_at}

-- A relation of an attempt to what becomes of it, which no call breaks but those that count a
-- failure; and what holds of a new attempt with these limits, for good.
pub record IsCalm (A : StageAttempt → StageAttempt → Type 0) (New : StageAttempt → Type 0)
    (L : Limits) : Type 0 where
  pub same : (x : StageAttempt) → A x x
  pub chain : (x y z : StageAttempt) → A x y → A y z → A x z
  pub hands : (x : StageAttempt) (p exec now : ℕ) → A x (with_set (λ s. handed s p exec now) x)
  pub succeeds : (x : StageAttempt) (p : ℕ) (nth : Option ℕ) (now : ℕ)
      → A x (with_set (λ s. after_success s p nth now) x)
  pub ends : (x : StageAttempt) (p nth : ℕ) → A x (with_set (λ s. after_end s p nth) x)
  pub holds : (x : StageAttempt) (p : ℕ) (denied : Bool)
      → A x (with_set (λ s. after_held s p denied) x)
  pub loses : (x : StageAttempt) (exec : ℕ) → A x (with_set (λ s. after_loss s exec) x)
  pub stops : (x : StageAttempt) → A x (with_set as_zombie x)
  pub forgives : (x : StageAttempt) → A x (forgiven x)
  pub begins : (t : TrackerData) (stage : StageData) (results held : List Bool)
      → New (stage_attempt (new_set t L stage results held) false)
  pub stays : (x y : StageAttempt) → A x y → New x → New y

-- ---- attempts

-- each attempt is still there, and each further one is new
pub Grown : (StageAttempt → StageAttempt → Type 0) → (StageAttempt → Type 0) → List StageAttempt
    → List StageAttempt → Type 0
Grown A New [] [] = Unit {0}
Grown A New [] (y ∷ ys) = New y × Grown A New [] ys
Grown A New (x ∷ xs) [] = ⊥
Grown A New (x ∷ xs) (y ∷ ys) = A x y × Grown A New xs ys

pub grown_same : (A : StageAttempt → StageAttempt → Type 0) (New : StageAttempt → Type 0)
    (L : Limits) → IsCalm A New L → (xs : List StageAttempt) → Grown A New xs xs
unfolding Grown
grown_same A New L calm [] = tt
grown_same A New L calm (x ∷ xs) = (calm.same x, grown_same A New L calm xs)

grown_then : (A : StageAttempt → StageAttempt → Type 0) (New : StageAttempt → Type 0)
    (L : Limits) → IsCalm A New L → (xs ys zs : List StageAttempt)
    → Grown A New xs ys → Grown A New ys zs
    → Grown A New xs zs
unfolding Grown
grown_then A New L calm [] [] zs h k = k
grown_then A New L calm [] (y ∷ ys) [] h k = absurd k
grown_then A New L calm [] (y ∷ ys) (z ∷ zs) h k =
    (calm.stays y z k.0 h.0, grown_then A New L calm [] ys zs h.1 k.1)
grown_then A New L calm (x ∷ xs) [] zs h k = absurd h
grown_then A New L calm (x ∷ xs) (y ∷ ys) [] h k = absurd k
grown_then A New L calm (x ∷ xs) (y ∷ ys) (z ∷ zs) h k =
    (calm.chain x y z h.0 k.0, grown_then A New L calm xs ys zs h.1 k.1)

grown_change : (A : StageAttempt → StageAttempt → Type 0) (New : StageAttempt → Type 0)
    (L : Limits) → IsCalm A New L → (xs : List StageAttempt) (i : ℕ)
    (f : StageAttempt → StageAttempt)
    → ((x : StageAttempt) → A x (f x)) → Grown A New xs (change_at xs i f)
unfolding Grown
grown_change A New L calm [] i f h = tt
grown_change A New L calm (x ∷ xs) zero f h = (h x, grown_same A New L calm xs)
grown_change A New L calm (x ∷ xs) (suc i) f h = (calm.same x, grown_change A New L calm xs i f h)

pub grown_map : (A : StageAttempt → StageAttempt → Type 0) (New : StageAttempt → Type 0)
    (xs : List StageAttempt) (f : StageAttempt → StageAttempt)
    → ((x : StageAttempt) → A x (f x)) → Grown A New xs (map f xs)
unfolding Grown
grown_map A New [] f h = tt
grown_map A New (x ∷ xs) f h = (h x, grown_map A New xs f h)

grown_more : (A : StageAttempt → StageAttempt → Type 0) (New : StageAttempt → Type 0)
    (xs ys : List StageAttempt) (y : StageAttempt) → Grown A New xs ys → New y
    → Grown A New xs (ys ++ y ∷ [])
unfolding Grown
grown_more A New [] [] y h new = (new, tt)
grown_more A New [] (z ∷ zs) y h new = (h.0, grown_more A New [] zs y h.1 new)
grown_more A New (x ∷ xs) [] y h new = absurd h
grown_more A New (x ∷ xs) (z ∷ zs) y h new = (h.0, grown_more A New xs zs y h.1 new)

-- what an attempt was, and what it is: it may be new
abbrev pub Slot : (StageAttempt → StageAttempt → Type 0) → (StageAttempt → Type 0)
    → Option StageAttempt → Option StageAttempt → Type 0
Slot A New None None = Unit {0}
Slot A New None (Some y) = New y
Slot A New (Some x) None = ⊥
Slot A New (Some x) (Some y) = A x y

grown_at : (A : StageAttempt → StageAttempt → Type 0) (New : StageAttempt → Type 0)
    (xs ys : List StageAttempt) (i : ℕ) → Grown A New xs ys
    → Slot A New (slice_get xs i) (slice_get ys i)
unfolding Grown
grown_at A New [] [] i h = tt
grown_at A New [] (y ∷ ys) zero h = h.0
grown_at A New [] (y ∷ ys) (suc i) h = grown_at A New [] ys i h.1
grown_at A New (x ∷ xs) [] i h = absurd h
grown_at A New (x ∷ xs) (y ∷ ys) zero h = h.0
grown_at A New (x ∷ xs) (y ∷ ys) (suc i) h = grown_at A New xs ys i h.1

-- ---- stages

pub record GrownState (A : StageAttempt → StageAttempt → Type 0) (New : StageAttempt → Type 0)
    (state after : StageState) : Type 0 where
  pub before : after.before ≡ state.before
  pub attempts : Grown A New state.attempts after.attempts

abbrev pub GrownIn : (StageAttempt → StageAttempt → Type 0) → (StageAttempt → Type 0)
    → Option StageState → Option StageState → Type 0
GrownIn A New None None = Unit {0}
GrownIn A New None (Some after) = ⊥
GrownIn A New (Some state) None = ⊥
GrownIn A New (Some state) (Some after) = GrownState A New state after

-- the attempts of all stages
abbrev pub GrownDag : (StageAttempt → StageAttempt → Type 0) → (StageAttempt → Type 0)
    → List StageState → List StageState → Type 0
GrownDag A New states after = (s : ℕ) → GrownIn A New (slice_get states s) (slice_get after s)

state_same : (A : StageAttempt → StageAttempt → Type 0) (New : StageAttempt → Type 0)
    (L : Limits) → IsCalm A New L → (o : Option StageState) → GrownIn A New o o
state_same A New L calm None = tt
state_same A New L calm (Some state) =
    record { before = refl; attempts = grown_same A New L calm state.attempts }

state_then : (A : StageAttempt → StageAttempt → Type 0) (New : StageAttempt → Type 0)
    (L : Limits) → IsCalm A New L → (o x y : Option StageState)
    → GrownIn A New o x → GrownIn A New x y
    → GrownIn A New o y
state_then A New L calm None None y h k = k
state_then A New L calm None (Some b) y h k = absurd h
state_then A New L calm (Some a) None y h k = absurd h
state_then A New L calm (Some a) (Some b) None h k = absurd k
state_then A New L calm (Some a) (Some b) (Some c) h k =
    record {
      before = k.before ∙ h.before;
      attempts = grown_then A New L calm a.attempts b.attempts c.attempts h.attempts k.attempts;
    }

pub dag_same : (A : StageAttempt → StageAttempt → Type 0) (New : StageAttempt → Type 0)
    (L : Limits) → IsCalm A New L → (states : List StageState) → GrownDag A New states states
dag_same A New L calm states s = state_same A New L calm (slice_get states s)

pub dag_is : (A : StageAttempt → StageAttempt → Type 0) (New : StageAttempt → Type 0)
    (L : Limits) → IsCalm A New L → (d after : DagData) → after ≡ d
    → GrownDag A New d.states after.states
dag_is A New L calm d after is =
    subst (λ (x : DagData). GrownDag A New d.states x.states) (sym is)
    (dag_same A New L calm d.states)

pub dag_then : (A : StageAttempt → StageAttempt → Type 0) (New : StageAttempt → Type 0)
    (L : Limits) → IsCalm A New L → (a b c : List StageState)
    → GrownDag A New a b → GrownDag A New b c
    → GrownDag A New a c
dag_then A New L calm a b c h k s =
    state_then A New L calm (slice_get a s) (slice_get b s) (slice_get c s) (h s) (k s)

-- one stage changed
pub dag_with : (A : StageAttempt → StageAttempt → Type 0) (New : StageAttempt → Type 0)
    (L : Limits) → IsCalm A New L → (states : List StageState) (s : ℕ) (f : StageState → StageState)
    → ((state : StageState) → GrownState A New state (f state))
    → GrownDag A New states (change_at states s f)
dag_with A New L calm states s f h k = by (cases_eq k s)
  where
    mapped : (o : Option StageState) → GrownIn A New o (option_map f o)
    mapped None = tt
    mapped (Some state) = h state

    here : GrownIn A New (slice_get states s) (slice_get (change_at states s f) s)
    here = rw (slice_get_change_same states s f) (mapped (slice_get states s))

    by : (k ≡ s) ⊎ (k ≡ s → ⊥)
        → GrownIn A New (slice_get states k) (slice_get (change_at states s f) k)
    by (inl e) =
        subst (λ (j : ℕ). GrownIn A New (slice_get states j) (slice_get (change_at states s f) j))
        (sym e) here
    by (inr ne) =
        rw (slice_get_change_other states s k f ne) (state_same A New L calm (slice_get states k))

-- one attempt changed
pub state_with : (A : StageAttempt → StageAttempt → Type 0) (New : StageAttempt → Type 0)
    (L : Limits) → IsCalm A New L → (state : StageState) (i : ℕ) (f : StageAttempt → StageAttempt)
    → ((x : StageAttempt) → A x (f x))
    → GrownState A New state (with_attempts state (change_at state.attempts i f))
state_with A New L calm state i f h =
    record { before = refl; attempts = grown_change A New L calm state.attempts i f h }

-- a submission
pub dag_submitted : (A : StageAttempt → StageAttempt → Type 0) (New : StageAttempt → Type 0)
    (L : Limits) → IsCalm A New L → (d after : DagData) (submitted : ℕ → Bool) → d.limits ≡ L
    → IsSubmitted d submitted after → GrownDag A New d.states after.states
dag_submitted A New L calm d after submitted same (looked, are, is) =
    subst (λ (x : DagData). GrownDag A New d.states x.states) (sym is)
    (λ s. rw (by_number_at (moved_if d looked) d.states s) (by s (slice_get d.states s)))
  where
    moved : (s : ℕ) (state : StageState) (a b : Bool)
        → GrownState A New state
        (if a then (if b then started d.tracker d.limits (stage_at d s) state
        else as_waiting state) else state)
    moved s state true true =
        record {
          before = refl;
          attempts = grown_more A New state.attempts
              (change_at state.attempts (length state.attempts - 1) (with_set as_zombie))
              (stage_attempt (new_set d.tracker d.limits (stage_at d s) state.results state.held)
              false)
              (grown_change A New L calm state.attempts (length state.attempts - 1)
              (with_set as_zombie) calm.stops)
              (subst
              (λ l. New (stage_attempt (new_set d.tracker l (stage_at d s) state.results state.held)
              false))
              (sym same) (calm.begins d.tracker (stage_at d s) state.results state.held));
        }
    moved s state true false =
        record { before = refl; attempts = grown_same A New L calm state.attempts }
    moved s state false b =
        record { before = refl; attempts = grown_same A New L calm state.attempts }

    by : (s : ℕ) (o : Option StageState) → GrownIn A New o (option_map (moved_if d looked s) o)
    by s None = tt
    by s (Some state) = moved s state (looked s) (has_inputs d s)

-- ---- an attempt by its number

abbrev pub attempt_among : Option StageState → ℕ → Option StageAttempt
attempt_among None number = None
attempt_among (Some state) number = attempt_in state number

-- what an attempt of a number was, and what it is
pub numbered_slot : (A : StageAttempt → StageAttempt → Type 0) (New : StageAttempt → Type 0)
    (o x : Option StageState) (number : ℕ) → GrownIn A New o x
    → Slot A New (attempt_among o number) (attempt_among x number)
numbered_slot A New None None number h = tt
numbered_slot A New None (Some after) number h = absurd h
numbered_slot A New (Some state) None number h = absurd h
numbered_slot A New (Some state) (Some after) number h =
    rw h.before (by (nat_lt number state.before))
  where
    past : Slot A New (slice_get state.attempts (length state.attempts))
        (slice_get after.attempts (length after.attempts))
    past =
        rw (
          slice_get_past state.attempts (length state.attempts) (omega arith),
          slice_get_past after.attempts (length after.attempts) (omega arith),
        ) tt

    by : (b : Bool)
        → Slot A New
        (slice_get state.attempts (if b then length state.attempts else number - state.before))
        (slice_get after.attempts (if b then length after.attempts else number - state.before))
    by true = past
    by false =
        grown_at A New state.attempts after.attempts (number - state.before) h.attempts
