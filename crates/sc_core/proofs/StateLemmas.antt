-- Attempts that run in the task sets of a stage, where one of these is changed.
use Rattle.std.proofs.Common.{◌≡◌, ℕ, ◌-◌, ◌≤◌, ◌==◌, ◌&&◌, Bool, true, false, if◌then◌else◌, List, length, Option, Some, None, option_map, slice_get, nat_lt, refl, ap, sym, subst, ◌∙◌, arith}
use Rattle.std.proofs.lemmas.Bool.Decides.{nat_tests}
use Rattle.std.proofs.lemmas.Option.{slice_get_past}
use Rattle.sc_ids.specs.Changes.{change_at}
use Rattle.sc_ids.specs.declared.attempts.AttemptId.{AttemptId}
use Rattle.sc_ids.proofs.ChangeLemmas.{length_change_at, slice_get_change_other, slice_get_change_same}
use Rattle.sc_dag.specs.DagData.{StageState, attempt_in, place_of_attempt, set_in, with_attempts}
use Rattle.sc_dag.specs.Sound.{runner_in}
use Rattle.sc_dag.specs.declared.attempts.StageAttempt.{StageAttempt}
use Rattle.sc_core.specs.Sound.{given_in}
use Rattle.sc_core.proofs.LookupLemmas.{set_among}
use Rattle.sc_core.proofs.SetLemmas.{MovesIn, is_copy_of, nothing}

-- where an attempt runs, in the sets of a stage that may be there
abbrev pub runs_in : Option StageState → AttemptId → Option ℕ
runs_in o b = runner_in (set_among o b.stage_attempt) b

-- whether an attempt was handed out, in the sets of a stage that may be there
abbrev pub gave_in : Option StageState → AttemptId → Bool
gave_in o b = given_in (set_among o b.stage_attempt) b

-- What a change of a stage does: the attempts that pass a test run somewhere else then, or
-- nowhere, and all others as before.
pub record MovesOf (test : AttemptId → Bool) (new : Option ℕ) (old now : Option StageState)
    : Type 0 where
  pub runners : (b : AttemptId)
      → runs_in now b ≡ (if test b then new else runs_in old b)
  -- what was handed out stays so
  pub given : (b : AttemptId) → gave_in old b ≡ true → gave_in now b ≡ true

-- an attempt is of these numbers in its stage
abbrev pub is_number_of : AttemptId → AttemptId → Bool
is_number_of a b = (a.stage_attempt == b.stage_attempt) && is_copy_of a b

pub calm_same : (o : Option StageState) → MovesOf nothing None o o
calm_same o = record { runners = λ b. refl; given = λ b h. h }

-- a calm change behind another one
pub then_calm :
    (test : AttemptId → Bool) (new : Option ℕ) (a b c : Option StageState)
    → MovesOf test new a b → MovesOf nothing None b c → MovesOf test new a c
then_calm test new a b c h k =
    record {
      runners = λ x. k.runners x ∙ h.runners x;
      given = λ b g. k.given b (h.given b g);
    }

-- ---- places of attempts

-- attempts of two numbers have one place only where there is none
place_apart :
    (state : StageState) (m n : ℕ) → (m == n) ≡ false
    → place_of_attempt state n ≡ place_of_attempt state m
    → length state.attempts ≤ place_of_attempt state n
place_apart state m n other same =
    by (nat_lt m state.before) (nat_lt n state.before) refl refl same
  where
    many : ℕ
    many = length state.attempts

    by : (x y : Bool) → nat_lt m state.before ≡ x → nat_lt n state.before ≡ y
        → (if y then many else n - state.before) ≡ (if x then many else m - state.before)
        → many ≤ (if y then many else n - state.before)
    by x true a b e = omega arith
    by true false a b e = omega (arith, e)
    by false false a b e = absurd (grind (arith, nat_tests, a, b, e, other))

-- places stay where as many attempts are there
pub place_kept :
    (state now : StageState) (n : ℕ) → now.before ≡ state.before
    → length now.attempts ≡ length state.attempts
    → place_of_attempt now n ≡ place_of_attempt state n
place_kept state now n before many =
    ap (λ (b : ℕ). if nat_lt n b then length now.attempts else n - b) before
    ∙ ap (λ (k : ℕ). if nat_lt n state.before then k else n - state.before) many

-- ---- one set changed

-- what was handed out in one of some sets stays so, where one of these is changed
given_changed :
    (change : StageAttempt → StageAttempt) (attempts : List StageAttempt) (i j : ℕ)
    (b : AttemptId)
    → ((x : StageAttempt) → slice_get attempts i ≡ Some x → given_in (Some x.set) b ≡ true
    → given_in (Some (change x).set) b ≡ true)
    → given_in (set_in (slice_get attempts j)) b ≡ true
    → given_in (set_in (slice_get (change_at attempts i change) j)) b ≡ true
given_changed change attempts i j b keeps given = by (j == i) refl
  where
    one : (o : Option StageAttempt) → slice_get attempts i ≡ o → given_in (set_in o) b ≡ true
        → given_in (set_in (option_map change o)) b ≡ true
    one None e h = h
    one (Some x) e h = keeps x e h

    by : (x : Bool) → (j == i) ≡ x
        → given_in (set_in (slice_get (change_at attempts i change) j)) b ≡ true
    by true e =
        let is : j ≡ i = grind (arith, nat_tests, e) in
        ap (λ (k : ℕ). given_in (set_in (slice_get (change_at attempts i change) k)) b) is
        ∙ ap (λ o. given_in (set_in o) b) (slice_get_change_same attempts i change)
        ∙ one (slice_get attempts i) refl
        (ap (λ (k : ℕ). given_in (set_in (slice_get attempts k)) b) (sym is) ∙ given)
    by false e =
        ap (λ o. given_in (set_in o) b)
        (slice_get_change_other attempts i j change (λ is. grind (arith, nat_tests, e, is)))
        ∙ given

-- The attempt of a number changed, where its set's change is told; where there is none, nothing
-- is to run that didn't.
pub attempt_moves :
    (a : AttemptId) (new : Option ℕ) (change : StageAttempt → StageAttempt) (state : StageState)
    → ((x : StageAttempt) → attempt_in state a.stage_attempt ≡ Some x
    → MovesIn (is_copy_of a) new x.set (change x).set)
    → (attempt_in state a.stage_attempt ≡ None → new ≡ None)
    → MovesOf (is_number_of a) new (Some state)
    (Some (with_attempts state
    (change_at state.attempts (place_of_attempt state a.stage_attempt) change)))
attempt_moves a new change state moves none =
    record {
      runners = λ b. by b (a.stage_attempt == b.stage_attempt) refl;
      given = λ b g.
          ap (λ (j : ℕ). given_in (set_in (slice_get now.attempts j)) b) (kept b.stage_attempt)
          ∙ given_changed change state.attempts place (place_of_attempt state b.stage_attempt) b
          (λ x e. (moves x e).given b) g;
    }
  where
    place : ℕ
    place = place_of_attempt state a.stage_attempt

    now : StageState
    now =
        with_attempts state
        (change_at state.attempts (place_of_attempt state a.stage_attempt) change)

    kept : (n : ℕ) → place_of_attempt now n ≡ place_of_attempt state n
    kept n = place_kept state now n refl (length_change_at state.attempts place change)

    one : (b : AttemptId) (o : Option StageAttempt) → attempt_in state a.stage_attempt ≡ o
        → runner_in (set_in (option_map change o)) b
        ≡ (if is_copy_of a b then new else runner_in (set_in o) b)
    one b None e = rw (none e) (none_here (is_copy_of a b))
      where
        none_here : (x : Bool) → runner_in None b ≡ (if x then None else runner_in None b)
        none_here true = refl
        none_here false = refl
    one b (Some x) e = (moves x e).runners b

    other : (b : AttemptId) → (a.stage_attempt == b.stage_attempt) ≡ false → (x : Bool)
        → (place_of_attempt state b.stage_attempt == place) ≡ x
        → slice_get (change_at state.attempts place change)
        (place_of_attempt state b.stage_attempt)
        ≡ slice_get state.attempts (place_of_attempt state b.stage_attempt)
    other b e true same =
        let is : place_of_attempt state b.stage_attempt ≡ place = grind (arith, nat_tests, same) in
        let past = place_apart state a.stage_attempt b.stage_attempt e is in
        slice_get_past (change_at state.attempts place change)
        (place_of_attempt state b.stage_attempt)
        (omega (arith, past, length_change_at state.attempts place change))
        ∙ sym (slice_get_past state.attempts (place_of_attempt state b.stage_attempt) past)
    other b e false same =
        slice_get_change_other state.attempts place (place_of_attempt state b.stage_attempt) change
        (λ is. grind (arith, nat_tests, same, is))

    by : (b : AttemptId) (x : Bool) → (a.stage_attempt == b.stage_attempt) ≡ x
        → runs_in (Some now) b
        ≡ (if x && is_copy_of a b then new else runs_in (Some state) b)
    by b true e =
        let n : b.stage_attempt ≡ a.stage_attempt = grind (arith, nat_tests, e) in
        ap (λ (n : ℕ). runner_in (set_in (attempt_in now n)) b) n
        ∙ ap (λ (i : ℕ). runner_in (set_in (slice_get now.attempts i)) b) (kept a.stage_attempt)
        ∙ ap (λ o. runner_in (set_in o) b) (slice_get_change_same state.attempts place change)
        ∙ one b (attempt_in state a.stage_attempt) refl
        ∙ ap (λ (n : ℕ). if is_copy_of a b then new else runner_in (set_in (attempt_in state n)) b)
        (sym n)
    by b false e =
        ap (λ (i : ℕ). runner_in (set_in (slice_get now.attempts i)) b) (kept b.stage_attempt)
        ∙ ap (λ o. runner_in (set_in o) b)
        (other b e (place_of_attempt state b.stage_attempt == place) refl)

-- a set changed so that what runs stays
pub attempt_calm :
    (change : StageAttempt → StageAttempt) (state : StageState) (i : ℕ)
    → ((x : StageAttempt) → MovesIn nothing None x.set (change x).set)
    → MovesOf nothing None (Some state)
    (Some (with_attempts state (change_at state.attempts i change)))
attempt_calm change state i moves =
    record {
      runners = λ b.
          ap (λ (j : ℕ). runner_in (set_in (slice_get (change_at state.attempts i change) j)) b)
          (place_kept state (with_attempts state (change_at state.attempts i change))
          b.stage_attempt refl (length_change_at state.attempts i change))
          ∙ by b (place_of_attempt state b.stage_attempt)
          (place_of_attempt state b.stage_attempt == i) refl;
      given = λ b g.
          ap (λ (j : ℕ). given_in (set_in (slice_get (change_at state.attempts i change) j)) b)
          (place_kept state (with_attempts state (change_at state.attempts i change))
          b.stage_attempt refl (length_change_at state.attempts i change))
          ∙ given_changed change state.attempts i (place_of_attempt state b.stage_attempt) b
          (λ x e. (moves x).given b) g;
    }
  where
    one : (b : AttemptId) (o : Option StageAttempt)
        → runner_in (set_in (option_map change o)) b ≡ runner_in (set_in o) b
    one b None = refl
    one b (Some x) = (moves x).runners b

    by : (b : AttemptId) (j : ℕ) (x : Bool) → (j == i) ≡ x
        → runner_in (set_in (slice_get (change_at state.attempts i change) j)) b
        ≡ runner_in (set_in (slice_get state.attempts j)) b
    by b j true e =
        let is : j ≡ i = grind (arith, nat_tests, e) in
        subst (λ (k : ℕ). runner_in (set_in (slice_get (change_at state.attempts i change) k)) b
        ≡ runner_in (set_in (slice_get state.attempts k)) b) (sym is)
        (ap (λ o. runner_in (set_in o) b) (slice_get_change_same state.attempts i change)
        ∙ one b (slice_get state.attempts i))
    by b j false e =
        ap (λ o. runner_in (set_in o) b)
        (slice_get_change_other state.attempts i j change (λ is. grind (arith, nat_tests, e, is)))
