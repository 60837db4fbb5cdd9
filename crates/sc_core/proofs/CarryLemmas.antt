-- What changes of the stages of a job leave of what was handed out.
use Rattle.std.proofs.Common.{◌≡◌, ℕ, zero, suc, ◌-◌, ◌≤◌, ◌==◌, Bool, true, false, if◌then◌else◌, List, [], ◌∷◌, ◌++◌, length, Option, Some, None, nat_lt, option_map, slice_get, refl, ap, sym, subst, ◌∙◌, arith, rules}
use Rattle.std.proofs.lemmas.Bool.Decides.{nat_tests}
use Rattle.std.proofs.lemmas.List.{length-map}
use Rattle.std.proofs.lemmas.List.Elements.{All-weaker}
use Rattle.std.proofs.lemmas.Option.{slice_get_past}
use Rattle.sc_ids.specs.Changes.{change_at}
use Rattle.sc_ids.specs.declared.attempts.AttemptId.{AttemptId}
use Rattle.sc_ids.proofs.ChangeLemmas.{slice_get_change_other, slice_get_change_same}
use Rattle.sc_tracker.specs.declared.outputs.Location.{Location}
use Rattle.sc_dag.specs.Births.{births_of}
use Rattle.sc_dag.specs.DagData.{DagData, StageState, place_of_attempt, set_in, with_state, with_states}
use Rattle.sc_dag.specs.declared.attempts.StageAttempt.{StageAttempt}
use Rattle.sc_core.specs.HandOuts.{HandOutData}
use Rattle.sc_core.specs.Sound.{AreOnLive, IsInput, WasHandedOut, born_of}
use Rattle.sc_core.proofs.LookupLemmas.{set_among}

-- what was handed out stays so, and outputs stay on executors that are live
pub record Carries (d after : DagData) : Type 0 where
  pub many : length after.tracker.trust ≡ length d.tracker.trust
  pub epoch : d.tracker.epoch ≤ after.tracker.epoch
  pub born : (a : AttemptId) (b : ℕ) → born_of d a ≡ Some b → born_of after a ≡ Some b
  pub inputs : (born epoch : ℕ) (l : Location) → epoch ≤ d.tracker.epoch
      → IsInput d.tracker born epoch l → IsInput after.tracker born epoch l
  pub placed : AreOnLive d.tracker → AreOnLive after.tracker

pub carries_same : (d : DagData) → Carries d d
carries_same d =
    record {
      many = refl;
      epoch = omega arith;
      born = λ a b e. e;
      inputs = λ born epoch l le is. is;
      placed = λ all. all;
    }

pub carries_then : (c d e : DagData) → Carries c d → Carries d e → Carries c e
carries_then c d e h k =
    record {
      many = k.many ∙ h.many;
      epoch = (let x = h.epoch in let y = k.epoch in omega (arith, x, y));
      born = λ a b is. k.born a b (h.born a b is);
      inputs = λ born epoch l le is.
          k.inputs born epoch l (let x = h.epoch in omega (arith, x, le))
          (h.inputs born epoch l le is);
      placed = λ all. k.placed (h.placed all);
    }

pub handed_still :
    (d after : DagData) (h : HandOutData) → Carries d after → WasHandedOut d h
    → WasHandedOut after h
handed_still d after h carries w =
    record {
      born = w.born;
      is_born = carries.born h.attempt w.born w.is_born;
      begun = w.begun;
      past = (let x = carries.epoch in let y = w.past in omega (arith, x, y));
      inputs = All-weaker (IsInput d.tracker w.born h.epoch)
          (IsInput after.tracker w.born h.epoch)
          (λ l is. carries.inputs w.born h.epoch l w.past is) h.inputs w.inputs;
    }

-- ---- task sets of a stage

-- the epoch in which the set of a number began, in a stage that may be there
abbrev pub born_in : Option StageState → ℕ → Option ℕ
born_in o n = option_map (λ set. set.born) (set_among o n)

-- the sets that were there are, and began when they did
abbrev pub Lasts : Option StageState → Option StageState → Type 0
Lasts o now = (n b : ℕ) → born_in o n ≡ Some b → born_in now n ≡ Some b

pub born_at : (attempts : List StageAttempt) (i : ℕ)
    → option_map (λ set. set.born) (set_in (slice_get attempts i))
    ≡ slice_get (births_of attempts) i
born_at [] i = refl
born_at (a ∷ attempts) zero = refl
born_at (a ∷ attempts) (suc i) = born_at attempts i

lasts_by :
    (state now : StageState) → now.before ≡ state.before
    → ((i b : ℕ) → slice_get (births_of state.attempts) i ≡ Some b
    → slice_get (births_of now.attempts) i ≡ Some b)
    → Lasts (Some state) (Some now)
lasts_by state now before keeps n b e =
    by (nat_lt n state.before) refl (sym (born_at state.attempts (place_of_attempt state n)) ∙ e)
  where
    past : slice_get (births_of state.attempts) (length state.attempts) ≡ None
    past = slice_get_past (births_of state.attempts) (length state.attempts)
        (let many : length (births_of state.attempts) ≡ length state.attempts =
        length-map state.attempts (λ a. a.set.born) in omega (arith, many))

    by : (x : Bool) → nat_lt n state.before ≡ x
        → slice_get (births_of state.attempts)
        (if x then length state.attempts else n - state.before) ≡ Some b
        → born_in (Some now) n ≡ Some b
    by true f h = absurd (search (rules, h, past))
    by false f h =
        let place : place_of_attempt now n ≡ n - state.before = rw (before, f) refl in
        born_at now.attempts (place_of_attempt now n)
        ∙ ap (λ (i : ℕ). slice_get (births_of now.attempts) i) place
        ∙ keeps (n - state.before) b h

pub lasts_same :
    (state now : StageState) → now.before ≡ state.before
    → births_of now.attempts ≡ births_of state.attempts → Lasts (Some state) (Some now)
lasts_same state now before births =
    lasts_by state now before
    (λ i b h. subst (λ xs. slice_get xs i ≡ Some b) (sym births) h)

slice_get_front : (xs ys : List ℕ) (i b : ℕ) → slice_get xs i ≡ Some b
    → slice_get (xs ++ ys) i ≡ Some b
slice_get_front [] ys i b e = absurd (search (rules, e))
slice_get_front (x ∷ xs) ys zero b e = e
slice_get_front (x ∷ xs) ys (suc i) b e = slice_get_front xs ys i b e

pub lasts_more :
    (state now : StageState) (more : List ℕ) → now.before ≡ state.before
    → births_of now.attempts ≡ births_of state.attempts ++ more → Lasts (Some state) (Some now)
lasts_more state now more before births =
    lasts_by state now before
    (λ i b h. subst (λ xs. slice_get xs i ≡ Some b) (sym births)
    (slice_get_front (births_of state.attempts) more i b h))

-- ---- states

pub carries_states :
    (d : DagData) (states : List StageState)
    → ((s : ℕ) → Lasts (slice_get d.states s) (slice_get states s))
    → Carries d (with_states d states)
carries_states d states lasts =
    record {
      many = refl;
      epoch = omega arith;
      born = λ a b e. lasts a.stage a.stage_attempt b e;
      inputs = λ born epoch l le is. is;
      placed = λ all. all;
    }

pub carries_state :
    (d : DagData) (s : ℕ) (f : StageState → StageState)
    → ((state : StageState) → Lasts (Some state) (Some (f state)))
    → Carries d (with_state d s f)
carries_state d s f lasts =
    carries_states d (change_at d.states s f) (λ r. by r (s == r) refl)
  where
    here : (o : Option StageState) → Lasts o (option_map f o)
    here None n b e = e
    here (Some state) n b e = lasts state n b e

    by : (r : ℕ) (x : Bool) → (s == r) ≡ x
        → Lasts (slice_get d.states r) (slice_get (change_at d.states s f) r)
    by r true e =
        let is : s ≡ r = grind (arith, nat_tests, e) in
        subst (λ (r : ℕ). Lasts (slice_get d.states r)
        (slice_get (change_at d.states s f) r)) is
        (rw (slice_get_change_same d.states s f) (here (slice_get d.states s)))
    by r false e =
        rw (slice_get_change_other d.states s r f (λ is. grind (arith, nat_tests, e, is)))
        (λ n b h. h)
