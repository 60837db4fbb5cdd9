-- An action without a text is told.
use Rattle.std.proofs.Common.{◌≡◌, ◌∙◌, ℕ, zero, suc, ◌<◌, List, [], ◌∷◌, length, take, subst, sym, ap, refl, arith, inl, inr, None, Some}
use Rattle.std.specs.Prelude.{◌⊎◌, slice_get}
use Rattle.std.specs.List.{All}
use Rattle.std.proofs.lemmas.List.Elements.{All-get_or}
use Rattle.std.proofs.lemmas.Option.{slice_get_within, get_or_from_slice_get}
use Rattle.sc_core.specs.declared.journals.JobHistory.{JobHistory}
use Rattle.sc_lineage.specs.Actions.{action_outcome, faults, never, text_of_outcome, HasText}
use Rattle.sc_lineage.specs.ScriptData.{ActionData, WorkData}
use Rattle.sc_lineage.specs.declared.nodes.DriverFault.{DriverFault}
use Rattle.sc_plan.specs.Plans.{PlansHaveOneReading}
use Rattle.sc_script.specs.Parsing.{HaveOneReading}
use Rattle.sc_app.specs.declared.ran.Status.{Status}
use Rattle.sc_app.specs.declared.ran.Status.TheVariants as statuses
use Rattle.sc_app.specs.Promises.{Ends}
use Rattle.sc_app.specs.Exactly.{IsFirstWithout, IsUnlessEarlier, TellsAbort, TellsDriverFault, TellsNever, TellsOutside}
use Rattle.sc_app.specs.Runs.{RunData, HasReadWork}
use Rattle.sc_app.proofs.EndingLemmas.{not_bad, not_faulty, not_next, not_planless, not_refused}
use Rattle.sc_app.proofs.ReadingLemmas.{one_work}

-- an action among the first k has a text, where each of these has
pub has_text : (work : WorkData) (actions : List ActionData) (k i : ℕ) (action : ActionData)
    → All (HasText work) (take k actions) → i < k → slice_get actions i ≡ Some action
    → HasText work action
has_text work actions k i action all below is =
    let taken : slice_get (take k actions) i ≡ Some action =
    slice_get-take actions k i action below is in
    subst (λ a. HasText work a)
    (get_or_from_slice_get (take k actions) i action action taken)
    (All-get_or (HasText work) (take k actions) i action
    (slice_get_within (take k actions) i action taken) all)
  where
    slice_get-take : (xs : List ActionData) (k i : ℕ) (x : ActionData) → i < k
        → slice_get xs i ≡ Some x → slice_get (take k xs) i ≡ Some x
    slice_get-take [] k i x below e = cc
    slice_get-take (y ∷ xs) zero i x below e = absurd (omega arith)
    slice_get-take (y ∷ xs) (suc k) zero x below e = e
    slice_get-take (y ∷ xs) (suc k) (suc i) x below e = slice_get-take xs k i x (omega arith) e

-- two numbers are in one order
pub in_order : (a b : ℕ) → (a < b) ⊎ ((a ≡ b) ⊎ (b < a))
in_order zero zero = inr (inl refl)
in_order zero (suc b) = inl (omega arith)
in_order (suc a) zero = inr (inr (omega arith))
in_order (suc a) (suc b) = next (in_order a b)
  where
    next : (a < b) ⊎ ((a ≡ b) ⊎ (b < a)) → (suc a < suc b) ⊎ ((suc a ≡ suc b) ⊎ (suc b < suc a))
    next (inl less) = inl (omega (arith, less))
    next (inr (inl same)) = inr (inl (ap suc same))
    next (inr (inr more)) = inr (inr (omega (arith, more)))

-- two actions without texts, the first of each kind, have one number
one_first : (work : WorkData) (k i : ℕ) (a b : ActionData)
    → All (HasText work) (take k work.script.actions) → slice_get work.script.actions k ≡ Some a
    → (HasText work a → ⊥)
    → All (HasText work) (take i work.script.actions) → slice_get work.script.actions i ≡ Some b
    → (HasText work b → ⊥) → k ≡ i
one_first work k i a b texts is bare texts' is' bare' = by_order (in_order k i)
  where
    by_order : (k < i) ⊎ ((k ≡ i) ⊎ (i < k)) → k ≡ i
    by_order (inl less) = absurd (bare (has_text work work.script.actions i k a texts' less is))
    by_order (inr (inl same)) = same
    by_order (inr (inr more)) =
        absurd (bare' (has_text work work.script.actions k i b texts more is'))

pub never_without : (work : WorkData) (a : ActionData) → action_outcome work a ≡ never
    → HasText work a → ⊥
never_without work a is text =
    let e : None ≡ Some text.0 = sym (ap text_of_outcome is) ∙ text.1 in cc

pub faults_without : (work : WorkData) (a : ActionData) (f : DriverFault)
    → action_outcome work a ≡ faults f → HasText work a → ⊥
faults_without work a f is text =
    let e : None ≡ Some text.0 = sym (ap text_of_outcome is) ∙ text.1 in cc

module _ (law : HaveOneReading) (plans : PlansHaveOneReading) (run : RunData) (work : WorkData)
    (k : ℕ) (action : ActionData)
    (read : HasReadWork run.words run.reads work) (first : IsFirstWithout work k action)
    (bare : HasText work action → ⊥) where
  -- not all actions have texts
  not_all : (other : WorkData) → HasReadWork run.words run.reads other
      → All (HasText other) (take (length other.script.actions) other.script.actions) → ⊥
  not_all other was texts =
      let same : other ≡ work = one_work law plans run.words run.reads other work was read in
      let all : All (HasText work) (take (length work.script.actions) work.script.actions) =
      subst (λ (w : WorkData). All (HasText w) (take (length w.script.actions) w.script.actions))
      same texts in
      bare (has_text work work.script.actions (length work.script.actions) k action all
      (slice_get_within work.script.actions k action first.is_action) first.is_action)

  -- an action that stopped the run is this one
  stopped : (other : WorkData) (i : ℕ) (a : ActionData) → HasReadWork run.words run.reads other
      → All (HasText other) (take i other.script.actions)
      → slice_get other.script.actions i ≡ Some a → (HasText other a → ⊥)
      → (i ≡ k) × (other ≡ work) × (a ≡ action)
  stopped other i a was texts is none =
      let same : other ≡ work = one_work law plans run.words run.reads other work was read in
      let number : i ≡ k = one_first work i k a action
      (subst (λ (w : WorkData). All (HasText w) (take i w.script.actions)) same texts)
      (subst (λ (w : WorkData). slice_get w.script.actions i ≡ Some a) same is)
      (subst (λ (w : WorkData). HasText w a → ⊥) same none)
      first.texts first.is_action bare in
      let there : slice_get work.script.actions k ≡ Some a =
      subst (λ n. slice_get work.script.actions n ≡ Some a) number
      (subst (λ (w : WorkData). slice_get w.script.actions i ≡ Some a) same is) in
      let here = first.is_action in
      (number, same, cc)

module _ (law : HaveOneReading) (plans : PlansHaveOneReading) (run : RunData)
    (history given_up : List JobHistory) (work : WorkData)
    (k : ℕ) (action : ActionData)
    (read : HasReadWork run.words run.reads work) (first : IsFirstWithout work k action)
    (is : action_outcome work action ≡ never) where
  no_text : HasText work action → ⊥
  no_text = never_without work action is

  tells_never_here : (status : Status) → Ends run history given_up status
      → TellsAbort status ⊎ ((status ≡ statuses.OutOfMemory) ⊎ TellsOutside status)
  tells_never_here statuses.Done ends =
      absurd (not_all law plans run work k action read first no_text ends.work ends.read
      ends.prints.texts)
  tells_never_here statuses.Usage ends =
      absurd (not_refused law plans run history given_up work read ends)
  tells_never_here (statuses.Script f) ends =
      absurd (not_faulty law plans run history given_up work read f ends)
  tells_never_here (statuses.Plan f) ends =
      absurd (not_planless law plans run history given_up work read f ends)
  tells_never_here (statuses.Input name missing) ends =
      absurd (not_next law plans run history given_up work read name ends.is_next)
  tells_never_here (statuses.Aborted abort) ends = inl (abort, refl)
  tells_never_here (statuses.DriverFault i f) ends =
      let x = stopped law plans run work k action read first no_text ends.work i ends.stops.action
      ends.read ends.stops.printed.texts ends.stops.is_action
      (faults_without ends.work ends.stops.action f ends.stops.faults_so) in
      let e : action_outcome work action ≡ faults f =
      sym (ap (λ (w : WorkData). action_outcome w action) x.1)
      ∙ sym (ap (action_outcome ends.work) x.2) ∙ ends.stops.faults_so in
      absurd cc
  tells_never_here (statuses.OutputExists dir) ends = inr (inr (inr (inl (dir, refl))))
  tells_never_here (statuses.Device path) ends = inr (inr (inr (inr (path, refl))))
  tells_never_here statuses.WriteFault ends = inr (inr (inl refl))
  tells_never_here statuses.OutOfMemory ends = inr (inl refl)
  tells_never_here (statuses.NotText name) ends =
      absurd (not_bad law plans run history given_up work read name ends)

pub tells_never : HaveOneReading → PlansHaveOneReading → (run : RunData)
    (history given_up : List JobHistory) (status : Status) → Ends run history given_up status
    → TellsNever run.words run.reads status
tells_never law plans run history given_up status ends = λ work k action read first is.
    tells_never_here law plans run history given_up work k action read first is status ends

module _ (law : HaveOneReading) (plans : PlansHaveOneReading) (run : RunData)
    (history given_up : List JobHistory) (work : WorkData)
    (k : ℕ) (action : ActionData)
    (fault : DriverFault) (read : HasReadWork run.words run.reads work)
    (first : IsFirstWithout work k action)
    (is : action_outcome work action ≡ faults fault) where
  no_text_either : HasText work action → ⊥
  no_text_either = faults_without work action fault is

  tells_driver_here : (status : Status) → Ends run history given_up status
      → TellsAbort status ⊎ IsUnlessEarlier (statuses.DriverFault k fault) status
  tells_driver_here statuses.Done ends =
      absurd (not_all law plans run work k action read first no_text_either ends.work ends.read
      ends.prints.texts)
  tells_driver_here statuses.Usage ends =
      absurd (not_refused law plans run history given_up work read ends)
  tells_driver_here (statuses.Script f) ends =
      absurd (not_faulty law plans run history given_up work read f ends)
  tells_driver_here (statuses.Plan f) ends =
      absurd (not_planless law plans run history given_up work read f ends)
  tells_driver_here (statuses.Input name missing) ends =
      absurd (not_next law plans run history given_up work read name ends.is_next)
  tells_driver_here (statuses.Aborted abort) ends = inl (abort, refl)
  tells_driver_here (statuses.DriverFault i f) ends =
      let x = stopped law plans run work k action read first no_text_either ends.work i
      ends.stops.action ends.read ends.stops.printed.texts ends.stops.is_action
      (faults_without ends.work ends.stops.action f ends.stops.faults_so) in
      let e : action_outcome work action ≡ faults f =
      sym (ap (λ (w : WorkData). action_outcome w action) x.1)
      ∙ sym (ap (action_outcome ends.work) x.2) ∙ ends.stops.faults_so in
      let same : f ≡ fault = cc in
      inr (inl (inl (ap (λ n. statuses.DriverFault n f) x.0
      ∙ ap (statuses.DriverFault k) same)))
  tells_driver_here (statuses.OutputExists dir) ends = inr (inr (inr (inl (dir, refl))))
  tells_driver_here (statuses.Device path) ends = inr (inr (inr (inr (path, refl))))
  tells_driver_here statuses.WriteFault ends = inr (inr (inl refl))
  tells_driver_here statuses.OutOfMemory ends = inr (inl (inr refl))
  tells_driver_here (statuses.NotText name) ends =
      absurd (not_bad law plans run history given_up work read name ends)

pub tells_driver_fault : HaveOneReading → PlansHaveOneReading → (run : RunData)
    (history given_up : List JobHistory) (status : Status) → Ends run history given_up status
    → TellsDriverFault run.words run.reads status
tells_driver_fault law plans run history given_up status ends = λ work k action fault read first is.
    tells_driver_here law plans run history given_up work k action fault read first is status ends
