-- When an event shows that the stage of an attempt may fail.
use Rattle.std.proofs.Common.{◌≡◌, ◌⊎◌, inl, inr, ℕ, zero, suc, ◌||◌, ◌<◌, ◌≤◌, All, Bool, true, false, List, [], ◌∷◌, length, Option, Some, None, IfSome, nat_lt, option_map, slice_get, refl, ap, sym, subst, ◌∙◌, arith, rules, true≢false}
use Rattle.std.specs.List.{list_any}
use Rattle.std.proofs.lemmas.Bool.Decides.{nat_tests}
use Rattle.std.proofs.lemmas.List.Elements.{All-head, All-tail}
use Rattle.sc_base.specs.Lists.{at_or}
use Rattle.sc_ids.specs.declared.attempts.AttemptId.{AttemptId}
use Rattle.sc_ids.specs.declared.blocks.Loc.{Loc}
use Rattle.sc_ids.specs.declared.failures.FailureCause.TheVariants as causes
use Rattle.sc_taskset.specs.TaskSetData.{TaskSetData}
use Rattle.sc_tracker.specs.TrackerData.{trust_of}
use Rattle.sc_tracker.specs.Trust.{is_marked, is_newer, untold}
use Rattle.sc_tracker.specs.declared.outputs.Location.{Location}
use Rattle.sc_tracker.specs.declared.outputs.Location.TheVariants.{Here, Missing}
use Rattle.sc_tracker.specs.declared.trust.Trust.{Trust}
use Rattle.sc_tracker.proofs.BlockLemmas.{lookups_sound}
use Rattle.sc_dag.specs.DagData.{DagData}
use Rattle.sc_dag.specs.Laws.{IsChargeable}
use Rattle.sc_dag.specs.Offers.{newest_number}
use Rattle.sc_dag.specs.Reports.{set_of}
use Rattle.sc_dag.specs.Sound.{IsSoundDag}
use Rattle.sc_dag.proofs.Tests.{both_left, both_right}
use Rattle.sc_core.specs.Posts.{fits_failure, is_here, was_last}
use Rattle.sc_core.specs.Sound.{IsInput, WasHandedOut, born_of}
use Rattle.sc_core.specs.declared.running.Running.{Running}
use Rattle.sc_core.proofs.LookupLemmas.{set_of_newest}
use Rattle.sc_core.proofs.HandedLemmas.{born_past}

-- an event came after the task set of an attempt began
abbrev pub IsLate : DagData → AttemptId → Type 0
IsLate d a = (b : ℕ) → born_of d a ≡ Some b → b < d.tracker.epoch

-- so its stage may fail, where it is of the newest one
pub late_charges :
    (d : DagData) (a : AttemptId) → a.stage_attempt ≡ newest_number d a.stage → IsLate d a
    → IsChargeable d a.stage a.stage_attempt
late_charges d a number late =
    record {
      newest = number;
      begun = subst (λ o. IfSome o (λ set. set.born < d.tracker.epoch))
          (set_of_newest d a number) (by (set_of d a) refl);
    }
  where
    by : (o : Option TaskSetData) → set_of d a ≡ o
        → IfSome o (λ set. set.born < d.tracker.epoch)
    by None e = tt
    by (Some set) e = late set.born (ap (λ x. option_map (λ set. set.born) x) e)

-- a newer generation is an event
pub seen_late :
    (d after : DagData) (a : AttemptId) → IsSoundDag d
    → ((b : ℕ) → born_of after a ≡ Some b → born_of d a ≡ Some b)
    → d.tracker.epoch < after.tracker.epoch → IsLate after a
seen_late d after a sound same lt b e =
    let past = born_past d a b sound (same b e) in omega (arith, past, lt)

-- a location that passes a test is one of the inputs
some_input :
    {A : Type 0} (P : A → Type 0) (test : A → Bool) (R : Type 0) (xs : List A) → All P xs
    → ((x : A) → test x ≡ true → P x → R) → list_any test xs ≡ true → R
some_input P test R [] all from e = absurd (true≢false (sym e))
some_input P test R (x ∷ xs) all from e =
    by (test x) refl e (λ h. some_input P test R xs (All-tail P x xs all) from h)
  where
    by : (b : Bool) → test x ≡ b → (b || list_any test xs) ≡ true
        → (list_any test xs ≡ true → R) → R
    by true t h rest = from x t (All-head P x xs all)
    by false t h rest = rest h

-- so is what was told before of an executor
module _ (d : DagData) (r : Running) (sound : IsSoundDag d)
    (w : WasHandedOut d r.hand_out) where
  one_born : born_of d r.hand_out.attempt ≡ Some w.born → w.born < d.tracker.epoch
      → IsLate d r.hand_out.attempt
  one_born e lt b is = by (search (rules, sym e ∙ is))
    where
      by : w.born ≡ b → b < d.tracker.epoch
      by same = subst (λ n. n < d.tracker.epoch) same lt

  pub missing_late :
      (last : Loc) → fits_failure r (causes.Metadata last) ≡ true
      → IsLate d r.hand_out.attempt
  missing_late last fit =
      one_born w.is_born
      (some_input (IsInput d.tracker w.born r.hand_out.epoch) (was_last last)
      (w.born < d.tracker.epoch) r.hand_out.inputs w.inputs from fit)
    where
      from : (l : Location) → was_last last l ≡ true
          → IsInput d.tracker w.born r.hand_out.epoch l → w.born < d.tracker.epoch
      from (Here at) e is = absurd (true≢false (sym e))
      from (Missing place) e is = (let past = w.past in omega (arith, past, is))

  pub gone_late :
      (exec wanted found : ℕ) → fits_failure r (causes.Gone exec wanted found) ≡ true
      → is_newer (slice_get d.tracker.trust exec) found ≡ false
      → IsLate d r.hand_out.attempt
  gone_late exec wanted found fit seen =
      one_born w.is_born
      (some_input (IsInput d.tracker w.born r.hand_out.epoch)
      (is_here (record { exec = exec; generation = wanted })) (w.born < d.tracker.epoch)
      r.hand_out.inputs w.inputs from (both_left _ (nat_lt wanted found) fit))
    where
      below : wanted < found
      below =
          let lt : nat_lt wanted found ≡ true =
          both_right (list_any (is_here (record { exec = exec; generation = wanted }))
          r.hand_out.inputs) (nat_lt wanted found) fit in
          grind (arith, nat_tests, lt)

      -- what was found isn't above what is seen there
      found_seen : (trust : List Trust) (e : ℕ) → e < length trust
          → is_newer (slice_get trust e) found ≡ false → found ≤ (at_or trust e untold).seen
      found_seen [] e lt h = absurd (omega (arith, lt))
      found_seen (t ∷ ts) zero lt h = grind (arith, nat_tests, h)
      found_seen (t ∷ ts) (suc e) lt h = found_seen ts e (omega (arith, lt)) h

      marked : (m : Option ℕ) → IfSome m (λ mark. mark < d.tracker.epoch)
          → is_marked m r.hand_out.epoch ≡ true → w.born < d.tracker.epoch
      marked None lt h = absurd (true≢false (sym h))
      marked (Some mark) lt h =
          let le : r.hand_out.epoch ≤ mark = grind (arith, nat_tests, h) in
          let begun = w.begun in omega (arith, le, lt, begun)

      known : (x : ℕ) → x < length d.tracker.trust
          → is_newer (slice_get d.tracker.trust x) found ≡ false
          → ((trust_of d.tracker x).seen ≤ wanted)
          ⊎ (is_marked (trust_of d.tracker x).mark r.hand_out.epoch ≡ true)
          → w.born < d.tracker.epoch
      known x lt old (inl le) =
          let up = found_seen d.tracker.trust x lt old in absurd (omega (arith, le, up, below))
      known x lt old (inr mark) =
          marked (trust_of d.tracker x).mark ((lookups_sound d.tracker sound.tracker).1 x) mark

      from : (l : Location) → is_here (record { exec = exec; generation = wanted }) l ≡ true
          → IsInput d.tracker w.born r.hand_out.epoch l → w.born < d.tracker.epoch
      from (Here at) e (lt, is) =
          let on : at.exec ≡ exec = grind (arith, nat_tests, e) in
          let of : at.generation ≡ wanted = grind (arith, nat_tests, e) in
          known at.exec lt
          (ap (λ (n : ℕ). is_newer (slice_get d.tracker.trust n) found) on ∙ seen)
          (subst (λ (n : ℕ). ((trust_of d.tracker at.exec).seen ≤ n)
          ⊎ (is_marked (trust_of d.tracker at.exec).mark r.hand_out.epoch ≡ true)) of is)
      from (Missing place) e is = absurd (true≢false (sym e))
