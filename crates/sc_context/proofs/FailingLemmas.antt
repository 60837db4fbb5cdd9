-- No more attempts of a partition fail by a plan than it has lines that let them.
use Rattle.std.proofs.Common.{◌≡◌, ◌≢◌, ℕ, suc, ◌≤◌, ◌==◌, ◌&&◌, ◌||◌, All, Bool, true, false, cond, not, List, [], ◌∷◌, filter, length, map, refl, sym, subst, arith}
use Rattle.std.specs.List.{AllPairs}
use Rattle.std.proofs.lemmas.Bool.{and_parts, false≢true}
use Rattle.std.proofs.lemmas.Bool.Decides.{nat_tests}
use Rattle.std.proofs.lemmas.List.{length-map}
use Rattle.std.proofs.lemmas.List.Elements.{All-cons, All-filter, All-head, All-map, All-nil, All-tail}
use Rattle.std.proofs.lemmas.List.Kept.{AllPairs-filter}
use Rattle.sc_plan.specs.Attempts.{is_failed}
use Rattle.sc_plan.specs.PlanLines.{place_of}
use Rattle.sc_plan.specs.declared.lines.AttemptPlace.{AttemptPlace}
use Rattle.sc_plan.specs.declared.lines.PlanLine.{PlanLine}
use Rattle.sc_plan.specs.declared.lines.PlanLine.TheVariants as lines
use Rattle.sc_taskset.proofs.FindLemmas.{pairs_head, pairs_tail}
use Rattle.sc_history.specs.Evidence.{counts, is_failure_of, is_of_task, nth_of}
use Rattle.sc_history.specs.Tellings.{Telling, is_heard}
use Rattle.sc_context.specs.Aborts.{fails_task, planned_failures}

-- ---- numbers but for one

abbrev without : ℕ → List ℕ → List ℕ
without n ns = filter (λ m. not (n == m)) ns

-- where it is none of them they are as many
as_many : (n : ℕ) (ns : List ℕ) → All (λ m. n ≢ m) ns → length ns ≤ length (without n ns)
as_many n [] apart = omega arith
as_many n (m ∷ ms) apart =
    let ne = All-head (λ k. n ≢ k) m ms apart in
    let no : (n == m) ≡ false = grind (arith, nat_tests, ne) in
    let more = as_many n ms (All-tail (λ k. n ≢ k) m ms apart) in
    rw no (omega (arith, more))

-- where no two are one, they are one less at most
one_less : (n : ℕ) (ns : List ℕ) → AllPairs (λ x y. x ≢ y) ns
    → length ns ≤ suc (length (without n ns))
one_less n [] apart = omega arith
one_less n (m ∷ ms) apart =
    by (n == m) refl (one_less n ms (pairs_tail (λ x y. x ≢ y) m ms apart))
  where
    by : (b : Bool) → (n == m) ≡ b → length ms ≤ suc (length (without n ms))
        → suc (length ms) ≤ suc (length (without n (m ∷ ms)))
    by true e more =
        let same : n ≡ m = grind (arith, nat_tests, e) in
        let others : All (λ k. n ≢ k) ms =
        subst (λ k. All (λ j. k ≢ j) ms) (sym same) (pairs_head (λ x y. x ≢ y) m ms apart) in
        let most = as_many n ms others in
        rw e (omega (arith, most))
    by false e more = rw e (omega (arith, more))

-- it isn't among them
others_alone : (n : ℕ) (ns : List ℕ) → All (λ m. n ≢ m) (without n ns)
others_alone n [] = All-nil (λ m. n ≢ m)
others_alone n (m ∷ ms) = by (n == m) refl (others_alone n ms)
  where
    by : (b : Bool) → (n == m) ≡ b → All (λ k. n ≢ k) (without n ms)
        → All (λ k. n ≢ k) (without n (m ∷ ms))
    by true e rest = rw e rest
    by false e rest =
        let ne : n ≢ m = λ is. (grind (arith, nat_tests, e, is)) in
        rw e (All-cons (λ k. n ≢ k) m (without n ms) ne rest)

-- ---- lines of a plan

abbrev place_at : ℕ → ℕ → ℕ → AttemptPlace
place_at stage partition nth = record { stage = stage; partition = partition; nth = nth }

module _ (stage partition : ℕ) where
  -- a plan lets the attempt of a number fail
  abbrev Fails : List PlanLine → ℕ → Type 0
  Fails plan n = is_failed plan (place_at stage partition n) ≡ true

  abbrev AreFew : List PlanLine → Type 0
  AreFew plan = (ns : List ℕ) → AllPairs (λ m n. m ≢ n) ns → All (Fails plan) ns
      → length ns ≤ planned_failures plan stage partition

  -- of one line more, by whether it is of the stage and of the partition
  one_more : (p : AttemptPlace) (plan : List PlanLine) (ns : List ℕ) (a b : Bool)
      → AllPairs (λ m n. m ≢ n) ns → AreFew plan
      → All (λ n. ((a && (b && (p.nth == n))) || is_failed plan (place_at stage partition n))
      ≡ true) ns
      → length ns
      ≤ length (cond (a && b) (lines.Fail p ∷ filter (fails_task stage partition) plan)
      (filter (fails_task stage partition) plan))
  one_more p plan ns false b apart few fails = few ns apart fails
  one_more p plan ns true false apart few fails = few ns apart fails
  one_more p plan ns true true apart few fails =
      let less = one_less p.nth ns apart in
      let rest = few (without p.nth ns)
      (AllPairs-filter (λ m n. m ≢ n) (λ m. not (p.nth == m)) ns apart)
      (λ k d l. other _ (others_alone p.nth ns k d l)
      (All-filter (λ m. not (p.nth == m)) (λ n. ((p.nth == n)
      || is_failed plan (place_at stage partition n)) ≡ true) ns fails k d l)) in
      omega (arith, less, rest)
    where
      other : (n : ℕ) → p.nth ≢ n
          → ((p.nth == n) || is_failed plan (place_at stage partition n)) ≡ true
          → Fails plan n
      other n ne h =
          let no : (p.nth == n) ≡ false = grind (arith, nat_tests, ne) in
          rw no at h

  few_fail : (plan : List PlanLine) → AreFew plan
  few_fail [] [] apart fails = omega arith
  few_fail [] (n ∷ ns) apart fails = absurd (false≢true (All-head (Fails []) n ns fails))
  few_fail (lines.Fail p ∷ plan) ns apart fails =
      one_more p plan ns (p.stage == stage) (p.partition == partition) apart (few_fail plan) fails
  few_fail (lines.Late p count ∷ plan) ns apart fails = few_fail plan ns apart fails
  few_fail (lines.Twice p ∷ plan) ns apart fails = few_fail plan ns apart fails
  few_fail (lines.Drop exec after ∷ plan) ns apart fails = few_fail plan ns apart fails
  few_fail (lines.Lose exec after told ∷ plan) ns apart fails = few_fail plan ns apart fails
  few_fail (lines.Evict exec after ∷ plan) ns apart fails = few_fail plan ns apart fails

-- ---- reports

-- a plan lets the attempt of a report fail
abbrev pub IsPlanned : List PlanLine → Telling → Type 0
IsPlanned plan t = is_failed plan (place_of t.attempt) ≡ true

module _ (plan : List PlanLine) (stage number partition : ℕ) where
  -- a failure of a partition that a plan has is of a line for this partition
  of_task : (t : Telling) → is_failure_of stage number partition t ≡ true → IsPlanned plan t
      → Fails stage partition plan (nth_of t)
  of_task t is planned =
      let a = t.attempt in
      let task = (and_parts (is_of_task stage number partition a)
      (counts t.outcome && is_heard t.answer) is).0 in
      let parts = and_parts (a.stage == stage)
      ((a.stage_attempt == number) && (a.partition == partition)) task in
      let rest = and_parts (a.stage_attempt == number) (a.partition == partition) parts.1 in
      let at = parts.0 in
      let of = rest.1 in
      let same_stage : a.stage ≡ stage = grind (arith, nat_tests, at) in
      let same_partition : a.partition ≡ partition = grind (arith, nat_tests, of) in
      subst (λ s. is_failed plan (place_at s partition a.nth) ≡ true) same_stage
      (subst (λ q. is_failed plan (place_at a.stage q a.nth) ≡ true) same_partition planned)

  -- so some of them, no two of one attempt, are no more than its lines
  pub few_planned : (failures : List Telling)
      → All (λ t. is_failure_of stage number partition t ≡ true) failures
      → All (IsPlanned plan) failures → AllPairs (λ m n. m ≢ n) (map nth_of failures)
      → length failures ≤ planned_failures plan stage partition
  few_planned failures are planned apart =
      let few = few_fail stage partition plan (map nth_of failures) apart
      (All-map (Fails stage partition plan) nth_of failures
      (λ k d l. of_task _ (are k d l) (planned k d l))) in
      let same = length-map failures nth_of in
      omega (arith, few, same)
