-- What readers say is what stands in the lines.
use Rattle.std.proofs.Common.{◌≡◌, ◌∙◌, inl, inr, ℕ, Bool, true, false, List, [], ◌∷◌, ◌++◌, Option, Some, None, refl, ap, sym, subst, arith, if◌then◌else◌}
use Rattle.std.proofs.lemmas.Bool.{both_ways}
use Rattle.std.proofs.lemmas.Bool.Decides.{nat_tests}
use Rattle.std.specs.List.{list_any}
use Rattle.std.specs.Prelude.{Contains, filter_map, slice_get, ◌==◌}
use Rattle.sc_plan.proofs.MemberLemmas.{any_of, contains_cases, contains_first, contains_front, contains_last, contains_more, contains_none, of_any}
use Rattle.sc_plan.specs.Attempts.{delay_at, delay_of, doubles_at, fails_at}
use Rattle.sc_plan.specs.Laws.{ReadersAreExact}
use Rattle.sc_plan.specs.Orders.{loss_in, loss_of}
use Rattle.sc_plan.specs.PlanLines.{AreOnceBehind, is_same_place, repeats}
use Rattle.sc_plan.specs.declared.lines.AttemptPlace.{AttemptPlace}
use Rattle.sc_plan.specs.declared.lines.PlanLine.{PlanLine}
use Rattle.sc_plan.specs.declared.lines.PlanLine.TheVariants as lines

-- places
same_is : (p q : AttemptPlace) → is_same_place p q ≡ true → p ≡ q
same_is p q is =
    let s : p.stage ≡ q.stage = grind (arith, nat_tests) in
    let t : p.partition ≡ q.partition = grind (arith, nat_tests) in
    let n : p.nth ≡ q.nth = grind (arith, nat_tests) in
    λ i. record { stage = s i; partition = t i; nth = n i }

same_self : (p : AttemptPlace) → is_same_place p p ≡ true
same_self p = grind (arith, nat_tests)

fails_means : (p : AttemptPlace) (l : PlanLine) → fails_at p l ≡ true → l ≡ lines.Fail p
fails_means p (lines.Fail q) is = ap lines.Fail (same_is q p is)
fails_means p (lines.Late q c) is = absurd cc
fails_means p (lines.Twice q) is = absurd cc
fails_means p (lines.Drop e a) is = absurd cc
fails_means p (lines.Lose e a t) is = absurd cc
fails_means p (lines.Evict e a) is = absurd cc

doubles_means : (p : AttemptPlace) (l : PlanLine) → doubles_at p l ≡ true → l ≡ lines.Twice p
doubles_means p (lines.Fail q) is = absurd cc
doubles_means p (lines.Late q c) is = absurd cc
doubles_means p (lines.Twice q) is = ap lines.Twice (same_is q p is)
doubles_means p (lines.Drop e a) is = absurd cc
doubles_means p (lines.Lose e a t) is = absurd cc
doubles_means p (lines.Evict e a) is = absurd cc

-- no line repeats one before it
not_any : {X : Type 0} (p : X → Bool) (xs : List X) (y : X) → Contains xs y
    → list_any p xs ≡ false → p y ≡ true → ⊥
not_any p xs y has none is = both_ways (list_any p xs) none (any_of p xs y has is)

once_apart : (before ls : List PlanLine) (l m : PlanLine) → AreOnceBehind before ls
    → Contains before l → Contains ls m → repeats m l ≡ true → ⊥
once_apart before [] l m once has there is = contains_none m there
once_apart before (n ∷ ls) l m once has there is = elim (contains_cases n m ls there) [
  | inl same ↦
      not_any (repeats n) before l has once.0 (subst (λ x. repeats x l ≡ true) (sym same) is)
  | inr later ↦
      once_apart (before ++ n ∷ []) ls l m once.1 (contains_front before l n has) later is
]

-- the first that is found, of lines of which no other repeats it
module _ (f : PlanLine → Option ℕ) (IsLine : ℕ → PlanLine → Type 0)
    (means : (l : PlanLine) (n : ℕ) → f l ≡ Some n → IsLine n l)
    (found : (l : PlanLine) (n : ℕ) → IsLine n l → f l ≡ Some n)
    (again : (l m : PlanLine) (n k : ℕ) → IsLine n l → IsLine k m → repeats m l ≡ true) where
  abbrev first : List PlanLine → Option ℕ
  first ls = slice_get (filter_map f ls) 0

  abbrev Has : ℕ → List PlanLine → Type 0
  Has n ls = (l : PlanLine) × IsLine n l × Contains ls l

  has_more : (n : ℕ) (x : PlanLine) (ls : List PlanLine) → Has n ls → Has n (x ∷ ls)
  has_more n x ls h = (h.0, h.1, contains_more x h.0 ls h.2)

  first_by : (o : Option ℕ) (l : PlanLine) (ls : List PlanLine) (n : ℕ) → f l ≡ o
      → (first ls ≡ Some n → Has n ls) → first (l ∷ ls) ≡ Some n → Has n (l ∷ ls)
  first_by None l ls n is rest e =
      has_more n l ls (rest (rw is at e))
  first_by (Some k) l ls n is rest e =
      let h : Some k ≡ Some n = rw is at e in
      let same : k ≡ n = cc in
      (l, means l n (is ∙ ap Some same), contains_first l ls)

  stands : (ls : List PlanLine) (n : ℕ) → first ls ≡ Some n → Has n ls
  stands [] n e = absurd cc
  stands (l ∷ ls) n e = first_by (f l) l ls n refl (stands ls n) e

  finds_by : (o : Option ℕ) (before : List PlanLine) (l : PlanLine) (ls : List PlanLine) (n : ℕ)
      → f l ≡ o → AreOnceBehind (before ++ l ∷ []) ls → Has n ls → first ls ≡ Some n
      → first (l ∷ ls) ≡ Some n
  finds_by None before l ls n is once h rest = rw is rest
  finds_by (Some k) before l ls n is once h rest =
      absurd (once_apart (before ++ l ∷ []) ls l h.0 once (contains_last before l) h.2
      (again l h.0 k n (means l k is) h.1))

  finds : (before ls : List PlanLine) (n : ℕ) → AreOnceBehind before ls → Has n ls
      → first ls ≡ Some n
  finds before [] n once h = absurd (contains_none h.0 h.2)
  finds before (l ∷ ls) n once h = elim (contains_cases l h.0 ls h.2) [
    | inl same ↦
        let here : f l ≡ Some n = ap f same ∙ found h.0 n h.1 in
        rw here refl
    | inr later ↦
        finds_by (f l) before l ls n refl once.1 (h.0, h.1, later)
        (finds (before ++ l ∷ []) ls n once.1 (h.0, h.1, later))
  ]

-- late reports
delay_by : (b : Bool) (p q : AttemptPlace) (c n : ℕ) → is_same_place q p ≡ b
    → (if b then Some c else None) ≡ Some n → lines.Late q c ≡ lines.Late p n
delay_by true p q c n is e =
    let place : q ≡ p = same_is q p is in
    let count : c ≡ n = cc in
    cc
delay_by false p q c n is e = absurd cc

delay_means : (p : AttemptPlace) (l : PlanLine) (n : ℕ) → delay_at p l ≡ Some n → l ≡ lines.Late p n
delay_means p (lines.Fail q) n e = absurd cc
delay_means p (lines.Late q c) n e = delay_by (is_same_place q p) p q c n refl e
delay_means p (lines.Twice q) n e = absurd cc
delay_means p (lines.Drop e a) n f = absurd cc
delay_means p (lines.Lose e a t) n f = absurd cc
delay_means p (lines.Evict e a) n f = absurd cc

delay_found : (p : AttemptPlace) (l : PlanLine) (n : ℕ) → l ≡ lines.Late p n → delay_at p l ≡ Some n
delay_found p l n is =
    ap (delay_at p) is
    ∙ ap (λ b. if b then Some n else None) (same_self p)

delay_again : (p : AttemptPlace) (l m : PlanLine) (n k : ℕ) → l ≡ lines.Late p n
    → m ≡ lines.Late p k → repeats m l ≡ true
delay_again p l m n k is has =
    ap (λ x. repeats x l) has ∙ ap (repeats (lines.Late p k)) is ∙ same_self p

-- losses
abbrev IsLoss : ℕ → ℕ → PlanLine → Type 0
IsLoss exec told l = (after : ℕ) × (l ≡ lines.Lose exec after told)

loss_by : (b : Bool) (exec e a t n : ℕ) → (e == exec) ≡ b
    → (if b then Some t else None) ≡ Some n → IsLoss exec n (lines.Lose e a t)
loss_by true exec e a t n is f =
    let same : e ≡ exec = grind (arith, nat_tests) in
    let told : t ≡ n = cc in
    (a, cc)
loss_by false exec e a t n is f = absurd cc

loss_means : (exec : ℕ) (l : PlanLine) (n : ℕ) → loss_in exec l ≡ Some n → IsLoss exec n l
loss_means exec (lines.Fail q) n e = absurd cc
loss_means exec (lines.Late q c) n e = absurd cc
loss_means exec (lines.Twice q) n e = absurd cc
loss_means exec (lines.Drop e a) n f = absurd cc
loss_means exec (lines.Lose e a t) n f = loss_by (e == exec) exec e a t n refl f
loss_means exec (lines.Evict e a) n f = absurd cc

self_eq : (n : ℕ) → (n == n) ≡ true
self_eq n = grind (arith, nat_tests)

loss_found : (exec : ℕ) (l : PlanLine) (n : ℕ) → IsLoss exec n l → loss_in exec l ≡ Some n
loss_found exec l n is =
    ap (loss_in exec) is.1 ∙ ap (λ b. if b then Some n else None) (self_eq exec)

loss_again : (exec : ℕ) (l m : PlanLine) (n k : ℕ) → IsLoss exec n l → IsLoss exec k m
    → repeats m l ≡ true
loss_again exec l m n k is has =
    ap (λ x. repeats x l) has.1 ∙ ap (repeats (lines.Lose exec has.0 k)) is.1 ∙ self_eq exec

late_to : (plan : List PlanLine) (p : AttemptPlace) (n : ℕ) → delay_of plan p ≡ Some n
    → Contains plan (lines.Late p n)
late_to plan p n e =
    let h = stands (delay_at p) (λ k l. l ≡ lines.Late p k) (delay_means p) (delay_found p)
    (delay_again p) plan n e in
    subst (λ l. Contains plan l) h.1 h.2

lost_to : (plan : List PlanLine) (exec n : ℕ) → loss_of plan exec ≡ Some n
    → (after : ℕ) × Contains plan (lines.Lose exec after n)
lost_to plan exec n e =
    let h = stands (loss_in exec) (IsLoss exec) (loss_means exec) (loss_found exec)
    (loss_again exec) plan n e in
    (h.1.0, subst (λ l. Contains plan l) h.1.1 h.2)

pub exact : ReadersAreExact
exact plan sound = record {
  failed = λ p. (
    of_any (fails_at p) (lines.Fail p) (fails_means p) plan,
    λ has. any_of (fails_at p) plan (lines.Fail p) has (same_self p),
  );
  doubled = λ p. (
    of_any (doubles_at p) (lines.Twice p) (doubles_means p) plan,
    λ has. any_of (doubles_at p) plan (lines.Twice p) has (same_self p),
  );
  late = λ p n. (
    late_to plan p n,
    λ has. finds (delay_at p) (λ k l. l ≡ lines.Late p k) (delay_means p) (delay_found p)
        (delay_again p) [] plan n sound.once (lines.Late p n, refl, has),
  );
  lost = λ exec n. (
    lost_to plan exec n,
    λ has. finds (loss_in exec) (IsLoss exec) (loss_means exec) (loss_found exec)
        (loss_again exec) [] plan n sound.once
        (lines.Lose exec has.0 n, (has.0, refl), has.1),
  );
}
