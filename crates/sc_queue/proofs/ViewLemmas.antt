-- Reports by executor, and views by pass.
use Rattle.std.proofs.Common.{◌≡◌, ◌≢◌, ◌<◌, ◌⊎◌, ℕ, zero, suc, ◌+◌, ◌==◌, Bool, true, false, true≢false, List, [], ◌∷◌, ◌++◌, length, set, Some, refl, sym, ap, ◌∙◌, subst, inl, inr, ⊎_elim, arith, if◌then◌else◌}
use Rattle.std.specs.Prelude.{slice_get}
use mathlib.Core.Option.{some, some-ne-none, some-injective}
use lib.ListN.{get_elem?}
use Rattle.crossbeam_queue.proofs.Lists.{at_set}
use Rattle.sc_queue.specs.declared.rules.Posted.{Posted}
use Rattle.sc_queue.specs.declared.rules.Hand.{Hand}
use Rattle.sc_queue.specs.declared.rules.Hand.TheVariants.{Executor, Spent}
use Rattle.sc_queue.specs.Rule.{reports_of, AreNumbered}

pub off : false ≡ true → ⊥
off e = true≢false (sym e)

pub if_append : {T : Type 0} → (b : Bool) (p : Posted T) (xs ys : List (Posted T))
    → (if b then p ∷ (xs ++ ys) else xs ++ ys) ≡ (if b then p ∷ xs else xs) ++ ys
if_append {T = T} true p xs ys = refl
if_append {T = T} false p xs ys = refl

pub reports_append : {T : Type 0} → (e : ℕ) (xs ys : List (Posted T))
    → reports_of e (xs ++ ys) ≡ reports_of e xs ++ reports_of e ys
reports_append {T = T} e [] ys = refl
reports_append {T = T} e (p ∷ ps) ys =
    ap (λ rest. if p.exec == e then p ∷ rest else rest) (reports_append e ps ys)
    ∙ if_append (p.exec == e) p (reports_of e ps) (reports_of e ys)

pub one_here : {T : Type 0} → (x : Posted T) (e : ℕ) → x.exec ≡ e → reports_of e (x ∷ []) ≡ x ∷ []
one_here {T = T} x e is = grind (arith)

pub one_else : {T : Type 0} → (x : Posted T) (e k : ℕ) → x.exec ≡ e → k ≢ e
    → reports_of k (x ∷ []) ≡ []
one_else {T = T} x e k is ne = grind (arith)

pub numbered_last : {T : Type 0} → (n : ℕ) (xs : List (Posted T)) (x : Posted T) → AreNumbered n xs
    → x.number ≡ n + length xs → AreNumbered n (xs ++ x ∷ [])
numbered_last {T = T} n [] x h is = (omega arith, tt)
numbered_last {T = T} n (y ∷ ys) x h is = (h.0, numbered_last (suc n) ys x h.1 (omega arith))

pub within : {A : Type 0} (l : List A) (i : ℕ) (a : A) → get_elem? l i ≡ some a → i < length l
within [] i a e = absurd (some-ne-none a (sym e))
within (x ∷ xs) zero a e = omega arith
within (x ∷ xs) (suc i) a e = let h = within xs i a e in omega arith

pub length_set : {A : Type 0} (l : List A) (i : ℕ) (a : A) → length (set l i a) ≡ length l
length_set [] i a = refl
length_set (x ∷ xs) zero a = refl
length_set (x ∷ xs) (suc i) a = ap suc (length_set xs i a)

pub at_snoc_end : {A : Type 0} (l : List A) (a b : A) (j : ℕ) → get_elem? (l ++ a ∷ []) j ≡ some b
    → (get_elem? l j ≡ some b) ⊎ ((j ≡ length l) × (a ≡ b))
at_snoc_end [] a b zero e = inr (refl, some-injective a b e)
at_snoc_end [] a b (suc j) e = absurd (some-ne-none b (sym e))
at_snoc_end (x ∷ xs) a b zero e = inl e
at_snoc_end (x ∷ xs) a b (suc j) e = ⊎_elim (λ t. inl t) (λ t. inr (ap suc t.0, t.1))
    (at_snoc_end xs a b j e)

pub get_front : {A : Type 0} (xs ys : List A) (k : ℕ) (a : A) → slice_get xs k ≡ Some a
    → slice_get (xs ++ ys) k ≡ Some a
get_front [] ys k a e = absurd (cc)
get_front (x ∷ xs) ys zero a e = e
get_front (x ∷ xs) ys (suc k) a e = get_front xs ys k a e

pub get_last : {A : Type 0} (xs : List A) (a : A) → slice_get (xs ++ a ∷ []) (length xs) ≡ Some a
get_last [] a = refl
get_last (x ∷ xs) a = get_last xs a

pub not_spent : {T : Type 0} → (l : List (Hand T)) (i e : ℕ) (pushed : List (Posted T))
    → get_elem? l i ≡ some (Executor e pushed) → get_elem? l i ≡ some Spent → ⊥
not_spent {T = T} l i e pushed a b = absurd (cc)

-- the views where one has changed
abbrev pub All : {T : Type 0} → (ℕ → Hand T → Type 0) → List (Hand T) → Type 0
All {T = T} F views = (pass : ℕ) (v : Hand T) → get_elem? views pass ≡ some v → F pass v

pub all_set : {T : Type 0}
    → (F : ℕ → Hand T → Type 0) (views : List (Hand T)) (pass : ℕ) (w : Hand T) → F pass w
    → ((j : ℕ) (u : Hand T) → j ≢ pass → get_elem? views j ≡ some u → F j u)
    → All F (set views pass w)
all_set {T = T} F views pass w mine others j u e =
    ⊎_elim (λ (x : (j ≡ pass) × (w ≡ u)). subst (λ (y : ℕ × Hand T). F y.0 y.1) (λ i. (
      sym x.0 i,
      x.1 i,
    )) mine)
    (λ (x : (j ≢ pass) × (get_elem? views j ≡ some u)). others j u x.0 x.1)
    (at_set views pass j w u e)
