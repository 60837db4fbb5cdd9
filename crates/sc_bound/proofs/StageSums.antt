-- A sum over the stages of a job, by their numbers.
use Rattle.std.proofs.Common.{◌≡◌, ◌⊎◌, inl, inr, ℕ, zero, suc, ◌+◌, ◌<◌, ◌≤◌, ◌==◌, Bool, true, false, Contains, if◌then◌else◌, List, [], ◌∷◌, get_or, length, refl, ap, subst, ◌∙◌, arith}
use Rattle.std.specs.List.{sum_by}
use Rattle.std.proofs.lemmas.Bool.Decides.{nat_tests}
use Rattle.std.proofs.lemmas.List.Sums.{get_or-le-sum_by, sum_by-cons}
use Rattle.sc_base.specs.Lists.{at_or}
use Rattle.sc_ids.specs.Graphs.{StageData}
use Rattle.sc_bound.proofs.SumLemmas.{total, total_below, total_none, total_sum}

-- a sum over a list, by a bound for each place
pub sum_places : {A : Type 0} (f : A → ℕ) (h : ℕ → ℕ) (xs : List A) (d : A) (n : ℕ)
    → ((e : ℕ) → f (at_or xs e d) ≤ h (n + e)) → sum_by f xs ≤ total h n (length xs)
sum_places f h [] d n le = omega arith
sum_places f h (x ∷ xs) d n le =
    let here : n + 0 ≡ n = omega arith in
    let one : f x ≤ h n = subst (λ (k : ℕ). f x ≤ h k) here (le 0) in
    let more : sum_by f xs ≤ total h (suc n) (length xs) = sum_places f h xs d (suc n) next in
    let all = sum_by-cons f x xs in
    omega (arith, one, more, all)
  where
    next : (e : ℕ) → f (at_or xs e d) ≤ h (suc n + e)
    next e =
        let same : n + suc e ≡ suc n + e = omega arith in
        subst (λ (k : ℕ). f (at_or xs e d) ≤ h k) same (le (suc e))

-- so much at a number, and nothing elsewhere
abbrev much_at : ℕ → ℕ → ℕ → ℕ
much_at x y e = if x == e then y else 0

much_behind : (x y n m : ℕ) → x < n → total (much_at x y) n m ≡ 0
much_behind x y n zero lt = refl
much_behind x y n (suc m) lt =
    let apart : (x == n) ≡ false = grind (arith, nat_tests, lt) in
    let more = much_behind x y (suc n) m (omega (arith, lt)) in
    rw apart (omega (arith, more))

total_much : (x y n m : ℕ) → total (much_at x y) n m ≤ y
total_much x y n zero = omega arith
total_much x y n (suc m) = by (x == n) refl (total_much x y (suc n) m)
  where
    by : (b : Bool) → (x == n) ≡ b → total (much_at x y) (suc n) m ≤ y
        → (if b then y else 0) + total (much_at x y) (suc n) m ≤ y
    by true e rest =
        let is : x ≡ n = grind (arith, nat_tests, e) in
        let none = much_behind x y (suc n) m (omega (arith, is)) in
        omega (arith, none)
    by false e rest = omega (arith, rest)

-- what stages of a number add
abbrev at_number : (StageData → ℕ) → List StageData → ℕ → ℕ
at_number f graph e = sum_by (λ stage. much_at stage.id (f stage) e) graph

total_stages : (f : StageData → ℕ) (graph : List StageData) (n m : ℕ)
    → total (at_number f graph) n m ≤ sum_by f graph
total_stages f [] n m = let none = total_none n m in omega (arith, none)
total_stages f (g ∷ graph) n m =
    let split = total_below (at_number f (g ∷ graph))
    (λ e. much_at g.id (f g) e + at_number f graph e) n m
    (λ e. (let is = sum_by-cons (λ (s : StageData). much_at s.id (f s) e) g graph in
    omega (arith, is))) in
    let both = total_sum (much_at g.id (f g)) (at_number f graph) n m in
    let one = total_much g.id (f g) n m in
    let more = total_stages f graph n m in
    let all = sum_by-cons f g graph in
    omega (arith, split, both, one, more, all)

-- a sum over stages by their numbers is one over those that a job has
pub sum_numbered : (f : StageData → ℕ) (graph stages : List StageData) (none : StageData)
    → f none ≡ 0
    → ((s : ℕ) → (at_or stages s none ≡ none)
    ⊎ (Contains graph (at_or stages s none) × ((at_or stages s none).id ≡ s)))
    → sum_by f stages ≤ sum_by f graph
sum_numbered f graph stages none nothing only =
    let places = sum_places f (at_number f graph) stages none 0 each in
    let all = total_stages f graph 0 (length stages) in
    omega (arith, places, all)
  where
    there : (e : ℕ) (x : StageData) → Contains graph x → x.id ≡ e → f x ≤ at_number f graph e
    there e x (i, l, is) same =
        let le = get_or-le-sum_by (λ (s : StageData). much_at s.id (f s) e) graph i x l in
        let it : (x.id == e) ≡ true = grind (arith, nat_tests, same) in
        let term : much_at (get_or graph i x).id (f (get_or graph i x)) e ≡ f x =
        ap (λ (s : StageData). much_at s.id (f s) e) is ∙ rw it refl in
        omega (arith, le, term)

    each : (e : ℕ) → f (at_or stages e none) ≤ at_number f graph (0 + e)
    each e =
        let same : e ≡ 0 + e = omega arith in
        subst (λ (k : ℕ). f (at_or stages e none) ≤ at_number f graph k) same (by (only e))
      where
        by : (at_or stages e none ≡ none)
            ⊎ (Contains graph (at_or stages e none) × ((at_or stages e none).id ≡ e))
            → f (at_or stages e none) ≤ at_number f graph e
        by (inl is) = let zero = ap f is ∙ nothing in omega (arith, zero)
        by (inr (among, id)) = there e (at_or stages e none) among id
