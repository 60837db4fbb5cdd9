-- Items that are kept.
use Rattle.std.proofs.Common.{◌≡◌, ◌∙◌, ℕ, zero, suc, ◌+◌, ◌-◌, ◌<◌, ◌≤◌, min, Bool, true, false, List, [], ◌∷◌, ◌++◌, length, map, take, drop, get_or, slice_set, refl, ap, ap₂, sym, arith, add-one}
use Rattle.std.proofs.lemmas.List.{drop-drop, drop_more, append_assoc, append-nil, length-drop, take-set, take_more_set}
use Rattle.std.specs.Int.{from_bool}
use Rattle.std.specs.List.{All}
use Rattle.std.proofs.lemmas.List.Elements.{All-head, All-tail, All-cons, All-nil}
use Rattle.sc_value.specs.Kept.{kept}

-- what a function gives of the items that are kept, and what holds of them
pub kept-map : {X Y : Type 0} (f : X → Y) (bs : List Bool) (xs : List X)
    → map f (kept bs xs) ≡ kept bs (map f xs)
kept-map f [] xs = refl
kept-map f (b ∷ bs) [] = refl
kept-map f (true ∷ bs) (x ∷ xs) = ap (λ ys. f x ∷ ys) (kept-map f bs xs)
kept-map f (false ∷ bs) (x ∷ xs) = kept-map f bs xs

pub All-kept : {X : Type 0} (P : X → Type 0) (bs : List Bool) (xs : List X) → All P xs
    → All P (kept bs xs)
All-kept P [] xs all = All-nil P
All-kept P (b ∷ bs) [] all = All-nil P
All-kept P (true ∷ bs) (x ∷ xs) all =
    All-cons P x (kept bs xs) (All-head P x xs all) (All-kept P bs xs (All-tail P x xs all))
All-kept P (false ∷ bs) (x ∷ xs) all = All-kept P bs xs (All-tail P x xs all)

-- one place more, which is marked
pub kept_yes : {X : Type 0} (bs : List Bool) (xs out after all : List X) (i : ℕ) (x : X)
    → i < length bs → i < length xs
    → get_or bs i false ≡ true → x ≡ get_or xs i x → after ≡ out ++ x ∷ []
    → out ++ kept (drop i bs) (drop i xs) ≡ all
    → after ++ kept (drop (i + 1) bs) (drop (i + 1) xs) ≡ all
kept_yes bs xs out after all i x p q mark at is before =
    let rest = kept (drop (i + 1) bs) (drop (i + 1) xs) in
    let one : kept (drop i bs) (drop i xs) ≡ get_or xs i x ∷ rest =
    rw (drop_more bs i false p, drop_more xs i x q, mark) refl in
    rw is (append_assoc out (x ∷ []) rest
    ∙ ap (λ ys. out ++ ys) (sym (one ∙ ap (λ y. y ∷ rest) (sym at))) ∙ before)

kept_skip : {X : Type 0} (bs : List Bool) (xs : List X) (i : ℕ) → i < length bs → i < length xs
    → get_or bs i false ≡ false
    → kept (drop i bs) (drop i xs) ≡ kept (drop (suc i) bs) (drop (suc i) xs)
kept_skip [] xs i p q mark = absurd (omega arith)
kept_skip (b ∷ bs) [] i p q mark = absurd (omega arith)
kept_skip (b ∷ bs) (x ∷ xs) zero p q mark = ap (λ m. kept (m ∷ bs) (x ∷ xs)) mark
kept_skip (b ∷ bs) (x ∷ xs) (suc i) p q mark = kept_skip bs xs i (omega arith) (omega arith) mark

-- one place more, which isn't marked
pub kept_no : {X : Type 0} (bs : List Bool) (xs out after all : List X) (i : ℕ)
    → i < length bs → i < length xs
    → get_or bs i false ≡ false → after ≡ out
    → out ++ kept (drop i bs) (drop i xs) ≡ all
    → after ++ kept (drop (i + 1) bs) (drop (i + 1) xs) ≡ all
kept_no bs xs out after all i p q mark is before =
    rw (is, add-one) (ap (λ ys. out ++ ys) (sym (kept_skip bs xs i p q mark)) ∙ before)

kept_past : {X : Type 0} (bs : List Bool) (xs : List X) → min (length xs) (length bs) ≡ 0
    → kept bs xs ≡ []
kept_past [] xs past = refl
kept_past (b ∷ bs) [] past = refl
kept_past (b ∷ bs) (x ∷ xs) past = absurd (omega arith)

-- no place is left
pub kept_all : {X : Type 0} (bs : List Bool) (xs out all : List X) (i : ℕ)
    → min (length xs) (length bs) ≤ i
    → out ++ kept (drop i bs) (drop i xs) ≡ all → out ≡ all
kept_all bs xs out all i past before =
    let none = kept_past (drop i bs) (drop i xs)
    (omega (arith, length-drop i bs, length-drop i xs)) in
    sym (append-nil out) ∙ ap (λ k. out ++ k) (sym none) ∙ before

-- one place more, whose item is written and stays where the place is marked
pub kept_next : {X : Type 0} (bs : List Bool) (xs out all : List X) (n m i : ℕ) (b : Bool) (x : X)
    → i < length bs → i < length xs → n < length out
    → get_or bs i false ≡ b → m ≡ from_bool b → x ≡ get_or xs i x
    → take n out ++ kept (drop i bs) (drop i xs) ≡ all
    → take (n + m) (slice_set out n x) ++ kept (drop (i + 1) bs) (drop (i + 1) xs) ≡ all
kept_next bs xs out all n m i true x p q r mark step at before =
    kept_yes bs xs (take n out) _ all i x p q mark at
    (ap (λ k. take (n + k) (slice_set out n x)) step ∙ take_more_set out n x r) before
kept_next bs xs out all n m i false x p q r mark step at before =
    let stays : n + m ≡ n = omega (arith, step) in
    kept_no bs xs (take n out) _ all i p q mark
    (ap (λ k. take k (slice_set out n x)) stays ∙ take-set out n x) before

-- a mark counts for one at most
pub step_below : (b : Bool) (m : ℕ) → m ≡ from_bool b → m ≤ 1
step_below true m step = omega (arith, step)
step_below false m step = omega (arith, step)

kept_none : {X : Type 0} (bs : List Bool) → let none : List X = [] in none ≡ kept bs none
kept_none [] = refl
kept_none (b ∷ bs) = refl

-- what is kept of some first items, and what of the others
kept-split : {X : Type 0} (k : ℕ) (bs : List Bool) (xs : List X)
    → kept bs xs ≡ kept (take k bs) (take k xs) ++ kept (drop k bs) (drop k xs)
kept-split zero bs xs = refl
kept-split (suc k) [] xs = refl
kept-split (suc k) (b ∷ bs) [] = kept_none (drop k bs)
kept-split (suc k) (true ∷ bs) (x ∷ xs) = ap (λ ys. x ∷ ys) (kept-split k bs xs)
kept-split (suc k) (false ∷ bs) (x ∷ xs) = kept-split k bs xs

-- the items of one more block
pub kept_more : {X : Type 0} (bs : List Bool) (xs out after all : List X) (from to : ℕ)
    → from ≤ to
    → after ≡ out ++ kept (take (to - from) (drop from bs)) (take (to - from) (drop from xs))
    → out ++ kept (drop from bs) (drop from xs) ≡ all
    → after ++ kept (drop to bs) (drop to xs) ≡ all
kept_more bs xs out after all from to le is before =
    let k = to - from in
    let whole : from + k ≡ to = omega (arith, le) in
    let here = kept (take k (drop from bs)) (take k (drop from xs)) in
    let rest = kept (drop to bs) (drop to xs) in
    let split : kept (drop from bs) (drop from xs) ≡ here ++ rest =
    kept-split k (drop from bs) (drop from xs)
    ∙ ap₂ (λ ms ys. here ++ kept ms ys)
    (drop-drop k from bs ∙ ap (λ n. drop n bs) whole)
    (drop-drop k from xs ∙ ap (λ n. drop n xs) whole) in
    ap (λ ys. ys ++ rest) is ∙ append_assoc out here rest
    ∙ ap (λ ys. out ++ ys) (sym split) ∙ before
