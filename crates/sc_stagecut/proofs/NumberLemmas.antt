-- Lists of sides, and numbers given one after another.
use Rattle.std.proofs.Common.{◌≡◌, ◌∙◌, ℕ, zero, suc, ◌+◌, ◌<◌, Bool, true, false, cond, if◌then◌else◌, List, [], ◌∷◌, ◌++◌, length, take, filter, get_or, flat_map, refl, ap, sym, arith, append_assoc}
use Rattle.std.proofs.lemmas.Grind.{flat_map-append}
use Rattle.std.proofs.lemmas.List.{append-nil, take_more}
use Rattle.std.proofs.lemmas.List.Elements.{filter-append}
use Rattle.sc_base.specs.Lists.{numbers_below}
use Rattle.sc_ids.specs.declared.blocks.ShuffleId.{ShuffleId}
use Rattle.sc_lineage.proofs.PlaceLemmas.{numbers_from-more}
use Rattle.sc_stagecut.specs.Numbering.{in_side_order, is_of, numbered, numbered_from, side_of, sides_below}
use Rattle.sc_stagecut.specs.declared.carried.Numbered.{Numbered}

-- the sides of one node more
pub sides_below-more : (k : ℕ)
    → sides_below (suc k) ≡ sides_below k ++ side_of k 0 ∷ side_of k 1 ∷ []
sides_below-more k =
    ap (flat_map (λ i. side_of i 0 ∷ side_of i 1 ∷ [])) (numbers_from-more 0 k)
    ∙ behind (numbers_below k) (0 + k)
    ∙ ap (λ i. sides_below k ++ side_of i 0 ∷ side_of i 1 ∷ []) (omega arith)
  where
    behind : (ns : List ℕ) (n : ℕ)
        → flat_map (λ i. side_of i 0 ∷ side_of i 1 ∷ []) (ns ++ n ∷ [])
        ≡ flat_map (λ i. side_of i 0 ∷ side_of i 1 ∷ []) ns ++ side_of n 0 ∷ side_of n 1 ∷ []
    behind [] n = refl
    behind (m ∷ ns) n = ap (λ ss. side_of m 0 ∷ side_of m 1 ∷ ss) (behind ns n)

-- the sides of one node more, of which some are kept
pub filter_sides-more : (test : ShuffleId → Bool) (k : ℕ) (xs ys zs : List ShuffleId)
    → xs ≡ filter test (sides_below k)
    → ys ≡ xs ++ (if test (side_of k 0) then side_of k 0 ∷ [] else [])
    → zs ≡ ys ++ (if test (side_of k 1) then side_of k 1 ∷ [] else [])
    → zs ≡ filter test (sides_below (k + 1))
filter_sides-more test k xs ys zs so_far left right =
    let first = side_of k 0 in
    let second = side_of k 1 in
    let number : suc k ≡ k + 1 = omega arith in
    right
    ∙ ap (λ ss. ss ++ (if test second then second ∷ [] else [])) left
    ∙ append_assoc xs (if test first then first ∷ [] else [])
    (if test second then second ∷ [] else [])
    ∙ ap (λ ss. ss ++ ((if test first then first ∷ [] else [])
    ++ (if test second then second ∷ [] else []))) so_far
    ∙ ap (λ ss. filter test (sides_below k) ++ ss) (both (test first) (test second))
    ∙ sym (filter-append test (sides_below k) (first ∷ second ∷ []))
    ∙ ap (filter test) (sym (sides_below-more k))
    ∙ ap (λ n. filter test (sides_below n)) number
  where
    both : (a b : Bool)
        → (if a then side_of k 0 ∷ [] else []) ++ (if b then side_of k 1 ∷ [] else [])
        ≡ cond a (side_of k 0 ∷ cond b (side_of k 1 ∷ []) []) (cond b (side_of k 1 ∷ []) [])
    both true true = refl
    both true false = refl
    both false true = refl
    both false false = refl

-- numbered shuffles of the sides of one node more
pub in_side_order-more : (numbers : List Numbered) (k : ℕ) (xs ys zs : List Numbered)
    → xs ≡ in_side_order k numbers
    → ys ≡ xs ++ filter (is_of (side_of k 0)) numbers
    → zs ≡ ys ++ filter (is_of (side_of k 1)) numbers
    → zs ≡ in_side_order (k + 1) numbers
in_side_order-more numbers k xs ys zs so_far left right =
    let those : ShuffleId → List Numbered = λ s. filter (is_of s) numbers in
    let first = those (side_of k 0) in
    let second = those (side_of k 1) in
    let number : suc k ≡ k + 1 = omega arith in
    right
    ∙ ap (λ (ns : List Numbered). ns ++ second)
    (left ∙ ap (λ (ns : List Numbered). ns ++ first) so_far)
    ∙ append_assoc (in_side_order k numbers) first second
    ∙ ap (λ (ns : List Numbered). in_side_order k numbers ++ (first ++ ns))
    (sym (append-nil second))
    ∙ sym (flat_map-append those (sides_below k) (side_of k 0 ∷ side_of k 1 ∷ []))
    ∙ ap (flat_map those) (sym (sides_below-more k))
    ∙ ap (λ n. in_side_order n numbers) number

-- one shuffle more gets the next number
numbered_from-push : (first : ℕ) (xs : List ShuffleId) (x : ShuffleId)
    → numbered_from first (xs ++ x ∷ [])
    ≡ numbered_from first xs ++ numbered x (first + length xs) ∷ []
numbered_from-push first [] x =
    let number : first ≡ first + 0 = omega arith in ap (λ n. numbered x n ∷ []) number
numbered_from-push first (y ∷ xs) x =
    let number : suc first + length xs ≡ first + suc (length xs) = omega arith in
    ap (λ ns. numbered y first ∷ ns)
    (numbered_from-push (suc first) xs x
    ∙ ap (λ n. numbered_from (suc first) xs ++ numbered x n ∷ []) number)

pub numbered_from-more : (old so_far more : List Numbered) (first stage i : ℕ)
    (xs : List ShuffleId) (d : ShuffleId) → i < length xs
    → so_far ≡ old ++ numbered_from first (take i xs) → stage ≡ first + i
    → more ≡ so_far ++ numbered (get_or xs i d) stage ∷ []
    → more ≡ old ++ numbered_from first (take (i + 1) xs)
numbered_from-more old so_far more first stage i xs d within is number pushed =
    let x = get_or xs i d in
    let len : first + length (take i xs) ≡ first + i = ap (λ n. first + n) (taken xs i within) in
    pushed
    ∙ ap (λ ns. ns ++ numbered x stage ∷ []) is
    ∙ append_assoc old (numbered_from first (take i xs)) (numbered x stage ∷ [])
    ∙ ap (λ n. old ++ (numbered_from first (take i xs) ++ numbered x n ∷ [])) (number ∙ sym len)
    ∙ ap (λ ns. old ++ ns) (sym (numbered_from-push first (take i xs) x))
    ∙ ap (λ ys. old ++ numbered_from first ys) (sym (take_more xs i d within))
  where
    taken : (ys : List ShuffleId) (j : ℕ) → j < length ys → length (take j ys) ≡ j
    taken ys zero h = refl
    taken [] (suc j) h = absurd (omega arith)
    taken (y ∷ ys) (suc j) h = ap suc (taken ys j (omega arith))
