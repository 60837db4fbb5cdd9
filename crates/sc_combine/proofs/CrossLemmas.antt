-- Values of two sides beside one another, at places that are crossed group by group.
use Rattle.std.proofs.Common.{◌≡◌, ◌∙◌, ℕ, zero, suc, ◌+◌, ◌<◌, List, [], ◌∷◌, ◌++◌, Some, length, map, take, replicate, refl, ap, ap₂, sym, subst, arith, append-nil, append_assoc}
use Rattle.std.proofs.lemmas.List.{length-append, length-map, length-replicate, length-take, take_more}
use Rattle.std.proofs.lemmas.List.Elements.{All-append, All-cons, All-head, All-nil, All-replicate, All-tail, filter_map-append}
use Rattle.std.proofs.lemmas.Option.{get_or_from_slice_get, slice_get-map, slice_get_within}
use Rattle.std.specs.List.{All, concat, cons_option, flat_map, slice_get}
use Rattle.std.specs.Option.{option_map}
use Rattle.sc_columns.specs.Columns.{zip_with}
use Rattle.sc_columns.proofs.ListLemmas.{length-zip_with, there, zip_with-append}
use Rattle.sc_value.specs.Datum.{Datum, pair}
use Rattle.sc_value.specs.Picked.{ArePlaces, picked}
use Rattle.sc_combine.specs.Crossings.{AreCrossed, beside, crossed, crossed_beside}

-- places at which each has an item give hs many items
length_at : {X : Type 0} (xs : List X) (p : ℕ) (r : List X) → p < length xs
    → length (cons_option (slice_get xs p) r) ≡ suc (length r)
length_at xs p r within = ap (λ o. length (cons_option o r)) (there xs p within).1

pub length-picked : {X : Type 0} (xs : List X) (ps : List ℕ) → ArePlaces xs ps
    → length (picked xs ps) ≡ length ps
length-picked xs [] all = refl
length-picked xs (p ∷ ps) all =
    length_at xs p (picked xs ps) (All-head (λ i. i < length xs) p ps all)
    ∙ ap suc (length-picked xs ps (All-tail (λ i. i < length xs) p ps all))

module _ (keys left right : List Datum) where
  beside-append : (hs gs bs ls cs rs : List ℕ) → length hs ≡ length bs → length bs ≡ length cs
      → ArePlaces keys hs → ArePlaces left bs → ArePlaces right cs
      → beside keys left right (hs ++ gs) (bs ++ ls) (cs ++ rs)
      ≡ beside keys left right hs bs cs ++ beside keys left right gs ls rs
  beside-append hs gs bs ls cs rs level next of_keys of_left of_right =
      let a = picked keys hs in
      let b = picked left bs in
      let c = picked right cs in
      let na = length-picked keys hs of_keys in
      let nb = length-picked left bs of_left in
      let nc = length-picked right cs of_right in
      let inner : length b ≡ length c = omega (arith, nb, nc, next) in
      let size = length-zip_with pair b c in
      let outer : length a ≡ length (zip_with pair b c) =
      omega (arith, na, nb, nc, level, next, size) in
      ap₂ (zip_with pair) (filter_map-append (slice_get keys) hs gs)
      (ap₂ (zip_with pair) (filter_map-append (slice_get left) bs ls)
      (filter_map-append (slice_get right) cs rs)
      ∙ zip_with-append pair b (picked left ls) c (picked right rs) inner)
      ∙ zip_with-append pair a (picked keys gs) (zip_with pair b c)
      (zip_with pair (picked left ls) (picked right rs)) outer

  module _ (j : ℕ) (key : Datum) (own : slice_get keys j ≡ Some key) where
    -- one value on the left
    one_row : (p : ℕ) (v : Datum) → slice_get left p ≡ Some v → (R : List ℕ) → ArePlaces right R
        → beside keys left right (replicate (length R) j) (replicate (length R) p) R
        ≡ map (λ w. pair key (pair v w)) (picked right R)
    one_row p v at [] all = refl
    one_row p v at (q ∷ R) all =
        let next = there right q (All-head (λ i. i < length right) q R all) in
        let rest = one_row p v at R (All-tail (λ i. i < length right) q R all) in
        let gs = replicate (length R) j in
        let ls = replicate (length R) p in
        ap (λ o. zip_with pair (cons_option o (picked keys gs))
        (zip_with pair (cons_option (slice_get left p) (picked left ls))
        (cons_option (slice_get right q) (picked right R)))) own
        ∙ ap (λ o. zip_with pair (key ∷ picked keys gs)
        (zip_with pair (cons_option o (picked left ls))
        (cons_option (slice_get right q) (picked right R)))) at
        ∙ ap (λ o. zip_with pair (key ∷ picked keys gs)
        (zip_with pair (v ∷ picked left ls) (cons_option o (picked right R)))) next.1
        ∙ ap (λ r. pair key (pair v next.0) ∷ r) rest
        ∙ sym (ap (λ o. map (λ w. pair key (pair v w)) (cons_option o (picked right R))) next.1)

    -- the places of one group
    group_rows : (L R : List ℕ) → ArePlaces left L → ArePlaces right R
        → beside keys left right (flat_map (λ p. replicate (length R) j) L)
        (flat_map (λ p. replicate (length R) p) L) (flat_map (λ p. R) L)
        ≡ crossed_beside key (picked left L) (picked right R)
    group_rows [] R in_left in_right = refl
    group_rows (p ∷ L) R in_left in_right =
        let n = length R in
        let within = All-head (λ i. i < length left) p L in_left in
        let here = there left p within in
        let same : length (replicate n j) ≡ length (replicate n p) =
        length-replicate n j ∙ sym (length-replicate n p) in
        beside-append (replicate n j) (flat_map (λ p. replicate n j) L) (replicate n p)
        (flat_map (λ p. replicate n p) L) R (flat_map (λ p. R) L) same (length-replicate n p)
        (All-replicate (λ i. i < length keys) n j (slice_get_within keys j key own))
        (All-replicate (λ i. i < length left) n p within) in_right
        ∙ ap₂ (λ a b. a ++ b) (one_row p here.0 here.1 R in_right)
        (group_rows L R (All-tail (λ i. i < length left) p L in_left) in_right)
        ∙ sym (ap (λ o. crossed_beside key (cons_option o (picked left L)) (picked right R)) here.1)

-- the lengths and the places of what is crossed
length-same : (n j : ℕ) (L : List ℕ)
    → length (flat_map (λ p. replicate n j) L) ≡ length (flat_map (λ p. replicate n p) L)
length-same n j [] = refl
length-same n j (p ∷ L) =
    length-append (replicate n j) (flat_map (λ p. replicate n j) L)
    ∙ ap₂ (λ a b. a + b) (length-replicate n j ∙ sym (length-replicate n p)) (length-same n j L)
    ∙ sym (length-append (replicate n p) (flat_map (λ p. replicate n p) L))

length-other : (R L : List ℕ)
    → length (flat_map (λ p. replicate (length R) p) L) ≡ length (flat_map (λ p. R) L)
length-other R [] = refl
length-other R (p ∷ L) =
    length-append (replicate (length R) p) (flat_map (λ p. replicate (length R) p) L)
    ∙ ap₂ (λ a b. a + b) (length-replicate (length R) p) (length-other R L)
    ∙ sym (length-append R (flat_map (λ p. R) L))

module _ (P : ℕ → Type 0) where
  All-groups : (n j : ℕ) (L : List ℕ) → P j → All P (flat_map (λ p. replicate n j) L)
  All-groups n j [] here = All-nil P
  All-groups n j (p ∷ L) here =
      All-append P (replicate n j) (flat_map (λ p. replicate n j) L) (All-replicate P n j here)
      (All-groups n j L here)

  All-lefts : (n : ℕ) (L : List ℕ) → All P L → All P (flat_map (λ p. replicate n p) L)
  All-lefts n [] all = All-nil P
  All-lefts n (p ∷ L) all =
      All-append P (replicate n p) (flat_map (λ p. replicate n p) L)
      (All-replicate P n p (All-head P p L all)) (All-lefts n L (All-tail P p L all))

  All-rights : (R L : List ℕ) → All P R → All P (flat_map (λ p. R) L)
  All-rights R [] all = All-nil P
  All-rights R (p ∷ L) all = All-append P R (flat_map (λ p. R) L) all (All-rights R L all)

  front : (xs ys : List ℕ) → All P (xs ++ ys) → All P xs
  front [] ys all = All-nil P
  front (x ∷ xs) ys all =
      All-cons P x xs (All-head P x (xs ++ ys) all) (front xs ys (All-tail P x (xs ++ ys) all))

  back : (xs ys : List ℕ) → All P (xs ++ ys) → All P ys
  back [] ys all = all
  back (x ∷ xs) ys all = back xs ys (All-tail P x (xs ++ ys) all)

  -- what holds of all places holds of those of a group
  All-group : (pss : List (List ℕ)) (j : ℕ) (ps : List ℕ) → All P (concat pss)
      → slice_get pss j ≡ Some ps → All P ps
  All-group [] j ps all at = absurd (cc)
  All-group (qs ∷ pss) zero ps all at =
      let e : qs ≡ ps = cc in subst (All P) e (front qs (concat pss) all)
  All-group (qs ∷ pss) (suc j) ps all at = All-group pss j ps (back qs (concat pss) all) at

-- one more group
crossed_push : (keys : List Datum) (lefts rights : List (List Datum)) (key : Datum)
    (l r : List Datum) → length keys ≡ length lefts → length lefts ≡ length rights
    → crossed (keys ++ key ∷ []) (lefts ++ l ∷ []) (rights ++ r ∷ [])
    ≡ crossed keys lefts rights ++ crossed_beside key l r
crossed_push [] [] [] key l r level next = append-nil (crossed_beside key l r)
crossed_push [] [] (x ∷ rights) key l r level next = absurd (omega arith)
crossed_push [] (x ∷ lefts) rights key l r level next = absurd (omega arith)
crossed_push (k ∷ keys) [] rights key l r level next = absurd (omega arith)
crossed_push (k ∷ keys) (a ∷ lefts) [] key l r level next = absurd (omega arith)
crossed_push (k ∷ keys) (a ∷ lefts) (b ∷ rights) key l r level next =
    ap (λ xs. crossed_beside k a b ++ xs)
    (crossed_push keys lefts rights key l r (omega arith) (omega arith))
    ∙ sym (append_assoc (crossed_beside k a b) (crossed keys lefts rights)
    (crossed_beside key l r))

module _ (keys left right : List Datum) (lps rps : List (List ℕ))
    (of_left : ArePlaces left (concat lps)) (of_right : ArePlaces right (concat rps))
    (left_level : length lps ≡ length keys) (right_level : length rps ≡ length keys) where
  abbrev lefts : List (List Datum)
  lefts = map (picked left) lps

  abbrev rights : List (List Datum)
  rights = map (picked right) rps

  taken : (pss : List (List ℕ)) (values : List Datum) (j : ℕ) (ps : List ℕ)
      → slice_get pss j ≡ Some ps
      → take (j + 1) (map (picked values) pss)
      ≡ take j (map (picked values) pss) ++ picked values ps ∷ []
  taken pss values j ps at =
      let all = map (picked values) pss in
      let got : slice_get all j ≡ Some (picked values ps) =
      slice_get-map (picked values) pss j ∙ ap (option_map (picked values)) at in
      take_more all j (picked values ps) (slice_get_within all j (picked values ps) got)
      ∙ ap (λ x. take j all ++ x ∷ []) (get_or_from_slice_get all j (picked values ps)
      (picked values ps) got)

  pub crossed_more : (j : ℕ) (L R gs ls rs gs2 ls2 rs2 : List ℕ) → j < length keys
      → slice_get lps j ≡ Some L → slice_get rps j ≡ Some R
      → gs2 ≡ gs ++ flat_map (λ p. replicate (length R) j) L
      → ls2 ≡ ls ++ flat_map (λ p. replicate (length R) p) L → rs2 ≡ rs ++ flat_map (λ p. R) L
      → AreCrossed keys left right lefts rights j gs ls rs
      → AreCrossed keys left right lefts rights (j + 1) gs2 ls2 rs2
  crossed_more j L R gs ls rs gs2 ls2 rs2 below at_left at_right gs_is ls_is rs_is so_far =
      let n = length R in
      let own = there keys j below in
      let in_left = All-group (λ i. i < length left) lps j L of_left at_left in
      let in_right = All-group (λ i. i < length right) rps j R of_right at_right in
      let G = flat_map (λ p. replicate n j) L in
      let LL = flat_map (λ p. replicate n p) L in
      let RR = flat_map (λ p. R) L in
      let taken_keys : take (j + 1) keys ≡ take j keys ++ own.0 ∷ [] =
      take_more keys j own.0 below
      ∙ ap (λ x. take j keys ++ x ∷ []) (get_or_from_slice_get keys j own.0 own.0 own.1) in
      let a = length-take j keys in
      let b = length-take j lefts in
      let c = length-take j rights in
      let d = length-map lps (picked left) in
      let e = length-map rps (picked right) in
      record {
        are = beside_is gs2 ls2 rs2 gs_is ls_is rs_is
            ∙ beside-append keys left right gs G ls LL rs RR so_far.level_left so_far.level_right
            so_far.key_places so_far.left_places so_far.right_places
            ∙ ap₂ (λ x y. x ++ y) so_far.are (group_rows keys left right j own.0 own.1 L R in_left
            in_right)
            ∙ sym (crossed_push (take j keys) (take j lefts) (take j rights) own.0 (picked left L)
            (picked right R) (omega (arith, a, b, d)) (omega (arith, b, c, d, e)))
            ∙ sym (crossed_is taken_keys (taken lps left j L at_left)
            (taken rps right j R at_right));
        level_left = ap length gs_is ∙ length-append gs G
            ∙ ap₂ (λ x y. x + y) so_far.level_left (length-same n j L)
            ∙ sym (ap length ls_is ∙ length-append ls LL);
        level_right = ap length ls_is ∙ length-append ls LL
            ∙ ap₂ (λ x y. x + y) so_far.level_right (length-other R L)
            ∙ sym (ap length rs_is ∙ length-append rs RR);
        key_places = subst (ArePlaces keys) (sym gs_is)
            (All-append (λ i. i < length keys) gs G so_far.key_places
            (All-groups (λ i. i < length keys) n j L below));
        left_places = subst (ArePlaces left) (sym ls_is)
            (All-append (λ i. i < length left) ls LL so_far.left_places
            (All-lefts (λ i. i < length left) n L in_left));
        right_places = subst (ArePlaces right) (sym rs_is)
            (All-append (λ i. i < length right) rs RR so_far.right_places
            (All-rights (λ i. i < length right) R L in_right));
      }
    where
      beside_is : (hs bs cs : List ℕ) {xs ys zs : List ℕ} → hs ≡ xs → bs ≡ ys → cs ≡ zs
          → beside keys left right hs bs cs ≡ beside keys left right xs ys zs
      beside_is hs bs cs p q r =
          ap₂ (zip_with pair) (ap (picked keys) p)
          (ap₂ (zip_with pair) (ap (picked left) q) (ap (picked right) r))

      crossed_is : {ks ms : List Datum} {hs bs cs ds : List (List Datum)} → ks ≡ ms → hs ≡ bs
          → cs ≡ ds → crossed ks hs cs ≡ crossed ms bs ds
      crossed_is {ks} {ms} {hs} {bs} {cs} {ds} p q r =
          ap (λ x. crossed x hs cs) p ∙ ap₂ (λ x y. crossed ms x y) q r

  -- no group yet
  pub crossed_none : AreCrossed keys left right lefts rights 0 [] [] []
  crossed_none = record {
    are = refl;
    level_left = refl;
    level_right = refl;
    key_places = All-nil (λ i. i < length keys);
    left_places = All-nil (λ i. i < length left);
    right_places = All-nil (λ i. i < length right);
  }
