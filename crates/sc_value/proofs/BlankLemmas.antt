-- How far the next blank is, by the bytes that are compared at once.
use Rattle.std.proofs.Common.{◌≡◌, ◌∙◌, ℕ, zero, suc, ◌+◌, ◌-◌, ◌%◌, ◌^◌, ◌<◌, Bool, true, false, not, ◌||◌, cond, eqb, List, [], ◌∷◌, ap, arith, bit_or, drop, length, map, min, refl, replicate, take}
use Rattle.std.proofs.lemmas.List.{length-map}
use Rattle.std.proofs.lemmas.Simd.{first_set_mask_l, map-map, mask_l-mod, zip2_of_maps, zip2_splat}
use Rattle.std.specs.Int.{trailing_zeros, w64}
use Rattle.std.specs.List.{position_or_len, prefix_len, slice_range}
use Rattle.sc_value.specs.Words.{is_blank}
use lib.Lanes.{mask_l, top, zip2}

-- a lane is all ones where one of two comparisons holds
lane_is : (a b : Bool) → top 7 (bit_or (cond a 255 0) (cond b 255 0)) ≡ (a || b)
lane_is true true = refl
lane_is true false = refl
lane_is false true = refl
lane_is false false = refl

abbrev lane : ℕ → ℕ
lane x = bit_or (cond (eqb x 32) 255 0) (cond (eqb x 9) 255 0)

abbrev same_lanes : List ℕ → ℕ → List ℕ
same_lanes v x = zip2 (λ a b. cond (eqb a b) 255 0) v (replicate 16 x)

abbrev lowest : ℕ → ℕ
lowest m = cond (eqb m 0) 16 (trailing_zeros w64 m)

pub near_blank_is : (v : List ℕ) (r : ℕ) → length v ≡ 16
    → r ≡ lowest (mask_l (map (top 7) (zip2 bit_or (same_lanes v 32) (same_lanes v 9))) % 2 ^ 64)
    → r ≡ position_or_len is_blank v
near_blank_is v r long is =
    let lanes = zip2_of_maps bit_or (λ x. cond (eqb x 32) 255 0) (λ x. cond (eqb x 9) 255 0) v
    (zip2_splat (λ a b. cond (eqb a b) 255 0) v 16 32 long)
    (zip2_splat (λ a b. cond (eqb a b) 255 0) v 16 9 long) in
    let tops = ap (map (top 7)) lanes ∙ map-map (top 7) lane v in
    let blanks : map (λ x. top 7 (lane x)) v ≡ map is_blank v =
    λ i. map (λ x. lane_is (eqb x 32) (eqb x 9) i) v in
    let mask = ap (λ ms. mask_l ms % 2 ^ 64) (tops ∙ blanks)
    ∙ mask_l-mod (map is_blank v) 64 (omega (arith, length-map v is_blank, long)) in
    is ∙ ap lowest mask ∙ first_set_mask_l is_blank v 16 long (omega arith)

-- what a front passes is what the whole passes, up to the end of the front
shorter_run : (b : Bool) (n a c : ℕ) → a ≡ min n c
    → cond b (1 + a) 0 ≡ min (suc n) (cond b (1 + c) 0)
shorter_run true n a c is = omega (arith, is)
shorter_run false n a c is = omega arith

run_of_front : {X : Type 0} (p : X → Bool) (n : ℕ) (xs : List X)
    → prefix_len p (take n xs) ≡ min n (prefix_len p xs)
run_of_front p zero xs = omega arith
run_of_front p (suc n) [] = omega arith
run_of_front p (suc n) (x ∷ xs) =
    shorter_run (p x) n (prefix_len p (take n xs)) (prefix_len p xs) (run_of_front p n xs)

pub near_word : (text : List ℕ) (from end near r : ℕ) → near < 16
    → near ≡ position_or_len is_blank (take 16 (drop from text)) → r ≡ min near (end - from)
    → r ≡ position_or_len is_blank (slice_range text from end)
near_word text from end near r some near_is is =
    let p : ℕ → Bool = λ x. not (is_blank x) in
    let rest = drop from text in
    let whole = run_of_front p 16 rest in
    let part = run_of_front p (end - from) rest in
    omega (arith, some, near_is, is, whole, part)
