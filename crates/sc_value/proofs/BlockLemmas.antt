-- A part of bytes that is written as a block, of which what is too much is taken back.
use Rattle.std.proofs.Common.{◌≡◌, ◌∙◌, ℕ, suc, ◌+◌, ◌-◌, ◌≤◌, List, [], ◌∷◌, ◌++◌, ap, arith, drop, length, take}
use Rattle.std.proofs.lemmas.List.{take-take}
use Rattle.std.specs.List.{slice_range}

-- the first so many of what stands behind a list
pub take_behind : {X : Type 0} (before more : List X) (n : ℕ)
    → take (length before + n) (before ++ more) ≡ before ++ take n more
take_behind [] more n =
    let none : 0 + n ≡ n = omega arith in
    ap (λ m. take m more) none
take_behind (x ∷ before) more n =
    let count : length (x ∷ before) + n ≡ suc (length before + n) = omega arith in
    ap (λ m. take m (x ∷ (before ++ more))) count ∙ ap (λ r. x ∷ r) (take_behind before more n)

pub block_cut : (before bytes : List ℕ) (from to block end : ℕ) → from ≤ to → to ≤ from + block
    → end ≡ length before + (to - from)
    → take end (before ++ slice_range bytes from (from + block))
    ≡ before ++ slice_range bytes from to
block_cut before bytes from to block end ordered within is =
    let fewer : to - from ≤ from + block - from = omega arith in
    ap (λ n. take n (before ++ slice_range bytes from (from + block))) is
    ∙ take_behind before (slice_range bytes from (from + block)) (to - from)
    ∙ ap (λ r. before ++ r) (take-take (to - from) (from + block - from) (drop from bytes) fewer)
