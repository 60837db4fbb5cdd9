-- Numbers that are read and written back by their bits.
use Rattle.std.proofs.Common.{◌≡◌, ◌∙◌, ℕ, ℤ, pos, ◌≤◌, ap, arith}
use Rattle.std.proofs.lemmas.Int.{to_z-of_z}
use mir.Val.{SFits, to_z, of_z}
use mir.Syntax.{w64}

-- what is made of two numbers that were read
pub read_two : {R : Type 0} (f : ℤ → ℤ → R) (x y : ℤ) (r : R) → SFits w64 x → SFits w64 y
    → r ≡ f (to_z w64 (of_z w64 x)) (to_z w64 (of_z w64 y)) → r ≡ f x y
read_two f x y r fits also is =
    is ∙ ap (λ z. f z (to_z w64 (of_z w64 y))) (to_z-of_z w64 x fits)
    ∙ ap (f x) (to_z-of_z w64 y also)

-- the same, written back
pub read_back : (f : ℤ → ℤ → ℤ) (x y r : ℤ) → SFits w64 x → SFits w64 y → SFits w64 r
    → r ≡ f (to_z w64 (of_z w64 x)) (to_z w64 (of_z w64 y)) → to_z w64 (of_z w64 r) ≡ f x y
read_back f x y r fits also too is = to_z-of_z w64 r too ∙ read_two f x y r fits also is

-- a count, as a number of 64 bits
pub count_as_number : (n : ℕ) → n ≤ 9223372036854775807 → to_z w64 n ≡ pos n
count_as_number n small = to_z-of_z w64 (pos n) (record { sfits = omega arith })
