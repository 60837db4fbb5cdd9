-- Quotients that a product guesses.
use Rattle.std.proofs.Common.{◌≡◌, ◌∙◌, ℕ, ℤ, zero, suc, pos, ◌+◌, ◌-◌, ◌*◌, ◌/◌, ◌%◌, ◌^◌, ◌<◌, ◌≤◌, min, Bool, true, false, List, Option, Ok, length, map, take, ap, sym, refl, arith}
use Rattle.std.proofs.lemmas.Nat.{div-add-mod', div_below, mul-le, mul-lt}
use Rattle.std.specs.Prelude.{replicate}
use Rattle.sc_value.specs.Datum.{number}
use Rattle.sc_columns.specs.Columns.{zip_with}
use Rattle.sc_expr.specs.declared.exprs.Raise.{Raise}
use Rattle.sc_batch.specs.Divisors.{IsDivisor}
use Rattle.sc_batch.specs.Items.{divided, division}
use Rattle.sc_batch.specs.Outcomes.{until_raise}
use Rattle.sc_batch.proofs.ValueLemmas.{each-value}
use Rattle.sc_batch.proofs.ZipLemmas.{take-min, zip_with-replicate}
use Rattle.sc_batch.specs.declared.divisors.Divisor.{Divisor}

-- a number times 2^64 over it, rounded up, is past 2^64 by less than the number
factor_bound : (n f : ℕ) → f ≡ (2 ^ 64 - 1) / n + 1 → f * n ≤ 2 ^ 64 - 1 + n
factor_bound n f is = rw is (omega (arith, div-add-mod' (2 ^ 64 - 1) n))

factor_small : (n f : ℕ) → 1 < n → n < 2 ^ 63 → f * n ≤ 2 ^ 64 - 1 + n → f < 2 ^ 64
factor_small n f one small bound =
    let twice : f * 2 ≤ f * n = mul-le f 2 f n (omega arith) (omega arith) in
    omega (arith, twice)

-- a guess times the number isn't past what is divided by as much as the number
guess_bound : (a n f q : ℕ) → a ≤ 2 ^ 63 → f * n ≤ 2 ^ 64 - 1 + n → q * 2 ^ 64 ≤ a * f
    → q * n * 2 ^ 64 ≤ a * 2 ^ 64 + 2 ^ 63 * n
guess_bound a n f q small bound guess =
    let one : q * 2 ^ 64 * n ≤ a * f * n = mul-le (q * 2 ^ 64) n (a * f) n guess (omega arith) in
    let two : a * (f * n) ≤ a * (2 ^ 64 - 1 + n) =
    mul-le a (f * n) a (2 ^ 64 - 1 + n) (omega arith) bound in
    let three : a * n ≤ 2 ^ 63 * n = mul-le a n (2 ^ 63) n small (omega arith) in
    omega (arith, one, two, three)

module _ (by : Divisor) (divisor : IsDivisor by) (a : ℕ) (small : a ≤ 2 ^ 63) where
  bound : by.factor * by.number ≤ 2 ^ 64 - 1 + by.number
  bound = factor_bound by.number by.factor divisor.factor_is

  pub product_fits : a * by.factor < 2 ^ 128
  product_fits =
      let f = factor_small by.number by.factor divisor.above_one divisor.small bound in
      let p : a * by.factor < 2 ^ 64 * 2 ^ 64 =
      mul-lt a by.factor (2 ^ 64) (2 ^ 64) (omega arith) f in
      omega (arith, p)

  pub guess_fits : a * by.factor / 2 ^ 64 < 2 ^ 64
  guess_fits = div_below (a * by.factor) (2 ^ 64) (2 ^ 64) (omega arith)
      (omega (arith, product_fits))

  guessed_bound : (q : ℕ) → q ≡ a * by.factor / 2 ^ 64
      → q * by.number * 2 ^ 64 ≤ a * 2 ^ 64 + 2 ^ 63 * by.number
  guessed_bound q is = guess_bound a by.number by.factor q small bound
      (rw is (omega (arith, div-add-mod' (a * by.factor) (2 ^ 64))))

  pub times_fits : (q : ℕ) → q ≡ a * by.factor / 2 ^ 64 → q * by.number < 2 ^ 64
  times_fits q is = let n = divisor.small in omega (arith, guessed_bound q is)

  -- what is left is right where it is less than the divisor
  pub rest_right : (q r : ℕ) → q ≡ a * by.factor / 2 ^ 64
      → r ≡ (a + (2 ^ 64 - q * by.number)) % 2 ^ 64 → r < by.number → q * by.number + r ≡ a
  rest_right q r is left less =
      let n = divisor.small in
      let p = guessed_bound q is in
      omega arith

-- a division by a number above 1 doesn't raise
division_is : (rest : Bool) (x : ℤ) (k : ℕ) → 1 < k
    → division rest x (pos k) ≡ Ok (number (divided rest x (pos k)))
unfolding divided
division_is rest x zero one = absurd (omega arith)
division_is true x (suc k) one = refl
division_is false x (suc k) one = refl

-- numbers divided by one number above 1
pub each-divided : (rest : Bool) (xs : List ℤ) (n count k : ℕ) (y : ℤ) (end : Option Raise)
    → count ≡ min (length xs) n → y ≡ pos k → 1 < k
    → record { rows = map number (map (λ x. divided rest x (pos k)) (take count xs)); raise = end }
    ≡ until_raise (zip_with (division rest) xs (replicate n y)) end
each-divided rest xs n count k y end is same one =
    each-value (λ x. division rest x (pos k)) number (λ x. divided rest x (pos k))
    (λ x. division_is rest x k one) (take count xs) end
    ∙ ap (λ z. until_raise (map (λ x. division rest x z) (take count xs)) end) (sym same)
    ∙ ap (λ zs. until_raise (map (λ x. division rest x y) zs) end)
    (ap (λ m. take m xs) is ∙ take-min xs n)
    ∙ ap (λ os. until_raise os end) (sym (zip_with-replicate (division rest) xs n y))
