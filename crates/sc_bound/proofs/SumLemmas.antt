-- Sums over numbers in a row.
use Rattle.std.proofs.Common.{◌≡◌, ℕ, zero, suc, ◌+◌, ◌<◌, ◌≤◌, ◌==◌, Bool, true, false, if◌then◌else◌, refl, arith}
use Rattle.std.proofs.lemmas.Bool.Decides.{nat_tests}

-- the sum of a function over so many numbers from one on
abbrev pub total : (ℕ → ℕ) → ℕ → ℕ → ℕ
total f n zero = 0
total f n (suc m) = f n + total f (suc n) m

pub total_sum : (f g : ℕ → ℕ) (n m : ℕ) → total (λ e. f e + g e) n m ≡ total f n m + total g n m
total_sum f g n zero = refl
total_sum f g n (suc m) = let more = total_sum f g (suc n) m in omega (arith, more)

pub total_below : (f g : ℕ → ℕ) (n m : ℕ) → ((e : ℕ) → f e ≤ g e) → total f n m ≤ total g n m
total_below f g n zero le = omega arith
total_below f g n (suc m) le =
    let one = le n in
    let more = total_below f g (suc n) m le in
    omega (arith, one, more)

pub total_none : (n m : ℕ) → total (λ e. 0) n m ≡ 0
total_none n zero = refl
total_none n (suc m) = let more = total_none (suc n) m in omega (arith, more)

-- one at a number, and nothing elsewhere
abbrev pub one_at : ℕ → ℕ → ℕ
one_at x e = if x == e then 1 else 0

-- nothing behind that number
one_behind : (x n m : ℕ) → x < n → total (one_at x) n m ≡ 0
one_behind x n zero lt = refl
one_behind x n (suc m) lt =
    let apart : (x == n) ≡ false = grind (arith, nat_tests, lt) in
    let more = one_behind x (suc n) m (omega (arith, lt)) in
    rw apart (omega (arith, more))

pub total_one : (x n m : ℕ) → total (one_at x) n m ≤ 1
total_one x n zero = omega arith
total_one x n (suc m) = by (x == n) refl (total_one x (suc n) m)
  where
    by : (b : Bool) → (x == n) ≡ b → total (one_at x) (suc n) m ≤ 1
        → (if b then 1 else 0) + total (one_at x) (suc n) m ≤ 1
    by true e rest =
        let is : x ≡ n = grind (arith, nat_tests, e) in
        let none = one_behind x (suc n) m (omega (arith, is)) in
        omega (arith, none)
    by false e rest = omega (arith, rest)
