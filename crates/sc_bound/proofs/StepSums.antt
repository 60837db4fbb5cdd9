-- Sums of steps that rise, and sums beside each other.
use Rattle.std.proofs.Common.{◌≡◌, ℕ, zero, suc, ◌+◌, ◌*◌, ◌-◌, ◌≤◌, List, [], ◌∷◌, length, Some, slice_get, refl, ap, subst, ◌∙◌, arith}
use Rattle.std.specs.List.{sum_by}
use Rattle.std.proofs.Math.Nat.{mul-le-mul_left}
use Rattle.std.proofs.lemmas.List.Sums.{sum_by-cons}

-- ---- steps that rise by four

-- a step, and the sum of the first ones
abbrev pub rising_step : ℕ → ℕ → ℕ
rising_step c n = 2 * (c + 2 * n)

abbrev pub rising_sum : ℕ → ℕ → ℕ
rising_sum c zero = 0
rising_sum c (suc n) = rising_sum c n + rising_step c n

more_times : (n x y : ℕ) → suc n * (x + y) ≡ n * x + x + (n * y + y)
more_times n x y = by n
  where
    by : (n : ℕ) → suc n * (x + y) ≡ n * x + x + (n * y + y)
    by zero = omega arith
    by (suc n) = let h = by n in omega (arith, h)

rising_closed : (c n : ℕ) → rising_sum c n + 2 * n ≡ n * (2 * (c + n))
rising_closed c zero = omega arith
rising_closed c (suc n) =
    let h = rising_closed c n in
    let same : 2 * (c + suc n) ≡ 2 * (c + n) + 2 = omega arith in
    let more = more_times n (2 * (c + n)) 2 in
    rw same (omega (arith, h, more))

rising_grows : (c n k : ℕ) → rising_sum c n ≤ rising_sum c (k + n)
rising_grows c n zero =
    let same : n ≡ 0 + n = omega arith in
    subst (λ (j : ℕ). rising_sum c n ≤ rising_sum c j) same (omega arith)
rising_grows c n (suc k) =
    let same : suc (k + n) ≡ suc k + n = omega arith in
    let h = rising_grows c n k in
    subst (λ (j : ℕ). rising_sum c n ≤ rising_sum c j) same (omega (arith, h))

-- so many of them are below as often the last one
pub rising_below : (c n m : ℕ) → n ≤ 1 + m → rising_sum c n ≤ (1 + m) * (2 * (c + m))
rising_below c n m le =
    let k : ℕ = 1 + m - n in
    let all : (1 + m - n) + n ≡ suc m = omega (arith, le) in
    let up : rising_sum c n ≤ rising_sum c (suc m) =
    subst (λ (j : ℕ). rising_sum c n ≤ rising_sum c j) all (rising_grows c n (1 + m - n)) in
    let closed = rising_closed c (suc m) in
    let same : 2 * (c + suc m) ≡ 2 * (c + m) + 2 = omega arith in
    let times = more_times m (2 * (c + m)) 2 in
    let two = more_times m (2 * (c + m)) 0 in
    let sum : rising_sum c (suc m) + 2 * suc m ≡ suc m * (2 * (c + m) + 2) =
    closed ∙ ap (λ (x : ℕ). suc m * x) same in
    omega (arith, up, sum, times, two)

-- ---- sums with terms below such steps

pub times_sum : (t x y : ℕ) → t * (x + y) ≡ t * x + t * y
times_sum zero x y = omega arith
times_sum (suc t) x y =
    let h = times_sum t x y in
    let a = more_times t x y in
    let b = more_times t x 0 in
    let c = more_times t y 0 in
    omega (arith, h, a, b, c)

rising_terms : {A : Type 0} (g : A → ℕ) (xs : List A) (t c i : ℕ)
    → ((j : ℕ) (x : A) → slice_get xs j ≡ Some x → g x ≤ t * rising_step c (i + j))
    → sum_by g xs + t * rising_sum c i ≤ t * rising_sum c (i + length xs)
rising_terms g [] t c i le =
    let same : i ≡ i + 0 = omega arith in
    subst (λ (j : ℕ). sum_by g [] + t * rising_sum c i ≤ t * rising_sum c j) same (omega arith)
rising_terms {A = A} g (x ∷ xs) t c i le =
    let here : i + 0 ≡ i = omega arith in
    let one : g x ≤ t * rising_step c i =
    subst (λ (j : ℕ). g x ≤ t * rising_step c j) here (le 0 x refl) in
    let rest : sum_by g xs + t * rising_sum c (suc i) ≤ t * rising_sum c (suc i + length xs) =
    rising_terms g xs t c (suc i) next in
    let up = times_sum t (rising_sum c i) (rising_step c i) in
    let all = sum_by-cons g x xs in
    let long : suc i + length xs ≡ i + suc (length xs) = omega arith in
    subst (λ (j : ℕ). sum_by g (x ∷ xs) + t * rising_sum c i ≤ t * rising_sum c j) long
    (omega (arith, one, rest, up, all))
  where
    next : (j : ℕ) (y : A) → slice_get xs j ≡ Some y → g y ≤ t * rising_step c (suc i + j)
    next j y at =
        let same : i + suc j ≡ suc i + j = omega arith in
        subst (λ (k : ℕ). g y ≤ t * rising_step c k) same (le (suc j) y at)

pub rising_total : {A : Type 0} (g : A → ℕ) (xs : List A) (t c m : ℕ)
    → ((j : ℕ) (x : A) → slice_get xs j ≡ Some x → g x ≤ t * rising_step c j)
    → length xs ≤ 1 + m → sum_by g xs ≤ t * ((1 + m) * (2 * (c + m)))
rising_total {A = A} g xs t c m le few =
    let terms = rising_terms g xs t c 0 first in
    let most = mul-le-mul_left t (rising_below c (length xs) m few) in
    let same : 0 + length xs ≡ length xs = omega arith in
    let sum : sum_by g xs + t * 0 ≤ t * rising_sum c (length xs) =
    subst (λ (j : ℕ). sum_by g xs + t * 0 ≤ t * rising_sum c j) same terms in
    omega (arith, sum, most)
  where
    first : (j : ℕ) (x : A) → slice_get xs j ≡ Some x → g x ≤ t * rising_step c (0 + j)
    first j x at =
        let same : j ≡ 0 + j = omega arith in
        subst (λ (k : ℕ). g x ≤ t * rising_step c k) same (le j x at)

-- two sums beside each other
pub sums_beside : {A B : Type 0} (g : A → ℕ) (h : B → ℕ) (xs : List A) (ys : List B)
    → length xs ≡ length ys
    → ((i : ℕ) (x : A) (y : B) → slice_get xs i ≡ Some x → slice_get ys i ≡ Some y → g x ≤ h y)
    → sum_by g xs ≤ sum_by h ys
sums_beside g h [] ys many le = omega arith
sums_beside g h (x ∷ xs) [] many le = absurd (omega (arith, many))
sums_beside g h (x ∷ xs) (y ∷ ys) many le =
    let one = le 0 x y refl refl in
    let rest = sums_beside g h xs ys (omega (arith, many)) (λ i a b p q. le (suc i) a b p q) in
    let a = sum_by-cons g x xs in
    let b = sum_by-cons h y ys in
    omega (arith, one, rest, a, b)
