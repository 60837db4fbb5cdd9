-- The names of a save differ, and where they lie.
use Rattle.std.proofs.Common.{◌≡◌, ◌≢◌, ◌∙◌, ℕ, ◌+◌, ◌<◌, ◌^◌, ◌/◌, ◌%◌, true, false, List, [], ◌∷◌, ◌++◌, drop, get_or, refl, ap, sym, subst, arith}
use Rattle.std.specs.Prelude.{codes, decimal}
use Rattle.std.specs.Char.{digit_value}
use Rattle.std.specs.Str.Parse.{AllDigits}
use Rattle.std.proofs.lemmas.Fmt.{decimal_digit, decimal_injective, decimal_is_IsNumeral}
use Rattle.std.proofs.lemmas.List.{append_assoc, append_cancel_left, same_from_push}
use Rattle.sc_base.specs.Saves.{final_path, five_digits, success_path}
use Rattle.sc_base.specs.Trees.{Path, lies_under}
use Rattle.sc_base.proofs.PathLemmas.{lies_under-append, lies_under-child}
use Rattle.sc_ids.specs.declared.attempts.AttemptId.{AttemptId}
use Rattle.sc_output.specs.NameLaws.{NamesDiffer, NamesLieWithin}
use Rattle.sc_output.specs.Names.{IsWithinTypes, committed_path, dashed, staged_path, staging_path}

-- ---- numbers between dashes

first-same : (x y : ℕ) (xs ys : List ℕ) → x ∷ xs ≡ y ∷ ys → x ≡ y
first-same x y xs ys e = ap (λ l. get_or l 0 0) e

rest-same : (x y : ℕ) (xs ys : List ℕ) → x ∷ xs ≡ y ∷ ys → xs ≡ ys
rest-same x y xs ys e = ap (drop 1) e

dash-no_digit : (c : ℕ) → c ≡ 45 → digit_value c < 10 → ⊥
dash-no_digit c is digit = no (subst (λ k. digit_value k < 10) is digit)
  where
    no : digit_value 45 < 10 → ⊥
    no h = omega (arith, h)

-- digits up to the first dash
dash-split : (xs ys us vs : List ℕ) → AllDigits 10 xs → AllDigits 10 us
    → xs ++ (45 ∷ ys) ≡ us ++ (45 ∷ vs) → (xs ≡ us) × (ys ≡ vs)
dash-split [] ys [] vs a b e = (refl, rest-same 45 45 ys vs e)
dash-split [] ys (u ∷ us) vs a b e =
    absurd (dash-no_digit u (sym (first-same 45 u ys (us ++ (45 ∷ vs)) e)) b.0)
dash-split (x ∷ xs) ys [] vs a b e =
    absurd (dash-no_digit x (first-same x 45 (xs ++ (45 ∷ ys)) vs e) a.0)
dash-split (x ∷ xs) ys (u ∷ us) vs a b e =
    let more = dash-split xs ys us vs a.1 b.1
    (rest-same x u (xs ++ (45 ∷ ys)) (us ++ (45 ∷ vs)) e) in
    let first = first-same x u (xs ++ (45 ∷ ys)) (us ++ (45 ∷ vs)) e in
    ((λ i. first i ∷ more.0 i), more.1)

pub decimal-digits : (n : ℕ) → n < 2 ^ 64 → AllDigits 10 (decimal n)
decimal-digits n within = (decimal_is_IsNumeral n within).0.1

-- a number and a dash
number-split : (m n : ℕ) (ys vs : List ℕ) → m < 2 ^ 64 → n < 2 ^ 64
    → decimal m ++ (45 ∷ ys) ≡ decimal n ++ (45 ∷ vs) → (m ≡ n) × (ys ≡ vs)
number-split m n ys vs within within' e =
    let split = dash-split (decimal m) ys (decimal n) vs
    (decimal-digits m within) (decimal-digits n within') e in
    (decimal_injective m n within within' split.0, split.1)

dashed-injective : (a b : AttemptId) → IsWithinTypes a → IsWithinTypes b
    → dashed a ≡ dashed b → a ≡ b
dashed-injective a b one two e =
    let stage = number-split a.stage b.stage _ _ one.stage two.stage e in
    let turn = number-split a.stage_attempt b.stage_attempt _ _
    one.stage_attempt two.stage_attempt stage.1 in
    let partition = number-split a.partition b.partition _ _ one.partition two.partition turn.1 in
    let nth = decimal_injective a.nth b.nth one.nth two.nth partition.1 in
    λ i. record {
      stage = stage.0 i;
      stage_attempt = turn.0 i;
      partition = partition.0 i;
      nth = nth i;
    }

-- ---- five digits

-- a number by all of its digits but the last four, and these
abbrev pushed : ℕ → List ℕ
pushed n =
    (((decimal (n / 10000) ++ (48 + n / 1000 % 10) ∷ []) ++ (48 + n / 100 % 10) ∷ [])
    ++ (48 + n / 10 % 10) ∷ []) ++ (48 + n % 10) ∷ []

digit-front : (d : ℕ) (xs : List ℕ) → d < 10 → decimal d ++ xs ≡ (48 + d) ∷ xs
digit-front d xs below = ap (λ l. l ++ xs) (decimal_digit d below)

five_digits-pushed : (n : ℕ) → five_digits n ≡ pushed n
five_digits-pushed n =
    let front = decimal (n / 10000) in
    let a = n / 1000 % 10 in
    let b = n / 100 % 10 in
    let c = n / 10 % 10 in
    let d = n % 10 in
    ap (λ l. front ++ l)
    (digit-front a (decimal b ++ (decimal c ++ decimal d)) (omega arith)
    ∙ ap (λ l. (48 + a) ∷ l)
    (digit-front b (decimal c ++ decimal d) (omega arith)
    ∙ ap (λ l. (48 + b) ∷ l)
    (digit-front c (decimal d) (omega arith)
    ∙ ap (λ l. (48 + c) ∷ l) (decimal_digit d (omega arith)))))
    ∙ sym (append_assoc front ((48 + a) ∷ []) ((48 + b) ∷ (48 + c) ∷ (48 + d) ∷ []))
    ∙ sym (append_assoc (front ++ (48 + a) ∷ []) ((48 + b) ∷ []) ((48 + c) ∷ (48 + d) ∷ []))
    ∙ sym (append_assoc ((front ++ (48 + a) ∷ []) ++ (48 + b) ∷ []) ((48 + c) ∷ [])
    ((48 + d) ∷ []))

by_tens : (m n : ℕ) → m / 10 ≡ n / 10 → 48 + m % 10 ≡ 48 + n % 10 → m ≡ n
by_tens m n front last = omega (arith, front, last)

five_digits-injective : (m n : ℕ) → m < 2 ^ 64 → n < 2 ^ 64
    → five_digits m ≡ five_digits n → m ≡ n
five_digits-injective m n within within' e =
    let ones = same_from_push _ _ (48 + m % 10) (48 + n % 10)
    (sym (five_digits-pushed m) ∙ e ∙ five_digits-pushed n) in
    let tens = same_from_push _ _ (48 + m / 10 % 10) (48 + n / 10 % 10) ones.0 in
    let hundreds = same_from_push _ _ (48 + m / 100 % 10) (48 + n / 100 % 10) tens.0 in
    let thousands = same_from_push (decimal (m / 10000)) (decimal (n / 10000))
    (48 + m / 1000 % 10) (48 + n / 1000 % 10) hundreds.0 in
    let front = decimal_injective (m / 10000) (n / 10000)
    (omega (arith, within)) (omega (arith, within')) thousands.0 in
    let at_thousands : m / 1000 ≡ n / 1000 = omega (arith, front, thousands.1) in
    let at_hundreds : m / 100 ≡ n / 100 = omega (arith, at_thousands, hundreds.1) in
    let at_tens : m / 10 ≡ n / 10 = omega (arith, at_hundreds, tens.1) in
    by_tens m n at_tens ones.1

-- ---- names

pub staged-injective : (dir : Path) (a b : AttemptId) → IsWithinTypes a → IsWithinTypes b
    → staged_path dir a ≡ staged_path dir b → a ≡ b
staged-injective dir a b one two e =
    dashed-injective a b one two
    (append_cancel_left (codes "/_temporary/s-") _ _ (append_cancel_left dir _ _ e))

pub committed-injective : (dir : Path) (a b : AttemptId) → IsWithinTypes a → IsWithinTypes b
    → committed_path dir a ≡ committed_path dir b → a ≡ b
committed-injective dir a b one two e =
    dashed-injective a b one two
    (append_cancel_left (codes "/_temporary/c-") _ _ (append_cancel_left dir _ _ e))

final-injective : (dir : Path) (p q : ℕ) → p < 2 ^ 64 → q < 2 ^ 64
    → final_path dir p ≡ final_path dir q → p ≡ q
final-injective dir p q within within' e =
    five_digits-injective p q within within'
    (append_cancel_left (codes "/part-") _ _ (append_cancel_left dir _ _ e))

-- two bytes at one place
bytes-differ : (a b x y : ℕ) → a ≡ x → b ≡ y → x < y → a ≡ b → ⊥
bytes-differ a b x y is is' below e = omega (arith, is, is', below, e)

pub staged-committed : (dir : Path) (a b : AttemptId) → staged_path dir a ≢ committed_path dir b
staged-committed dir a b e =
    bytes-differ _ _ 99 115 refl refl (omega arith)
    (sym (ap (λ l. get_or l 12 0) (append_cancel_left dir _ _ e)))

pub final-success : (dir : Path) (p : ℕ) → final_path dir p ≢ success_path dir
final-success dir p e =
    bytes-differ _ _ 95 112 refl refl (omega arith)
    (sym (ap (λ l. get_or l 1 0) (append_cancel_left dir _ _ e)))

pub names_differ : NamesDiffer
names_differ = record {
  staged = staged-injective;
  committed = committed-injective;
  final = final-injective;
  stages = staged-committed;
  success = final-success;
}

pub committed-under : (dir : Path) (a : AttemptId)
    → lies_under (staging_path dir) (committed_path dir a) ≡ true
committed-under dir a =
    lies_under-append dir (codes "/_temporary") (codes "/_temporary/c-" ++ dashed a)

pub final-beside : (dir : Path) (p : ℕ) → lies_under (staging_path dir) (final_path dir p) ≡ false
final-beside dir p = lies_under-append dir (codes "/_temporary") (codes "/part-" ++ five_digits p)

pub success-beside : (dir : Path) → lies_under (staging_path dir) (success_path dir) ≡ false
success-beside dir = lies_under-append dir (codes "/_temporary") (codes "/_SUCCESS")

pub staging-under : (dir : Path) → lies_under dir (staging_path dir) ≡ true
staging-under dir = lies_under-child dir (codes "_temporary")

pub names_lie_within : NamesLieWithin
names_lie_within = record {
  staging = staging-under;
  staged = λ dir a.
      lies_under-append dir (codes "/_temporary") (codes "/_temporary/s-" ++ dashed a);
  committed = committed-under;
  final = λ dir p. lies_under-child dir (codes "part-" ++ five_digits p);
  success = λ dir. lies_under-child dir (codes "_SUCCESS");
  final_beside = final-beside;
  success_beside = success-beside;
}
