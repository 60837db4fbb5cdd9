-- Numbers, as they are tested and as they are read.
use Rattle.std.proofs.Common.{◌≡◌, ◌∙◌, ℕ, ℤ, pos, negsuc, ◌<◌, ◌^◌, Bool, true, false, ◌&&◌, cond, List, [], ◌∷◌, Ok, Err, length, eqb, refl, ap, sym, subst, inl, inr, arith, eqb-true}
use Rattle.std.proofs.lemmas.Bool.{and_from, false≢true, ltb-true}
use Rattle.std.proofs.lemmas.Bool.Decides.{nat_tests}
use Rattle.std.specs.Char.{is_ascii_digit, digit_value}
use Rattle.std.specs.List.{list_all}
use Rattle.std.specs.Str.Parse.{AllDigits, IsNumeral, digits_value, signed_digits_value, without_leading_sign}
use mir.Val.{SFits}
use mir.Syntax.{w64}
use Rattle.sc_value.specs.Numbers.{IsReadNumber, NumbersAreSpelled, SpellsInt, is_digits, is_number, fits_64, in_range, number_of_text}
use Rattle.sc_value.specs.declared.numbers.NumberFault.TheVariants.{NotANumber, OutOfRange}

both_hold : (a b : Bool) → (a && b) ≡ true → (a ≡ true) × (b ≡ true)
both_hold true true is = (refl, refl)
both_hold true false is = absurd (false≢true is)
both_hold false b is = absurd (false≢true is)

-- a byte is a digit where its value is below ten
digit_below : (c : ℕ) → is_ascii_digit c ≡ true → digit_value c < 10
digit_below c is = grind (arith, nat_tests)

below_digit : (c : ℕ) → digit_value c < 10 → is_ascii_digit c ≡ true
below_digit c below = grind (arith, nat_tests)

-- a digit is no sign
pub not_minus : (c : ℕ) → is_ascii_digit c ≡ true → eqb c 45 ≡ false
not_minus c is = grind (arith, nat_tests)

pub not_plus : (c : ℕ) → is_ascii_digit c ≡ true → eqb c 43 ≡ false
not_plus c is = grind (arith, nat_tests)

-- digits as they are tested, and as they make a numeral
all_from_digits : (ds : List ℕ) → list_all is_ascii_digit ds ≡ true → AllDigits 10 ds
all_from_digits [] all = tt
all_from_digits (c ∷ cs) all =
    let parts = both_hold (is_ascii_digit c) (list_all is_ascii_digit cs) all in
    (digit_below c parts.0, all_from_digits cs parts.1)

digits_from_all : (ds : List ℕ) → AllDigits 10 ds → list_all is_ascii_digit ds ≡ true
digits_from_all [] all = refl
digits_from_all (c ∷ cs) all =
    and_from (is_ascii_digit c) (list_all is_ascii_digit cs) (below_digit c all.0)
    (digits_from_all cs all.1)

pub numeral_from_digits : (ds : List ℕ) → is_digits ds ≡ true → IsNumeral 10 ds
numeral_from_digits [] is = absurd (false≢true is)
numeral_from_digits (c ∷ cs) is = (omega arith, all_from_digits (c ∷ cs) is)

pub digits_from_numeral : (ds : List ℕ) → IsNumeral 10 ds → is_digits ds ≡ true
digits_from_numeral [] is = absurd (omega (arith, is.0))
digits_from_numeral (c ∷ cs) is = digits_from_all (c ∷ cs) is.1

-- the value of digits alone
value_plain : (c : ℕ) (cs : List ℕ) → is_ascii_digit c ≡ true
    → signed_digits_value 10 (c ∷ cs) ≡ pos (digits_value 10 (c ∷ cs))
value_plain c cs is =
    let minus : eqb c 45 ≡ false = not_minus c is in
    let plus : eqb c 43 ≡ false = not_plus c is in
    rw (minus, plus) refl

-- what passes as a number spells its value
pub number_spells : (text : List ℕ) → is_number text ≡ true
    → SpellsInt text (signed_digits_value 10 text)
number_spells [] is = absurd (false≢true is)
number_spells (c ∷ cs) is = go (eqb c 45) refl
  where
    go : (b : Bool) → eqb c 45 ≡ b → SpellsInt (c ∷ cs) (signed_digits_value 10 (c ∷ cs))
    go true e =
        let digits : is_digits cs ≡ true = rw e at is in
        let minus : c ≡ 45 = eqb-true c 45 e in
        subst (λ (d : ℕ). SpellsInt (d ∷ cs) (signed_digits_value 10 (d ∷ cs))) (sym minus)
        (inr (cs, refl, numeral_from_digits cs digits, refl))
    go false e =
        let digits : is_digits (c ∷ cs) ≡ true = rw e at is in
        let first = both_hold (is_ascii_digit c) (list_all is_ascii_digit cs) digits in
        inl (numeral_from_digits (c ∷ cs) digits, value_plain c cs first.0)

-- what spells a number passes as one and has its value
plain_number : (text : List ℕ) (n : ℤ) → is_digits text ≡ true
    → n ≡ pos (digits_value 10 text) → IsReadNumber text n
plain_number [] n digits value = absurd (false≢true digits)
plain_number (c ∷ cs) n digits value =
    let first = both_hold (is_ascii_digit c) (list_all is_ascii_digit cs) digits in
    let minus : eqb c 45 ≡ false = not_minus c first.0 in
    record { is = rw minus digits; value = value_plain c cs first.0 ∙ sym value }

pub spelled_number : (text : List ℕ) (n : ℤ) → SpellsInt text n → IsReadNumber text n
spelled_number text n (inl plain) =
    plain_number text n (digits_from_numeral text plain.0) plain.1
spelled_number text n (inr negative) =
    subst (λ s. IsReadNumber s n) (sym negative.1)
    (record { is = digits_from_numeral negative.0 negative.2; value = sym negative.3 })

pub numbers_are_spelled : NumbersAreSpelled
numbers_are_spelled text n = (
  spelled_number text n,
  λ read. subst (SpellsInt text) read.value (number_spells text read.is),
)

-- a number behind its sign is a numeral
pub numeral_behind_sign : (text : List ℕ) → is_number text ≡ true
    → IsNumeral 10 (without_leading_sign text)
numeral_behind_sign [] is = absurd (false≢true is)
numeral_behind_sign (c ∷ cs) is = go (eqb c 45) refl
  where
    go : (b : Bool) → eqb c 45 ≡ b → IsNumeral 10 (without_leading_sign (c ∷ cs))
    go true e =
        let digits : is_digits cs ≡ true = rw e at is in
        subst (λ (d : ℕ). IsNumeral 10 (without_leading_sign (d ∷ cs))) (sym (eqb-true c 45 e))
        (numeral_from_digits cs digits)
    go false e =
        let digits : is_digits (c ∷ cs) ≡ true = rw e at is in
        let first = both_hold (is_ascii_digit c) (list_all is_ascii_digit cs) digits in
        let plus : eqb c 43 ≡ false = not_plus c first.0 in
        rw (e, plus) (numeral_from_digits (c ∷ cs) digits)

-- a number that doesn't fit into 64 bits
fits_no : (z : ℤ) → ¬ (SFits w64 z) → fits_64 z ≡ false
fits_no (pos n) fits = by_test (fits_64 (pos n)) refl where
  by_test : (b : Bool) → fits_64 (pos n) ≡ b → fits_64 (pos n) ≡ false
  by_test false is = is
  by_test true is = absurd (fits (record { sfits = ltb-true n (2 ^ 63) is }))
fits_no (negsuc n) fits = by_test (fits_64 (negsuc n)) refl where
  by_test : (b : Bool) → fits_64 (negsuc n) ≡ b → fits_64 (negsuc n) ≡ false
  by_test false is = is
  by_test true is = absurd (fits (record { sfits = ltb-true n (2 ^ 63) is }))

-- a text that is a number, and one that doesn't fit
int_some : (text : List ℕ) → is_number text ≡ true
    → in_range (signed_digits_value 10 text) ≡ number_of_text text
int_some text is =
    ap (λ b. cond b (in_range (signed_digits_value 10 text)) (Err NotANumber)) (sym is)

pub int_wide : (text : List ℕ) → is_number text ≡ true
    → ¬ (SFits w64 (signed_digits_value 10 text)) → Err OutOfRange ≡ number_of_text text
int_wide text is fits =
    ap (λ b. cond b (Ok (signed_digits_value 10 text)) (Err OutOfRange))
    (sym (fits_no (signed_digits_value 10 text) fits))
    ∙ int_some text is

pub is_digits_of_some : (bytes : List ℕ) → eqb (length bytes) 0 ≡ false
    → list_all is_ascii_digit bytes ≡ is_digits bytes
is_digits_of_some [] some = absurd (cc)
is_digits_of_some (c ∷ cs) some = refl
