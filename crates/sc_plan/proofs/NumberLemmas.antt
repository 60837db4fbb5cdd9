-- The numbers of a plan, as they are tested and as they are read.
use Rattle.std.proofs.Common.{◌≡◌, ◌∙◌, ℕ, ◌<◌, ◌^◌, true, false, ◌&&◌, cond, drop, List, [], ◌∷◌, ap, sym, subst, arith}
use Rattle.std.proofs.lemmas.Bool.{and_parts, false≢true}
use Rattle.std.proofs.lemmas.Bool.Decides.{nat_tests}
use Rattle.std.specs.Char.{is_ascii_digit}
use Rattle.std.specs.List.{list_all}
use Rattle.std.specs.Prelude.{nat_le}
use Rattle.std.specs.Str.Parse.{IsNumeral, digits_value, without_leading_plus}
use Rattle.sc_value.proofs.NumberLemmas.{not_plus, numeral_from_digits}
use Rattle.sc_value.specs.Numbers.{is_digits}
use Rattle.sc_plan.specs.LineReading.{is_plan_number}
use Rattle.sc_plan.specs.Limits.{number_limit}

-- what is read of a word behind a plus sign
abbrev pub Reads : List ℕ → Type 0
Reads word = IsNumeral 10 (without_leading_plus word)
    × (digits_value 10 (without_leading_plus word) < 2 ^ 32)

-- digits have no sign before them
pub unsigned : (word : List ℕ) → is_digits word ≡ true → without_leading_plus word ≡ word
unsigned [] is = absurd (false≢true is)
unsigned (c ∷ cs) is =
    let digit = and_parts (is_ascii_digit c) (list_all is_ascii_digit cs) is in
    ap (λ b. drop (cond b 1 0) (c ∷ cs)) (not_plus c digit.0)

-- digits whose value has 32 bits are read
pub read : (word : List ℕ) → is_digits word ≡ true → digits_value 10 word < 2 ^ 32 → Reads word
read word is small =
    let P : List ℕ → Type 0 = λ w. IsNumeral 10 w × (digits_value 10 w < 2 ^ 32) in
    subst P (sym (unsigned word is)) (numeral_from_digits word is, small)

-- a value within the limit
within : (n : ℕ) → nat_le n number_limit ≡ true → n < 2 ^ 32
within n is = grind (arith, nat_tests)

beyond : (n : ℕ) → (n < 2 ^ 32 → ⊥) → nat_le n number_limit ≡ false
beyond n out = grind (arith, nat_tests)

-- a plan's number is read
pub read_small : (word : List ℕ) → is_plan_number word ≡ true → Reads word
read_small word is =
    let parts = and_parts (is_digits word) (nat_le (digits_value 10 word) number_limit) is in
    read word parts.0 (within (digits_value 10 word) parts.1)

-- digits that aren't read are no number of a plan
pub unread : (word : List ℕ) → is_digits word ≡ true → (Reads word → ⊥)
    → is_plan_number word ≡ false
unread word is out =
    ap (λ b. b && nat_le (digits_value 10 word) number_limit) is
    ∙ beyond (digits_value 10 word) (λ small. out (read word is small))
