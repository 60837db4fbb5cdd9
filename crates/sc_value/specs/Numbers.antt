-- Numbers that texts write.
use Rattle.std.specs.Prelude.{◌≡◌, ◌⊎◌, ◌↔◌, ℕ, ℤ, pos, negsuc, neg_ℤ, Bool, true, false, ◌&&◌, ◌==◌, ◌^◌, nat_lt, List, [], ◌∷◌, Result, Ok, Err, if◌then◌else◌}
use Rattle.std.specs.Char.{is_ascii_digit}
use Rattle.std.specs.List.{list_all}
use Rattle.std.specs.Str.Parse.{IsNumeral, digits_value, signed_digits_value}
use Rattle.sc_value.specs.declared.numbers.NumberFault.{NumberFault}
use Rattle.sc_value.specs.declared.numbers.NumberFault.TheVariants.{NotANumber, OutOfRange}

-- whether bytes are decimal digits, one or more
abbrev pub is_digits : List ℕ → Bool
is_digits [] = false
is_digits (c ∷ cs) = is_ascii_digit c && list_all is_ascii_digit cs

-- the bytes without a minus before them
abbrev pub without_minus : List ℕ → List ℕ
without_minus [] = []
without_minus (c ∷ cs) = if c == 45 then cs else c ∷ cs

-- whether bytes are digits, or a minus and digits
abbrev pub is_number : List ℕ → Bool
is_number bytes = is_digits (without_minus bytes)

-- whether a number is one of 64 bits
abbrev pub fits_64 : ℤ → Bool
fits_64 (pos n) = nat_lt n (2 ^ 63)
fits_64 (negsuc n) = nat_lt n (2 ^ 63)

-- a number, if it is one of 64 bits
abbrev pub in_range : ℤ → Result ℤ NumberFault
in_range n = if fits_64 n then Ok n else Err OutOfRange

-- the number that a text writes
abbrev pub number_of_text : List ℕ → Result ℤ NumberFault
number_of_text text =
    if is_number text then in_range (signed_digits_value 10 text) else Err NotANumber

-- digits, or a minus and digits, write a number in decimal
abbrev pub SpellsInt : List ℕ → ℤ → Type 0
SpellsInt text n =
    (IsNumeral 10 text × (n ≡ pos (digits_value 10 text)))
    ⊎ ((digits : List ℕ) × (text ≡ 45 ∷ digits) × IsNumeral 10 digits
    × (n ≡ neg_ℤ (pos (digits_value 10 digits))))

-- a number passes as one, and has the value that it is read as
pub record IsReadNumber (text : List ℕ) (n : ℤ) : Type 0 where
  pub is : is_number text ≡ true
  pub value : signed_digits_value 10 text ≡ n

-- what passes as a number is what spells one
abbrev pub NumbersAreSpelled : Type 0
NumbersAreSpelled = (text : List ℕ) (n : ℤ) → SpellsInt text n ↔ IsReadNumber text n
