-- The values of heads: one line for each.
use Rattle.std.specs.Prelude.{ℕ, zero, suc, ℤ, pos, negsuc, Bool, true, false, not, ◌||◌, List, [], ◌∷◌, ◌++◌, length, map, Result, Ok, Err, int_lt, int_rem}
use Rattle.std.specs.Ordering.{int_eq, nat_cmp, is_lt}
use Rattle.std.specs.Cmp.Lexicographic.{slice_cmp}
use mathlib.Core.Bool.{beq}
use Rattle.std.specs.Str.{bytes_eq}
use Rattle.std.specs.Int.{w64, int_wrapping_add, int_wrapping_sub, int_wrapping_mul, int_wrapping_div}
use Rattle.sc_base.specs.Lists.{at_or}
use Rattle.sc_value.specs.Datum.{Datum, number, truth, text, pair, group, items_of, list_of}
use Rattle.sc_value.specs.Numbers.{number_of_text}
use Rattle.sc_value.specs.declared.numbers.NumberFault.{NumberFault}
use Rattle.sc_value.specs.declared.numbers.NumberFault.TheVariants as numbers
use Rattle.sc_value.specs.Printing.{printed}
use Rattle.sc_value.specs.Words.{words_of, cut_at}
use Rattle.sc_expr.specs.declared.exprs.Head.{Head}
use Rattle.sc_expr.specs.declared.exprs.Head.TheVariants as heads
use Rattle.sc_expr.specs.declared.exprs.Raise.{Raise}
use Rattle.sc_expr.specs.declared.exprs.Raise.TheVariants.{DivideByZero, NotANumber, OutOfRange}

-- what an expression gives: a value or a raise
abbrev pub Outcome : Type 0
Outcome = Result Datum Raise

-- an argument; one that isn't there counts as false
abbrev pub datum_at : List Datum → ℕ → Datum
datum_at ds i = at_or ds i (truth false)

-- the number that a value is; another value counts as 0
abbrev pub int_in : Datum → ℤ
int_in (number n) = n
int_in d = pos 0

-- the truth value that a value is; another value counts as false
abbrev pub truth_in : Datum → Bool
truth_in (truth b) = b
truth_in d = false

-- the text that a value is; another value counts as the empty text
abbrev pub text_in : Datum → List ℕ
text_in (text t) = t
text_in d = []

-- the items of the list that a value is; another value counts as the empty list
abbrev pub items_in : Datum → List Datum
items_in (group ds) = list_of ds
items_in d = []

-- the first part of the pair that a value is; another value counts as a pair of false and false
abbrev pub first_of : Datum → Datum
first_of (pair a b) = a
first_of d = truth false

-- the second part of the pair that a value is; another value counts as such a pair too
abbrev pub second_of : Datum → Datum
second_of (pair a b) = b
second_of d = truth false

-- a list of values as a value
abbrev pub list_value : List Datum → Datum
list_value ds = group (items_of ds)

-- the truncated quotient, or the raise of a division by zero
abbrev pub quotient : ℤ → ℤ → Outcome
quotient a (pos zero) = Err DivideByZero
quotient a b = Ok (number (int_wrapping_div w64 a b))

-- the remainder with the sign of the first, or the raise of a division by zero
abbrev pub remainder : ℤ → ℤ → Outcome
remainder a (pos zero) = Err DivideByZero
remainder a b = Ok (number (int_rem a b))

-- two numbers, truth values or texts are equal
abbrev pub are_equal : Datum → Datum → Bool
are_equal (number a) (number b) = int_eq a b
are_equal (truth a) (truth b) = beq a b
are_equal (text a) (text b) = bytes_eq a b
are_equal d e = false

-- a number is less than another, or a text comes before another by their bytes
abbrev pub is_less : Datum → Datum → Bool
is_less (number a) (number b) = int_lt a b
is_less (text a) (text b) = is_lt (slice_cmp nat_cmp a b)
is_less d e = false

-- the item at a place from 0, or the raise of a place behind the last
abbrev pub item_at : List Datum → ℕ → Outcome
item_at [] i = Err OutOfRange
item_at (d ∷ ds) zero = Ok d
item_at (d ∷ ds) (suc i) = item_at ds i

-- the item at the place that a number is, or the raise of a number that is none
abbrev pub nth_value : List Datum → ℤ → Outcome
nth_value ds (pos i) = item_at ds i
nth_value ds (negsuc i) = Err OutOfRange

-- the sum of numbers onto another, from the left, wrapping at 64 bits
abbrev pub sum_onto : ℤ → List Datum → ℤ
sum_onto n [] = n
sum_onto n (d ∷ ds) = sum_onto (int_wrapping_add w64 n (int_in d)) ds

-- the raise of a text that writes no number of 64 bits
abbrev pub raise_of_number : NumberFault → Raise
raise_of_number numbers.NotANumber = NotANumber
raise_of_number numbers.OutOfRange = OutOfRange

-- the number that a text writes, or the raise of one that writes none
abbrev pub number_value : Result ℤ NumberFault → Outcome
number_value (Ok n) = Ok (number n)
number_value (Err f) = Err (raise_of_number f)

-- a head that doesn't evaluate all its arguments
abbrev pub is_lazy : Head → Bool
is_lazy heads.And = true
is_lazy heads.Or = true
is_lazy heads.If = true
is_lazy h = false

-- the value of a head at values
abbrev pub head_value : Head → List Datum → Outcome
head_value heads.Add ds =
    Ok (number (int_wrapping_add w64 (int_in (datum_at ds 0)) (int_in (datum_at ds 1))))
head_value heads.Sub ds =
    Ok (number (int_wrapping_sub w64 (int_in (datum_at ds 0)) (int_in (datum_at ds 1))))
head_value heads.Mul ds =
    Ok (number (int_wrapping_mul w64 (int_in (datum_at ds 0)) (int_in (datum_at ds 1))))
head_value heads.Div ds = quotient (int_in (datum_at ds 0)) (int_in (datum_at ds 1))
head_value heads.Rem ds = remainder (int_in (datum_at ds 0)) (int_in (datum_at ds 1))
head_value heads.Eq ds = Ok (truth (are_equal (datum_at ds 0) (datum_at ds 1)))
head_value heads.Lt ds = Ok (truth (is_less (datum_at ds 0) (datum_at ds 1)))
head_value heads.Le ds =
    Ok (truth (is_less (datum_at ds 0) (datum_at ds 1)
    || are_equal (datum_at ds 0) (datum_at ds 1)))
head_value heads.And ds = Ok (truth false)
head_value heads.Or ds = Ok (truth false)
head_value heads.Not ds = Ok (truth (not (truth_in (datum_at ds 0))))
head_value heads.If ds = Ok (truth false)
head_value heads.Pair ds = Ok (pair (datum_at ds 0) (datum_at ds 1))
head_value heads.Fst ds = Ok (first_of (datum_at ds 0))
head_value heads.Snd ds = Ok (second_of (datum_at ds 0))
head_value heads.List ds = Ok (list_value ds)
head_value heads.Len ds = Ok (number (pos (length (items_in (datum_at ds 0)))))
head_value heads.Nth ds = nth_value (items_in (datum_at ds 0)) (int_in (datum_at ds 1))
head_value heads.Sum ds = Ok (number (sum_onto (pos 0) (items_in (datum_at ds 0))))
head_value heads.Words ds = Ok (list_value (map text (words_of (text_in (datum_at ds 0)))))
head_value heads.Cut ds =
    Ok (list_value (map text (cut_at (text_in (datum_at ds 1)) (text_in (datum_at ds 0)))))
head_value heads.Int ds = number_value (number_of_text (text_in (datum_at ds 0)))
head_value heads.Text ds = Ok (text (printed (datum_at ds 0)))
head_value heads.Concat ds = Ok (text (text_in (datum_at ds 0) ++ text_in (datum_at ds 1)))
