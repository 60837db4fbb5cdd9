-- Columns of items of one type, and what heads make of two numbers.
use Rattle.std.specs.Prelude.{ℤ, pos, Bool, true, false, ◌||◌, List, Option, Some, None, Ok, Err, int_lt, int_rem, replicate}
use Rattle.std.specs.Ordering.{int_eq}
use Rattle.std.specs.Int.{w64, int_wrapping_add, int_wrapping_sub, int_wrapping_mul, int_wrapping_div}
use Rattle.sc_value.specs.Datum.{number}
use Rattle.sc_expr.specs.Heads.{Outcome, quotient, remainder}
use Rattle.sc_expr.specs.declared.exprs.Head.{Head}
use Rattle.sc_expr.specs.declared.exprs.Head.TheVariants as heads
use Rattle.sc_expr.specs.declared.exprs.Raise.TheVariants.{DivideByZero}
use Rattle.sc_batch.specs.declared.items.Items.{Items}
use Rattle.sc_batch.specs.declared.items.Items.TheVariants as items

-- the items of a column
abbrev pub list_in : {X : Type 0} → Items X → List X
list_in (items.Each all) = all.now
list_in (items.Same x n) = replicate n x.now

-- the number that a head gives of two numbers
unfoldable pub int_value : Head → ℤ → ℤ → ℤ
int_value heads.Add m n = int_wrapping_add w64 m n
int_value heads.Sub m n = int_wrapping_sub w64 m n
int_value heads.Mul m n = int_wrapping_mul w64 m n
int_value h m n = pos 0

-- the truth value that a head gives of two numbers
unfoldable pub int_test : Head → ℤ → ℤ → Bool
int_test heads.Eq m n = int_eq m n
int_test heads.Lt m n = int_lt m n
int_test heads.Le m n = int_lt m n || int_eq m n
int_test h m n = false

-- the remainder of two numbers, or else their quotient
abbrev pub division : Bool → ℤ → ℤ → Outcome
division true m n = remainder m n
division false m n = quotient m n

-- the remainder of two numbers or else their quotient, where the second isn't zero
unfoldable pub divided : Bool → ℤ → ℤ → ℤ
divided true m n = int_rem m n
divided false m n = int_wrapping_div w64 m n

-- a number, or the raise of a division by zero
abbrev pub divided_outcome : Option ℤ → Outcome
divided_outcome (Some n) = Ok (number n)
divided_outcome None = Err DivideByZero
