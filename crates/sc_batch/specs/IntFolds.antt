-- Numbers put together by an expression.
use Rattle.std.specs.Prelude.{ℤ, false, ◌≡◌, [], ◌∷◌, Ok}
use Rattle.std.specs.Int.{w64, int_wrapping_add, int_wrapping_sub, int_wrapping_mul}
use Rattle.sc_value.specs.Datum.{number}
use Rattle.sc_expr.specs.ExprData.{ExprData}
use Rattle.sc_expr.specs.Heads.{is_lazy, head_value}
use Rattle.sc_expr.specs.declared.exprs.Head.{Head}
use Rattle.sc_expr.specs.Meaning.{two_values, value_of_expr}
use Rattle.sc_batch.specs.declared.int_folds.IntFold.{IntFold}
use Rattle.sc_batch.specs.declared.int_folds.IntFold.TheVariants.{Sum, Difference, Product}

-- what two numbers give together
abbrev pub put_together : IntFold → ℤ → ℤ → ℤ
put_together Sum a b = int_wrapping_add w64 a b
put_together Difference a b = int_wrapping_sub w64 a b
put_together Product a b = int_wrapping_mul w64 a b

-- an expression does this with two numbers
abbrev pub FoldsInts : ExprData → IntFold → Type 0
FoldsInts e f = (a b : ℤ)
    → value_of_expr (two_values (number a) (number b)) e ≡ Ok (number (put_together f a b))

-- a head does this with two numbers, both of which it evaluates
pub record IsIntHead (h : Head) (f : IntFold) : Type 0 where
  pub strict : is_lazy h ≡ false
  pub value : (a b : ℤ) → head_value h (number a ∷ number b ∷ []) ≡ Ok (number (put_together f a b))
