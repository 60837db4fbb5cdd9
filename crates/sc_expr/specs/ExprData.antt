-- The expressions of scripts, as plain data.
use Rattle.std.specs.Prelude.{ℕ, ℤ, Bool, List, [], ◌∷◌}
use Rattle.sc_expr.specs.declared.exprs.Variable.{Variable}
use Rattle.sc_expr.specs.declared.exprs.Head.{Head}

mutual
  -- an expression, with nothing of how the program holds it
  pub data ExprData : Type 0 where
    int_expr : ℤ → ExprData
    bool_expr : Bool → ExprData
    text_expr : List ℕ → ExprData
    variable_expr : Variable → ExprData
    call_expr : Head → ExprsData → ExprData

  -- expressions, one after another
  pub data ExprsData : Type 0 where
    no_exprs : ExprsData
    more_exprs : ExprData → ExprsData → ExprsData

-- a list of expressions as expressions
abbrev pub exprs_of : List ExprData → ExprsData
exprs_of [] = no_exprs
exprs_of (e ∷ es) = more_exprs e (exprs_of es)
