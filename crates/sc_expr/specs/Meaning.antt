-- The meaning of expressions.
use Rattle.std.specs.Prelude.{ℕ, true, false, List, [], ◌∷◌, Result, Ok, Err, if◌then◌else◌}
use Rattle.sc_base.specs.Lists.{at_or}
use Rattle.sc_value.specs.Datum.{Datum, number, truth, text}
use Rattle.sc_expr.specs.ExprData.{ExprData, int_expr, bool_expr, text_expr, variable_expr, call_expr, ExprsData, no_exprs, more_exprs}
use Rattle.sc_expr.specs.Heads.{Outcome, truth_in, is_lazy, head_value}
use Rattle.sc_expr.specs.declared.exprs.Variable.{Variable}
use Rattle.sc_expr.specs.declared.exprs.Variable.TheVariants.{X, A, B}
use Rattle.sc_expr.specs.declared.exprs.Head.{Head}
use Rattle.sc_expr.specs.declared.exprs.Head.TheVariants as heads
use Rattle.sc_expr.specs.declared.exprs.Raise.{Raise}

-- the values of the variables of a place: of `x`, or of `a` and `b`
pub data EnvData : Type 0 where
  one_value : Datum → EnvData
  two_values : Datum → Datum → EnvData

-- the value of a variable; one that the place doesn't have counts as false
abbrev pub variable_value : EnvData → Variable → Datum
variable_value (one_value x) X = x
variable_value (two_values a b) A = a
variable_value (two_values a b) B = b
variable_value env v = truth false

-- a value in front of values, unless these raise
abbrev pub with_value : Datum → Result (List Datum) Raise → Result (List Datum) Raise
with_value d (Ok ds) = Ok (d ∷ ds)
with_value d (Err r) = Err r

-- an outcome in front of values: a raise hides those behind it
abbrev pub in_front : Outcome → Result (List Datum) Raise → Result (List Datum) Raise
in_front (Ok d) rest = with_value d rest
in_front (Err r) rest = Err r

-- all values, or the first raise from the left
abbrev pub all_values : List Outcome → Result (List Datum) Raise
all_values [] = Ok []
all_values (o ∷ os) = in_front o (all_values os)

-- a function of all values, unless one raises
abbrev pub strict_outcome : (List Datum → Outcome) → Result (List Datum) Raise → Outcome
strict_outcome f (Ok ds) = f ds
strict_outcome f (Err r) = Err r

-- the outcome of an argument; one that isn't there counts as false
abbrev pub outcome_at : List Outcome → ℕ → Outcome
outcome_at os i = at_or os i (Ok (truth false))

-- one of two outcomes, by a test that may raise
abbrev pub chosen : Outcome → Outcome → Outcome → Outcome
chosen (Err r) x y = Err r
chosen (Ok d) x y = if truth_in d then x else y

-- what a head gives that doesn't evaluate all its arguments, a line for each of them; any other
-- head gives what it makes of all values
abbrev pub lazy_outcome : Head → List Outcome → Outcome
lazy_outcome heads.And os = chosen (outcome_at os 0) (outcome_at os 1) (Ok (truth false))
lazy_outcome heads.Or os = chosen (outcome_at os 0) (Ok (truth true)) (outcome_at os 1)
lazy_outcome heads.If os = chosen (outcome_at os 0) (outcome_at os 1) (outcome_at os 2)
lazy_outcome h os = strict_outcome (head_value h) (all_values os)

-- what a head gives, from the outcomes of all its arguments
abbrev pub call_outcome : Head → List Outcome → Outcome
call_outcome h os =
    if is_lazy h then lazy_outcome h os else strict_outcome (head_value h) (all_values os)

abbrev mutual
  -- the value or the raise of an expression
  pub value_of_expr : EnvData → ExprData → Outcome
  value_of_expr env (int_expr n) = Ok (number n)
  value_of_expr env (bool_expr b) = Ok (truth b)
  value_of_expr env (text_expr t) = Ok (text t)
  value_of_expr env (variable_expr v) = Ok (variable_value env v)
  value_of_expr env (call_expr h es) = call_outcome h (outcomes_of env es)

  -- the outcomes of expressions, each on its own
  pub outcomes_of : EnvData → ExprsData → List Outcome
  outcomes_of env no_exprs = []
  outcomes_of env (more_exprs e es) = value_of_expr env e ∷ outcomes_of env es
