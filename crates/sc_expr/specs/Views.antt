-- The data that the program's expressions and environments stand for.
use Rattle.sc_value.specs.Datum.{Datum}
use Rattle.sc_value.specs.Views.{datum_of, type_data_of}
use Rattle.sc_expr.specs.ExprData.{ExprData, int_expr, bool_expr, text_expr, variable_expr, call_expr}
use Rattle.sc_expr.specs.ExprData.{exprs_of}
use Rattle.sc_expr.specs.Meaning.{EnvData, one_value, two_values}
use Rattle.sc_expr.specs.Schemes.{TypeEnvData, one_type, two_types}
use Rattle.sc_expr.specs.declared.exprs.Expr.{Expr, fold-Expr}
use Rattle.sc_expr.specs.declared.exprs.Expr.TheOpen.{Expr-F}
use Rattle.sc_expr.specs.declared.arguments.Argument.{Argument}
use Rattle.sc_expr.specs.declared.arguments.Argument.TheVariants as arguments
use Rattle.sc_expr.specs.declared.evaluation.Env.{Env}
use Rattle.sc_expr.specs.declared.evaluation.Env.TheVariants as envs
use Rattle.sc_expr.specs.declared.typing.TypeEnv.{TypeEnv}
use Rattle.sc_expr.specs.declared.typing.TypeEnv.TheVariants as type_envs

-- one layer of an expression, with data in place of the expressions inside
abbrev pub expr_step : Expr-F ExprData → ExprData
expr_step (Expr-F.Int n) = int_expr n
expr_step (Expr-F.Bool b) = bool_expr b
expr_step (Expr-F.Text t) = text_expr t
expr_step (Expr-F.Variable v) = variable_expr v
expr_step (Expr-F.Call h es) = call_expr h (exprs_of es.items)

-- what an expression stands for
abbrev pub expr_data_of : Expr → ExprData
expr_data_of = fold-Expr ExprData expr_step

-- what the values of variables stand for
abbrev pub env_data_of : Env → EnvData
env_data_of (envs.One x) = one_value (datum_of x.now)
env_data_of (envs.Two a b) = two_values (datum_of a.now) (datum_of b.now)

-- what the types of variables stand for
abbrev pub type_env_data_of : TypeEnv → TypeEnvData
type_env_data_of (type_envs.One x) = one_type (type_data_of x.now)
type_env_data_of (type_envs.Two a b) = two_types (type_data_of a.now) (type_data_of b.now)

-- what an argument of a head stands for
abbrev pub argument_of : Argument → Datum
argument_of (arguments.Lent x) = datum_of x.now
argument_of (arguments.Own x) = datum_of x
