-- What the types of expressions in a row give.
use Rattle.std.proofs.Common.{◌≡◌, ℕ, ◌<◌, List, Some, None, length, drop, get_or, map, refl}
use Rattle.std.specs.Prelude.{Option, Err}
use Rattle.sc_base.specs.Answers.{Finds}
use Rattle.sc_base.specs.declared.refusals.OrMemory.{OrMemory}
use Rattle.sc_base.specs.declared.refusals.OrMemory.TheVariants as refusals
use Rattle.sc_base.proofs.Gathering.{gathered, gathered-stopped}
use Rattle.sc_value.specs.declared.types.Ty.{Ty}
use Rattle.sc_value.specs.Types.{TypeData}
use Rattle.sc_value.specs.Views.{type_data_of}
use Rattle.sc_expr.specs.ExprData.{exprs_of}
use Rattle.sc_expr.specs.Schemes.{TypeEnvData, type_of_expr, types_of_exprs, with_type}
use Rattle.sc_expr.specs.Views.{expr_data_of}
use Rattle.sc_expr.specs.declared.exprs.Expr.{Expr}
use Rattle.sc_expr.specs.declared.typing.IllTyped.{IllTyped}

-- the types of the program's expressions
abbrev pub types_in : TypeEnvData → List Expr → Option (List TypeData)
types_in env xs = types_of_exprs env (exprs_of (map expr_data_of xs))

-- one without a type leaves all without types
pub types_stopped : {Y : Type 0} (env : TypeEnvData) (views : Y → List TypeData) (xs : List Expr)
    (i : ℕ) (x : Expr) (vs : List Ty) (all : Option (List TypeData)) (error : OrMemory IllTyped)
    → i < length xs → x ≡ get_or xs i x
    → all ≡ gathered with_type Some (map type_data_of vs) (types_in env (drop i xs))
    → Finds type_data_of (Err error) (type_of_expr env (expr_data_of x))
    → Finds views (Err error) all
types_stopped env views xs i x vs all (refusals.Fault f) within at so_far is =
    gathered-stopped (types_in env) (λ y. type_of_expr env (expr_data_of y)) with_type Some
    type_data_of (λ y ys. refl) None None xs i x vs all within at so_far is (λ o. refl) (λ d. refl)
types_stopped env views xs i x vs all refusals.OutOfMemory within at so_far is = tt
