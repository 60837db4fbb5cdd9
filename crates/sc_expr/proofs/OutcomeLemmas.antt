-- What the outcomes of expressions in a row give.
use Rattle.std.proofs.Common.{◌≡◌, ℕ, zero, suc, ◌<◌, ◌≤◌, List, [], ◌∷◌, length, map, drop, get_or, refl, ap, sym, arith}
use Rattle.std.specs.Prelude.{false, Result, Ok, Err}
use Rattle.sc_base.specs.Answers.{Answers}
use Rattle.sc_base.specs.declared.refusals.OrMemory.{OrMemory}
use Rattle.sc_base.specs.declared.refusals.OrMemory.TheVariants as refusals
use Rattle.sc_base.proofs.Gathering.{gathered, gathered-stopped}
use Rattle.sc_value.specs.Datum.{Datum, truth}
use Rattle.sc_value.specs.Views.{datum_of}
use Rattle.sc_value.specs.declared.values.Value.{Value}
use Rattle.sc_expr.specs.ExprData.{exprs_of}
use Rattle.sc_expr.specs.Heads.{Outcome}
use Rattle.sc_expr.specs.Meaning.{EnvData, value_of_expr, outcomes_of, outcome_at, in_front, all_values}
use Rattle.sc_expr.specs.Views.{expr_data_of}
use Rattle.sc_expr.specs.declared.exprs.Expr.{Expr}
use Rattle.sc_expr.specs.declared.exprs.Raise.{Raise}

-- the outcomes of the program's expressions
abbrev pub outcomes_in : EnvData → List Expr → List Outcome
outcomes_in env xs = outcomes_of env (exprs_of (map expr_data_of xs))

-- the values of the program's expressions, or their first raise
abbrev pub values_in : EnvData → List Expr → Result (List Datum) Raise
values_in env xs = all_values (outcomes_in env xs)

-- the first raise ends them all
pub values_stopped : {Y : Type 0} (env : EnvData) (views : Y → List Datum) (xs : List Expr)
    (i : ℕ) (x : Expr) (vs : List Value) (all : Result (List Datum) Raise) (error : OrMemory Raise)
    → i < length xs → x ≡ get_or xs i x
    → all ≡ gathered in_front Ok (map datum_of vs) (values_in env (drop i xs))
    → Answers datum_of (λ r. r) (Err error) (value_of_expr env (expr_data_of x))
    → Answers views (λ r. r) (Err error) all
values_stopped env views xs i x vs all (refusals.Fault r) within at so_far is =
    gathered-stopped (values_in env) (λ y. value_of_expr env (expr_data_of y)) in_front Ok
    datum_of (λ y ys. refl) (Err r) (Err r) xs i x vs all within at so_far is
    (λ o. refl) (λ d. refl)
values_stopped env views xs i x vs all refusals.OutOfMemory within at so_far is = tt

-- the outcome of an argument that is there
pub outcome_at-found : (env : EnvData) (xs : List Expr) (i : ℕ) (x : Expr)
    → i < length xs → x ≡ get_or xs i x
    → outcome_at (outcomes_in env xs) i ≡ value_of_expr env (expr_data_of x)
outcome_at-found env [] i x within is = absurd (omega arith)
outcome_at-found env (y ∷ xs) zero x within is =
    ap (λ z. value_of_expr env (expr_data_of z)) (sym is)
outcome_at-found env (y ∷ xs) (suc i) x within is =
    outcome_at-found env xs i x (omega arith) is

-- the outcome of an argument that isn't there
pub outcome_at-missing : (env : EnvData) (xs : List Expr) (i : ℕ) → length xs ≤ i
    → outcome_at (outcomes_in env xs) i ≡ Ok (truth false)
outcome_at-missing env [] i past = refl
outcome_at-missing env (y ∷ xs) zero past = absurd (omega arith)
outcome_at-missing env (y ∷ xs) (suc i) past = outcome_at-missing env xs i (omega arith)
