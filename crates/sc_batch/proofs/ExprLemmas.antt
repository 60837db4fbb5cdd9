-- The arguments of calls.
use Rattle.std.proofs.Common.{◌≡◌, ◌∙◌, ℕ, zero, suc, ◌<◌, ◌≤◌, List, [], ◌∷◌, length, get_or, ap, refl, sym, arith}
use Rattle.std.specs.Prelude.{false, Ok}
use Rattle.sc_value.specs.Datum.{Datum, truth}
use Rattle.sc_expr.specs.ExprData.{ExprData, text_expr}
use Rattle.sc_expr.specs.Heads.{Outcome}
use Rattle.sc_expr.specs.Meaning.{outcome_at}
use Rattle.sc_expr.specs.Views.{expr_data_of, expr_step}
use Rattle.sc_expr.specs.declared.exprs.Expr.{Expr}
use Rattle.sc_expr.specs.declared.exprs.Expr.TheFolds.{fold-roll-Expr}
use Rattle.sc_expr.specs.declared.exprs.Expr.TheOpen as layers
use Rattle.sc_expr.specs.declared.exprs.Expr.TheVariants.{Text, rolls-Text}
use Rattle.sc_lineage.specs.Narrow.{at_row}
use Rattle.sc_batch.specs.Choices.{outcomes_in}

-- what a text stands for as an expression
pub expr_data_of-Text : (t : List ℕ) → expr_data_of (Text t) ≡ text_expr t
expr_data_of-Text t = ap expr_data_of (sym (rolls-Text t))
    ∙ fold-roll-Expr ExprData expr_step (layers.Text t)

-- expressions of which there is one
pub one_of : (xs : List Expr) (x : Expr) → length xs ≡ 1 → x ≡ get_or xs 0 x → xs ≡ x ∷ []
one_of [] x len is = absurd (omega arith)
one_of (y ∷ []) x len is = ap (λ z. z ∷ []) (sym is)
one_of (y ∷ z ∷ xs) x len is = absurd (omega arith)

-- expressions of which there are two
pub two_of : (xs : List Expr) (x y : Expr) → length xs ≡ 2 → x ≡ get_or xs 0 x → y ≡ get_or xs 1 y
    → xs ≡ x ∷ y ∷ []
two_of [] x y len is also = absurd (omega arith)
two_of (v ∷ []) x y len is also = absurd (omega arith)
two_of (v ∷ w ∷ []) x y len is also =
    ap (λ z. z ∷ w ∷ []) (sym is) ∙ ap (λ z. x ∷ z ∷ []) (sym also)
two_of (v ∷ w ∷ z ∷ xs) x y len is also = absurd (omega arith)

-- the outcome of an argument at a row
abbrev pub argument_outcome : List Expr → ℕ → Datum → Outcome
argument_outcome xs i d = outcome_at (outcomes_in xs d) i

-- the outcome of an argument that is there
pub argument-found : (xs : List Expr) (i : ℕ) (x : Expr) → i < length xs → x ≡ get_or xs i x
    → argument_outcome xs i ≡ at_row (expr_data_of x)
argument-found [] i x within is = absurd (omega arith)
argument-found (y ∷ xs) zero x within is = ap (λ z. at_row (expr_data_of z)) (sym is)
argument-found (y ∷ xs) (suc i) x within is = argument-found xs i x (omega arith) is

-- the outcome of an argument that isn't there
pub argument-missing : (xs : List Expr) (i : ℕ) → length xs ≤ i
    → argument_outcome xs i ≡ (λ d. Ok (truth false))
argument-missing [] i past = refl
argument-missing (y ∷ xs) zero past = absurd (omega arith)
argument-missing (y ∷ xs) (suc i) past = argument-missing xs i (omega arith)
