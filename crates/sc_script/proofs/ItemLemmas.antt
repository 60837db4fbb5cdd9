-- Expressions and literals, argument by argument.
use Rattle.std.proofs.Common.{◌≡◌, ◌∙◌, ◌∷◌, ◌++◌, [], List, Some, None, Option, length, ◌≤◌, map, refl, ap}
use Rattle.std.proofs.lemmas.List.{map-id}
use Rattle.sc_base.proofs.Gathering.{gathered}
use Rattle.sc_expr.specs.ExprData.{ExprData, ExprsData, exprs_of}
use Rattle.sc_expr.specs.Views.{expr_data_of}
use Rattle.sc_expr.specs.declared.exprs.Expr.{Expr}
use Rattle.sc_value.specs.Datum.{Datum}
use Rattle.sc_script.specs.Items.{expr_from, exprs_from, literal_in, literals_in, with_expr, with_literal}
use Rattle.sc_script.specs.Views.{arg_data_of, args_of}
use Rattle.sc_script.specs.declared.arguments.Place.{Place}
use Rattle.sc_script.specs.declared.trees.Arg.{Arg}
use Rattle.sc_script.proofs.Taken.{taken-more, taken-all, taken-stopped}

module _ (place : Place) where
  abbrev exprs : List Arg → Option ExprsData
  exprs xs = exprs_from place (args_of (map arg_data_of xs))

  abbrev one : Arg → Option ExprData
  one x = expr_from place (arg_data_of x)

  abbrev so_far : List Expr → Option ExprsData → Option ExprsData
  so_far vs rest = gathered with_expr Some (map expr_data_of vs) rest

  pub exprs-more : (xs rest : List Arg) (x : Arg) (vs ws : List Expr) (v : Expr)
      (all : Option ExprsData) → xs ≡ x ∷ rest → all ≡ so_far vs (exprs xs)
      → one x ≡ Some (expr_data_of v) → ws ≡ vs ++ v ∷ [] → all ≡ so_far ws (exprs rest)
  exprs-more = taken-more exprs one with_expr Some expr_data_of (λ x xs. refl)

  pub exprs-all : (xs : List Arg) (vs : List Expr) (all : Option ExprsData) → length xs ≤ 0
      → all ≡ so_far vs (exprs xs) → all ≡ Some (exprs_of (map expr_data_of vs))
  exprs-all xs vs all =
      taken-all exprs one with_expr Some expr_data_of (λ x xs. refl) (λ es. Some (exprs_of es))
      xs vs all refl (λ e es. refl)

  pub exprs-stopped : (xs rest : List Arg) (x : Arg) (vs : List Expr) (all : Option ExprsData)
      → xs ≡ x ∷ rest → all ≡ so_far vs (exprs xs) → one x ≡ None → all ≡ None
  exprs-stopped xs rest x vs all =
      taken-stopped exprs one with_expr Some expr_data_of (λ x xs. refl) None None xs rest x vs all
      (λ o. refl) (λ e. refl)

abbrev literals : List Arg → Option (List Datum)
literals xs = literals_in (args_of (map arg_data_of xs))

abbrev literal : Arg → Option Datum
literal x = literal_in (arg_data_of x)

-- the literals so far, in front of the rest
abbrev pub literals_with : List Datum → Option (List Datum) → Option (List Datum)
literals_with ds rest = gathered with_literal Some (map (λ d. d) ds) rest

pub literals-more : (xs rest : List Arg) (x : Arg) (ds es : List Datum) (d : Datum)
    (all : Option (List Datum)) → xs ≡ x ∷ rest → all ≡ literals_with ds (literals xs)
    → literal x ≡ Some d → es ≡ ds ++ d ∷ [] → all ≡ literals_with es (literals rest)
literals-more = taken-more literals literal with_literal Some (λ d. d) (λ x xs. refl)

pub literals-all : (xs : List Arg) (ds : List Datum) (all : Option (List Datum)) → length xs ≤ 0
    → all ≡ literals_with ds (literals xs) → all ≡ Some ds
literals-all xs ds all past so_far =
    taken-all literals literal with_literal Some (λ d. d) (λ x xs. refl) Some xs ds all refl
    (λ d es. refl) past so_far
    ∙ ap Some (map-id ds)

pub literals-stopped : (xs rest : List Arg) (x : Arg) (ds : List Datum)
    (all : Option (List Datum)) → xs ≡ x ∷ rest → all ≡ literals_with ds (literals xs)
    → literal x ≡ None → all ≡ None
literals-stopped xs rest x ds all =
    taken-stopped literals literal with_literal Some (λ d. d) (λ x xs. refl) None None xs rest x ds
    all (λ o. refl) (λ d. refl)
