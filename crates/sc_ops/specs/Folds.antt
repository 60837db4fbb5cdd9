-- Rows put together by an expression over two values.
use Rattle.std.specs.Prelude.{List, [], ◌∷◌, Option, Some, None, Result, Ok, Err}
use Rattle.sc_value.specs.Datum.{Datum}
use Rattle.sc_expr.specs.ExprData.{ExprData}
use Rattle.sc_expr.specs.Heads.{Outcome}
use Rattle.sc_expr.specs.declared.exprs.Raise.{Raise}
use Rattle.sc_lineage.specs.Actions.{folded}

-- the value of an outcome as one that was found, or its raise
abbrev pub found : Outcome → Result (Option Datum) Raise
found (Ok d) = Ok (Some d)
found (Err r) = Err r

-- rows put together from the left: nothing of none, else the last value or the first raise
abbrev pub fold_of : ExprData → List Datum → Result (Option Datum) Raise
fold_of e [] = Ok None
fold_of e (d ∷ ds) = found (folded e d ds)
