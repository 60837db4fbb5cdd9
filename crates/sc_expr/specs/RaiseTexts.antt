-- How raises are written.
use Rattle.std.specs.Prelude.{ℕ, List, codes}
use Rattle.sc_expr.specs.declared.exprs.Raise.{Raise}
use Rattle.sc_expr.specs.declared.exprs.Raise.TheVariants.{DivideByZero, NotANumber, OutOfRange}

-- the name of a raise
abbrev pub raise_text : Raise → List ℕ
raise_text DivideByZero = codes "DivideByZero"
raise_text NotANumber = codes "NotANumber"
raise_text OutOfRange = codes "OutOfRange"
