-- What an expression gives of two values, as more behind the first of them or as a value.
use Rattle.std.specs.Prelude.{◌≡◌, ◌++◌, Option, Some, None, Result, Ok, Err}
use Rattle.sc_base.specs.declared.refusals.OrMemory.{OrMemory}
use Rattle.sc_base.specs.declared.refusals.OrMemory.TheVariants.{Fault, OutOfMemory}
use Rattle.sc_expr.specs.Heads.{Outcome, text_in}
use Rattle.sc_expr.specs.declared.exprs.Raise.{Raise}
use Rattle.sc_value.specs.Datum.{Datum, text}
use Rattle.sc_value.specs.Views.{datum_of}
use Rattle.sc_batch.specs.declared.growing.Growth.{Growth}
use Rattle.sc_batch.specs.declared.growing.Growth.TheVariants.{Same, Behind, Whole}

-- what was given of a value: itself, its text with more behind it, or another value
abbrev pub given_value : Datum → Growth → Datum
given_value before Same = before
given_value before (Behind more) = text (text_in before ++ more)
given_value before (Whole value) = datum_of value

-- what was found is this outcome, unless nothing is said or memory ran out
abbrev pub FindsGiven : Datum → Outcome → Result (Option Growth) (OrMemory Raise) → Type 0
FindsGiven before outcome (Ok (Some found)) = outcome ≡ Ok (given_value before found)
FindsGiven before outcome (Ok None) = Unit {0}
FindsGiven before outcome (Err (Fault r)) = outcome ≡ Err r
FindsGiven before outcome (Err OutOfMemory) = Unit {0}
