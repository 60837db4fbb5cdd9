-- What an expression over two numbers gives, where it is found with numbers alone.
use Rattle.std.specs.Prelude.{◌≡◌, Result, Ok, Err}
use Rattle.sc_value.specs.Datum.{Datum, number}
use Rattle.sc_expr.specs.Heads.{Outcome}
use Rattle.sc_expr.specs.Meaning.{EnvData, two_values}
use Rattle.sc_batch.specs.declared.at_ints.Stop.{Stop}
use Rattle.sc_batch.specs.declared.at_ints.Stop.TheVariants.{Raised, Beyond}
use Rattle.sc_batch.specs.declared.at_ints.TwoInts.{TwoInts}

-- the values of `a` and `b`
abbrev pub at_two : TwoInts → EnvData
at_two at = two_values (number at.a) (number at.b)

-- what was found is this outcome: its value or its raise; what goes beyond numbers says nothing
abbrev pub Gives : {X : Type 0} → (X → Datum) → Result X Stop → Outcome → Type 0
Gives view (Ok x) outcome = outcome ≡ Ok (view x)
Gives view (Err (Raised r)) outcome = outcome ≡ Err r
Gives view (Err Beyond) outcome = Unit {0}
