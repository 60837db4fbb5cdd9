use Rattle.std.proofs.Common.{◌≡◌, map}
use Rattle.sc_value.specs.Datum.{text}
use Rattle.sc_value.specs.Views.{datum_of}
use Rattle.sc_expr.proofs.texts.list_of_texts.Given as goal

abbrev pub invariant-loop-text : goal.invariant-loop-text
invariant-loop-text l = map datum_of l.items.items ≡ map text l.yielded
