use Rattle.std.proofs.Common.{refl}
use Rattle.sc_value.specs.Datum.{truth}
use Rattle.sc_columns.proofs.FindingLemmas.{found-map, past-map}
use Rattle.sc_columns.proofs.VariantLemmas.{datum_of-Bool}
use Rattle.sc_columns.proofs.gets.find_bool.Goals as goal

pub returns-in-Some : goal.returns-in-Some
returns-in-Some c =
    found-map truth c.args.items.now c.args.i c.in-Some.b _ c.in-Some.ensures
    (datum_of-Bool c.in-Some.b)

pub returns-in-None : goal.returns-in-None
returns-in-None c = past-map truth c.args.items.now c.args.i _ c.in-None.ensures refl
