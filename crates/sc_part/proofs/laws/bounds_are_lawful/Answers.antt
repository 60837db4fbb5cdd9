use Rattle.sc_part.proofs.BoundLemmas.{ends_in_order, few_bounds, strict_once}
use Rattle.sc_part.proofs.RangeLemmas.{range-le}
use Rattle.sc_part.specs.Bounds.{ends_of}
use Rattle.sc_value.proofs.KeyLemmas.{keys_ordered}
use Rattle.sc_part.proofs.laws.bounds_are_lawful.Goals as goal

pub returns : goal.returns
returns c = record {
  in_order = λ keys n.
      let up = ends_in_order keys_ordered keys n in
      strict_once keys_ordered (ends_of keys n) up;
  few = few_bounds;
  ranges = range-le;
}
