use Rattle.std.proofs.Common.{◌∙◌, map, ap}
use Rattle.sc_base.specs.Lists.{numbers_below}
use Rattle.sc_keys.specs.Splits.{places_of}
use Rattle.sc_value.specs.Picked.{picked}
use Rattle.sc_combine.proofs.DealLemmas.{map-twice}
use Rattle.sc_combine.proofs.sides.Side.of.Goals as goal

pub returns : goal.returns
returns c =
    let values = c.args.values in
    ap (map (picked values)) c.in_ok-places.ensures.are
    ∙ map-twice (λ j. places_of j c.args.numbers.now) (picked values) (numbers_below c.args.count)
