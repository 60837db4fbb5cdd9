use Rattle.std.proofs.Common.{◌∙◌, sym, subst}
use Rattle.sc_base.specs.Lists.{numbers_below}
use Rattle.sc_keys.specs.Splits.{places_of}
use Rattle.sc_shuffle.proofs.BucketLemmas.{split_is}
use Rattle.sc_shuffle.specs.Buckets.{by_bucket}
use Rattle.sc_value.specs.Picked.{picked}
use Rattle.sc_combine.specs.Deals.{IsDealt}
use Rattle.sc_combine.proofs.DealLemmas.{is_dealt, map-twice}
use Rattle.sc_combine.proofs.dealing.of_buckets.Goals as goal

pub returns : goal.returns
returns c dealing m are count =
    let rows = c.args.rows.now in
    let buckets = c.args.buckets.now in
    let n = c.args.n in
    subst (IsDealt dealing m rows) (sym c.in_ok-output.ensures)
    (is_dealt dealing m n rows buckets are c.requires.below (by_bucket n buckets rows) count
    (sym (split_is n buckets rows c.requires.level)
    ∙ map-twice (λ j. places_of j buckets) (picked rows) (numbers_below n)))
