use Rattle.std.proofs.Common.{◌∙◌, map, ap}
use Rattle.sc_value.specs.Picked.{picked}
use Rattle.sc_shuffle.proofs.BucketLemmas.{split_is}
use Rattle.sc_shuffle.proofs.outputs.MapOutput.build.Goals as goal

pub returns : goal.returns
returns c =
    c.in_ok-new.ensures.ok ∙ c.in_ok-buckets.ensures
    ∙ ap (map (picked c.args.rows.now)) c.in_ok-places.ensures.are
    ∙ split_is c.args.n c.args.buckets.now c.args.rows.now c.requires.level
