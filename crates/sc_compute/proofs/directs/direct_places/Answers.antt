use Rattle.std.proofs.Common.{◌≡◌, ◌∙◌, map}
use Rattle.std.proofs.lemmas.Result.{IfOk-weaker}
use Rattle.sc_base.specs.Lists.{at_or}
use Rattle.sc_lineage.specs.Dependencies.{reads_of}
use Rattle.sc_lineage.specs.Views.{node_data_of, place_data_of}
use Rattle.sc_compute.specs.Reading.{direct_reads}
use Rattle.sc_compute.proofs.MadeLemmas.{narrow_found, narrow_within}
use Rattle.sc_compute.proofs.directs.direct_places.Goals as goal

pub reads-requires-clause-partition : goal.reads-requires-clause-partition
reads-requires-clause-partition c =
    narrow_within c.args.work.now c.is_sound.ensures.script c.args.at.node c.args.at.partition
    c.requires.node c.requires.partition c.args.stages.now c.requires.right c.requires.made
    c.made_for.result.now c.made_for.ensures c.in-Narrow-default.is-0 c.counts.result.now
    (node_data_of c.node_in-node.result.now) c.counts.ensures c.node_in-node.ensures.at

pub returns-in-Narrow-default : goal.returns-in-Narrow-default
returns-in-Narrow-default c =
    let work = c.args.work.now in
    let node = node_data_of c.node_in-node.result.now in
    let p = c.args.at.partition in
    let found =
    narrow_found work c.is_sound.ensures.script c.args.at.node p c.requires.node
    c.requires.partition c.args.stages.now c.requires.right c.requires.made
    c.made_for.result.now c.made_for.ensures c.in-Narrow-default.is-0 c.counts.result.now node
    c.counts.ensures c.node_in-node.ensures.at in
    IfOk-weaker c.reads.result
    (λ v. map place_data_of v.items ≡ reads_of (λ q. at_or c.counts.result.now q 0) node p)
    (λ v. map place_data_of v.items ≡ direct_reads work c.args.at.node p)
    (λ v is. is ∙ found) c.reads.ensures
