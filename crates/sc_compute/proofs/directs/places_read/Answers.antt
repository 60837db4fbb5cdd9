use Rattle.std.proofs.Common.{◌≡◌, ◌<◌, All, map}
use Rattle.std.proofs.lemmas.Result.{IfOk-weaker}
use Rattle.sc_lineage.specs.Views.{place_data_of}
use Rattle.sc_compute.specs.Reading.{direct_reads}
use Rattle.sc_compute.specs.Stages.{HasMade, local_count}
use Rattle.sc_compute.proofs.DirectLemmas.{before_direct, found_all, within_direct}
use Rattle.sc_compute.proofs.MadeLemmas.{made_direct}
use Rattle.sc_compute.proofs.directs.places_read.Goals as goal

pub returns-clause-before : goal.returns-clause-before
returns-clause-before c =
    let work = c.args.work.now in
    let reads = direct_reads work c.args.at.node c.args.at.partition in
    IfOk-weaker c.direct_places.result (λ v. map place_data_of v.items ≡ reads)
    (λ v. All (λ q. q.node < c.args.at.node) v.items)
    (λ v is. found_all (λ q. q.node < c.args.at.node) v.items reads is
    (before_direct work c.is_sound.ensures.script c.args.at.node c.args.at.partition
    c.requires.node c.requires.partition))
    c.direct_places.ensures

pub returns-clause-within : goal.returns-clause-within
returns-clause-within c =
    let work = c.args.work.now in
    let reads = direct_reads work c.args.at.node c.args.at.partition in
    IfOk-weaker c.direct_places.result (λ v. map place_data_of v.items ≡ reads)
    (λ v. All (λ q. q.partition < local_count work q.node) v.items)
    (λ v is. found_all (λ q. q.partition < local_count work q.node) v.items reads is
    (within_direct work c.is_sound.ensures.script c.args.at.node c.args.at.partition
    c.requires.node c.requires.partition))
    c.direct_places.ensures

pub returns-clause-made : goal.returns-clause-made
returns-clause-made c =
    let work = c.args.work.now in
    let stages = c.args.stages.now in
    let reads = direct_reads work c.args.at.node c.args.at.partition in
    IfOk-weaker c.direct_places.result (λ v. map place_data_of v.items ≡ reads)
    (λ v. All (λ q. HasMade stages q.node) v.items)
    (λ v is. found_all (λ q. HasMade stages q.node) v.items reads is
    (made_direct work c.is_sound.ensures.script c.args.at.node c.args.at.partition
    c.requires.node c.requires.partition stages c.requires.right c.requires.made))
    c.direct_places.ensures
