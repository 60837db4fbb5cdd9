use Rattle.std.proofs.Common.{◌≡◌, ◌∙◌, true, None, ap, sym, subst}
use Rattle.std.specs.Option.{is_some, option_copied}
use Rattle.sc_lineage.specs.NodeData.{shuffle_node}
use Rattle.sc_lineage.specs.Views.{shuffling_data_of}
use Rattle.sc_lineage.specs.declared.nodes.Shuffling.{Shuffling}
use Rattle.sc_compute.specs.Stages.{HasBounds, bounds_told}
use Rattle.sc_compute.proofs.StageLemmas.{not_there}
use Rattle.sc_compute.proofs.stages.ShuffleInputs.bounds_of.Goals as goal

pub unreachable-requires : goal.unreachable-requires
unreachable-requires c =
    let stages = c.args.self.now in
    let node = c.args.node in
    let P : Shuffling → Type 0 =
    λ kind. HasBounds stages node (shuffle_node (shuffling_data_of kind) 0 0) in
    let told : is_some (bounds_told stages node) ≡ true =
    subst P c.in-SortByKey.is (c.requires.told 0 0) in
    let none : bounds_told stages node ≡ None =
    sym c.get.ensures.value ∙ ap option_copied c.in-None.is in
    not_there (bounds_told stages node) told none
