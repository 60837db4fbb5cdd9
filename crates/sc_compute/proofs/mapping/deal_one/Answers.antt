use Rattle.std.proofs.Common.{◌∙◌, ap, sym, subst}
use Rattle.std.proofs.lemmas.Result.{IfOk-weaker}
use Rattle.sc_combine.specs.Deals.{IsDealt}
use Rattle.sc_lineage.specs.Shuffles.{Dealing}
use Rattle.sc_lineage.specs.Views.{partitioner_data_of, shuffling_data_of}
use Rattle.sc_compute.proofs.SideLemmas.{deals_by_hash, deals_by_range}
use Rattle.sc_compute.proofs.mapping.deal_one.Goals as goal

pub returns-in-Hash : goal.returns-in-Hash
returns-in-Hash c =
    let kind = shuffling_data_of c.args.kind.now in
    let is = deals_by_hash kind c.args.n c.in-Hash.field-0 c.args.bounds.now
    (sym c.partitioner.ensures ∙ ap partitioner_data_of c.in-Hash.is) in
    IfOk-weaker c.dealt_by_hash.result _ _
    (λ d deals. subst (λ (dealing : Dealing). IsDealt dealing c.args.m c.args.rows.now d) (sym is)
    (deals c.args.m)) c.dealt_by_hash.ensures

pub returns-in-Range : goal.returns-in-Range
returns-in-Range c =
    let kind = shuffling_data_of c.args.kind.now in
    let is = deals_by_range kind c.args.n c.args.bounds.now
    (sym c.partitioner.ensures ∙ ap partitioner_data_of c.in-Range.is) in
    IfOk-weaker c.dealt_by_range.result _ _
    (λ d deals. subst (λ (dealing : Dealing). IsDealt dealing c.args.m c.args.rows.now d) (sym is)
    (deals c.args.m)) c.dealt_by_range.ensures.dealt
