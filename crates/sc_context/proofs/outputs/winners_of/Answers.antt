use Rattle.std.proofs.Common.{◌≡◌, ◌∙◌, ◌<◌, ℕ, length, ap, subst, sym}
use Rattle.sc_dag.specs.DagData.{stage_at}
use Rattle.sc_context.proofs.FoundLemmas.{first_more}
use Rattle.sc_context.proofs.outputs.winners_of.Goals as goal

pub loop-partition-preserved : goal.loop-partition-preserved
loop-partition-preserved c =
    let end = c.args.end.now in
    let count : c.tasks-count.result ≡ length end.committers =
    c.tasks-count.ensures ∙ ap (λ (s : ℕ). (stage_at end.dag s).tasks) c.result_stage.ensures
    ∙ sym c.requires.places in
    first_more end c.loop-partition.partition c.loop-partition.winners.items c.push.new.self.items
    c.in-Some.winner c.requires c.loop-partition.invariant
    (subst (λ n. c.loop-partition.partition < n) count c.loop-partition-test.true)
    (sym c.in-Some.ensures) c.is_within_types.ensures c.in_ok-push-in-Some.ensures.items
