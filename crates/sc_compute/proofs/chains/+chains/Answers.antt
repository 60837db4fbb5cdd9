use Rattle.std.proofs.Common.{◌∙◌, ◌∷◌, ap, refl, sym, arith}
use Rattle.sc_expr.specs.Views.{expr_data_of}
use Rattle.sc_lineage.specs.Dependencies.{place}
use Rattle.sc_lineage.specs.Views.{node_data_of}
use Rattle.sc_compute.proofs.ChainLemmas.{IsEach, chain-more, each_before, each_is_not_cache, each_reads, each_there}
use Rattle.sc_compute.proofs.chains.+chains.Goals as goal

pub chain_to-chain_behind-requires : goal.chain_to-chain_behind-requires
chain_to-chain_behind-requires t c =
    let arm = c.in-Each in
    let here : IsEach c.args.work.now c.args.at.node c.args.at.partition arm.kind arm.parent
    (expr_data_of arm.expr) = record {
      sound = c.is_sound.ensures.script;
      known = c.requires.node;
      within = c.requires.partition;
      is = sym c.node_in.ensures.at ∙ ap node_data_of arm.is;
    } in
    let there = each_there here c.args.inputs.now c.requires.right c.requires.made in (
      omega (arith, each_before here, c.decreases),
      (there.known, (there.within, (c.requires.right, there.made))),
    )

pub chain_to-returns-in_ok-push-in-Each-clause-leads :
    goal.chain_to-returns-in_ok-push-in-Each-clause-leads
chain_to-returns-in_ok-push-in-Each-clause-leads t c =
    let arm = c.in-Each in
    let here : IsEach c.args.work.now c.args.at.node c.args.at.partition arm.kind arm.parent
    (expr_data_of arm.expr) = record {
      sound = c.is_sound.ensures.script;
      known = c.requires.node;
      within = c.requires.partition;
      is = sym c.node_in.ensures.at ∙ ap node_data_of arm.is;
    } in
    let leads = c.in_ok-chain-in-Each.ensures.leads in
    record {
      path = place arm.parent c.args.at.partition ∷ leads.path;
      passes = (c.requires.lacks, each_is_not_cache here, each_reads here, leads.passes);
      there = leads.there;
      gives = chain-more here c.in_ok-chain-in-Each.chain.steps.items c.push.new.self.items _ _
          c.in_ok-push-in-Each.ensures.items refl refl leads.gives;
    }

pub chain_to-returns-in_ok-push-in-Each-clause-before :
    goal.chain_to-returns-in_ok-push-in-Each-clause-before
chain_to-returns-in_ok-push-in-Each-clause-before t c =
    let arm = c.in-Each in
    let here : IsEach c.args.work.now c.args.at.node c.args.at.partition arm.kind arm.parent
    (expr_data_of arm.expr) = record {
      sound = c.is_sound.ensures.script;
      known = c.requires.node;
      within = c.requires.partition;
      is = sym c.node_in.ensures.at ∙ ap node_data_of arm.is;
    } in
    omega (arith, each_before here, c.in_ok-chain-in-Each.ensures.before)
