use Rattle.std.proofs.Common.{◌∙◌, ap, length, subst}
use Rattle.sc_lineage.specs.ScriptData.{WorkData}
use Rattle.sc_desk.specs.Begins.{IsPassedFor}
use Rattle.sc_context.specs.Starts.{new_store}
use Rattle.sc_context.proofs.StartLemmas.{many_made}
use Rattle.sc_context.proofs.context.make_starts.Goals as goal

pub returns-clause-ready : goal.returns-clause-ready
returns-clause-ready g c =
    record {
      passed_on = subst (λ (w : WorkData). IsPassedFor w c.in_ok-passed.passed)
          (c.get-2.ensures ∙ c.is_named.ensures) c.in_ok-passed.ensures.passed;
      fits = tt;
    }

pub locked-requires-clause-many : goal.locked-requires-clause-many
locked-requires-clause-many g c =
    ap length c.in_ok-stores.ensures
    ∙ many_made g.W.Naming.work (new_store g.W.Naming.work)
