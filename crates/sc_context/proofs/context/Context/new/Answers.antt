use Rattle.std.proofs.Common.{List, [], subst, sym}
use Rattle.sc_core.specs.declared.journals.JobHistory.{JobHistory}
use Rattle.sc_context.specs.Contexts.{IsContext, context_data}
use Rattle.sc_context.specs.Records.{histories_of}
use Rattle.sc_context.specs.declared.records.GaveUp.{GaveUp}
use Rattle.sc_context.proofs.StartLemmas.{first_context}
use Rattle.sc_context.proofs.context.Context.new.Goals as goal

pub invariant_of-result : goal.invariant_of-result
invariant_of-result g c =
    let work = g.W.Naming.work in
    let passed = c.in-Ok.starts.passed in
    let files = g.F.Files.state c.args.files in (
      subst (λ (gs : List GaveUp). IsContext work passed
          (context_data 0 passed.carried c.new.result.histories.items (histories_of gs) files))
          (sym c.new.ensures.none_given)
          (subst (λ (hs : List JobHistory). IsContext work passed
          (context_data 0 passed.carried hs [] files)) (sym c.new.ensures.none)
          (first_context work passed files c.in-Ok.ensures.carried c.in-Ok.ensures.ready)),
      c.new.ensures.kept work,
    )
