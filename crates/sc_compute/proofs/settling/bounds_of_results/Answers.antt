use Rattle.std.proofs.Common.{◌∙◌, ap, map}
use Rattle.std.proofs.lemmas.Result.{IfOk-weaker}
use Rattle.sc_lineage.specs.Meaning.{bounds_between}
use Rattle.sc_compute.specs.Results.{rows_told}
use Rattle.sc_compute.proofs.SettleLemmas.{bounds_of_sort}
use Rattle.sc_compute.proofs.settling.bounds_of_results.Goals as goal

pub returns-clause-of_sort : goal.returns-clause-of_sort
returns-clause-of_sort c = λ work node parent sort are.
    IfOk-weaker c.bounds_between.result _ _
    (λ b is. is
    ∙ ap (λ streams. bounds_between streams c.args.n)
    (c.deref.ensures.value ∙ c.in_ok-streams.ensures)
    ∙ bounds_of_sort work node parent c.args.n (map rows_told c.args.results.now) sort are)
    c.bounds_between.ensures
