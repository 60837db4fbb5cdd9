use Rattle.std.proofs.Common.{ℕ, Bool, false, rules, tests, ap, arith, refl, ◌∙◌}
use Rattle.std.specs.List.{list_all}
use Rattle.std.proofs.lemmas.Iterator.{YieldsList-from_range}
use Rattle.std.proofs.lemmas.Iterator.Search.{all_from_yields_List}
use Rattle.sc_base.specs.Lists.{at_or}
use Rattle.sc_tracker.proofs.CountLemmas.{range_numbers}
use Rattle.sc_dag.proofs.outputs.all_have_results.Goals as goal

pub returns : goal.returns
returns c =
    let test : ℕ → Bool = λ p. at_or c.args.results.now p false in
    all_from_yields_List test _ _ _ c.all.ensures.ran
    (YieldsList-from_range 0 c.args.tasks c.args.tasks refl (omega arith))
    (λ x b q k. search (rules, tests))
    ∙ ap (list_all test) (range_numbers 0 c.args.tasks)
