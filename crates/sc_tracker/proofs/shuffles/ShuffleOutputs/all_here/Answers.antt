use Rattle.std.proofs.Common.{ℕ, Bool, rules, tests, ap, arith, refl, ◌∙◌}
use Rattle.std.specs.List.{list_all}
use Rattle.std.proofs.lemmas.Iterator.{YieldsList-from_range}
use Rattle.std.proofs.lemmas.Iterator.Search.{all_from_yields_List}
use Rattle.sc_tracker.specs.Outputs.{is_here, output_in}
use Rattle.sc_tracker.proofs.CountLemmas.{range_numbers}
use Rattle.sc_tracker.proofs.shuffles.ShuffleOutputs.all_here.Goals as goal

pub returns : goal.returns
returns c =
    let test : ℕ → Bool = λ m. is_here (output_in c.args.self.now.outputs m) in
    all_from_yields_List test _ _ _ c.all.ensures.ran
    (YieldsList-from_range 0 c.args.maps c.args.maps refl (omega arith))
    (λ x b q k. search (rules, tests))
    ∙ ap (list_all test) (range_numbers 0 c.args.maps)
