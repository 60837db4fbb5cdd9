use Rattle.std.proofs.Common.{◌&&◌, ◌==◌, ℕ, Bool, rules, tests, ap, arith, length, refl, sym, ◌∙◌}
use Rattle.std.specs.List.{list_any}
use Rattle.std.proofs.lemmas.Iterator.{YieldsList-from_range}
use Rattle.std.proofs.lemmas.Iterator.Search.{any_from_yields_List}
use Rattle.std.proofs.lemmas.List.{length-map}
use Rattle.sc_base.specs.Lists.{at_or, numbers_below}
use Rattle.sc_dag.specs.DagData.{no_stage}
use Rattle.sc_dag.specs.Rows.{is_looked_at, stages_of}
use Rattle.sc_tracker.proofs.CountLemmas.{range_numbers}
use Rattle.sc_dag.proofs.fates.is_asked_for_at.Goals as goal

pub returns : goal.returns
returns c =
    let stages = stages_of c.args.rows.now in
    let test : ℕ → Bool = λ child. is_looked_at c.args.fates.now child
    && list_any (λ p. p == c.args.stage) (at_or stages child no_stage).parents in
    any_from_yields_List test _ _ _ c.any.ensures.ran
    (YieldsList-from_range 0 (length c.args.rows.now) (length c.args.rows.now) refl (omega arith))
    (λ x b q k. search (rules, tests))
    ∙ ap (list_any test) (range_numbers 0 (length c.args.rows.now))
    ∙ ap (λ n. list_any test (numbers_below n)) (sym (length-map c.args.rows.now (λ r. r.stage)))
