use Rattle.std.proofs.Common.{rules, tests, ◌∙◌}
use Rattle.std.proofs.lemmas.Iterator.{YieldsList-from_slice}
use Rattle.std.proofs.lemmas.Iterator.Search.{position_from_yields_List}
use Rattle.sc_tracker.specs.TrackerData.{is_of}
use Rattle.sc_tracker.proofs.PlaceLemmas.{position_or_length}
use Rattle.sc_tracker.proofs.shuffles.found_place.Goals as goal

pub returns : goal.returns
returns c =
    let shuffles = c.args.shuffles.now in
    c.unwrap_or.ensures
    ∙ position_or_length (is_of c.args.shuffle) shuffles c.position.result
    (position_from_yields_List (is_of c.args.shuffle) _ _ c.position.result
    c.position.ensures.ran (YieldsList-from_slice shuffles cc)
    (λ x b q k. search (rules, tests)))
