use Rattle.std.proofs.Common.{rules, tests, ◌∙◌}
use Rattle.std.proofs.lemmas.Iterator.{YieldsList-from_slice}
use Rattle.std.proofs.lemmas.Iterator.Search.{position_from_yields_List}
use Rattle.sc_script.specs.TokenReading.{is_mark}
use Rattle.sc_script.proofs.TokenTests.{position_or_length}
use Rattle.sc_script.proofs.literals.plain_len.Goals as goal

pub returns : goal.returns
returns c =
    let bytes = c.args.bytes.now in
    c.unwrap_or.ensures
    ∙ position_or_length is_mark bytes c.position.result
    (position_from_yields_List is_mark _ _ c.position.result c.position.ensures.ran
    (YieldsList-from_slice bytes cc) (λ x b q k. search (rules, tests)))
