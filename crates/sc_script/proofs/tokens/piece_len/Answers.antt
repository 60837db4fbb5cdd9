use Rattle.std.proofs.Common.{rules, tests, ◌∙◌}
use Rattle.std.proofs.lemmas.Iterator.{YieldsList-from_slice}
use Rattle.std.proofs.lemmas.Iterator.Search.{position_from_yields_List}
use Rattle.sc_script.specs.TokenReading.{is_token_end}
use Rattle.sc_script.proofs.TokenTests.{position_or_length}
use Rattle.sc_script.proofs.tokens.piece_len.Goals as goal

pub returns : goal.returns
returns c =
    let line = c.args.line.now in
    c.unwrap_or.ensures
    ∙ position_or_length is_token_end line c.position.result
    (position_from_yields_List is_token_end _ _ c.position.result c.position.ensures.ran
    (YieldsList-from_slice line cc) (λ x b q k. search (rules, tests)))
