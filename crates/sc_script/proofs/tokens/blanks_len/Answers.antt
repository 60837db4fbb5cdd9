use Rattle.std.proofs.Common.{rules, tests, not, ◌∙◌}
use Rattle.std.proofs.lemmas.Iterator.{YieldsList-from_slice}
use Rattle.std.proofs.lemmas.Iterator.Search.{position_from_yields_List}
use Rattle.sc_script.specs.Tokens.{is_blank}
use Rattle.sc_script.proofs.TokenTests.{position_or_length}
use Rattle.sc_script.proofs.tokens.blanks_len.Goals as goal

pub returns : goal.returns
returns c =
    let line = c.args.line.now in
    c.unwrap_or.ensures
    ∙ position_or_length (λ b. not (is_blank b)) line c.position.result
    (position_from_yields_List (λ b. not (is_blank b)) _ _ c.position.result c.position.ensures.ran
    (YieldsList-from_slice line cc) (λ x b q k. search (rules, tests)))
