use Rattle.std.proofs.Common.{rules, tests, sym, ◌∙◌}
use Rattle.std.proofs.lemmas.Iterator.{YieldsList-from_slice}
use Rattle.std.proofs.lemmas.Iterator.Search.{all_from_yields_List}
use Rattle.sc_script.specs.Tokens.{is_word_byte}
use Rattle.sc_script.proofs.TokenTests.{is_word_of_some}
use Rattle.sc_script.proofs.literals.is_word.Goals as goal

pub returns-then-is_word_start : goal.returns-then-is_word_start
returns-then-is_word_start c =
    let rest = c.iter.result.rest.now in
    all_from_yields_List is_word_byte _ _ _ c.all.ensures.ran (YieldsList-from_slice rest cc)
    (λ x b q k. search (rules, tests))
    ∙ is_word_of_some c.args.piece.now rest c.in-len1-up.len_at_least
    (sym c.is_word_start.ensures ∙ c.if-is_word_start.true) c.iter.ensures.rest
