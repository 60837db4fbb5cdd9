use Rattle.std.proofs.Common.{rules, tests, ◌∙◌, ◌≡◌, arith}
use Rattle.std.proofs.lemmas.Iterator.{YieldsList-from_slice}
use Rattle.std.proofs.lemmas.Iterator.Search.{position_from_yields_List}
use Rattle.std.specs.List.{position_or_len}
use Rattle.sc_value.specs.Words.{is_blank}
use Rattle.sc_value.proofs.PieceLemmas.{position_or_length, piece_within}
use Rattle.sc_value.proofs.blanks.far_blank.Goals as goal

pub returns-clause-len : goal.returns-clause-len
returns-clause-len c =
    let bytes = c.args.text.now in
    c.unwrap_or.ensures
    ∙ position_or_length is_blank bytes c.position.result
    (position_from_yields_List is_blank _ _ c.position.result c.position.ensures.ran
    (YieldsList-from_slice bytes cc) (λ x b q k. search (rules, tests)))

pub returns-clause-within : goal.returns-clause-within
returns-clause-within c =
    let is : c.unwrap_or.result ≡ position_or_len is_blank c.args.text.now = returns-clause-len c in
    omega (arith, is, piece_within is_blank c.args.text.now)
