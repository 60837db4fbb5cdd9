use Rattle.std.proofs.Common.{rules, tests, sym, ◌∙◌}
use Rattle.std.proofs.lemmas.Iterator.{YieldsList-from_slice}
use Rattle.std.proofs.lemmas.Iterator.Search.{all_from_yields_List}
use Rattle.std.specs.Char.{is_ascii_digit}
use Rattle.sc_value.proofs.NumberLemmas.{is_digits_of_some}
use Rattle.sc_value.proofs.numbers.is_digits.Goals as goal

pub returns-then-not-is_empty : goal.returns-then-not-is_empty
returns-then-not-is_empty c =
    let bytes = c.args.bytes.now in
    all_from_yields_List is_ascii_digit _ _ _ c.all.ensures.ran (YieldsList-from_slice bytes cc)
    (λ x b q k. search (rules, tests))
    ∙ is_digits_of_some bytes (sym c.is_empty.ensures ∙ c.if-not-is_empty.true)
