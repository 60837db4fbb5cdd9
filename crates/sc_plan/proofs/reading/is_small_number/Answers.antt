use Rattle.std.proofs.Common.{◌≡◌, ◌∙◌, true, ap, sym}
use Rattle.sc_value.specs.Numbers.{is_digits}
use Rattle.sc_plan.proofs.NumberLemmas.{unread}
use Rattle.sc_plan.proofs.reading.is_small_number.Goals as goal

pub returns-in-Err : goal.returns-in-Err
returns-in-Err c =
    let is : is_digits c.args.word.now ≡ true =
    sym (c.if-not-is_digits.ensures ∙ ap is_digits c.as_bytes.ensures.value) in
    sym (unread c.args.word.now is (λ reads. c.in-Err.ensures.value.0 reads))
