use Rattle.std.proofs.Common.{◌≡◌, true, ap, sym, ◌∙◌}
use Rattle.sc_value.specs.Numbers.{is_number}
use Rattle.sc_value.proofs.NumberLemmas.{int_wide, numeral_behind_sign}
use Rattle.sc_value.proofs.numbers.parse_int.Goals as goal

pub returns-in-Err : goal.returns-in-Err
returns-in-Err c =
    let is : is_number c.args.text.now ≡ true =
    sym (c.if-not-is_number.ensures ∙ ap is_number c.as_bytes.ensures.value) in
    int_wide c.args.text.now is
    (λ fits. c.in-Err.ensures.value.0 (numeral_behind_sign c.args.text.now is, fits))
