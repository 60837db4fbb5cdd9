use Rattle.std.proofs.Common.{refl}
use Rattle.std.specs.Str.Parse.{signed_digits_value}
use Rattle.sc_value.proofs.NumberLemmas.{numeral_behind_sign}
use Rattle.sc_script.proofs.literals.int_of.Goals as goal

pub returns-in-Err : goal.returns-in-Err
returns-in-Err c =
    let piece = c.args.piece.now in (
      signed_digits_value 10 piece,
      refl,
      λ fits. c.in-Err.ensures.value.0
          (numeral_behind_sign piece c.requires, fits),
    )
