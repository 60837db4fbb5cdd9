use Rattle.std.proofs.Common.{rules, ◌∙◌, ◌*◌, ◌%◌, ◌^◌, ap, pos, ◌+ℤ◌, ◌*ℤ◌, FitsSigned, arith}
use Rattle.std.proofs.lemmas.Int.{wrapping_add_onto, wrapping_mul_is, int_wrap-add_left}
use Rattle.std.specs.Int.{cast_unsigned, w32, int_wrap}
use Rattle.sc_hash.proofs.hashes.add_unit.Goals as goal

pub returns : goal.returns
returns c =
    let unit : FitsSigned w32 (pos c.args.unit) = search (rules, arith) in
    let base : FitsSigned w32 (pos 31) = search (rules, arith) in
    let product = cast_unsigned w32 c.args.hash * 31 % 2 ^ 32 in
    wrapping_add_onto w32 product (pos c.args.unit) (omega arith) unit
    ∙ ap (λ h. int_wrap w32 (h +ℤ pos c.args.unit))
    (wrapping_mul_is w32 c.args.hash (pos 31) c.ranges.hash base)
    ∙ int_wrap-add_left w32 (c.args.hash *ℤ pos 31) (pos c.args.unit)
