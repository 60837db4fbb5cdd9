-- The item at a place, and what a truth value stands for.
use Rattle.std.proofs.Common.{◌≡◌, ◌∙◌, ℕ, zero, suc, ◌<◌, ◌≤◌, ℤ, pos, ◌≤ℤ◌, nat_abs, List, [], ◌∷◌, length, map, get_or, refl, ap, sym, arith}
use Rattle.std.proofs.Math.IntN.{negsuc}
use Rattle.std.specs.Prelude.{Bool, Ok, Err}
use Rattle.sc_value.specs.Datum.{Datum, truth}
use Rattle.sc_value.specs.Views.{datum_of, datum_step}
use Rattle.sc_value.specs.declared.values.Value.{Value}
use Rattle.sc_value.specs.declared.values.Value.TheFolds.{fold-roll-Value}
use Rattle.sc_value.specs.declared.values.Value.TheOpen as value_layer
use Rattle.sc_value.specs.declared.values.Value.TheVariants as value_variants
use Rattle.sc_expr.specs.Heads.{item_at, nth_value}
use Rattle.sc_expr.specs.declared.exprs.Raise.TheVariants.{OutOfRange}

item_at-found : (xs : List Value) (i : ℕ) (x : Value) → i < length xs → x ≡ get_or xs i x
    → item_at (map datum_of xs) i ≡ Ok (datum_of x)
item_at-found [] i x within is = absurd (omega arith)
item_at-found (y ∷ xs) zero x within is = ap (λ z. Ok (datum_of z)) (sym is)
item_at-found (y ∷ xs) (suc i) x within is = item_at-found xs i x (omega arith) is

item_at-missing : (xs : List Value) (i : ℕ) → length xs ≤ i
    → item_at (map datum_of xs) i ≡ Err OutOfRange
item_at-missing [] i past = refl
item_at-missing (y ∷ xs) zero past = absurd (omega arith)
item_at-missing (y ∷ xs) (suc i) past = item_at-missing xs i (omega arith)

-- a number is the place of an item
pub nth_value-found : (xs : List Value) (z : ℤ) (i : ℕ) (x : Value) → pos 0 ≤ℤ z → i ≡ nat_abs z
    → i < length xs → x ≡ get_or xs i x → nth_value (map datum_of xs) z ≡ Ok (datum_of x)
nth_value-found xs (pos n) i x h same within is =
    ap (item_at (map datum_of xs)) (sym same) ∙ item_at-found xs i x within is
nth_value-found xs (negsuc n) i x h same within is = absurd (omega (arith, h))

-- a number is a place behind the items
pub nth_value-missing : (xs : List Value) (z : ℤ) (i : ℕ) → pos 0 ≤ℤ z → i ≡ nat_abs z
    → length xs ≤ i → nth_value (map datum_of xs) z ≡ Err OutOfRange
nth_value-missing xs (pos n) i h same past =
    ap (item_at (map datum_of xs)) (sym same) ∙ item_at-missing xs i past
nth_value-missing xs (negsuc n) i h same past = refl

-- what a truth value stands for
pub datum_of-Bool : (b : Bool) → datum_of (value_variants.Bool b) ≡ truth b
datum_of-Bool b =
    ap datum_of (sym (value_variants.rolls-Bool b))
    ∙ fold-roll-Value Datum datum_step (value_layer.Bool b)
