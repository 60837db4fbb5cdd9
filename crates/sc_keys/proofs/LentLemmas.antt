-- Lent keys are equal where they stand for the same key.
use Rattle.std.proofs.Common.{◌≡◌, refl, sym}
use Rattle.std.proofs.lemmas.Map.Text.{is_eq-slice_cmp}
use Rattle.sc_keys.specs.Lent.{lent_data}
use Rattle.sc_keys.specs.contracts.lending.LentKeyPartialEq.TheImpl.{eq-value}
use Rattle.sc_keys.specs.declared.lending.LentKey.{LentKey}
use Rattle.sc_keys.specs.declared.lending.LentKey.TheVariants.{Int, Text}
use Rattle.sc_part.specs.Bounds.{is_same_key}

pub lent_same : (a b : LentKey) → eq-value.it a b ≡ is_same_key (lent_data a) (lent_data b)
lent_same (Int m) (Int n) = refl
lent_same (Int m) (Text t) = refl
lent_same (Text s) (Int n) = refl
lent_same (Text s) (Text t) = sym (is_eq-slice_cmp s.now t.now)
