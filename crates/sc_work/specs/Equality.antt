-- Values of a type that stands for one value are equal.
use Rattle.std.specs.Prelude.{true, refl}
use Rattle.std.specs.Cmp.{IsEquivalence}

-- a test that is always passed is an equivalence
pub always_equal : {K : Type 0} → IsEquivalence (λ (x y : K). true)
always_equal =
    record { refl = λ x. refl; symm = λ x y. refl; congr = λ x y z same. refl }
