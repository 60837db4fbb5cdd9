-- When two types are the same.
use Rattle.std.proofs.Common.{◌≡◌, ◌∙◌, Bool, true, false, ◌&&◌, ◌↔◌, IsTrue, refl, ap}
use Rattle.sc_value.specs.Types.{TypeData, int_type, bool_type, text_type, pair_type, list_type, same_type}
use Rattle.sc_value.proofs.ViewLemmas.{no_either_way}

and_both : (a b : Bool) → (a && b) ≡ true → (a ≡ true) × (b ≡ true)
and_both true true is = (refl, refl)
and_both true false is = cc
and_both false b is = cc

pub same_type-sound : (s t : TypeData) → same_type s t ≡ true → s ≡ t
same_type-sound int_type int_type is = refl
same_type-sound int_type bool_type is = cc
same_type-sound int_type text_type is = cc
same_type-sound int_type (pair_type c d) is = cc
same_type-sound int_type (list_type c) is = cc
same_type-sound bool_type int_type is = cc
same_type-sound bool_type bool_type is = refl
same_type-sound bool_type text_type is = cc
same_type-sound bool_type (pair_type c d) is = cc
same_type-sound bool_type (list_type c) is = cc
same_type-sound text_type int_type is = cc
same_type-sound text_type bool_type is = cc
same_type-sound text_type text_type is = refl
same_type-sound text_type (pair_type c d) is = cc
same_type-sound text_type (list_type c) is = cc
same_type-sound (pair_type a b) int_type is = cc
same_type-sound (pair_type a b) bool_type is = cc
same_type-sound (pair_type a b) text_type is = cc
same_type-sound (pair_type a b) (pair_type c d) is =
    let both = and_both (same_type a c) (same_type b d) is in
    ap (λ x. pair_type x b) (same_type-sound a c both.0)
    ∙ ap (pair_type c) (same_type-sound b d both.1)
same_type-sound (pair_type a b) (list_type c) is = cc
same_type-sound (list_type a) int_type is = cc
same_type-sound (list_type a) bool_type is = cc
same_type-sound (list_type a) text_type is = cc
same_type-sound (list_type a) (pair_type c d) is = cc
same_type-sound (list_type a) (list_type c) is = ap list_type (same_type-sound a c is)

-- types that differ
pub record Differ (s t : TypeData) : Type 0 where
  pub same : IsTrue false ↔ (s ≡ t)
  pub value : false ≡ same_type s t

pub differ : (s t : TypeData) → (s ≡ t → ⊥) → Differ s t
differ s t refuted = record {
  same = no_either_way refuted;
  value = by_test (same_type s t) (same_type-sound s t) refuted;
} where
  by_test : (b : Bool) → (b ≡ true → s ≡ t) → (s ≡ t → ⊥) → false ≡ b
  by_test false sound refuted = refl
  by_test true sound refuted = absurd (refuted (sound refl))
