-- Texts that are written one after another.
use Rattle.std.proofs.Common.{◌≡◌, ◌∙◌, ℕ, ◌+◌, List, [], ◌∷◌, ◌++◌, Some, take, ap, sym}
use Rattle.std.specs.List.{slice_get}
use Rattle.std.proofs.lemmas.List.{take_more}
use Rattle.std.proofs.lemmas.Option.{slice_get_within, get_or_from_slice_get}
use Rattle.sc_value.specs.Spans.{Written}

-- texts that are written, with nothing open
pub record AreWritten (out : Written) (ts : List (List ℕ)) : Type 0 where
  pub are : out.texts ≡ ts
  pub none_open : out.open_text ≡ []

-- one text more
pub written_more : (before after : Written) (all : List (List ℕ)) (i : ℕ) (t : List ℕ)
    → slice_get all i ≡ Some t → after.texts ≡ before.texts ++ t ∷ [] → after.open_text ≡ []
    → AreWritten before (take i all) → AreWritten after (take (i + 1) all)
written_more before after all i t is more none was = record {
  are = more ∙ ap (λ ts. ts ++ t ∷ []) was.are
      ∙ ap (λ u. take i all ++ u ∷ []) (sym (get_or_from_slice_get all i t t is))
      ∙ sym (take_more all i t (slice_get_within all i t is));
  none_open = none;
}
