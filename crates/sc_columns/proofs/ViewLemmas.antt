-- Rows as they are held.
use Rattle.std.proofs.Common.{◌≡◌, ◌∙◌, ℕ, ◌-◌, ◌≤◌, List, [], ◌∷◌, length, map, ap, refl, sym, arith}
use Rattle.std.proofs.lemmas.List.{length-take-le, take_all}
use Rattle.std.specs.List.{slice_range}
use Rattle.sc_value.specs.Datum.{Datum, group, items_of, pair, text}
use Rattle.sc_value.specs.Words.{range_of}
use Rattle.sc_value.specs.declared.texts.Span.{Span}
use Rattle.sc_columns.specs.Columns.{group_at, texts_value, zip_with}
use Rattle.sc_columns.specs.Parts.{ArePairs}
use Rattle.sc_columns.specs.declared.views.Both.{Both}
use Rattle.sc_columns.proofs.ListLemmas.{length-zip_with}
use Rattle.sc_columns.proofs.RangeLemmas.{part-map, part-zip_with}

pub range_whole : {X : Type 0} (xs : List X) (n : ℕ) → length xs ≤ n → slice_range xs 0 n ≡ xs
range_whole xs n within = take_all (n - 0) xs (omega arith)

length-front : {X : Type 0} (xs : List X) (n : ℕ) → n ≤ length xs → length (slice_range xs 0 n) ≡ n
length-front xs n within =
    length-take-le (n - 0) xs (omega arith) ∙ (let e : n - 0 ≡ n = omega arith in e)

-- the first rows of two columns, up to the end of the shorter
pub ArePairs-front : (rows a b : List Datum) (both : Both) (n : ℕ) → rows ≡ zip_with pair a b
    → n ≡ length rows → both.first ≡ slice_range a 0 n → both.second ≡ slice_range b 0 n
    → ArePairs rows both
ArePairs-front rows a b both n are len first second =
    let lens = len ∙ ap length are ∙ length-zip_with pair a b in
    record {
      are = sym (range_whole rows n (omega (arith, len)))
          ∙ sym (part-zip_with pair a both.first b both.second rows 0 n are first second);
      first_len = ap length first ∙ length-front a n (omega (arith, lens)) ∙ len;
      second_len = ap length second ∙ length-front b n (omega (arith, lens)) ∙ len;
    }

-- ranges of texts as values
pub texts-ranges : (texts : List (List ℕ)) (spans : List Span)
    → map (group_at (map text texts)) spans ≡ map texts_value (map (range_of texts) spans)
texts-ranges texts [] = refl
texts-ranges texts (s ∷ spans) =
    ap (λ ds. group (items_of ds) ∷ map (group_at (map text texts)) spans)
    (sym (part-map text texts (range_of texts s) (map text texts) s.from s.to refl refl))
    ∙ ap (λ r. texts_value (range_of texts s) ∷ r) (texts-ranges texts spans)
