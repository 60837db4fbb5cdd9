-- Streams of heads over the words and pieces of texts.
use Rattle.std.proofs.Common.{◌≡◌, ◌∙◌, ℕ, zero, suc, min, Bool, true, false, cond, ltb, List, [], ◌∷◌, Option, Some, None, Ok, Err, length, map, take, get_or, refl, ap, sym, arith}
use Rattle.std.specs.Prelude.{pos, replicate}
use Rattle.std.specs.List.{slice_get, slice_range}
use Rattle.std.proofs.lemmas.Bool.{le-ltb, lt-ltb, ltb-false, ltb-true}
use Rattle.std.proofs.lemmas.List.{length-map, take-map}
use Rattle.sc_value.specs.Datum.{Datum, number, text}
use Rattle.sc_value.specs.Words.{cut_at, in_front, until_none, words_of}
use Rattle.sc_value.proofs.SameLemmas.{list_of-items_of}
use Rattle.sc_columns.specs.Columns.{texts_value, zip_with}
use Rattle.sc_expr.specs.Heads.{Outcome, item_at}
use Rattle.sc_expr.specs.declared.exprs.Head.{Head}
use Rattle.sc_expr.specs.declared.exprs.Head.TheVariants as heads
use Rattle.sc_expr.specs.declared.exprs.Raise.{Raise}
use Rattle.sc_expr.specs.declared.exprs.Raise.TheVariants.{OutOfRange}
use Rattle.sc_lineage.specs.Streams.{with_outcome, with_rows}
use Rattle.sc_lineage.specs.declared.streams.Stream.{Stream}
use Rattle.sc_batch.specs.Lists.{count_of_words}
use Rattle.sc_batch.specs.Outcomes.{of_one, of_two, until_raise}
use Rattle.sc_batch.proofs.ValueLemmas.{each-value, map-map, of_typed_one}
use Rattle.sc_batch.proofs.ZipLemmas.{range_from_zero, take-min, zip_with-replicate}

-- the words of texts, as what the head gives of rows that are texts
pub each-words : (ts : List (List ℕ)) (rows : List Datum) (end : Option Raise) → rows ≡ map text ts
    → record { rows = map texts_value (map words_of ts); raise = end }
    ≡ until_raise (map (of_one heads.Words) rows) end
each-words ts rows end are =
    each-value (λ t. of_one heads.Words (text t)) texts_value words_of (λ t. refl) ts end
    ∙ of_typed_one (of_one heads.Words) text ts rows end are

-- how many words there are
count : (t : List ℕ) → of_one heads.Len (texts_value (words_of t)) ≡ Ok (number (count_of_words t))
count t =
    ap (λ ds. Ok (number (pos (length ds)))) (list_of-items_of (map text (words_of t)))
    ∙ ap (λ n. Ok (number (pos n))) (length-map (words_of t) text)

pub each-count : (ts : List (List ℕ)) (end : Option Raise)
    → record { rows = map number (map count_of_words ts); raise = end }
    ≡ until_raise (map (of_one heads.Len) (map texts_value (map words_of ts))) end
each-count ts end =
    each-value (λ t. of_one heads.Len (texts_value (words_of t))) number count_of_words count ts end
    ∙ ap (λ os. until_raise os end)
    (sym (map-map (λ ws. of_one heads.Len (texts_value ws)) words_of ts)
    ∙ sym (map-map (of_one heads.Len) texts_value (map words_of ts)))

-- a head of lists of texts and one value, over as many texts as there are such values
of_texts : (h : Head) (g : List ℕ → List (List ℕ)) (y : Datum) (ts : List (List ℕ)) (n : ℕ)
    (end : Option Raise)
    → until_raise (map (λ t. of_two h (texts_value (g t)) y) (take n ts)) end
    ≡ until_raise (zip_with (of_two h) (map texts_value (map g ts)) (replicate n y)) end
of_texts h g y ts n end =
    ap (λ os. until_raise os end)
    (sym (zip_with-replicate (of_two h) (map texts_value (map g ts)) n y
    ∙ ap (map (λ d. of_two h d y))
    (take-map texts_value n (map g ts) ∙ ap (map texts_value) (take-map g n ts))
    ∙ map-map (λ d. of_two h d y) texts_value (map g (take n ts))
    ∙ map-map (λ ws. of_two h (texts_value ws) y) g (take n ts)))

-- the item of a list of texts at a place, or the raise of a place that is none
abbrev found : Option (List ℕ) → Outcome
found None = Err OutOfRange
found (Some t) = Ok (text t)

item_of_texts : (ws : List (List ℕ)) (k : ℕ) → item_at (map text ws) k ≡ found (slice_get ws k)
item_of_texts [] k = refl
item_of_texts (w ∷ ws) zero = refl
item_of_texts (w ∷ ws) (suc k) = item_of_texts ws k

nth_of_texts : (ws : List (List ℕ)) (k : ℕ)
    → of_two heads.Nth (texts_value ws) (number (pos k)) ≡ found (slice_get ws k)
nth_of_texts ws k = ap (λ ds. item_at ds k) (list_of-items_of (map text ws)) ∙ item_of_texts ws k

ltb-suc : (m n : ℕ) → ltb (suc m) (suc n) ≡ ltb m n
ltb-suc m n = by_test (ltb m n) refl
  where
    by_test : (b : Bool) → ltb m n ≡ b → ltb (suc m) (suc n) ≡ ltb m n
    by_test true is = lt-ltb (suc m) (suc n) (omega (arith, ltb-true m n is)) ∙ sym is
    by_test false is = le-ltb (suc m) (suc n) (omega (arith, ltb-false m n is)) ∙ sym is

-- texts that were found in others up to the first that has none, and what ends them
abbrev up_to : List (List ℕ) → List (List ℕ) → Option Raise → Stream
up_to us ts end = record {
  rows = map text us;
  raise = cond (ltb (length us) (length ts)) (Some OutOfRange) end;
}

item_row : (t : List ℕ) (us ts : List (List ℕ)) (end : Option Raise) (rest : Stream)
    (o : Option (List ℕ))
    → up_to us ts end ≡ rest
    → up_to (in_front o us) (t ∷ ts) end ≡ with_outcome (λ v. v ∷ []) (found o) rest
item_row t us ts end rest None is =
    ap (λ b. record { rows = []; raise = cond b (Some OutOfRange) end })
    (lt-ltb 0 (suc (length ts)) (omega arith))
item_row t us ts end rest (Some w) is =
    ap (λ b. record { rows = text w ∷ map text us; raise = cond b (Some OutOfRange) end })
    (ltb-suc (length us) (length ts))
    ∙ ap (with_rows (text w ∷ [])) is

nth_stream : (g : List ℕ → List (List ℕ)) (k : ℕ) (ts : List (List ℕ)) (end : Option Raise)
    → up_to (until_none (λ t. slice_get (g t) k) ts) ts end
    ≡ until_raise (map (λ t. of_two heads.Nth (texts_value (g t)) (number (pos k))) ts) end
nth_stream g k [] end = refl
nth_stream g k (t ∷ ts) end =
    let rest = until_raise (map (λ (u : List ℕ). of_two heads.Nth (texts_value (g u))
    (number (pos k))) ts) end in
    item_row t (until_none (λ u. slice_get (g u) k) ts) ts end rest (slice_get (g t) k)
    (nth_stream g k ts end)
    ∙ ap (λ o. with_outcome (λ v. v ∷ []) o rest) (sym (nth_of_texts (g t) k))

-- an item of each list of texts, found without the lists
pub each-nth : (g : List ℕ → List (List ℕ)) (k n : ℕ) (ts some us : List (List ℕ))
    (end raise : Option Raise) → some ≡ slice_range ts 0 (min (length ts) n)
    → us ≡ until_none (λ t. slice_get (g t) k) some
    → raise ≡ cond (ltb (length us) (length some)) (Some OutOfRange) end
    → record { rows = map text us; raise = raise }
    ≡ until_raise (zip_with (of_two heads.Nth) (map texts_value (map g ts))
    (replicate n (number (pos k)))) end
each-nth g k n ts some us end raise some_are us_are ends =
    let so_far : some ≡ take n ts =
    some_are ∙ range_from_zero ts (min (length ts) n) ∙ take-min ts n in
    ap (λ r. record { rows = map text us; raise = r }) ends
    ∙ ap (λ vs. up_to vs some end) us_are
    ∙ ap (λ vs. up_to (until_none (λ t. slice_get (g t) k) vs) vs end) so_far
    ∙ nth_stream g k (take n ts) end
    ∙ of_texts heads.Nth g (number (pos k)) ts n end

-- the pieces of texts, as what the head gives of them and of one separator
pub each-cut : (c n : ℕ) (ts some : List (List ℕ)) (end : Option Raise)
    → some ≡ slice_range ts 0 (min (length ts) n)
    → record { rows = map texts_value (map (cut_at (c ∷ [])) some); raise = end }
    ≡ until_raise (zip_with (of_two heads.Cut) (map text ts) (replicate n (text (c ∷ [])))) end
each-cut c n ts some end some_are =
    let y : Datum = text (c ∷ []) in
    ap (λ us. record { rows = map texts_value (map (cut_at (c ∷ [])) us); raise = end })
    (some_are ∙ range_from_zero ts (min (length ts) n) ∙ take-min ts n)
    ∙ each-value (λ t. of_two heads.Cut (text t) y) texts_value (cut_at (c ∷ [])) (λ t. refl)
    (take n ts) end
    ∙ ap (λ os. until_raise os end)
    (sym (zip_with-replicate (of_two heads.Cut) (map text ts) n y
    ∙ ap (map (λ d. of_two heads.Cut d y)) (take-map text n ts)
    ∙ map-map (λ d. of_two heads.Cut d y) text (take n ts)))

-- bytes of which there is one
pub one_byte : (xs : List ℕ) → length xs ≡ 1 → xs ≡ get_or xs 0 0 ∷ []
one_byte [] len = absurd (omega arith)
one_byte (x ∷ []) len = refl
one_byte (x ∷ y ∷ xs) len = absurd (omega arith)
