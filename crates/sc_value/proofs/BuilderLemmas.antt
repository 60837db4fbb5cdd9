-- Texts that are added to others, one after another.
use Rattle.std.proofs.Common.{◌≡◌, ◌∙◌, ℕ, zero, suc, ◌+◌, ◌≤◌, List, [], ◌∷◌, ◌++◌, Some, length, take, ap, sym, arith, append-nil, length-append}
use Rattle.std.proofs.lemmas.List.{append_assoc, take_more}
use Rattle.std.proofs.lemmas.List.Folds.{concat-append}
use Rattle.std.proofs.lemmas.Option.{get_or_from_slice_get, slice_get_within}
use Rattle.std.specs.List.{concat, slice_get}
use Rattle.sc_base.specs.Limits.{count_limit}

-- the first so many texts stand behind the old ones, nothing is open, and what all take is known
pub record AreAddedTo (old texts now : List (List ℕ)) (open_text : List ℕ) (first taken i : ℕ)
    : Type 0 where
  pub are : now ≡ old ++ take i texts
  pub none_open : open_text ≡ []
  pub taken_is : taken ≡ first + length (concat (take i texts))
  pub within : taken ≤ count_limit

-- the first of some texts have no more bytes than all
take_length : (i : ℕ) (texts : List (List ℕ))
    → length (concat (take i texts)) ≤ length (concat texts)
take_length zero texts = omega arith
take_length (suc i) [] = omega arith
take_length (suc i) (t ∷ texts) =
    let rest = take_length i texts in
    let first = length-append t (concat (take i texts)) in
    let all = length-append t (concat texts) in
    omega (arith, rest, first, all)

-- what the first so many take is at most what all do
pub AreAddedTo-within : (old texts now : List (List ℕ)) (open_text : List ℕ) (first taken i : ℕ)
    → AreAddedTo old texts now open_text first taken i → taken ≤ first + length (concat texts)
AreAddedTo-within old texts now open_text first taken i are =
    let bytes = take_length i texts in
    let is = are.taken_is in
    omega (arith, bytes, is)

pub AreAddedTo-more : (old texts before now : List (List ℕ)) (open_before open_now t : List ℕ)
    (first taken_before taken i : ℕ)
    → slice_get texts i ≡ Some t → now ≡ before ++ (open_before ++ t) ∷ [] → open_now ≡ []
    → taken ≡ taken_before + length t → taken ≤ count_limit
    → AreAddedTo old texts before open_before first taken_before i
    → AreAddedTo old texts now open_now first taken (i + 1)
AreAddedTo-more old texts before now open_before open_now t first taken_before taken i at is none
    takes small were =
    let more : take (i + 1) texts ≡ take i texts ++ t ∷ [] =
    take_more texts i t (slice_get_within texts i t at)
    ∙ ap (λ x. take i texts ++ x ∷ []) (get_or_from_slice_get texts i t t at) in
    let bytes = ap concat more ∙ concat-append (take i texts) (t ∷ [])
    ∙ ap (λ l. concat (take i texts) ++ l) (append-nil t) in
    let count = ap length bytes ∙ length-append (concat (take i texts)) t in
    record {
      are =
          is ∙ ap (λ o. before ++ (o ++ t) ∷ []) were.none_open
          ∙ ap (λ b. b ++ t ∷ []) were.are
          ∙ append_assoc old (take i texts) (t ∷ [])
          ∙ ap (λ ts. old ++ ts) (sym more);
      none_open = none;
      taken_is = omega (arith, takes, were.taken_is, count);
      within = small;
    }
