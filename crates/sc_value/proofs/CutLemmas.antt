-- The pieces of a text between separators.
use Rattle.std.proofs.Common.{◌≡◌, ◌∙◌, ℕ, zero, suc, ◌<◌, ◌≤◌, Bool, true, false, ◌&&◌, ◌==◌, cond, List, [], ◌∷◌, ◌++◌, length, take, drop, refl, ap, sym, arith}
use Rattle.std.proofs.Common.{None}
use Rattle.std.proofs.lemmas.Bool.{eq-eqb, eqb-true, false≢true}
use Rattle.std.proofs.lemmas.List.{append_assoc}
use Rattle.std.specs.List.{onto_first, slice_split}
use Rattle.std.specs.Str.Pattern.{FindsText, LacksTextAt, SplitsAroundMatch}
use Rattle.sc_value.specs.Words.{begins_with, cut_at, pieces_behind}

-- a text that begins with bytes is these and others
pub begins : (cs t : List ℕ) → begins_with cs t ≡ true → t ≡ cs ++ drop (length cs) t
begins [] t is = refl
begins (c ∷ cs) [] is = absurd (false≢true is)
begins (c ∷ cs) (x ∷ xs) is = by_test (x == c) (eqb-true x c) (begins cs xs) is where
  by_test : (b : Bool) → (b ≡ true → x ≡ c)
      → (begins_with cs xs ≡ true → xs ≡ cs ++ drop (length cs) xs)
      → (b && begins_with cs xs) ≡ true → x ∷ xs ≡ (c ∷ cs) ++ drop (length cs) xs
  by_test true same rest is = ap (λ y. y ∷ xs) (same refl) ∙ ap (λ r. c ∷ r) (rest is)
  by_test false same rest is = absurd (false≢true is)

pub begins-append : (cs rest : List ℕ) → begins_with cs (cs ++ rest) ≡ true
begins-append [] rest = refl
begins-append (c ∷ cs) rest = ap (λ b. b && begins_with cs (cs ++ rest)) (eq-eqb c c refl)
    ∙ begins-append cs rest

-- bytes that belong to an occurrence are passed over
pub skipped : (c : ℕ) (cs : List ℕ) (n : ℕ) (t : List ℕ)
    → pieces_behind c cs n t ≡ pieces_behind c cs 0 (drop n t)
skipped c cs zero t = refl
skipped c cs (suc n) [] = refl
skipped c cs (suc n) (x ∷ xs) = skipped c cs n xs

-- a separator of one byte splits as the byte does
pub cut_at-byte : (c : ℕ) (t : List ℕ) → cut_at (c ∷ []) t ≡ slice_split (λ b. b == c) t
cut_at-byte c [] = refl
cut_at-byte c (x ∷ xs) = by_test (x == c) (cut_at-byte c xs) where
  by_test : (b : Bool) → pieces_behind c [] 0 xs ≡ slice_split (λ y. y == c) xs
      → cond (b && true) ([] ∷ pieces_behind c [] 0 xs) (onto_first x (pieces_behind c [] 0 xs))
      ≡ cond b ([] ∷ slice_split (λ y. y == c) xs) (onto_first x (slice_split (λ y. y == c) xs))
  by_test true is = ap (λ ps. [] ∷ ps) is
  by_test false is = ap (onto_first x) is

-- an occurrence at the front, and none
cut-front : (c : ℕ) (cs rest : List ℕ)
    → cut_at (c ∷ cs) ((c ∷ cs) ++ rest) ≡ [] ∷ cut_at (c ∷ cs) rest
cut-front c cs rest =
    ap (λ b. cond b ([] ∷ pieces_behind c cs (length cs) (cs ++ rest))
    (onto_first c (pieces_behind c cs 0 (cs ++ rest)))) (begins-append (c ∷ cs) rest)
    ∙ ap (λ ps. [] ∷ ps) (skipped c cs (length cs) (cs ++ rest)
    ∙ ap (pieces_behind c cs 0) (drop-length cs rest)) where
      drop-length : (xs ys : List ℕ) → drop (length xs) (xs ++ ys) ≡ ys
      drop-length [] ys = refl
      drop-length (x ∷ xs) ys = drop-length xs ys

cut-inside : (c : ℕ) (cs : List ℕ) (x : ℕ) (xs : List ℕ) → LacksTextAt (c ∷ cs) (x ∷ xs) 0
    → cut_at (c ∷ cs) (x ∷ xs) ≡ onto_first x (cut_at (c ∷ cs) xs)
cut-inside c cs x xs lacks = by_test (begins_with (c ∷ cs) (x ∷ xs)) refl where
  by_test : (b : Bool) → begins_with (c ∷ cs) (x ∷ xs) ≡ b
      → cut_at (c ∷ cs) (x ∷ xs) ≡ onto_first x (cut_at (c ∷ cs) xs)
  by_test true is =
      absurd (lacks (drop (length (c ∷ cs)) (x ∷ xs)) (begins (c ∷ cs) (x ∷ xs) is))
  by_test false is =
      ap (λ b. cond b ([] ∷ pieces_behind c cs (length cs) xs)
      (onto_first x (pieces_behind c cs 0 xs))) is

-- the first piece ends where the separator first occurs
pub cut_first : (c : ℕ) (cs t rest : List ℕ) (i : ℕ)
    → ((k : ℕ) → k < i → LacksTextAt (c ∷ cs) t k) → drop i t ≡ (c ∷ cs) ++ rest
    → cut_at (c ∷ cs) t ≡ take i t ∷ cut_at (c ∷ cs) rest
cut_first c cs t rest zero lacks at = ap (cut_at (c ∷ cs)) at ∙ cut-front c cs rest
cut_first c cs [] rest (suc i) lacks at = absurd (cc)
cut_first c cs (x ∷ xs) rest (suc i) lacks at =
    cut-inside c cs x xs (lacks 0 (omega arith))
    ∙ ap (onto_first x) (cut_first c cs xs rest i (λ k below. lacks (suc k) (omega arith)) at)

pub cut_none : (c : ℕ) (cs t : List ℕ)
    → ((k : ℕ) → k ≤ length t → LacksTextAt (c ∷ cs) t k) → cut_at (c ∷ cs) t ≡ t ∷ []
cut_none c cs [] lacks = refl
cut_none c cs (x ∷ xs) lacks =
    cut-inside c cs x xs (lacks 0 (omega arith))
    ∙ ap (onto_first x) (cut_none c cs xs (λ k within. lacks (suc k) (omega arith)))

-- a piece more is cut off
pub cut_more : (separator s behind piece : List ℕ) (out now whole : List (List ℕ))
    → (length separator == 0) ≡ false → SplitsAroundMatch (FindsText separator) s piece behind
    → now ≡ out ++ piece ∷ [] → out ++ cut_at separator s ≡ whole
    → now ++ cut_at separator behind ≡ whole
cut_more [] s behind piece out now whole some split now_is was = absurd (cc)
cut_more (c ∷ cs) s behind piece out now whole some split now_is was =
    let first : cut_at (c ∷ cs) s ≡ piece ∷ cut_at (c ∷ cs) behind =
    cut_first c cs s (drop split.1 s) split.0 split.2.0 split.2.1.split
    ∙ ap (λ w. w ∷ cut_at (c ∷ cs) (drop split.1 s)) (sym split.3)
    ∙ ap (λ r. piece ∷ cut_at (c ∷ cs) r) (sym split.4) in
    ap (λ o. o ++ cut_at (c ∷ cs) behind) now_is
    ∙ append_assoc out (piece ∷ []) (cut_at (c ∷ cs) behind)
    ∙ ap (λ ps. out ++ ps) (sym first) ∙ was

-- the last piece
pub cut_last : (separator s : List ℕ) (out now whole : List (List ℕ))
    → (length separator == 0) ≡ false
    → FindsText separator s None → now ≡ out ++ s ∷ [] → out ++ cut_at separator s ≡ whole
    → now ≡ whole
cut_last [] s out now whole some none now_is was = absurd (cc)
cut_last (c ∷ cs) s out now whole some none now_is was =
    now_is ∙ ap (λ ps. out ++ ps) (sym (cut_none c cs s none)) ∙ was
