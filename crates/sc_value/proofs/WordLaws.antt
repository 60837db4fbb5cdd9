-- What words and pieces are.
use Rattle.std.proofs.Common.{◌≡◌, ◌≢◌, ◌∙◌, ℕ, zero, suc, Bool, true, false, cond, List, [], ◌∷◌, ◌++◌, length, drop, refl, ap, sym, subst}
use Rattle.std.proofs.lemmas.Bool.{false≢true}
use Rattle.std.proofs.lemmas.List.{append_assoc}
use Rattle.std.specs.List.{AllByRecursion, filter, flat_map, join_by, onto_first, slice_split}
use Rattle.sc_value.specs.Words.{AreCut, AreWords, BeginsBlank, Lacks, begins_with, cut_at, is_blank, is_some_piece, pieces_behind, words_of}
use Rattle.sc_value.proofs.CutLemmas.{begins, begins-append}

-- a text begins with its first piece; blanks and the words of the other pieces follow
abbrev IsSplitInto : List ℕ → List (List ℕ) → Type 0
IsSplitInto t [] = ⊥
IsSplitInto t (piece ∷ pieces) = (rest : List ℕ) × (t ≡ piece ++ rest)
    × AllByRecursion (λ b. is_blank b ≡ false) piece × BeginsBlank rest
    × AreWords rest (filter is_some_piece pieces)

-- one blank more in front
blank_front : (x : ℕ) (t : List ℕ) (words : List (List ℕ)) → is_blank x ≡ true → AreWords t words
    → AreWords (x ∷ t) words
blank_front x t [] is are = (is, are)
blank_front x t (word ∷ words) is are =
    (x ∷ are.0, are.1, ap (λ r. x ∷ r) are.2, (is, are.3), are.4, are.5, are.6)

words_split : (t : List ℕ) (pieces : List (List ℕ)) → IsSplitInto t pieces
    → AreWords t (filter is_some_piece pieces)
words_split t [] split = absurd split
words_split t ([] ∷ pieces) split =
    let P : List ℕ → Type 0 = λ r. AreWords r (filter is_some_piece pieces) in
    subst P (sym split.1) split.4
words_split t ((y ∷ piece) ∷ pieces) split =
    ([], split.0, split.1, tt, (refl, split.2), split.3, split.4)

split_more : (x : ℕ) (xs : List ℕ) (b : Bool) (pieces : List (List ℕ)) → is_blank x ≡ b
    → IsSplitInto xs pieces
    → IsSplitInto (x ∷ xs) (cond b ([] ∷ pieces) (onto_first x pieces))
split_more x xs b [] is split = absurd split
split_more x xs true (piece ∷ pieces) is split = (
  x ∷ xs,
  refl,
  tt,
  is,
  blank_front x xs (filter is_some_piece (piece ∷ pieces)) is
      (words_split xs (piece ∷ pieces) split),
)
split_more x xs false (piece ∷ pieces) is split =
    (split.0, ap (λ r. x ∷ r) split.1, (is, split.2), split.3, split.4)

split_into : (t : List ℕ) → IsSplitInto t (slice_split is_blank t)
split_into [] = ([], refl, tt, tt, tt)
split_into (x ∷ xs) =
    split_more x xs (is_blank x) (slice_split is_blank xs) refl (split_into xs)

pub AreWords-words_of : (t : List ℕ) → AreWords t (words_of t)
AreWords-words_of t = words_split t (slice_split is_blank t) (split_into t)

-- there is always a piece
pieces_some : (c : ℕ) (cs : List ℕ) (n : ℕ) (t : List ℕ)
    → (piece : List ℕ) × (pieces : List (List ℕ)) × (pieces_behind c cs n t ≡ piece ∷ pieces)
pieces_some c cs n [] = ([], [], refl)
pieces_some c cs (suc n) (x ∷ xs) = pieces_some c cs n xs
pieces_some c cs zero (x ∷ xs) =
    by_test (begins_with (c ∷ cs) (x ∷ xs)) (pieces_behind c cs 0 xs) where
      by_test : (b : Bool) (inside : List (List ℕ))
          → (piece : List ℕ) × (pieces : List (List ℕ))
          × (cond b ([] ∷ pieces_behind c cs (length cs) xs) (onto_first x inside)
          ≡ piece ∷ pieces)
      by_test true inside = ([], pieces_behind c cs (length cs) xs, refl)
      by_test false [] = (x ∷ [], [], refl)
      by_test false (piece ∷ pieces) = (x ∷ piece, pieces, refl)

abbrev joined_by : List ℕ → List (List ℕ) → List ℕ
joined_by separator pieces = join_by (λ piece. piece) separator pieces

joined-onto : (separator : List ℕ) (x : ℕ) (pieces : List (List ℕ))
    → joined_by separator (onto_first x pieces) ≡ x ∷ joined_by separator pieces
joined-onto separator x [] = refl
joined-onto separator x (piece ∷ pieces) = refl

joined-front : (separator piece : List ℕ) (pieces all : List (List ℕ)) → all ≡ piece ∷ pieces
    → joined_by separator ([] ∷ all) ≡ separator ++ joined_by separator all
joined-front separator piece pieces all are =
    ap (λ ps. joined_by separator ([] ∷ ps)) are
    ∙ append_assoc separator piece (flat_map (λ p. separator ++ p) pieces)
    ∙ ap (λ ps. separator ++ joined_by separator ps) (sym are)

-- with the separator between them the pieces are the text
pub joined-pieces : (c : ℕ) (cs : List ℕ) (n : ℕ) (t : List ℕ)
    → joined_by (c ∷ cs) (pieces_behind c cs n t) ≡ drop n t
joined-pieces c cs zero [] = refl
joined-pieces c cs (suc n) [] = refl
joined-pieces c cs (suc n) (x ∷ xs) = joined-pieces c cs n xs
joined-pieces c cs zero (x ∷ xs) =
    by_test (begins_with (c ∷ cs) (x ∷ xs)) refl (joined-pieces c cs (length cs) xs)
    (joined-pieces c cs 0 xs) where
      by_test : (b : Bool) → begins_with (c ∷ cs) (x ∷ xs) ≡ b
          → joined_by (c ∷ cs) (pieces_behind c cs (length cs) xs) ≡ drop (length cs) xs
          → joined_by (c ∷ cs) (pieces_behind c cs 0 xs) ≡ xs
          → joined_by (c ∷ cs) (cond b ([] ∷ pieces_behind c cs (length cs) xs)
          (onto_first x (pieces_behind c cs 0 xs))) ≡ x ∷ xs
      by_test true is behind inside =
          let some = pieces_some c cs (length cs) xs in
          joined-front (c ∷ cs) some.0 some.1 (pieces_behind c cs (length cs) xs) some.2
          ∙ ap (λ r. (c ∷ cs) ++ r) behind ∙ sym (begins (c ∷ cs) (x ∷ xs) is)
      by_test false is behind inside =
          joined-onto (c ∷ cs) x (pieces_behind c cs 0 xs) ∙ ap (λ r. x ∷ r) inside

-- no piece has the separator
lacks_nothing : (c : ℕ) (cs : List ℕ) → Lacks (c ∷ cs) []
lacks_nothing c cs [] back is = cc
lacks_nothing c cs (y ∷ front) back is = cc

lacks_more : (c : ℕ) (cs : List ℕ) (x : ℕ) (piece rest : List ℕ) → Lacks (c ∷ cs) piece
    → begins_with (c ∷ cs) (x ∷ (piece ++ rest)) ≡ false → Lacks (c ∷ cs) (x ∷ piece)
lacks_more c cs x piece rest lacks differs [] back is =
    let all : x ∷ (piece ++ rest) ≡ (c ∷ cs) ++ (back ++ rest) =
    ap (λ p. p ++ rest) is ∙ append_assoc (c ∷ cs) back rest in
    false≢true (sym differs ∙ ap (begins_with (c ∷ cs)) all ∙ begins-append (c ∷ cs) (back ++ rest))
lacks_more c cs x piece rest lacks differs (y ∷ front) back is = lacks front back (tail_is is) where
  tail_is : x ∷ piece ≡ (y ∷ front) ++ ((c ∷ cs) ++ back) → piece ≡ front ++ ((c ∷ cs) ++ back)
  tail_is same = cc

lacking-onto : (c : ℕ) (cs : List ℕ) (x : ℕ) (xs : List ℕ) (pieces : List (List ℕ))
    → joined_by (c ∷ cs) pieces ≡ xs → begins_with (c ∷ cs) (x ∷ xs) ≡ false
    → AllByRecursion (Lacks (c ∷ cs)) pieces
    → AllByRecursion (Lacks (c ∷ cs)) (onto_first x pieces)
lacking-onto c cs x xs [] joined differs all =
    let none : begins_with (c ∷ cs) (x ∷ ([] ++ [])) ≡ false =
    ap (λ r. begins_with (c ∷ cs) (x ∷ r)) joined ∙ differs in
    (lacks_more c cs x [] [] (lacks_nothing c cs) none, tt)
lacking-onto c cs x xs (piece ∷ pieces) joined differs all =
    let rest = flat_map (λ p. (c ∷ cs) ++ p) pieces in
    let none : begins_with (c ∷ cs) (x ∷ (piece ++ rest)) ≡ false =
    ap (λ r. begins_with (c ∷ cs) (x ∷ r)) joined ∙ differs in
    (lacks_more c cs x piece rest all.0 none, all.1)

lacking-pieces : (c : ℕ) (cs : List ℕ) (n : ℕ) (t : List ℕ)
    → AllByRecursion (Lacks (c ∷ cs)) (pieces_behind c cs n t)
lacking-pieces c cs n [] = (lacks_nothing c cs, tt)
lacking-pieces c cs (suc n) (x ∷ xs) = lacking-pieces c cs n xs
lacking-pieces c cs zero (x ∷ xs) =
    by_test (begins_with (c ∷ cs) (x ∷ xs)) refl (lacking-pieces c cs (length cs) xs)
    (lacking-pieces c cs 0 xs) where
      by_test : (b : Bool) → begins_with (c ∷ cs) (x ∷ xs) ≡ b
          → AllByRecursion (Lacks (c ∷ cs)) (pieces_behind c cs (length cs) xs)
          → AllByRecursion (Lacks (c ∷ cs)) (pieces_behind c cs 0 xs)
          → AllByRecursion (Lacks (c ∷ cs)) (cond b ([] ∷ pieces_behind c cs (length cs) xs)
          (onto_first x (pieces_behind c cs 0 xs)))
      by_test true is behind inside = (lacks_nothing c cs, behind)
      by_test false is behind inside =
          lacking-onto c cs x xs (pieces_behind c cs 0 xs) (joined-pieces c cs 0 xs) is inside

pub AreCut-cut_at : (separator t : List ℕ) → separator ≢ []
    → AreCut separator t (cut_at separator t)
AreCut-cut_at [] t some = absurd (some refl)
AreCut-cut_at (c ∷ cs) t some =
    record { joined = joined-pieces c cs 0 t; lacking = lacking-pieces c cs 0 t }
