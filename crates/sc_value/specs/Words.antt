-- The words of a text, and its pieces between separators.
use Rattle.std.specs.Prelude.{◌≡◌, ◌≢◌, ℕ, zero, suc, Bool, true, false, ◌&&◌, ◌||◌, List, [], ◌∷◌, ◌++◌, ◌==◌, length, filter, slice_range, slice_get, Option, Some, None, if◌then◌else◌}
use Rattle.std.specs.List.{AllByRecursion, join_by, onto_first, slice_split}
use Rattle.sc_value.specs.declared.texts.Span.{Span}

-- whether a byte is a space or a tab
abbrev pub is_blank : ℕ → Bool
is_blank x = x == 32 || x == 9

-- whether a piece has a byte
abbrev pub is_some_piece : List ℕ → Bool
is_some_piece [] = false
is_some_piece (x ∷ p) = true

-- the words of a text: the pieces between blanks that aren't empty
abbrev pub words_of : List ℕ → List (List ℕ)
words_of t = filter is_some_piece (slice_split is_blank t)

-- the word at a place among the words of a text
abbrev pub nth_word : ℕ → List ℕ → Option (List ℕ)
nth_word k t = slice_get (words_of t) k

-- whether a text begins with some bytes
abbrev pub begins_with : List ℕ → List ℕ → Bool
begins_with [] t = true
begins_with (c ∷ cs) [] = false
begins_with (c ∷ cs) (x ∷ xs) = (x == c) && begins_with cs xs

-- the pieces of a text, cut at a separator of a first byte and others, where the first so many
-- bytes of the text still belong to an occurrence
abbrev pub pieces_behind : ℕ → List ℕ → ℕ → List ℕ → List (List ℕ)
pieces_behind c cs n [] = [] ∷ []
pieces_behind c cs (suc n) (x ∷ xs) = pieces_behind c cs n xs
pieces_behind c cs zero (x ∷ xs) =
    if begins_with (c ∷ cs) (x ∷ xs) then [] ∷ pieces_behind c cs (length cs) xs
    else onto_first x (pieces_behind c cs zero xs)

-- the pieces of a text between the occurrences of a separator, found from the left, empty pieces
-- kept; an empty separator occurs nowhere
abbrev pub cut_at : List ℕ → List ℕ → List (List ℕ)
cut_at [] t = t ∷ []
cut_at (c ∷ cs) t = pieces_behind c cs 0 t

-- the piece at a place among the pieces of a text
abbrev pub nth_piece : List ℕ → ℕ → List ℕ → Option (List ℕ)
nth_piece separator k t = slice_get (cut_at separator t) k

-- the items at a range
abbrev pub range_of : {X : Type 0} → List X → Span → List X
range_of xs s = slice_range xs s.from s.to

-- a value in front of others, or else none at all
abbrev pub in_front : {Y : Type 0} → Option Y → List Y → List Y
in_front None ys = []
in_front (Some y) ys = y ∷ ys

-- what a function gives at each item, up to the first at which it gives nothing
abbrev pub until_none : {X Y : Type 0} → (X → Option Y) → List X → List Y
until_none f [] = []
until_none f (x ∷ xs) = in_front (f x) (until_none f xs)

-- bytes that are all blanks
abbrev pub AreBlanks : List ℕ → Type 0
AreBlanks bytes = AllByRecursion (λ b. is_blank b ≡ true) bytes

-- bytes, one or more, of which none is a blank
abbrev pub IsWord : List ℕ → Type 0
IsWord bytes = (is_some_piece bytes ≡ true) × AllByRecursion (λ b. is_blank b ≡ false) bytes

-- no bytes, or bytes that begin with a blank
abbrev pub BeginsBlank : List ℕ → Type 0
BeginsBlank [] = Unit {0}
BeginsBlank (b ∷ bytes) = is_blank b ≡ true

-- A text consists of words in order, with blanks before, between and behind them. At least one
-- blank is between two words, so that none of them could be longer.
abbrev pub AreWords : List ℕ → List (List ℕ) → Type 0
AreWords t [] = AreBlanks t
AreWords t (word ∷ words) = (blanks : List ℕ) × (rest : List ℕ) × (t ≡ blanks ++ (word ++ rest))
    × AreBlanks blanks × IsWord word × BeginsBlank rest × AreWords rest words

-- bytes that occur nowhere in a text
abbrev pub Lacks : List ℕ → List ℕ → Type 0
Lacks bytes t = (front back : List ℕ) → t ≢ front ++ (bytes ++ back)

-- the pieces with the separator between them are the text, and none has the separator
pub record AreCut (separator t : List ℕ) (pieces : List (List ℕ)) : Type 0 where
  pub joined : join_by (λ piece. piece) separator pieces ≡ t
  pub lacking : AllByRecursion (Lacks separator) pieces
