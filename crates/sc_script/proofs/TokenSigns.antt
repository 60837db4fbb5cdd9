-- Signs, as they are listed and as they are tested.
use Rattle.std.proofs.Common.{◌≡◌, ℕ, Bool, true, false, not, eqb, ◌&&◌, List, [], ◌∷◌, Contains, Decides, refl, sym}
use Rattle.std.proofs.lemmas.Bool.{and_parts, not-true}
use Rattle.std.proofs.lemmas.Bool.Decides.{Decides-by_or, Decides-like}
use Rattle.std.proofs.lemmas.List.Elements.{All-contains, Decides-contains}
use Rattle.std.proofs.lemmas.List.Sums.{AllPass-from_list_all}
use Rattle.std.specs.Cmp.Lexicographic.{bytes_decides}
use Rattle.std.specs.List.{list_all, list_any}
use Rattle.std.specs.Str.{bytes_eq}
use Rattle.sc_script.proofs.TokenPieces.{has_no_end}
use Rattle.sc_script.specs.Tokens.{signs}
use Rattle.sc_script.specs.TokenReading.{is_sign, is_word}
use Rattle.sc_value.specs.Numbers.{is_number}

-- the test for signs finds just those that are listed
pub Decides-is_sign : (spelling : List ℕ) → Decides (is_sign spelling) (Contains signs spelling)
Decides-is_sign spelling =
    Decides-contains signs spelling (is_sign spelling)
    (Decides-by_or (bytes_eq spelling) (λ s. s ≡ spelling) (list_any (bytes_eq spelling))
    (λ s. Decides-like (bytes_eq spelling s) sym sym (bytes_decides spelling s)) refl (λ _ _. refl)
    signs)

-- bytes that begin with no quote and end no token
abbrev pub is_piece : List ℕ → Bool
is_piece [] = false
is_piece (c ∷ cs) = not (eqb c 34) && has_no_end (c ∷ cs)

-- a piece that is no word and no number
is_neither : List ℕ → Bool
is_neither s = is_piece s && (not (is_word s) && not (is_number s))

-- a sign is a piece, no word and no number
pub record IsSignPiece (spelling : List ℕ) : Type 0 where
  pub piece : is_piece spelling ≡ true
  pub no_word : is_word spelling ≡ false
  pub no_number : is_number spelling ≡ false

all_neither : list_all is_neither signs ≡ true
unfolding is_neither
all_neither = refl

sign_neither : (spelling : List ℕ) → is_neither spelling ≡ true → IsSignPiece spelling
unfolding is_neither
sign_neither spelling is =
    let outer = and_parts (is_piece spelling) (not (is_word spelling) && not (is_number spelling))
    is in
    let inner = and_parts (not (is_word spelling)) (not (is_number spelling)) outer.1 in
    record {
      piece = outer.0;
      no_word = not-true (is_word spelling) inner.0;
      no_number = not-true (is_number spelling) inner.1;
    }

pub sign_piece : (spelling : List ℕ) → Contains signs spelling → IsSignPiece spelling
sign_piece spelling listed =
    sign_neither spelling
    (All-contains (λ s. is_neither s ≡ true) signs spelling
    (AllPass-from_list_all is_neither signs all_neither) listed)
