-- What is read at the front of a line is the token that it begins with.
use Rattle.std.proofs.Common.{◌≡◌, ℕ, true, false, cond, List, [], ◌∷◌, Option, Some, None, refl, subst, ◌⊎◌, inl, inr}
use Rattle.std.proofs.lemmas.Bool.{and_parts, and_from, or_left, false≢true}
use Rattle.std.proofs.lemmas.Option.{none-some, same_Some}
use Rattle.std.specs.Cmp.Lexicographic.{bytes_decides}
use Rattle.std.specs.List.{list_all}
use Rattle.std.specs.Str.{bytes_eq}
use Rattle.std.specs.Str.Parse.{signed_digits_value}
use Rattle.sc_value.proofs.NumberLemmas.{number_spells}
use Rattle.sc_script.proofs.TokenSigns.{Decides-is_sign}
use Rattle.sc_script.proofs.TokenTools.{chosen}
use Rattle.sc_script.specs.Tokens.{TokenData, equals, int_token, word_token, sign_token, is_blank, is_word_start, is_word_byte, IsWord, SpellsToken, StandsBefore, ends_token, begins_with_blank}
use Rattle.sc_script.specs.TokenReading.{is_word, is_sign, is_equals, token_of_piece}
use Rattle.sc_value.specs.Numbers.{is_number}

-- where `=` may end, a token may
pub ends_after_equals : (after : List ℕ) → begins_with_blank after ≡ true → ends_token after ≡ true
ends_after_equals [] ends = refl
ends_after_equals (c ∷ cs) ends = or_left (is_blank c) _ ends

-- what a piece spells, it is read as
pub piece_is_word : (spelling after : List ℕ) → is_word spelling ≡ true
    → token_of_piece spelling after ≡ Some (word_token spelling)
unfolding token_of_piece
piece_is_word spelling after word = rw word refl

pub piece_is_number : (spelling after : List ℕ) → is_word spelling ≡ false
    → is_number spelling ≡ true
    → token_of_piece spelling after ≡ Some (int_token (signed_digits_value 10 spelling))
unfolding token_of_piece
piece_is_number spelling after word number = rw (word, number) refl

pub piece_is_sign : (spelling after : List ℕ) → is_word spelling ≡ false
    → is_number spelling ≡ false → is_sign spelling ≡ true
    → token_of_piece spelling after ≡ Some (sign_token spelling)
unfolding token_of_piece
piece_is_sign spelling after word number sign = rw (word, number, sign) refl

pub piece_is_equals : (after : List ℕ) → begins_with_blank after ≡ true
    → token_of_piece (61 ∷ []) after ≡ Some equals
unfolding token_of_piece
piece_is_equals after ends = rw ends refl

-- what a piece is read as, it spells
pub record IsPieceToken (spelling after : List ℕ) (token : TokenData) : Type 0 where
  pub spells : SpellsToken spelling token
  pub stands : StandsBefore token after

as_token : (spelling after : List ℕ) (t u : TokenData)
    → ◌≡◌ {A = Option TokenData} (Some t) (Some u)
    → IsPieceToken spelling after t → IsPieceToken spelling after u
as_token spelling after t u e is = subst (IsPieceToken spelling after) (same_Some t u e) is

word_spelled : (w : List ℕ) → is_word w ≡ true → IsWord w
word_spelled [] word = absurd (false≢true word)
word_spelled (c ∷ cs) word = and_parts (is_word_start c) (list_all is_word_byte cs) word

pub word_passes : (w : List ℕ) → IsWord w → is_word w ≡ true
word_passes [] word = absurd word
word_passes (c ∷ cs) word = and_from (is_word_start c) (list_all is_word_byte cs) word.0 word.1

equals_spelled : (spelling after : List ℕ) → is_equals spelling after ≡ true
    → IsPieceToken spelling after equals
equals_spelled spelling after is =
    let parts = and_parts (bytes_eq spelling (61 ∷ [])) (begins_with_blank after) is in
    record { spells = (bytes_decides spelling (61 ∷ [])).0 parts.0; stands = parts.1 }

pub piece_spells : (spelling after : List ℕ) (token : TokenData) → ends_token after ≡ true
    → token_of_piece spelling after ≡ Some token → IsPieceToken spelling after token
unfolding token_of_piece
piece_spells spelling after token ends e =
    at_word (chosen (is_word spelling) (Some (word_token spelling)) _ (Some token) e)
  where
    at_equals : ((is_equals spelling after ≡ true) × (Some equals ≡ Some token))
        ⊎ ((is_equals spelling after ≡ false) × (None ≡ Some token))
        → IsPieceToken spelling after token
    at_equals (inl p) = as_token spelling after equals token p.1 (equals_spelled spelling after p.0)
    at_equals (inr p) = absurd (none-some token p.1)

    at_sign : ((is_sign spelling ≡ true) × (Some (sign_token spelling) ≡ Some token))
        ⊎ ((is_sign spelling ≡ false)
        × (cond (is_equals spelling after) (Some equals) None ≡ Some token))
        → IsPieceToken spelling after token
    at_sign (inl p) =
        as_token spelling after (sign_token spelling) token p.1
        (record { spells = (refl, (Decides-is_sign spelling).0 p.0); stands = ends })
    at_sign (inr p) = at_equals
        (chosen (is_equals spelling after) (Some equals) None (Some token) p.1)

    at_number : ((is_number spelling ≡ true)
        × (Some (int_token (signed_digits_value 10 spelling)) ≡ Some token))
        ⊎ ((is_number spelling ≡ false)
        × (cond (is_sign spelling) (Some (sign_token spelling))
        (cond (is_equals spelling after) (Some equals) None) ≡ Some token))
        → IsPieceToken spelling after token
    at_number (inl p) =
        as_token spelling after (int_token (signed_digits_value 10 spelling)) token p.1
        (record { spells = number_spells spelling p.0; stands = ends })
    at_number (inr p) = at_sign
        (chosen (is_sign spelling) (Some (sign_token spelling)) _ (Some token) p.1)

    at_word : ((is_word spelling ≡ true) × (Some (word_token spelling) ≡ Some token))
        ⊎ ((is_word spelling ≡ false)
        × (cond (is_number spelling) (Some (int_token (signed_digits_value 10 spelling)))
        (cond (is_sign spelling) (Some (sign_token spelling))
        (cond (is_equals spelling after) (Some equals) None)) ≡ Some token))
        → IsPieceToken spelling after token
    at_word (inl p) =
        as_token spelling after (word_token spelling) token p.1
        (record { spells = (refl, word_spelled spelling p.0); stands = ends })
    at_word (inr p) =
        at_number (chosen (is_number spelling) (Some (int_token (signed_digits_value 10 spelling)))
        _ (Some token) p.1)
