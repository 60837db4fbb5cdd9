-- Pieces of a line that hold no blank and no parenthesis.
use Rattle.std.proofs.Common.{◌≡◌, ℕ, ◌+◌, ◌<◌, Bool, true, false, cond, not, List, [], ◌∷◌, ◌++◌, length, take, drop, refl, ap, sym, ◌∙◌, arith, one-add}
use Rattle.std.proofs.Math.Seq.{take-append_seam, drop-append_seam}
use Rattle.std.proofs.lemmas.Bool.{not-true}
use Rattle.std.proofs.lemmas.Bool.Decides.{nat_tests}
use Rattle.std.proofs.lemmas.List.Recursion.{is_position_or_len}
use Rattle.std.specs.Char.{is_ascii_digit}
use Rattle.std.specs.List.{list_all, position_or_len}
use Rattle.sc_script.proofs.TokenTools.{list_all-cons, list_all-weaker}
use Rattle.sc_script.specs.Tokens.{is_word_byte, ends_token}
use Rattle.sc_script.specs.TokenReading.{is_token_end, piece_of, after_piece}

-- a line is its first piece and what follows
pub pieces : (line : List ℕ) → line ≡ piece_of line ++ after_piece line
pieces [] = refl
pieces (c ∷ cs) = at (is_token_end c) refl (pieces cs)
  where
    at : (b : Bool) → is_token_end c ≡ b → cs ≡ piece_of cs ++ after_piece cs
        → c ∷ cs ≡ cond (is_token_end c) [] (c ∷ piece_of cs) ++ cond (is_token_end c) (c ∷ cs)
        (after_piece cs)
    at true e ih = rw e refl
    at false e ih = rw e (ap (λ xs. c ∷ xs) ih)

-- after a piece a token may end
pub after_piece_ends : (line : List ℕ) → ends_token (after_piece line) ≡ true
after_piece_ends [] = refl
after_piece_ends (c ∷ cs) = at (is_token_end c) refl (after_piece_ends cs)
  where
    at : (b : Bool) → is_token_end c ≡ b → ends_token (after_piece cs) ≡ true
        → ends_token (cond (is_token_end c) (c ∷ cs) (after_piece cs)) ≡ true
    at true e ih = rw e e
    at false e ih = rw e ih

-- no byte ends a token
abbrev pub has_no_end : List ℕ → Bool
has_no_end piece = list_all (λ c. not (is_token_end c)) piece

-- bytes that end no token, before an end, are the first piece
pub piece_of-append : (piece after : List ℕ) → has_no_end piece ≡ true → ends_token after ≡ true
    → piece_of (piece ++ after) ≡ piece
piece_of-append [] [] whole ends = refl
piece_of-append [] (c ∷ cs) whole ends = rw ends refl
piece_of-append (c ∷ cs) after whole ends =
    let parts = list_all-cons (λ d. not (is_token_end d)) c cs whole in
    let stays : is_token_end c ≡ false = not-true (is_token_end c) parts.0 in
    rw (stays, piece_of-append cs after parts.1 ends) refl

pub after_piece-append : (piece after : List ℕ) → has_no_end piece ≡ true → ends_token after ≡ true
    → after_piece (piece ++ after) ≡ after
after_piece-append [] [] whole ends = refl
after_piece-append [] (c ∷ cs) whole ends = rw ends refl
after_piece-append (c ∷ cs) after whole ends =
    let parts = list_all-cons (λ d. not (is_token_end d)) c cs whole in
    let stays : is_token_end c ≡ false = not-true (is_token_end c) parts.0 in
    rw (stays) (after_piece-append cs after parts.1 ends)

-- a piece as a cut of the line
pub take-piece : (line : List ℕ) → take (length (piece_of line)) line ≡ piece_of line
take-piece line =
    ap (take (length (piece_of line))) (pieces line)
    ∙ take-append_seam (piece_of line) (after_piece line)

pub drop-piece : (line : List ℕ) → drop (length (piece_of line)) line ≡ after_piece line
drop-piece line =
    ap (drop (length (piece_of line))) (pieces line)
    ∙ drop-append_seam (piece_of line) (after_piece line)

-- bytes of words and digits end no token
word_byte_stays : (c : ℕ) → is_word_byte c ≡ true → not (is_token_end c) ≡ true
word_byte_stays c is = grind (arith, nat_tests)

digit_stays : (c : ℕ) → is_ascii_digit c ≡ true → not (is_token_end c) ≡ true
digit_stays c is = grind (arith, nat_tests)

pub word_has_no_end : (bytes : List ℕ) → list_all is_word_byte bytes ≡ true
    → has_no_end bytes ≡ true
word_has_no_end bytes all =
    list_all-weaker is_word_byte (λ c. not (is_token_end c)) word_byte_stays bytes all

pub digits_have_no_end : (bytes : List ℕ) → list_all is_ascii_digit bytes ≡ true
    → has_no_end bytes ≡ true
digits_have_no_end bytes all =
    list_all-weaker is_ascii_digit (λ c. not (is_token_end c)) digit_stays bytes all

-- a piece as the code cuts it, at the first place where a token may end
length_piece : (line : List ℕ) → length (piece_of line) ≡ position_or_len is_token_end line
length_piece line =
    is_position_or_len (λ bytes. length (piece_of bytes)) is_token_end refl
    (λ c cs. at c cs (is_token_end c) refl) line
  where
    at : (c : ℕ) (cs : List ℕ) (b : Bool) → is_token_end c ≡ b
        → length (cond (is_token_end c) [] (c ∷ piece_of cs)) ≡ cond (is_token_end c) 0
        (1 + length (piece_of cs))
    at c cs true e = rw e refl
    at c cs false e = rw e (sym (one-add (length (piece_of cs))))

pub cut_piece : (line bytes front back : List ℕ) (n : ℕ) → bytes ≡ line
    → n ≡ position_or_len is_token_end bytes
    → front ≡ take n line → back ≡ drop n line → (piece_of line ≡ front) × (after_piece line ≡ back)
cut_piece line bytes front back n is place front_is back_is =
    let same : length (piece_of line) ≡ n =
    length_piece line ∙ sym (place ∙ ap (position_or_len is_token_end) is) in (
      sym (take-piece line) ∙ ap (λ m. take m line) same ∙ sym front_is,
      sym (drop-piece line) ∙ ap (λ m. drop m line) same ∙ sym back_is,
    )

pub token_end_is_ascii : (c : ℕ) → is_token_end c ≡ true → c < 128
token_end_is_ascii c is = grind (arith, nat_tests)
