-- What is read at the front of a line is the token that the line begins with.
use Rattle.std.proofs.Common.{◌≡◌, ℕ, ◌<◌, true, false, cond, not, eqb, ◌||◌, List, [], ◌∷◌, ◌++◌, length, Option, Some, None, option_map, refl, ap, sym, ◌∙◌, subst, ◌⊎◌, inl, inr, arith, eqb-true, append_assoc, length-append}
use Rattle.std.proofs.lemmas.Bool.{and_parts, and_from, or_parts, or_left, cond-true, cond-false, not-true, not_from_false, false≢true}
use Rattle.std.proofs.lemmas.Bool.Decides.{nat_tests}
use Rattle.std.proofs.lemmas.Option.{none-some, some_pair_parts, cond_some}
use Rattle.std.specs.List.{list_all}
use Rattle.sc_script.proofs.TokenNumbers.{number_piece}
use Rattle.sc_value.proofs.NumberLemmas.{spelled_number}
use Rattle.sc_script.proofs.TokenPieces.{pieces, after_piece_ends, has_no_end, piece_of-append, after_piece-append, word_has_no_end}
use Rattle.sc_script.proofs.TokenReading.{piece_is_word, piece_is_number, piece_is_sign, piece_is_equals, ends_after_equals, word_passes, piece_spells}
use Rattle.sc_script.proofs.TokenSigns.{Decides-is_sign, is_piece, sign_piece}
use Rattle.sc_script.proofs.TokenTexts.{text_at_spelled, text_spelled}
use Rattle.sc_script.proofs.TokenTools.{chosen, list_all-cons}
use Rattle.sc_script.specs.Tokens.{TokenData, opening, closing, equals, int_token, text_token, word_token, sign_token, is_blank, is_word_start, is_word_byte, SpellsToken, StandsBefore, ends_token, BeginsWith}
use Rattle.sc_value.specs.Numbers.{is_number}
use Rattle.sc_script.specs.TokenReading.{is_token_end, piece_of, after_piece, is_word, token_of_piece, piece_at, text_at, text_token_of, token_at}

-- a piece of the line, behind the tests for parentheses and quotes
pub piece_at-read : (line piece after : List ℕ) (token : TokenData) → piece_of line ≡ piece
    → after_piece line ≡ after
    → token_of_piece piece after ≡ Some token → piece_at line ≡ Some (token, after)
unfolding piece_at
piece_at-read line piece after token is behind e =
    let before : Option TokenData → List ℕ
    → Option (TokenData × List ℕ) = λ read rest. option_map (λ t. (t, rest)) read in
    ap (λ p. before (token_of_piece p (after_piece line)) (after_piece line)) is
    ∙ ap (λ rest. before (token_of_piece piece rest) rest) behind
    ∙ ap (λ read. before read after) e

token_at-cons : (c : ℕ) (cs : List ℕ) → is_token_end c ≡ false → eqb c 34 ≡ false
    → token_at (c ∷ cs) ≡ piece_at (c ∷ cs)
unfolding token_at
token_at-cons c cs stays quote =
    let ends = (or_parts (is_blank c) _ stays).1 in
    let parens = or_parts (eqb c 40) (eqb c 41) ends in
    cond-false (eqb c 40) _ _ parens.0 ∙ cond-false (eqb c 41) _ _ parens.1
    ∙ cond-false (eqb c 34) _ _ quote

token_at-piece : (piece after : List ℕ) (token : TokenData) → is_piece piece ≡ true
    → ends_token after ≡ true
    → token_of_piece piece after ≡ Some token → token_at (piece ++ after) ≡ Some (token, after)
token_at-piece [] after token is ends e = absurd (false≢true is)
token_at-piece (c ∷ cs) after token is ends e =
    let parts = and_parts (not (eqb c 34)) (has_no_end (c ∷ cs)) is in
    let first = list_all-cons (λ d. not (is_token_end d)) c cs parts.1 in
    token_at-cons c (cs ++ after) (not-true (is_token_end c) first.0) (not-true (eqb c 34) parts.0)
    ∙ piece_at-read ((c ∷ cs) ++ after) (c ∷ cs) after token
    (piece_of-append (c ∷ cs) after parts.1 ends) (after_piece-append (c ∷ cs) after parts.1 ends) e

-- words and numbers are pieces
start_no_quote : (c : ℕ) → is_word_start c ≡ true → not (eqb c 34) ≡ true
start_no_quote c is = grind (arith, nat_tests)

start_is_byte : (c : ℕ) → is_word_start c ≡ true → is_word_byte c ≡ true
start_is_byte c is = grind (arith, nat_tests)

word_piece : (w : List ℕ) → is_word w ≡ true → is_piece w ≡ true
word_piece [] word = word
word_piece (c ∷ cs) word =
    let parts = and_parts (is_word_start c) (list_all is_word_byte cs) word in
    let all : list_all is_word_byte (c ∷ cs) ≡ true =
    and_from (is_word_byte c) (list_all is_word_byte cs) (start_is_byte c parts.0) parts.1 in
    and_from (not (eqb c 34)) (has_no_end (c ∷ cs)) (start_no_quote c parts.0)
    (word_has_no_end (c ∷ cs) all)

piece_from_number : (spelling : List ℕ) → is_number spelling ≡ true → is_piece spelling ≡ true
piece_from_number [] number = number
piece_from_number (c ∷ cs) number =
    let piece = number_piece (c ∷ cs) number in
    and_from (not (eqb c 34)) (has_no_end (c ∷ cs))
    (not_from_false (eqb c 34) (piece.no_quote c cs refl)) piece.whole

-- what a line begins with is read
read_opening : (after : List ℕ) → token_at (40 ∷ after) ≡ Some (opening, after)
unfolding token_at
read_opening after = refl

read_closing : (after : List ℕ) → token_at (41 ∷ after) ≡ Some (closing, after)
unfolding token_at
read_closing after = refl

pub token_at-opening : (line after : List ℕ) → line ≡ 40 ∷ after
    → token_at line ≡ Some (opening, after)
token_at-opening line after is = ap token_at is ∙ read_opening after

pub token_at-closing : (line after : List ℕ) → line ≡ 41 ∷ after
    → token_at line ≡ Some (closing, after)
token_at-closing line after is = ap token_at is ∙ read_closing after

read_text : (cs text after : List ℕ) → text_at false cs ≡ Some (text, after)
    → ends_token after ≡ true
    → token_at (34 ∷ cs) ≡ Some (text_token text, after)
unfolding token_at
read_text cs text after e ends = rw (e, ends) refl

pub token_at_begun : (line : List ℕ) (token : TokenData) (after : List ℕ)
    → BeginsWith line token after
    → token_at line ≡ Some (token, after)
token_at_begun line opening after b =
    token_at-opening line after (b.is ∙ ap (λ s. s ++ after) b.spells)
token_at_begun line closing after b =
    token_at-closing line after (b.is ∙ ap (λ s. s ++ after) b.spells)
token_at_begun line equals after b =
    ap token_at (b.is ∙ ap (λ s. s ++ after) b.spells)
    ∙ token_at-piece (61 ∷ []) after equals refl (ends_after_equals after b.stands)
    (piece_is_equals after b.stands)
token_at_begun line (int_token n) after b =
    let number = spelled_number b.spelling n b.spells in
    let piece = number_piece b.spelling number.is in
    ap token_at b.is
    ∙ token_at-piece b.spelling after (int_token n) (piece_from_number b.spelling number.is)
    b.stands
    (piece_is_number b.spelling after piece.no_word number.is
    ∙ ap (λ v. Some (int_token v)) number.value)
token_at_begun line (text_token t) after b =
    let inner = b.spells.0 in
    let whole : line ≡ 34 ∷ (inner ++ 34 ∷ after) =
    b.is ∙ ap (λ s. s ++ after) b.spells.1
    ∙ ap (λ xs. 34 ∷ xs) (append_assoc inner (34 ∷ []) after) in
    ap token_at whole ∙ read_text (inner ++ 34 ∷ after) t after
    (text_at_spelled inner t after b.spells.2) b.stands
token_at_begun line (word_token w) after b =
    let word = word_passes w b.spells.1 in
    ap token_at (b.is ∙ ap (λ s. s ++ after) b.spells.0)
    ∙ token_at-piece w after (word_token w) (word_piece w word) b.stands
    (piece_is_word w after word)
token_at_begun line (sign_token s) after b =
    let sign = sign_piece s b.spells.1 in
    ap token_at (b.is ∙ ap (λ x. x ++ after) b.spells.0)
    ∙ token_at-piece s after (sign_token s) sign.piece b.stands
    (piece_is_sign s after sign.no_word sign.no_number ((Decides-is_sign s).1 b.spells.1))

-- what is read the line begins with
as_begun : (line : List ℕ) (t u : TokenData) (a b : List ℕ)
    → ◌≡◌ {A = Option (TokenData × List ℕ)} (Some (t, a)) (Some (u, b))
    → BeginsWith line t a → BeginsWith line u b
as_begun line t u a b e begins =
    let parts = some_pair_parts t u a b e in
    subst (λ x. BeginsWith line x b) parts.0 (subst (BeginsWith line t) parts.1 begins)

begun_by_text : (c : ℕ) (cs : List ℕ) (token : TokenData) (after : List ℕ) → eqb c 34 ≡ true
    → (read : Option (List ℕ × List ℕ)) → text_at false cs ≡ read
    → text_token_of read ≡ Some (token, after)
    → BeginsWith (c ∷ cs) token after
begun_by_text c cs token after quote None is e = absurd (none-some (token, after) e)
begun_by_text c cs token after quote (Some read) is e =
    let kept = cond_some (ends_token read.1) (text_token read.0, read.1) (token, after) e in
    let text = text_spelled false cs read.0 read.1 is in
    let whole : c ∷ cs ≡ (34 ∷ (text.inner ++ 34 ∷ [])) ++ read.1 =
    ap (λ d. d ∷ cs) (eqb-true c 34 quote)
    ∙ ap (λ xs. 34 ∷ xs) (text.is ∙ sym (append_assoc text.inner (34 ∷ []) read.1)) in
    as_begun (c ∷ cs) (text_token read.0) token read.1 after (ap Some kept.1)
    (record {
      spelling = 34 ∷ (text.inner ++ 34 ∷ []);
      is = whole;
      spells =
          (text.inner, refl, text.spells);
      stands = kept.0;
    })

begun_by_piece : (line : List ℕ) (token : TokenData) (after : List ℕ)
    → piece_at line ≡ Some (token, after)
    → BeginsWith line token after
unfolding piece_at
begun_by_piece line token after e = go (token_of_piece (piece_of line) (after_piece line)) refl e
  where
    go : (read : Option TokenData) → token_of_piece (piece_of line) (after_piece line) ≡ read
        → option_map {U = TokenData × List ℕ} (λ t. (t, after_piece line)) read ≡ Some
        (token, after) → BeginsWith line token after
    go None is e = absurd (none-some (token, after) e)
    go (Some t) is e =
        let piece = piece_spells (piece_of line) (after_piece line) t (after_piece_ends line) is in
        as_begun line t token (after_piece line) after e
        (record {
          spelling = piece_of line;
          is = pieces line;
          spells = piece.spells;
          stands =
              piece.stands;
        })

begun_by_byte : (c d : ℕ) (cs : List ℕ) (t token : TokenData) (after : List ℕ) → eqb c d ≡ true
    → SpellsToken (d ∷ []) t → StandsBefore t cs
    → ◌≡◌ {A = Option (TokenData × List ℕ)} (Some (t, cs)) (Some (token, after))
    → BeginsWith (c ∷ cs) token after
begun_by_byte c d cs t token after is spells stands e =
    as_begun (c ∷ cs) t token cs after e
    (record {
      spelling = d ∷ [];
      is = ap (λ b. b ∷ cs) (eqb-true c d is);
      spells = spells;
      stands =
          stands;
    })

-- what was read at the front is this token, with these bytes after it
abbrev IsRead : TokenData → List ℕ → Option (TokenData × List ℕ) → Type 0
IsRead token after read = read ≡ Some (token, after)

pub begun_by_read : (line : List ℕ) (token : TokenData) (after : List ℕ)
    → token_at line ≡ Some (token, after)
    → BeginsWith line token after
unfolding token_at
begun_by_read [] token after e = absurd (none-some (token, after) e)
begun_by_read (c ∷ cs) token after e =
    at_opening (chosen (eqb c 40) (Some (opening, cs)) _ (Some (token, after)) e)
  where
    at_quote : ((eqb c 34 ≡ true) × IsRead token after (text_token_of (text_at false cs)))
        ⊎ ((eqb c 34 ≡ false) × IsRead token after (piece_at (c ∷ cs)))
        → BeginsWith (c ∷ cs) token after
    at_quote (inl p) = begun_by_text c cs token after p.0 (text_at false cs) refl p.1
    at_quote (inr p) = begun_by_piece (c ∷ cs) token after p.1

    at_closing : ((eqb c 41 ≡ true) × IsRead token after (Some (closing, cs)))
        ⊎ ((eqb c 41 ≡ false)
        × IsRead token after (cond (eqb c 34) (text_token_of (text_at false cs))
        (piece_at (c ∷ cs))))
        → BeginsWith (c ∷ cs) token after
    at_closing (inl p) = begun_by_byte c 41 cs closing token after p.0 refl tt p.1
    at_closing (inr p) = at_quote
        (chosen (eqb c 34) (text_token_of (text_at false cs)) _ (Some (token, after)) p.1)

    at_opening : ((eqb c 40 ≡ true) × IsRead token after (Some (opening, cs)))
        ⊎ ((eqb c 40 ≡ false) × IsRead token after
        (cond (eqb c 41) (Some (closing, cs))
        (cond (eqb c 34) (text_token_of (text_at false cs)) (piece_at (c ∷ cs)))))
        → BeginsWith (c ∷ cs) token after
    at_opening (inl p) = begun_by_byte c 40 cs opening token after p.0 refl tt p.1
    at_opening (inr p) = at_closing
        (chosen (eqb c 41) (Some (closing, cs)) _ (Some (token, after)) p.1)

-- no token begins with a blank
blank_is_plain : (c : ℕ) → is_blank c ≡ true → eqb c 40 || (eqb c 41 || eqb c 34) ≡ false
blank_is_plain c blank = grind (arith, nat_tests)

token_of_nothing : (after : List ℕ) → token_of_piece [] after ≡ None
unfolding token_of_piece
token_of_nothing after = refl

piece_at-blank : (c : ℕ) (cs : List ℕ) → is_blank c ≡ true → piece_at (c ∷ cs) ≡ None
unfolding piece_at
piece_at-blank c cs blank =
    let piece : piece_of (c ∷ cs) ≡ [] =
    cond-true (is_token_end c) _ _ (or_left (is_blank c) _ blank) in
    let behind : List ℕ = after_piece (c ∷ cs) in
    ap (option_map {U = TokenData × List ℕ} (λ t. (t, behind)))
    (ap (λ p. token_of_piece p behind) piece ∙ token_of_nothing behind)

pub token_at-blank : (c : ℕ) (cs : List ℕ) → is_blank c ≡ true → token_at (c ∷ cs) ≡ None
unfolding token_at
token_at-blank c cs blank =
    let plain = or_parts (eqb c 40) _ (blank_is_plain c blank) in
    let others = or_parts (eqb c 41) (eqb c 34) plain.1 in
    cond-false (eqb c 40) _ _ plain.0 ∙ cond-false (eqb c 41) _ _ others.0
    ∙ cond-false (eqb c 34) _ _ others.1
    ∙ piece_at-blank c cs blank

-- a token takes a byte at least
spelling_not_empty : (token : TokenData) → SpellsToken [] token → ⊥
spelling_not_empty opening e = cc
spelling_not_empty closing e = cc
spelling_not_empty equals e = cc
spelling_not_empty (int_token n) e = false≢true (spelled_number [] n e).is
spelling_not_empty (text_token t) e = (let is : [] ≡ 34 ∷ (e.0 ++ 34 ∷ []) = e.1 in cc)
spelling_not_empty (word_token w) e =
    (let word = word_passes w e.1 in false≢true (ap is_word e.0 ∙ word))
spelling_not_empty (sign_token s) e =
    (let piece = (sign_piece s e.1).piece in false≢true (ap is_piece e.0 ∙ piece))

spelling_long : (spelling : List ℕ) (token : TokenData) → SpellsToken spelling token
    → 0 < length spelling
spelling_long [] token spells = absurd (spelling_not_empty token spells)
spelling_long (c ∷ cs) token spells = omega arith

pub BeginsWith-shorter : (line : List ℕ) (token : TokenData) (after : List ℕ)
    → BeginsWith line token after
    → length after < length line
BeginsWith-shorter line token after b =
    let long : 0 < length b.spelling = spelling_long b.spelling token b.spells in
    omega (arith, ap length b.is, length-append b.spelling after)
