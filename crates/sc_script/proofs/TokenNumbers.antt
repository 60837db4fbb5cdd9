-- Numbers as pieces of a line.
use Rattle.std.proofs.Common.{◌≡◌, ℕ, Bool, true, false, eqb, List, [], ◌∷◌, refl, sym, subst, arith, eqb-true}
use Rattle.std.proofs.lemmas.Bool.{and_left, false≢true}
use Rattle.std.proofs.lemmas.Bool.Decides.{nat_tests}
use Rattle.std.specs.Char.{is_ascii_digit}
use Rattle.sc_script.proofs.TokenPieces.{has_no_end, digits_have_no_end}
use Rattle.sc_script.proofs.TokenTools.{list_all-cons}
use Rattle.sc_value.specs.Numbers.{is_digits, is_number}
use Rattle.sc_script.specs.Tokens.{is_word_start}
use Rattle.sc_script.specs.TokenReading.{is_word}

-- a digit is no quote, and begins no word
not_quote : (c : ℕ) → is_ascii_digit c ≡ true → eqb c 34 ≡ false
not_quote c is = grind (arith, nat_tests)

not_word : (c : ℕ) → is_ascii_digit c ≡ true → is_word_start c ≡ false
not_word c is = grind (arith, nat_tests)

-- a number is a piece that begins with no quote, and no word
pub record IsNumberPiece (spelling : List ℕ) : Type 0 where
  pub whole : has_no_end spelling ≡ true
  pub no_word : is_word spelling ≡ false
  pub no_quote : (c : ℕ) (cs : List ℕ) → spelling ≡ c ∷ cs → eqb c 34 ≡ false

digits_piece : (c : ℕ) (cs : List ℕ) → is_digits (c ∷ cs) ≡ true → IsNumberPiece (c ∷ cs)
digits_piece c cs digits =
    let first = list_all-cons is_ascii_digit c cs digits in
    record {
      whole = digits_have_no_end (c ∷ cs) digits;
      no_word = and_left (is_word_start c) _ (not_word c first.0);
      no_quote = λ d ds is. let same : c ≡ d = cc in
          subst (λ (b : ℕ). eqb b 34 ≡ false) same (not_quote c first.0);
    }

minus_piece : (cs : List ℕ) → is_digits cs ≡ true → IsNumberPiece (45 ∷ cs)
minus_piece [] digits = absurd (false≢true digits)
minus_piece (c ∷ cs) digits = record {
  whole = digits_have_no_end (c ∷ cs) digits;
  no_word = refl;
  no_quote = λ d ds is. let same : 45 ≡ d = cc in subst (λ (b : ℕ). eqb b 34 ≡ false) same refl;
}

pub number_piece : (spelling : List ℕ) → is_number spelling ≡ true → IsNumberPiece spelling
number_piece [] is = absurd (false≢true is)
number_piece (c ∷ cs) is = go (eqb c 45) refl
  where
    go : (b : Bool) → eqb c 45 ≡ b → IsNumberPiece (c ∷ cs)
    go true e =
        let digits : is_digits cs ≡ true = rw e at is in
        subst (λ (d : ℕ). IsNumberPiece (d ∷ cs)) (sym (eqb-true c 45 e)) (minus_piece cs digits)
    go false e = let digits : is_digits (c ∷ cs) ≡ true = rw e at is in digits_piece c cs digits
