-- Tests of bytes as the code makes them.
use Rattle.std.proofs.Common.{◌≡◌, ℕ, ◌-◌, ◌≤◌, Bool, true, false, cond, not, ltb, ◌&&◌, List, [], ◌∷◌, length, take, drop, get_or, Option, Some, None, unwrap_or, ◌⊎◌, inl, inr, ap, sym, ◌∙◌, arith, take_all}
use Rattle.std.proofs.lemmas.Bool.{cases_Bool, ltb-false, cond-false, cond-true}
use Rattle.std.proofs.lemmas.List.Sums.{prefix_len-le-length}
use Rattle.std.specs.List.{list_all, position_or_len}
use Rattle.sc_script.specs.Tokens.{is_word_start, is_word_byte}
use Rattle.sc_script.specs.TokenReading.{is_word}

-- behind a byte that begins a word, a word is told by the bytes that follow
pub is_word_of_some : (bytes rest : List ℕ) → 1 ≤ length bytes
    → is_word_start (get_or bytes 0 0) ≡ true
    → rest ≡ take (length bytes - 1) (drop 1 bytes) → list_all is_word_byte rest ≡ is_word bytes
is_word_of_some [] rest some start is = absurd (omega arith)
is_word_of_some (c ∷ cs) rest some start is =
    let whole : rest ≡ cs = is ∙ take_all (length (c ∷ cs) - 1) cs (omega arith) in
    ap (list_all is_word_byte) whole ∙ sym (ap (λ b. b && list_all is_word_byte cs) start)

-- the first place that passes, or else the length, is one number
pub position_or_length : (test : ℕ → Bool) (bytes : List ℕ) (found : Option ℕ)
    → found ≡ cond (ltb (position_or_len test bytes) (length bytes))
    (Some (position_or_len test bytes)) None
    → unwrap_or found (length bytes) ≡ position_or_len test bytes
position_or_length test bytes found is =
    at (cases_Bool (ltb (position_or_len test bytes) (length bytes)))
  where
    at : (ltb (position_or_len test bytes) (length bytes) ≡ true)
        ⊎ (ltb (position_or_len test bytes) (length bytes) ≡ false)
        → unwrap_or found (length bytes) ≡ position_or_len test bytes
    at (inl within) = ap (λ o. unwrap_or o (length bytes)) (is ∙ cond-true _ _ _ within)
    at (inr past) =
        ap (λ o. unwrap_or o (length bytes)) (is ∙ cond-false _ _ _ past)
        ∙ omega (arith, ltb-false _ _ past, prefix_len-le-length (λ c. not (test c)) bytes)
