-- The blanks before a token, as the code skips them.
use Rattle.std.proofs.Common.{◌≡◌, ℕ, suc, ◌+◌, ◌<◌, ◌≤◌, Bool, true, false, cond, not, List, [], ◌∷◌, length, drop, refl, ap, sym, ◌∙◌, subst, arith, one-add}
use Rattle.std.proofs.lemmas.Bool.{cond-true, cond-false}
use Rattle.std.proofs.lemmas.Bool.Decides.{nat_tests}
use Rattle.std.proofs.lemmas.Str.{IsUtf8-drop, IsCharBoundary-after_ascii, IsCharBoundary-from_drop}
use Rattle.std.specs.List.{position_or_len}
use Rattle.std.specs.Str.{IsUtf8, IsCharBoundary}
use Rattle.sc_script.specs.Tokens.{is_blank}
use Rattle.sc_script.specs.TokenReading.{without_blanks}

-- behind so many bytes the line without its blanks begins, as text
pub record SkipsBlanks (line : List ℕ) (n : ℕ) : Type 0 where
  pub within : n ≤ length line
  pub is : drop n line ≡ without_blanks line
  pub utf8 : IsUtf8 (drop n line)

blank_is_ascii : (c : ℕ) → is_blank c ≡ true → c < 128
blank_is_ascii c blank = grind (arith, nat_tests)

utf8_behind_blank : (c : ℕ) (cs : List ℕ) → is_blank c ≡ true → IsUtf8 (c ∷ cs) → IsUtf8 cs
utf8_behind_blank c cs blank utf8 =
    IsUtf8-drop (c ∷ cs) 1 utf8
    (IsCharBoundary-after_ascii (c ∷ cs) 0 utf8 (omega arith) (blank_is_ascii c blank))

pub skips_blanks : (line : List ℕ) → IsUtf8 line
    → SkipsBlanks line (position_or_len (λ b. not (is_blank b)) line)
skips_blanks [] utf8 = record { within = omega arith; is = refl; utf8 = utf8 }
skips_blanks (c ∷ cs) utf8 = go (is_blank c) refl (skips_blanks cs)
  where
    go : (b : Bool) → is_blank c ≡ b
        → (IsUtf8 cs → SkipsBlanks cs (position_or_len (λ d. not (is_blank d)) cs))
        → SkipsBlanks (c ∷ cs)
        (cond (not (not (is_blank c))) (1 + position_or_len (λ d. not (is_blank d)) cs) 0)
    go true blank later =
        let n = position_or_len (λ d. not (is_blank d)) cs in
        let rest = later (utf8_behind_blank c cs blank utf8) in
        let place : suc n ≡ cond (not (not (is_blank c))) (1 + n) 0 =
        sym (one-add n) ∙ sym (ap (λ b. cond (not (not b)) (1 + n) 0) blank) in
        subst (SkipsBlanks (c ∷ cs)) place (record {
          within = omega (arith, rest.within);
          is = rest.is ∙ sym (cond-true (is_blank c) (without_blanks cs) (c ∷ cs) blank);
          utf8 = rest.utf8;
        })
    go false plain later =
        let n = position_or_len (λ d. not (is_blank d)) cs in
        let place : 0 ≡ cond (not (not (is_blank c))) (1 + n) 0 =
        sym (ap (λ b. cond (not (not b)) (1 + n) 0) plain) in
        subst (SkipsBlanks (c ∷ cs)) place (record {
          within = omega arith;
          is = sym (cond-false (is_blank c) (without_blanks cs) (c ∷ cs) plain);
          utf8 = utf8;
        })

-- the same for a place and a line under other names
pub skips : (line bytes : List ℕ) (n : ℕ) → bytes ≡ line
    → n ≡ position_or_len (λ b. not (is_blank b)) bytes → IsUtf8 bytes
    → SkipsBlanks line n
skips line bytes n is place utf8 =
    subst (λ l. SkipsBlanks l n) is
    (subst (SkipsBlanks bytes) (sym place) (skips_blanks bytes utf8))

pub skip_boundary : (line : List ℕ) (n : ℕ) → SkipsBlanks line n → IsCharBoundary line n
skip_boundary line n skips = IsCharBoundary-from_drop line n skips.within skips.utf8
