-- Laws on the tokens of a line, over all lists of numbers: each has its tokens, and no others, and
-- it is decided whether they keep the limits.
use Rattle.std.proofs.Common.{◌≡◌, ℕ, zero, suc, ◌^◌, ◌<◌, Bool, true, false, List, [], ◌∷◌, length, Option, Some, None, refl, ap, sym, ◌∙◌, subst, ◌⊎◌, inl, inr, arith}
use Rattle.std.specs.Int.Signed.{mag}
use Rattle.std.proofs.lemmas.Bool.{both_ways, cases_lt, false≢true}
use Rattle.std.proofs.lemmas.Option.{none-some, some_pair_parts}
use Rattle.sc_script.proofs.TokenFronts.{token_at_begun, begun_by_read, token_at-blank, BeginsWith-shorter}
use Rattle.sc_script.specs.Limits.{depth_limit, line_limit, word_limit}
use Rattle.sc_script.specs.Tokens.{TokenData, opening, closing, equals, int_token, text_token, word_token, sign_token, is_blank, BeginsWith, stands_behind, HasTokensBehind, HasTokens, at_end, at_no_token, behind_blank, behind_token, depth_of, IsShort, AreShort, IsWithinLimits}
use Rattle.sc_script.specs.TokenReading.{token_at}

-- a line begins with one token at most
pub BeginsWith-unique : (line : List ℕ) (t u : TokenData) (a b : List ℕ) → BeginsWith line t a
    → BeginsWith line u b
    → (t ≡ u) × (a ≡ b)
BeginsWith-unique line t u a b first second =
    some_pair_parts t u a b (sym (token_at_begun line t a first) ∙ token_at_begun line u b second)

-- and no line begins with a token and with a blank
pub begins_with_no_blank : (c : ℕ) (cs : List ℕ) (token : TokenData) (after : List ℕ)
    → is_blank c ≡ true
    → BeginsWith (c ∷ cs) token after → ⊥
begins_with_no_blank c cs token after blank begins =
    none-some (token, after)
    (sym (token_at-blank c cs blank) ∙ token_at_begun (c ∷ cs) token after begins)

pub nothing_begins : (token : TokenData) (after : List ℕ) → BeginsWith [] token after → ⊥
nothing_begins token after begins =
    let shorter = BeginsWith-shorter [] token after begins in omega arith

-- bytes have no other tokens than their own
pub HasTokens-unique : {blank : Bool} {line rest others : List ℕ} {ts us : List TokenData}
    → HasTokensBehind blank line ts rest → HasTokensBehind blank line us others
    → (ts ≡ us) × (rest ≡ others)
HasTokens-unique (at_end _) (at_end _) = (refl, refl)
HasTokens-unique (at_end _) (behind_token _ _ after rest token tokens begins _ h) =
    absurd (nothing_begins token after begins)
HasTokens-unique (at_no_token _ c cs not_blank none) (at_no_token _ _ _ _ _) = (refl, refl)
HasTokens-unique (at_no_token _ c cs not_blank none) (behind_blank _ _ _ rest tokens blank h) =
    absurd (both_ways (is_blank c) not_blank blank)
HasTokens-unique (at_no_token _ c cs not_blank none)
    (behind_token _ _ after rest token tokens begins stands h) =
    absurd (none token after begins stands)
HasTokens-unique (behind_blank _ c cs rest tokens blank h) (at_no_token _ _ _ not_blank none) =
    absurd (both_ways (is_blank c) not_blank blank)
HasTokens-unique (behind_blank _ c cs rest tokens blank h) (behind_blank _ _ _ others us _ k) =
    HasTokens-unique h k
HasTokens-unique (behind_blank _ c cs rest tokens blank h)
    (behind_token _ _ after others token us begins _ k) =
    absurd (begins_with_no_blank c cs token after blank begins)
HasTokens-unique (behind_token _ _ after rest token tokens begins _ h) (at_end _) =
    absurd (nothing_begins token after begins)
HasTokens-unique (behind_token _ _ after rest token tokens begins stands h)
    (at_no_token _ c cs not_blank none) =
    absurd (none token after begins stands)
HasTokens-unique (behind_token _ _ after rest token tokens begins _ h)
    (behind_blank _ c cs others us blank k) =
    absurd (begins_with_no_blank c cs token after blank begins)
HasTokens-unique (behind_token _ line after rest token tokens begins _ h)
    (behind_token _ _ next others other us starts _ k) =
    let same = BeginsWith-unique line token other after next begins starts in
    let later = HasTokens-unique h
    (subst (λ a. HasTokensBehind false a us others) (sym same.1) k) in
    (ap (λ t. t ∷ tokens) same.0 ∙ ap (λ ts. other ∷ ts) later.0, later.1)

-- bytes that have tokens, whether a blank is right before them or none
abbrev SomeTokens : Bool → List ℕ → Type 0
SomeTokens blank line = (ts : List TokenData) × (rest : List ℕ) × HasTokensBehind blank line ts rest

-- bytes that begin with a token that may stand here, and with one that may not
at_standing : (blank : Bool) (line : List ℕ) (token : TokenData) (after : List ℕ)
    → BeginsWith line token after → stands_behind blank token ≡ true → SomeTokens false after
    → SomeTokens blank line
at_standing blank line token after begins stands more = (
  token ∷ more.0,
  more.1,
  behind_token blank line after more.1 token more.0 begins stands more.2,
)

pub misplaced : (blank : Bool) (line : List ℕ) (token : TokenData) (after : List ℕ)
    → BeginsWith line token after → stands_behind blank token ≡ false
    → (other : TokenData) (behind : List ℕ) → BeginsWith line other behind
    → stands_behind blank other ≡ true → ⊥
misplaced blank line token after begins out other behind starts stands =
    let same = BeginsWith-unique line token other after behind begins starts in
    false≢true (sym out ∙ ap (stands_behind blank) same.0 ∙ stands)

-- each line has its tokens
tokens_within : (n : ℕ) (blank : Bool) (line : List ℕ) → length line < n → SomeTokens blank line
tokens_within zero blank line short = absurd (omega arith)
tokens_within (suc n) blank [] short = ([], [], at_end blank)
tokens_within (suc n) blank (c ∷ cs) short =
    at_byte (is_blank c) refl (tokens_within n true cs (omega arith)) (token_at (c ∷ cs)) refl
    (tokens_within n false)
  where
    at_token : is_blank c ≡ false → (token : TokenData) (after : List ℕ)
        → BeginsWith (c ∷ cs) token after → (b : Bool) → stands_behind blank token ≡ b
        → SomeTokens false after → SomeTokens blank (c ∷ cs)
    at_token not_blank token after begins true stands more =
        at_standing blank (c ∷ cs) token after begins stands more
    at_token not_blank token after begins false out more = (
      [],
      c ∷ cs,
      at_no_token blank c cs not_blank (misplaced blank (c ∷ cs) token after begins out),
    )

    at_front : is_blank c ≡ false → (read : Option (TokenData × List ℕ)) → token_at (c ∷ cs) ≡ read
        → ((line : List ℕ) → length line < n → SomeTokens false line)
        → SomeTokens blank (c ∷ cs)
    at_front not_blank None is later = (
      [],
      c ∷ cs,
      at_no_token blank c cs not_blank
          (λ token after begins stands. none-some (token, after)
          (sym is ∙ token_at_begun (c ∷ cs) token after begins)),
    )
    at_front not_blank (Some read) is later =
        let begins = begun_by_read (c ∷ cs) read.0 read.1 is in
        let shorter = BeginsWith-shorter (c ∷ cs) read.0 read.1 begins in
        at_token not_blank read.0 read.1 begins (stands_behind blank read.0) refl
        (later read.1 (omega arith))

    at_byte : (b : Bool) → is_blank c ≡ b → SomeTokens true cs
        → (read : Option (TokenData × List ℕ)) → token_at (c ∷ cs) ≡ read
        → ((line : List ℕ) → length line < n → SomeTokens false line)
        → SomeTokens blank (c ∷ cs)
    at_byte true is_one behind read is later =
        (behind.0, behind.1, behind_blank blank c cs behind.1 behind.0 is_one behind.2)
    at_byte false not_blank behind read is later = at_front not_blank read is later

pub tokens_exist : (line : List ℕ) → (ts : List TokenData) × (rest : List ℕ)
    × HasTokens line ts rest
tokens_exist line = tokens_within (suc (length line)) false line (omega arith)

-- whether a token is short
pub is_short : (token : TokenData) → IsShort token ⊎ (IsShort token → ⊥)
is_short opening = inl tt
is_short closing = inl tt
is_short equals = inl tt
is_short (int_token n) =
    elim (cases_lt (mag n) (2 ^ 63)) [
      | inl fits ↦ inl (record { sfits = fits })
      | inr large ↦
          inr (λ fits. omega (arith, fits.sfits))
    ]
is_short (text_token t) = inl tt
is_short (word_token w) =
    elim (cases_lt word_limit (length w)) [
      | inl long ↦ inr (λ short. omega arith)
      | inr short ↦ inl short
    ]
is_short (sign_token s) = inl tt

pub are_short : (tokens : List TokenData) → AreShort tokens ⊎ (AreShort tokens → ⊥)
are_short [] = inl tt
are_short (t ∷ ts) =
    elim (is_short t) [
      | inr long ↦ inr (λ short. long short.0)
      | inl one ↦ elim (are_short ts)
          [ inl more ↦ inl (one, more) | inr long ↦ inr (λ short. long short.1) ]
    ]

-- whether the tokens of a line keep the limits
pub within_limits : (line : List ℕ) (ts : List TokenData) → IsWithinLimits line ts
    ⊎ (IsWithinLimits line ts → ⊥)
within_limits line ts =
    elim (cases_lt line_limit (length line)) [
      | inl long ↦ inr (λ within. omega (arith, within.bytes))
      | inr bytes ↦ elim (cases_lt depth_limit (depth_of 0 ts)) [
        | inl deep ↦ inr (λ within. omega (arith, within.nested))
        | inr nested ↦ elim (are_short ts) [
          | inr long ↦ inr (λ within. long within.short)
          | inl short ↦ inl (record { bytes = bytes; nested = nested; short = short })
        ]
      ]
    ]
