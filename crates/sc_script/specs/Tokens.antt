-- Which bytes of a line are tokens.
use Rattle.std.specs.Prelude.{ℕ, ◌+◌, ◌-◌, ◌≤◌, ◌≡◌, ◌≢◌, ℤ, Bool, true, false, ◌==◌, ◌&&◌, ◌||◌, nat_le, List, [], ◌∷◌, ◌++◌, length, max, codes, IsTrue, Contains, Option, Some, None, if◌then◌else◌, FitsSigned}
use Rattle.std.specs.Int.{w64}
use Rattle.std.specs.List.{list_all}
use Rattle.sc_value.specs.Numbers.{SpellsInt}
use Rattle.sc_script.specs.Limits.{depth_limit, line_limit, word_limit}

-- a token, with nothing of how it was written
pub data TokenData : Type 0 where
  opening : TokenData
  closing : TokenData
  equals : TokenData
  int_token : ℤ → TokenData
  text_token : List ℕ → TokenData
  word_token : List ℕ → TokenData
  sign_token : List ℕ → TokenData

-- a space or a tab
abbrev pub is_blank : ℕ → Bool
is_blank c = (c == 32) || (c == 9)

-- a letter or an underscore
abbrev pub is_word_start : ℕ → Bool
is_word_start c = (nat_le 65 c && nat_le c 90) || ((nat_le 97 c && nat_le c 122) || (c == 95))

-- a letter, a digit or an underscore
abbrev pub is_word_byte : ℕ → Bool
is_word_byte c = is_word_start c || (nat_le 48 c && nat_le c 57)

-- a word begins with a letter or an underscore; letters, digits and underscores follow
abbrev pub IsWord : List ℕ → Type 0
IsWord [] = ⊥
IsWord (c ∷ cs) = IsTrue (is_word_start c) × IsTrue (list_all is_word_byte cs)

-- the signs
abbrev pub signs : List (List ℕ)
signs =
    codes "+" ∷ codes "-" ∷ codes "*" ∷ codes "/" ∷ codes "%"
    ∷ codes "==" ∷ codes "<" ∷ codes "<=" ∷ []

-- what a backslash and this byte stand for
abbrev pub escaped_byte : ℕ → Option ℕ
escaped_byte c =
    if c == 110 then Some 10
    else (if c == 116 then Some 9 else (if (c == 92) || (c == 34) then Some c else None))

-- what stands between quotes, and the text that it writes
pub data SpellsText : List ℕ → List ℕ → Type 0 where
  nothing_more : SpellsText [] []
  plain_byte : (c : ℕ) (spelling text : List ℕ) → c ≢ 34 → c ≢ 92
      → SpellsText spelling text → SpellsText (c ∷ spelling) (c ∷ text)
  escape : (c d : ℕ) (spelling text : List ℕ) → escaped_byte c ≡ Some d
      → SpellsText spelling text → SpellsText (92 ∷ c ∷ spelling) (d ∷ text)

-- these bytes write the token
abbrev pub SpellsToken : List ℕ → TokenData → Type 0
SpellsToken spelling opening = spelling ≡ codes "("
SpellsToken spelling closing = spelling ≡ codes ")"
SpellsToken spelling equals = spelling ≡ codes "="
SpellsToken spelling (int_token n) = SpellsInt spelling n
SpellsToken spelling (text_token t) =
    (inner : List ℕ) × (spelling ≡ 34 ∷ (inner ++ 34 ∷ [])) × SpellsText inner t
SpellsToken spelling (word_token w) = (spelling ≡ w) × IsWord w
SpellsToken spelling (sign_token s) = (spelling ≡ s) × Contains signs s

-- a token may end before these bytes: at the line's end, a blank or a parenthesis
abbrev pub ends_token : List ℕ → Bool
ends_token [] = true
ends_token (c ∷ cs) = is_blank c || ((c == 40) || (c == 41))

-- the bytes begin with a blank
abbrev pub begins_with_blank : List ℕ → Bool
begins_with_blank [] = false
begins_with_blank (c ∷ cs) = is_blank c

-- the token may stand before these bytes
abbrev pub StandsBefore : TokenData → List ℕ → Type 0
StandsBefore opening after = Unit {0}
StandsBefore closing after = Unit {0}
StandsBefore equals after = IsTrue (begins_with_blank after)
StandsBefore (int_token n) after = IsTrue (ends_token after)
StandsBefore (text_token t) after = IsTrue (ends_token after)
StandsBefore (word_token w) after = IsTrue (ends_token after)
StandsBefore (sign_token s) after = IsTrue (ends_token after)

-- the line begins with this token, and the bytes after it follow
pub record BeginsWith (line : List ℕ) (token : TokenData) (after : List ℕ) : Type 0 where
  pub spelling : List ℕ
  pub is : line ≡ spelling ++ after
  pub spells : SpellsToken spelling token
  pub stands : StandsBefore token after

-- whether the token may stand here, where a blank is right before it or none: `=` wants one
abbrev pub stands_behind : Bool → TokenData → Bool
stands_behind blank opening = true
stands_behind blank closing = true
stands_behind blank equals = blank
stands_behind blank (int_token n) = true
stands_behind blank (text_token t) = true
stands_behind blank (word_token w) = true
stands_behind blank (sign_token s) = true

-- the tokens of bytes from the left as far as they go, and the bytes where none stands, where a
-- blank is right before the first byte or none
pub data HasTokensBehind : Bool → List ℕ → List TokenData → List ℕ → Type 0 where
  at_end : (blank : Bool) → HasTokensBehind blank [] [] []
  at_no_token : (blank : Bool) (c : ℕ) (cs : List ℕ) → is_blank c ≡ false
      → ((token : TokenData) (after : List ℕ) → BeginsWith (c ∷ cs) token after
      → IsTrue (stands_behind blank token) → ⊥)
      → HasTokensBehind blank (c ∷ cs) [] (c ∷ cs)
  behind_blank : (blank : Bool) (c : ℕ) (cs rest : List ℕ) (tokens : List TokenData)
      → is_blank c ≡ true → HasTokensBehind true cs tokens rest
      → HasTokensBehind blank (c ∷ cs) tokens rest
  behind_token : (blank : Bool) (line after rest : List ℕ) (token : TokenData)
      (tokens : List TokenData) → BeginsWith line token after → IsTrue (stands_behind blank token)
      → HasTokensBehind false after tokens rest
      → HasTokensBehind blank line (token ∷ tokens) rest

-- the tokens of a line from the left as far as they go, and the bytes where none stands
abbrev pub HasTokens : List ℕ → List TokenData → List ℕ → Type 0
HasTokens line tokens rest = HasTokensBehind false line tokens rest

-- how deep parentheses are nested in tokens that stand inside so many; a closing one too many
-- closes nothing
abbrev pub depth_of : ℕ → List TokenData → ℕ
depth_of inside [] = inside
depth_of inside (opening ∷ ts) = max inside (depth_of (inside + 1) ts)
depth_of inside (closing ∷ ts) = max inside (depth_of (inside - 1) ts)
depth_of inside (equals ∷ ts) = depth_of inside ts
depth_of inside (int_token n ∷ ts) = depth_of inside ts
depth_of inside (text_token t ∷ ts) = depth_of inside ts
depth_of inside (word_token w ∷ ts) = depth_of inside ts
depth_of inside (sign_token s ∷ ts) = depth_of inside ts

-- a word isn't too long, and a number fits 64 bits
abbrev pub IsShort : TokenData → Type 0
IsShort opening = Unit {0}
IsShort closing = Unit {0}
IsShort equals = Unit {0}
IsShort (int_token n) = FitsSigned w64 n
IsShort (text_token t) = Unit {0}
IsShort (word_token w) = length w ≤ word_limit
IsShort (sign_token s) = Unit {0}

-- each token is short
abbrev pub AreShort : List TokenData → Type 0
AreShort [] = Unit {0}
AreShort (t ∷ ts) = IsShort t × AreShort ts

-- the tokens of a line keep the limits, and so does its length
pub record IsWithinLimits (line : List ℕ) (tokens : List TokenData) : Type 0 where
  pub bytes : length line ≤ line_limit
  pub nested : depth_of 0 tokens ≤ depth_limit
  pub short : AreShort tokens
