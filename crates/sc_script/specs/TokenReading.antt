-- The tokens of a line as they are read from the left: functions on lists, which the laws on tokens
-- tie to what a line's tokens are.
use Rattle.std.specs.Prelude.{ℕ, ◌+◌, ◌-◌, ◌≡◌, Bool, true, false, ◌==◌, ◌&&◌, ◌||◌, List, [], ◌∷◌, ◌++◌, Option, Some, None, option_map, if◌then◌else◌, Result, Ok, Err}
use Rattle.std.specs.List.{list_all, list_any}
use Rattle.std.specs.Str.{bytes_eq}
use Rattle.std.specs.Str.Parse.{signed_digits_value}
use Rattle.sc_value.specs.Numbers.{is_number}
use Rattle.sc_script.specs.Tokens.{TokenData, opening, closing, equals, int_token, text_token, word_token, sign_token, is_blank, is_word_start, is_word_byte, signs, escaped_byte, ends_token, begins_with_blank, IsShort}
use Rattle.sc_script.specs.declared.faults.FaultKind.{FaultKind}
use Rattle.sc_script.specs.declared.faults.FaultKind.TheVariants.{NotText, Limit, Syntax, UnknownName, Twice, IllTyped}
use Rattle.std.specs.Borrow.{Bor}
use Rattle.sc_script.specs.Views.{token_data_of}
use Rattle.sc_script.specs.declared.tokens.Token.{Token}
use Rattle.sc_script.specs.declared.literals.Mark.{Mark}
use Rattle.sc_script.specs.declared.literals.Mark.TheVariants.{Quote, Escape}
use Rattle.sc_base.specs.declared.refusals.OrMemory.{OrMemory}
use Rattle.sc_base.specs.declared.refusals.OrMemory.TheVariants.{Fault, OutOfMemory}

-- a blank or a parenthesis, before which a token may end
abbrev pub is_token_end : ℕ → Bool
is_token_end c = is_blank c || ((c == 40) || (c == 41))

-- the bytes without the blanks before them
abbrev pub without_blanks : List ℕ → List ℕ
without_blanks [] = []
without_blanks (c ∷ cs) = if is_blank c then without_blanks cs else c ∷ cs

-- the bytes before the first blank or parenthesis
abbrev pub piece_of : List ℕ → List ℕ
piece_of [] = []
piece_of (c ∷ cs) = if is_token_end c then [] else c ∷ piece_of cs

-- the bytes from the first blank or parenthesis on
abbrev pub after_piece : List ℕ → List ℕ
after_piece [] = []
after_piece (c ∷ cs) = if is_token_end c then c ∷ cs else after_piece cs

-- whether bytes are a word
abbrev pub is_word : List ℕ → Bool
is_word [] = false
is_word (c ∷ cs) = is_word_start c && list_all is_word_byte cs

-- whether bytes are a sign
abbrev pub is_sign : List ℕ → Bool
is_sign spelling = list_any (bytes_eq spelling) signs

-- whether bytes are `=`, with a blank behind them
abbrev pub is_equals : List ℕ → List ℕ → Bool
is_equals spelling after = bytes_eq spelling (61 ∷ []) && begins_with_blank after

-- the token that a piece of the line writes before the bytes after it
unfoldable pub token_of_piece : List ℕ → List ℕ → Option TokenData
token_of_piece spelling after =
    if is_word spelling then Some (word_token spelling)
    else (if is_number spelling then Some (int_token (signed_digits_value 10 spelling))
    else (if is_sign spelling then Some (sign_token spelling)
    else (if is_equals spelling after then Some equals else None)))

-- the token that the line's first piece writes, and the bytes after the piece
unfoldable pub piece_at : List ℕ → Option (TokenData × List ℕ)
piece_at line = option_map (λ t. (t, after_piece line))
    (token_of_piece (piece_of line) (after_piece line))

-- a quote or a backslash, which don't stand for themselves in a text
abbrev pub is_mark : ℕ → Bool
is_mark c = (c == 34) || (c == 92)

-- the escape that these bytes behind a backslash begin with
abbrev pub escape_at : List ℕ → Option Mark
escape_at [] = None
escape_at (c ∷ cs) = option_map Escape (escaped_byte c)

-- what stands at a quote or a backslash: the end of a text, or an escape
abbrev pub mark_at : List ℕ → Option Mark
mark_at [] = None
mark_at (c ∷ cs) = if c == 34 then Some Quote else (if c == 92 then escape_at cs else None)

-- a text that is read with these bytes before it
abbrev pub with_front : List ℕ → Option (List ℕ × List ℕ) → Option (List ℕ × List ℕ)
with_front front None = None
with_front front (Some read) = Some (front ++ read.0, read.1)

-- a text that is read behind an escape
abbrev pub with_escaped : Option ℕ → Option (List ℕ × List ℕ) → Option (List ℕ × List ℕ)
with_escaped None read = None
with_escaped (Some c) read = with_front (c ∷ []) read

-- the text up to its closing quote, and the bytes after it; whether a backslash stands before
abbrev pub text_at : Bool → List ℕ → Option (List ℕ × List ℕ)
text_at escaped [] = None
text_at false (c ∷ cs) =
    if c == 34 then Some ([], cs)
    else (if c == 92 then text_at true cs else with_front (c ∷ []) (text_at false cs))
text_at true (c ∷ cs) = with_escaped (escaped_byte c) (text_at false cs)

-- a text as a token, where a token may end after it
abbrev pub text_token_of : Option (List ℕ × List ℕ) → Option (TokenData × List ℕ)
text_token_of None = None
text_token_of (Some read) = if ends_token read.1 then Some (text_token read.0, read.1) else None

-- the token that the bytes begin with, and the bytes after it
unfoldable pub token_at : List ℕ → Option (TokenData × List ℕ)
token_at [] = None
token_at (c ∷ cs) =
    if c == 40 then Some (opening, cs)
    else (if c == 41 then Some (closing, cs)
    else (if c == 34 then text_token_of (text_at false cs)
    else piece_at (c ∷ cs)))

-- what was looked for is of this kind of fault: it passes a limit, or isn't there
abbrev pub IsFaultOf : {Y : Type 0} → (Y → Type 0) → FaultKind → Option Y → Type 0
IsFaultOf {Y} Keeps NotText found = ⊥
IsFaultOf {Y} Keeps Limit found = (y : Y) × (found ≡ Some y) × (Keeps y → ⊥)
IsFaultOf {Y} Keeps Syntax found = found ≡ None
IsFaultOf {Y} Keeps UnknownName found = ⊥
IsFaultOf {Y} Keeps Twice found = ⊥
IsFaultOf {Y} Keeps IllTyped found = ⊥

-- what a function returned is what was looked for, as long as that keeps the limits
abbrev pub Finds : {X Y : Type 0}
    → (X → Y) → (Y → Type 0) → Result X (OrMemory FaultKind) → Option Y → Type 0
Finds view Keeps (Ok x) found = (found ≡ Some (view x)) × Keeps (view x)
Finds view Keeps (Err (Fault kind)) found = IsFaultOf Keeps kind found
Finds view Keeps (Err OutOfMemory) found = Unit {0}

-- a token and what follows it, without where they lie in memory
abbrev pub front_of : Token × Bor (List ℕ) → TokenData × List ℕ
front_of read = (token_data_of read.0, read.1.now)

-- the token is short, whatever follows it
abbrev pub IsShortFront : TokenData × List ℕ → Type 0
IsShortFront read = IsShort read.0

-- how deep the bytes behind a token stand, where the token stands so deep
abbrev pub depth_after : ℕ → TokenData → ℕ
depth_after inside opening = inside + 1
depth_after inside closing = inside - 1
depth_after inside equals = inside
depth_after inside (int_token n) = inside
depth_after inside (text_token t) = inside
depth_after inside (word_token w) = inside
depth_after inside (sign_token s) = inside
