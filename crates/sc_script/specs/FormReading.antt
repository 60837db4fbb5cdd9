-- How the form of a line is read from its tokens, one token after another.
use Rattle.std.specs.Prelude.{ℕ, ◌≡◌, Bool, true, false, List, [], ◌∷◌, ◌++◌, Option, Some, None, Result, Ok, Err, if◌then◌else◌, map, reverse, drop}
use Rattle.std.specs.Option.{option_map, option_and_then}
use Rattle.sc_script.specs.declared.faults.FaultKind.{FaultKind}
use Rattle.sc_script.specs.declared.faults.FaultKind.TheVariants.{Syntax}
use Rattle.sc_base.specs.declared.refusals.OrMemory.{OrMemory}
use Rattle.sc_base.specs.declared.refusals.OrMemory.TheVariants.{Fault, OutOfMemory}
use Rattle.sc_script.specs.declared.trees.OpenList.{OpenList}
use Rattle.sc_script.specs.declared.trees.ArgsReader.{ArgsReader}
use Rattle.sc_script.specs.Tokens.{TokenData, opening, closing, equals, int_token, text_token, word_token, sign_token}
use Rattle.sc_script.specs.Trees.{HeadData, word_head, sign_head, ArgData, int_arg, text_arg, word_arg, list_arg, LineData, definition_line, action_line}
use Rattle.sc_script.specs.Views.{head_data_of, args_of, arg_data_of}

-- a list that isn't closed yet: its head, and the arguments that stand before the list
pub record OpenData : Type 0 where
  pub head : HeadData
  pub before : List ArgData

-- the lists left open, the innermost first; its arguments; whether a parenthesis awaits its head
pub record ReadingData : Type 0 where
  pub open_lists : List OpenData
  pub args : List ArgData
  pub awaits_head : Bool

-- no tokens yet
abbrev pub nothing_read : ReadingData
nothing_read = record { open_lists = []; args = []; awaits_head = false }

-- one argument more
abbrev pub with_arg : ReadingData → ArgData → ReadingData
with_arg r a = record {
  open_lists = r.open_lists;
  args = r.args ++ a ∷ [];
  awaits_head = r.awaits_head;
}

-- a parenthesis more, whose head comes next
abbrev pub with_parenthesis : ReadingData → ReadingData
with_parenthesis r = record { open_lists = r.open_lists; args = r.args; awaits_head = true }

-- the head of the list that has been opened
abbrev pub with_head : ReadingData → HeadData → ReadingData
with_head r h = record {
  open_lists = (record { head = h; before = r.args }) ∷ r.open_lists;
  args = [];
  awaits_head = false;
}

-- the innermost list closed: it is an argument of the list around it
abbrev pub list_closed : List OpenData → List ArgData → Option ReadingData
list_closed [] args = None
list_closed (o ∷ open_lists) args = Some (record {
  open_lists = open_lists;
  args = o.before ++ list_arg o.head (args_of args) ∷ [];
  awaits_head = false;
})

-- what a token leaves that is to be a head
abbrev pub head_read : ReadingData → TokenData → Option ReadingData
head_read r opening = None
head_read r closing = None
head_read r equals = None
head_read r (int_token n) = None
head_read r (text_token t) = None
head_read r (word_token w) = Some (with_head r (word_head w))
head_read r (sign_token s) = Some (with_head r (sign_head s))

-- what a token leaves among arguments
abbrev pub arg_read : ReadingData → TokenData → Option ReadingData
arg_read r opening = Some (with_parenthesis r)
arg_read r closing = list_closed r.open_lists r.args
arg_read r equals = None
arg_read r (int_token n) = Some (with_arg r (int_arg n))
arg_read r (text_token t) = Some (with_arg r (text_arg t))
arg_read r (word_token w) = Some (with_arg r (word_arg w))
arg_read r (sign_token s) = None

-- what a token leaves
abbrev pub token_read : ReadingData → TokenData → Option ReadingData
token_read r t = if r.awaits_head then head_read r t else arg_read r t

-- what tokens leave
abbrev pub tokens_read : ReadingData → List TokenData → Option ReadingData
tokens_read r [] = Some r
tokens_read r (t ∷ ts) = option_and_then (λ s. tokens_read s ts) (token_read r t)

-- the arguments, where nothing is open
abbrev pub all_closed : List OpenData → List ArgData → Option (List ArgData)
all_closed [] args = Some args
all_closed (o ∷ open_lists) args = None

-- the arguments, where no list is open
abbrev pub args_at_end : ReadingData → Option (List ArgData)
args_at_end r = if r.awaits_head then None else all_closed r.open_lists r.args

-- the arguments that the tokens write
abbrev pub args_from : List TokenData → Option (List ArgData)
args_from ts = option_and_then args_at_end (tokens_read nothing_read ts)

-- the word that a token is
abbrev pub word_of_token : TokenData → Option (List ℕ)
word_of_token opening = None
word_of_token closing = None
word_of_token equals = None
word_of_token (int_token n) = None
word_of_token (text_token t) = None
word_of_token (word_token w) = Some w
word_of_token (sign_token s) = None

-- the word that tokens begin with
abbrev pub first_word : List TokenData → Option (List ℕ)
first_word [] = None
first_word (t ∷ ts) = word_of_token t

-- a token is `=`
abbrev pub is_equals : TokenData → Bool
is_equals opening = false
is_equals closing = false
is_equals equals = true
is_equals (int_token n) = false
is_equals (text_token t) = false
is_equals (word_token w) = false
is_equals (sign_token s) = false

-- tokens begin with `=`
abbrev pub begins_with_equals : List TokenData → Bool
begins_with_equals [] = false
begins_with_equals (t ∷ ts) = is_equals t

-- the action of this name, with the arguments that the tokens write
abbrev pub action_from : List ℕ → List TokenData → Option LineData
action_from name ts = option_map (λ args. action_line name (args_of args)) (args_from ts)

-- the definition of this name, with this operation and the arguments that the tokens write
abbrev pub operation_from : List ℕ → List ℕ → List TokenData → Option LineData
operation_from name operation ts =
    option_map (λ args. definition_line name operation (args_of args)) (args_from ts)

-- the definition of this name, with the operation and the arguments that the tokens write
abbrev pub definition_from : List ℕ → List TokenData → Option LineData
definition_from name ts =
    option_and_then (λ operation. operation_from name operation (drop 1 ts)) (first_word ts)

-- the form of a line that begins with this word
abbrev pub form_behind : List ℕ → List TokenData → Option LineData
form_behind name ts =
    if begins_with_equals ts then definition_from name (drop 1 ts) else action_from name ts

-- the form of a line with these tokens
abbrev pub form_from : List TokenData → Option LineData
form_from ts = option_and_then (λ name. form_behind name (drop 1 ts)) (first_word ts)

-- the program's open list
abbrev pub open_data_of : OpenList → OpenData
open_data_of o = record { head = head_data_of o.head; before = map arg_data_of o.before.items }

-- the program's reader
abbrev pub reading_of : ArgsReader → ReadingData
reading_of r = record {
  open_lists = reverse (map open_data_of r.open_lists.items);
  args = map arg_data_of r.args.items;
  awaits_head = r.awaits_head;
}

-- a step answers what reading gives, unless memory ran out
abbrev pub Reads : {X Y : Type 0} → (X → Y) → Result X (OrMemory FaultKind) → Option Y → Type 0
Reads view (Ok x) read = read ≡ Some (view x)
Reads view (Err (Fault kind)) read = (kind ≡ Syntax) × (read ≡ None)
Reads view (Err OutOfMemory) read = Unit {0}
