-- The form of a line: a definition or an action with its arguments.
use Rattle.std.specs.Prelude.{ℕ, ℤ, List, [], ◌∷◌, ◌++◌}
use Rattle.sc_script.specs.Tokens.{TokenData, opening, closing, equals, int_token, text_token, word_token, sign_token}

-- the head of a list: a word or a sign
pub data HeadData : Type 0 where
  word_head : List ℕ → HeadData
  sign_head : List ℕ → HeadData

mutual
  -- an argument: a number, a text, a word, or a head with arguments in parentheses
  pub data ArgData : Type 0 where
    int_arg : ℤ → ArgData
    text_arg : List ℕ → ArgData
    word_arg : List ℕ → ArgData
    list_arg : HeadData → ArgsData → ArgData

  -- arguments, one after another
  pub data ArgsData : Type 0 where
    no_args : ArgsData
    more_args : ArgData → ArgsData → ArgsData

-- `name = operation arguments`, or `action arguments`
pub data LineData : Type 0 where
  definition_line : List ℕ → List ℕ → ArgsData → LineData
  action_line : List ℕ → ArgsData → LineData

abbrev pub token_of_head : HeadData → TokenData
token_of_head (word_head w) = word_token w
token_of_head (sign_head s) = sign_token s

abbrev mutual
  -- the tokens of an argument
  pub tokens_of_arg : ArgData → List TokenData
  tokens_of_arg (int_arg n) = int_token n ∷ []
  tokens_of_arg (text_arg t) = text_token t ∷ []
  tokens_of_arg (word_arg w) = word_token w ∷ []
  tokens_of_arg (list_arg h args) =
      opening ∷ token_of_head h ∷ (tokens_of_args args ++ closing ∷ [])

  -- the tokens of arguments
  pub tokens_of_args : ArgsData → List TokenData
  tokens_of_args no_args = []
  tokens_of_args (more_args arg args) = tokens_of_arg arg ++ tokens_of_args args

-- the tokens of a line
abbrev pub tokens_of_line : LineData → List TokenData
tokens_of_line (definition_line name operation args) =
    word_token name ∷ equals ∷ word_token operation ∷ tokens_of_args args
tokens_of_line (action_line action args) = word_token action ∷ tokens_of_args args
