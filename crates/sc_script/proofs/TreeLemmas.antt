-- What is read from the tokens of arguments, and which tokens were read.
use Rattle.std.proofs.Common.{◌≡◌, Bool, true, false, List, [], ◌∷◌, ◌++◌, Some, refl, ap, sym, ◌∙◌, subst}
use Rattle.std.proofs.lemmas.List.{append-nil, append_assoc}
use Rattle.std.proofs.lemmas.Option.{option_and_then_some, same_Some}
use Rattle.std.specs.Option.{option_and_then}
use Rattle.sc_script.specs.Tokens.{TokenData, opening, closing, equals, int_token, text_token, word_token, sign_token}
use Rattle.sc_script.specs.Trees.{HeadData, word_head, sign_head, ArgData, int_arg, text_arg, word_arg, list_arg, ArgsData, no_args, more_args, token_of_head, tokens_of_arg, tokens_of_args}
use Rattle.sc_script.specs.Views.{args_of}
use Rattle.sc_script.specs.FormReading.{OpenData, ReadingData, nothing_read, head_read, arg_read, token_read, tokens_read, args_at_end, args_from}

-- the tokens of lists that aren't closed
abbrev pub tokens_of_open : List OpenData → List TokenData
tokens_of_open [] = []
tokens_of_open (o ∷ open_lists) =
    tokens_of_open open_lists
    ++ (tokens_of_args (args_of o.before) ++ opening ∷ token_of_head o.head ∷ [])

-- a parenthesis whose head comes next
abbrev pub tokens_awaiting : Bool → List TokenData
tokens_awaiting true = opening ∷ []
tokens_awaiting false = []

-- the tokens that were read
abbrev pub tokens_so_far : ReadingData → List TokenData
tokens_so_far r =
    tokens_of_open r.open_lists
    ++ (tokens_of_args (args_of r.args) ++ tokens_awaiting r.awaits_head)

tokens_of_args-push : (args : List ArgData) (a : ArgData)
    → tokens_of_args (args_of (args ++ a ∷ [])) ≡ tokens_of_args (args_of args) ++ tokens_of_arg a
tokens_of_args-push [] a = append-nil (tokens_of_arg a)
tokens_of_args-push (b ∷ args) a =
    ap (λ ts. tokens_of_arg b ++ ts) (tokens_of_args-push args a)
    ∙ sym (append_assoc (tokens_of_arg b) (tokens_of_args (args_of args)) (tokens_of_arg a))

-- a step adds its token
abbrev AddsToken : ReadingData → TokenData → ReadingData → Type 0
AddsToken r t s = tokens_so_far s ≡ tokens_so_far r ++ t ∷ []

-- lists and arguments in which no head is awaited
abbrev pub reading_args : List OpenData → List ArgData → ReadingData
reading_args open_lists args =
    record { open_lists = open_lists; args = args; awaits_head = false }

-- the same where one is
abbrev reading_head : List OpenData → List ArgData → ReadingData
reading_head open_lists args =
    record { open_lists = open_lists; args = args; awaits_head = true }

-- a list that is open
abbrev opened : HeadData → List ArgData → OpenData
opened h before = record { head = h; before = before }

-- a step with a known result adds its token
adds_by : (m s : ReadingData) (ts : List TokenData) → Some m ≡ Some s
    → tokens_so_far m ≡ ts → tokens_so_far s ≡ ts
adds_by m s ts e h = subst (λ (r : ReadingData). tokens_so_far r ≡ ts) (same_Some m s e) h

-- an argument of one token
arg_adds : (os : List OpenData) (args : List ArgData) (a : ArgData) (t : TokenData)
    → tokens_of_arg a ≡ t ∷ []
    → AddsToken (reading_args os args) t (reading_args os (args ++ a ∷ []))
arg_adds os args a t e = rw (tokens_of_args-push args a, e) (simp (append-nil, append_assoc))

-- the end of a list
closing_adds : (os : List OpenData) (before args : List ArgData) (h : HeadData)
    → AddsToken (reading_args (opened h before ∷ os) args) closing
    (reading_args os (before ++ list_arg h (args_of args) ∷ []))
closing_adds os before args h =
    rw (tokens_of_args-push before (list_arg h (args_of args))) (simp (append-nil, append_assoc))

-- a parenthesis
opening_adds : (os : List OpenData) (args : List ArgData)
    → AddsToken (reading_args os args) opening (reading_head os args)
opening_adds os args = simp (append-nil, append_assoc)

-- the head behind it
head_adds : (os : List OpenData) (args : List ArgData) (h : HeadData)
    → AddsToken (reading_head os args) (token_of_head h) (reading_args (opened h args ∷ os) [])
head_adds os args h = simp (append-nil, append_assoc)

-- a token that is read as a head
head_read-so : (os : List OpenData) (args : List ArgData) (t : TokenData) (s : ReadingData)
    → head_read (reading_head os args) t ≡ Some s → AddsToken (reading_head os args) t s
head_read-so os args opening s e = cc
head_read-so os args closing s e = cc
head_read-so os args equals s e = cc
head_read-so os args (int_token n) s e = cc
head_read-so os args (text_token t) s e = cc
head_read-so os args (word_token w) s e =
    adds_by _ _ _ e (head_adds os args (word_head w))
head_read-so os args (sign_token w) s e =
    adds_by _ _ _ e (head_adds os args (sign_head w))

-- a token that is read among arguments
arg_read-so : (os : List OpenData) (args : List ArgData) (t : TokenData) (s : ReadingData)
    → arg_read (reading_args os args) t ≡ Some s → AddsToken (reading_args os args) t s
arg_read-so os args opening s e = adds_by _ _ _ e (opening_adds os args)
arg_read-so [] args closing s e = cc
arg_read-so (o ∷ os) args closing s e =
    adds_by _ _ _ e (closing_adds os o.before args o.head)
arg_read-so os args equals s e = cc
arg_read-so os args (int_token n) s e =
    adds_by _ _ _ e (arg_adds os args (int_arg n) (int_token n) refl)
arg_read-so os args (text_token t) s e =
    adds_by _ _ _ e (arg_adds os args (text_arg t) (text_token t) refl)
arg_read-so os args (word_token w) s e =
    adds_by _ _ _ e (arg_adds os args (word_arg w) (word_token w) refl)
arg_read-so os args (sign_token w) s e = cc

token_read-so : (os : List OpenData) (args : List ArgData) (awaits : Bool) (t : TokenData)
    (s : ReadingData)
    → token_read (record { open_lists = os; args = args; awaits_head = awaits }) t ≡ Some s
    → AddsToken (record { open_lists = os; args = args; awaits_head = awaits }) t s
token_read-so os args true t s e = head_read-so os args t s e
token_read-so os args false t s e = arg_read-so os args t s e

-- what was read are the tokens
tokens_read-so : (r s : ReadingData) (ts : List TokenData) → tokens_read r ts ≡ Some s
    → tokens_so_far s ≡ tokens_so_far r ++ ts
tokens_read-so r s [] e =
    sym (append-nil (tokens_so_far r) ∙ ap tokens_so_far (same_Some r s e))
tokens_read-so r s (t ∷ ts) e =
    option_and_then_some (λ (m : ReadingData). tokens_read m ts) (token_read r t) s e
    (λ m is rest. tokens_read-so m s ts rest
    ∙ ap (λ us. us ++ ts) (token_read-so r.open_lists r.args r.awaits_head t m is)
    ∙ append_assoc (tokens_so_far r) (t ∷ []) ts)

-- the tokens of the arguments at the end
at_end_so : (os : List OpenData) (args all : List ArgData) (awaits : Bool)
    → args_at_end (record { open_lists = os; args = args; awaits_head = awaits }) ≡ Some all
    → tokens_so_far (record { open_lists = os; args = args; awaits_head = awaits })
    ≡ tokens_of_args (args_of all)
at_end_so os args all true e = cc
at_end_so [] args all false e =
    append-nil (tokens_of_args (args_of args))
    ∙ ap (λ xs. tokens_of_args (args_of xs)) (same_Some args all e)
at_end_so (o ∷ os) args all false e = cc

-- tokens that were read as arguments are the tokens of the arguments
pub args_from-so : (ts : List TokenData) (args : List ArgData) → args_from ts ≡ Some args
    → ts ≡ tokens_of_args (args_of args)
args_from-so ts args e =
    option_and_then_some args_at_end (tokens_read nothing_read ts) args e
    (λ s is end.
    sym (tokens_read-so nothing_read s ts is)
    ∙ at_end_so s.open_lists s.args args s.awaits_head end)

-- arguments as a list
abbrev pub list_of_args : ArgsData → List ArgData
list_of_args no_args = []
list_of_args (more_args a args) = a ∷ list_of_args args

pub args_of-list : (args : ArgsData) → args_of (list_of_args args) ≡ args
args_of-list no_args = refl
args_of-list (more_args a args) = ap (more_args a) (args_of-list args)

head_read_again : (h : HeadData) (os : List OpenData) (before : List ArgData) (ts : List TokenData)
    → tokens_read (reading_args os before) (opening ∷ token_of_head h ∷ ts)
    ≡ tokens_read (reading_args (opened h before ∷ os) []) ts
head_read_again (word_head w) os before ts = refl
head_read_again (sign_head s) os before ts = refl

mutual
  arg_read_again : (a : ArgData) (os : List OpenData) (before : List ArgData)
      (rest : List TokenData)
      → tokens_read (reading_args os before) (tokens_of_arg a ++ rest)
      ≡ tokens_read (reading_args os (before ++ a ∷ [])) rest
  arg_read_again (int_arg n) os before rest = refl
  arg_read_again (text_arg t) os before rest = refl
  arg_read_again (word_arg w) os before rest = refl
  arg_read_again (list_arg h args) os before rest =
      head_read_again h os before ((tokens_of_args args ++ closing ∷ []) ++ rest)
      ∙ ap (tokens_read (reading_args (opened h before ∷ os) []))
      (append_assoc (tokens_of_args args) (closing ∷ []) rest)
      ∙ args_read_again args (opened h before ∷ os) [] (closing ∷ rest)
      ∙ ap (λ xs. tokens_read (reading_args os (before ++ list_arg h xs ∷ [])) rest)
      (args_of-list args)

  args_read_again : (args : ArgsData) (os : List OpenData) (before : List ArgData)
      (rest : List TokenData)
      → tokens_read (reading_args os before) (tokens_of_args args ++ rest)
      ≡ tokens_read (reading_args os (before ++ list_of_args args)) rest
  args_read_again no_args os before rest =
      ap (λ xs. tokens_read (reading_args os xs) rest) (sym (append-nil before))
  args_read_again (more_args a args) os before rest =
      ap (tokens_read (reading_args os before))
      (append_assoc (tokens_of_arg a) (tokens_of_args args) rest)
      ∙ arg_read_again a os before (tokens_of_args args ++ rest)
      ∙ args_read_again args os (before ++ a ∷ []) rest
      ∙ ap (λ xs. tokens_read (reading_args os xs) rest)
      (append_assoc before (a ∷ []) (list_of_args args))

-- the tokens of arguments are read as those arguments
pub args_from-again : (args : ArgsData) → args_from (tokens_of_args args) ≡ Some (list_of_args args)
args_from-again args =
    ap args_from (sym (append-nil (tokens_of_args args)))
    ∙ ap (option_and_then args_at_end) (args_read_again args [] [] [])
