-- Which arguments are of which kinds: one definition for lines and for lists in parentheses.
use Rattle.std.specs.Prelude.{ℕ, Bool, true, false, ◌&&◌, ◌==◌, not, List, [], ◌∷◌, codes, length, is_some}
use Rattle.std.specs.List.{ends_with, list_any}
use Rattle.std.specs.Str.{chars}
use Rattle.sc_script.specs.declared.tables.ArgKind.{ArgKind}
use Rattle.sc_script.specs.declared.tables.ArgKind.TheVariants as kinds
use Rattle.sc_script.specs.Trees.{ArgData, int_arg, text_arg, word_arg, list_arg, ArgsData, no_args, more_args}
use Rattle.sc_script.specs.Tables.{named_head, kinds_of}

-- a text isn't empty and has no character of code 0
abbrev pub is_input_name : List ℕ → Bool
is_input_name [] = false
is_input_name (c ∷ cs) = not (list_any (λ d. d == 0) (c ∷ cs))

-- likewise, and it doesn't end in a slash
abbrev pub is_directory_name : List ℕ → Bool
is_directory_name t = is_input_name t && not (ends_with (λ c d. c == d) t (codes "/"))

-- a text of one character
abbrev pub is_character : List ℕ → Bool
is_character t = length (chars t) == 1

-- a number may stand here
abbrev pub takes_int : ArgKind → Bool
takes_int kinds.Count = true
takes_int kinds.Literals = true
takes_int kinds.Ints = true
takes_int kinds.Expr = true
takes_int kinds.Exprs = true
takes_int k = false

-- this text may stand here
abbrev pub takes_text : ArgKind → List ℕ → Bool
takes_text kinds.Input t = is_input_name t
takes_text kinds.Directory t = is_directory_name t
takes_text kinds.Literals t = true
takes_text kinds.Texts t = true
takes_text kinds.Expr t = true
takes_text kinds.Exprs t = true
takes_text kinds.Character t = is_character t
takes_text k t = false

-- a word may stand here
abbrev pub takes_word : ArgKind → Bool
takes_word kinds.Node = true
takes_word kinds.Expr = true
takes_word kinds.Exprs = true
takes_word k = false

-- a list in parentheses may stand here
abbrev pub takes_list : ArgKind → Bool
takes_list kinds.Expr = true
takes_list kinds.Exprs = true
takes_list k = false

-- the kinds behind an argument of the first of these kinds: some kinds stay to the end
abbrev pub kinds_behind : ArgKind → List ArgKind → ArgData → List ArgKind
kinds_behind kinds.Ints ks a = kinds.Ints ∷ ks
kinds_behind kinds.Texts ks a = kinds.Texts ∷ ks
kinds_behind kinds.Exprs ks a = kinds.Exprs ∷ ks
kinds_behind kinds.Literals ks (int_arg n) = kinds.Ints ∷ []
kinds_behind kinds.Literals ks a = kinds.Texts ∷ []
kinds_behind k ks a = ks

-- the kinds behind the first argument
abbrev pub all_behind : List ArgKind → ArgData → List ArgKind
all_behind [] a = []
all_behind (k ∷ ks) a = kinds_behind k ks a

-- arguments of these kinds may end here
abbrev pub may_end : List ArgKind → Bool
may_end [] = true
may_end (kinds.Ints ∷ ks) = true
may_end (kinds.Texts ∷ ks) = true
may_end (kinds.Exprs ∷ ks) = true
may_end (k ∷ ks) = false

abbrev mutual
  -- an argument is of a kind
  pub is_of_kind : ArgKind → ArgData → Bool
  is_of_kind k (int_arg n) = takes_int k
  is_of_kind k (text_arg t) = takes_text k t
  is_of_kind k (word_arg w) = takes_word k
  is_of_kind k (list_arg h args) =
      takes_list k && (is_some (named_head h) && fits_kinds (kinds_of (named_head h)) args)

  -- arguments are of these kinds
  pub fits_kinds : List ArgKind → ArgsData → Bool
  fits_kinds ks no_args = may_end ks
  fits_kinds [] (more_args a args) = false
  fits_kinds (k ∷ ks) (more_args a args) = is_of_kind k a && fits_kinds (kinds_behind k ks a) args

abbrev mutual
  -- each head of an argument is in its table
  pub heads_known : ArgData → Bool
  heads_known (int_arg n) = true
  heads_known (text_arg t) = true
  heads_known (word_arg w) = true
  heads_known (list_arg h args) = is_some (named_head h) && all_heads_known args

  -- each head of arguments is in its table
  pub all_heads_known : ArgsData → Bool
  all_heads_known no_args = true
  all_heads_known (more_args arg args) = heads_known arg && all_heads_known args
