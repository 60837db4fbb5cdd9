-- The data that the program's tokens and forms stand for.
use Rattle.std.specs.Prelude.{List, [], ◌∷◌}
use Rattle.sc_script.specs.Tokens.{TokenData, opening, closing, equals, int_token, text_token, word_token, sign_token}
use Rattle.sc_script.specs.Trees.{HeadData, word_head, sign_head, ArgData, int_arg, text_arg, word_arg, list_arg, ArgsData, no_args, more_args, LineData, definition_line, action_line}
use Rattle.sc_script.specs.declared.tokens.Token.{Token}
use Rattle.sc_script.specs.declared.tokens.Token.TheVariants as tokens
use Rattle.sc_script.specs.declared.trees.Head.{Head}
use Rattle.sc_script.specs.declared.trees.Head.TheVariants as heads
use Rattle.sc_script.specs.declared.trees.Arg.{Arg, fold-Arg}
use Rattle.sc_script.specs.declared.trees.Arg.TheOpen.{Arg-F}
use Rattle.sc_script.specs.declared.trees.Form.{Form}
use Rattle.sc_script.specs.declared.trees.Form.TheVariants as forms
use Rattle.std.specs.Prelude.{map}
use Rattle.std.specs.Vec.Iter.{into_iter_items}
use Rattle.std.specs.declared.alloc.Global.{Global}
use Rattle.std.specs.declared.vec.IntoIter.{IntoIter}

-- what a token stands for
abbrev pub token_data_of : Token → TokenData
token_data_of tokens.Open = opening
token_data_of tokens.Close = closing
token_data_of tokens.Equals = equals
token_data_of (tokens.Int n) = int_token n
token_data_of (tokens.Text t) = text_token t
token_data_of (tokens.Word w) = word_token w
token_data_of (tokens.Sign s) = sign_token s

-- what a head stands for
abbrev pub head_data_of : Head → HeadData
head_data_of (heads.Word w) = word_head w
head_data_of (heads.Sign s) = sign_head s

-- a list of arguments as arguments
abbrev pub args_of : List ArgData → ArgsData
args_of [] = no_args
args_of (a ∷ as_) = more_args a (args_of as_)

-- one layer of an argument
abbrev pub arg_step : Arg-F ArgData → ArgData
arg_step (Arg-F.Int n) = int_arg n
arg_step (Arg-F.Text t) = text_arg t
arg_step (Arg-F.Word w) = word_arg w
arg_step (Arg-F.List h v) = list_arg (head_data_of h) (args_of v.items)

-- what an argument stands for
abbrev pub arg_data_of : Arg → ArgData
arg_data_of = fold-Arg ArgData arg_step

-- the arguments that are still to be taken
abbrev pub args_left : IntoIter Arg Global → ArgsData
args_left args = args_of (map arg_data_of (into_iter_items args))

-- what the form of a line stands for
abbrev pub form_data_of : Form → LineData
form_data_of (forms.Definition name operation args) =
    definition_line name operation (args_of (map arg_data_of args.items))
form_data_of (forms.Action action args) = action_line action (args_of (map arg_data_of args.items))
