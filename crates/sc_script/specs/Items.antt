-- What the arguments of a line mean: one line for each operation and action, by what stands at each
-- place.
use Rattle.std.specs.Prelude.{ℕ, zero, suc, pos, true, false, List, [], ◌∷◌, ◌&&◌, nat_le, codes, Option, Some, None, if◌then◌else◌}
use Rattle.std.specs.Option.{option_map, option_and_then}
use Rattle.std.specs.Str.{bytes_eq}
use Rattle.sc_value.specs.Datum.{Datum, number, text}
use Rattle.sc_expr.specs.declared.exprs.Head.{Head}
use Rattle.sc_expr.specs.declared.exprs.Variable.TheVariants.{X, A, B}
use Rattle.sc_expr.specs.ExprData.{ExprData, int_expr, bool_expr, text_expr, variable_expr, call_expr, ExprsData, no_exprs, more_exprs}
use Rattle.sc_lineage.specs.NodeData.{ShufflingData, reduce_by_key, group_by_key, sort_by_key, repartition, NodeData, text_node, parallelize_node, each_node, union_node, coalesce_node, cache_node, shuffle_node, meet_node}
use Rattle.sc_lineage.specs.ScriptData.{ActionData, collect_action, count_action, reduce_action, save_action}
use Rattle.sc_script.specs.declared.arguments.Place.{Place}
use Rattle.sc_script.specs.declared.arguments.Place.TheVariants.{Row, Two}
use Rattle.sc_script.specs.declared.tables.Operation.{Operation}
use Rattle.sc_script.specs.declared.tables.Operation.TheVariants as by
use Rattle.sc_script.specs.declared.tables.ActionName.{ActionName}
use Rattle.sc_script.specs.declared.tables.ActionName.TheVariants as to
use Rattle.sc_script.specs.Trees.{ArgData, int_arg, text_arg, word_arg, list_arg, ArgsData, no_args, more_args}
use Rattle.sc_script.specs.Tables.{Table, found_in, named_head}

-- the first argument
abbrev pub first_arg : ArgsData → Option ArgData
first_arg no_args = None
first_arg (more_args a args) = Some a

-- the arguments behind the first
abbrev pub args_behind : ArgsData → ArgsData
args_behind no_args = no_args
args_behind (more_args a args) = args

-- the argument at a place
abbrev pub arg_at : ArgsData → ℕ → Option ArgData
arg_at args zero = first_arg args
arg_at args (suc i) = arg_at (args_behind args) i

-- the words of an expression over a row
abbrev pub row_words : Table ExprData
row_words =
    (codes "true", bool_expr true)
    ∷ (codes "false", bool_expr false)
    ∷ (codes "x", variable_expr X)
    ∷ []

-- the words of an expression over two values
abbrev pub two_words : Table ExprData
two_words =
    (codes "true", bool_expr true)
    ∷ (codes "false", bool_expr false)
    ∷ (codes "a", variable_expr A)
    ∷ (codes "b", variable_expr B)
    ∷ []

-- what a word of an expression stands for
abbrev pub word_from : Place → List ℕ → Option ExprData
word_from Row w = found_in row_words w
word_from Two w = found_in two_words w

-- a head with its arguments, where both are there
abbrev pub call_from : Option Head → Option ExprsData → Option ExprData
call_from (Some h) (Some es) = Some (call_expr h es)
call_from h es = None

-- an expression in front of others, where all are there
abbrev pub with_expr : Option ExprData → Option ExprsData → Option ExprsData
with_expr (Some e) (Some es) = Some (more_exprs e es)
with_expr e es = None

abbrev mutual
  -- the expression that an argument writes
  pub expr_from : Place → ArgData → Option ExprData
  expr_from place (int_arg n) = Some (int_expr n)
  expr_from place (text_arg t) = Some (text_expr t)
  expr_from place (word_arg w) = word_from place w
  expr_from place (list_arg h args) = call_from (named_head h) (exprs_from place args)

  -- the expressions that arguments write
  pub exprs_from : Place → ArgsData → Option ExprsData
  exprs_from place no_args = Some no_exprs
  exprs_from place (more_args a args) = with_expr (expr_from place a) (exprs_from place args)

-- the literal that an argument is
abbrev pub literal_in : ArgData → Option Datum
literal_in (int_arg n) = Some (number n)
literal_in (text_arg t) = Some (text t)
literal_in a = None

-- a literal in front of others, where all are there
abbrev pub with_literal : Option Datum → Option (List Datum) → Option (List Datum)
with_literal (Some d) (Some ds) = Some (d ∷ ds)
with_literal d ds = None

-- the literals that arguments are
abbrev pub literals_in : ArgsData → Option (List Datum)
literals_in no_args = Some []
literals_in (more_args a args) = with_literal (literal_in a) (literals_in args)

-- the text that an argument is
abbrev pub text_in : ArgData → Option (List ℕ)
text_in (text_arg t) = Some t
text_in a = None

-- the number of partitions that an argument is, where it is in its range
abbrev pub count_in : ℕ → ArgData → Option ℕ
count_in limit (int_arg (pos n)) = if nat_le 1 n && nat_le n limit then Some n else None
count_in limit a = None

-- the number of the first node of a name, where the first name has the number i
abbrev pub number_from : ℕ → List (List ℕ) → List ℕ → Option ℕ
number_from i [] w = None
number_from i (name ∷ names) w = if bytes_eq name w then Some i else number_from (suc i) names w

-- the number of the first node of a name
abbrev pub number_of : List (List ℕ) → List ℕ → Option ℕ
number_of names w = number_from 0 names w

-- the node that an argument names
abbrev pub node_in : List (List ℕ) → ArgData → Option ℕ
node_in names (word_arg w) = number_of names w
node_in names a = None

-- what the argument at a place is
abbrev pub text_arg_at : ArgsData → ℕ → Option (List ℕ)
text_arg_at args i = option_and_then text_in (arg_at args i)

-- likewise a number of partitions
abbrev pub count_arg_at : ℕ → ArgsData → ℕ → Option ℕ
count_arg_at limit args i = option_and_then (count_in limit) (arg_at args i)

-- likewise a node
abbrev pub node_arg_at : List (List ℕ) → ArgsData → ℕ → Option ℕ
node_arg_at names args i = option_and_then (node_in names) (arg_at args i)

-- likewise an expression
abbrev pub expr_arg_at : Place → ArgsData → ℕ → Option ExprData
expr_arg_at place args i = option_and_then (expr_from place) (arg_at args i)

-- a function of two things that are both there
abbrev pub of_two : {X Y Z : Type 0} → (X → Y → Z) → Option X → Option Y → Option Z
of_two f (Some x) (Some y) = Some (f x y)
of_two f x y = None

-- likewise of three
abbrev pub of_three : {W X Y Z : Type 0}
    → (W → X → Y → Z) → Option W → Option X → Option Y → Option Z
of_three f (Some w) (Some x) (Some y) = Some (f w x y)
of_three f w x y = None

-- a shuffle into so many partitions that puts the values under each key together
abbrev pub reduced_node : ℕ → ℕ → ExprData → NodeData
reduced_node parent n e = shuffle_node (reduce_by_key e) parent n

-- the shuffle that arguments make where it takes no expression
abbrev pub shuffle_from : ℕ → List (List ℕ) → ShufflingData → ArgsData → Option NodeData
shuffle_from limit names kind args =
    of_two (shuffle_node kind) (node_arg_at names args 0) (count_arg_at limit args 1)

-- the node that an operation makes of arguments
abbrev pub node_from : ℕ → List (List ℕ) → Operation → ArgsData → Option NodeData
node_from limit names by.Text args =
    of_two text_node (text_arg_at args 0) (count_arg_at limit args 1)
node_from limit names by.Parallelize args =
    of_two parallelize_node (literals_in (args_behind args)) (count_arg_at limit args 0)
node_from limit names (by.Each kind) args =
    of_two (each_node kind) (node_arg_at names args 0) (expr_arg_at Row args 1)
node_from limit names by.Union args =
    of_two union_node (node_arg_at names args 0) (node_arg_at names args 1)
node_from limit names by.Coalesce args =
    of_two coalesce_node (node_arg_at names args 0) (count_arg_at limit args 1)
node_from limit names by.Repartition args = shuffle_from limit names repartition args
node_from limit names by.Cache args = option_map cache_node (node_arg_at names args 0)
node_from limit names by.ReduceByKey args =
    of_three reduced_node (node_arg_at names args 0) (count_arg_at limit args 1)
    (expr_arg_at Two args 2)
node_from limit names by.GroupByKey args = shuffle_from limit names group_by_key args
node_from limit names by.SortByKey args = shuffle_from limit names sort_by_key args
node_from limit names (by.Meet kind) args =
    of_three (meet_node kind) (node_arg_at names args 0) (node_arg_at names args 1)
    (count_arg_at limit args 2)

-- the action that is done with arguments
abbrev pub action_from : List (List ℕ) → ActionName → ArgsData → Option ActionData
action_from names to.Collect args = option_map collect_action (node_arg_at names args 0)
action_from names to.Count args = option_map count_action (node_arg_at names args 0)
action_from names to.Reduce args =
    of_two reduce_action (node_arg_at names args 0) (expr_arg_at Two args 1)
action_from names to.Save args =
    of_two save_action (node_arg_at names args 0) (text_arg_at args 1)
