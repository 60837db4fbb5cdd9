-- The types of rows: of each node from those of the nodes that it reads, and of what an action puts
-- together. None says that the node or the action is ill typed.
use Rattle.std.specs.Prelude.{List, ◌∷◌, Option, Some, None, slice_get, if◌then◌else◌}
use Rattle.std.specs.Option.{option_map, option_and_then}
use Rattle.sc_value.specs.Datum.{Datum, number, text}
use Rattle.sc_value.specs.Types.{TypeData, int_type, bool_type, text_type, pair_type, list_type, same_type}
use Rattle.sc_expr.specs.ExprData.{ExprData}
use Rattle.sc_expr.specs.Schemes.{one_type, two_types, type_of_expr}
use Rattle.sc_lineage.specs.declared.nodes.Elementwise.{Elementwise}
use Rattle.sc_lineage.specs.declared.nodes.Elementwise.TheVariants as by
use Rattle.sc_lineage.specs.NodeData.{NodeData, ShufflingData, reduce_by_key, group_by_key, sort_by_key, repartition, text_node, parallelize_node, each_node, union_node, coalesce_node, cache_node, shuffle_node, meet_node}
use Rattle.sc_lineage.specs.declared.nodes.Meeting.{Meeting}
use Rattle.sc_lineage.specs.declared.nodes.Meeting.TheVariants as meetings
use Rattle.sc_lineage.specs.ScriptData.{ActionData, collect_action, count_action, reduce_action, save_action}

-- the type of literals, all of which are numbers or texts as the first of them is
abbrev pub literals_type : List Datum → Option TypeData
literals_type (number n ∷ ds) = Some int_type
literals_type (text t ∷ ds) = Some text_type
literals_type ds = None

-- a type, where another one is the same
abbrev pub where_same : TypeData → TypeData → Option TypeData
where_same s t = if same_type s t then Some s else None

-- the items of a list type
abbrev pub item_type : TypeData → Option TypeData
item_type (list_type t) = Some t
item_type t = None

-- what an expression over the value of a pair gives, beside the pair's key
abbrev pub over_value : (TypeData → Option TypeData) → TypeData → Option TypeData
over_value f (pair_type k v) = option_map (pair_type k) (f v)
over_value f t = None

-- the type of an expression over rows of a type
abbrev pub type_over : ExprData → TypeData → Option TypeData
type_over e t = type_of_expr (one_type t) e

-- the items of the lists that an expression gives over rows of a type
abbrev pub items_over : ExprData → TypeData → Option TypeData
items_over e t = option_and_then item_type (type_over e t)

-- the type of the rows that an operation gives of rows of a type
abbrev pub each_type : Elementwise → ExprData → TypeData → Option TypeData
each_type by.Map e t = type_over e t
each_type by.Filter e t =
    option_and_then (λ s. if same_type s bool_type then Some t else None) (type_over e t)
each_type by.FlatMap e t = items_over e t
each_type by.MapValues e t = over_value (type_over e) t
each_type by.FlatMapValues e t = over_value (items_over e) t

-- an expression over two values of a type gives a value of it
abbrev pub folds_type : ExprData → TypeData → Option TypeData
folds_type e t = option_and_then (where_same t) (type_of_expr (two_types t t) e)

-- the type of a key: a number or a text
abbrev pub key_type : TypeData → Option TypeData
key_type int_type = Some int_type
key_type text_type = Some text_type
key_type t = None

-- pairs of a key with what a function gives of the type of the values
abbrev pub by_key : (TypeData → Option TypeData) → TypeData → Option TypeData
by_key f (pair_type k v) = option_and_then (λ key. option_map (pair_type key) (f v)) (key_type k)
by_key f t = None

-- the type of what a shuffle by key leaves under a key, of values of a type
abbrev pub kept_type : ShufflingData → TypeData → Option TypeData
kept_type (reduce_by_key e) v = folds_type e v
kept_type group_by_key v = Some (list_type v)
kept_type sort_by_key v = Some v
kept_type repartition v = Some v

-- the type of the rows that a shuffle gives of rows of a type
abbrev pub shuffled_type : ShufflingData → TypeData → Option TypeData
shuffled_type (reduce_by_key e) t = by_key (kept_type (reduce_by_key e)) t
shuffled_type group_by_key t = by_key (kept_type group_by_key) t
shuffled_type sort_by_key t = by_key (kept_type sort_by_key) t
shuffled_type repartition t = Some t

-- the type of what stands beside a key where rows of two parents meet
abbrev pub beside_key : Meeting → TypeData → TypeData → TypeData
beside_key meetings.Cogroup v w = pair_type (list_type v) (list_type w)
beside_key meetings.Join v w = pair_type v w

-- the type of the rows where those of two types meet, which are pairs with the same type of key
abbrev pub met_type : Meeting → TypeData → TypeData → Option TypeData
met_type kind (pair_type j v) (pair_type k w) =
    option_map (λ key. pair_type key (beside_key kind v w))
    (option_and_then key_type (where_same j k))
met_type kind s t = None

-- the type of two parents together, where both have one
abbrev pub of_both : (TypeData → TypeData → Option TypeData)
    → Option TypeData → Option TypeData → Option TypeData
of_both f (Some s) (Some t) = f s t
of_both f s t = None

-- the type of the rows of a node, from those of the nodes before it
abbrev pub row_type : List TypeData → NodeData → Option TypeData
row_type before (text_node name n) = Some text_type
row_type before (parallelize_node rows n) = literals_type rows
row_type before (each_node kind parent e) =
    option_and_then (each_type kind e) (slice_get before parent)
row_type before (union_node left right) =
    of_both where_same (slice_get before left) (slice_get before right)
row_type before (coalesce_node parent n) = slice_get before parent
row_type before (cache_node parent) = slice_get before parent
row_type before (shuffle_node kind parent n) =
    option_and_then (shuffled_type kind) (slice_get before parent)
row_type before (meet_node kind left right n) =
    of_both (met_type kind) (slice_get before left) (slice_get before right)

-- the type of the rows that an action puts together, where it may
abbrev pub action_type : List TypeData → ActionData → Option TypeData
action_type types (collect_action node) = slice_get types node
action_type types (count_action node) = slice_get types node
action_type types (reduce_action node e) = option_and_then (folds_type e) (slice_get types node)
action_type types (save_action node dir) = slice_get types node
