-- What a line adds to the script before it, and which fault it has otherwise: nine tests, of which
-- the first that fails names the fault.
use Rattle.std.specs.Prelude.{ℕ, ◌+◌, ◌≡◌, ◌⊎◌, Bool, true, false, ◌==◌, ◌&&◌, not, nat_le, nat_lt, List, [], ◌∷◌, ◌++◌, length, Option, Some, None, is_some, Result, Ok, Err, if◌then◌else◌}
use Rattle.sc_value.specs.Types.{TypeData, type_size}
use Rattle.sc_lineage.specs.NodeData.{NodeData}
use Rattle.sc_lineage.specs.RowTypes.{row_type, action_type}
use Rattle.sc_lineage.specs.ScriptData.{ActionData, ScriptData, declared_count, partition_limit}
use Rattle.sc_script.specs.declared.faults.FaultKind.{FaultKind}
use Rattle.sc_script.specs.declared.faults.FaultKind.TheVariants.{Limit, Syntax, UnknownName, Twice, IllTyped}
use Rattle.sc_script.specs.declared.tables.Operation.{Operation}
use Rattle.sc_script.specs.declared.tables.Operation.TheVariants as by
use Rattle.sc_script.specs.declared.tables.ActionName.{ActionName}
use Rattle.sc_script.specs.declared.tables.ArgKind.{ArgKind}
use Rattle.sc_script.specs.declared.tables.ArgKind.TheVariants as kinds
use Rattle.sc_script.specs.Fitting.{all_heads_known, fits_kinds, kinds_behind}
use Rattle.sc_script.specs.Items.{action_from, count_in, node_arg_at, node_from, number_of}
use Rattle.sc_script.specs.Limits.{action_limit, node_limit, type_limit}
use Rattle.sc_script.specs.Tables.{found_in, operations, actions, operation_kinds, action_kinds}
use Rattle.sc_script.specs.Tokens.{TokenData, is_blank, HasTokens, IsWithinLimits}
use Rattle.sc_script.specs.Trees.{ArgData, ArgsData, no_args, more_args, LineData, definition_line, action_line, tokens_of_line}

-- a line that is blank, or whose first character after blanks is `#`
abbrev pub is_skipped : List ℕ → Bool
is_skipped [] = true
is_skipped (c ∷ cs) = if is_blank c then is_skipped cs else c == 35

-- what the lines so far have defined: the nodes' names, the types of their rows, and the script
pub record DefinedData : Type 0 where
  pub names : List (List ℕ)
  pub types : List TypeData
  pub script : ScriptData

-- nothing yet
abbrev pub nothing_defined : DefinedData
nothing_defined =
    record { names = []; types = []; script = record { nodes = []; actions = [] } }

-- one more node, under a name, with rows of a type
abbrev pub with_node : DefinedData → List ℕ → NodeData → TypeData → DefinedData
with_node d name node t = record {
  names = d.names ++ name ∷ [];
  types = d.types ++ t ∷ [];
  script = record { nodes = d.script.nodes ++ node ∷ []; actions = d.script.actions };
}

-- one more action
abbrev pub with_action : DefinedData → ActionData → DefinedData
with_action d action = record {
  names = d.names;
  types = d.types;
  script = record { nodes = d.script.nodes; actions = d.script.actions ++ action ∷ [] };
}

-- an argument is no number of partitions, or one in its range
abbrev pub count_fits : ℕ → ArgKind → ArgData → Bool
count_fits limit kinds.Count a = is_some (count_in limit a)
count_fits limit k a = true

-- each number of partitions among arguments is in its range
abbrev pub counts_fit : ℕ → List ArgKind → ArgsData → Bool
counts_fit limit ks no_args = true
counts_fit limit [] (more_args a args) = true
counts_fit limit (k ∷ ks) (more_args a args) =
    count_fits limit k a && counts_fit limit (kinds_behind k ks a) args

-- the partitions that two nodes have together are within the limit, where both are there
abbrev pub sum_fits : ScriptData → Option ℕ → Option ℕ → Bool
sum_fits script (Some left) (Some right) =
    nat_le (declared_count script left + declared_count script right) (partition_limit script)
sum_fits script left right = true

-- a union has no more partitions than a definition may have
abbrev pub union_fits : DefinedData → Operation → ArgsData → Bool
union_fits d by.Union args =
    sum_fits d.script (node_arg_at d.names args 0) (node_arg_at d.names args 1)
union_fits d o args = true

-- a definition keeps the limits of counts, and there is room for it
abbrev pub definition_fits : DefinedData → Operation → ArgsData → Bool
definition_fits d o args =
    counts_fit (partition_limit d.script) (operation_kinds o) args
    && (union_fits d o args && nat_lt (length d.script.nodes) node_limit)

-- a node whose rows have a type that isn't too large
abbrev pub typed_node :
    DefinedData → List ℕ → NodeData → Option TypeData → Result DefinedData FaultKind
typed_node d name node None = Err IllTyped
typed_node d name node (Some t) =
    if nat_le (type_size t) type_limit then Ok (with_node d name node t) else Err Limit

-- a node that names only what is there
abbrev pub known_node : DefinedData → List ℕ → Option NodeData → Result DefinedData FaultKind
known_node d name None = Err UnknownName
known_node d name (Some node) = typed_node d name node (row_type d.types node)

-- a definition of a known operation, test by test: heads, shape, counts, freshness, names, types
abbrev pub checked_definition :
    DefinedData → List ℕ → Operation → ArgsData → Result DefinedData FaultKind
checked_definition d name o args =
    if not (all_heads_known args) then Err UnknownName
    else (if not (fits_kinds (operation_kinds o) args) then Err Syntax
    else (if not (definition_fits d o args) then Err Limit
    else (if is_some (number_of d.names name) then Err Twice
    else known_node d name (node_from (partition_limit d.script) d.names o args))))

-- an action whose node has rows of such a type
abbrev pub typed_action : DefinedData → ActionData → Option TypeData → Result DefinedData FaultKind
typed_action d action None = Err IllTyped
typed_action d action (Some t) = Ok (with_action d action)

-- an action that names only what is there
abbrev pub known_action : DefinedData → Option ActionData → Result DefinedData FaultKind
known_action d None = Err UnknownName
known_action d (Some action) = typed_action d action (action_type d.types action)

-- a known action, test by test: heads, shape, counts, names, types
abbrev pub checked_action : DefinedData → ActionName → ArgsData → Result DefinedData FaultKind
checked_action d a args =
    if not (all_heads_known args) then Err UnknownName
    else (if not (fits_kinds (action_kinds a) args) then Err Syntax
    else (if not (nat_lt (length d.script.actions) action_limit) then Err Limit
    else known_action d (action_from d.names a args)))

-- a definition or an action, where its word is in the table
abbrev pub named_definition :
    DefinedData → List ℕ → Option Operation → ArgsData → Result DefinedData FaultKind
named_definition d name None args = Err UnknownName
named_definition d name (Some o) args = checked_definition d name o args

abbrev pub named_action : DefinedData → Option ActionName → ArgsData → Result DefinedData FaultKind
named_action d None args = Err UnknownName
named_action d (Some a) args = checked_action d a args

-- the tests from the third on: what a line of a form adds, or its fault
abbrev pub added_by : DefinedData → LineData → Result DefinedData FaultKind
added_by d (definition_line name word args) =
    named_definition d name (found_in operations word) args
added_by d (action_line word args) = named_action d (found_in actions word) args

-- the line has these tokens from the left, and they keep the limits
pub record KeepsLimits (line : List ℕ) : Type 0 where
  pub tokens : List TokenData
  pub rest : List ℕ
  pub has : HasTokens line tokens rest
  pub within : IsWithinLimits line tokens

-- the whole line is of this form
abbrev pub IsForm : List ℕ → LineData → Type 0
IsForm line form = HasTokens line (tokens_of_line form) []

-- the first two tests: a line that keeps the limits and has a form, or its fault
abbrev pub HasForm : List ℕ → Result LineData FaultKind → Type 0
HasForm line (Ok form) = KeepsLimits line × IsForm line form
HasForm line (Err kind) =
    ((kind ≡ Limit) × (KeepsLimits line → ⊥))
    ⊎ ((kind ≡ Syntax) × KeepsLimits line × ((form : LineData) → IsForm line form → ⊥))

-- what a line adds that passed the first two tests
abbrev pub then_added : DefinedData → Result LineData FaultKind → Result DefinedData FaultKind
then_added d (Ok form) = added_by d form
then_added d (Err kind) = Err kind

-- what a line makes of what was defined before it, or the fault of the first test that it fails
pub record ReadsLine (d : DefinedData) (line : List ℕ) (reading : Result DefinedData FaultKind)
    : Type 0 where
  pub form : Result LineData FaultKind
  pub has_form : HasForm line form
  pub is : reading ≡ then_added d form

-- what a line makes of what was defined before it, where it may be skipped
abbrev pub ReadsNext : DefinedData → List ℕ → Result DefinedData FaultKind → Type 0
ReadsNext d line reading =
    ((is_skipped line ≡ true) × (reading ≡ Ok d))
    ⊎ ((is_skipped line ≡ false) × ReadsLine d line reading)
