-- Checked scripts, and a script with the inputs that it names, as plain data.
use Rattle.std.specs.Prelude.{ℕ, ◌+◌, ◌≤◌, ◌<◌, ◌≡◌, List, [], ◌∷◌, length, map, min}
use Rattle.std.specs.List.{All, flat_map}
use Rattle.std.specs.Str.{IsUtf8}
use Rattle.sc_base.specs.Lists.{at_or, firsts}
use Rattle.sc_base.specs.Outside.{Files}
use Rattle.sc_base.specs.Trees.{Path}
use Rattle.sc_expr.specs.ExprData.{ExprData}
use Rattle.sc_ids.specs.LimitRanges.{AreLimits}
use Rattle.sc_ids.specs.declared.limits.Limits.{Limits}
use Rattle.sc_plan.specs.PlanLines.{AreBelow}
use Rattle.sc_plan.specs.declared.lines.PlanLine.{PlanLine}
use Rattle.sc_lineage.specs.ByNodes.{by_nodes}
use Rattle.sc_lineage.specs.NodeData.{NodeData, text_node, parallelize_node, each_node, union_node, coalesce_node, cache_node, shuffle_node, meet_node}
use Rattle.sc_lineage.specs.Dependencies.{parents_of}

-- what is done with a node
pub data ActionData : Type 0 where
  collect_action : ℕ → ActionData
  count_action : ℕ → ActionData
  reduce_action : ℕ → ExprData → ActionData
  save_action : ℕ → Path → ActionData

-- nodes in the order of their definition, and what is done with them
pub record ScriptData : Type 0 where
  pub nodes : List NodeData
  pub actions : List ActionData

-- A script, what its inputs hold, by their names, and under what it is run: which faults are
-- planned, and the limits. What the script means doesn't depend on these.
pub record WorkData : Type 0 where
  pub script : ScriptData
  pub inputs : Files
  pub plan : List PlanLine
  pub limits : Limits

abbrev pub work_data : ScriptData → Files → List PlanLine → Limits → WorkData
work_data script inputs plan limits =
    record { script = script; inputs = inputs; plan = plan; limits = limits }

-- the most partitions that a definition may have
abbrev pub partition_limit : ScriptData → ℕ
partition_limit script = 1024

-- the number of partitions of a node as the grammar counts it, from those of the nodes before it
abbrev pub count_step : List ℕ → NodeData → ℕ
count_step before (text_node name n) = n
count_step before (parallelize_node rows n) = n
count_step before (each_node kind parent e) = at_or before parent 0
count_step before (union_node left right) = at_or before left 0 + at_or before right 0
count_step before (coalesce_node parent n) = min n (at_or before parent 0)
count_step before (cache_node parent) = at_or before parent 0
count_step before (shuffle_node kind parent n) = n
count_step before (meet_node kind left right n) = n

-- the numbers of partitions of nodes, as the grammar counts them
abbrev pub declared_counts : List NodeData → List ℕ
declared_counts = by_nodes count_step

-- the number of partitions of a node, as the grammar counts it
abbrev pub declared_count : ScriptData → ℕ → ℕ
declared_count script node = at_or (declared_counts script.nodes) node 0

-- a node of this number reads only nodes before it
abbrev pub ReadsBefore : ℕ → NodeData → Type 0
ReadsBefore number node = All (λ parent. parent < number) (parents_of node)

-- each node, numbered from `first` on, reads only nodes before it
abbrev pub AreWellPlaced : ℕ → List NodeData → Type 0
AreWellPlaced first [] = Unit {0}
AreWellPlaced first (node ∷ nodes) = ReadsBefore first node × AreWellPlaced (1 + first) nodes

-- a number of partitions is in its range
pub record IsCount (limit count : ℕ) : Type 0 where
  pub some : 1 ≤ count
  pub within : count ≤ limit

-- the node of an action
abbrev pub node_of_action : ActionData → ℕ
node_of_action (collect_action node) = node
node_of_action (count_action node) = node
node_of_action (reduce_action node e) = node
node_of_action (save_action node dir) = node

-- what every checked script keeps
pub record IsSoundScript (script : ScriptData) : Type 0 where
  -- nodes read only nodes before them
  pub nodes : AreWellPlaced 0 script.nodes
  -- each node has as many partitions as a definition may have
  pub counts : All (IsCount (partition_limit script)) (declared_counts script.nodes)
  -- actions name nodes that are there
  pub actions : All (λ action. node_of_action action < length script.nodes) script.actions

-- the input that a node names
abbrev pub names_of_node : NodeData → List (List ℕ)
names_of_node (text_node name n) = name ∷ []
names_of_node (parallelize_node rows n) = []
names_of_node (each_node kind parent e) = []
names_of_node (union_node left right) = []
names_of_node (coalesce_node parent n) = []
names_of_node (cache_node parent) = []
names_of_node (shuffle_node kind parent n) = []
names_of_node (meet_node kind left right n) = []

-- the inputs that a script names, each once and in order of first naming
abbrev pub input_names : ScriptData → List (List ℕ)
input_names script = firsts (flat_map names_of_node script.nodes)

-- the name of an input
abbrev pub name_of_input : List ℕ × List ℕ → List ℕ
name_of_input input = input.0

-- each input's bytes are text
abbrev pub AreTexts : Files → Type 0
AreTexts [] = Unit {0}
AreTexts (input ∷ inputs) = IsUtf8 input.1 × AreTexts inputs

-- What every work keeps: its inputs are those that the script names, and they are text; its plan
-- names executors of the run alone, and its limits are in their ranges.
pub record IsSoundWork (work : WorkData) : Type 0 where
  pub script : IsSoundScript work.script
  pub names : map name_of_input work.inputs ≡ input_names work.script
  pub texts : AreTexts work.inputs
  pub plan : AreBelow work.limits.executors work.plan
  pub limits : AreLimits work.limits
