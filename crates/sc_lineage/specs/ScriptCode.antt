-- Codes of scripts and works, by which proofs tell two of them apart.
use Rattle.std.specs.Prelude.{◌≡◌, ℕ, zero, suc, List, ◌⊎◌}
use Rattle.std.specs.Coded.{Coded, code_by, coded_ℕ, coded_list, coded⊎, coded×}
use mathlib.Core.Logic.{inl, inr}
use mathlib.Core.Path.{refl}
use Rattle.sc_base.specs.Outside.{Files}
use Rattle.sc_value.specs.Datum.{Datum}
use Rattle.sc_value.specs.DatumCode.{datum_code}
use Rattle.sc_expr.specs.ExprData.{ExprData}
use Rattle.sc_expr.specs.ExprCode.{expr_code}
use Rattle.sc_lineage.specs.declared.nodes.Elementwise.{Elementwise}
use Rattle.sc_lineage.specs.contracts.nodes.Elementwise.{the_row as elementwise}
use Rattle.sc_lineage.specs.declared.nodes.Meeting.{Meeting}
use Rattle.sc_lineage.specs.contracts.nodes.Meeting.{the_row as meeting}
use Rattle.sc_lineage.specs.NodeData.{NodeData, ShufflingData, reduce_by_key, group_by_key, sort_by_key, repartition, text_node, parallelize_node, each_node, union_node, coalesce_node, cache_node, shuffle_node, meet_node}
use Rattle.sc_lineage.specs.ScriptData.{ActionData, collect_action, count_action, reduce_action, save_action, ScriptData, WorkData, work_data}
use Rattle.sc_ids.specs.declared.limits.Limits.{Limits}
use Rattle.sc_ids.specs.contracts.limits.Limits.{the_row as limits}
use Rattle.sc_plan.specs.declared.lines.PlanLine.{PlanLine}
use Rattle.sc_plan.specs.contracts.lines.PlanLine.{the_row as plan_line}

-- what a shuffle does: its expression, or its place among those that have none
abbrev pub shuffling_parts : ShufflingData → ExprData ⊎ ℕ
shuffling_parts (reduce_by_key e) = inl e
shuffling_parts group_by_key = inr 0
shuffling_parts sort_by_key = inr 1
shuffling_parts repartition = inr 2

abbrev pub shuffling_from : ExprData ⊎ ℕ → ShufflingData
shuffling_from (inl e) = reduce_by_key e
shuffling_from (inr zero) = group_by_key
shuffling_from (inr (suc zero)) = sort_by_key
shuffling_from (inr (suc (suc i))) = repartition

pub shuffling_from-parts : (kind : ShufflingData) → shuffling_from (shuffling_parts kind) ≡ kind
shuffling_from-parts (reduce_by_key e) = refl
shuffling_from-parts group_by_key = refl
shuffling_from-parts sort_by_key = refl
shuffling_from-parts repartition = refl

abbrev pub shuffling_code : Coded ShufflingData
shuffling_code =
    code_by (ExprData ⊎ ℕ) (coded⊎ expr_code coded_ℕ)
    shuffling_parts shuffling_from shuffling_from-parts

-- the arguments of a node: of a source, of an operation row by row, of one that only reads, or of a
-- shuffle of one parent or of two
abbrev pub NodeParts : Type 0
NodeParts =
    ((List ℕ × ℕ) ⊎ (List Datum × ℕ))
    ⊎ ((Elementwise × (ℕ × ExprData))
    ⊎ (((ℕ × ℕ) ⊎ ((ℕ × ℕ) ⊎ ℕ))
    ⊎ ((ShufflingData × (ℕ × ℕ)) ⊎ (Meeting × (ℕ × (ℕ × ℕ))))))

abbrev pub node_parts : NodeData → NodeParts
node_parts (text_node name n) = inl (inl (name, n))
node_parts (parallelize_node rows n) = inl (inr (rows, n))
node_parts (each_node kind parent e) = inr (inl (kind, (parent, e)))
node_parts (union_node left right) = inr (inr (inl (inl (left, right))))
node_parts (coalesce_node parent n) = inr (inr (inl (inr (inl (parent, n)))))
node_parts (cache_node parent) = inr (inr (inl (inr (inr parent))))
node_parts (shuffle_node kind parent n) = inr (inr (inr (inl (kind, (parent, n)))))
node_parts (meet_node kind left right n) = inr (inr (inr (inr (kind, (left, (right, n))))))

abbrev pub node_from : NodeParts → NodeData
node_from (inl (inl p)) = text_node p.0 p.1
node_from (inl (inr p)) = parallelize_node p.0 p.1
node_from (inr (inl p)) = each_node p.0 p.1.0 p.1.1
node_from (inr (inr (inl (inl p)))) = union_node p.0 p.1
node_from (inr (inr (inl (inr (inl p))))) = coalesce_node p.0 p.1
node_from (inr (inr (inl (inr (inr parent))))) = cache_node parent
node_from (inr (inr (inr (inl p)))) = shuffle_node p.0 p.1.0 p.1.1
node_from (inr (inr (inr (inr p)))) = meet_node p.0 p.1.0 p.1.1.0 p.1.1.1

pub node_from-node_parts : (node : NodeData) → node_from (node_parts node) ≡ node
node_from-node_parts (text_node name n) = refl
node_from-node_parts (parallelize_node rows n) = refl
node_from-node_parts (each_node kind parent e) = refl
node_from-node_parts (union_node left right) = refl
node_from-node_parts (coalesce_node parent n) = refl
node_from-node_parts (cache_node parent) = refl
node_from-node_parts (shuffle_node kind parent n) = refl
node_from-node_parts (meet_node kind left right n) = refl

abbrev pub node_code : Coded NodeData
node_code =
    code_by NodeParts
    (coded⊎
    (coded⊎ (coded× (coded_list coded_ℕ) coded_ℕ) (coded× (coded_list datum_code) coded_ℕ))
    (coded⊎ (coded× elementwise.coded (coded× coded_ℕ expr_code))
    (coded⊎ (coded⊎ (coded× coded_ℕ coded_ℕ) (coded⊎ (coded× coded_ℕ coded_ℕ) coded_ℕ))
    (coded⊎ (coded× shuffling_code (coded× coded_ℕ coded_ℕ))
    (coded× meeting.coded (coded× coded_ℕ (coded× coded_ℕ coded_ℕ)))))))
    node_parts node_from node_from-node_parts

-- the arguments of an action
abbrev pub ActionParts : Type 0
ActionParts = ℕ ⊎ (ℕ ⊎ ((ℕ × ExprData) ⊎ (ℕ × List ℕ)))

abbrev pub action_parts : ActionData → ActionParts
action_parts (collect_action node) = inl node
action_parts (count_action node) = inr (inl node)
action_parts (reduce_action node e) = inr (inr (inl (node, e)))
action_parts (save_action node dir) = inr (inr (inr (node, dir)))

abbrev pub action_from : ActionParts → ActionData
action_from (inl node) = collect_action node
action_from (inr (inl node)) = count_action node
action_from (inr (inr (inl p))) = reduce_action p.0 p.1
action_from (inr (inr (inr p))) = save_action p.0 p.1

pub action_from-action_parts : (action : ActionData) → action_from (action_parts action) ≡ action
action_from-action_parts (collect_action node) = refl
action_from-action_parts (count_action node) = refl
action_from-action_parts (reduce_action node e) = refl
action_from-action_parts (save_action node dir) = refl

abbrev pub action_code : Coded ActionData
action_code =
    code_by ActionParts
    (coded⊎ coded_ℕ
    (coded⊎ coded_ℕ
    (coded⊎ (coded× coded_ℕ expr_code) (coded× coded_ℕ (coded_list coded_ℕ)))))
    action_parts action_from action_from-action_parts

abbrev pub script_code : Coded ScriptData
script_code =
    code_by (List NodeData × List ActionData)
    (coded× (coded_list node_code) (coded_list action_code))
    (λ s. (s.nodes, s.actions)) (λ p. record { nodes = p.0; actions = p.1 }) (λ _. refl)

abbrev pub files_code : Coded Files
files_code = coded_list (coded× (coded_list coded_ℕ) (coded_list coded_ℕ))

abbrev pub work_code : Coded WorkData
work_code =
    code_by ((ScriptData × Files) × (List PlanLine × Limits))
    (coded× (coded× script_code files_code) (coded× (coded_list plan_line.coded) limits.coded))
    (λ w. ((w.script, w.inputs), (w.plan, w.limits)))
    (λ p. work_data p.0.0 p.0.1 p.1.0 p.1.1) (λ _. refl)
