use Rattle.std.proofs.Common.{◌≡◌, ◌∙◌, ℕ, ◌+◌, List, ap, rules, subst}
use Rattle.sc_base.specs.Lists.{at_or}
use Rattle.sc_ids.specs.declared.blocks.Target.TheVariants as targets
use Rattle.std.specs.List.{AllZip}
use Rattle.sc_stagecut.specs.Counting.{IsCountedStage}
use Rattle.sc_stagecut.specs.Cuts.{IsStage}
use Rattle.sc_stagecut.specs.Numbering.{in_side_order}
use Rattle.sc_stagecut.specs.declared.carried.Numbered.{Numbered}
use Rattle.sc_stagecut.proofs.CutLemmas.{made_of_script, shuffles_of_numbers}
use Rattle.sc_stagecut.proofs.cuts.cut.Goals as goal

pub map_stages-requires-clause-shuffles : goal.map_stages-requires-clause-shuffles
map_stages-requires-clause-shuffles c =
    let numbered = c.in_ok-numbered.numbered in
    shuffles_of_numbers c.args.work.now c.script-script.result.now c.args.carried.now c.args.node
    numbered.next numbered.stages.items c.as_slice-numbers.result.now c.script-script.ensures
    c.is_sound.ensures.script c.requires.carried c.in_ok-numbered.ensures
    c.as_slice-numbers.ensures.value

pub returns : goal.returns
returns c =
    let script = c.script-script.result.now in
    let numbered = c.in_ok-numbered.numbered in
    let numbers = numbered.stages.items in
    let all = c.as_slice-numbers.ensures.value in
    let counts = c.as_slice-counts.result.now in
    let maps = c.in_ok-graph.graph in
    let result = c.in_ok-stage.field-0 in
    let given = c.as_slice-numbers.result.now in
    let read = c.as_slice-read.result.now in
    let sides : read ≡ in_side_order (c.args.node + 1) numbers =
    c.as_slice-read.ensures.value ∙ c.in_ok-ordered.ensures
    ∙ ap (in_side_order (c.args.node + 1)) all in
    let are_maps : AllZip (IsCountedStage script.nodes counts read) given maps =
    c.in_ok-graph.ensures in
    let is_result : IsStage script.nodes read c.in_ok-id.id (targets.Result c.args.node)
    c.args.node (at_or counts c.args.node 0) result = c.in_ok-stage.ensures in
    let Maps : List Numbered → Type 0 = λ ns.
    AllZip (IsCountedStage script.nodes counts read) ns maps in
    let Sides : List Numbered → Type 0 = λ ns.
    AllZip (IsCountedStage script.nodes counts ns) numbers maps in
    let Result : List Numbered → Type 0 = λ ns.
    IsStage script.nodes ns c.in_ok-id.id (targets.Result c.args.node) c.args.node
    (at_or counts c.args.node 0) result in
    let At : ℕ → Type 0 = λ id.
    IsStage script.nodes (in_side_order (c.args.node + 1) numbers) id
    (targets.Result c.args.node) c.args.node (at_or counts c.args.node 0) result in
    made_of_script c.args.work.now c.args.carried.now c.args.node c.is_sound.ensures.script
    c.requires.node c.requires.carried c.requires.bounds c.requires.right numbers numbered.next maps
    c.push.new.self result script c.script-script.ensures c.in_ok-push.ensures
    (record {
      are_numbers = c.in_ok-numbered.ensures;
      counts = counts;
      counted = c.as_slice-counts.ensures.value ∙ c.in_ok-counted.ensures;
      are_maps = subst Sides sides (subst Maps all are_maps);
      is_result = subst At (search rules) (subst Result sides is_result);
    })
