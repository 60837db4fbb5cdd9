-- A cut that was made of its parts.
use Rattle.std.proofs.Common.{◌≡◌, ◌∙◌, ℕ, ◌+◌, ◌<◌, true, List, [], ◌∷◌, ◌++◌, length, All, refl, ap, sym, subst}
use Rattle.std.specs.List.{AllZip}
use Rattle.sc_base.specs.Lists.{at_or}
use Rattle.sc_ids.specs.Graphs.{StageData}
use Rattle.sc_ids.specs.declared.blocks.Target.TheVariants as targets
use Rattle.sc_lineage.specs.ByNodes.{by_nodes}
use Rattle.sc_lineage.specs.Meaning.{known_of, part_count_by}
use Rattle.sc_lineage.specs.ScriptData.{ScriptData, WorkData, IsSoundScript}
use Rattle.sc_stagecut.specs.Carrying.{AreRightBounds, CarriedData, HasBounds, IsCarriedFor}
use Rattle.sc_stagecut.specs.Counting.{IsCountedStage, counted_step}
use Rattle.sc_stagecut.specs.Cuts.{AreNumbers, IsCut, IsStage}
use Rattle.sc_stagecut.specs.Numbering.{in_side_order, is_shuffle}
use Rattle.sc_stagecut.specs.Reaching.{IsReached}
use Rattle.sc_stagecut.specs.declared.carried.Numbered.{Numbered}
use Rattle.sc_stagecut.proofs.CountLemmas.{counts_right}
use Rattle.sc_stagecut.proofs.StageLemmas.{map_stages-meant, numbers_are, numbers_are_shuffles, recounted}

-- the numbers of a script that is that of a work are those of its shuffles
pub shuffles_of_numbers : (work : WorkData) (script : ScriptData) (carried : CarriedData)
    (node next : ℕ) (numbers all : List Numbered) → script ≡ work.script → IsSoundScript work.script
    → IsCarriedFor work.script.nodes carried → AreNumbers script.nodes carried node numbers next
    → all ≡ numbers → All (λ n. is_shuffle script.nodes n.shuffle ≡ true) all
shuffles_of_numbers work script carried node next numbers all same sound known are is =
    let P : List Numbered → Type 0 = λ ns. All (λ n. is_shuffle script.nodes n.shuffle ≡ true) ns in
    let Q : ScriptData → Type 0 = λ s. IsCarriedFor s.nodes carried in
    let S : ScriptData → Type 0 = λ s. IsSoundScript s in
    subst P (sym is)
    (numbers_are_shuffles script (subst S (sym same) sound) carried node numbers next are
    (subst Q (sym same) known))

module _ (work : WorkData) (carried : CarriedData) (node : ℕ) (sound : IsSoundScript work.script)
    (within : node < length work.script.nodes) (known : IsCarriedFor work.script.nodes carried)
    (has : HasBounds work.script.nodes carried node) (bounds : AreRightBounds work carried)
    (numbers : List Numbered) (next : ℕ)
    (maps graph : List StageData) (result : StageData) where
  -- what was made, over the nodes of a script
  pub record IsMade (script : ScriptData) : Type 0 where
    pub are_numbers : AreNumbers script.nodes carried node numbers next
    pub counts : List ℕ
    pub counted : counts ≡ by_nodes (counted_step carried.bounds) script.nodes
    pub are_maps : AllZip (IsCountedStage script.nodes counts (in_side_order (node + 1) numbers))
        numbers maps
    pub is_result : IsStage script.nodes (in_side_order (node + 1) numbers) next
        (targets.Result node) node (at_or counts node 0) result

  made : graph ≡ maps ++ result ∷ [] → IsMade work.script → IsCut work carried node graph
  made all parts =
      let nodes = work.script.nodes in
      let ordered = in_side_order (node + 1) numbers in
      let right : (k : ℕ) → IsReached nodes node k
      → at_or parts.counts k 0 ≡ part_count_by (known_of work) work k =
      λ k reach. ap (λ (cs : List ℕ). at_or cs k 0) parts.counted
      ∙ counts_right work carried node sound within has bounds k reach in
      let are = numbers_are work.script sound carried node numbers next parts.are_numbers known in
      record {
        numbers = numbers;
        next = next;
        are_numbers = parts.are_numbers;
        maps = maps;
        result = result;
        all = all;
        are_maps =
            map_stages-meant work sound node parts.counts ordered numbers maps right
            (λ i d at. ((are i d at).shuffle, (are i d at).reached)) parts.are_maps;
        is_result =
            recounted nodes ordered next (targets.Result node) node result
            (at_or parts.counts node 0) (part_count_by (known_of work) work node)
            (right node ([], refl)) parts.is_result;
      }

  pub made_of_script : (script : ScriptData) → script ≡ work.script
      → graph ≡ maps ++ result ∷ [] → IsMade script → IsCut work carried node graph
  made_of_script script same all parts =
      let P : ScriptData → Type 0 = IsMade in made all (subst P same parts)
