use Rattle.std.proofs.Common.{◌≡◌, ◌∙◌, ℕ, ◌<◌, None, Some, Contains, refl, sym, arith}
use Rattle.sc_lineage.specs.Dependencies.{parents_of}
use Rattle.sc_lineage.specs.Views.{node_data_of}
use Rattle.sc_lineage.proofs.MeaningLemmas.{reads_before}
use Rattle.sc_compute.specs.Inputs.{Grows, direct_parents}
use Rattle.sc_compute.specs.Stages.{AreRight, HasMade, handed_in, made_in}
use Rattle.sc_compute.proofs.InputLemmas.{grows_last, grows_none, grows_on, grows_parent, inputs_of_parent, inputs_stay, left_read, none_made, still_made, takes_itself, unmade_still}
use Rattle.sc_compute.proofs.LeftLemmas.{left_same, of_left}
use Rattle.sc_compute.proofs.StageLemmas.{hold_both, of_same}
use Rattle.sc_compute.proofs.stages.ShuffleInputs.+prepare.Goals.{in-Some+in_ok-prepare, in_default, in-Some-second+in_ok-prepare-2, in_default-second}
use Rattle.sc_compute.proofs.stages.ShuffleInputs.+prepare.Goals as goal

pub prepare-requires : goal.prepare-requires
prepare-requires t c =
    let work = c.args.work.now in
    let before = c.args.self.now in
    let k = c.args.node in
    let parents = c.parents_left-parents.result in
    let node = node_data_of c.node_in.result.now in
    let below : c.in-Some.parent < k =
    of_left (λ q. q < k) (parents_of node) 0 (handed_in before k 0) parents.first
    c.in-Some.parent c.parents_left-parents.ensures.first c.in-Some.is
    (reads_before work.script k node c.is_sound.ensures.script c.node_in.ensures.found) in
    let reads : Contains (direct_parents work k) c.in-Some.parent =
    left_read work before k 0 node parents.first c.in-Some.parent c.node_in.ensures.found
    (sym c.node_in.ensures.at) (c.requires.inputs k (takes_itself work k))
    c.parents_left-parents.ensures.first c.in-Some.is in (
      omega (arith, below, c.decreases),
      (
        omega (arith, below, c.requires.known),
        (
          c.requires.right,
          inputs_of_parent work before k c.in-Some.parent reads c.requires.inputs,
        ),
      ),
    )

pub prepare-requires-in-Some-second : goal.prepare-requires-in-Some-second
prepare-requires-in-Some-second t c =
    let work = c.args.work.now in
    let before = c.args.self.now in
    let k = c.args.node in
    let parents = c.parents_left-parents.result in
    let node = node_data_of c.node_in.result.now in
    let parent = c.in-Some-second.parent in
    let below : parent < k =
    of_left (λ q. q < k) (parents_of node) 1 (handed_in before k 1) parents.second parent
    c.parents_left-parents.ensures.second c.in-Some-second.is
    (reads_before work.script k node c.is_sound.ensures.script c.node_in.ensures.found) in
    let reads : Contains (direct_parents work k) parent =
    left_read work before k 1 node parents.second parent c.node_in.ensures.found
    (sym c.node_in.ensures.at) (c.requires.inputs k (takes_itself work k))
    c.parents_left-parents.ensures.second c.in-Some-second.is in
    let right : AreRight work c.match-parents.self =
    elim c.match-parents.branch [
      | in-Some+in_ok-prepare w ↦ rw w.self-is w.prepare.ensures.right
      | in_default w ↦ rw w.self-is c.requires.right
    ] in
    let same : c.match-parents.self.handed ≡ before.handed =
    elim c.match-parents.branch [
      | in-Some+in_ok-prepare w ↦ rw w.self-is w.prepare.ensures.grows.handed
      | in_default w ↦ rw w.self-is refl
    ] in (
      omega (arith, below, c.decreases),
      (
        omega (arith, below, c.requires.known),
        (
          right,
          inputs_of_parent work c.match-parents.self k parent reads
              (inputs_stay work before c.match-parents.self k same c.requires.inputs),
        ),
      ),
    )

pub prepare_behind-requires-clause-parents : goal.prepare_behind-requires-clause-parents
prepare_behind-requires-clause-parents t c =
    let parents = c.parents_left-parents.result in
    let before = c.args.self.now in
    let after = c.match-parents-2.self in
    let at_first : (p : ℕ) → parents.first ≡ Some p → HasMade c.match-parents.self p =
    elim c.match-parents.branch [
      | in-Some+in_ok-prepare w ↦
          λ p first. rw w.self-is
          (of_same (HasMade w.prepare.new.self) parents.first w.in-Some.parent p w.in-Some.is first
          w.in_ok-prepare.ensures.made)
      | in_default w ↦ λ p first. absurd (w.in_default.not-Some p first)
    ] in
    let same_first : c.match-parents.self.handed ≡ before.handed =
    elim c.match-parents.branch [
      | in-Some+in_ok-prepare w ↦ rw w.self-is w.prepare.ensures.grows.handed
      | in_default w ↦ rw w.self-is refl
    ] in
    let same_second : after.handed ≡ c.match-parents.self.handed =
    elim c.match-parents-2.branch [
      | in-Some-second+in_ok-prepare-2 w ↦
          rw w.self-is w.prepare-in-Some-second.ensures.grows.handed
      | in_default-second w ↦ rw w.self-is refl
    ] in
    let kept : (k : ℕ) → HasMade c.match-parents.self k → HasMade c.match-parents-2.self k =
    elim c.match-parents-2.branch [
      | in-Some-second+in_ok-prepare-2 w ↦
          rw w.self-is
          (λ k made. still_made c.match-parents.self w.prepare-in-Some-second.new.self k
          (w.prepare-in-Some-second.ensures.grows.kept k made) made)
      | in_default-second w ↦ rw w.self-is (λ k made. made)
    ] in
    let at_second : (p : ℕ) → parents.second ≡ Some p → HasMade c.match-parents-2.self p =
    elim c.match-parents-2.branch [
      | in-Some-second+in_ok-prepare-2 w ↦
          λ p second. rw w.self-is
          (of_same (HasMade w.prepare-in-Some-second.new.self) parents.second
          w.in-Some-second.parent p w.in-Some-second.is second w.in_ok-prepare-2.ensures.made)
      | in_default-second w ↦ λ p second. absurd (w.in_default-second.not-Some p second)
    ] in
    hold_both (HasMade after) parents.first parents.second _
    (left_same before after c.args.node (node_data_of c.node_in.result.now) _ parents.first
    parents.second (same_second ∙ same_first) c.parents_left-parents.ensures.first
    c.parents_left-parents.ensures.second c.node_in.ensures.at)
    (λ p first. kept p (at_first p first)) at_second

pub prepare_behind-requires-clause-sides : goal.prepare_behind-requires-clause-sides
prepare_behind-requires-clause-sides t c =
    let work = c.args.work.now in
    let before = c.args.self.now in
    let after = c.match-parents-2.self in
    let same_first : c.match-parents.self.handed ≡ before.handed =
    elim c.match-parents.branch [
      | in-Some+in_ok-prepare w ↦ rw w.self-is w.prepare.ensures.grows.handed
      | in_default w ↦ rw w.self-is refl
    ] in
    let same_second : after.handed ≡ c.match-parents.self.handed =
    elim c.match-parents-2.branch [
      | in-Some-second+in_ok-prepare-2 w ↦
          rw w.self-is w.prepare-in-Some-second.ensures.grows.handed
      | in_default-second w ↦ rw w.self-is refl
    ] in
    inputs_stay work before after c.args.node (same_second ∙ same_first) c.requires.inputs
    c.args.node (takes_itself work c.args.node)

pub prepare_behind-requires-clause-unmade : goal.prepare_behind-requires-clause-unmade
prepare_behind-requires-clause-unmade t c =
    let work = c.args.work.now in
    let before = c.args.self.now in
    let k = c.args.node in
    let parents = c.parents_left-parents.result in
    let node = node_data_of c.node_in.result.now in
    let all = reads_before work.script k node c.is_sound.ensures.script c.node_in.ensures.found in
    let none : made_in before k ≡ None =
    none_made (made_in before k) (sym c.contains_key.ensures ∙ c.if-contains_key.false) in
    let first : made_in c.match-parents.self k ≡ None =
    elim c.match-parents.branch [
      | in-Some+in_ok-prepare w ↦
          rw w.self-is
          (unmade_still work c.is_sound.ensures.script k w.in-Some.parent before w.prepare.new.self
          (of_left (λ q. q < k) (parents_of node) 0 (handed_in before k 0) parents.first
          w.in-Some.parent c.parents_left-parents.ensures.first w.in-Some.is all)
          w.prepare.ensures.grows none)
      | in_default w ↦ rw w.self-is none
    ] in
    elim c.match-parents-2.branch [
      | in-Some-second+in_ok-prepare-2 w ↦
          rw w.self-is
          (unmade_still work c.is_sound.ensures.script k w.in-Some-second.parent
          c.match-parents.self w.prepare-in-Some-second.new.self
          (of_left (λ q. q < k) (parents_of node) 1 (handed_in before k 1) parents.second
          w.in-Some-second.parent c.parents_left-parents.ensures.second w.in-Some-second.is all)
          w.prepare-in-Some-second.ensures.grows first)
      | in_default-second w ↦ rw w.self-is first
    ]

pub returns-in_err-prepare-clause-grows : goal.returns-in_err-prepare-clause-grows
returns-in_err-prepare-clause-grows t c =
    let work = c.args.work.now in
    let before = c.args.self.now in
    let k = c.args.node in
    let parents = c.parents_left-parents.result in
    let node = node_data_of c.node_in.result.now in
    let has = c.requires.inputs k (takes_itself work k) in
    grows_parent work k c.in-Some.parent before c.prepare.new.self
    (left_read work before k 0 node parents.first c.in-Some.parent c.node_in.ensures.found
    (sym c.node_in.ensures.at) has c.parents_left-parents.ensures.first c.in-Some.is)
    c.prepare.ensures.grows

pub returns-in_err-prepare-2-clause-grows : goal.returns-in_err-prepare-2-clause-grows
returns-in_err-prepare-2-clause-grows t c =
    let work = c.args.work.now in
    let before = c.args.self.now in
    let k = c.args.node in
    let parents = c.parents_left-parents.result in
    let node = node_data_of c.node_in.result.now in
    let has = c.requires.inputs k (takes_itself work k) in
    let first : Grows work k before c.match-parents.self =
    elim c.match-parents.branch [
      | in-Some+in_ok-prepare w ↦
          rw w.self-is
          (grows_parent work k w.in-Some.parent before w.prepare.new.self
          (left_read work before k 0 node parents.first w.in-Some.parent c.node_in.ensures.found
          (sym c.node_in.ensures.at) has c.parents_left-parents.ensures.first w.in-Some.is)
          w.prepare.ensures.grows)
      | in_default w ↦ rw w.self-is (grows_none work k before)
    ] in
    grows_on work k before c.match-parents.self c.prepare-in-Some-second.new.self first
    (grows_parent work k c.in-Some-second.parent c.match-parents.self
    c.prepare-in-Some-second.new.self
    (left_read work before k 1 node parents.second c.in-Some-second.parent
    c.node_in.ensures.found (sym c.node_in.ensures.at) has
    c.parents_left-parents.ensures.second c.in-Some-second.is)
    c.prepare-in-Some-second.ensures.grows)

pub returns-clause-grows : goal.returns-clause-grows
returns-clause-grows t c =
    let work = c.args.work.now in
    let before = c.args.self.now in
    let k = c.args.node in
    let parents = c.parents_left-parents.result in
    let node = node_data_of c.node_in.result.now in
    let has = c.requires.inputs k (takes_itself work k) in
    let first : Grows work k before c.match-parents.self =
    elim c.match-parents.branch [
      | in-Some+in_ok-prepare w ↦
          rw w.self-is
          (grows_parent work k w.in-Some.parent before w.prepare.new.self
          (left_read work before k 0 node parents.first w.in-Some.parent c.node_in.ensures.found
          (sym c.node_in.ensures.at) has c.parents_left-parents.ensures.first w.in-Some.is)
          w.prepare.ensures.grows)
      | in_default w ↦ rw w.self-is (grows_none work k before)
    ] in
    let second : Grows work k c.match-parents.self c.match-parents-2.self =
    elim c.match-parents-2.branch [
      | in-Some-second+in_ok-prepare-2 w ↦
          rw w.self-is
          (grows_parent work k w.in-Some-second.parent c.match-parents.self
          w.prepare-in-Some-second.new.self
          (left_read work before k 1 node parents.second w.in-Some-second.parent
          c.node_in.ensures.found (sym c.node_in.ensures.at) has
          c.parents_left-parents.ensures.second w.in-Some-second.is)
          w.prepare-in-Some-second.ensures.grows)
      | in_default-second w ↦ rw w.self-is (grows_none work k c.match-parents.self)
    ] in
    grows_on work k before c.match-parents-2.self c.prepare_behind.new.self
    (grows_on work k before c.match-parents.self c.match-parents-2.self first second)
    (grows_last work k c.match-parents-2.self c.prepare_behind.new.self
    c.prepare_behind.ensures.makes)
