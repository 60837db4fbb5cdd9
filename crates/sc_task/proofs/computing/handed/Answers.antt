use Rattle.std.proofs.Common.{◌≡◌, ◌∙◌, ◌+◌, None, Some, All, drop, get_or, subst, sym, ap, arith}
use Rattle.std.proofs.lemmas.List.{take_all}
use Rattle.std.proofs.lemmas.List.Elements.{All-nil}
use Rattle.std.specs.List.{flat_map}
use Rattle.sc_jobs.specs.JobData.{JobData, blocks_left, stage_in}
use Rattle.sc_jobs.specs.Plans.{IsJobFor}
use Rattle.sc_task.specs.Handing.{IsHandedBy}
use Rattle.sc_task.specs.States.{AreOf}
use Rattle.sc_task.proofs.FetchLemmas.{read_handed}
use Rattle.sc_task.proofs.HandingLemmas.{found_of_work, next_cut, next_none}
use Rattle.sc_task.proofs.InputLemmas.{handed_found, handed_more, handed_none, none_if}
use Rattle.sc_task.proofs.computing.handed.Goals as goal

pub loop-parent-init : goal.loop-parent-init
loop-parent-init g c =
    record {
      right = c.in_ok-stages.ensures.right;
      unmade = c.in_ok-stages.ensures.unmade;
      handed = All-nil (IsHandedBy c.args.task.now.job.graph c.in_ok-stages.stages);
      left = subst (λ items. AreOf c.args.work.now (flat_map
          (λ id. blocks_left (stage_in c.args.task.now.job.graph id)) items) c.args.got.now)
          (sym c.parents_of-parent-items.ensures) c.requires.all;
    }

pub split_at-requires : goal.split_at-requires
split_at-requires g c =
    (next_cut c.args.work.now c.args.task.now.job.graph c.parents_of-parent-items.result.now
    c.loop-parent.parent-index c.loop-parent.rest.now 0 c.count_left.result
    c.in-Some.stage.now c.loop-parent-test.true
    (c.in-Some.ensures ∙ ap (λ (j : JobData). stage_in j.graph
    (get_or c.parents_of-parent-items.result.now c.loop-parent.parent-index 0))
    c.job-in-loop-parent.ensures) c.count_left.ensures c.loop-parent.invariant.left).0

pub hand_in-requires-clause-stage : goal.hand_in-requires-clause-stage
hand_in-requires-clause-stage g c =
    found_of_work c.args.work.now c.args.task.now.job
    (get_or c.parents_of-parent-items.result.now c.loop-parent.parent-index 0)
    c.in-Some.stage.now
    (subst (IsJobFor c.args.work.now) c.job.ensures
    (subst (λ w. IsJobFor w c.job.result.now) (sym c.requires.named) c.is_job.ensures))
    (sym (c.in-Some.ensures ∙ ap (λ (j : JobData). stage_in j.graph
    (get_or c.parents_of-parent-items.result.now c.loop-parent.parent-index 0))
    c.job-in-loop-parent.ensures))

pub hand_in-requires-clause-of : goal.hand_in-requires-clause-of
hand_in-requires-clause-of g c =
    subst (AreOf c.args.work.now (blocks_left (Some c.in-Some.stage.now)))
    (sym c.split_at.ensures.front)
    (next_cut c.args.work.now c.args.task.now.job.graph c.parents_of-parent-items.result.now
    c.loop-parent.parent-index c.loop-parent.rest.now 0 c.count_left.result
    c.in-Some.stage.now c.loop-parent-test.true
    (c.in-Some.ensures ∙ ap (λ (j : JobData). stage_in j.graph
    (get_or c.parents_of-parent-items.result.now c.loop-parent.parent-index 0))
    c.job-in-loop-parent.ensures) c.count_left.ensures c.loop-parent.invariant.left).1

pub loop-parent-preserved : goal.loop-parent-preserved
loop-parent-preserved g c =
    record {
      right = c.hand_in.ensures.right;
      unmade = c.hand_in.ensures.unmade;
      handed = handed_more c.loop-parent.stages c.hand_in.new.stages
          c.args.task.now.job.graph c.parents_of-parent-items.result.now
          c.loop-parent.parent-index 0 c.loop-parent-test.true c.in_ok-hand_in.ensures.kept
          (handed_found c.args.task.now.job.graph c.hand_in.new.stages
          (get_or c.parents_of-parent-items.result.now c.loop-parent.parent-index 0)
          c.in-Some.stage.now
          (sym (c.in-Some.ensures ∙ ap (λ (j : JobData). stage_in j.graph
          (get_or c.parents_of-parent-items.result.now c.loop-parent.parent-index 0))
          c.job-in-loop-parent.ensures))
          c.in_ok-hand_in.ensures.handed)
          c.loop-parent.invariant.handed;
      left = subst (AreOf c.args.work.now (flat_map
          (λ id. blocks_left (stage_in c.args.task.now.job.graph id))
          (drop (c.loop-parent.parent-index + 1) c.parents_of-parent-items.result.now)))
          (sym c.split_at.ensures.back)
          (next_cut c.args.work.now c.args.task.now.job.graph
          c.parents_of-parent-items.result.now c.loop-parent.parent-index
          c.loop-parent.rest.now 0 c.count_left.result c.in-Some.stage.now
          c.loop-parent-test.true
          (c.in-Some.ensures ∙ ap (λ (j : JobData). stage_in j.graph
          (get_or c.parents_of-parent-items.result.now c.loop-parent.parent-index 0))
          c.job-in-loop-parent.ensures) c.count_left.ensures c.loop-parent.invariant.left).2;
    }

pub returns-clause-handed : goal.returns-clause-handed
returns-clause-handed g c =
    let handed = IsHandedBy c.args.task.now.job.graph c.loop-parent.stages in
    let items = c.parents_of-parent-items.result.now in
    subst (All handed) (take_all c.loop-parent.parent-index items (omega arith)
    ∙ c.parents_of-parent-items.ensures) c.loop-parent.invariant.handed

pub loop-parent-preserved-in_default : goal.loop-parent-preserved-in_default
loop-parent-preserved-in_default g c =
    let graph = c.args.task.now.job.graph in
    let items = c.parents_of-parent-items.result.now in
    let i = c.loop-parent.parent-index in
    let stages = c.loop-parent.stages in
    let none : stage_in graph (get_or items i 0) ≡ None =
    none_if c.stage.result _ (stage_in graph (get_or items i 0))
    (λ x is. c.in_default.not-Some x is)
    (c.stage.ensures ∙ ap (λ (j : JobData). stage_in j.graph (get_or items i 0))
    c.job-in-loop-parent.ensures) in
    record {
      right = c.loop-parent.invariant.right;
      unmade = c.loop-parent.invariant.unmade;
      handed = handed_more stages stages graph items i 0 c.loop-parent-test.true (λ k s has. has)
          (handed_none graph stages (get_or items i 0) none) c.loop-parent.invariant.handed;
      left = next_none c.args.work.now graph items i c.loop-parent.rest.now 0
          c.loop-parent-test.true none c.loop-parent.invariant.left;
    }

pub returns-clause-got : goal.returns-clause-got
returns-clause-got g c =
    let work = c.args.work.now in
    let t = c.args.task.now in
    let stages = c.loop-parent.stages in
    let items = c.parents_of-parent-items.result.now in
    let is = subst (IsJobFor work) c.job.ensures
    (subst (λ w. IsJobFor w c.job.result.now) (sym c.requires.named) c.is_job.ensures) in
    let handed = IsHandedBy t.job.graph stages in
    read_handed work stages c.loop-parent.invariant.right t c.args.got.now is
    (subst (All handed) (take_all c.loop-parent.parent-index items (omega arith)
    ∙ c.parents_of-parent-items.ensures) c.loop-parent.invariant.handed)
    c.requires.all
