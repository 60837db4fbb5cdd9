use Rattle.std.proofs.Common.{◌≡◌, ◌+◌, ◌-◌, ◌∷◌, ◌++◌, [], ap, arith, length, ◌∙◌}
use Rattle.std.specs.Option.{option_map}
use Rattle.sc_ids.specs.Graphs.{stage_data}
use Rattle.sc_ids.specs.declared.blocks.Target.TheVariants as targets
use Rattle.sc_dag.specs.DagData.{no_stage}
use Rattle.sc_dag.specs.Rows.{stages_of}
use Rattle.sc_dag.proofs.OpenLemmas.{blank_more, gap_more, many_more, stages_more}
use Rattle.sc_dag.proofs.openings.fill.Goals as goal

pub loop-alloc-preserved : goal.loop-alloc-preserved
loop-alloc-preserved c =
    let i = c.loop-alloc.invariant in
    let first = c.args.rows.now.items in
    let now = c.loop-alloc.rows.items in
    let after = c.push.new.rows.items in
    let pushed = c.in_ok-push.ensures in
    let many : length after ≡ length now + 1 = many_more now after _ pushed in
    let none : c.new-none.result ≡ no_stage =
    c.new-none.ensures ∙ ap (stage_data 0 (targets.Result 0) 0) c.new.ensures.items in
    record {
      stages = gap_more (stages_of first) (stages_of now) (stages_of after)
          (length now - length first) (length after - length first) i.stages
          (stages_more now after c.new-none.result _ pushed
          ∙ ap (λ s. stages_of now ++ s ∷ []) none)
          (omega (arith, many, i.more));
      blank = blank_more (option_map (λ d. d.now.0) c.args.last) now after c.new-none.result
          i.blank pushed;
      below = omega (arith, many, c.loop-alloc-test.true, c.len.ensures, c.loop-alloc.rows.ok.0);
      more = omega (arith, many, i.more);
    }
