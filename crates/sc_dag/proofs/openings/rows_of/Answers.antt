use Rattle.std.proofs.Common.{◌≡◌, ◌+◌, ◌-◌, ap, arith, length, subst, sym, ◌∙◌}
use Rattle.std.proofs.lemmas.List.{length-map, take_all}
use Rattle.std.specs.Option.{option_map}
use Rattle.sc_dag.specs.Openings.{number_behind}
use Rattle.sc_dag.specs.Rows.{stages_of}
use Rattle.sc_dag.proofs.OpenLemmas.{StandAt, behind_below, behind_next, blank_more, many_more, numbered_by_stand, stand_next}
use Rattle.sc_dag.proofs.openings.rows_of.Goals as goal

pub fill-requires-clause-few : goal.fill-requires-clause-few
fill-requires-clause-few c =
    let below = behind_below c.args.graph.now c.loop-stage.stage-index c.stage-item.result
    c.requires c.loop-stage-test.true in
    let at = ap (λ s. s.id) c.stage-item.is in
    omega (arith, below, at, c.id.ensures, c.loop-stage.invariant.behind)

pub loop-stage-preserved : goal.loop-stage-preserved
loop-stage-preserved c =
    let i = c.loop-stage.invariant in
    let graph = c.args.graph.now in
    let stage = c.stage-item.result in
    let now = c.loop-stage.rows.items in
    let filled = c.fill.new.rows.items in
    let after = c.push.new.rows.items in
    let pushed = c.in_ok-push.ensures in
    let many : length filled ≡ stage.id = c.in_ok-fill.ensures.len ∙ c.id.ensures in
    let more : length after ≡ length filled + 1 = many_more filled after _ pushed in
    record {
      stand = stand_next graph c.loop-stage.stage-index (c.id.result - length now) stage
          c.in_ok-copy.copy _ now filled after c.loop-stage-test.true c.stage-item.is
          c.in_ok-copy.ensures i.stand c.in_ok-fill.ensures.stages many pushed;
      behind = more ∙ ap (λ n. n + 1) many
          ∙ sym (behind_next graph c.loop-stage.stage-index stage c.loop-stage-test.true
          c.stage-item.is);
      blank = blank_more (option_map (λ d. d.now.0) c.args.last) filled after c.in_ok-copy.copy
          c.in_ok-fill.ensures.blank pushed;
      few = omega (arith, more, c.in_ok-fill.ensures.len, c.id.type_inv);
    }

pub returns-clause-numbered : goal.returns-clause-numbered
returns-clause-numbered c =
    let i = c.loop-stage.invariant in
    let graph = c.args.graph.now in
    let rows = c.loop-stage.rows.items in
    let all = take_all c.loop-stage.stage-index graph (omega (arith, c.loop-stage-test.false)) in
    numbered_by_stand graph (stages_of rows)
    (subst (λ g. StandAt g (stages_of rows)) all i.stand)
    (length-map rows (λ r. r.stage) ∙ i.behind ∙ ap number_behind all)
