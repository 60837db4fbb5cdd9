use Rattle.std.proofs.Common.{◌+◌, ◌∙◌, ap, ℕ, length, length-append, [], ◌∷◌, ◌++◌}
use Rattle.std.proofs.lemmas.Result.{err_from_is_err_and}
use Rattle.sc_lineage.proofs.SoundLemmas.{AreTexts-append}
use Rattle.sc_read.proofs.ReadLemmas.{input-taken, later-more, next-name, stops-taking}
use Rattle.sc_read.proofs.works.read_work.Goals as goal

pub returns-in_err-read_input-clause-work : goal.returns-in_err-read_input-clause-work
returns-in_err-read_input-clause-work g c =
    let p = err_from_is_err_and c.from_residual-in_err-read_input.result
    c.from_residual-in_err-read_input.ensures.1 in
    let next = next-name c.args.script c.deref-name-items.result.now c.loop-name.inputs.items
    c.loop-name.name-index c.name-item.result
    (c.deref-name-items.ensures.value ∙ c.in_ok-names.ensures) c.loop-name-test.true
    c.name-item.is c.loop-name.invariant.count in
    rw (p.1, p.2) (stops-taking c.args.script (g.S.Source.state c.args.source.now)
    c.args.reads.now.items c.args.plan c.args.limits (g.S.Source.state c.loop-name.source)
    (g.S.Source.state c.read_input.new.source) c.loop-name.reads.items
    c.read_input.new.reads.items c.loop-name.inputs.items c.name-item.result
    c.in_err-read_input.field-0.0 c.loop-name.invariant.taken c.loop-name.invariant.later
    c.loop-name.invariant.texts next c.in_err-read_input.ensures.input)

pub returns-in_err-push-clause-work : goal.returns-in_err-push-clause-work
returns-in_err-push-clause-work g c =
    let p = err_from_is_err_and c.from_residual-in_err-push.result
    c.from_residual-in_err-push.ensures.1 in
    let next = next-name c.args.script c.deref-name-items.result.now c.loop-name.inputs.items
    c.loop-name.name-index c.name-item.result
    (c.deref-name-items.ensures.value ∙ c.in_ok-names.ensures) c.loop-name-test.true
    c.name-item.is c.loop-name.invariant.count in
    let input = c.in_ok-read_input.field-0 in
    rw (p.1, p.2) (
      c.loop-name.inputs.items ++ input ∷ [],
      input-taken c.args.script (g.S.Source.state c.args.source.now)
          c.args.reads.now.items (g.S.Source.state c.loop-name.source)
          (g.S.Source.state c.read_input.new.source) c.loop-name.reads.items
          c.read_input.new.reads.items c.loop-name.inputs.items c.name-item.result input
          c.loop-name.invariant.taken c.loop-name.invariant.later next
          c.in_ok-read_input.ensures.input.0 c.in_ok-read_input.ensures.input.1,
    )

pub loop-name-preserved : goal.loop-name-preserved
loop-name-preserved g c =
    let next = next-name c.args.script c.deref-name-items.result.now c.loop-name.inputs.items
    c.loop-name.name-index c.name-item.result
    (c.deref-name-items.ensures.value ∙ c.in_ok-names.ensures) c.loop-name-test.true
    c.name-item.is c.loop-name.invariant.count in
    let input = c.in_ok-read_input.field-0 in
    record {
      later = later-more (g.S.Source.state c.args.source.now) (g.S.Source.state c.loop-name.source)
          (g.S.Source.state c.read_input.new.source) c.loop-name.invariant.later
          c.read_input.ensures.later;
      count = ap length c.in_ok-push.ensures.items
          ∙ length-append c.loop-name.inputs.items (input ∷ [])
          ∙ ap (λ (n : ℕ). n + 1) c.loop-name.invariant.count;
      texts = rw c.in_ok-push.ensures.items (AreTexts-append c.loop-name.inputs.items input
          c.loop-name.invariant.texts c.in_ok-read_input.ensures.input.2);
      taken = rw c.in_ok-push.ensures.items (input-taken c.args.script
          (g.S.Source.state c.args.source.now) c.args.reads.now.items
          (g.S.Source.state c.loop-name.source) (g.S.Source.state c.read_input.new.source)
          c.loop-name.reads.items c.read_input.new.reads.items c.loop-name.inputs.items
          c.name-item.result input c.loop-name.invariant.taken c.loop-name.invariant.later next
          c.in_ok-read_input.ensures.input.0 c.in_ok-read_input.ensures.input.1);
    }
