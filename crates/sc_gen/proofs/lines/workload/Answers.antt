use Rattle.std.proofs.Common.{ap, ◌∙◌, ◌++◌, ◌/◌}
use Rattle.sc_gen.proofs.DrawLemmas.{line_more, two_more}
use Rattle.sc_gen.specs.Workload.{line}
use Rattle.sc_gen.proofs.lines.workload.Goals as goal

-- src/lines.rt:16:5
pub loop-preserved : goal.loop-preserved
loop-preserved c =
    let before = c.loop.invariant in
    let one = c.next_number-first.ensures in
    let two = c.next_number-second.ensures in (
      two_more c.args.seed c.loop.counter _ _ _ before.0 one two,
      c.in_ok-push_line.ensures
          ∙ ap (λ bytes. bytes ++ line (c.next_number-first.result / 65536)
          (c.next_number-second.result / 65536)) before.1
          ∙ line_more c.args.seed c.loop.counter _ _ _ before.0 one two,
    )
