use Rattle.std.proofs.Common.{rules, ◌∙◌, ap, map, arith, ◌++◌, ◌∷◌, []}
use Rattle.std.proofs.lemmas.Result.{IfOk-weaker}
use mir.Val.{SFits}
use mir.Syntax.{w64}
use Rattle.sc_value.specs.Datum.{truth}
use Rattle.sc_batch.specs.Items.{int_test, list_in}
use Rattle.sc_batch.proofs.NumberLemmas.{read_two}
use Rattle.sc_batch.proofs.ValueLemmas.{zipped_more, zipped_all}
use Rattle.sc_batch.proofs.numbers.comparisons.Goals as goal

pub loop-i-preserved : goal.loop-i-preserved
loop-i-preserved c =
    let out = c.loop-i.out.items in
    let x : SFits w64 c.at.result = search rules in
    let y : SFits w64 c.at-in-loop-i.result = search rules in
    zipped_more (int_test c.args.head) (list_in c.args.m) (list_in c.args.n) out
    c.push.new.self.items c.loop-i.i c.at.result c.at-in-loop-i.result c.at.ensures
    c.at-in-loop-i.ensures c.loop-i.invariant
    (c.in_ok-push.ensures.items ∙ ap (λ b. out ++ b ∷ [])
    (read_two (int_test c.args.head) c.at.result c.at-in-loop-i.result c.test_of.result x y
    c.test_of.ensures))

pub returns : goal.returns
returns c =
    let all = zipped_all (int_test c.args.head) (list_in c.args.m) (list_in c.args.n)
    c.loop-i.out.items c.loop-i.i c.loop-i.invariant (omega arith) in
    IfOk-weaker c.truths.result _ _
    (λ s is. is ∙ ap (λ r. record { rows = map truth r; raise = c.args.end }) all) c.truths.ensures
