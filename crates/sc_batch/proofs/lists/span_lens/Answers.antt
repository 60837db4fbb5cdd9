use Rattle.std.proofs.Common.{rules, ◌∙◌, ap, map, pos, ◌++◌, ◌∷◌, [], arith}
use Rattle.std.proofs.lemmas.Int.{to_z-of_z}
use Rattle.std.proofs.lemmas.List.{take_all}
use Rattle.std.proofs.lemmas.Result.{IfOk-weaker}
use mir.Val.{SFits}
use mir.Syntax.{w64}
use Rattle.sc_value.specs.Datum.{number}
use Rattle.sc_batch.specs.Lists.{span_len}
use Rattle.sc_batch.proofs.ZipLemmas.{mapped_more}
use Rattle.sc_batch.proofs.lists.span_lens.Goals as goal

pub loop-i-preserved : goal.loop-i-preserved
loop-i-preserved c =
    let out = c.loop-i.out.items in
    let n : SFits w64 c.from.result = search rules in
    mapped_more span_len c.args.spans.now out c.push.new.self.items c.loop-i.i c.item_at.result
    c.item_at.ensures c.loop-i.invariant
    (c.in_ok-push.ensures.items ∙ ap (λ z. out ++ z ∷ [])
    (to_z-of_z w64 c.from.result n ∙ c.from.ensures ∙ ap pos c.len_of.ensures))

pub returns : goal.returns
returns c =
    IfOk-weaker c.ints.result _ _ (λ s is. is
    ∙ ap (λ ns. record { rows = map number ns; raise = c.args.end }) (c.loop-i.invariant
    ∙ ap (map span_len) (take_all c.loop-i.i c.args.spans.now (omega arith)))) c.ints.ensures
