use Rattle.std.proofs.Common.{rules, ℕ, List, ◌∙◌, ◌<◌, ◌≤◌, ap, map, length, arith, ◌++◌, ◌∷◌, [], refl, Some, None, Err, sym}
use Rattle.std.proofs.lemmas.Int.{to_z-of_z}
use Rattle.std.proofs.lemmas.List.{length-map, map_push}
use Rattle.std.proofs.lemmas.Result.{IfOk-weaker}
use mir.Val.{SFits}
use mir.Syntax.{w64}
use Rattle.sc_value.specs.Datum.{number, text}
use Rattle.sc_expr.specs.Heads.{number_value}
use Rattle.sc_expr.specs.declared.exprs.Head.TheVariants as heads
use Rattle.sc_batch.specs.Outcomes.{of_one}
use Rattle.sc_batch.proofs.StreamLemmas.{rows-all, rows-more, rows-raised}
use Rattle.sc_batch.proofs.ValueLemmas.{adds_raise, adds_value}
use Rattle.sc_batch.proofs.ZipLemmas.{at-map}
use Rattle.sc_batch.proofs.parsing.parsed.Goals as goal

pub loop-i-preserved : goal.loop-i-preserved
loop-i-preserved c =
    let f = λ (t : List ℕ). of_one heads.Int (text t) in
    let os = map f c.args.texts.now in
    let out = map number c.loop-i.out.items in
    let n : SFits w64 c.in-Ok.n = search rules in
    let here = at-map f c.args.texts.now c.loop-i.i c.get.result.now c.get.ensures in
    let given = ap number_value (sym c.parse_int.ensures ∙ c.in-Ok.is) in
    let within : c.loop-i.i < length os = omega (arith, length-map c.args.texts.now f) in
    rows-more os c.args.end out (map number c.push.new.self.items) None c.loop-i.i within
    c.loop-i.invariant
    (adds_value os c.loop-i.i _ (number c.in-Ok.n) out (map number c.push.new.self.items) here given
    (ap (map number) c.in_ok-push-in-Ok.ensures.items
    ∙ map_push number c.loop-i.out.items _
    ∙ ap (λ z. out ++ number z ∷ []) (to_z-of_z w64 c.in-Ok.n n))) refl

pub returns-in-Err : goal.returns-in-Err
returns-in-Err c =
    let f = λ (t : List ℕ). of_one heads.Int (text t) in
    let os = map f c.args.texts.now in
    let out = map number c.loop-i.out.items in
    let r = c.raise_of.result in
    let here = at-map f c.args.texts.now c.loop-i.i c.get.result.now c.get.ensures in
    let raised = ap number_value (sym c.parse_int.ensures ∙ c.in-Err.is)
    ∙ ap Err (sym c.raise_of.ensures) in
    let within : c.loop-i.i < length os = omega (arith, length-map c.args.texts.now f) in
    let same = rows-raised os c.args.end out out (Some r) c.loop-i.i within c.loop-i.invariant
    (adds_raise os c.loop-i.i _ r out here raised) refl in
    IfOk-weaker c.ints.result _ _ (λ s is. is ∙ same) c.ints.ensures

pub returns : goal.returns
returns c =
    let f = λ (t : List ℕ). of_one heads.Int (text t) in
    let os = map f c.args.texts.now in
    let past : length os ≤ c.loop-i.i = omega (arith, length-map c.args.texts.now f) in
    IfOk-weaker c.ints-2.result _ _ (λ s is. is
    ∙ rows-all os c.args.end (map number c.loop-i.out.items) c.loop-i.i past c.loop-i.invariant)
    c.ints-2.ensures
