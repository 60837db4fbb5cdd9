use Rattle.std.proofs.Common.{◌∙◌, ap, map, refl, sym}
use Rattle.std.proofs.lemmas.List.{map-id}
use Rattle.std.proofs.lemmas.Result.{IfOk-weaker}
use Rattle.sc_value.specs.Datum.{text}
use Rattle.sc_value.specs.Printing.{printed}
use Rattle.sc_expr.specs.declared.exprs.Head.TheVariants as heads
use Rattle.sc_batch.specs.Outcomes.{of_one}
use Rattle.sc_batch.proofs.ValueLemmas.{each-value, of_typed_one}
use Rattle.sc_batch.proofs.unary.printed.Goals as goal

pub returns-in_ok-share-in-Some : goal.returns-in_ok-share-in-Some
returns-in_ok-share-in-Some c =
    let ts = c.in-Some.field-0.now in
    ap (λ r. record { rows = r; raise = c.args.end })
    (c.in_ok-share-in-Some.ensures ∙ c.in-Some.ensures ∙ ap (map text) (sym (map-id ts)))
    ∙ each-value (λ t. of_one heads.Text (text t)) text (λ t. t) (λ t. refl) ts c.args.end
    ∙ of_typed_one (of_one heads.Text) text ts c.args.rows.now c.args.end c.in-Some.ensures

pub returns-in_ok-printed_rows-in-None : goal.returns-in_ok-printed_rows-in-None
returns-in_ok-printed_rows-in-None c =
    IfOk-weaker c.texts.result _ _ (λ s is. is
    ∙ ap (λ ts. record { rows = map text ts; raise = c.args.end })
    c.in_ok-printed_rows-in-None.ensures
    ∙ each-value (of_one heads.Text) text printed (λ d. refl) c.args.rows.now c.args.end)
    c.texts.ensures
