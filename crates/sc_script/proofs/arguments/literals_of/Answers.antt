use Rattle.std.proofs.Common.{List, ap, sym, arith, ◌∙◌, Some}
use Rattle.std.proofs.lemmas.Result.{err_from_is_err_and}
use Rattle.std.specs.Vec.Iter.{into_iter_items}
use Rattle.sc_value.specs.Datum.{Datum}
use Rattle.sc_value.specs.Views.{datum_of}
use Rattle.sc_script.specs.Items.{literal_in, literals_in}
use Rattle.sc_script.specs.Views.{arg_data_of, args_left}
use Rattle.sc_script.proofs.ItemLemmas.{literals-more, literals-all, literals-stopped}
use Rattle.sc_script.proofs.Taken.{not_found}
use Rattle.sc_script.proofs.arguments.literals_of.Goals as goal

pub returns-in_err-literal : goal.returns-in_err-literal
returns-in_err-literal c =
    let p = err_from_is_err_and c.from_residual.result c.from_residual.ensures.1 in
    rw (p.1, p.2) (not_found datum_of (λ (rows : List Datum). rows) c.in_err-literal.field-0.0
    (literal_in (arg_data_of c.in-Some.arg)) (literals_in (args_left c.args.args))
    (literals-stopped _ _ c.in-Some.arg c.loop-arg.literals _ c.in-Some.ensures.steps.0
    c.loop-arg.invariant)
    c.in_err-literal.ensures)

pub loop-arg-preserved : goal.loop-arg-preserved
loop-arg-preserved c =
    literals-more _ _ c.in-Some.arg c.loop-arg.literals c.push.new.self
    (datum_of c.in_ok-literal.literal) _ c.in-Some.ensures.steps.0 c.loop-arg.invariant
    c.in_ok-literal.ensures c.in_ok-push.ensures

pub loop-arg-preserved-in_ok-push : goal.loop-arg-preserved-in_ok-push
loop-arg-preserved-in_ok-push c =
    literals-more _ _ c.in-Some.arg c.loop-arg.literals c.push.new.self
    (datum_of c.in_ok-literal.literal) _ c.in-Some.ensures.steps.0 c.loop-arg.invariant
    c.in_ok-literal.ensures c.in_ok-push.ensures

pub returns : goal.returns
returns c =
    literals-all (into_iter_items c.loop-arg.arg-iterator) c.loop-arg.literals _
    (omega (arith, c.in-None.ensures.steps.0)) c.loop-arg.invariant
    ∙ ap Some (sym c.in_ok-finish.ensures)
