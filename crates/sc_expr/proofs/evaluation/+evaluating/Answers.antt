use Rattle.std.proofs.Common.{◌∙◌, refl, sym, ap, subst, map, arith, Global}
use Rattle.std.specs.Prelude.{false, Vec, Ok}
use Rattle.std.proofs.lemmas.Result.{err_from_is_err_and}
use Rattle.sc_base.specs.Answers.{Answers}
use Rattle.sc_base.proofs.Gathering.{gathered-more, gathered-all}
use Rattle.sc_value.specs.Views.{datum_of}
use Rattle.sc_value.specs.declared.values.Value.{Value}
use Rattle.sc_expr.specs.Meaning.{outcome_at, value_of_expr, in_front}
use Rattle.sc_expr.specs.Views.{env_data_of, expr_data_of}
use Rattle.sc_expr.proofs.ListLemmas.{datum_of-Bool}
use Rattle.sc_expr.proofs.OutcomeLemmas.{outcomes_in, values_in, values_stopped, outcome_at-found, outcome_at-missing}
use Rattle.sc_expr.proofs.evaluation.+evaluating.Goals as goal

pub eval_all-returns-in_err-eval : goal.eval_all-returns-in_err-eval
eval_all-returns-in_err-eval t c =
    let env = env_data_of c.args.env in
    let p = err_from_is_err_and c.from_residual.result c.from_residual.ensures.1 in
    rw (p.1, p.2) (values_stopped env (λ (v : Vec Value Global). map datum_of v.items)
    c.deref-expr-items.result.now c.loop-expr.expr-index c.expr-item.result
    c.loop-expr.values.items (values_in env c.args.exprs.now.items)
    c.in_err-eval.field-0.0 (omega arith) c.expr-item.is
    (ap (values_in env) (sym c.deref-expr-items.ensures.value) ∙ c.loop-expr.invariant)
    c.in_err-eval.ensures)

pub eval_all-loop-expr-preserved : goal.eval_all-loop-expr-preserved
eval_all-loop-expr-preserved t c =
    let env = env_data_of c.args.env in
    gathered-more (values_in env) (λ x. value_of_expr env (expr_data_of x)) in_front Ok
    datum_of (λ x xs. refl) c.deref-expr-items.result.now c.loop-expr.expr-index
    c.expr-item.result c.loop-expr.values.items c.push.new.self.items c.in_ok-eval.field-0
    (values_in env c.deref-expr-items.result.now) (omega arith) c.expr-item.is
    c.loop-expr.invariant c.in_ok-eval.ensures c.in_ok-push.ensures.items

pub eval_all-returns : goal.eval_all-returns
eval_all-returns t c =
    let env = env_data_of c.args.env in
    gathered-all (values_in env) (λ x. value_of_expr env (expr_data_of x)) in_front Ok
    datum_of (λ x xs. refl) Ok c.deref-expr-items.result.now c.loop-expr.expr-index
    c.loop-expr.values.items (values_in env c.args.exprs.now.items) refl (λ d ds. refl)
    (omega arith)
    (ap (values_in env) (sym c.deref-expr-items.ensures.value) ∙ c.loop-expr.invariant)

pub eval_at-returns-in-Some : goal.eval_at-returns-in-Some
eval_at-returns-in-Some t c =
    let env = env_data_of c.args.env in
    let h = c.in-Some.ensures.lookup in
    subst (Answers datum_of (λ r. r) c.eval.result)
    (sym (ap (λ xs. outcome_at (outcomes_in env xs) c.args.at) (sym c.deref.ensures.value)
    ∙ outcome_at-found env c.deref.result.now c.args.at c.in-Some.expr.now h.3.0 h.1))
    c.eval.ensures

pub eval_at-returns-in-None : goal.eval_at-returns-in-None
eval_at-returns-in-None t c =
    let env = env_data_of c.args.env in
    let h = c.in-None.ensures.lookup in
    ap (λ xs. outcome_at (outcomes_in env xs) c.args.at) (sym c.deref.ensures.value)
    ∙ outcome_at-missing env c.deref.result.now c.args.at h.3
    ∙ ap Ok (sym (datum_of-Bool false))
