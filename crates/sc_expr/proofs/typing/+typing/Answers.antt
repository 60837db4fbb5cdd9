use Rattle.std.proofs.Common.{◌∙◌, Some, refl, sym, ap, map, arith}
use Rattle.std.specs.declared.alloc.Global.{Global}
use Rattle.std.specs.Prelude.{Vec}
use Rattle.std.proofs.lemmas.Result.{err_from_is_err_and}
use Rattle.sc_base.proofs.Gathering.{gathered-more, gathered-all}
use Rattle.sc_value.specs.declared.types.Ty.{Ty}
use Rattle.sc_value.specs.Views.{type_data_of}
use Rattle.sc_expr.specs.Schemes.{type_of_expr, with_type}
use Rattle.sc_expr.specs.Views.{type_env_data_of, expr_data_of}
use Rattle.sc_expr.proofs.TypeLemmas.{types_in, types_stopped}
use Rattle.sc_expr.proofs.typing.+typing.Goals as goal

pub types_of-returns-in_err-type_of : goal.types_of-returns-in_err-type_of
types_of-returns-in_err-type_of t c =
    let env = type_env_data_of c.args.env in
    let p = err_from_is_err_and c.from_residual.result c.from_residual.ensures.1 in
    rw (p.1, p.2) (types_stopped env (λ (v : Vec Ty Global). map type_data_of v.items)
    c.deref-expr-items.result.now c.loop-expr.expr-index c.expr-item.result
    c.loop-expr.types.items (types_in env c.args.exprs.now.items)
    c.in_err-type_of.field-0.0 (omega arith) c.expr-item.is
    (ap (types_in env) (sym c.deref-expr-items.ensures.value) ∙ c.loop-expr.invariant)
    c.in_err-type_of.ensures)

pub types_of-loop-expr-preserved : goal.types_of-loop-expr-preserved
types_of-loop-expr-preserved t c =
    let env = type_env_data_of c.args.env in
    gathered-more (types_in env) (λ x. type_of_expr env (expr_data_of x)) with_type Some
    type_data_of (λ x xs. refl) c.deref-expr-items.result.now c.loop-expr.expr-index
    c.expr-item.result c.loop-expr.types.items c.push.new.self.items c.in_ok-type_of.field-0
    (types_in env c.deref-expr-items.result.now) (omega arith) c.expr-item.is
    c.loop-expr.invariant c.in_ok-type_of.ensures c.in_ok-push.ensures.items

pub types_of-returns : goal.types_of-returns
types_of-returns t c =
    let env = type_env_data_of c.args.env in
    gathered-all (types_in env) (λ x. type_of_expr env (expr_data_of x)) with_type Some
    type_data_of (λ x xs. refl) Some c.deref-expr-items.result.now c.loop-expr.expr-index
    c.loop-expr.types.items (types_in env c.args.exprs.now.items) refl (λ d ds. refl)
    (omega arith) (ap (types_in env) (sym c.deref-expr-items.ensures.value) ∙ c.loop-expr.invariant)
