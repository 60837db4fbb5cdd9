use Rattle.std.proofs.Common.{map, arith}
use Rattle.std.proofs.lemmas.Result.{err_from_is_err_and}
use Rattle.std.specs.Vec.Iter.{into_iter_items}
use Rattle.std.specs.Prelude.{Vec}
use Rattle.std.specs.declared.alloc.Global.{Global}
use Rattle.sc_expr.specs.ExprData.{exprs_of}
use Rattle.sc_expr.specs.Views.{expr_data_of}
use Rattle.sc_expr.specs.declared.exprs.Expr.{Expr}
use Rattle.sc_script.specs.Items.{expr_from, exprs_from}
use Rattle.sc_script.specs.Views.{arg_data_of, args_of}
use Rattle.sc_script.proofs.ItemLemmas.{exprs-more, exprs-all, exprs-stopped}
use Rattle.sc_script.proofs.Taken.{not_found}
use Rattle.sc_script.proofs.arguments.+reading.Goals as goal

pub exprs_of-returns-in_err-expr_of : goal.exprs_of-returns-in_err-expr_of
exprs_of-returns-in_err-expr_of t c =
    let p = err_from_is_err_and c.from_residual.result c.from_residual.ensures.1 in
    rw (p.1, p.2) (not_found expr_data_of
    (λ (v : Vec Expr Global). exprs_of (map expr_data_of v.items)) c.in_err-expr_of.field-0.0
    (expr_from c.args.place (arg_data_of c.in-Some.arg))
    (exprs_from c.args.place (args_of (map arg_data_of c.args.args.items)))
    (exprs-stopped c.args.place _ _ c.in-Some.arg c.loop-arg.exprs.items _ c.in-Some.ensures.steps.0
    c.loop-arg.invariant)
    c.in_err-expr_of.ensures)

pub exprs_of-loop-arg-preserved : goal.exprs_of-loop-arg-preserved
exprs_of-loop-arg-preserved t c =
    exprs-more c.args.place _ _ c.in-Some.arg c.loop-arg.exprs.items c.push.new.self.items
    c.in_ok-expr_of.field-0 _ c.in-Some.ensures.steps.0 c.loop-arg.invariant
    c.in_ok-expr_of.ensures c.in_ok-push.ensures.items

pub exprs_of-returns : goal.exprs_of-returns
exprs_of-returns t c =
    exprs-all c.args.place (into_iter_items c.loop-arg.arg-iterator) c.loop-arg.exprs.items _
    (omega (arith, c.in-None.ensures.steps.0)) c.loop-arg.invariant
