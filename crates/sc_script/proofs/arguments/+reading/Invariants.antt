use Rattle.std.proofs.Common.{◌≡◌, map, Some}
use Rattle.sc_base.proofs.Gathering.{gathered}
use Rattle.sc_expr.specs.Views.{expr_data_of}
use Rattle.sc_script.specs.Items.{exprs_from, with_expr}
use Rattle.sc_script.specs.Views.{arg_data_of, args_left, args_of}
use Rattle.sc_script.proofs.arguments.+reading.Given as goal

abbrev pub invariant-exprs_of-loop-arg : goal.invariant-exprs_of-loop-arg
invariant-exprs_of-loop-arg l =
    exprs_from l.place (args_of (map arg_data_of l.fn.args.items))
    ≡ gathered with_expr Some (map expr_data_of l.exprs.items)
    (exprs_from l.place (args_left l.arg-iterator))
