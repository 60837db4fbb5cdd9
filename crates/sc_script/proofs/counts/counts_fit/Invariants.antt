use Rattle.std.proofs.Common.{◌≡◌, map, drop}
use Rattle.sc_script.specs.Lines.{counts_fit}
use Rattle.sc_script.specs.Views.{args_of, arg_data_of}
use Rattle.sc_script.proofs.counts.counts_fit.Given as goal

abbrev pub invariant-loop-arg : goal.invariant-loop-arg
invariant-loop-arg l =
    counts_fit l.limit l.rest (args_of (map arg_data_of (drop l.arg-index l.args)))
    ≡ counts_fit l.limit l.kinds (args_of (map arg_data_of l.args))
