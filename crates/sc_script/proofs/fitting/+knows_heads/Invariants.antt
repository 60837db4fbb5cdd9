use Rattle.std.proofs.Common.{◌≡◌, map, drop}
use Rattle.sc_script.specs.Fitting.{all_heads_known}
use Rattle.sc_script.specs.Views.{args_of, arg_data_of}
use Rattle.sc_script.proofs.fitting.+knows_heads.Given as goal

abbrev pub invariant-loop-arg : goal.invariant-loop-arg
invariant-loop-arg l =
    all_heads_known (args_of (map arg_data_of (drop l.arg-index l.args)))
    ≡ all_heads_known (args_of (map arg_data_of l.args))
