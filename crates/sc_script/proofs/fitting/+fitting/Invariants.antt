use Rattle.std.proofs.Common.{◌≡◌, map, drop}
use Rattle.sc_script.specs.Fitting.{fits_kinds}
use Rattle.sc_script.specs.Views.{args_of, arg_data_of}
use Rattle.sc_script.proofs.fitting.+fitting.Given as goal

abbrev pub invariant-fits-loop-arg : goal.invariant-fits-loop-arg
invariant-fits-loop-arg l =
    fits_kinds l.rest (args_of (map arg_data_of (drop l.arg-index l.args)))
    ≡ fits_kinds l.kinds (args_of (map arg_data_of l.args))
