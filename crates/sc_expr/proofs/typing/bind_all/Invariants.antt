use Rattle.std.proofs.Common.{◌≡◌, map, drop}
use Rattle.sc_value.specs.Views.{type_data_of}
use Rattle.sc_expr.specs.Schemes.{all_matched, nothing_bound}
use Rattle.sc_expr.specs.BoundViews.{bound_data_of}
use Rattle.sc_expr.proofs.typing.bind_all.Given as goal

abbrev pub invariant-loop-t : goal.invariant-loop-t
invariant-loop-t l =
    all_matched l.patterns (map type_data_of l.types) nothing_bound
    ≡ all_matched l.rest (map type_data_of (drop l.t-index l.types)) (bound_data_of l.bound)
