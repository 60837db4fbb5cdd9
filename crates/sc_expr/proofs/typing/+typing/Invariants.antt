use Rattle.std.proofs.Common.{◌≡◌, Some, map, drop}
use Rattle.sc_base.proofs.Gathering.{gathered}
use Rattle.sc_value.specs.Views.{type_data_of}
use Rattle.sc_expr.specs.Schemes.{with_type}
use Rattle.sc_expr.specs.Views.{type_env_data_of}
use Rattle.sc_expr.proofs.TypeLemmas.{types_in}
use Rattle.sc_expr.proofs.typing.+typing.Given as goal

abbrev pub invariant-types_of-loop-expr : goal.invariant-types_of-loop-expr
invariant-types_of-loop-expr l =
    types_in (type_env_data_of l.env) l.expr-items
    ≡ gathered with_type Some (map type_data_of l.types.items)
    (types_in (type_env_data_of l.env) (drop l.expr-index l.expr-items))
