use Rattle.std.proofs.Common.{◌≡◌, map, drop}
use Rattle.std.specs.Prelude.{Ok}
use Rattle.sc_base.proofs.Gathering.{gathered}
use Rattle.sc_value.specs.Views.{datum_of}
use Rattle.sc_expr.specs.Meaning.{in_front}
use Rattle.sc_expr.specs.Views.{env_data_of}
use Rattle.sc_expr.proofs.OutcomeLemmas.{values_in}
use Rattle.sc_expr.proofs.evaluation.+evaluating.Given as goal

abbrev pub invariant-eval_all-loop-expr : goal.invariant-eval_all-loop-expr
invariant-eval_all-loop-expr l =
    values_in (env_data_of l.env) l.expr-items
    ≡ gathered in_front Ok (map datum_of l.values.items)
    (values_in (env_data_of l.env) (drop l.expr-index l.expr-items))
