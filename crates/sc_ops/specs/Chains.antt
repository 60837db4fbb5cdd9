-- Operations on each row of a stream, one after the other.
use Rattle.std.specs.Prelude.{List, fold}
use Rattle.sc_expr.specs.Views.{expr_data_of}
use Rattle.sc_lineage.specs.Narrow.{each_stream}
use Rattle.sc_lineage.specs.declared.streams.Stream.{Stream}
use Rattle.sc_ops.specs.declared.chains.Step.{Step}

-- what the first operation gives of a stream goes into the next, and so on
abbrev pub chain_stream : List Step → Stream → Stream
chain_stream steps s =
    fold (λ t step. each_stream step.kind (expr_data_of step.expr.now) t) s steps
