-- Operations one after the other, over rows in two runs.
use Rattle.std.proofs.Common.{◌≡◌, ◌∙◌, ℕ, ◌+◌, ◌<◌, true, List, [], ◌∷◌, Option, Some, None, Ok, Err, get_or, length, take, refl, ap, sym}
use Rattle.std.proofs.lemmas.Bool.{false≢true}
use Rattle.std.proofs.lemmas.List.Sums.{fold_more}
use Rattle.std.specs.Option.{is_some}
use Rattle.sc_value.specs.Datum.{Datum}
use Rattle.sc_expr.specs.ExprData.{ExprData}
use Rattle.sc_expr.specs.Heads.{Outcome}
use Rattle.sc_expr.specs.Views.{expr_data_of}
use Rattle.sc_expr.specs.declared.exprs.Raise.{Raise}
use Rattle.sc_lineage.specs.Narrow.{at_row, each_stream, element_of, given_of}
use Rattle.sc_lineage.specs.Streams.{each_gives, ended_stream, unless_raised, with_outcome}
use Rattle.sc_lineage.specs.declared.nodes.Elementwise.{Elementwise}
use Rattle.sc_lineage.specs.declared.streams.Stream.{Stream}
use Rattle.sc_ops.specs.Chains.{chain_stream}
use Rattle.sc_ops.specs.declared.chains.Step.{Step}
use Rattle.sc_ops.proofs.GivenLemmas.{GivesInRuns, each_gives-append}

-- a stream behind another, unless that raises
abbrev pub followed_by : Stream → Stream → Stream
followed_by s t = unless_raised s.rows s.raise t

-- rows that end with a raise give some that end with one
raise_left : (given : Datum → Datum → List Datum) (f : Datum → Outcome) (ds : List Datum)
    (r : Raise) → is_some (each_gives given f ds (Some r)).raise ≡ true
raise_left given f [] r = refl
raise_left given f (d ∷ ds) r = one (f d) (each_gives given f ds (Some r)) (raise_left given f ds r)
  where
    one : (o : Outcome) (rest : Stream) → is_some rest.raise ≡ true
        → is_some (with_outcome (given d) o rest).raise ≡ true
    one (Ok v) rest raised = raised
    one (Err s) rest raised = refl

-- nothing comes behind a raise
nothing_behind : (rows : List Datum) (end : Option Raise) (t : Stream) → is_some end ≡ true
    → record { rows = rows; raise = end } ≡ unless_raised rows end t
nothing_behind rows None t raised = absurd (false≢true raised)
nothing_behind rows (Some r) t raised = refl

-- an operation on two streams
each_stream-followed : (kind : Elementwise) (e : ExprData) (rows : List Datum)
    (end : Option Raise) (t : Stream)
    → each_stream kind e (unless_raised rows end t)
    ≡ followed_by (each_stream kind e (record { rows = rows; raise = end })) (each_stream kind e t)
each_stream-followed kind e rows None t =
    each_gives-append (given_of kind) (λ d. at_row e (element_of kind d)) rows t.rows t.raise
each_stream-followed kind e rows (Some r) t =
    let s = each_stream kind e (record { rows = rows; raise = Some r }) in
    nothing_behind s.rows s.raise (each_stream kind e t)
    (raise_left (given_of kind) (λ d. at_row e (element_of kind d)) rows r)

-- several on two streams
chain_stream-followed : (steps : List Step) (s t : Stream)
    → chain_stream steps (followed_by s t)
    ≡ followed_by (chain_stream steps s) (chain_stream steps t)
chain_stream-followed [] s t = refl
chain_stream-followed (step ∷ steps) s t =
    let each : Stream → Stream = each_stream step.kind (expr_data_of step.expr.now) in
    ap (chain_stream steps)
    (each_stream-followed step.kind (expr_data_of step.expr.now) s.rows s.raise t)
    ∙ chain_stream-followed steps (each s) (each t)

-- what several give of rows
abbrev pub chain_gives : List Step → List Datum → Option Raise → Stream
chain_gives steps rows end = chain_stream steps (record { rows = rows; raise = end })

-- one operation more
pub chain-more : (steps : List Step) (rows : List Datum) (end : Option Raise) (i : ℕ) (step : Step)
    → i < length steps → step ≡ get_or steps i step
    → each_stream step.kind (expr_data_of step.expr.now) (chain_gives (take i steps) rows end)
    ≡ chain_gives (take (i + 1) steps) rows end
chain-more steps rows end i step within at =
    let s : Stream = record { rows = rows; raise = end } in
    let next : Step → Stream = λ o. each_stream o.kind (expr_data_of o.expr.now)
    (chain_stream (take i steps) s) in
    ap next at
    ∙ sym (fold_more (λ (t : Stream) (o : Step). each_stream o.kind (expr_data_of o.expr.now) t) s
    steps i step within)

pub chain-in_runs : (steps : List Step) → GivesInRuns (chain_gives steps)
chain-in_runs steps xs ys end =
    chain_stream-followed steps (record { rows = xs; raise = None })
    (record { rows = ys; raise = end })

-- of no rows nothing comes but their end
pub chain-ended : (steps : List Step) (end : Option Raise)
    → chain_stream steps (ended_stream end) ≡ ended_stream end
chain-ended [] end = refl
chain-ended (step ∷ steps) end = chain-ended steps end
