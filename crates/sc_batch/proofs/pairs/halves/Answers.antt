use Rattle.std.proofs.Common.{◌∙◌, ap, map, subst}
use Rattle.std.specs.Option.{IfSome}
use Rattle.sc_columns.specs.Parts.{ArePairs}
use Rattle.sc_expr.specs.Heads.{first_of, second_of}
use Rattle.sc_batch.proofs.PairLemmas.{first_column, second_column}
use Rattle.sc_batch.proofs.pairs.halves.Goals as goal

pub returns-in-Some-clause-first : goal.returns-in-Some-clause-first
returns-in-Some-clause-first c =
    first_column c.in_ok-rows.rows c.in-Some.both
    (subst (λ o. IfSome o (ArePairs c.in_ok-rows.rows)) c.in-Some.is c.in_ok-both.ensures)
    ∙ ap (map first_of) c.in_ok-rows.ensures

pub returns-in-Some-clause-second : goal.returns-in-Some-clause-second
returns-in-Some-clause-second c =
    second_column c.in_ok-rows.rows c.in-Some.both
    (subst (λ o. IfSome o (ArePairs c.in_ok-rows.rows)) c.in-Some.is c.in_ok-both.ensures)
    ∙ ap (map second_of) c.in_ok-rows.ensures
