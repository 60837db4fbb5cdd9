use Rattle.std.proofs.Common.{◌∙◌, ap, length, arith}
use Rattle.std.proofs.lemmas.List.{length-map, length-append}
use Rattle.sc_value.specs.Datum.{pair}
use Rattle.sc_value.specs.Views.{datum_of}
use Rattle.std.proofs.lemmas.List.{length-replicate}
use Rattle.sc_columns.specs.Columns.{rows_in, group_at}
use Rattle.sc_columns.proofs.VariantLemmas.{at-Pairs, at-Chain, at-Lists, at-Values, at-Same}
use Rattle.sc_columns.proofs.ListLemmas.{length-zip_with}
use Rattle.sc_columns.proofs.columns.+len.Goals as goal

pub returns-in-Pairs : goal.returns-in-Pairs
returns-in-Pairs t c =
    let e = ap length (at-Pairs c.args.column.now c.in-Pairs.a c.in-Pairs.b c.in-Pairs.is)
    ∙ length-zip_with pair (rows_in c.in-Pairs.a.value) (rows_in c.in-Pairs.b.value) in
    let a = ap (λ x. length (rows_in x)) c.deref.ensures in
    let b = ap (λ x. length (rows_in x)) c.deref-in-Pairs.ensures in
    omega (arith, c.len-in-Pairs.ensures, c.len-in-Pairs-2.ensures, c.min.ensures, a, b, e)

pub returns-in-Lists : goal.returns-in-Lists
returns-in-Lists t c =
    let e = ap length (at-Lists c.args.column.now c.in-Lists.spans c.in-Lists.field-1 c.in-Lists.is)
    ∙ length-map c.in-Lists.spans (group_at (rows_in c.in-Lists.field-1.value)) in
    omega (arith, e)

pub returns-in-Values : goal.returns-in-Values
returns-in-Values t c =
    let e = ap length (at-Values c.args.column.now c.in-Values.v c.in-Values.is)
    ∙ length-map c.in-Values.v datum_of in
    omega (arith, e)

pub returns-in-Same : goal.returns-in-Same
returns-in-Same t c =
    let e = ap length (at-Same c.args.column.now c.in-Same.field-0 c.in-Same.n c.in-Same.is)
    ∙ length-replicate c.in-Same.n (datum_of c.in-Same.field-0.value) in
    omega (arith, e)

pub returns-in-Chain : goal.returns-in-Chain
returns-in-Chain t c =
    let e = ap length (at-Chain c.args.column.now c.in-Chain.a c.in-Chain.b c.in-Chain.is)
    ∙ length-append (rows_in c.in-Chain.a.value) (rows_in c.in-Chain.b.value) in
    let a = ap (λ x. length (rows_in x)) c.deref-in-Chain.ensures in
    let b = ap (λ x. length (rows_in x)) c.deref-in-Chain-2.ensures in
    omega (arith, e, a, b)
