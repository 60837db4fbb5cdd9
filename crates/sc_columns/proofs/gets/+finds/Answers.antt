use Rattle.std.proofs.Common.{◌∙◌, ◌-◌, ◌+◌, ◌^◌, min, length, ap, sym, subst, Some, List, arith, slice_get, slice_range, refl}
use Rattle.sc_value.specs.Datum.{Datum, pair, group, items_of}
use Rattle.sc_value.specs.Views.{datum_of}
use Rattle.sc_value.proofs.ViewLemmas.{datum_of-List}
use Rattle.sc_columns.specs.Columns.{rows_in, group_at}
use Rattle.sc_columns.specs.Finding.{IsPast}
use Rattle.sc_columns.proofs.FindingLemmas.{found-behind, found-map, past-both, past-first, past-map, past-replicate, past-second, past_inside, row_inside}
use Rattle.sc_columns.proofs.ListLemmas.{slice_get-append_first, slice_get-replicate, slice_get-zip_with}
use Rattle.sc_columns.proofs.RangeLemmas.{range_more}
use Rattle.sc_columns.proofs.VariantLemmas.{at-Pairs, at-Chain, at-Lists, at-Same}
use Rattle.sc_columns.proofs.gets.+finds.Goals as goal

pub find-returns-in-Past : goal.find-returns-in-Past
find-returns-in-Past t c =
    let a = rows_in c.in-Pairs.a.value in
    let b = rows_in c.in-Pairs.b.value in
    let n = c.in-Past.n in
    let P : List Datum → Type 0 = λ r. IsPast r c.args.i c.min.result in
    let past = past_inside c.deref.result.now c.in-Pairs.a.value c.args.i n
    c.in_ok-n-in-Pairs.field-0 c.deref.ensures c.in_ok-n-in-Pairs.ensures c.in-Past.is in
    subst P (sym (at-Pairs c.args.column.now c.in-Pairs.a c.in-Pairs.b c.in-Pairs.is))
    (past-first a b c.args.i n c.len.result c.min.result past (omega arith)
    (c.len.ensures ∙ ap (λ x. min (length (rows_in x)) (2 ^ 64 - 1)) c.deref-in-Past.ensures)
    c.min.ensures)

pub find-returns-in-Past-2 : goal.find-returns-in-Past-2
find-returns-in-Past-2 t c =
    let P : List Datum → Type 0 = λ r. IsPast r c.args.i c.in-Past-2.n in
    subst P (sym (at-Pairs c.args.column.now c.in-Pairs.a c.in-Pairs.b c.in-Pairs.is))
    (past-second (rows_in c.in-Pairs.a.value) (rows_in c.in-Pairs.b.value) c.args.i c.in-Past-2.n
    (datum_of c.in-Row.first)
    (row_inside c.deref.result.now c.in-Pairs.a.value c.args.i c.in_ok-n-in-Pairs.field-0
    c.in-Row.first
    c.deref.ensures c.in_ok-n-in-Pairs.ensures c.in-Row.is)
    (past_inside c.deref-in-Row.result.now c.in-Pairs.b.value c.args.i c.in-Past-2.n
    c.in_ok-n-in-Row.field-0 c.deref-in-Row.ensures c.in_ok-n-in-Row.ensures c.in-Past-2.is))

pub find-returns-in_ok-pair_of-in-Row-2 : goal.find-returns-in_ok-pair_of-in-Row-2
find-returns-in_ok-pair_of-in-Row-2 t c =
    let i = c.args.i in
    ap (λ r. slice_get r i) (at-Pairs c.args.column.now c.in-Pairs.a c.in-Pairs.b c.in-Pairs.is)
    ∙ slice_get-zip_with pair (rows_in c.in-Pairs.a.value) (rows_in c.in-Pairs.b.value) i
    (datum_of c.in-Row.first) (datum_of c.in-Row-2.second)
    (row_inside c.deref.result.now c.in-Pairs.a.value i c.in_ok-n-in-Pairs.field-0 c.in-Row.first
    c.deref.ensures c.in_ok-n-in-Pairs.ensures c.in-Row.is)
    (row_inside c.deref-in-Row.result.now c.in-Pairs.b.value i c.in_ok-n-in-Row.field-0
    c.in-Row-2.second c.deref-in-Row.ensures c.in_ok-n-in-Row.ensures c.in-Row-2.is)
    ∙ ap Some (sym c.in_ok-pair_of-in-Row-2.ensures)

pub find-returns-in_ok-list_at-in-Some : goal.find-returns-in_ok-list_at-in-Some
find-returns-in_ok-list_at-in-Some t c =
    let items = rows_in c.in-Lists.items.value in
    let list = datum_of-List c.in_ok-list_at-in-Some.field-0
    ∙ ap (λ ds. group (items_of ds)) (c.in_ok-list_at-in-Some.ensures
    ∙ ap (λ x. slice_range (rows_in x) c.in-Some.span.from c.in-Some.span.to)
    c.deref-in-Some.ensures) in
    ap (λ r. slice_get r c.args.i) (at-Lists c.args.column.now c.in-Lists.spans c.in-Lists.items
    c.in-Lists.is)
    ∙ found-map (group_at items) c.in-Lists.spans c.args.i c.in-Some.span _
    (c.in-Some.ensures ∙ ap (λ s. slice_get s c.args.i) c.as_slice-in-Lists.ensures) list

pub find-returns-in-None : goal.find-returns-in-None
find-returns-in-None t c =
    let P : List Datum → Type 0 = λ r. IsPast r c.args.i c.len-in-None.result in
    subst P (sym (at-Lists c.args.column.now c.in-Lists.spans c.in-Lists.items c.in-Lists.is))
    (past-map (group_at (rows_in c.in-Lists.items.value)) c.in-Lists.spans c.args.i
    c.len-in-None.result
    (c.in-None.ensures ∙ ap (λ s. slice_get s c.args.i) c.as_slice-in-Lists.ensures)
    c.len-in-None.ensures)

pub find-returns-in_ok-copy-in-Same : goal.find-returns-in_ok-copy-in-Same
find-returns-in_ok-copy-in-Same t c =
    ap (λ r. slice_get r c.args.i) (at-Same c.args.column.now c.in-Same.v c.in-Same.n c.in-Same.is)
    ∙ slice_get-replicate c.in-Same.n c.args.i (datum_of c.in-Same.v.value) c.if-i-n.true
    ∙ ap Some (sym (c.in_ok-copy-in-Same.ensures ∙ ap datum_of c.deref-then-i-n.ensures))

pub find-returns-else-i-n : goal.find-returns-else-i-n
find-returns-else-i-n t c =
    let P : List Datum → Type 0 = λ r. IsPast r c.args.i c.in-Same.n in
    subst P (sym (at-Same c.args.column.now c.in-Same.v c.in-Same.n c.in-Same.is))
    (past-replicate (datum_of c.in-Same.v.value) c.in-Same.n c.args.i (omega arith))

pub find-returns-in-Row-3 : goal.find-returns-in-Row-3
find-returns-in-Row-3 t c =
    ap (λ r. slice_get r c.args.i) (at-Chain c.args.column.now c.in-Chain.a c.in-Chain.b
    c.in-Chain.is)
    ∙ slice_get-append_first (rows_in c.in-Chain.a.value) (rows_in c.in-Chain.b.value) c.args.i
    (datum_of c.in-Row-3.value)
    (row_inside c.deref-in-Chain.result.now c.in-Chain.a.value c.args.i
    c.in_ok-value-in-Chain.field-0 c.in-Row-3.value c.deref-in-Chain.ensures
    c.in_ok-value-in-Chain.ensures c.in-Row-3.is)

pub find-returns-in-Row-4 : goal.find-returns-in-Row-4
find-returns-in-Row-4 t c =
    let n = c.in-Past-3.n in
    ap (λ r. slice_get r c.args.i) (at-Chain c.args.column.now c.in-Chain.a c.in-Chain.b
    c.in-Chain.is)
    ∙ found-behind (rows_in c.in-Chain.a.value) (rows_in c.in-Chain.b.value) c.args.i n
    (datum_of c.in-Row-4.value)
    (past_inside c.deref-in-Chain.result.now c.in-Chain.a.value c.args.i n
    c.in_ok-value-in-Chain.field-0 c.deref-in-Chain.ensures c.in_ok-value-in-Chain.ensures
    c.in-Past-3.is)
    (row_inside c.deref-in-Past-3.result.now c.in-Chain.b.value (c.args.i - n)
    c.in_ok-value-in-Past-3.field-0 c.in-Row-4.value c.deref-in-Past-3.ensures
    c.in_ok-value-in-Past-3.ensures c.in-Row-4.is)

pub find-returns-in-Past-4 : goal.find-returns-in-Past-4
find-returns-in-Past-4 t c =
    let n = c.in-Past-3.n in
    let m = c.in-Past-4.m in
    let P : List Datum → Type 0 = λ r. IsPast r c.args.i (c.in-Past-3.n + c.in-Past-4.m) in
    subst P (sym (at-Chain c.args.column.now c.in-Chain.a c.in-Chain.b c.in-Chain.is))
    (past-both (rows_in c.in-Chain.a.value) (rows_in c.in-Chain.b.value) c.args.i n m
    (past_inside c.deref-in-Chain.result.now c.in-Chain.a.value c.args.i n
    c.in_ok-value-in-Chain.field-0 c.deref-in-Chain.ensures c.in_ok-value-in-Chain.ensures
    c.in-Past-3.is)
    (past_inside c.deref-in-Past-3.result.now c.in-Chain.b.value (c.args.i - n) m
    c.in_ok-value-in-Past-3.field-0 c.deref-in-Past-3.ensures
    c.in_ok-value-in-Past-3.ensures c.in-Past-4.is))

pub list_at-loop-k-preserved : goal.list_at-loop-k-preserved
list_at-loop-k-preserved t c =
    range_more datum_of (rows_in c.args.items.now) c.loop-k.out.items c.push.new.self.items
    c.args.span.from c.loop-k.k c.in-Row.value
    c.loop-k.invariant c.loop-k.auto.k
    (row_inside c.args.items.now c.args.items.now c.loop-k.k c.in_ok-value.field-0 c.in-Row.value
    refl c.in_ok-value.ensures c.in-Row.is)
    c.in_ok-push-in-Row.ensures.items
