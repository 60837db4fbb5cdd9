use Rattle.std.proofs.Common.{◌∙◌, ◌++◌, ap, arith, map, min, length, ◌^◌, ◌-◌, slice_range, replicate}
use Rattle.std.proofs.lemmas.Result.{IfOk-weaker}
use Rattle.sc_value.specs.Datum.{number, truth, text, pair}
use Rattle.sc_value.specs.Views.{datum_of}
use Rattle.sc_columns.specs.Columns.{group_at, rows_in}
use Rattle.sc_columns.proofs.RangeLemmas.{part-both, part-map, part-replicate, part-second, part-zip_with}
use Rattle.sc_columns.proofs.VariantLemmas.{at-Bools, at-Chain, at-Ints, at-Lists, at-Pairs, at-Same, at-Texts, at-Values}
use Rattle.sc_columns.proofs.parts.+part.Goals as goal

pub returns-in_ok-held_part-in-Ints : goal.returns-in_ok-held_part-in-Ints
returns-in_ok-held_part-in-Ints t c =
    IfOk-weaker c.ints.result _ _ (λ r is. is
    ∙ part-map number c.in-Ints.v c.in_ok-held_part-in-Ints.field-0 (rows_in c.args.column.now)
    c.args.from c.args.to (at-Ints c.args.column.now c.in-Ints.v c.in-Ints.is)
    c.in_ok-held_part-in-Ints.ensures) c.ints.ensures

pub returns-in_ok-held_part-in-Bools : goal.returns-in_ok-held_part-in-Bools
returns-in_ok-held_part-in-Bools t c =
    IfOk-weaker c.bools.result _ _ (λ r is. is
    ∙ part-map truth c.in-Bools.v c.in_ok-held_part-in-Bools.field-0 (rows_in c.args.column.now)
    c.args.from c.args.to (at-Bools c.args.column.now c.in-Bools.v c.in-Bools.is)
    c.in_ok-held_part-in-Bools.ensures) c.bools.ensures

pub returns-in_ok-texts_of-in-Texts : goal.returns-in_ok-texts_of-in-Texts
returns-in_ok-texts_of-in-Texts t c =
    IfOk-weaker c.texts.result _ _ (λ r is. is
    ∙ part-map text c.in-Texts.t c.in_ok-texts_of-in-Texts.field-0 (rows_in c.args.column.now)
    c.args.from c.args.to (at-Texts c.args.column.now c.in-Texts.t c.in-Texts.is)
    c.in_ok-texts_of-in-Texts.ensures) c.texts.ensures

pub returns-in_ok-held_part-in-Values : goal.returns-in_ok-held_part-in-Values
returns-in_ok-held_part-in-Values t c =
    IfOk-weaker c.values.result _ _ (λ r is. is
    ∙ part-map datum_of c.in-Values.v c.in_ok-held_part-in-Values.field-0
    (rows_in c.args.column.now) c.args.from c.args.to
    (at-Values c.args.column.now c.in-Values.v c.in-Values.is)
    c.in_ok-held_part-in-Values.ensures) c.values.ensures

pub returns-in_ok-second-in-Pairs : goal.returns-in_ok-second-in-Pairs
returns-in_ok-second-in-Pairs t c =
    let from = c.args.from in
    let to = c.args.to in
    IfOk-weaker c.pairs.result _ _ (λ r is. is
    ∙ part-zip_with pair (rows_in c.in-Pairs.a.value) (rows_in c.in_ok-first-in-Pairs.first.value)
    (rows_in c.in-Pairs.b.value) (rows_in c.in_ok-second-in-Pairs.second.value)
    (rows_in c.args.column.now) from to
    (at-Pairs c.args.column.now c.in-Pairs.a c.in-Pairs.b c.in-Pairs.is)
    (c.in_ok-first-in-Pairs.ensures ∙ ap (λ x. slice_range (rows_in x) from to) c.deref.ensures)
    (c.in_ok-second-in-Pairs.ensures
    ∙ ap (λ x. slice_range (rows_in x) from to) c.deref-in-Pairs.ensures)) c.pairs.ensures

pub returns-in_ok-held_part-in-Lists : goal.returns-in_ok-held_part-in-Lists
returns-in_ok-held_part-in-Lists t c =
    let items = rows_in c.in-Lists.items.value in
    IfOk-weaker c.lists.result _ _ (λ r is. is
    ∙ ap (λ x. map (group_at (rows_in x)) c.in_ok-held_part-in-Lists.field-0)
    c.in_ok-items-in-Lists.ensures
    ∙ part-map (group_at items) c.in-Lists.spans c.in_ok-held_part-in-Lists.field-0
    (rows_in c.args.column.now) c.args.from c.args.to
    (at-Lists c.args.column.now c.in-Lists.spans c.in-Lists.items c.in-Lists.is)
    c.in_ok-held_part-in-Lists.ensures) c.lists.ensures

pub returns-in_ok-try_clone-in-Same : goal.returns-in_ok-try_clone-in-Same
returns-in_ok-try_clone-in-Same t c =
    IfOk-weaker c.same.result _ _ (λ r is. is
    ∙ ap (λ v. replicate c.saturating_sub-count.result (datum_of v))
    c.in_ok-try_clone-in-Same.ensures
    ∙ part-replicate c.in-Same.n c.saturating_sub-count.result (datum_of c.in-Same.v.value)
    (rows_in c.args.column.now) c.args.from c.args.to
    (at-Same c.args.column.now c.in-Same.v c.in-Same.n c.in-Same.is) (omega arith)) c.same.ensures

pub returns-then-from-n : goal.returns-then-from-n
returns-then-from-n t c =
    let a = rows_in c.in-Chain.a.value in
    let b = rows_in c.in-Chain.b.value in
    let n = c.len-n.result in
    c.in_ok-second-in-Chain.ensures
    ∙ ap (λ x. slice_range (rows_in x) c.saturating_sub.result c.saturating_sub-in-Chain.result)
    c.deref-in-Chain-2.ensures
    ∙ ap (λ m. slice_range b m c.saturating_sub-in-Chain.result) c.saturating_sub.ensures
    ∙ ap (slice_range b (c.args.from - n)) c.saturating_sub-in-Chain.ensures
    ∙ part-second a b (rows_in c.args.column.now) c.args.from c.args.to n
    (at-Chain c.args.column.now c.in-Chain.a c.in-Chain.b c.in-Chain.is)
    (c.len-n.ensures ∙ ap (λ x. min (length (rows_in x)) (2 ^ 64 - 1)) c.deref-in-Chain.ensures)
    (omega arith) (omega arith)

pub returns-in_ok-first-in-Chain : goal.returns-in_ok-first-in-Chain
returns-in_ok-first-in-Chain t c =
    let a = rows_in c.in-Chain.a.value in
    let b = rows_in c.in-Chain.b.value in
    let n = c.len-n.result in
    let first = c.in_ok-first-in-Chain.ensures
    ∙ ap (λ x. slice_range (rows_in x) c.args.from n) c.deref-in-Chain-3.ensures in
    let second = c.in_ok-second-in-Chain.ensures
    ∙ ap (λ x. slice_range (rows_in x) c.saturating_sub.result c.saturating_sub-in-Chain.result)
    c.deref-in-Chain-2.ensures
    ∙ ap (λ m. slice_range b m c.saturating_sub-in-Chain.result) c.saturating_sub.ensures
    ∙ ap (slice_range b (c.args.from - n)) c.saturating_sub-in-Chain.ensures in
    IfOk-weaker c.chained.result _ _ (λ r is. is
    ∙ ap (λ x. x ++ rows_in c.in_ok-second-in-Chain.second.value) first
    ∙ ap (λ x. slice_range a c.args.from n ++ x) second
    ∙ part-both a b (rows_in c.args.column.now) c.args.from c.args.to n
    (at-Chain c.args.column.now c.in-Chain.a c.in-Chain.b c.in-Chain.is)
    (c.len-n.ensures ∙ ap (λ x. min (length (rows_in x)) (2 ^ 64 - 1)) c.deref-in-Chain.ensures)
    (omega arith) (omega arith)) c.chained.ensures
