use Rattle.std.proofs.Common.{◌∙◌, ◌++◌, ap, arith, length, map, sym, take, replicate}
use Rattle.std.proofs.lemmas.Result.{IfOk-weaker}
use Rattle.sc_value.specs.Datum.{number, truth, text, pair}
use Rattle.sc_value.specs.Kept.{kept}
use Rattle.sc_value.specs.Views.{datum_of}
use Rattle.sc_value.proofs.KeptLemmas.{kept-map}
use Rattle.sc_columns.specs.Columns.{group_at, rows_in, zip_with}
use Rattle.sc_columns.proofs.MarkLemmas.{kept-append, kept-zip_with}
use Rattle.sc_columns.proofs.VariantLemmas.{at-Bools, at-Chain, at-Ints, at-Lists, at-Pairs, at-Same, at-Texts, at-Values}
use Rattle.sc_columns.proofs.filters.+filtered.Goals as goal

pub returns-in_ok-held_kept-in-Ints : goal.returns-in_ok-held_kept-in-Ints
returns-in_ok-held_kept-in-Ints t c =
    let marks = c.args.marks.now in
    IfOk-weaker c.ints.result _ _ (λ r is. is
    ∙ ap (map number) c.in_ok-held_kept-in-Ints.ensures
    ∙ kept-map number marks c.in-Ints.v
    ∙ ap (kept marks) (sym (at-Ints c.args.column.now c.in-Ints.v c.in-Ints.is))) c.ints.ensures

pub returns-in_ok-held_kept-in-Bools : goal.returns-in_ok-held_kept-in-Bools
returns-in_ok-held_kept-in-Bools t c =
    let marks = c.args.marks.now in
    IfOk-weaker c.bools.result _ _ (λ r is. is
    ∙ ap (map truth) c.in_ok-held_kept-in-Bools.ensures
    ∙ kept-map truth marks c.in-Bools.v
    ∙ ap (kept marks) (sym (at-Bools c.args.column.now c.in-Bools.v c.in-Bools.is)))
    c.bools.ensures

pub returns-in_ok-kept-in-Texts : goal.returns-in_ok-kept-in-Texts
returns-in_ok-kept-in-Texts t c =
    let marks = c.args.marks.now in
    IfOk-weaker c.texts.result _ _ (λ r is. is
    ∙ ap (map text) c.in_ok-kept-in-Texts.ensures
    ∙ kept-map text marks c.in-Texts.t
    ∙ ap (kept marks) (sym (at-Texts c.args.column.now c.in-Texts.t c.in-Texts.is)))
    c.texts.ensures

pub returns-in_ok-second-in-Pairs : goal.returns-in_ok-second-in-Pairs
returns-in_ok-second-in-Pairs t c =
    let marks = c.args.marks.now in
    let a = rows_in c.in-Pairs.a.value in
    let b = rows_in c.in-Pairs.b.value in
    let first = c.in_ok-first-in-Pairs.ensures
    ∙ ap (λ x. kept marks (rows_in x)) c.deref.ensures in
    let second = c.in_ok-second-in-Pairs.ensures
    ∙ ap (λ x. kept marks (rows_in x)) c.deref-in-Pairs.ensures in
    IfOk-weaker c.pairs.result _ _ (λ r is. is
    ∙ ap (λ x. zip_with pair x (rows_in c.in_ok-second-in-Pairs.second.value)) first
    ∙ ap (zip_with pair (kept marks a)) second
    ∙ kept-zip_with pair marks a b
    ∙ ap (kept marks) (sym (at-Pairs c.args.column.now c.in-Pairs.a c.in-Pairs.b c.in-Pairs.is)))
    c.pairs.ensures

pub returns-in_ok-held_kept-in-Lists : goal.returns-in_ok-held_kept-in-Lists
returns-in_ok-held_kept-in-Lists t c =
    let marks = c.args.marks.now in
    let items = rows_in c.in-Lists.items.value in
    IfOk-weaker c.lists.result _ _ (λ r is. is
    ∙ ap (λ x. map (group_at (rows_in x)) c.in_ok-held_kept-in-Lists.field-0)
    c.in_ok-items-in-Lists.ensures
    ∙ ap (map (group_at items)) c.in_ok-held_kept-in-Lists.ensures
    ∙ kept-map (group_at items) marks c.in-Lists.spans
    ∙ ap (kept marks)
    (sym (at-Lists c.args.column.now c.in-Lists.spans c.in-Lists.items c.in-Lists.is)))
    c.lists.ensures

pub returns-in_ok-new-in-Values : goal.returns-in_ok-new-in-Values
returns-in_ok-new-in-Values t c =
    let marks = c.args.marks.now in
    IfOk-weaker c.values.result _ _ (λ r is. is
    ∙ ap (map datum_of) c.in_ok-new-in-Values.ensures
    ∙ c.in_ok-items-in-Values.ensures
    ∙ ap (λ v. kept marks (map datum_of v)) c.as_slice.ensures
    ∙ ap (kept marks) (sym (at-Values c.args.column.now c.in-Values.v c.in-Values.is)))
    c.values.ensures

pub returns-in_ok-try_clone-in-Same : goal.returns-in_ok-try_clone-in-Same
returns-in_ok-try_clone-in-Same t c =
    let marks = c.args.marks.now in
    IfOk-weaker c.same.result _ _ (λ r is. is
    ∙ ap (λ v. replicate c.marked_before.result (datum_of v)) c.in_ok-try_clone-in-Same.ensures
    ∙ c.marked_before.ensures (datum_of c.in-Same.v.value)
    ∙ ap (kept marks) (sym (at-Same c.args.column.now c.in-Same.v c.in-Same.n c.in-Same.is)))
    c.same.ensures

pub returns-in_ok-second-in-Chain : goal.returns-in_ok-second-in-Chain
returns-in_ok-second-in-Chain t c =
    let marks = c.args.marks.now in
    let n = c.min-n.result in
    let a = rows_in c.in-Chain.a.value in
    let b = rows_in c.in-Chain.b.value in
    let same_len = ap (λ x. length (rows_in x)) c.deref-in-Chain.ensures in
    let first = c.in_ok-first-in-Chain.ensures
    ∙ ap (λ x. kept c.split_at.result.0.now (rows_in x)) c.deref-in-Chain-2.ensures
    ∙ ap (λ m. kept m a) c.split_at.ensures.front in
    let second = c.in_ok-second-in-Chain.ensures
    ∙ ap (λ x. kept c.split_at.result.1.now (rows_in x)) c.deref-in-Chain-3.ensures
    ∙ ap (λ m. kept m b) c.split_at.ensures.back in
    IfOk-weaker c.chained.result _ _ (λ r is. is
    ∙ ap (λ x. x ++ rows_in c.in_ok-second-in-Chain.second.value) first
    ∙ ap (λ x. kept (take n marks) a ++ x) second
    ∙ kept-append n marks a b (omega (arith, same_len))
    ∙ ap (kept marks) (sym (at-Chain c.args.column.now c.in-Chain.a c.in-Chain.b c.in-Chain.is)))
    c.chained.ensures
