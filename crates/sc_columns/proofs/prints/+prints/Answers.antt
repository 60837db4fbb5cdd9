use Rattle.std.proofs.Common.{◌≡◌, ◌∙◌, ◌-◌, ◌<◌, append-nil, ap, arith, drop, length, List, subst, sym, take, ℕ}
use Rattle.std.proofs.lemmas.List.{length-drop, length-replicate}
use Rattle.std.proofs.lemmas.Str.{IsUtf8-nil}
use Rattle.std.specs.List.{slice_get, slice_range}
use Rattle.sc_value.specs.Datum.{items_of, pair}
use Rattle.sc_value.specs.Printing.{printed, printed_items}
use Rattle.sc_value.specs.Views.{datum_of}
use Rattle.sc_value.proofs.PrintingLemmas.{kept_behind, kept_more}
use Rattle.sc_columns.specs.Columns.{group_at, rows_in}
use Rattle.sc_columns.specs.declared.columns.Column.{Column}
use Rattle.sc_columns.specs.Prints.{IsWritten, printed_at}
use Rattle.sc_columns.proofs.ListLemmas.{length-zip_with, there}
use Rattle.sc_columns.proofs.PrintLemmas.{items_written, list_written, pair_written, printed-copies, printed-list, printed-missing, printed-pair, refused, writes-text, written-there}
use Rattle.sc_columns.proofs.RangeLemmas.{take_same}
use Rattle.sc_columns.proofs.VariantLemmas.{at-Lists, at-Pairs, at-Same}
use Rattle.sc_columns.proofs.prints.+prints.Goals as goal

pub write_items-returns-in_err-write_separator : goal.write_items-returns-in_err-write_separator
write_items-returns-in_err-write_separator t c =
    let old = c.args.out.now.items in
    let before = c.loop-k.out.items in
    refused _ c.from_residual.result old _ _ c.from_residual.ensures.1
    (kept_more old before _ (kept_behind old _ before c.loop-k.invariant.bytes)
    c.in_err-write_separator.ensures)

pub write_items-returns-in_err-write_row : goal.write_items-returns-in_err-write_row
write_items-returns-in_err-write_row t c =
    let old = c.args.out.now.items in
    let before = c.loop-k.out.items in
    let between = c.write_separator.new.out.items in
    let within : c.loop-k.k < length (rows_in c.args.items.now) = omega arith in
    refused _ c.from_residual-in_err-write_row.result old _ _
    c.from_residual-in_err-write_row.ensures.1
    (kept_more old between _
    (kept_more old before between (kept_behind old _ before c.loop-k.invariant.bytes)
    (kept_behind before _ between c.in_ok-write_separator.ensures.bytes))
    (c.in_err-write_row.ensures within))

pub write_items-loop-k-preserved : goal.write_items-loop-k-preserved
write_items-loop-k-preserved t c =
    let rows = rows_in c.args.items.now in
    let k = c.loop-k.k in
    let within : c.loop-k.k < length (rows_in c.args.items.now) = omega arith in
    let d = there rows k within in
    let before = c.loop-k.out.items in
    let between = c.write_separator.new.out.items in
    let after = c.write_row.new.out.items in
    items_written rows c.args.span.from k d.0 c.loop-k.auto.k d.1 c.args.out.now.items before
    between after
    c.loop-k.invariant c.in_ok-write_separator.ensures
    (written-there rows k d.0 between after d.1 (c.in_ok-write_row.ensures within))

pub write_items-returns : goal.write_items-returns
write_items-returns t c =
    let rows = rows_in c.args.items.now in
    let from = c.args.span.from in
    let to = c.args.span.to in
    let k = c.loop-k.k in
    let same : slice_range (rows_in c.args.items.now) c.args.span.from c.loop-k.k
    ≡ slice_range (rows_in c.args.items.now) c.args.span.from c.args.span.to =
    take_same (k - from) (to - from) (drop from rows) (omega (arith, length-drop from rows)) in
    let P : List ℕ → Type 0 = IsWritten c.args.out.now.items c.loop-k.out.items in
    subst P (ap (λ ds. printed_items (items_of ds)) same) c.loop-k.invariant

pub write_row-returns-in_err-write_row-in-Pairs : goal.write_row-returns-in_err-write_row-in-Pairs
write_row-returns-in_err-write_row-in-Pairs t c = λ h.
    let old = c.args.out.now.items in
    let m1 = c.extend_from_slice.new.self.items in
    let are = at-Pairs c.args.column.now c.in-Pairs.a c.in-Pairs.b c.in-Pairs.is in
    let e = ap length are ∙ length-zip_with pair (rows_in c.in-Pairs.a.value)
    (rows_in c.in-Pairs.b.value) in
    let a = ap (λ x. length (rows_in x)) c.deref.ensures in
    refused _ c.from_residual-in_err-write_row-in-Pairs.result old _ _
    c.from_residual-in_err-write_row-in-Pairs.ensures.1
    (kept_more old m1 _ (kept_behind old _ m1 c.in_ok-extend_from_slice-in-Pairs.ensures.items)
    (c.in_err-write_row-in-Pairs.ensures (omega (arith, h, e, a))))

pub write_row-returns-in_err-extend_from_slice-in-Pairs-2 :
    goal.write_row-returns-in_err-extend_from_slice-in-Pairs-2
write_row-returns-in_err-extend_from_slice-in-Pairs-2 t c = λ h.
    let old = c.args.out.now.items in
    let m1 = c.extend_from_slice.new.self.items in
    let m2 = c.write_row.new.out.items in
    let are = at-Pairs c.args.column.now c.in-Pairs.a c.in-Pairs.b c.in-Pairs.is in
    let e = ap length are ∙ length-zip_with pair (rows_in c.in-Pairs.a.value)
    (rows_in c.in-Pairs.b.value) in
    let a = ap (λ x. length (rows_in x)) c.deref.ensures in
    let first = c.in_ok-write_row-in-Pairs.ensures (omega (arith, h, e, a)) in
    refused _ c.from_residual-in_err-extend_from_slice-in-Pairs-2.result old _ _
    c.from_residual-in_err-extend_from_slice-in-Pairs-2.ensures.1
    (ap (take (length old)) c.in_err-extend_from_slice-in-Pairs-2.ensures.items
    ∙ kept_more old m1 m2 (kept_behind old _ m1 c.in_ok-extend_from_slice-in-Pairs.ensures.items)
    (kept_behind m1 _ m2 first.bytes))

pub write_row-returns-in_err-write_row-in-Pairs-2 :
    goal.write_row-returns-in_err-write_row-in-Pairs-2
write_row-returns-in_err-write_row-in-Pairs-2 t c = λ h.
    let old = c.args.out.now.items in
    let m1 = c.extend_from_slice.new.self.items in
    let m2 = c.write_row.new.out.items in
    let m3 = c.extend_from_slice-in-Pairs.new.self.items in
    let are = at-Pairs c.args.column.now c.in-Pairs.a c.in-Pairs.b c.in-Pairs.is in
    let e = ap length are ∙ length-zip_with pair (rows_in c.in-Pairs.a.value)
    (rows_in c.in-Pairs.b.value) in
    let a = ap (λ x. length (rows_in x)) c.deref.ensures in
    let b = ap (λ x. length (rows_in x)) c.deref-in-Pairs.ensures in
    let first = c.in_ok-write_row-in-Pairs.ensures (omega (arith, h, e, a)) in
    refused _ c.from_residual-in_err-write_row-in-Pairs-2.result old _ _
    c.from_residual-in_err-write_row-in-Pairs-2.ensures.1
    (kept_more old m3 _
    (kept_more old m2 m3
    (kept_more old m1 m2
    (kept_behind old _ m1 c.in_ok-extend_from_slice-in-Pairs.ensures.items)
    (kept_behind m1 _ m2 first.bytes))
    (kept_behind m2 _ m3 c.in_ok-extend_from_slice-in-Pairs-2.ensures.items))
    (c.in_err-write_row-in-Pairs-2.ensures (omega (arith, h, e, b))))

pub write_row-returns-in_ok-write_row-in-Pairs-2 : goal.write_row-returns-in_ok-write_row-in-Pairs-2
write_row-returns-in_ok-write_row-in-Pairs-2 t c = λ h.
    let i = c.args.i in
    let a = rows_in c.in-Pairs.a.value in
    let b = rows_in c.in-Pairs.b.value in
    let m1 = c.extend_from_slice.new.self.items in
    let m2 = c.write_row.new.out.items in
    let m3 = c.extend_from_slice-in-Pairs.new.self.items in
    let m4 = c.write_row-in-Pairs.new.out.items in
    let are = at-Pairs c.args.column.now c.in-Pairs.a c.in-Pairs.b c.in-Pairs.is in
    let e = ap length are ∙ length-zip_with pair a b in
    let a_len = ap (λ x. length (rows_in x)) c.deref.ensures in
    let b_len = ap (λ x. length (rows_in x)) c.deref-in-Pairs.ensures in
    let P : Column → Type 0 = λ x. IsWritten m1 m2 (printed_at (rows_in x) i) in
    let Q : Column → Type 0 = λ x. IsWritten m3 m4 (printed_at (rows_in x) i) in
    let first = subst P c.deref.ensures
    (c.in_ok-write_row-in-Pairs.ensures (omega (arith, h, e, a_len))) in
    let second = subst Q c.deref-in-Pairs.ensures
    (c.in_ok-write_row-in-Pairs-2.ensures (omega (arith, h, e, b_len))) in
    let text = ap (λ r. printed_at r i) are
    ∙ printed-pair a b i (let lens = ap length are in omega (arith, h, lens)) in
    writes-text c.extend_from_slice-in-Pairs-2.result c.args.out.now.items _ _ _ (sym text)
    (pair_written c.extend_from_slice-in-Pairs-2.result c.args.out.now.items m1 m2 m3 m4 _
    (printed_at a i) (printed_at b i)
    c.in_ok-extend_from_slice-in-Pairs.ensures.items first
    c.in_ok-extend_from_slice-in-Pairs-2.ensures.items second
    c.extend_from_slice-in-Pairs-2.ensures.items)

pub write_row-returns-in_ok-write_items-in-Some : goal.write_row-returns-in_ok-write_items-in-Some
write_row-returns-in_ok-write_items-in-Some t c = λ h.
    let i = c.args.i in
    let s = c.in-Some.span in
    let items = rows_in c.in-Lists.items.value in
    let m1 = c.extend_from_slice-in-Some.new.self.items in
    let m2 = c.write_items.new.out.items in
    let P : Column → Type 0 =
    λ x. IsWritten m1 m2 (printed_items (items_of (slice_range (rows_in x) s.from s.to))) in
    let text = ap (λ r. printed_at r i)
    (at-Lists c.args.column.now c.in-Lists.spans c.in-Lists.items c.in-Lists.is)
    ∙ printed-list items c.in-Lists.spans i s
    (c.in-Some.ensures ∙ ap (λ x. slice_get x i) c.as_slice-in-Lists.ensures) in
    writes-text c.extend_from_slice-in-Some-2.result c.args.out.now.items _ _ _ (sym text)
    (list_written c.extend_from_slice-in-Some-2.result c.args.out.now.items m1 m2 _ _
    c.in_ok-extend_from_slice-in-Some.ensures.items
    (subst P c.deref-in-Some.ensures c.in_ok-write_items-in-Some.ensures)
    c.extend_from_slice-in-Some-2.ensures.items)

pub write_row-returns-in-None : goal.write_row-returns-in-None
write_row-returns-in-None t c = λ h.
    let i = c.args.i in
    let old = c.args.out.now.items in
    let none = ap (λ r. printed_at r i)
    (at-Lists c.args.column.now c.in-Lists.spans c.in-Lists.items c.in-Lists.is)
    ∙ printed-missing (group_at (rows_in c.in-Lists.items.value)) c.in-Lists.spans i
    (c.in-None.ensures ∙ ap (λ x. slice_get x i) c.as_slice-in-Lists.ensures) in
    let P : List ℕ → Type 0 = IsWritten old old in
    subst P (sym none) (record { bytes = sym (append-nil old); utf8 = IsUtf8-nil })

pub write_row-returns-in-Same : goal.write_row-returns-in-Same
write_row-returns-in-Same t c = λ h.
    let n = c.in-Same.field-1 in
    let d = datum_of c.in-Same.value.value in
    let are = at-Same c.args.column.now c.in-Same.value n c.in-Same.is in
    let lens = ap length are ∙ length-replicate n d in
    let text = ap printed (ap datum_of c.deref-in-Same.ensures)
    ∙ sym (ap (λ r. printed_at r c.args.i) are
    ∙ printed-copies n c.args.i d (omega (arith, h, lens))) in
    writes-text c.write_value.result c.args.out.now.items _ _ _ text c.write_value.ensures
