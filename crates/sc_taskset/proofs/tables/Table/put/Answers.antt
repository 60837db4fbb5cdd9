use Rattle.std.proofs.Common.{◌+◌, ◌∙◌, arith, length, sym, ap, cond, not}
use Rattle.std.proofs.lemmas.List.{length-set}
use Rattle.std.proofs.lemmas.List.Sums.{prefix_len-le-length}
use Rattle.std.specs.List.{position_or_len}
use Rattle.sc_taskset.specs.Marks.{is_pending_row}
use Rattle.sc_taskset.specs.Tables.{is_open_row}
use Rattle.sc_taskset.proofs.MarkLemmas.{fit_fewer, fit_kept, marked_put}
use Rattle.sc_taskset.proofs.TableLemmas.{get_same, none_below, open_kept, partitions_kept}
use Rattle.sc_taskset.proofs.tables.Table.put.Goals as goal

pub next_pending-self-inside-requires-clause-there :
    goal.next_pending-self-inside-requires-clause-there
next_pending-self-inside-requires-clause-there c =
    let rows = c.self.inside.rows.items in
    omega (
      arith,
      c.lowered-from.ensures.below,
      c.self.invariant.first,
      prefix_len-le-length (λ r. not (is_pending_row r)) rows,
      ap length c.deref.ensures.value,
      length-set rows c.args.place c.args.row,
    )

pub next_pending-self-inside-requires-clause-none :
    goal.next_pending-self-inside-requires-clause-none
next_pending-self-inside-requires-clause-none c =
    rw c.deref.ensures.value
    (none_below c.self.inside.rows.items c.args.place c.lowered-from.result c.args.row
    (omega (arith, c.lowered-from.ensures.below, c.self.invariant.first))
    (λ e. c.lowered-from.ensures.at (c.is_pending.ensures ∙ e)))

pub put-requires : goal.put-requires
put-requires c =
    fit_fewer c.self.inside.marks (c.args.place + 1) (length c.self.inside.rows.items)
    (let there = rw (← c.self.view_is) at c.requires.there in omega (arith, there))
    c.self.invariant.fit

pub next_pending-self-inside-requires-clause-marked :
    goal.next_pending-self-inside-requires-clause-marked
next_pending-self-inside-requires-clause-marked c =
    rw c.deref.ensures.value
    (marked_put c.self.inside.rows.items c.args.place c.args.row c.self.inside.marks c.put.new.self
    (rw (← c.self.view_is) at c.requires.there) c.self.invariant.marked c.put.ensures)

pub next_pending-self-inside-requires-clause-fit :
    goal.next_pending-self-inside-requires-clause-fit
next_pending-self-inside-requires-clause-fit c =
    let rows = c.self.inside.rows.items in
    rw (c.deref.ensures.value, length-set rows c.args.place c.args.row)
    (fit_kept c.self.inside.marks c.put.new.self c.args.place (length rows) c.args.row
    c.put.ensures c.self.invariant.fit)

pub invariant_of-self : goal.invariant_of-self
invariant_of-self c =
    let rows = c.self.inside.rows.items in
    let there = rw (← c.self.view_is) at c.requires.there in
    let same = rw (← c.self.view_is) at c.requires.same in
    let old =
    ap is_open_row (c.index-old.ensures ∙ get_same rows c.args.place _ c.args.row there) in
    record {
      rising = partitions_kept rows c.args.place c.args.row same c.self.invariant.rising;
      counted = open_kept rows c.args.place c.self.inside.unfinished c.recounted-self-inside.result
          c.args.row there c.self.invariant.counted
          (ap (λ b. c.recounted-self-inside.result + cond b 1 0) (sym old)
          ∙ c.recounted-self-inside.ensures);
      first = c.next_pending-self-inside.ensures
          ∙ ap (position_or_len is_pending_row) c.deref.ensures.value;
      marked = marked_put rows c.args.place c.args.row c.self.inside.marks c.put.new.self there
          c.self.invariant.marked c.put.ensures;
      fit = rw (length-set rows c.args.place c.args.row)
          (fit_kept c.self.inside.marks c.put.new.self c.args.place (length rows) c.args.row
          c.put.ensures c.self.invariant.fit);
    }
