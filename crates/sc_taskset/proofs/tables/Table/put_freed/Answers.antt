use Rattle.std.proofs.Common.{◌≡◌, ◌⊎◌, ◌+◌, ◌∙◌, arith, length, sym, subst, ap, cond, true}
use Rattle.std.proofs.lemmas.List.{length-set}
use Rattle.sc_taskset.specs.Tables.{is_open_row}
use Rattle.sc_taskset.proofs.FreedLemmas.{first_freed}
use Rattle.sc_taskset.proofs.MarkLemmas.{fit_fewer, fit_kept, marked_put}
use Rattle.sc_taskset.proofs.TableLemmas.{get_same, open_kept, partitions_kept}
use Rattle.sc_taskset.proofs.tables.Table.put_freed.Goals as goal

pub put-requires : goal.put-requires
put-requires c =
    fit_fewer c.self.inside.marks (c.args.place + 1) (length c.self.inside.rows.items)
    (let there = rw (← c.self.view_is) at c.requires.there in omega (arith, there))
    c.self.invariant.fit

pub invariant_of-self : goal.invariant_of-self
invariant_of-self c =
    let rows = c.self.inside.rows.items in
    let there = rw (← c.self.view_is) at c.requires.there in
    let same = rw (← c.self.view_is) at c.requires.same in
    let freed = rw (← c.self.view_is) at c.requires.freed in
    let pending = c.is_pending.ensures in
    let old =
    ap is_open_row (c.index-old.ensures ∙ get_same rows c.args.place _ c.args.row there) in
    record {
      rising = partitions_kept rows c.args.place c.args.row same c.self.invariant.rising;
      counted = open_kept rows c.args.place c.self.inside.unfinished c.recounted-self-inside.result
          c.args.row there c.self.invariant.counted
          (ap (λ b. c.recounted-self-inside.result + cond b 1 0) (sym old)
          ∙ c.recounted-self-inside.ensures);
      first = first_freed rows c.args.place c.self.inside.pending c.lowered-self-inside.result
          c.args.row there c.self.invariant.first freed c.lowered-self-inside.ensures.below
          (λ e. c.lowered-self-inside.ensures.at (pending ∙ e))
          (subst (λ b. (c.lowered-self-inside.result ≡ c.self.inside.pending)
          ⊎ ((c.lowered-self-inside.result ≡ c.args.place) × (b ≡ true)))
          pending c.lowered-self-inside.ensures.one);
      marked = marked_put rows c.args.place c.args.row c.self.inside.marks c.put.new.self there
          c.self.invariant.marked c.put.ensures;
      fit = rw (length-set rows c.args.place c.args.row)
          (fit_kept c.self.inside.marks c.put.new.self c.args.place (length rows) c.args.row
          c.put.ensures c.self.invariant.fit);
    }
