use Rattle.std.proofs.Common.{arith, false, subst, true, ◌≡◌}
use Rattle.sc_taskset.specs.Flags.{is_set}
use Rattle.sc_taskset.proofs.MarkLemmas.{next_is, next_past}
use Rattle.sc_taskset.proofs.tables.next_pending.Goals as goal

pub returns-then-place-rows : goal.returns-then-place-rows
returns-then-place-rows c =
    next_is c.args.rows.now c.args.marks.now.pending.items c.args.from c.next_flag_in-place.result
    c.requires.marked.pending c.requires.none
    (λ k le l. subst (λ ws. is_set ws k ≡ false) c.deref.ensures.value
    (c.next_flag_in-place.ensures.none k le l))
    (λ l. subst (λ ws. is_set ws c.next_flag_in-place.result ≡ true) c.deref.ensures.value
    (c.next_flag_in-place.ensures.set l))
    c.if-place-rows.true

pub returns-else-place-rows : goal.returns-else-place-rows
returns-else-place-rows c =
    next_past c.args.rows.now c.args.marks.now.pending.items c.args.from c.next_flag_in-place.result
    c.requires.marked.pending c.requires.none
    (λ k le l. subst (λ ws. is_set ws k ≡ false) c.deref.ensures.value
    (c.next_flag_in-place.ensures.none k le l))
    (omega (arith, c.if-place-rows.false))
