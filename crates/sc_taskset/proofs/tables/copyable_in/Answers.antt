use Rattle.std.proofs.Common.{arith, false, subst, sym, true, ◌+◌, ◌≡◌, ◌∙◌}
use Rattle.sc_taskset.specs.Flags.{is_set}
use Rattle.sc_taskset.specs.Marks.{is_single_row}
use Rattle.sc_taskset.specs.Paces.{slow_at}
use Rattle.sc_taskset.specs.Tables.{is_copyable_row}
use Rattle.sc_taskset.proofs.LookLemmas.{count_take_all, count_take_more, single_more}
use Rattle.sc_taskset.proofs.MarkLemmas.{found_first, found_never, none_copyable, not_copyable}
use Rattle.sc_taskset.proofs.tables.copyable_in.Goals as goal

pub loop-place-init : goal.loop-place-init
loop-place-init g c =
    let words = c.deref.ensures.value in
    let looked = c.next_flag-place.ensures.looked in
    record {
      below = none_copyable (slow_at c.args.pace) c.args.exec c.args.rows.now
          c.args.marks.now.single.items 0 c.next_flag-place.result c.requires.marked.single
          (λ k d m l. absurd (omega (arith, m)))
          (λ k le l. subst (λ ws. is_set ws k ≡ false) words
          (c.next_flag-place.ensures.none k le l));
      marked = λ l. subst (λ ws. is_set ws c.next_flag-place.result ≡ true) words
          (c.next_flag-place.ensures.set l);
      steps = omega (arith, looked);
    }

pub returns-then-is_copyable-clause-first : goal.returns-then-is_copyable-clause-first
returns-then-is_copyable-clause-first g c =
    found_first (is_copyable_row (slow_at c.args.pace) c.args.exec) c.args.rows.now
    c.loop-place.place _ c.loop-place-test.true c.loop-place.invariant.below
    (sym c.is_copyable.ensures ∙ c.if-is_copyable.true)

pub returns-then-is_copyable-clause-looked : goal.returns-then-is_copyable-clause-looked
returns-then-is_copyable-clause-looked g c =
    let rows = c.args.rows.now in
    let l = c.loop-place-test.true in
    let one = c.tick.ensures in
    let so_far = c.loop-place.invariant.steps in
    let more = single_more rows c.args.marks.now.single.items c.loop-place.place
    c.requires.marked.single l (c.loop-place.invariant.marked l) in
    let all = count_take_all is_single_row rows (c.loop-place.place + 1) in
    omega (arith, l, one, so_far, more, all)

pub loop-place-preserved : goal.loop-place-preserved
loop-place-preserved g c =
    let rows = c.args.rows.now in
    let words = c.deref-in-loop-place.ensures.value in
    let next = c.next_flag-place-in-loop-place.result in
    let l = c.loop-place-test.true in
    let one = c.tick.ensures in
    let looked = c.next_flag-place-in-loop-place.ensures.looked in
    let so_far = c.loop-place.invariant.steps in
    let single = single_more rows c.args.marks.now.single.items c.loop-place.place
    c.requires.marked.single l (c.loop-place.invariant.marked l) in
    let more = count_take_more is_single_row rows (c.loop-place.place + 1) next
    c.next_flag-place-in-loop-place.ensures.from in
    record {
      below = none_copyable (slow_at c.args.pace) c.args.exec rows
          c.args.marks.now.single.items (c.loop-place.place + 1) next
          c.requires.marked.single
          (not_copyable (slow_at c.args.pace) c.args.exec rows c.loop-place.place _
          l (sym c.is_copyable.ensures ∙ c.if-is_copyable.false)
          c.loop-place.invariant.below)
          (λ k le m. subst (λ ws. is_set ws k ≡ false) words
          (c.next_flag-place-in-loop-place.ensures.none k le m));
      marked = λ m. subst (λ ws. is_set ws next ≡ true) words
          (c.next_flag-place-in-loop-place.ensures.set m);
      steps = omega (arith, l, one, looked, so_far, single, more);
    }

pub returns-clause-first : goal.returns-clause-first
returns-clause-first g c =
    found_never (is_copyable_row (slow_at c.args.pace) c.args.exec) c.args.rows.now
    (λ k d l. c.loop-place.invariant.below k d (omega (arith, l, c.loop-place-test.false)) l)

pub returns-clause-looked : goal.returns-clause-looked
returns-clause-looked g c =
    let past = c.loop-place-test.false in
    let so_far = c.loop-place.invariant.steps in
    let all = count_take_all is_single_row c.args.rows.now c.loop-place.place in
    omega (arith, past, so_far, all)
