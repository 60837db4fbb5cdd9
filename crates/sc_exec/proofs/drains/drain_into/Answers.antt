use Rattle.std.proofs.Common.{◌≡◌, ◌∙◌, Ok, Option, [], ◌∷◌, List, ap, arith, length, refl, rules, subst, sym}
use Rattle.crossbeam_queue.specs.Passes.{view}
use Rattle.sc_queue.specs.Rule.{as_list}
use Rattle.sc_queue.specs.declared.rules.Posted.{Posted}
use Rattle.sc_net.specs.Reports.{ReportData}
use Rattle.sc_desk.specs.DeskData.{DeskData}
use Rattle.sc_exec.specs.Draining.{EntersNext, Gains, IsStrange, kept_of}
use Rattle.sc_exec.specs.declared.drains.Strange.{Strange}
use Rattle.sc_exec.proofs.DrainLemmas.{drained_all, gained_many, gains_left, gains_more, gains_nothing}
use Rattle.sc_exec.proofs.drains.drain_into.Goals as goal

pub loop-init : goal.loop-init
loop-init g c = (gains_nothing g.W.Naming.work _, c.requires.pass, c.requires.driver, search rules)

pub loop-preserved : goal.loop-preserved
loop-preserved g c =
    let i = c.loop.invariant in
    let e = c.next-in-loop.ensures in
    let p = c.in-Some-next.posted in
    let k = kept_of c.args.desk.now.desk c.args.held.now (view c.args.pass.now) in
    let mid = kept_of c.loop.desk.desk c.loop.held (view c.loop.pass) in
    let after = kept_of c.enter_next.new.desk.desk c.enter_next.new.held
    (view c.next-in-loop.new.pass) in
    let entered = subst (λ (r : Option Strange).
    EntersNext g.W.Naming.work c.loop.desk.desk p c.enter_next.new.desk.desk
    c.enter_next.new.held (Ok r)) c.in-None-entered.is c.in-Ok.ensures.entered in
    let gains = gains_more g.W.Naming.work k mid after e.came.0 i.0 e.came.1 p
    (e.came.2 ∙ ap as_list c.in-Some-next.is) entered.1 in (
      subst (λ (left : List (Posted ReportData)). Gains g.W.Naming.work k after left)
          (sym (ap as_list entered.0)) gains,
      e.pass,
      e.driver,
      i.3,
    )

pub overflow_sub-count : goal.overflow_sub-count
overflow_sub-count g c =
    let now : length c.entries.result.now ≡ length c.loop.desk.desk.journal.entries =
    search rules in
    let many = gained_many g.W.Naming.work
    (kept_of c.args.desk.now.desk c.args.held.now (view c.args.pass.now))
    (kept_of c.loop.desk.desk c.loop.held (view c.loop.pass)) _ c.loop.invariant.0 in
    omega (arith, c.loop.invariant.3, now, many)

pub returns-in-None-next-clause-drains : goal.returns-in-None-next-clause-drains
returns-in-None-next-clause-drains g c =
    let i = c.loop.invariant in
    let e = c.next-in-loop.ensures in
    let k = kept_of c.args.desk.now.desk c.args.held.now (view c.args.pass.now) in
    let mid = kept_of c.loop.desk.desk c.loop.held (view c.loop.pass) in
    let after = kept_of c.loop.desk.desk c.next-in-loop.new.held (view c.next-in-loop.new.pass) in
    let gains = gains_left g.W.Naming.work k mid after e.came.0 i.0 e.came.1 []
    (e.came.2 ∙ ap as_list c.in-None-next.is) refl in
    let now : length c.entries.result.now ≡ length c.loop.desk.desk.journal.entries =
    search rules in
    drained_all g.W.Naming.work k after _ _ _ gains i.3 now refl e.held

pub returns-in-Some-entered-clause-drains : goal.returns-in-Some-entered-clause-drains
returns-in-Some-entered-clause-drains g c =
    let i = c.loop.invariant in
    let e = c.next-in-loop.ensures in
    let p = c.in-Some-next.posted in
    let k = kept_of c.args.desk.now.desk c.args.held.now (view c.args.pass.now) in
    let mid = kept_of c.loop.desk.desk c.loop.held (view c.loop.pass) in
    let after = kept_of c.enter_next.new.desk.desk c.enter_next.new.held
    (view c.next-in-loop.new.pass) in
    let entered = subst (λ (r : Option Strange).
    EntersNext g.W.Naming.work c.loop.desk.desk p c.enter_next.new.desk.desk
    c.enter_next.new.held (Ok r)) c.in-Some-entered.is c.in-Ok.ensures.entered in (
      p,
      gains_left g.W.Naming.work k mid after e.came.0 i.0 e.came.1 (p ∷ [])
          (e.came.2 ∙ ap as_list c.in-Some-next.is) entered.1,
      entered.0,
      subst (λ (d : DeskData).
          IsStrange g.W.Naming.work d p.report c.in-Some-entered.strange)
          (sym entered.1) entered.2,
    )

pub returns-in-Err-clause-drains : goal.returns-in-Err-clause-drains
returns-in-Err-clause-drains g c =
    let i = c.loop.invariant in
    let e = c.next-in-loop.ensures in
    let p = c.in-Some-next.posted in
    let k = kept_of c.args.desk.now.desk c.args.held.now (view c.args.pass.now) in
    let mid = kept_of c.loop.desk.desk c.loop.held (view c.loop.pass) in
    let after = kept_of c.enter_next.new.desk.desk c.enter_next.new.held
    (view c.next-in-loop.new.pass) in (
      p,
      gains_left g.W.Naming.work k mid after e.came.0 i.0 e.came.1 (p ∷ [])
          (e.came.2 ∙ ap as_list c.in-Some-next.is) c.in-Err.ensures.entered.1,
      c.in-Err.ensures.entered.0,
    )
