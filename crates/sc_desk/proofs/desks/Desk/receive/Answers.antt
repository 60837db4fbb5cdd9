use Rattle.std.proofs.Common.{◌≡◌, ◌∙◌, Err, ap, ap₂, false, length, refl, subst, sym}
use Rattle.sc_core.specs.CoreData.{CoreData}
use Rattle.sc_core.specs.Sound.{IsSoundCore}
use Rattle.sc_core.specs.Steps.{is_enabled}
use Rattle.sc_core.specs.declared.events.Event.TheVariants.{Post}
use Rattle.sc_desk.specs.DeskData.{DeskData, core_of, desk_data}
use Rattle.sc_desk.specs.Posts.{AreCopies, IsKnown, Receives}
use Rattle.sc_desk.specs.Shelves.{count_of, shelf_in, with_more}
use Rattle.sc_desk.specs.declared.receipts.Receipt.{Receipt}
use Rattle.sc_desk.proofs.PostLemmas.{copies_counted, misfit_strange, posted_by, posted_few, posted_keeps, posted_told, received}
use Rattle.sc_desk.proofs.desks.Desk.receive.Goals as goal

pub settle-requires-clause-few : goal.settle-requires-clause-few
settle-requires-clause-few g c =
    let d = desk_data c.self.inside.job c.self.inside.carried c.self.inside.journal.0
    c.self.inside.results.items c.self.inside.shelf.items c.self.inside.ordered in
    let after = desk_data c.self.inside.job c.self.inside.carried c.enter.new.self.0
    c.self.inside.results.items c.self.inside.shelf.items c.self.inside.ordered in
    let posted = posted_by g.W.Naming.work d c.args.self.now after c.args.by c.args.report
    c.in-Ok.answer c.attempt-attempt.result c.outcome-outcome.result c.task.result.now
    c.self.view_is c.attempt-attempt.ensures c.outcome-outcome.ensures c.task.ensures
    c.self.invariant (subst IsSoundCore c.core.ensures c.is_sound.ensures) c.is_replay.ensures
    c.is_true.ensures c.is_task.ensures c.requires.given c.requires.in_time
    (record {
      step = c.in-Ok.ensures.step;
      entries = c.in-Ok.ensures.entry;
      opening = c.in-Ok.ensures.opening;
      job = refl;
      carried = refl;
      ordered = refl;
    }) in
    let copies = copies_counted (core_of d) c.args.report c.args.copy
    (subst (λ (x : DeskData). AreCopies (core_of x) c.args.report c.args.copy)
    (sym c.self.view_is) c.requires.copies) in
    rw (c.core-core.ensures, c.reserve.ensures.items)
    (posted_few g.W.Naming.work d after c.args.by c.args.report c.in-Ok.answer
    (count_of c.args.copy) posted copies)

pub settle-requires-clause-told : goal.settle-requires-clause-told
settle-requires-clause-told g c finished =
    let d = desk_data c.self.inside.job c.self.inside.carried c.self.inside.journal.0
    c.self.inside.results.items c.self.inside.shelf.items c.self.inside.ordered in
    let after = desk_data c.self.inside.job c.self.inside.carried c.enter.new.self.0
    c.self.inside.results.items c.self.inside.shelf.items c.self.inside.ordered in
    let posted = posted_by g.W.Naming.work d c.args.self.now after c.args.by c.args.report
    c.in-Ok.answer c.attempt-attempt.result c.outcome-outcome.result c.task.result.now
    c.self.view_is c.attempt-attempt.ensures c.outcome-outcome.ensures c.task.ensures
    c.self.invariant (subst IsSoundCore c.core.ensures c.is_sound.ensures) c.is_replay.ensures
    c.is_true.ensures c.is_task.ensures c.requires.given c.requires.in_time
    (record {
      step = c.in-Ok.ensures.step;
      entries = c.in-Ok.ensures.entry;
      opening = c.in-Ok.ensures.opening;
      job = refl;
      carried = refl;
      ordered = refl;
    }) in
    let copies = copies_counted (core_of d) c.args.report c.args.copy
    (subst (λ (x : DeskData). AreCopies (core_of x) c.args.report c.args.copy)
    (sym c.self.view_is) c.requires.copies) in
    rw (c.core-core.ensures, c.reserve.ensures.items)
    (posted_told g.W.Naming.work d after c.args.by c.args.report c.in-Ok.answer
    (count_of c.args.copy) posted copies finished)

pub invariant_of-self-in-Ok : goal.invariant_of-self-in-Ok
invariant_of-self-in-Ok g c =
    let d = desk_data c.self.inside.job c.self.inside.carried c.self.inside.journal.0
    c.self.inside.results.items c.self.inside.shelf.items c.self.inside.ordered in
    let after = desk_data c.self.inside.job c.self.inside.carried c.enter.new.self.0
    c.settle.new.results.items c.settle.new.shelf.items c.self.inside.ordered in
    let posted = posted_by g.W.Naming.work d c.args.self.now after c.args.by c.args.report
    c.in-Ok.answer c.attempt-attempt.result c.outcome-outcome.result c.task.result.now
    c.self.view_is c.attempt-attempt.ensures c.outcome-outcome.ensures c.task.ensures
    c.self.invariant (subst IsSoundCore c.core.ensures c.is_sound.ensures) c.is_replay.ensures
    c.is_true.ensures c.is_task.ensures c.requires.given c.requires.in_time
    (record {
      step = c.in-Ok.ensures.step;
      entries = c.in-Ok.ensures.entry;
      opening = c.in-Ok.ensures.opening;
      job = refl;
      carried = refl;
      ordered = refl;
    }) in
    let shelf = subst (λ (x : CoreData). c.settle.new.shelf.items
    ≡ shelf_in x (with_more c.reserve.new.self.items c.args.report x.shelf))
    c.core-core.ensures c.settle.ensures.shelf
    ∙ ap (λ ss. shelf_in c.enter.new.self.0.core
    (with_more ss c.args.report c.enter.new.self.0.core.shelf)) c.reserve.ensures.items in
    posted_keeps g.W.Naming.work d after c.args.by c.args.report c.in-Ok.answer posted
    c.settle.ensures.results shelf

pub returns-in-Ok-clause-posted : goal.returns-in-Ok-clause-posted
returns-in-Ok-clause-posted g c =
    let d = desk_data c.self.inside.job c.self.inside.carried c.self.inside.journal.0
    c.self.inside.results.items c.self.inside.shelf.items c.self.inside.ordered in
    let after = desk_data c.self.inside.job c.self.inside.carried c.enter.new.self.0
    c.settle.new.results.items c.settle.new.shelf.items c.self.inside.ordered in
    let posted = posted_by g.W.Naming.work d c.args.self.now after c.args.by c.args.report
    c.in-Ok.answer c.attempt-attempt.result c.outcome-outcome.result c.task.result.now
    c.self.view_is c.attempt-attempt.ensures c.outcome-outcome.ensures c.task.ensures
    c.self.invariant (subst IsSoundCore c.core.ensures c.is_sound.ensures) c.is_replay.ensures
    c.is_true.ensures c.is_task.ensures c.requires.given c.requires.in_time
    (record {
      step = c.in-Ok.ensures.step;
      entries = c.in-Ok.ensures.entry;
      opening = c.in-Ok.ensures.opening;
      job = refl;
      carried = refl;
      ordered = refl;
    }) in
    let shelf = subst (λ (x : CoreData). c.settle.new.shelf.items
    ≡ shelf_in x (with_more c.reserve.new.self.items c.args.report x.shelf))
    c.core-core.ensures c.settle.ensures.shelf
    ∙ ap (λ ss. shelf_in c.enter.new.self.0.core
    (with_more ss c.args.report c.enter.new.self.0.core.shelf)) c.reserve.ensures.items in
    let receipt : Receipt =
    record { entry = length c.entries-entry.result.now; answer = c.in-Ok.answer } in
    subst (λ x. Receives g.W.Naming.work x c.args.by c.args.report receipt after) c.self.view_is
    (received g.W.Naming.work d after c.args.by c.args.report receipt posted.given posted.in_time
    (ap length c.entries-entry.ensures) posted.enters c.settle.ensures.results shelf)

pub returns-in-Err-Fault-clause-posted : goal.returns-in-Err-Fault-clause-posted
returns-in-Err-Fault-clause-posted g c =
    let d = desk_data c.self.inside.job c.self.inside.carried c.self.inside.journal.0
    c.self.inside.results.items c.self.inside.shelf.items c.self.inside.ordered in
    let off = subst (λ event. is_enabled (core_of d) event ≡ false)
    (ap₂ (λ x y. Post x y) c.attempt-attempt.ensures c.outcome-outcome.ensures)
    (c.enter.ensures.not_enabled c.in-Err-Fault.field-0-0
    (c.in-Err-Fault.is ∙ ap Err c.in-Err-Fault.field-0-is)) in (
      subst (λ x. IsKnown x c.args.report → ⊥) c.self.view_is
          (misfit_strange d c.args.report off),
      refl,
      ap₂ (λ j ss. desk_data c.self.inside.job c.self.inside.carried j
          c.self.inside.results.items ss c.self.inside.ordered) c.in-Err-Fault.ensures.unchanged
          c.reserve.ensures.items ∙ c.self.view_is,
    )
