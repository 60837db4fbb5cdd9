use Rattle.std.proofs.Common.{◌≡◌, ◌∙◌, ap, false, length, sym, true}
use Rattle.sc_tracker.specs.Lists.{has_room_at, output_at}
use Rattle.sc_tracker.specs.Outputs.{placed}
use Rattle.sc_tracker.specs.declared.outputs.Output.{Output}
use Rattle.sc_tracker.proofs.Relisting.{moved_listed, no_room, pushed_listed, pushed_many, removed_many}
use Rattle.sc_tracker.proofs.listed.register_at.Goals.{in-Some, in-None}
use Rattle.sc_tracker.proofs.listed.register_at.Goals as goal

pub returns-after-output_in-clause-listed : goal.returns-after-output_in-clause-listed
returns-after-output_in-clause-listed c =
    let shuffles = c.args.shuffles.now.items in
    let p = c.args.place in
    let loc = c.args.loc in
    let room : has_room_at shuffles p ≡ true =
    ap (λ xs. has_room_at xs p) (sym c.deref.ensures.value) ∙ sym c.has_room_at.ensures
    ∙ c.if-has_room_at.true in
    let here : c.output_in.result.here ≡ (output_at shuffles p).here =
    ap (λ (o : Output). o.here) (c.output_in.ensures
    ∙ ap (λ xs. output_at xs p) c.deref-then-has_room_at.ensures.value) in
    elim c.match-output_in.branch [
      | in-Some w ↦
          rw (c.place_at.ensures, c.push.ensures, w.lists-is, w.remove.ensures)
          (moved_listed shuffles c.args.lists.now p loc _ c.args.epoch c.requires room
          (sym here ∙ w.in-Some.is))
      | in-None w ↦
          rw (c.place_at.ensures, c.push.ensures, w.lists-is)
          (pushed_listed shuffles c.args.lists.now c.requires p loc c.args.epoch
          (sym here ∙ w.in-None.is) room)
    ]

pub returns-after-output_in-clause-many : goal.returns-after-output_in-clause-many
returns-after-output_in-clause-many c =
    let p = c.args.place in
    let loc = c.args.loc in
    ap (λ l. length l.firsts) c.push.ensures
    ∙ pushed_many loc.exec p c.match-output_in.lists
    ∙ elim c.match-output_in.branch [
      | in-Some w ↦
          ap (λ l. length l.firsts) w.lists-is ∙ ap (λ l. length l.firsts) w.remove.ensures
          ∙ removed_many _ p c.args.lists.now
      | in-None w ↦ ap (λ l. length l.firsts) w.lists-is
    ]

pub returns-else-has_room_at-clause-outputs : goal.returns-else-has_room_at-clause-outputs
returns-else-has_room_at-clause-outputs c =
    let shuffles = c.args.shuffles.now.items in
    let none : has_room_at shuffles c.args.place ≡ false =
    ap (λ xs. has_room_at xs c.args.place) (sym c.deref.ensures.value)
    ∙ sym c.has_room_at.ensures ∙ c.if-has_room_at.false in
    sym (no_room shuffles c.args.place (placed c.args.loc c.args.epoch) none)
