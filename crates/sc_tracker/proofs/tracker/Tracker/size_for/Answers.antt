use Rattle.std.proofs.Common.{◌≡◌, ap, false, sym, ◌∙◌}
use Rattle.std.specs.List.{list_any}
use Rattle.sc_tracker.specs.TrackerData.{is_of, tracker_data}
use Rattle.sc_tracker.proofs.ApartLemmas.{more_apart}
use Rattle.sc_tracker.proofs.TrackerLemmas.{sized_sound}
use Rattle.sc_tracker.proofs.WholeLists.{more_listed}
use Rattle.sc_tracker.proofs.tracker.Tracker.size_for.Goals as goal

pub invariant_of-self-then-not-has_room : goal.invariant_of-self-then-not-has_room
invariant_of-self-then-not-has_room c =
    let f = c.self.inside in
    let s = c.in_ok-outputs.outputs in
    let is = ap (λ x. x.outputs) c.in_ok-outputs.ensures in
    let own : s.shuffle ≡ c.args.shuffle = ap (λ x. x.shuffle) c.in_ok-outputs.ensures in
    let none : list_any (is_of s.shuffle) f.shuffles.items ≡ false =
    ap (λ k. list_any (is_of k) f.shuffles.items) own
    ∙ ap (list_any (is_of c.args.shuffle)) (sym c.as_slice.ensures.value)
    ∙ sym c.has_room.ensures ∙ c.if-not-has_room.true in
    rw (c.push_reserved.ensures.items, c.reserve.ensures.items, c.in_ok-add.ensures.added) (
      sized_sound (tracker_data f.shuffles.items f.trust.items f.epoch) s c.args.maps is
          c.self.invariant.0,
      c.self.invariant.1,
      c.self.invariant.2,
      more_listed f.shuffles.items f.lists s c.args.maps is c.self.invariant.3,
      c.self.invariant.4,
      more_apart f.shuffles.items s none c.self.invariant.5,
    )
