use Rattle.std.proofs.Common.{refl, ◌≡◌, ◌∙◌, ◌<◌, ap, subst, sym, slice_get, true, arith}
use Rattle.sc_ids.proofs.ChangeLemmas.{length_change_at}
use Rattle.sc_tracker.specs.TrackerData.{tracker_data}
use Rattle.sc_tracker.specs.Trust.{is_newer, seen_at}
use Rattle.sc_tracker.specs.Tracking.{with_forgotten_on}
use Rattle.sc_tracker.proofs.ApartLemmas.{mapped_apart}
use Rattle.sc_tracker.proofs.TrackerLemmas.{epoch_fits, gone_sound, newer_within, seen_fits}
use Rattle.sc_tracker.proofs.tracker.Tracker.raise_seen.Goals as goal

pub overflow_add-self : goal.overflow_add-self
overflow_add-self c =
    let f = c.self.inside in
    let small = epoch_fits f.trust.items f.epoch c.self.invariant.0.events c.self.invariant.1
    c.self.invariant.2 in
    omega (arith, small)

pub forget_on_in-requires-clause-there : goal.forget_on_in-requires-clause-there
forget_on_in-requires-clause-there c =
    let f = c.self.inside in
    let new : is_newer (slice_get f.trust.items c.args.exec) c.args.found ≡ true =
    sym (c.is_newer.ensures
    ∙ ap (λ xs. is_newer (slice_get xs c.args.exec) c.args.found) c.as_slice.ensures.value)
    ∙ c.if-is_newer.true in
    subst (λ n. c.args.exec < n) (sym c.self.invariant.4)
    (newer_within f.trust.items c.args.exec c.args.found new)

pub invariant_of-self : goal.invariant_of-self
invariant_of-self c =
    let f = c.self.inside in
    let at = seen_at c.args.found f.epoch in
    let new : is_newer (slice_get f.trust.items c.args.exec) c.args.found ≡ true =
    sym (c.is_newer.ensures
    ∙ ap (λ xs. is_newer (slice_get xs c.args.exec) c.args.found) c.as_slice.ensures.value)
    ∙ c.if-is_newer.true in
    let many = length_change_at f.trust.items c.args.exec at in
    rw c.note_seen.ensures (
      rw c.forget_on_in.ensures.outputs
          (gone_sound (tracker_data f.shuffles.items f.trust.items f.epoch)
          c.args.exec c.args.found new c.self.invariant.0),
      seen_fits f.trust.items c.args.exec at (λ x p. c.ranges.found.fits) c.self.invariant.1,
      rw many c.self.invariant.2,
      c.forget_on_in.ensures.listed,
      c.forget_on_in.ensures.many ∙ c.self.invariant.4 ∙ sym many,
      rw c.forget_on_in.ensures.outputs
          (mapped_apart f.shuffles.items (with_forgotten_on c.args.exec) (λ s. refl)
          c.self.invariant.5),
    )
