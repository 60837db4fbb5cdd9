use Rattle.std.proofs.Common.{refl, ◌≡◌, ◌∙◌, ◌<◌, ap, subst, sym, slice_get, true, arith}
use Rattle.sc_ids.proofs.ChangeLemmas.{length_change_at}
use Rattle.sc_tracker.specs.TrackerData.{tracker_data}
use Rattle.sc_tracker.specs.Trust.{is_live, lost_at}
use Rattle.sc_tracker.specs.Tracking.{with_forgotten_on}
use Rattle.sc_tracker.proofs.ApartLemmas.{mapped_apart}
use Rattle.sc_tracker.proofs.TrackerLemmas.{epoch_fits, live_within, lost_sound, seen_fits}
use Rattle.sc_tracker.proofs.tracker.Tracker.unregister_exec.Goals as goal

pub overflow_add-self : goal.overflow_add-self
overflow_add-self g c =
    let f = c.self.inside in
    let small = epoch_fits f.trust.items f.epoch c.self.invariant.0.events c.self.invariant.1
    c.self.invariant.2 in
    omega (arith, small)

pub forget_on-requires-clause-there : goal.forget_on-requires-clause-there
forget_on-requires-clause-there g c =
    let f = c.self.inside in
    let live : is_live (slice_get f.trust.items c.args.exec) ≡ true =
    sym (c.is_live.ensures
    ∙ ap (λ xs. is_live (slice_get xs c.args.exec)) c.as_slice.ensures.value)
    ∙ c.if-is_live.true in
    subst (λ n. c.args.exec < n) (sym c.self.invariant.4)
    (live_within f.trust.items c.args.exec live)

pub invariant_of-self : goal.invariant_of-self
invariant_of-self g c =
    let f = c.self.inside in
    let at = lost_at f.epoch in
    let live : is_live (slice_get f.trust.items c.args.exec) ≡ true =
    sym (c.is_live.ensures
    ∙ ap (λ xs. is_live (slice_get xs c.args.exec)) c.as_slice.ensures.value)
    ∙ c.if-is_live.true in
    let many = length_change_at f.trust.items c.args.exec at in
    rw c.note_lost.ensures (
      rw c.forget_on.ensures.outputs
          (lost_sound (tracker_data f.shuffles.items f.trust.items f.epoch)
          c.args.exec live c.self.invariant.0),
      seen_fits f.trust.items c.args.exec at (λ x p. p) c.self.invariant.1,
      rw many c.self.invariant.2,
      c.forget_on.ensures.listed,
      c.forget_on.ensures.many ∙ c.self.invariant.4 ∙ sym many,
      rw c.forget_on.ensures.outputs
          (mapped_apart f.shuffles.items (with_forgotten_on c.args.exec) (λ s. refl)
          c.self.invariant.5),
    )
