use Rattle.std.proofs.Common.{◌≡◌, ◌∙◌, ap, sym, false, subst}
use Rattle.sc_tracker.specs.Lists.{place_for, with_output}
use Rattle.sc_tracker.specs.Outputs.{placed}
use Rattle.sc_tracker.specs.TrackerData.{tracker_data}
use Rattle.sc_tracker.specs.Trust.{is_bogus_for, trust_at}
use Rattle.sc_tracker.specs.TrackerFacts.{AreApart, IsSoundTracker}
use Rattle.sc_tracker.proofs.ApartLemmas.{with_apart}
use Rattle.sc_tracker.proofs.TrackerLemmas.{registered_sound}
use Rattle.sc_tracker.proofs.tracker.Tracker.register.Goals as goal

pub invariant_of-self : goal.invariant_of-self
invariant_of-self c =
    let f = c.self.inside in
    let sound : is_bogus_for (trust_at f.trust.items c.args.loc.exec) c.args.loc c.args.epoch
    ≡ false =
    sym (c.is_bogus.ensures
    ∙ ap (λ xs. is_bogus_for (trust_at xs c.args.loc.exec) c.args.loc c.args.epoch)
    c.as_slice.ensures.value)
    ∙ c.if-is_bogus.false in
    let place = c.place_for-place.ensures
    ∙ ap (λ xs. place_for xs c.args.block) c.as_slice-2.ensures.value in
    let is = c.register_at.ensures.outputs
    ∙ ap (λ p. with_output f.shuffles.items p (placed c.args.loc f.epoch)) place in (
      subst (λ xs. IsSoundTracker (tracker_data xs f.trust.items f.epoch)) (sym is)
          (registered_sound (tracker_data f.shuffles.items f.trust.items f.epoch)
          c.args.block c.args.loc c.args.epoch c.self.invariant.0 sound),
      c.self.invariant.1,
      c.self.invariant.2,
      c.register_at.ensures.listed,
      c.register_at.ensures.many ∙ c.self.invariant.4,
      subst AreApart (sym c.register_at.ensures.outputs)
          (with_apart f.shuffles.items c.place_for-place.result (placed c.args.loc f.epoch)
          c.self.invariant.5),
    )
