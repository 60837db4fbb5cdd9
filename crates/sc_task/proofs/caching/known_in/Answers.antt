use Rattle.std.proofs.Common.{◌≡◌, ◌<◌, ◌∙◌, [], All, ap, refl, subst, sym}
use Rattle.std.proofs.lemmas.List.Elements.{All-nil}
use Rattle.std.specs.Option.{option_map}
use Rattle.sc_compute.specs.Asking.{AsksNext, IsAsked, place_taken}
use Rattle.sc_compute.specs.Caching.{IsOwnPart}
use Rattle.sc_compute.specs.Needs.{places_in}
use Rattle.sc_compute.specs.Tasks.{target_data_of}
use Rattle.sc_compute.specs.declared.caching.CachedPart.{CachedPart}
use Rattle.sc_task.specs.Caches.{has_cached}
use Rattle.sc_task.proofs.CacheLemmas.{TakesSoFar, own_more, some_holds, takes_all, takes_first, takes_more, takes_on}
use Rattle.sc_task.proofs.caching.known_in.Goals as goal

pub loop-asking-init : goal.loop-asking-init
loop-asking-init g c =
    let work = c.args.work.now in
    let store = c.args.store.now in
    let from = place_taken work (target_data_of c.args.target) in
    let asking = c.in_ok-asking.asking in
    record {
      asking = c.in_ok-asking.ensures.asking;
      own = subst (All (IsOwnPart work)) (sym c.new-known.ensures.items) (All-nil (IsOwnPart work));
      far = subst (λ known. TakesSoFar work from store known asking)
          (sym c.new-known.ensures.items)
          (takes_first work from store asking
          (c.in_ok-asking.ensures.asks (has_cached work store) []));
    }

pub loop-asking-preserved-in-Continue-branch-6 : goal.loop-asking-preserved-in-Continue-branch-6
loop-asking-preserved-in-Continue-branch-6 g c =
    let work = c.args.work.now in
    let store = c.args.store.now in
    let from = place_taken work (target_data_of c.args.target) in
    let at = c.in-Some.at in
    let part = c.in-Some-2.part in
    let asked = some_holds (IsAsked work c.args.stages.now c.next.new.self) c.in_ok-at.field-0 at
    c.in-Some.is c.in_ok-at.ensures.asked in
    record {
      asking = c.next.ensures.asking;
      own = own_more work g.W.Naming.work c.loop-asking.known.items c.push.new.self.items part
          c.in_ok-part.field-0 c.requires.named c.loop-asking.invariant.own
          c.in_ok-part.ensures.own c.in-Some-2.is c.in_ok-push-in-Some-2.ensures.items;
      far = takes_more work from store c.loop-asking.known.items c.push.new.self.items part at
          c.loop-asking.asking c.next.new.self c.loop-asking.invariant.far
          (subst (AsksNext work c.loop-asking.asking c.next.new.self) c.in-Some.is
          c.in_ok-at.ensures.asks)
          asked.cache asked.last
          (some_holds (λ one. c.next.new.self.below < c.loop-asking.asking.below)
          c.in_ok-at.field-0 at c.in-Some.is c.in_ok-at.ensures.fewer)
          (some_holds (λ (p : CachedPart). p.at ≡ at) c.in_ok-part.field-0 part c.in-Some-2.is
          c.in_ok-part.ensures.at)
          (sym (ap (option_map (λ (p : CachedPart). p.rows)) c.in-Some-2.is)
          ∙ c.in_ok-part.ensures.rows)
          c.in_ok-push-in-Some-2.ensures.items;
    }

pub loop-asking-preserved : goal.loop-asking-preserved
loop-asking-preserved g c =
    let work = c.args.work.now in
    let store = c.args.store.now in
    let from = place_taken work (target_data_of c.args.target) in
    let known = c.loop-asking.known.items in
    record {
      asking = c.behind.ensures.asking;
      own = c.loop-asking.invariant.own;
      far = takes_on work from store known c.in-Some.at c.loop-asking.asking c.next.new.self
          c.behind.new.self c.loop-asking.invariant.far
          (subst (AsksNext work c.loop-asking.asking c.next.new.self) c.in-Some.is
          c.in_ok-at.ensures.asks)
          (some_holds (λ one. c.next.new.self.below < c.loop-asking.asking.below)
          c.in_ok-at.field-0 c.in-Some.at c.in-Some.is c.in_ok-at.ensures.fewer)
          c.behind.ensures.below
          (sym (ap (option_map (λ (p : CachedPart). p.rows)) c.in-None.is)
          ∙ c.in_ok-part.ensures.rows)
          (c.in_ok-behind-in-None.ensures.asks (has_cached work store) from (places_in known));
    }

pub returns-clause-takes : goal.returns-clause-takes
returns-clause-takes g c =
    let work = c.args.work.now in
    let target = target_data_of c.args.target in
    takes_all work (place_taken work target) c.args.store.now target c.loop-asking.known.items
    c.loop-asking.asking c.next.new.self c.in_ok-at.field-0 refl c.loop-asking.invariant.far
    c.in_ok-at.ensures.asks c.in_default.not-Some
