use Rattle.std.proofs.Common.{◌∙◌, All, ap, sym, subst, arith}
use Rattle.sc_lineage.specs.Views.{node_data_of, place_data_of}
use Rattle.sc_compute.specs.Asking.{IsLeft}
use Rattle.sc_compute.specs.Caching.{is_cache}
use Rattle.sc_compute.proofs.AskingLemmas.{left-popped, popped-there, there-place}
use Rattle.sc_compute.proofs.AsksLemmas.{asks_done, asks_popped, none_left, not_cache, not_had}
use Rattle.sc_compute.proofs.asking.Asking.next.Goals as goal

pub returns-in-Cache-clause-asking : goal.returns-in-Cache-clause-asking
returns-in-Cache-clause-asking c =
    let work = c.args.work.now in
    let stages = c.args.stages.now in
    let below = c.loop-number.self.below in
    let keys = c.pop_last.new.self.keys in
    subst (λ b. All (IsLeft work stages b) keys) (sym c.from-self.ensures)
    (left-popped work stages below c.in-Some.number keys
    (subst (All (IsLeft work stages below)) c.in-Some.ensures.removal
    c.loop-number.invariant.asking) c.in-Some.ensures.all_below)

pub returns-in-Cache-clause-asked : goal.returns-in-Cache-clause-asked
returns-in-Cache-clause-asked c =
    let work = c.args.work.now in
    let stages = c.args.stages.now in
    let below = c.loop-number.self.below in
    let at = c.place_of-at.result in
    record {
      cache = ap is_cache (sym c.node_in.ensures.at)
          ∙ ap (λ n. is_cache (node_data_of n)) c.in-Cache.is;
      there = there-place work stages at.node at.partition c.in-Some.number
          c.place_of-at.ensures.small c.place_of-at.ensures.number
          (popped-there work stages below c.in-Some.number c.pop_last.new.self.keys
          (subst (All (IsLeft work stages below)) c.in-Some.ensures.removal
          c.loop-number.invariant.asking)).there;
      last = c.place_of-at.ensures.number ∙ sym c.from-self.ensures;
    }

pub behind-requires : goal.behind-requires
behind-requires c =
    let work = c.args.work.now in
    let stages = c.args.stages.now in
    let below = c.loop-number.self.below in
    let at = c.place_of-at.result in
    let keys = c.pop_last.new.self.keys in
    let all = subst (All (IsLeft work stages below)) c.in-Some.ensures.removal
    c.loop-number.invariant.asking in
    record {
      right = c.requires.right;
      asking = subst (λ b. All (IsLeft work stages b) keys) (sym c.from-self.ensures)
          (left-popped work stages below c.in-Some.number keys all c.in-Some.ensures.all_below);
      there = there-place work stages at.node at.partition c.in-Some.number
          c.place_of-at.ensures.small c.place_of-at.ensures.number
          (popped-there work stages below c.in-Some.number keys all).there;
      last = c.place_of-at.ensures.number ∙ sym c.from-self.ensures;
    }

pub returns-in-Cache-clause-asks : goal.returns-in-Cache-clause-asks
returns-in-Cache-clause-asks c =
    λ had from given caches asks.
    asks_popped c.args.work.now had from given c.loop-number.self _ c.in-Some.number
    (place_data_of c.place_of-at.result) c.in-Some.ensures.removal c.place_of-at.ensures.place
    (c.loop-number.invariant.asks had from given caches asks)

pub loop-number-preserved : goal.loop-number-preserved
loop-number-preserved c =
    let work = c.args.work.now in
    let stages = c.args.stages.now in
    let below = c.loop-number.self.below in
    let number = c.in-Some.number in
    let keys = c.pop_last.new.self.keys in
    let all = subst (All (IsLeft work stages below)) c.in-Some.ensures.removal
    c.loop-number.invariant.asking in
    let at = place_data_of c.place_of-at.result in
    let falls = c.loop-number.invariant.falls in
    let before = (popped-there work stages below number keys all).before in
    let same = c.behind.ensures.below in
    let from = c.from-self.ensures in
    record {
      asking = c.behind.ensures.asking;
      falls = omega (arith, same, from, before, falls);
      asks = λ had from given caches asks.
          c.in_ok-behind-in_default-node_in.ensures.asks had from given
          (not_had work had at caches
          (ap is_cache (sym c.node_in.ensures.at)
          ∙ not_cache c.node_in.result.now c.in_default-node_in.not-Cache))
          (asks_popped work had from given c.loop-number.self _ number at
          c.in-Some.ensures.removal c.place_of-at.ensures.place
          (c.loop-number.invariant.asks had from given caches asks));
    }

pub returns-clause-asks : goal.returns-clause-asks
returns-clause-asks c =
    λ had from given caches asks.
    asks_done c.args.work.now had from given c.loop-number.self
    (none_left c.loop-number.self.left.keys c.in_default.ensures.variant.1)
    (c.loop-number.invariant.asks had from given caches asks)
