use Rattle.std.proofs.Common.{◌∙◌, ◌+◌, All, ap, drop, map, sym, subst, arith}
use Rattle.std.proofs.lemmas.List.{drop_all}
use Rattle.std.specs.BTreeSet.{insert_key}
use Rattle.std.specs.Ordering.{nat_cmp}
use Rattle.sc_lineage.specs.Views.{place_data_of}
use Rattle.sc_compute.specs.Asking.{IsLeft}
use Rattle.sc_compute.proofs.AsksLemmas.{asks_behind, numbers_next, with_numbers}
use Rattle.sc_compute.proofs.AskingLemmas.{all-inserted, left-read}
use Rattle.sc_compute.proofs.asking.Asking.behind.Goals as goal

pub loop-place-preserved : goal.loop-place-preserved
loop-place-preserved c =
    let work = c.args.work.now in
    let stages = c.args.stages.now in
    let below = c.loop-place.self.below in
    let number = c.number_of.result in
    let keys = c.loop-place.self.left.keys in
    let found = c.in_ok-places.ensures in
    let items = c.deref-place-items.result.now in
    record {
      asking = subst (All (IsLeft work stages below)) (sym c.in_ok-insert.ensures.keys)
          (all-inserted (IsLeft work stages below) number
          (left-read work stages below c.args.at c.in_ok-places.places.items
          c.deref-place-items.result.now c.loop-place.place-index _ number
          c.requires.there.known (c.requires.last ∙ sym c.loop-place.invariant.same)
          found.before found.within found.made c.deref-place-items.ensures.value (omega arith)
          c.number_of.ensures.number c.number_of.ensures.small)
          keys c.loop-place.invariant.asking);
      same = c.loop-place.invariant.same;
      keys = ap (λ ks. with_numbers ks (drop (c.loop-place.place-index + 1) items))
          (c.in_ok-insert.ensures.keys
          ∙ ap (insert_key nat_cmp keys) c.number_of.ensures.number)
          ∙ sym (numbers_next keys items c.loop-place.place-index _ (omega arith))
          ∙ c.loop-place.invariant.keys;
    }

pub returns-clause-asks : goal.returns-clause-asks
returns-clause-asks c =
    let work = c.args.work.now in
    let items = c.deref-place-items.result.now in
    λ had from given lacks asks.
    asks_behind work had from given c.args.self.now c.loop-place.self
    (place_data_of c.args.at) items c.is_sound.ensures.script c.requires.there.known
    c.requires.there.within
    (ap (map place_data_of) c.deref-place-items.ensures.value ∙ c.in_ok-places.ensures.places)
    (ap (with_numbers c.loop-place.self.left.keys)
    (sym (drop_all c.loop-place.place-index items (omega arith)))
    ∙ c.loop-place.invariant.keys)
    lacks asks
