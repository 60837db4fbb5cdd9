use Rattle.std.proofs.Common.{◌≡◌, ◌∙◌, ◌<◌, length, ap, subst, sym}
use Rattle.std.proofs.lemmas.List.{length-map}
use Rattle.std.specs.List.{All}
use Rattle.sc_keys.specs.Groups.{distinct, groups, place_in}
use Rattle.sc_keys.specs.Keyed.{key_in}
use Rattle.sc_part.specs.Bounds.{is_same_key}
use Rattle.sc_value.specs.Picked.{ArePlaces}
use Rattle.sc_combine.specs.Groupings.{firsts_from}
use Rattle.sc_combine.proofs.FirstLemmas.{firsts_inside}
use Rattle.sc_combine.proofs.GroupLemmas.{count_is, keys_are, numbers_are}
use Rattle.sc_combine.proofs.grouping.group_run.Goals as goal

pub picked-requires : goal.picked-requires
picked-requires c =
    let firsts = c.args.firsts.now in
    let numbers = c.deref.result.now in
    let keys = c.in_ok-column.column in
    let level : length numbers ≡ length firsts =
    ap length (c.deref.ensures.value ∙ c.in_ok-groups.ensures.are)
    ∙ length-map keys (place_in is_same_key (distinct is_same_key keys))
    ∙ ap length c.in_ok-column.ensures ∙ length-map firsts key_in in
    subst (ArePlaces firsts) (sym (c.deref-2.ensures.value ∙ c.in_ok-places.ensures.are))
    (subst (λ n. All (λ p. p < n) (firsts_from 0 0 numbers)) level (firsts_inside numbers))

pub returns : goal.returns
returns c =
    let firsts = c.args.firsts.now in
    let numbers = c.in_ok-groups.groups.numbers.items in
    λ rows column.
    let are = numbers_are rows firsts column numbers
    (c.in_ok-groups.ensures.are ∙ ap (groups is_same_key) c.in_ok-column.ensures) in
    record {
      numbers = are;
      below = c.in_ok-groups.ensures.below;
      count = count_is rows firsts column c.in_ok-groups.groups.count
          (c.in_ok-groups.ensures.counted
          ∙ ap (λ ks. length (distinct is_same_key ks)) c.in_ok-column.ensures);
      keys = keys_are rows firsts column c.in_ok-keys.keys numbers c.deref-2.result.now
          c.in_ok-keys.ensures
          (c.deref-2.ensures.value ∙ c.in_ok-places.ensures.are
          ∙ ap (firsts_from 0 0) c.deref.ensures.value)
          are;
    }
