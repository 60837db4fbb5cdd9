use Rattle.std.proofs.Common.{◌≡◌, ◌∙◌, ◌<◌, length, map, ap, sym, arith}
use Rattle.std.proofs.lemmas.Cmp.{eq_by_cmp_equiv}
use Rattle.std.proofs.lemmas.List.{get_or-map, length-map}
use Rattle.sc_keys.specs.Groups.{place_in, with_key}
use Rattle.sc_keys.specs.Lent.{lent_data}
use Rattle.sc_keys.specs.contracts.lending.LentKeyPartialEq.TheImpl.{eq-value}
use Rattle.sc_keys.proofs.GroupLemmas.{are_groups, groups_more, grows_by}
use Rattle.sc_keys.proofs.LentLemmas.{lent_same}
use Rattle.sc_keys.proofs.ViewLemmas.{place-map, with_key-map}
use Rattle.sc_part.specs.Bounds.{is_same_key}
use Rattle.sc_value.proofs.KeyLemmas.{keys_ordered}
use Rattle.sc_value.specs.Views.{key_data_of}
use Rattle.sc_keys.proofs.grouping.group_keys.Goals as goal

pub loop-i-preserved : goal.loop-i-preserved
loop-i-preserved c =
    let keys = c.args.keys.now in
    let ks = map key_data_of keys in
    let i = c.loop-i.i in
    let known = c.loop-i.known.keys in
    let key = c.index-keys-i.result in
    let k = c.lent-key.result in
    let within : c.loop-i.i < length c.args.keys.now = omega arith in
    let count : length (map key_data_of c.args.keys.now) ≡ length c.args.keys.now =
    length-map c.args.keys.now key_data_of in
    let at = ap key_data_of c.index-keys-i.is
    ∙ sym (get_or-map key_data_of keys i key (key_data_of key) within) in
    let next = groups_more is_same_key (eq_by_cmp_equiv keys_ordered.total).refl ks i
    c.in_ok-group.group (key_data_of key) (map lent_data known)
    (map lent_data c.insert_full.new.self.keys) c.loop-i.numbers.items c.push.new.self.items
    (omega (arith, within, count)) at c.loop-i.invariant.known c.loop-i.invariant.numbers
    (ap (map lent_data) c.in_ok-group.ensures.keys
    ∙ with_key-map lent_data eq-value.it is_same_key lent_same known k
    ∙ ap (with_key is_same_key (map lent_data known)) c.lent-key.ensures)
    (c.in_ok-group.ensures.index
    ∙ place-map lent_data eq-value.it is_same_key lent_same known k
    ∙ ap (place_in is_same_key (map lent_data known)) c.lent-key.ensures)
    c.in_ok-push.ensures.items in
    record {
      few = grows_by _ _ _ i c.in_ok-group.ensures.len c.loop-i.invariant.few;
      known = next.0;
      numbers = next.1;
    }

pub returns : goal.returns
returns c =
    let keys = c.args.keys.now in
    let count : length (map key_data_of c.args.keys.now) ≡ length c.args.keys.now =
    length-map c.args.keys.now key_data_of in
    are_groups is_same_key (eq_by_cmp_equiv keys_ordered.total).refl (map key_data_of keys)
    c.loop-i.i (map lent_data c.loop-i.known.keys) c.loop-i.numbers.items c.len-count.result
    (omega (arith, count)) c.loop-i.invariant.known c.loop-i.invariant.numbers
    (c.len-count.ensures.len ∙ sym (length-map c.loop-i.known.keys lent_data))
    (omega (arith, count))
