use Rattle.std.proofs.Common.{rules, ◌∙◌, ◌<◌, length, ap, arith, int_eq, get_or, pos, w64, SFits}
use Rattle.std.proofs.lemmas.Cmp.{int_eq_equiv}
use Rattle.std.proofs.lemmas.Int.{to_z-of_z}
use Rattle.std.proofs.lemmas.List.{get_or_default}
use Rattle.sc_keys.specs.Groups.{place_in, with_key}
use Rattle.sc_keys.proofs.GroupLemmas.{are_groups, groups_more, grows_by}
use Rattle.sc_keys.proofs.grouping.group_ints.Goals as goal

pub loop-i-preserved : goal.loop-i-preserved
loop-i-preserved c =
    let ks = c.args.keys.now in
    let i = c.loop-i.i in
    let known = c.loop-i.known.keys in
    let k = get_or ks i (pos 0) in
    let within : c.loop-i.i < length c.args.keys.now = omega arith in
    let fits : SFits w64 (get_or c.args.keys.now c.loop-i.i (pos 0)) = search rules in
    let same = to_z-of_z w64 k fits in
    let next = groups_more int_eq int_eq_equiv.refl ks i c.in_ok-group.group k known
    c.insert_full.new.self.keys c.loop-i.numbers.items c.push.new.self.items within
    (get_or_default ks i (pos 0) k within) c.loop-i.invariant.known c.loop-i.invariant.numbers
    (c.in_ok-group.ensures.keys ∙ ap (with_key int_eq known) same)
    (c.in_ok-group.ensures.index ∙ ap (place_in int_eq known) same)
    c.in_ok-push.ensures.items in
    record {
      few = grows_by _ _ _ i c.in_ok-group.ensures.len c.loop-i.invariant.few;
      known = next.0;
      numbers = next.1;
    }

pub returns : goal.returns
returns c =
    are_groups int_eq int_eq_equiv.refl c.args.keys.now c.loop-i.i c.loop-i.known.keys
    c.loop-i.numbers.items c.len-count.result (omega arith) c.loop-i.invariant.known
    c.loop-i.invariant.numbers c.len-count.ensures.len (omega arith)
