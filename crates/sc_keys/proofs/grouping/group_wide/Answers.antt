use Rattle.std.proofs.Common.{◌∙◌, ◌<◌, refl, ap, sym, subst, arith, bytes_eq, length, nat_eq, take}
use Rattle.std.proofs.lemmas.Cmp.{nat_list_eq_equiv}
use Rattle.std.proofs.lemmas.List.{length-map}
use Rattle.std.proofs.lemmas.Option.{get_or_from_slice_get}
use Rattle.sc_keys.proofs.CodeLemmas.{codes_tell}
use Rattle.sc_keys.proofs.CodedLemmas.{known_more}
use Rattle.sc_keys.proofs.GroupLemmas.{are_groups, grows_by}
use Rattle.sc_keys.specs.Codes.{AreBytes, code}
use Rattle.sc_keys.specs.Groups.{distinct, place_in, with_key}
use Rattle.sc_keys.proofs.grouping.group_wide.Goals as goal

pub loop-i-preserved : goal.loop-i-preserved
loop-i-preserved c =
    let ks = c.args.keys.now in
    let i = c.loop-i.i in
    let known = c.loop-i.known.keys in
    let k = c.get.result.now in
    let within : c.loop-i.i < length c.args.keys.now = omega arith in
    let is = c.wide_code-code.ensures.is ∙ ap code c.as_bytes.ensures.value in
    let bytes = subst AreBytes c.as_bytes.ensures.value c.wide_code-code.ensures.digits in
    record {
      few = grows_by _ _ _ i c.in_ok-group.ensures.len c.loop-i.invariant.few;
      are = known_more nat_eq code AreBytes codes_tell ks i c.in_ok-group.group k known
          c.insert_full.new.self.keys c.loop-i.numbers.items c.push.new.self.items within
          (sym (get_or_from_slice_get ks i k k c.get.ensures)) c.loop-i.invariant.are
          bytes
          (c.in_ok-group.ensures.keys ∙ ap (with_key nat_eq known) is)
          (c.in_ok-group.ensures.index ∙ ap (place_in nat_eq known) is)
          c.in_ok-push.ensures.items;
    }

pub returns : goal.returns
returns c =
    let known = distinct bytes_eq (take c.loop-i.i c.args.keys.now) in
    let are = c.loop-i.invariant.are in
    are_groups bytes_eq nat_list_eq_equiv.refl c.args.keys.now c.loop-i.i known
    c.loop-i.numbers.items c.len-count.result (omega arith) refl are.numbers
    (c.len-count.ensures.len ∙ ap length are.known ∙ length-map known code) (omega arith)
