use Rattle.std.proofs.Common.{◌∙◌, ◌<◌, length, map, refl, ap, sym, arith, bytes_eq, Bool, Bor, List, ℕ}
use Rattle.std.proofs.lemmas.List.{length-map}
use Rattle.std.proofs.lemmas.Cmp.{nat_list_eq_equiv}
use Rattle.std.proofs.lemmas.Option.{get_or_from_slice_get}
use Rattle.sc_keys.proofs.GroupLemmas.{are_groups, groups_more, grows_by}
use Rattle.sc_keys.proofs.ViewLemmas.{place-map, with_key-map}
use Rattle.sc_keys.proofs.grouping.group_slices.Goals as goal

abbrev bytes_of : Bor (List ℕ) → List ℕ
bytes_of t = t.now

abbrev alike : Bor (List ℕ) → Bor (List ℕ) → Bool
alike s t = bytes_eq s.now t.now

pub loop-i-preserved : goal.loop-i-preserved
loop-i-preserved c =
    let ks = c.args.keys.now in
    let i = c.loop-i.i in
    let known = c.loop-i.known.keys in
    let k = c.get.result in
    let within : c.loop-i.i < length c.args.keys.now = omega arith in
    let next = groups_more bytes_eq nat_list_eq_equiv.refl ks i c.in_ok-group.group k.now
    (map bytes_of known) (map bytes_of c.insert_full.new.self.keys) c.loop-i.numbers.items
    c.push.new.self.items within (sym (get_or_from_slice_get ks i k.now k.now c.get.ensures))
    c.loop-i.invariant.known c.loop-i.invariant.numbers
    (ap (map bytes_of) c.in_ok-group.ensures.keys
    ∙ with_key-map bytes_of alike bytes_eq (λ s t. refl) known k)
    (c.in_ok-group.ensures.index
    ∙ place-map bytes_of alike bytes_eq (λ s t. refl) known k)
    c.in_ok-push.ensures.items in
    record {
      few = grows_by _ _ _ i c.in_ok-group.ensures.len c.loop-i.invariant.few;
      known = next.0;
      numbers = next.1;
    }

pub returns : goal.returns
returns c =
    are_groups bytes_eq nat_list_eq_equiv.refl c.args.keys.now c.loop-i.i
    (map bytes_of c.loop-i.known.keys) c.loop-i.numbers.items c.len-count.result (omega arith)
    c.loop-i.invariant.known c.loop-i.invariant.numbers
    (c.len-count.ensures.len ∙ sym (length-map c.loop-i.known.keys bytes_of)) (omega arith)
