use Rattle.std.proofs.Common.{◌∙◌, ◌<◌, ◌&&◌, refl, ap, sym, arith, bytes_eq, length, map, nat_eq, take, Bool, Bor, List, ℕ}
use Rattle.std.proofs.lemmas.Cmp.{nat_list_eq_equiv}
use Rattle.std.proofs.lemmas.List.{length-map}
use Rattle.std.proofs.lemmas.Option.{get_or_from_slice_get}
use Rattle.sc_keys.proofs.CodeLemmas.{Begins, codes_and_rests_tell, same_coded}
use Rattle.sc_keys.proofs.CodedLemmas.{known_more}
use Rattle.sc_keys.proofs.GroupLemmas.{are_groups, grows_by}
use Rattle.sc_keys.proofs.ViewLemmas.{place-map, with_key-map}
use Rattle.sc_keys.specs.Codes.{code_and_rest}
use Rattle.sc_keys.specs.Groups.{distinct, place_in, with_key}
use Rattle.sc_keys.proofs.grouping.group_coded.Goals as goal

-- a key of the table, with the bytes that it borrows
abbrev lent : ℕ × Bor (List ℕ) → ℕ × List ℕ
lent k = (k.0, k.1.now)

abbrev alike : ℕ × Bor (List ℕ) → ℕ × Bor (List ℕ) → Bool
alike a b = nat_eq a.0 b.0 && bytes_eq a.1.now b.1.now

pub loop-i-preserved : goal.loop-i-preserved
loop-i-preserved c =
    let ks = c.args.keys.now in
    let i = c.loop-i.i in
    let known = c.loop-i.known.keys in
    let k = c.get.result.now in
    let key = c.coded.result in
    let within : c.loop-i.i < length c.args.keys.now = omega arith in
    let is = c.coded.ensures.is in
    record {
      few = grows_by _ _ _ i c.in_ok-group.ensures.len c.loop-i.invariant.few;
      are = known_more same_coded code_and_rest Begins codes_and_rests_tell ks i
          c.in_ok-group.group k (map lent known) (map lent c.insert_full.new.self.keys)
          c.loop-i.numbers.items c.push.new.self.items within
          (sym (get_or_from_slice_get ks i k k c.get.ensures)) c.loop-i.invariant.are
          c.coded.ensures.digits
          (ap (map lent) c.in_ok-group.ensures.keys
          ∙ with_key-map lent alike same_coded (λ s t. refl) known key
          ∙ ap (with_key same_coded (map lent known)) is)
          (c.in_ok-group.ensures.index
          ∙ place-map lent alike same_coded (λ s t. refl) known key
          ∙ ap (place_in same_coded (map lent known)) is)
          c.in_ok-push.ensures.items;
    }

pub returns : goal.returns
returns c =
    let known = distinct bytes_eq (take c.loop-i.i c.args.keys.now) in
    let are = c.loop-i.invariant.are in
    are_groups bytes_eq nat_list_eq_equiv.refl c.args.keys.now c.loop-i.i known
    c.loop-i.numbers.items c.len-count.result (omega arith) refl are.numbers
    (c.len-count.ensures.len ∙ sym (length-map c.loop-i.known.keys lent)
    ∙ ap length are.known ∙ length-map known code_and_rest)
    (omega arith)
