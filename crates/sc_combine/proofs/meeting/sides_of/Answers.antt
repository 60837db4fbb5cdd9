use Rattle.std.proofs.Common.{◌≡◌, ◌∙◌, ◌<◌, ◌++◌, ℕ, length, take, drop, ap, subst, sym, arith}
use Rattle.std.proofs.lemmas.List.{length-append, length-map}
use Rattle.std.proofs.lemmas.List.Elements.{All-drop, All-take}
use Rattle.std.specs.List.{All}
use Rattle.sc_expr.specs.Heads.{first_of, second_of}
use Rattle.sc_combine.proofs.GroupLemmas.{length-groups, length-numbers_of, values_are}
use Rattle.sc_combine.proofs.MeetLemmas.{both_firsts, left_numbers, right_numbers}
use Rattle.sc_combine.proofs.meeting.sides_of.Goals as goal

pub split_at-requires : goal.split_at-requires
split_at-requires c =
    let ls = c.args.left.now in
    let rs = c.args.right.now in
    let groups = c.in_ok-groups.ensures (ls ++ rs)
    (both_firsts ls rs c.in_ok-left.left.first c.in_ok-right.right.first c.in_ok-firsts.firsts
    c.in_ok-left.ensures.first c.in_ok-right.ensures.first
    (c.in_ok-firsts.ensures ∙ c.in_ok-runs.ensures)) in
    let few : c.len-few.result ≡ length c.args.left.now =
    c.len-few.ensures ∙ ap length c.in_ok-left.ensures.first ∙ length-map ls first_of in
    let all : length c.deref.result.now ≡ length (c.args.left.now ++ c.args.right.now) =
    ap length c.deref.ensures.value
    ∙ length-groups (ls ++ rs) c.in_ok-groups.groups.numbers.items groups.numbers in
    omega (arith, few, all, length-append ls rs)

pub of-requires-clause-below : goal.of-requires-clause-below
of-requires-clause-below c =
    let ls = c.args.left.now in
    let rs = c.args.right.now in
    let groups = c.in_ok-groups.ensures (ls ++ rs)
    (both_firsts ls rs c.in_ok-left.left.first c.in_ok-right.right.first c.in_ok-firsts.firsts
    c.in_ok-left.ensures.first c.in_ok-right.ensures.first
    (c.in_ok-firsts.ensures ∙ c.in_ok-runs.ensures)) in
    let P = λ (n : ℕ). n < c.in_ok-groups.groups.count in
    subst (All P)
    (sym (c.split_at.ensures.front ∙ ap (take c.len-few.result) c.deref.ensures.value))
    (All-take P c.len-few.result c.in_ok-groups.groups.numbers.items groups.below)

pub of-requires-2-clause-level : goal.of-requires-2-clause-level
of-requires-2-clause-level c =
    let ls = c.args.left.now in
    let rs = c.args.right.now in
    let few = c.len-few.result in
    let numbers = c.in_ok-groups.groups.numbers.items in
    let groups = c.in_ok-groups.ensures (ls ++ rs)
    (both_firsts ls rs c.in_ok-left.left.first c.in_ok-right.right.first c.in_ok-firsts.firsts
    c.in_ok-left.ensures.first c.in_ok-right.ensures.first
    (c.in_ok-firsts.ensures ∙ c.in_ok-runs.ensures)) in
    ap length (c.split_at.ensures.back ∙ ap (drop few) c.deref.ensures.value
    ∙ right_numbers ls rs numbers few groups.numbers
    (c.len-few.ensures ∙ ap length c.in_ok-left.ensures.first ∙ length-map ls first_of))
    ∙ length-numbers_of (ls ++ rs) rs
    ∙ sym (ap length c.in_ok-right.ensures.second ∙ length-map rs second_of)

pub of-requires-2-clause-below : goal.of-requires-2-clause-below
of-requires-2-clause-below c =
    let ls = c.args.left.now in
    let rs = c.args.right.now in
    let groups = c.in_ok-groups.ensures (ls ++ rs)
    (both_firsts ls rs c.in_ok-left.left.first c.in_ok-right.right.first c.in_ok-firsts.firsts
    c.in_ok-left.ensures.first c.in_ok-right.ensures.first
    (c.in_ok-firsts.ensures ∙ c.in_ok-runs.ensures)) in
    let P = λ (n : ℕ). n < c.in_ok-groups.groups.count in
    subst (All P) (sym (c.split_at.ensures.back ∙ ap (drop c.len-few.result) c.deref.ensures.value))
    (All-drop P c.len-few.result c.in_ok-groups.groups.numbers.items groups.below)

pub returns : goal.returns
returns c =
    let ls = c.args.left.now in
    let rs = c.args.right.now in
    let few = c.len-few.result in
    let numbers = c.in_ok-groups.groups.numbers.items in
    let count = c.in_ok-groups.groups.count in
    let groups = c.in_ok-groups.ensures (ls ++ rs)
    (both_firsts ls rs c.in_ok-left.left.first c.in_ok-right.right.first c.in_ok-firsts.firsts
    c.in_ok-left.ensures.first c.in_ok-right.ensures.first
    (c.in_ok-firsts.ensures ∙ c.in_ok-runs.ensures)) in
    let few_is = c.len-few.ensures ∙ ap length c.in_ok-left.ensures.first
    ∙ length-map ls first_of in
    record {
      keys = groups.keys;
      left = c.in_ok-left-2.ensures
          ∙ values_are (ls ++ rs) ls c.in_ok-left.left.second c.split_at.result.0.now count
          c.in_ok-left.ensures.second
          (c.split_at.ensures.front ∙ ap (take few) c.deref.ensures.value
          ∙ left_numbers ls rs numbers few groups.numbers few_is)
          groups.count;
      right = c.in_ok-right-2.ensures
          ∙ values_are (ls ++ rs) rs c.in_ok-right.right.second c.split_at.result.1.now count
          c.in_ok-right.ensures.second
          (c.split_at.ensures.back ∙ ap (drop few) c.deref.ensures.value
          ∙ right_numbers ls rs numbers few groups.numbers few_is)
          groups.count;
    }
