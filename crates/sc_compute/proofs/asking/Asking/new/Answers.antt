use Rattle.std.proofs.Common.{◌∙◌, ◌+◌, All, ap, ap₂, sym, subst, arith}
use Rattle.std.proofs.lemmas.List.Elements.{All-nil}
use Rattle.sc_lineage.specs.Dependencies.{place}
use Rattle.std.specs.BTreeSet.{insert_key}
use Rattle.std.specs.Ordering.{nat_cmp}
use Rattle.sc_compute.specs.Asking.{IsLeft, IsThere, place_taken}
use Rattle.sc_compute.specs.Tasks.{target_data_of}
use Rattle.sc_compute.proofs.AskingLemmas.{all-inserted, left-place, taken-there}
use Rattle.sc_compute.proofs.AsksLemmas.{asks_first, number_back}
use Rattle.sc_compute.proofs.asking.Asking.new.Goals as goal

pub returns-clause-asking : goal.returns-clause-asking
returns-clause-asking c =
    let work = c.args.work.now in
    let stages = c.args.stages.now in
    let at = c.place_of_target.result in
    let number = c.number_of-number.result in
    let below = c.from-below.result + 1 in
    let P = IsLeft work stages below in
    let there = taken-there work stages c.is_sound.ensures.script (target_data_of c.args.target)
    c.requires.target c.requires.made in
    let here : IsThere work stages at.node at.partition =
    rw (c.place_of_target.ensures.node, c.place_of_target.ensures.partition) there in
    subst (All P) (sym c.in_ok-insert.ensures.keys)
    (all-inserted P number
    (left-place work stages below at.node at.partition number c.number_of-number.ensures.small
    (sym c.number_of-number.ensures.number)
    (let is = c.from-below.ensures in omega (arith, is)) here)
    c.new-left.result.keys
    (subst (All P) (sym c.new-left.ensures.empty) (All-nil P)))

pub returns-clause-asks : goal.returns-clause-asks
returns-clause-asks c =
    let work = c.args.work.now in
    let at = c.place_of_target.result in
    let number = c.number_of-number.result in
    λ had given.
    asks_first work had (place_taken work (target_data_of c.args.target)) given _ number
    (number_back at.node at.partition number c.number_of-number.ensures.small
    (sym c.number_of-number.ensures.number)
    ∙ ap₂ place c.place_of_target.ensures.node c.place_of_target.ensures.partition)
    (c.in_ok-insert.ensures.keys
    ∙ ap (λ ks. insert_key nat_cmp ks number) c.new-left.ensures.empty)
