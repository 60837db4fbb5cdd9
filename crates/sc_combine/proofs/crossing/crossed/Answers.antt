use Rattle.std.proofs.Common.{◌∙◌, ◌<◌, ◌≤◌, ℕ, List, [], length, map, take, ap, ap₂, subst, sym, arith}
use Rattle.std.proofs.lemmas.List.{length-map, take_all}
use Rattle.sc_columns.specs.Columns.{zip_with}
use Rattle.sc_value.specs.Datum.{pair}
use Rattle.sc_value.specs.Picked.{ArePlaces, picked}
use Rattle.sc_combine.specs.Crossings.{AreCrossed, crossed as crossed_of}
use Rattle.sc_combine.proofs.CrossLemmas.{crossed_more, crossed_none}
use Rattle.sc_combine.proofs.crossing.crossed.Goals as goal

pub loop-j-init : goal.loop-j-init
loop-j-init c =
    let keys = c.args.keys.now in
    let a = c.left.inside in
    let b = c.right.inside in
    let P = λ (gs : List ℕ). λ (ls : List ℕ). λ (rs : List ℕ). AreCrossed keys a.values b.values
    (map (picked a.values) a.places) (map (picked b.values) b.places) 0 gs ls rs in
    subst (λ gs. P gs c.new-2.result.items c.new-3.result.items) (sym c.new.ensures.items)
    (subst (λ ls. P [] ls c.new-3.result.items) (sym c.new-2.ensures.items)
    (subst (λ rs. P [] [] rs) (sym c.new-3.ensures.items)
    (crossed_none keys a.values b.values a.places b.places c.left.invariant c.right.invariant
    (sym (length-map a.places (picked a.values)) ∙ ap length c.left.view_is
    ∙ c.requires.left_level)
    (sym (length-map b.places (picked b.values)) ∙ ap length c.right.view_is
    ∙ c.requires.right_level))))

pub loop-j-preserved : goal.loop-j-preserved
loop-j-preserved c =
    let keys = c.args.keys.now in
    let a = c.left.inside in
    let b = c.right.inside in
    let all = c.loop-j.all in
    let more = c.cross.new.all in
    let within : c.loop-j.j < length c.args.keys.now = omega arith in
    crossed_more keys a.values b.values a.places b.places c.left.invariant c.right.invariant
    (sym (length-map a.places (picked a.values)) ∙ ap length c.left.view_is
    ∙ c.requires.left_level)
    (sym (length-map b.places (picked b.values)) ∙ ap length c.right.view_is
    ∙ c.requires.right_level)
    c.loop-j.j c.places.result.now c.places-in-loop-j.result.now all.groups.items all.left.items
    all.right.items more.groups.items more.left.items more.right.items within c.places.ensures
    c.places-in-loop-j.ensures c.in_ok-cross.ensures.groups c.in_ok-cross.ensures.left
    c.in_ok-cross.ensures.right c.loop-j.invariant

pub picked-requires : goal.picked-requires
picked-requires c =
    subst (ArePlaces c.args.keys.now) (sym c.deref.ensures.value) c.loop-j.invariant.key_places

pub picked-requires-2 : goal.picked-requires-2
picked-requires-2 c =
    subst (ArePlaces c.left.inside.values) (sym c.deref-2.ensures.value)
    c.loop-j.invariant.left_places

pub picked-requires-3 : goal.picked-requires-3
picked-requires-3 c =
    subst (ArePlaces c.right.inside.values) (sym c.deref-3.ensures.value)
    c.loop-j.invariant.right_places

pub returns-clause-are : goal.returns-clause-are
returns-clause-are c =
    let keys = c.args.keys.now in
    let a = c.left.inside in
    let b = c.right.inside in
    let j = c.loop-j.j in
    let past : length c.args.keys.now ≤ c.loop-j.j = omega arith in
    let left_past : length c.args.left.now ≤ c.loop-j.j = omega arith in
    let right_past : length c.args.right.now ≤ c.loop-j.j = omega arith in
    c.in_ok-rows.ensures
    ∙ ap₂ (zip_with pair) (c.in_ok-keys.ensures ∙ ap (picked keys) c.deref.ensures.value)
    (c.in_ok-values.ensures
    ∙ ap₂ (zip_with pair) (c.in_ok-first.ensures ∙ ap (picked a.values) c.deref-2.ensures.value)
    (c.in_ok-second.ensures ∙ ap (picked b.values) c.deref-3.ensures.value))
    ∙ c.loop-j.invariant.are
    ∙ ap (λ ks. crossed_of ks (take j (map (picked a.values) a.places))
    (take j (map (picked b.values) b.places))) (take_all j keys past)
    ∙ ap₂ (crossed_of keys)
    (ap (take j) c.left.view_is ∙ take_all j c.args.left.now left_past)
    (ap (take j) c.right.view_is ∙ take_all j c.args.right.now right_past)
