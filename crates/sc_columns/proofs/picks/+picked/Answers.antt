use Rattle.std.proofs.Common.{◌∙◌, ap, arith, length, List, map, subst, sym, replicate}
use Rattle.std.proofs.lemmas.Result.{IfOk-weaker}
use Rattle.sc_value.specs.Datum.{Datum, number, truth, text, pair}
use Rattle.sc_value.specs.Picked.{ArePlaces, picked}
use Rattle.sc_value.proofs.PickedLemmas.{picked-map}
use Rattle.sc_columns.specs.Columns.{group_at, rows_in, zip_with}
use Rattle.sc_columns.specs.declared.columns.Column.{Column}
use Rattle.sc_value.specs.Views.{datum_of}
use Rattle.sc_columns.proofs.PickLemmas.{first_of_pairs, pairs_in, pairs_in-Pairs, second_of_pairs}
use Rattle.sc_columns.proofs.PlaceLemmas.{picked-replicate, picked-zip_with, places_before}
use Rattle.sc_columns.proofs.VariantLemmas.{at-Bools, at-Ints, at-Lists, at-Pairs, at-Same, at-Texts}
use Rattle.sc_columns.proofs.picks.+picked.Goals as goal

pub held_picked-requires : goal.held_picked-requires
held_picked-requires t c =
    places_before number c.in-Ints.v c.args.places.now
    (subst (λ r. ArePlaces r c.args.places.now)
    (at-Ints c.args.column.now c.in-Ints.v c.in-Ints.is) c.requires)

pub held_picked-requires-in-Bools : goal.held_picked-requires-in-Bools
held_picked-requires-in-Bools t c =
    places_before truth c.in-Bools.v c.args.places.now
    (subst (λ r. ArePlaces r c.args.places.now)
    (at-Bools c.args.column.now c.in-Bools.v c.in-Bools.is) c.requires)

pub picked-requires : goal.picked-requires
picked-requires t c =
    places_before text c.in-Texts.t c.args.places.now
    (subst (λ r. ArePlaces r c.args.places.now)
    (at-Texts c.args.column.now c.in-Texts.t c.in-Texts.is) c.requires)

pub picked-requires-in-Pairs : goal.picked-requires-in-Pairs
picked-requires-in-Pairs t c =
    let column = c.args.column.now in
    let a = c.in-Pairs.a in
    let b = c.in-Pairs.b in
    let more = pairs_in-Pairs column a b c.in-Pairs.is in
    let same = ap pairs_in c.deref.ensures in (
      omega (arith, more, same, c.decreases),
      first_of_pairs column c.deref.result.now a b c.args.places.now c.in-Pairs.is c.deref.ensures
          c.requires,
    )

pub picked-requires-in-Pairs-2 : goal.picked-requires-in-Pairs-2
picked-requires-in-Pairs-2 t c =
    let column = c.args.column.now in
    let a = c.in-Pairs.a in
    let b = c.in-Pairs.b in
    let more = pairs_in-Pairs column a b c.in-Pairs.is in
    let same = ap pairs_in c.deref-in-Pairs.ensures in (
      omega (arith, more, same, c.decreases),
      second_of_pairs column c.deref-in-Pairs.result.now a b c.args.places.now c.in-Pairs.is
          c.deref-in-Pairs.ensures c.requires,
    )

pub held_picked-requires-in-Lists : goal.held_picked-requires-in-Lists
held_picked-requires-in-Lists t c =
    places_before (group_at (rows_in c.in-Lists.items.value)) c.in-Lists.spans c.args.places.now
    (subst (λ r. ArePlaces r c.args.places.now)
    (at-Lists c.args.column.now c.in-Lists.spans c.in-Lists.items c.in-Lists.is) c.requires)

pub returns-in_ok-held_picked-in-Ints : goal.returns-in_ok-held_picked-in-Ints
returns-in_ok-held_picked-in-Ints t c =
    let ps = c.args.places.now in
    IfOk-weaker c.ints.result _ _ (λ r is. is
    ∙ ap (map number) c.in_ok-held_picked-in-Ints.ensures
    ∙ picked-map number ps c.in-Ints.v
    ∙ ap (λ x. picked x ps) (sym (at-Ints c.args.column.now c.in-Ints.v c.in-Ints.is)))
    c.ints.ensures

pub returns-in_ok-held_picked-in-Bools : goal.returns-in_ok-held_picked-in-Bools
returns-in_ok-held_picked-in-Bools t c =
    let ps = c.args.places.now in
    IfOk-weaker c.bools.result _ _ (λ r is. is
    ∙ ap (map truth) c.in_ok-held_picked-in-Bools.ensures
    ∙ picked-map truth ps c.in-Bools.v
    ∙ ap (λ x. picked x ps) (sym (at-Bools c.args.column.now c.in-Bools.v c.in-Bools.is)))
    c.bools.ensures

pub returns-in_ok-picked-in-Texts : goal.returns-in_ok-picked-in-Texts
returns-in_ok-picked-in-Texts t c =
    let ps = c.args.places.now in
    IfOk-weaker c.texts.result _ _ (λ r is. is
    ∙ ap (map text) c.in_ok-picked-in-Texts.ensures
    ∙ picked-map text ps c.in-Texts.t
    ∙ ap (λ x. picked x ps) (sym (at-Texts c.args.column.now c.in-Texts.t c.in-Texts.is)))
    c.texts.ensures

pub returns-in_ok-second-in-Pairs : goal.returns-in_ok-second-in-Pairs
returns-in_ok-second-in-Pairs t c =
    let ps = c.args.places.now in
    let a = rows_in c.in-Pairs.a.value in
    let b = rows_in c.in-Pairs.b.value in
    let are = at-Pairs c.args.column.now c.in-Pairs.a c.in-Pairs.b c.in-Pairs.is in
    let P : List Datum → Type 0 = λ r. ArePlaces r ps in
    let all = subst P are c.requires in
    IfOk-weaker c.pairs.result _ _ (λ r is.
    let first = c.in_ok-first-in-Pairs.ensures
    ∙ ap (λ x. picked (rows_in x) ps) c.deref.ensures in
    let second = c.in_ok-second-in-Pairs.ensures
    ∙ ap (λ x. picked (rows_in x) ps) c.deref-in-Pairs.ensures in
    is ∙ ap (λ x. zip_with pair x (rows_in c.in_ok-second-in-Pairs.second.value)) first
    ∙ ap (zip_with pair (picked a ps)) second
    ∙ picked-zip_with pair a b ps all
    ∙ ap (λ x. picked x ps) (sym are)) c.pairs.ensures

pub returns-in_ok-held_picked-in-Lists : goal.returns-in_ok-held_picked-in-Lists
returns-in_ok-held_picked-in-Lists t c =
    let ps = c.args.places.now in
    let items = rows_in c.in-Lists.items.value in
    IfOk-weaker c.lists.result _ _ (λ r is. is
    ∙ ap (λ x. map (group_at (rows_in x)) c.in_ok-held_picked-in-Lists.field-0)
    c.in_ok-items-in-Lists.ensures
    ∙ ap (map (group_at items)) c.in_ok-held_picked-in-Lists.ensures
    ∙ picked-map (group_at items) ps c.in-Lists.spans
    ∙ ap (λ x. picked x ps)
    (sym (at-Lists c.args.column.now c.in-Lists.spans c.in-Lists.items c.in-Lists.is)))
    c.lists.ensures

pub returns-in_ok-try_clone-in-Same : goal.returns-in_ok-try_clone-in-Same
returns-in_ok-try_clone-in-Same t c =
    let ps = c.args.places.now in
    let are = at-Same c.args.column.now c.in-Same.v c.in-Same.field-1 c.in-Same.is in
    let P : List Datum → Type 0 = λ r. ArePlaces r ps in
    IfOk-weaker c.same.result _ _ (λ r is. is
    ∙ ap (λ v. replicate (length ps) (datum_of v)) c.in_ok-try_clone-in-Same.ensures
    ∙ picked-replicate c.in-Same.field-1 (datum_of c.in-Same.v.value) ps
    (subst P are c.requires)
    ∙ ap (λ x. picked x ps) (sym are)) c.same.ensures
