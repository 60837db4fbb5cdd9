use Rattle.std.proofs.Common.{rules, ◌<◌, ◌≤◌, ◌∙◌, ap, sym, map, length, refl, Some, None, arith}
use Rattle.std.specs.List.{slice_get}
use Rattle.std.proofs.lemmas.Int.{to_z-of_z}
use Rattle.std.proofs.lemmas.List.{length-map}
use Rattle.std.proofs.lemmas.Result.{IfOk-weaker}
use mir.Val.{SFits}
use mir.Syntax.{w64}
use Rattle.sc_value.specs.Datum.{number}
use Rattle.sc_value.specs.Picked.{picked}
use Rattle.sc_columns.specs.Columns.{group_at}
use Rattle.sc_columns.proofs.ListLemmas.{length-zip_with}
use Rattle.sc_expr.specs.declared.exprs.Head.TheVariants as heads
use Rattle.sc_expr.specs.declared.exprs.Raise.TheVariants.{OutOfRange}
use Rattle.sc_batch.specs.Items.{list_in}
use Rattle.sc_batch.specs.Lists.{place_in}
use Rattle.sc_batch.specs.Outcomes.{of_two}
use Rattle.sc_batch.proofs.ListLemmas.{nths, nth-found, nth-missing, nth-place}
use Rattle.sc_batch.proofs.StreamLemmas.{rows-all, rows-more, rows-raised}
use Rattle.sc_batch.proofs.picks.nth_of_lists.Goals as goal

pub returns-in-None : goal.returns-in-None
returns-in-None c =
    let rows = c.args.rows.now in
    let lists = c.args.lists.now in
    let ks = list_in c.args.at in
    let i = c.loop-i.i in
    let s = c.item_at.result in
    let z = c.at.result in
    let out = picked lists.items c.loop-i.places.items in
    let fits : SFits w64 z = search rules in
    let span = ap (λ ss. slice_get ss i) (sym c.as_slice-spans.ensures) ∙ c.item_at.ensures in
    let none = ap (place_in s) (sym (to_z-of_z w64 z fits)) ∙ sym c.in-None.ensures in
    let within : i < length (nths rows ks) = omega (
      arith,
      ap length c.requires.are,
      length-map lists.spans (group_at lists.items),
      length-map ks number,
      length-zip_with (of_two heads.Nth) rows (map number ks),
      ap length c.as_slice-spans.ensures,
    ) in
    let same = rows-raised (nths rows ks) c.args.end out out (Some OutOfRange) i within
    c.loop-i.invariant.done
    (nth-missing rows lists c.requires ks i s z span c.at.ensures out none) refl in
    IfOk-weaker c.picked.result _ _ (λ t is. is
    ∙ ap (λ ps. record { rows = picked lists.items ps; raise = Some OutOfRange })
    c.deref.ensures.value
    ∙ same) c.picked.ensures

pub loop-i-preserved : goal.loop-i-preserved
loop-i-preserved c =
    let rows = c.args.rows.now in
    let lists = c.args.lists.now in
    let ks = list_in c.args.at in
    let i = c.loop-i.i in
    let s = c.item_at.result in
    let z = c.at.result in
    let p = c.in-Some.place in
    let before = c.loop-i.places.items in
    let after = c.push.new.self.items in
    let fits : SFits w64 z = search rules in
    let span = ap (λ ss. slice_get ss i) (sym c.as_slice-spans.ensures) ∙ c.item_at.ensures in
    let some = ap (place_in s) (sym (to_z-of_z w64 z fits)) ∙ sym c.in-Some.ensures in
    let within : i < length (nths rows ks) = omega (
      arith,
      ap length c.requires.are,
      length-map lists.spans (group_at lists.items),
      length-map ks number,
      length-zip_with (of_two heads.Nth) rows (map number ks),
      ap length c.as_slice-spans.ensures,
    ) in
    record {
      done = rows-more (nths rows ks) c.args.end (picked lists.items before)
          (picked lists.items after) None i within c.loop-i.invariant.done
          (nth-found rows lists c.requires ks i s z span c.at.ensures p before after some
          c.in_ok-push-in-Some.ensures.items) refl;
      places = nth-place rows lists c.requires ks i s z span c.at.ensures p before after some
          c.in_ok-push-in-Some.ensures.items c.loop-i.invariant.places;
    }

pub returns : goal.returns
returns c =
    let rows = c.args.rows.now in
    let lists = c.args.lists.now in
    let ks = list_in c.args.at in
    let before = c.loop-i.places.items in
    let past : length (nths rows ks) ≤ c.loop-i.i = omega (
      arith,
      ap length c.requires.are,
      length-map lists.spans (group_at lists.items),
      length-map ks number,
      length-zip_with (of_two heads.Nth) rows (map number ks),
      ap length c.as_slice-spans.ensures,
    ) in
    IfOk-weaker c.picked-2.result _ _ (λ t is. is
    ∙ ap (λ ps. record { rows = picked lists.items ps; raise = c.args.end }) c.deref-2.ensures.value
    ∙ rows-all (nths rows ks) c.args.end (picked lists.items before) c.loop-i.i past
    c.loop-i.invariant.done) c.picked-2.ensures
