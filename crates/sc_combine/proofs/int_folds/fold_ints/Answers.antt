use Rattle.std.proofs.Common.{rules, ◌≡◌, ◌∙◌, ◌<◌, ◌≤◌, ◌+◌, ◌++◌, ◌∷◌, [], Some, length, map, get_or, set, drop, ap, ap₂, refl, sym, arith, pos, w64, SFits}
use Rattle.std.proofs.lemmas.Int.{to_z-of_z}
use Rattle.std.proofs.lemmas.List.{drop-map, length-map}
use Rattle.std.proofs.lemmas.Option.{slice_get-get_or, slice_get-map, slice_get_read}
use Rattle.std.specs.List.{slice_get}
use Rattle.std.specs.Option.{option_map}
use Rattle.sc_value.specs.Datum.{number}
use Rattle.sc_combine.specs.Combining.{folded_by, step_of}
use Rattle.sc_batch.specs.IntFolds.{put_together}
use Rattle.sc_combine.specs.declared.combining.Taken.TheVariants.{Values}
use Rattle.sc_combine.proofs.FoldLemmas.{folded_all, folded_more, ints_known, ints_new}
use Rattle.sc_combine.proofs.int_folds.fold_ints.Goals as goal
use Rattle.sc_combine.proofs.int_folds.fold_ints.Goals.{then-group-len, else-group-len+in_ok-push}

pub loop-i-preserved : goal.loop-i-preserved
loop-i-preserved c e folds =
    let step = step_of Values e in
    let numbers = c.args.numbers.now in
    let ints = c.args.items.now in
    let items = map number ints in
    let i = c.loop-i.i in
    let kept = c.loop-i.folded.items in
    let n = get_or numbers i 0 in
    let x = get_or ints i (pos 0) in
    let whole = folded_by step [] numbers items in
    let level : length (map number c.args.items.now) ≡ length c.args.numbers.now =
    length-map ints number ∙ c.requires.level in
    let fits : SFits w64 (get_or c.args.items.now c.loop-i.i (pos 0)) = search rules in
    let at : slice_get items i ≡ Some (number x) =
    slice_get-map number ints i
    ∙ ap (option_map number) (slice_get-get_or ints i (pos 0) c.loop-i-test.true) in
    let so_far : whole ≡ folded_by step (map number kept) (drop i numbers) (drop i items) =
    c.loop-i.invariant e folds
    ∙ ap (folded_by step (map number kept) (drop i numbers)) (sym (drop-map number i ints)) in
    let rest = ap (λ ds. folded_by step (map number c.if-group-len.folded.items)
    (drop (i + 1) numbers) ds) (drop-map number (i + 1) ints) in
    elim c.if-group-len.branch [
      | then-group-len w ↦
          let a = w.index.result.now in
          let a_fits : SFits w64 w.index.result.now = search rules in
          let put_fits : SFits w64 w.put.result = search rules in
          let after = ap (λ v. v.items) w.folded-is
          ∙ ap (set kept n) (to_z-of_z w64 w.put.result put_fits ∙ w.put.ensures
          ∙ ap₂ (put_together c.args.kind) (to_z-of_z w64 a a_fits) (to_z-of_z w64 x fits)) in
          let within : get_or c.args.numbers.now c.loop-i.i 0 < length c.loop-i.folded.items =
          omega (arith, w.if-group-len.true, c.len.ensures) in
          folded_more step (map number kept) (map number c.if-group-len.folded.items) numbers items
          i (number x) whole level at
          (ints_known e c.args.kind folds kept c.if-group-len.folded.items n a x
          (slice_get_read kept (length kept) n a refl within w.index.ensures) after)
          so_far
          ∙ rest
      | else-group-len+in_ok-push w ↦
          let after = ap (λ v. v.items) w.folded-is ∙ w.in_ok-push.ensures.items
          ∙ ap (λ y. kept ++ y ∷ []) (to_z-of_z w64 x fits) in
          let past : length c.loop-i.folded.items ≤ get_or c.args.numbers.now c.loop-i.i 0 =
          omega (arith, w.if-group-len.false, c.len.ensures) in
          folded_more step (map number kept) (map number c.if-group-len.folded.items) numbers items
          i (number x) whole level at
          (ints_new e c.args.kind folds kept c.if-group-len.folded.items n x past after)
          so_far
          ∙ rest
    ]

pub returns : goal.returns
returns c e folds =
    let step = step_of Values e in
    let numbers = c.args.numbers.now in
    let ints = c.args.items.now in
    let items = map number ints in
    let i = c.loop-i.i in
    let kept = c.loop-i.folded.items in
    let whole = folded_by step [] numbers items in
    let size = length-map ints number in
    let past : length (map number c.args.items.now) ≤ c.loop-i.i = omega (arith, size) in
    folded_all step (map number kept) numbers items i whole (size ∙ c.requires.level) past
    (c.loop-i.invariant e folds
    ∙ ap (folded_by step (map number kept) (drop i numbers)) (sym (drop-map number i ints)))
