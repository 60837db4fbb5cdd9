use Rattle.std.proofs.Common.{◌∙◌, ◌<◌, ◌∷◌, [], length, map, ap, refl, arith}
use Rattle.std.proofs.lemmas.List.{length-map, map-append}
use Rattle.std.proofs.lemmas.Option.{slice_get-map, slice_get_read}
use Rattle.std.specs.Option.{option_map}
use Rattle.sc_expr.specs.Views.{expr_data_of}
use Rattle.sc_value.specs.Views.{datum_of}
use Rattle.sc_combine.specs.Combining.{step_of}
use Rattle.sc_combine.proofs.FoldLemmas.{put_answered, put_new}
use Rattle.sc_combine.proofs.combining.put_item.Goals as goal

pub returns-then-group-len : goal.returns-then-group-len
returns-then-group-len c =
    let kept = c.args.kept.now.items in
    let size = length-map kept datum_of in
    put_new (step_of c.args.taken (expr_data_of c.args.expr.now)) (map datum_of kept)
    (map datum_of c.push.new.self.items) c.args.group (datum_of c.args.item)
    (omega (arith, size, c.if-group-len.true, c.len.ensures))
    (ap (map datum_of) c.in_ok-push.ensures.items ∙ map-append datum_of kept (c.args.item ∷ []))

pub returns : goal.returns
returns c =
    let kept = c.args.kept.now.items in
    let n = c.args.group in
    let step = step_of c.args.taken (expr_data_of c.args.expr.now) in
    let d = c.index_mut.result.now in
    let within : c.args.group < length c.args.kept.now.items =
    omega (arith, c.if-group-len.false, c.len.ensures) in
    let at = slice_get-map datum_of kept n
    ∙ ap (option_map datum_of)
    (slice_get_read kept (length kept) n d refl within c.index_mut.ensures.value) in
    put_answered step datum_of kept n d c.put_beside.new.kept (datum_of c.args.item)
    c.put_beside.result at c.put_beside.ensures
