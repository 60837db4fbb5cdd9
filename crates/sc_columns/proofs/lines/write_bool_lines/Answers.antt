use Rattle.std.proofs.Common.{◌∙◌, ◌+◌, ◌*◌, ◌<◌, ap, arith, false, get_or, length, map}
use Rattle.std.proofs.lemmas.Option.{slice_get-get_or, slice_get-map}
use Rattle.std.specs.Option.{option_map}
use Rattle.sc_value.specs.Datum.{truth}
use Rattle.sc_columns.proofs.PrintLemmas.{two_lines_printed}
use Rattle.sc_columns.proofs.lines.write_bool_lines.Goals as goal

pub loop-i-preserved : goal.loop-i-preserved
loop-i-preserved c =
    let truths = c.args.truths.now in
    let i = c.loop-i.i in
    let before = c.loop-i.out.items in
    let first : 2 * c.loop-i.i < length c.args.truths.now = omega arith in
    let second : 2 * c.loop-i.i + 1 < length c.args.truths.now = omega arith in
    two_lines_printed (map truth truths) i (truth (get_or truths (2 * i) false))
    (truth (get_or truths (2 * i + 1) false)) c.args.out.now.items before
    c.write_two.new.out.items
    (slice_get-map truth truths (2 * i)
    ∙ ap (option_map truth) (slice_get-get_or truths (2 * i) false first))
    (slice_get-map truth truths (2 * i + 1)
    ∙ ap (option_map truth) (slice_get-get_or truths (2 * i + 1) false second))
    c.loop-i.invariant
    c.in_ok-write_two.ensures
