use Rattle.std.proofs.Common.{◌∙◌, ◌++◌, ◌<◌, [], ◌∷◌, ap, arith, length}
use Rattle.sc_value.specs.Printing.{printed}
use Rattle.sc_columns.specs.Columns.{rows_in}
use Rattle.sc_columns.proofs.ListLemmas.{there}
use Rattle.sc_columns.proofs.PrintLemmas.{text_printed, written-there}
use Rattle.sc_columns.proofs.printing.printed_each.Goals as goal

pub loop-i-preserved : goal.loop-i-preserved
loop-i-preserved c =
    let rows = rows_in c.args.column.now in
    let i = c.loop-i.i in
    let within : c.loop-i.i < length (rows_in c.args.column.now) = omega arith in
    let d = there rows i within in
    let written = written-there rows i d.0 c.clear.new.self.items c.write_row.new.out.items d.1
    (c.in_ok-write_row.ensures within) in
    let row = c.from_utf8_unchecked.ensures ∙ c.deref.ensures.value ∙ written.bytes
    ∙ ap (λ b. b ++ printed d.0) c.clear.ensures.items in
    record {
      texts = text_printed rows i d.0 c.loop-i.out.texts c.push.new.self.texts
          c.from_utf8_unchecked.result.now d.1 c.loop-i.invariant.texts row
          (c.in_ok-push.ensures.texts
          ∙ ap (λ o. c.loop-i.out.texts ++ (o ++ c.from_utf8_unchecked.result.now) ∷ [])
          c.loop-i.invariant.closed);
      closed = c.in_ok-push.ensures.open_text;
    }
