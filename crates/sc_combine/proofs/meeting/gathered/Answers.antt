use Rattle.std.proofs.Common.{◌∙◌, ap}
use Rattle.sc_columns.specs.Columns.{zip_with}
use Rattle.sc_value.specs.Datum.{pair}
use Rattle.sc_combine.proofs.MeetLemmas.{gathered_is}
use Rattle.sc_combine.proofs.meeting.gathered.Goals as goal

pub returns : goal.returns
returns c left right sides =
    let s = c.args.sides in
    c.in_ok-rows.ensures ∙ ap (zip_with pair s.keys) c.in_ok-values.ensures
    ∙ gathered_is left right s c.in_ok-first.first c.in_ok-second.second sides
    c.in_ok-first.ensures c.in_ok-second.ensures
