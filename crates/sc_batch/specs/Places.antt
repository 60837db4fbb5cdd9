-- Places that are the same at each row.
use Rattle.std.specs.Prelude.{◌≡◌, List, pos, replicate}
use Rattle.sc_value.specs.Datum.{Datum, number}
use Rattle.sc_batch.specs.declared.picks.Place.{Place}

-- each row is this place
abbrev pub IsPlace : List Datum → Place → Type 0
IsPlace rows place = rows ≡ replicate place.rows (number (pos place.at))
