-- What a place in some rows has.
use Rattle.std.specs.Prelude.{◌≡◌, ◌≤◌, ℕ, List, Some, length, slice_get}
use Rattle.sc_value.specs.Datum.{Datum}
use Rattle.sc_value.specs.Views.{datum_of}
use Rattle.sc_columns.specs.declared.gets.Found.{Found}
use Rattle.sc_columns.specs.declared.gets.Found.TheVariants.{Row, Past}

-- there are so many rows, and the place lies behind them
pub record IsPast (rows : List Datum) (i n : ℕ) : Type 0 where
  pub count : n ≡ length rows
  pub behind : n ≤ i

-- the place has this row, or lies behind so many
abbrev pub IsFound : List Datum → ℕ → Found → Type 0
IsFound rows i (Row value) = slice_get rows i ≡ Some (datum_of value)
IsFound rows i (Past n) = IsPast rows i n
