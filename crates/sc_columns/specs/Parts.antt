-- What rows are made of.
use Rattle.std.specs.Prelude.{◌≡◌, ◌≤◌, ◌++◌, ℕ, List, length, map}
use Rattle.std.specs.List.{All}
use Rattle.sc_value.specs.Datum.{Datum, pair}
use Rattle.sc_value.specs.declared.texts.Span.{Span}
use Rattle.sc_columns.specs.Columns.{group_at, zip_with}
use Rattle.sc_columns.specs.declared.views.Both.{Both}
use Rattle.sc_columns.specs.declared.views.Lists.{Lists}

-- rows that are pairs, as their first and their second parts
pub record ArePairs (rows : List Datum) (both : Both) : Type 0 where
  pub are : rows ≡ zip_with pair both.first both.second
  pub first_len : length both.first ≡ length rows
  pub second_len : length both.second ≡ length rows

-- rows as a run of them and the run behind it
abbrev pub AreRuns : List Datum → Both → Type 0
AreRuns rows both = rows ≡ both.first ++ both.second

-- a range of so many items
pub record IsRange (n : ℕ) (span : Span) : Type 0 where
  pub ordered : span.from ≤ span.to
  pub within : span.to ≤ n

-- rows that are lists, as ranges of items
pub record AreLists (rows : List Datum) (lists : Lists) : Type 0 where
  pub are : rows ≡ map (group_at lists.items) lists.spans
  pub ranges : All (IsRange (length lists.items)) lists.spans
