-- Columns that may not have been made yet.
use Rattle.std.specs.Prelude.{List, [], ◌∷◌, map}
use Rattle.sc_value.specs.Datum.{Datum}
use Rattle.sc_value.specs.Words.{cut_at, words_of}
use Rattle.sc_columns.specs.Columns.{texts_value}
use Rattle.sc_lineage.specs.declared.streams.Stream.{Stream}
use Rattle.sc_batch.specs.declared.columns.Column.{Column}
use Rattle.sc_batch.specs.declared.columns.Column.TheVariants as columns
use Rattle.sc_batch.specs.declared.columns.Evaluated.{Evaluated}

-- the rows of a column
abbrev pub rows_made : Column → List Datum
rows_made (columns.Rows rows) = rows
rows_made (columns.Words texts) = map texts_value (map words_of texts)
rows_made (columns.Pieces pieces) =
    map texts_value (map (cut_at (pieces.separator ∷ [])) pieces.texts)

-- the stream of a column and of what ended it
abbrev pub stream_of : Evaluated → Stream
stream_of v = record { rows = rows_made v.column; raise = v.raise }
