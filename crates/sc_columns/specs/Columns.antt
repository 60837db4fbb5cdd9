-- The rows that columns hold.
use Rattle.std.specs.Prelude.{List, [], ◌∷◌, ◌++◌, map, replicate, slice_range, ℕ}
use Rattle.std.specs.Arc.{arc_value}
use Rattle.std.specs.declared.sync.Arc.{Arc}
use Rattle.std.specs.declared.alloc.Global.{Global}
use Rattle.sc_value.specs.Datum.{Datum, number, truth, text, pair, group, items_of}
use Rattle.sc_value.specs.Views.{datum_of}
use Rattle.sc_value.specs.declared.texts.Span.{Span}
use Rattle.sc_columns.specs.declared.columns.Column.{Column, fold-Column}
use Rattle.sc_columns.specs.declared.columns.Column.TheOpen.{Column-F}

-- two lists item by item, up to the end of the shorter
abbrev pub zip_with : {X Y Z : Type 0} → (X → Y → Z) → List X → List Y → List Z
zip_with f [] ys = []
zip_with f (x ∷ xs) [] = []
zip_with f (x ∷ xs) (y ∷ ys) = f x y ∷ zip_with f xs ys

-- some of the items, as one value
abbrev pub group_at : List Datum → Span → Datum
group_at items span = group (items_of (slice_range items span.from span.to))

-- texts as one value
abbrev pub texts_value : List (List ℕ) → Datum
texts_value ts = group (items_of (map text ts))

-- one layer of a column, with rows in place of the columns inside
abbrev pub rows_step : Column-F (List Datum) → List Datum
rows_step (Column-F.Ints v) = map number v
rows_step (Column-F.Bools v) = map truth v
rows_step (Column-F.Texts t) = map text t
rows_step (Column-F.Pairs a b) = zip_with pair (arc_value a) (arc_value b)
rows_step (Column-F.Lists spans items) = map (group_at (arc_value items)) spans
rows_step (Column-F.Values v) = map datum_of v
rows_step (Column-F.Same v n) = replicate n (datum_of (arc_value v))
rows_step (Column-F.Chain a b) = arc_value a ++ arc_value b

-- the rows that a column holds
abbrev pub rows_in : Column → List Datum
rows_in = fold-Column (List Datum) rows_step

-- the rows of a column that is shared
abbrev pub shared_rows : Arc Column Global → List Datum
shared_rows column = rows_in (arc_value column)
