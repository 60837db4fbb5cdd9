-- What rows give from values that stand beside them.
use Rattle.std.specs.Prelude.{ℕ, suc, List, [], ◌∷◌, ◌++◌, length, replicate}
use Rattle.std.specs.List.{flat_map}
use Rattle.sc_value.specs.Datum.{Datum}
use Rattle.sc_columns.specs.Columns.{zip_with}
use Rattle.sc_expr.specs.Heads.{items_in}

-- what rows give with the values beside them, one row behind another
abbrev pub all_given : (Datum → Datum → List Datum) → List Datum → List Datum → List Datum
all_given given ds vs = flat_map (λ rows. rows) (zip_with given ds vs)

-- how many items the list has that a value is
abbrev pub item_count : Datum → ℕ
item_count v = length (items_in v)

-- numbers from `first` on, each as often as the count at its place says
abbrev pub numbers_times : ℕ → List ℕ → List ℕ
numbers_times first [] = []
numbers_times first (n ∷ ns) = replicate n first ++ numbers_times (suc first) ns
