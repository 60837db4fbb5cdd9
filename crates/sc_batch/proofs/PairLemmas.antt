-- The parts of pairs, and rows read one by one.
use Rattle.std.proofs.Common.{◌≡◌, ◌∙◌, ℕ, ◌+◌, List, [], ◌∷◌, ◌++◌, Some, length, map, take, refl, ap, ap₂, sym, arith}
use Rattle.std.proofs.lemmas.List.{map_more}
use Rattle.std.proofs.lemmas.Option.{slice_get_within, get_or_from_slice_get}
use Rattle.std.specs.List.{slice_get}
use Rattle.sc_value.specs.Datum.{Datum, pair}
use Rattle.sc_columns.specs.Columns.{zip_with}
use Rattle.sc_columns.specs.Parts.{ArePairs}
use Rattle.sc_columns.specs.declared.views.Both.{Both}
use Rattle.sc_expr.specs.Heads.{first_of, second_of}

-- the parts of pairs of two columns
pub firsts : (xs ys : List Datum) → length xs ≡ length ys → xs ≡ map first_of (zip_with pair xs ys)
firsts [] ys level = refl
firsts (x ∷ xs) [] level = absurd (omega arith)
firsts (x ∷ xs) (y ∷ ys) level = ap (λ zs. x ∷ zs) (firsts xs ys (omega arith))

seconds : (xs ys : List Datum) → length xs ≡ length ys → ys ≡ map second_of (zip_with pair xs ys)
seconds [] [] level = refl
seconds [] (y ∷ ys) level = absurd (omega arith)
seconds (x ∷ xs) [] level = absurd (omega arith)
seconds (x ∷ xs) (y ∷ ys) level = ap (λ zs. y ∷ zs) (seconds xs ys (omega arith))

-- the columns of rows that are held as pairs
pub first_column : (rows : List Datum) (both : Both) → ArePairs rows both
    → both.first ≡ map first_of rows
first_column rows both pairs =
    firsts both.first both.second (pairs.first_len ∙ sym pairs.second_len)
    ∙ ap (map first_of) (sym pairs.are)

pub second_column : (rows : List Datum) (both : Both) → ArePairs rows both
    → both.second ≡ map second_of rows
second_column rows both pairs =
    seconds both.first both.second (pairs.first_len ∙ sym pairs.second_len)
    ∙ ap (map second_of) (sym pairs.are)

-- one more was read
pub read_more : {X Y : Type 0} (f : X → Y) (xs : List X) (ys after : List Y) (x : X) (i : ℕ)
    → slice_get xs i ≡ Some x → after ≡ ys ++ f x ∷ [] → ys ≡ map f (take i xs)
    → after ≡ map f (take (i + 1) xs)
read_more f xs ys after x i at added so_far =
    added ∙ ap₂ (λ zs z. zs ++ f z ∷ []) so_far (sym (get_or_from_slice_get xs i x x at))
    ∙ sym (map_more f xs i x (slice_get_within xs i x at))
