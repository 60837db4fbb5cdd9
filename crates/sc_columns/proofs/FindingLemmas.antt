-- What a place has in a column of each form.
use Rattle.std.proofs.Common.{◌≡◌, ◌∙◌, ℕ, ◌+◌, ◌-◌, ◌^◌, ◌<◌, ◌≤◌, List, ◌++◌, Some, None, length, map, min, ap, sym, subst, arith, replicate}
use Rattle.std.proofs.lemmas.List.{length-replicate, length-append, length-map}
use Rattle.std.proofs.lemmas.Option.{slice_get-map, slice_get_within}
use Rattle.std.specs.List.{slice_get}
use Rattle.std.specs.Option.{option_map}
use Rattle.sc_value.specs.Datum.{Datum, pair}
use Rattle.sc_value.specs.Views.{datum_of}
use Rattle.sc_value.specs.declared.values.Value.{Value}
use Rattle.sc_columns.specs.Columns.{rows_in, zip_with}
use Rattle.sc_columns.specs.Finding.{IsFound, IsPast}
use Rattle.sc_columns.specs.declared.columns.Column.{Column}
use Rattle.sc_columns.specs.declared.gets.Found.{Found}
use Rattle.sc_columns.specs.declared.gets.Found.TheVariants.{Past, Row}
use Rattle.sc_columns.proofs.ListLemmas.{length-zip_with, past_end, slice_get-append_second}

-- what a call that looked into a column within another one found
pub row_inside : (x y : Column) (i : ℕ) (found : Found) (value : Value) → x ≡ y
    → IsFound (rows_in x) i found → found ≡ Row value
    → slice_get (rows_in y) i ≡ Some (datum_of value)
row_inside x y i found value same is row =
    let P : Found → Type 0 = IsFound (rows_in x) i in
    ap (λ c. slice_get (rows_in c) i) (sym same) ∙ subst P row is

pub past_inside : (x y : Column) (i n : ℕ) (found : Found) → x ≡ y
    → IsFound (rows_in x) i found → found ≡ Past n → IsPast (rows_in y) i n
past_inside x y i n found same is past =
    let P : Found → Type 0 = IsFound (rows_in x) i in
    let Q : Column → Type 0 = λ c. IsPast (rows_in c) i n in
    subst Q same (subst P past is)

module _ {X : Type 0} (f : X → Datum) (xs : List X) (i : ℕ) where
  pub found-map : (x : X) (d : Datum) → Some x ≡ slice_get xs i → d ≡ f x
      → slice_get (map f xs) i ≡ Some d
  found-map x d is same =
      slice_get-map f xs i ∙ ap (option_map f) (sym is) ∙ ap Some (sym same)

  pub past-map : (n : ℕ) → None ≡ slice_get xs i → n ≡ length xs → IsPast (map f xs) i n
  past-map n is count = record {
    count = count ∙ sym (length-map xs f);
    behind = omega (arith, past_end xs i is, count);
  }

  pub behind-map : (n : ℕ) → n ≡ length xs → n ≤ i → IsPast (map f xs) i n
  behind-map n count behind = record {
    count = count ∙ sym (length-map xs f);
    behind = behind;
  }

module _ (xs ys : List Datum) (i : ℕ) where
  pub past-first : (n m k : ℕ) → IsPast xs i n → i < 2 ^ 64
      → m ≡ min (length ys) (2 ^ 64 - 1) → k ≡ min n m → IsPast (zip_with pair xs ys) i k
  past-first n m k past small m_is k_is =
      let lens = length-zip_with pair xs ys in
      let count = past.count in
      let behind = past.behind in
      record {
        count = omega (arith, lens, count, behind);
        behind = omega (arith, behind);
      }

  pub past-second : (n : ℕ) (d : Datum) → slice_get xs i ≡ Some d → IsPast ys i n
      → IsPast (zip_with pair xs ys) i n
  past-second n d is past =
      let lens = length-zip_with pair xs ys in
      let within = slice_get_within xs i d is in
      let count = past.count in
      let behind = past.behind in
      record {
        count = omega (arith, lens, within, count, behind);
        behind = behind;
      }

  pub found-behind : (n : ℕ) (d : Datum) → IsPast xs i n → slice_get ys (i - n) ≡ Some d
      → slice_get (xs ++ ys) i ≡ Some d
  found-behind n d past is =
      slice_get-append_second xs ys i (omega (arith, past.count, past.behind))
      ∙ ap (λ k. slice_get ys (i - k)) (sym past.count) ∙ is

  pub past-both : (n m : ℕ) → IsPast xs i n → IsPast ys (i - n) m → IsPast (xs ++ ys) i (n + m)
  past-both n m first second =
      let lens = length-append xs ys in
      let first_count = first.count in
      let first_behind = first.behind in
      let second_count = second.count in
      let second_behind = second.behind in
      record {
        count = omega (arith, lens, first_count, second_count);
        behind = omega (arith, first_behind, second_behind);
      }

pub past-replicate : (x : Datum) (n i : ℕ) → n ≤ i → IsPast (replicate n x) i n
past-replicate x n i behind = record { count = sym (length-replicate n x); behind = behind }
