use Rattle.std.specs.Cmp.{IsStrictWeakOrder}
use Rattle.std.proofs.lemmas.List.Sorted.{length_permutation, ranks_by}
use Rattle.sc_part.proofs.OrderLemmas.{asc-sorted, sorted_from_asc}
use Rattle.sc_part.proofs.PlaceLemmas.{picked-all}
use Rattle.sc_part.proofs.SortLemmas.{permutation-sorted, stable-sorted}
use Rattle.sc_part.specs.Bounds.{is_before}
use Rattle.sc_part.specs.Laws.{by_key}
use Rattle.sc_part.specs.Sorts.{sorted}
use Rattle.sc_value.proofs.KeyLemmas.{keys_ordered}
use Rattle.sc_part.proofs.laws.rows_are_sorted.Goals as goal

pub returns : goal.returns
returns c = λ key rows.
    let lt = by_key key in
    let o : IsStrictWeakOrder lt = ranks_by keys_ordered.total key in
    let whole = permutation-sorted lt rows in
    record {
      in_order = sorted_from_asc lt (sorted lt rows) (asc-sorted lt o rows);
      stable = stable-sorted lt o rows;
      whole = whole;
      count = length_permutation rows (sorted lt rows) whole;
      places = picked-all key is_before rows;
    }
