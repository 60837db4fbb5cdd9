-- Where a duration comes among those that rise.
use Rattle.std.proofs.Common.{◌≡◌, ℕ, ◌<◌, ◌≤◌, ◌⊎◌, inl, inr, Bool, true, false, List, length, nat_lt, refl, ◌∙◌, sym, arith, true≢false}
use Rattle.std.specs.List.{prefix_len}
use Rattle.std.specs.List.Sorted.{IsPartitionPoint}
use Rattle.std.proofs.lemmas.Bool.Decides.{nat_tests}
use Rattle.std.proofs.lemmas.List.Sums.{prefix_len-le-length, prefix_len_passes, prefix_len_stops}

-- the place from which on no item passes a test that all before do is the length of those before
pub place_is : (test : ℕ → Bool) (xs : List ℕ) (place : ℕ) → place ≤ length xs
    → IsPartitionPoint (λ y. test y ≡ true) (λ y. test y ≡ false) xs place
    → place ≡ prefix_len test xs
place_is test xs place within point =
    by (order place at)
  where
    at : ℕ
    at = prefix_len test xs

    order : (m n : ℕ) → (m < n) ⊎ ((n < m) ⊎ (m ≡ n))
    order m n = either (nat_lt m n) (nat_lt n m) refl refl
      where
        either : (b c : Bool) → nat_lt m n ≡ b → nat_lt n m ≡ c
            → (m < n) ⊎ ((n < m) ⊎ (m ≡ n))
        either true c e f = inl (grind (arith, nat_tests, e))
        either false true e f = inr (inl (grind (arith, nat_tests, f)))
        either false false e f = inr (inr (grind (arith, nat_tests, e, f)))

    by : (place < prefix_len test xs) ⊎ ((prefix_len test xs < place)
        ⊎ (place ≡ prefix_len test xs)) → place ≡ prefix_len test xs
    by (inl less) =
        let most = prefix_len-le-length test xs in
        absurd (true≢false (sym (prefix_len_passes test xs place 0 less)
        ∙ point.1 place 0 (omega arith) (omega (arith, less, most))))
    by (inr (inl more)) =
        absurd (true≢false (sym (point.0 at 0 (omega arith) more)
        ∙ prefix_len_stops test xs 0 (omega (arith, more, within))))
    by (inr (inr same)) = same
