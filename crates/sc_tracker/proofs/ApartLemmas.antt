-- Shuffles of which none stands among others twice.
use Rattle.std.proofs.Common.{◌≡◌, ◌≢◌, ℕ, zero, suc, ◌<◌, ◌||◌, Bool, true, false, List, [], ◌∷◌, ◌++◌, All, get_or, length, map, refl, ap, sym, subst, ◌∙◌, arith, true≢false}
use Rattle.std.specs.List.{AllPairs, list_any}
use Rattle.std.proofs.lemmas.List.{map-append}
use Rattle.std.proofs.lemmas.List.Elements.{All-cons, All-nil}
use Rattle.std.proofs.lemmas.List.Quantifiers.{all_pairs_push}
use Rattle.sc_ids.specs.Changes.{change_at}
use Rattle.sc_ids.specs.declared.blocks.ShuffleId.{ShuffleId}
use Rattle.sc_tracker.specs.Lists.{with_output}
use Rattle.sc_tracker.specs.TrackerData.{ShuffleData, is_of, place_of, shuffle_data}
use Rattle.sc_tracker.specs.TrackerFacts.{AreApart}
use Rattle.sc_tracker.specs.declared.outputs.Output.{Output}
use Rattle.sc_tracker.specs.declared.links.Place.{Place}
use Rattle.sc_tracker.proofs.BlockLemmas.{is_of_itself, one_shuffle}
use Rattle.sc_tracker.proofs.ItemLemmas.{map_change_kept}
use Rattle.sc_tracker.proofs.LinkLemmas.{clash}

-- outputs are of the shuffle whose they are
whose : (shuffle : ShuffleId) (s : ShuffleData) → is_of shuffle s ≡ true → shuffle ≡ s.shuffle
whose shuffle s e = one_shuffle shuffle s.shuffle s e (is_of_itself s.shuffle s.outputs)

tail : (x : ShuffleData) (xs : List ShuffleData) → AreApart (x ∷ xs) → AreApart xs
tail x xs apart =
    λ i j d lt l. apart (suc i) (suc j) d (omega (arith, lt)) (omega (arith, l))

key_at : (xs : List ShuffleData) (i : ℕ) (d : ShuffleData) → i < length xs
    → (k : ShuffleId) → get_or (map (λ s. s.shuffle) xs) i k ≡ (get_or xs i d).shuffle
key_at [] i d l k = absurd (omega (arith, l))
key_at (x ∷ xs) zero d l k = refl
key_at (x ∷ xs) (suc i) d l k = key_at xs i d (omega (arith, l)) k

keys_many : (xs : List ShuffleData) → length (map (λ s. s.shuffle) xs) ≡ length xs
keys_many [] = refl
keys_many (x ∷ xs) = ap suc (keys_many xs)

-- where a shuffle stands is its place
pub stands_there : (xs : List ShuffleData) (i : ℕ) (d : ShuffleData) (shuffle : ShuffleId)
    → AreApart xs → i < length xs → is_of shuffle (get_or xs i d) ≡ true
    → i ≡ place_of xs shuffle
stands_there [] i d shuffle apart l e = absurd (omega (arith, l))
stands_there (x ∷ xs) zero d shuffle apart l e = rw e refl
stands_there (x ∷ xs) (suc i) d shuffle apart l e =
    by (is_of shuffle x) refl
    (stands_there xs i d shuffle (tail x xs apart) (omega (arith, l)) e)
  where
    within : i < length xs
    within = omega (arith, l)

    by : (b : Bool) → is_of shuffle x ≡ b → i ≡ place_of xs shuffle
        → suc i ≡ place_of (x ∷ xs) shuffle
    by true f more =
        let many = keys_many xs in
        absurd (apart zero (suc i) x.shuffle (omega arith) (omega (arith, within, many))
        (sym (whose shuffle x f) ∙ whose shuffle (get_or xs i d) e
        ∙ sym (key_at xs i d within x.shuffle)))
    by false f more = rw f (omega (arith, more))

-- ---- changes

apart_same : (xs ys : List ShuffleData)
    → map (λ s. s.shuffle) ys ≡ map (λ s. s.shuffle) xs → AreApart xs → AreApart ys
apart_same xs ys same apart = subst (AllPairs (λ a b. a ≢ b)) (sym same) apart

pub with_apart : (xs : List ShuffleData) (p : Place) (f : Output → Output) → AreApart xs
    → AreApart (with_output xs p f)
with_apart xs p f =
    apart_same xs (with_output xs p f)
    (map_change_kept (λ s. s.shuffle)
    (λ s. shuffle_data s.shuffle (change_at s.outputs p.map f)) xs p.at (λ s. refl))

pub mapped_apart : (xs : List ShuffleData) (f : ShuffleData → ShuffleData)
    → ((s : ShuffleData) → (f s).shuffle ≡ s.shuffle) → AreApart xs → AreApart (map f xs)
mapped_apart xs f same = apart_same xs (map f xs) (kept xs)
  where
    kept : (ys : List ShuffleData)
        → map (λ s. s.shuffle) (map f ys) ≡ map (λ s. s.shuffle) ys
    kept [] = refl
    kept (y ∷ ys) =
        ap (λ k. k ∷ map (λ s. s.shuffle) (map f ys)) (same y)
        ∙ ap (λ ks. y.shuffle ∷ ks) (kept ys)

pub more_apart : (xs : List ShuffleData) (s : ShuffleData)
    → list_any (is_of s.shuffle) xs ≡ false → AreApart xs → AreApart (xs ++ s ∷ [])
more_apart xs s none apart =
    subst (AllPairs (λ a b. a ≢ b)) (sym (map-append (λ x. x.shuffle) xs (s ∷ [])))
    (all_pairs_push (λ a b. a ≢ b) (map (λ x. x.shuffle) xs) s.shuffle apart
    (others xs none))
  where
    others : (ys : List ShuffleData) → list_any (is_of s.shuffle) ys ≡ false
        → All (λ k. k ≢ s.shuffle) (map (λ x. x.shuffle) ys)
    others [] e = All-nil (λ k. k ≢ s.shuffle)
    others (y ∷ ys) e = by (is_of s.shuffle y) refl e (λ f. others ys f)
      where
        by : (b : Bool) → is_of s.shuffle y ≡ b
            → (b || list_any (is_of s.shuffle) ys) ≡ false
            → (list_any (is_of s.shuffle) ys ≡ false
            → All (λ k. k ≢ s.shuffle) (map (λ x. x.shuffle) ys))
            → All (λ k. k ≢ s.shuffle) (y.shuffle ∷ map (λ x. x.shuffle) ys)
        by true f g more = absurd (true≢false g)
        by false f g more =
            All-cons (λ k. k ≢ s.shuffle) y.shuffle (map (λ x. x.shuffle) ys)
            (λ same. clash (subst (λ k. is_of k y ≡ true) same (is_of_itself y.shuffle y.outputs))
            f) (more g)
