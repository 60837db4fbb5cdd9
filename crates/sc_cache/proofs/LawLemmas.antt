-- What holds of every cache.
use Rattle.std.proofs.Common.{◌≡◌, ◌∙◌, ◌-◌, ◌==◌, ◌&&◌, ◌⊎◌, inl, inr, ℕ, suc, Bool, true, false, cond, not, List, [], ◌∷◌, length, take, Option, Some, None, is_some, slice_get, if◌then◌else◌, refl, ap, sym, subst, arith, true≢false}
use Rattle.std.proofs.lemmas.Bool.{cases_Bool}
use Rattle.std.specs.Map.{AreApart, keys_of, lookup, remove_entry}
use Rattle.std.specs.List.{AllByRecursion, IsDistinct}
use Rattle.sc_cache.specs.declared.names.CachedId.{CachedId}
use Rattle.sc_cache.specs.CacheLaws.{goes_as}
use Rattle.sc_cache.specs.Caches.{CacheData, IsSoundCache, block_of, displaced_by, last_used, others, same_id, used_order, with_kept, with_used, without_last}
use Rattle.sc_cache.proofs.CacheLemmas.{same_are_equal, same_as_itself}

-- two names that differ, from either side
pub differs_so : (a b : CachedId) → same_id a b ≡ false → same_id b a ≡ false
differs_so a b differ = at (cases_Bool (same_id b a))
  where
    at : (same_id b a ≡ true) ⊎ (same_id b a ≡ false) → same_id b a ≡ false
    at (inl same) =
        absurd (true≢false (sym (same_as_itself a)
        ∙ ap (λ x. same_id a x) (sym (same_are_equal b a same)) ∙ differ))
    at (inr other) = other

-- no name is the same as each of two that differ
pub are_apart : (a b : CachedId) → same_id a b ≡ false → AreApart (same_id a) (same_id b)
are_apart a b differ k same =
    subst (λ x. same_id b x ≡ false) (same_are_equal a k same) (differs_so a b differ)

less_one : (n : ℕ) → suc n - 1 ≡ n
less_one n = omega arith

module _ {V : Type 0} where
  apart_by : (a b : CachedId) (e : CachedId × V) (es : List (CachedId × V)) (here : Bool)
      → same_id a e.0 ≡ here → AreApart (same_id a) (same_id b)
      → lookup (same_id b) (remove_entry (same_id a) es) ≡ lookup (same_id b) es
      → lookup (same_id b) (cond here es (e ∷ remove_entry (same_id a) es))
      ≡ cond (same_id b e.0) (Some e.1) (lookup (same_id b) es)
  apart_by a b e es true is apart rest = rw (apart e.0 is) refl
  apart_by a b e es false is apart rest =
      ap (λ found. cond (same_id b e.0) (Some e.1) found) rest

  -- one name is found as before where another's block is taken out
  found_apart : (a b : CachedId) → AreApart (same_id a) (same_id b)
      → (es : List (CachedId × V))
      → lookup (same_id b) (remove_entry (same_id a) es) ≡ lookup (same_id b) es
  found_apart a b apart [] = refl
  found_apart a b apart (e ∷ es) =
      apart_by a b e es (same_id a e.0) refl apart (found_apart a b apart es)

  pub kept_law : (c : CacheData V) (id : CachedId) (block : V)
      → block_of (with_kept c id block) id ≡ Some block
  kept_law c id block = rw (same_as_itself id) refl

  used_at : (c : CacheData V) (id other : CachedId) (found : Option V)
      → lookup (same_id id) c.blocks ≡ found
      → lookup (same_id other) (used_order c id found) ≡ lookup (same_id other) c.blocks
  used_at c id other None is = refl
  used_at c id other (Some v) is = at (cases_Bool (same_id other id))
    where
      at : (same_id other id ≡ true) ⊎ (same_id other id ≡ false)
          → cond (same_id other id) (Some v)
          (lookup (same_id other) (remove_entry (same_id id) c.blocks))
          ≡ lookup (same_id other) c.blocks
      at (inl same) =
          rw same (sym is
          ∙ ap (λ x. lookup (same_id x) c.blocks) (sym (same_are_equal other id same)))
      at (inr differ) =
          rw differ (found_apart id other
          (are_apart id other (differs_so other id differ)) c.blocks)

  pub used_law : (c : CacheData V) (id other : CachedId)
      → block_of (with_used c id) other ≡ block_of c other
  used_law c id other = used_at c id other (lookup (same_id id) c.blocks) refl

  -- a name other than that of the last is found among those before it, or nowhere
  found_before : (other : CachedId) (e : CachedId × V) (es : List (CachedId × V))
      → goes_as other (slice_get (e ∷ es) (length es)) ≡ false
      → lookup (same_id other) (take (length es) (e ∷ es)) ≡ lookup (same_id other) (e ∷ es)
  found_before other e [] goes = rw goes refl
  found_before other e (f ∷ fs) goes =
      ap (λ found. cond (same_id other e.0) (Some e.1) found) (found_before other f fs goes)

  -- a name that differs from all but is that of the last
  not_first : (other a : CachedId) (f : CachedId × V) (fs : List (CachedId × V))
      → AllByRecursion (λ y. same_id a y ≡ false) (keys_of (f ∷ fs))
      → goes_as other (slice_get (f ∷ fs) (length fs)) ≡ true → same_id other a ≡ false
  not_first other a f [] all goes =
      subst (λ x. same_id x a ≡ false) (sym (same_are_equal other f.0 goes))
      (differs_so a f.0 all.0)
  not_first other a f (g ∷ gs) all goes = not_first other a g gs all.1 goes

  -- the name of the last isn't found among those before it
  gone_before : (other : CachedId) (e : CachedId × V) (es : List (CachedId × V))
      → IsDistinct same_id (keys_of (e ∷ es))
      → goes_as other (slice_get (e ∷ es) (length es)) ≡ true
      → lookup (same_id other) (take (length es) (e ∷ es)) ≡ None
  unfolding IsDistinct
  gone_before other e [] distinct goes = refl
  gone_before other e (f ∷ fs) distinct goes =
      rw (not_first other e.0 f fs distinct.0 goes) (gone_before other f fs distinct.1 goes)

  stays_last : (other : CachedId) (es : List (CachedId × V))
      → goes_as other (slice_get es (length es - 1)) ≡ false
      → lookup (same_id other) (take (length es - 1) es) ≡ lookup (same_id other) es
  stays_last other [] goes = refl
  stays_last other (e ∷ es) goes =
      subst (λ n. lookup (same_id other) (take n (e ∷ es)) ≡ lookup (same_id other) (e ∷ es))
      (sym (less_one (length es)))
      (found_before other e es
      (subst (λ n. goes_as other (slice_get (e ∷ es) n) ≡ false) (less_one (length es)) goes))

  goes_last : (other : CachedId) (es : List (CachedId × V)) → IsDistinct same_id (keys_of es)
      → goes_as other (slice_get es (length es - 1)) ≡ true
      → lookup (same_id other) (take (length es - 1) es) ≡ None
  goes_last other [] distinct goes = refl
  goes_last other (e ∷ es) distinct goes =
      subst (λ n. lookup (same_id other) (take n (e ∷ es)) ≡ None)
      (sym (less_one (length es)))
      (gone_before other e es distinct
      (subst (λ n. goes_as other (slice_get (e ∷ es) n) ≡ true) (less_one (length es)) goes))

  pub left_law : (c : CacheData V) (other : CachedId)
      → goes_as other (last_used c) ≡ false
      → block_of (without_last c) other ≡ block_of c other
  left_law c other goes = stays_last other c.blocks goes

  pub let_go_law : (c : CacheData V) (other : CachedId)
      → IsSoundCache c → goes_as other (last_used c) ≡ true
      → block_of (without_last c) other ≡ None
  let_go_law c other sound goes = goes_last other c.blocks sound.distinct goes

  module _ (c : CacheData V) (id other : CachedId) (differ : same_id id other ≡ false) where
    -- what stays beside, by whether the name is there and whether the cache is full
    abbrev beside : Bool → Bool → List (CachedId × V)
    beside there full =
        if there then others c id
        else (if full then take (length c.blocks - 1) c.blocks else c.blocks)

    abbrev going : Bool → Bool → Option (CachedId × V)
    going there full =
        if full && not there then slice_get c.blocks (length c.blocks - 1) else None

    stays_by : (there full : Bool) → goes_as other (going there full) ≡ false
        → lookup (same_id other) (beside there full) ≡ lookup (same_id other) c.blocks
    stays_by true full goes =
        found_apart id other (are_apart id other differ) c.blocks
    stays_by false true goes = stays_last other c.blocks goes
    stays_by false false goes = refl

    pub stays_law : (block : V) → IsSoundCache c
        → goes_as other (displaced_by c id) ≡ false
        → block_of (with_kept c id block) other ≡ block_of c other
    stays_law block sound goes =
        rw (differs_so id other differ)
        (stays_by (is_some (lookup (same_id id) c.blocks)) (length c.blocks == c.limit) goes)

    goes_by : (there full : Bool) → IsDistinct same_id (keys_of c.blocks)
        → goes_as other (going there full) ≡ true
        → lookup (same_id other) (beside there full) ≡ None
    goes_by true true distinct goes = absurd (true≢false (sym goes))
    goes_by true false distinct goes = absurd (true≢false (sym goes))
    goes_by false true distinct goes = goes_last other c.blocks distinct goes
    goes_by false false distinct goes = absurd (true≢false (sym goes))

    pub goes_law : (block : V) → IsSoundCache c
        → goes_as other (displaced_by c id) ≡ true
        → block_of (with_kept c id block) other ≡ None
    goes_law block sound goes =
        rw (differs_so id other differ)
        (goes_by (is_some (lookup (same_id id) c.blocks)) (length c.blocks == c.limit)
        sound.distinct goes)
