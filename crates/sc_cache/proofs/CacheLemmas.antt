-- Lemmas on what a cache of the kit does, in the words of this crate.
use Rattle.std.proofs.Common.{◌≡◌, ◌≢◌, true≢false, ◌∙◌, ℕ, ◌-◌, ◌<◌, ◌≤◌, ◌==◌, ◌&&◌, Bool, true, false, cond, not, List, [], ◌∷◌, length, take, Option, Some, None, is_some, slice_get, if◌then◌else◌, refl, ap, ap₂, sym, arith}
use Rattle.std.proofs.lemmas.Bool.{and_parts, eqb-true, eqb-false, eq-eqb}
use Rattle.std.proofs.lemmas.List.{take_all}
use Rattle.std.proofs.lemmas.Option.{slice_get_past}
use Rattle.std.specs.Map.{lookup, lookup_entry, remove_entry}
use Rattle.std.specs.Option.{option_map, option_map_or}
use Rattle.lru.specs.LruCache.{displaced, lru_cache, promoted, put_entries}
use Rattle.sc_cache.specs.declared.names.CachedId.{CachedId}
use Rattle.sc_cache.specs.Caches.{cache_data, displaced_by, others, same_id, used_order, with_kept}

-- names that are the same are equal
pub same_are_equal : (a b : CachedId) → same_id a b ≡ true → a ≡ b
same_are_equal a b same =
    let both : (a.node == b.node ≡ true) × (a.partition == b.partition ≡ true) =
    and_parts (a.node == b.node) (a.partition == b.partition) same in
    ap₂ (λ n p. record { node = n; partition = p })
    (eqb-true a.node b.node both.0) (eqb-true a.partition b.partition both.1)

-- a name is the same as itself
pub same_as_itself : (a : CachedId) → same_id a a ≡ true
same_as_itself a = rw (eq-eqb a.node a.node refl, eq-eqb a.partition a.partition refl) refl

module _ {V : Type 0} (id : CachedId) where
  entry_by : (e : CachedId × V) (es : List (CachedId × V)) (b : Bool) → same_id id e.0 ≡ b
      → lookup_entry (same_id id) es ≡ option_map (λ v. (id, v)) (lookup (same_id id) es)
      → cond b (Some e) (lookup_entry (same_id id) es)
      ≡ option_map (λ v. (id, v)) (cond b (Some e.1) (lookup (same_id id) es))
  entry_by e es true is rest = ap (λ n. Some (n, e.1)) (sym (same_are_equal id e.0 is))
  entry_by e es false is rest = rest

  -- the first entry of a name is the name with its block
  pub entry_of : (es : List (CachedId × V))
      → lookup_entry (same_id id) es ≡ option_map (λ v. (id, v)) (lookup (same_id id) es)
  entry_of [] = refl
  entry_of (e ∷ es) = entry_by e es (same_id id e.0) refl (entry_of es)

  used_by : (es : List (CachedId × V)) (n : ℕ) (found : Option V)
      → option_map_or (λ e. e ∷ remove_entry (same_id id) es) (option_map (λ v. (id, v)) found) es
      ≡ used_order (cache_data es n) id found
  used_by es n None = refl
  used_by es n (Some v) = refl

  -- what goes first in a use
  pub promoted_is : (es : List (CachedId × V)) (n : ℕ)
      → promoted (same_id id) es
      ≡ used_order (cache_data es n) id (lookup (same_id id) es)
  promoted_is es n =
      ap (λ o. option_map_or (λ e. e ∷ remove_entry (same_id id) es) o es) (entry_of es)
      ∙ used_by es n (lookup (same_id id) es)

  -- all but the last where there are as many as the limit, and else all
  kept_by : (es : List (CachedId × V)) (n : ℕ) (full : Bool) → length es ≤ n
      → (length es == n) ≡ full
      → take (n - 1) es ≡ (if full then take (length es - 1) es else es)
  kept_by es n true within is = ap (λ k. take (k - 1) es) (sym (eqb-true (length es) n is))
  kept_by es n false within is =
      let other : length es ≢ n = eqb-false (length es) n is in
      take_all (n - 1) es (below (length es) n within other)
    where
      below : (a b : ℕ) → a ≤ b → a ≢ b → a ≤ b - 1
      below a b le ne = omega (arith, le, ne)

  last_by : (es : List (CachedId × V)) (n : ℕ) (full : Bool) → length es ≤ n → 0 < n
      → (length es == n) ≡ full
      → slice_get es (n - 1) ≡ (if full then slice_get es (length es - 1) else None)
  last_by es n true within some is =
      ap (λ k. slice_get es (k - 1)) (sym (eqb-true (length es) n is))
  last_by es n false within some is =
      let other : length es ≢ n = eqb-false (length es) n is in
      slice_get_past es (n - 1) (below (length es) n within other)
    where
      below : (a b : ℕ) → a ≤ b → a ≢ b → a ≤ b - 1
      below a b le ne = omega (arith, le, ne)

  put_by : (es : List (CachedId × V)) (n : ℕ) (block : V) (found : Option V) → length es ≤ n
      → option_map_or (λ (e : CachedId × V). (e.0, block) ∷ remove_entry (same_id id) es)
      (option_map (λ v. (id, v)) found) ((id, block) ∷ take (n - 1) es)
      ≡ (id, block) ∷ (if is_some found then others (cache_data es n) id
      else (if length es == n then take (length es - 1) es else es))
  put_by es n block None within =
      ap (λ rest. (id, block) ∷ rest) (kept_by es n (length es == n) within refl)
  put_by es n block (Some v) within = refl

  -- what is there where a block was put
  pub put_is : (es : List (CachedId × V)) (n : ℕ) (block : V) → length es ≤ n
      → lru_cache (put_entries same_id (lru_cache es n) id block) n
      ≡ lru_cache (with_kept (cache_data es n) id block).blocks n
  put_is es n block within =
      ap (λ all. lru_cache all n)
      (ap (λ o. option_map_or (λ (e : CachedId × V). (e.0, block) ∷ remove_entry (same_id id) es) o
      ((id, block) ∷ take (n - 1) es)) (entry_of es)
      ∙ put_by es n block (lookup (same_id id) es) within)

  gone_by : (es : List (CachedId × V)) (n : ℕ) (full : Bool)
      → (if full then slice_get es (length es - 1) else None)
      ≡ (if full && true then slice_get es (length es - 1) else None)
  gone_by es n true = refl
  gone_by es n false = refl

  none_by : (es : List (CachedId × V)) (full : Bool)
      → None ≡ (if full && false then slice_get es (length es - 1) else None)
  none_by es true = refl
  none_by es false = refl

  -- what goes where the name wasn't there
  pub goes_for_new : (es : List (CachedId × V)) (n : ℕ) (block : V) → length es ≤ n → 0 < n
      → is_some (lookup (same_id id) es) ≡ false
      → displaced same_id (lru_cache es n) id block ≡ displaced_by (cache_data es n) id
  goes_for_new es n block within some new = at (lookup (same_id id) es) new
    where
      at : (found : Option V) → is_some found ≡ false
          → option_map_or (λ old. Some (id, old)) found (slice_get es (n - 1))
          ≡ (if (length es == n) && not (is_some found) then slice_get es (length es - 1) else None)
      at None none =
          last_by es n (length es == n) within some refl ∙ gone_by es n (length es == n)
      at (Some v) none = absurd (true≢false none)

  -- what goes where it was
  pub nothing_goes : (es : List (CachedId × V)) (n : ℕ)
      → is_some (lookup (same_id id) es) ≡ true
      → None ≡ displaced_by (cache_data es n) id
  nothing_goes es n there =
      none_by es (length es == n)
      ∙ ap (λ b. if (length es == n) && not b then slice_get es (length es - 1) else None)
      (sym there)
