-- What an attempt keeps in the cache of a store.
use Rattle.std.proofs.Common.{◌≡◌, ◌∙◌, ℕ, ◌+◌, ◌<◌, List, [], ◌∷◌, ◌++◌, length, get_or, take, refl, ap, sym}
use Rattle.std.proofs.lemmas.List.{take_more}
use Rattle.sc_value.specs.Datum.{Datum}
use Rattle.sc_lineage.specs.Views.{place_data_of}
use Rattle.sc_cache.specs.Caches.{CacheData, with_kept, with_used}
use Rattle.sc_cache.specs.declared.names.CachedId.{CachedId}
use Rattle.sc_compute.specs.declared.caching.CachedPart.{CachedPart}
use Rattle.sc_store.specs.StoreData.{StoreData, with_cache}
use Rattle.sc_task.specs.Caches.{IsSameButCache, KeepsEach, KeepsSome, cached_id, with_each_kept, with_each_used}

-- the name and the rows of a partition that is kept
abbrev kept_one : CacheData (List Datum) → CachedPart → CacheData (List Datum)
kept_one c part = with_kept c (cached_id (place_data_of part.at)) part.rows

abbrev used_one : CacheData (List Datum) → CachedPart → CacheData (List Datum)
used_one c part = with_used c (cached_id (place_data_of part.at))

kept_push : (c : CacheData (List Datum)) (parts : List CachedPart) (part : CachedPart)
    → with_each_kept c (parts ++ part ∷ []) ≡ kept_one (with_each_kept c parts) part
kept_push c [] part = refl
kept_push c (x ∷ parts) part = kept_push (kept_one c x) parts part

used_push : (c : CacheData (List Datum)) (parts : List CachedPart) (part : CachedPart)
    → with_each_used c (parts ++ part ∷ []) ≡ used_one (with_each_used c parts) part
used_push c [] part = refl
used_push c (x ∷ parts) part = used_push (used_one c x) parts part

-- one more, as at a step of a loop
pub kept_more : (c : CacheData (List Datum)) (parts : List CachedPart) (i : ℕ) (d : CachedPart)
    → i < length parts → kept_one (with_each_kept c (take i parts)) (get_or parts i d)
    ≡ with_each_kept c (take (i + 1) parts)
kept_more c parts i d within =
    sym (kept_push c (take i parts) (get_or parts i d))
    ∙ ap (with_each_kept c) (sym (take_more parts i d within))

pub used_more : (c : CacheData (List Datum)) (parts : List CachedPart) (i : ℕ) (d : CachedPart)
    → i < length parts → used_one (with_each_used c (take i parts)) (get_or parts i d)
    ≡ with_each_used c (take (i + 1) parts)
used_more c parts i d within =
    sym (used_push c (take i parts) (get_or parts i d))
    ∙ ap (with_each_used c) (sym (take_more parts i d within))

-- The same of a store.
module _ (first before after : StoreData) (parts : List CachedPart) (i : ℕ) (part d : CachedPart)
    (within : i < length parts) (is : part ≡ get_or parts i d) where
  pub keep_step : before ≡ with_cache first (with_each_kept first.cache (take i parts))
      → after ≡ with_cache before (kept_one before.cache part)
      → after ≡ with_cache first (with_each_kept first.cache (take (i + 1) parts))
  keep_step far keeps =
      let c = with_each_kept first.cache (take i parts) in
      keeps ∙ ap (λ (s : StoreData). with_cache s (kept_one s.cache part)) far
      ∙ ap (λ p. with_cache first (kept_one c p)) is
      ∙ ap (with_cache first) (kept_more first.cache parts i d within)

  pub use_step : (id : CachedId) → id ≡ cached_id (place_data_of part.at)
      → before ≡ with_cache first (with_each_used first.cache (take i parts))
      → after ≡ with_cache before (with_used before.cache id)
      → after ≡ with_cache first (with_each_used first.cache (take (i + 1) parts))
  use_step id name far uses =
      let c = with_each_used first.cache (take i parts) in
      uses ∙ ap (λ n. with_cache before (with_used before.cache n)) name
      ∙ ap (λ (s : StoreData). with_cache s (used_one s.cache part)) far
      ∙ ap (λ p. with_cache first (used_one c p)) is
      ∙ ap (with_cache first) (used_more first.cache parts i d within)

-- a cache takes as many blocks as before
kept_limit : (c : CacheData (List Datum)) (parts : List CachedPart)
    → (with_each_kept c parts).limit ≡ c.limit
kept_limit c [] = refl
kept_limit c (part ∷ parts) = kept_limit (kept_one c part) parts

used_limit : (c : CacheData (List Datum)) (parts : List CachedPart)
    → (with_each_used c parts).limit ≡ c.limit
used_limit c [] = refl
used_limit c (part ∷ parts) = used_limit (used_one c part) parts

-- so all of a store stays but its cache
pub keeps_rest : (used fresh : List CachedPart) (before after : StoreData)
    → KeepsEach used fresh before after → IsSameButCache before after
keeps_rest used fresh before after keeps =
    let c = with_each_kept (with_each_used before.cache used) fresh in
    record {
      rest = keeps ∙ ap (with_cache before) (sym (ap (λ (s : StoreData). s.cache) keeps));
      limit = ap (λ (s : StoreData). s.cache.limit) keeps
          ∙ kept_limit (with_each_used before.cache used) fresh
          ∙ used_limit before.cache used;
    }

pub some_rest : (used fresh : List CachedPart) (before after : StoreData)
    → KeepsSome used fresh before after → IsSameButCache before after
some_rest used fresh before after keeps =
    keeps_rest used (take keeps.0 fresh) before after keeps.2
