-- What is cached stays right.
use Rattle.std.proofs.Common.{◌≡◌, ◌⊎◌, inl, inr, true, false, Some, None, IfSome, sym, subst}
use Rattle.std.proofs.lemmas.Bool.{cases_Bool}
use Rattle.sc_cache.specs.declared.names.CachedId.{CachedId}
use Rattle.sc_cache.specs.CacheLaws.{goes_as}
use Rattle.sc_cache.specs.Caches.{CacheData, IsSoundCache, block_of, displaced_by, last_used, same_id, with_kept, with_used, without_last}
use Rattle.sc_cache.proofs.CacheLemmas.{same_are_equal}
use Rattle.sc_cache.proofs.LawLemmas.{goes_law, kept_law, left_law, let_go_law, stays_law, used_law}

module _ {V : Type 0} (P : CachedId → V → Type 0) (c : CacheData V)
    (all : (q : CachedId) → IfSome (block_of c q) (P q)) where
  pub used_keeps : (id q : CachedId) → IfSome (block_of (with_used c id) q) (P q)
  used_keeps id q = subst (λ o. IfSome o (P q)) (sym (used_law c id q)) (all q)

  pub left_keeps : IsSoundCache c → (q : CachedId) → IfSome (block_of (without_last c) q) (P q)
  left_keeps sound q = at (cases_Bool (goes_as q (last_used c)))
    where
      at : (goes_as q (last_used c) ≡ true) ⊎ (goes_as q (last_used c) ≡ false)
          → IfSome (block_of (without_last c) q) (P q)
      at (inl goes) =
          subst (λ o. IfSome o (P q)) (sym {b = None} (let_go_law c q sound goes)) tt
      at (inr stays) =
          subst (λ o. IfSome o (P q)) (sym {b = block_of c q} (left_law c q stays)) (all q)

  kept_beside : IsSoundCache c → (id q : CachedId) (block : V) → same_id id q ≡ false
      → (goes_as q (displaced_by c id) ≡ true) ⊎ (goes_as q (displaced_by c id) ≡ false)
      → IfSome (block_of (with_kept c id block) q) (P q)
  kept_beside sound id q block differ (inl goes) =
      subst (λ o. IfSome o (P q)) (sym {b = None} (goes_law c id q differ block sound goes)) tt
  kept_beside sound id q block differ (inr stays) =
      subst (λ o. IfSome o (P q))
      (sym {b = block_of c q} (stays_law c id q differ block sound stays)) (all q)

  pub kept_keeps : IsSoundCache c → (id : CachedId) (block : V) → P id block → (q : CachedId)
      → IfSome (block_of (with_kept c id block) q) (P q)
  kept_keeps sound id block own q = at (cases_Bool (same_id id q))
    where
      at : (same_id id q ≡ true) ⊎ (same_id id q ≡ false)
          → IfSome (block_of (with_kept c id block) q) (P q)
      at (inl same) =
          subst (λ i. IfSome (block_of (with_kept c id block) i) (P i))
          (same_are_equal id q same)
          (subst (λ o. IfSome o (P id)) (sym {b = Some block} (kept_law c id block)) own)
      at (inr differ) =
          kept_beside sound id q block differ (cases_Bool (goes_as q (displaced_by c id)))
