-- In which order partitions are taken from the cache of a store.
use Rattle.std.proofs.Common.{◌≡◌, ◌<◌, ◌≤◌, List, [], ◌∷◌, ◌++◌, All, arith}
use Rattle.std.proofs.lemmas.List.Elements.{All-head, All-nil, All-push, All-tail, All-weaker}
use Rattle.sc_compute.specs.Asking.{place_number}
use Rattle.sc_compute.specs.declared.asking.Asking.{Asking}
use Rattle.sc_compute.specs.declared.caching.CachedPart.{CachedPart}
use Rattle.sc_task.specs.Caches.{AreNearestFirst}

-- a partition was asked for before all that is still to be looked at
abbrev pub IsBefore : Asking → CachedPart → Type 0
IsBefore asking part = asking.below ≤ place_number part.at

-- one that is asked for behind all others is the last in order
last_of : (parts : List CachedPart) (part : CachedPart) → AreNearestFirst parts
    → All (λ p. place_number part.at < place_number p.at) parts
    → AreNearestFirst (parts ++ part ∷ [])
last_of [] part order behind =
    (All-nil (λ (p : CachedPart). place_number p.at < place_number part.at), tt)
last_of (one ∷ parts) part order behind = (
  All-push (λ (p : CachedPart). place_number p.at < place_number one.at) parts part order.0
      (All-head (λ (p : CachedPart). place_number part.at < place_number p.at) one parts behind),
  last_of parts part order.1
      (All-tail (λ (p : CachedPart). place_number part.at < place_number p.at) one parts behind),
)

-- those that were asked for before are still so, once less is left to be looked at
pub still_before : (parts : List CachedPart) (before after : Asking) → after.below < before.below
    → All (IsBefore before) parts → All (IsBefore after) parts
still_before parts before after fewer all =
    All-weaker (IsBefore before) (IsBefore after)
    (λ part past. let far : before.below ≤ place_number part.at = past in omega (arith, fewer, far))
    parts all

module _ (parts : List CachedPart) (part : CachedPart) (before after : Asking)
    (last : place_number part.at ≡ after.below) (fewer : after.below < before.below) where
  pub all_before : All (IsBefore before) parts → All (IsBefore after) (parts ++ part ∷ [])
  all_before all =
      All-push (IsBefore after) parts part (still_before parts before after fewer all)
      (omega (arith, last))

  pub last_in_order : AreNearestFirst parts → All (IsBefore before) parts
      → AreNearestFirst (parts ++ part ∷ [])
  last_in_order order all =
      last_of parts part order
      (All-weaker (IsBefore before) (λ p. place_number part.at < place_number p.at)
      (λ p past. let far : before.below ≤ place_number p.at = past in
      omega (arith, last, fewer, far))
      parts all)
