-- Which partitions are computed for another, and which are only taken, where some are had already.
use Rattle.std.specs.Prelude.{ℕ, ◌≡◌, ◌⊎◌, ◌↔◌, Bool, true, false, List, [], ◌∷◌, Contains, Option, None, is_some, map}
use Rattle.std.specs.HashMap.{get}
use Rattle.std.specs.List.{All, list_any}
use Rattle.sc_value.specs.Datum.{Datum}
use Rattle.sc_lineage.specs.Dependencies.{PlaceData}
use Rattle.sc_lineage.specs.Meaning.{local_stream}
use Rattle.sc_lineage.specs.ScriptData.{WorkData}
use Rattle.sc_lineage.specs.Views.{place_data_of}
use Rattle.sc_compute.specs.Caching.{is_cache}
use Rattle.sc_compute.specs.Keeping.{is_kept, same_place}
use Rattle.sc_compute.specs.Reading.{direct_reads}
use Rattle.sc_compute.specs.Stages.{node_at}
use Rattle.sc_compute.specs.declared.caching.CachedPart.{CachedPart}
use Rattle.sc_compute.specs.declared.caching.Caching.{Caching}
use Rattle.sc_compute.specs.declared.kept.KeptStreams.{KeptStreams}

-- two partitions are one
abbrev pub is_place : PlaceData → PlaceData → Bool
is_place a b = same_place (a.node, a.partition) (b.node, b.partition)

-- a partition is among some
abbrev pub is_among : List PlaceData → PlaceData → Bool
is_among places at = list_any (λ q. is_place q at) places

-- the partitions that rows are of
abbrev pub places_in : List CachedPart → List PlaceData
places_in parts = map (λ part. place_data_of part.at) parts

-- A path of partitions leads from one to another: each reads the next as it is, and none of them
-- but the last is had.
abbrev pub LeadsPast : WorkData → (PlaceData → Bool) → PlaceData → List PlaceData → PlaceData
    → Type 0
LeadsPast work had from [] to = from ≡ to
LeadsPast work had from (via ∷ path) to =
    (had from ≡ false) × Contains (direct_reads work from.node from.partition) via
    × LeadsPast work had via path to

-- a partition needs another, where some are had: it is that one, or is computed from it
abbrev pub Needs : WorkData → (PlaceData → Bool) → PlaceData → PlaceData → Type 0
Needs work had from to = (path : List PlaceData) × LeadsPast work had from path to

-- a partition is computed for another, where some are had: it is needed, and isn't had itself
pub record ComputedFor (work : WorkData) (had : PlaceData → Bool) (from to : PlaceData) : Type 0
  where
    pub needed : Needs work had from to
    pub lacked : had to ≡ false

-- a partition of a cache node is computed for another, and doesn't raise
pub record IsFresh (work : WorkData) (had : PlaceData → Bool) (from at : PlaceData) : Type 0 where
  pub cache : is_cache (node_at work at.node) ≡ true
  pub computed : ComputedFor work had from at
  pub whole : (local_stream work at.node at.partition).raise ≡ None

-- these are exactly the partitions of cache nodes that are computed for another and don't raise,
-- where some are known
abbrev pub AreFresh : WorkData → List PlaceData → PlaceData → List PlaceData → Type 0
AreFresh work known from fresh =
    (at : PlaceData) → (is_among fresh at ≡ true) ↔ IsFresh work (is_among known) from at

-- the partitions that are known while a target is computed, and those that were noted so far
abbrev pub places_known : Caching → List PlaceData
places_known caching = places_in caching.known.now

abbrev pub places_noted : Caching → List PlaceData
places_noted caching = places_in caching.fresh.items

-- all fresh partitions for one are among some
abbrev pub HasFresh : WorkData → List PlaceData → List PlaceData → PlaceData → Type 0
HasFresh work known noted from =
    (at : PlaceData) → IsFresh work (is_among known) from at → is_among noted at ≡ true

-- what is noted while a partition is computed: all that is fresh for it, and nothing else
pub record Notes (work : WorkData) (from : PlaceData) (before after : Caching) : Type 0 where
  pub known : after.known.now ≡ before.known.now
  pub kept : (at : PlaceData) → is_among (places_noted before) at ≡ true
      → is_among (places_noted after) at ≡ true
  pub all : HasFresh work (places_known before) (places_noted after) from
  pub only : (at : PlaceData) → is_among (places_noted after) at ≡ true
      → (is_among (places_noted before) at ≡ true)
      ⊎ IsFresh work (is_among (places_known before)) from at

-- what is noted while a partition is computed, of which some reads were computed: all that is fresh
-- for these, and nothing but what is fresh for the partition
pub record NotesReads (work : WorkData) (from : PlaceData) (before after : Caching)
    (reads : List PlaceData) : Type 0 where
  pub known : after.known.now ≡ before.known.now
  pub kept : (at : PlaceData) → is_among (places_noted before) at ≡ true
      → is_among (places_noted after) at ≡ true
  pub all : All (HasFresh work (places_known before) (places_noted after)) reads
  pub only : (at : PlaceData) → is_among (places_noted after) at ≡ true
      → (is_among (places_noted before) at ≡ true)
      ⊎ IsFresh work (is_among (places_known before)) from at

-- a partition may be noted by itself: it is of a cache node, and doesn't raise
pub record MayBeNoted (work : WorkData) (at : PlaceData) : Type 0 where
  pub cache : is_cache (node_at work at.node) ≡ true
  pub whole : (local_stream work at.node at.partition).raise ≡ None

-- one partition is noted, exactly where it may be
pub record NotesOne (work : WorkData) (one : PlaceData) (before after : Caching) : Type 0 where
  pub known : after.known.now ≡ before.known.now
  pub kept : (at : PlaceData) → is_among (places_noted before) at ≡ true
      → is_among (places_noted after) at ≡ true
  pub here : MayBeNoted work one → is_among (places_noted after) one ≡ true
  pub only : (at : PlaceData) → is_among (places_noted after) at ≡ true
      → (is_among (places_noted before) at ≡ true) ⊎ ((at ≡ one) × MayBeNoted work one)

-- for what is kept all that is fresh was noted
abbrev pub AreNoted : WorkData → KeptStreams → Caching → Type 0
AreNoted work kept caching = (from : PlaceData) → is_kept kept from ≡ true
    → HasFresh work (places_known caching) (places_noted caching) from

-- there are rows of these partitions, and of no others
abbrev pub HasJust : (ℕ × ℕ → Option (List Datum)) → List CachedPart → Type 0
HasJust rows parts = (at : PlaceData)
    → is_some (rows (at.node, at.partition)) ≡ is_among (places_in parts) at

-- the partitions that are known are these
abbrev pub KnowsJust : KeptStreams → List CachedPart → Type 0
KnowsJust kept parts = HasJust (get same_place kept.known) parts

-- no stream is kept yet
abbrev pub KeepsNone : KeptStreams → Type 0
KeepsNone kept = (at : PlaceData) → is_kept kept at ≡ false
