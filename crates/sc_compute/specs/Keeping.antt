-- Streams that are kept for those that read them later.
use Rattle.std.specs.Prelude.{ℕ, ◌≡◌, ◌⊎◌, ◌&&◌, Bool, true, List, Option, IfSome, is_some, nat_eq}
use Rattle.std.specs.HashMap.{get}
use Rattle.sc_value.specs.Datum.{Datum}
use Rattle.sc_lineage.specs.Dependencies.{PlaceData}
use Rattle.sc_lineage.specs.Meaning.{local_stream}
use Rattle.sc_lineage.specs.ScriptData.{WorkData}
use Rattle.sc_lineage.specs.Streams.{whole_stream}
use Rattle.sc_compute.specs.declared.kept.KeptStreams.{KeptStreams}

-- two partitions are one: they are of one node, and of one number
abbrev pub same_place : ℕ × ℕ → ℕ × ℕ → Bool
same_place a b = nat_eq a.0 b.0 && nat_eq a.1 b.1

-- rows by partition are those of their partitions, which don't raise
abbrev pub AreOwnRows : WorkData → (ℕ × ℕ → Option (List Datum)) → Type 0
AreOwnRows work rows = (node p : ℕ)
    → IfSome (rows (node, p)) (λ own. whole_stream own ≡ local_stream work node p)

-- all that is kept are the streams of their partitions, and so is all that is known
pub record KeepsRight (work : WorkData) (kept : KeptStreams) : Type 0 where
  pub streams : (node p : ℕ) → IfSome (get same_place kept.streams (node, p))
      (λ k. k.stream ≡ local_stream work node p)
  pub known : AreOwnRows work (get same_place kept.known)

-- the stream of a partition is kept until it was read for the last time
abbrev pub is_kept : KeptStreams → PlaceData → Bool
is_kept kept at = is_some (get same_place kept.streams (at.node, at.partition))

-- the rows of a partition are known, for good
abbrev pub is_known : KeptStreams → PlaceData → Bool
is_known kept at = is_some (get same_place kept.known (at.node, at.partition))

-- what is known stays so, and of what is kept nothing is added
pub record Lessens (before after : KeptStreams) : Type 0 where
  pub known : after.known ≡ before.known
  pub fewer : (at : PlaceData) → is_kept after at ≡ true → is_kept before at ≡ true

-- what is known stays so, and one stream may be kept beside the others
pub record Keeps (one : PlaceData) (before after : KeptStreams) : Type 0 where
  pub known : after.known ≡ before.known
  pub one_more : (at : PlaceData) → is_kept after at ≡ true
      → (is_kept before at ≡ true) ⊎ (at ≡ one)
