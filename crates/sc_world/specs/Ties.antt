-- What ties what the tracker knows to what lies in the stores.
use Rattle.std.specs.Prelude.{ℕ, ◌≤◌, ◌≢◌, List, Option, Some, None, IfSome, IsSomeAnd, slice_get}
use Rattle.sc_ids.specs.declared.blocks.BlockId.{BlockId}
use Rattle.sc_ids.specs.declared.blocks.Loc.{Loc}
use Rattle.sc_tracker.specs.TrackerData.{TrackerData, output_of, trust_of}
use Rattle.sc_store.specs.StoreData.{StoreData, output_in}

-- A block has been in a store since the generation of a location, as far as the store wasn't wiped
-- behind it: the store has reached that generation, and while it isn't past it the block is there.
pub record StandsIn (s : StoreData) (b : BlockId) (loc : Loc) : Type 0 where
  pub reached : loc.generation ≤ s.generation
  pub there : s.generation ≤ loc.generation → output_in s b ≢ None

-- the same of the store of the location's executor
abbrev pub StandsAt : List StoreData → BlockId → Loc → Type 0
StandsAt stores b loc = IsSomeAnd (slice_get stores loc.exec) (λ s. StandsIn s b loc)

-- the generation of a store that may be there
abbrev pub generation_in : Option StoreData → ℕ
generation_in None = 0
generation_in (Some s) = s.generation

abbrev pub generation_at : List StoreData → ℕ → ℕ
generation_at stores exec = generation_in (slice_get stores exec)

-- what the tracker knows is so in the stores, as far as they weren't wiped since
pub record AreTied (stores : List StoreData) (t : TrackerData) : Type 0 where
  -- where an output was registered last, it stands
  pub last : (b : BlockId) → IfSome (output_of t b).last (StandsAt stores b)
  -- no generation was seen that a store hasn't reached
  pub seen : (exec : ℕ) → (trust_of t exec).seen ≤ generation_at stores exec

-- stores later on: what stood stands, and no generation falls
pub record AreLater (before after : List StoreData) : Type 0 where
  pub stands : (b : BlockId) (loc : Loc) → StandsAt before b loc → StandsAt after b loc
  pub reached : (exec : ℕ) → generation_at before exec ≤ generation_at after exec
