-- What was heard of an executor, and which outputs that rules out.
use Rattle.std.specs.Prelude.{ℕ, List, Bool, Option, Some, None, true, false, not, nat_le, nat_lt, ◌||◌}
use Rattle.std.specs.List.{list_all}
use Rattle.sc_base.specs.Lists.{at_or}
use Rattle.sc_ids.specs.declared.blocks.Loc.{Loc}
use Rattle.sc_tracker.specs.declared.trust.Trust.{Trust}

-- nothing was heard
abbrev pub untold : Trust
untold = record { seen = 0; mark = None; lost = false }

-- what was heard of an executor: nothing of one that isn't there
abbrev pub trust_at : List Trust → ℕ → Trust
trust_at trust exec = at_or trust exec untold

-- an epoch is at or below a mark
abbrev pub is_marked : Option ℕ → ℕ → Bool
is_marked None epoch = false
is_marked (Some mark) epoch = nat_le epoch mark

-- an output at this location, by a task of this epoch, may be lost already: the epoch is at or
-- below the executor's mark, or the generation below the one that was seen
abbrev pub is_bogus_for : Trust → Loc → ℕ → Bool
is_bogus_for trust loc epoch = is_marked trust.mark epoch || nat_lt loc.generation trust.seen

-- the executor is there, and a generation is above the one that was seen
abbrev pub is_newer : Option Trust → ℕ → Bool
is_newer None found = false
is_newer (Some trust) found = nat_lt trust.seen found

-- the executor is there, and wasn't told lost
abbrev pub is_live : Option Trust → Bool
is_live None = false
is_live (Some trust) = not trust.lost

-- every executor was told lost
abbrev pub are_lost : List Trust → Bool
are_lost trust = list_all (λ heard. heard.lost) trust

-- a newer generation was found, in an epoch
abbrev pub seen_at : ℕ → ℕ → Trust → Trust
seen_at found epoch trust = record { seen = found; mark = Some epoch; lost = trust.lost }

-- it was told lost, in an epoch
abbrev pub lost_at : ℕ → Trust → Trust
lost_at epoch trust = record { seen = trust.seen; mark = Some epoch; lost = true }
