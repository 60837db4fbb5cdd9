-- How a tracker changes.
use Rattle.std.specs.Prelude.{ℕ, [], ◌∷◌, ◌++◌, ◌+◌, Bool, if◌then◌else◌, map, replicate, slice_get}
use Rattle.std.specs.List.{list_any}
use Rattle.sc_ids.specs.declared.blocks.BlockId.{BlockId}
use Rattle.sc_ids.specs.declared.blocks.Loc.{Loc}
use Rattle.sc_ids.specs.declared.blocks.ShuffleId.{ShuffleId}
use Rattle.sc_ids.specs.Changes.{change_at}
use Rattle.sc_tracker.specs.Outputs.{forgotten_on, never, placed}
use Rattle.sc_tracker.specs.TrackerData.{ShuffleData, TrackerData, is_of, place_of, shuffle_data, tracker_data, trust_of}
use Rattle.sc_tracker.specs.Trust.{is_bogus_for, is_live, is_newer, lost_at, seen_at}

-- there is room for a shuffle
abbrev pub has_room : TrackerData → ShuffleId → Bool
has_room t shuffle = list_any (is_of shuffle) t.shuffles

-- room for one more shuffle, with no output registered
abbrev pub sized : TrackerData → ShuffleId → ℕ → TrackerData
sized t shuffle maps =
    if has_room t shuffle then t
    else tracker_data (t.shuffles ++ shuffle_data shuffle (replicate maps never) ∷ [])
    t.trust t.epoch

-- an output at this location, by a task of this epoch, may be lost already
abbrev pub is_bogus : TrackerData → Loc → ℕ → Bool
is_bogus t loc epoch = is_bogus_for (trust_of t loc.exec) loc epoch

-- a shuffle with an output registered
abbrev pub with_placed : ℕ → Loc → ℕ → ShuffleData → ShuffleData
with_placed place loc epoch s =
    shuffle_data s.shuffle (change_at s.outputs place (placed loc epoch))

-- an output registered at a location, and nothing else changed
abbrev pub registered : TrackerData → BlockId → Loc → TrackerData
registered t block loc =
    tracker_data
    (change_at t.shuffles (place_of t.shuffles block.shuffle)
    (with_placed block.map loc t.epoch))
    t.trust t.epoch

-- a shuffle whose outputs on an executor are forgotten
abbrev pub with_forgotten_on : ℕ → ShuffleData → ShuffleData
with_forgotten_on exec s = shuffle_data s.shuffle (map (forgotten_on exec) s.outputs)

-- a fetch has shown a generation: where it is a newer one, it is what was seen, the mark is the
-- epoch before, and the outputs there are forgotten, which is one more event
abbrev pub after_gone : TrackerData → ℕ → ℕ → TrackerData
after_gone t exec found =
    if is_newer (slice_get t.trust exec) found
    then tracker_data (map (with_forgotten_on exec) t.shuffles)
    (change_at t.trust exec (seen_at found t.epoch)) (t.epoch + 1)
    else t

-- an executor was told lost, for the first time: likewise
abbrev pub after_executor_lost : TrackerData → ℕ → TrackerData
after_executor_lost t exec =
    if is_live (slice_get t.trust exec)
    then tracker_data (map (with_forgotten_on exec) t.shuffles)
    (change_at t.trust exec (lost_at t.epoch)) (t.epoch + 1)
    else t

-- A tracker with nothing registered and room for no shuffle, as where all stores are new: it knows
-- no output, nor where one was last. What was heard of the executors is kept, and so is the epoch.
abbrev pub unregistered : TrackerData → TrackerData
unregistered t = tracker_data [] t.trust t.epoch
