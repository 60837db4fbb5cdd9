-- The outputs that are registered on each executor, in a list of their places.
use Rattle.std.specs.Prelude.{ℕ, ◌≡◌, ◌<◌, ◌==◌, ◌&&◌, Bool, false, List, [], ◌∷◌, Option, Some, None, if◌then◌else◌, is_none, length, map, nat_lt}
use Rattle.std.specs.List.{list_any}
use Rattle.sc_base.specs.Lists.{at_or}
use Rattle.sc_ids.specs.Changes.{change_at}
use Rattle.sc_ids.specs.declared.blocks.BlockId.{BlockId}
use Rattle.sc_tracker.specs.Outputs.{forgotten, is_on, never}
use Rattle.sc_tracker.specs.TrackerData.{ShuffleData, place_of, shuffle_data}
use Rattle.sc_tracker.specs.declared.links.Link.{Link}
use Rattle.sc_tracker.specs.declared.links.Place.{Place}
use Rattle.sc_tracker.specs.declared.outputs.Output.{Output}

-- nothing stands before or behind an output
abbrev pub unlinked : Link
unlinked = record { back = None; next = None }

-- the lists of executors: the place where each begins, and the link of each output by its place
pub record ListsData : Type 0 where
  pub firsts : List (Option Place)
  pub rows : List (List Link)

abbrev pub lists_data : List (Option Place) → List (List Link) → ListsData
lists_data firsts rows = record { firsts = firsts; rows = rows }

-- ---- places

-- an item of several lists by its place, or another one where there is none
abbrev pub item_at : {A : Type 0} → List (List A) → Place → A → A
item_at rows p other = at_or (at_or rows p.at []) p.map other

-- the items of several lists with one of them changed
abbrev pub with_item : {A : Type 0} → List (List A) → Place → (A → A) → List (List A)
with_item rows p change = change_at rows p.at (λ row. change_at row p.map change)

abbrev pub link_at : List (List Link) → Place → Link
link_at rows p = item_at rows p unlinked

-- what is known of the output at a place
abbrev pub output_at : List ShuffleData → Place → Output
output_at shuffles p = item_at (map (λ s. s.outputs) shuffles) p never

-- where a block's output stands, behind all others where there is no room for it
abbrev pub place_for : List ShuffleData → BlockId → Place
place_for shuffles block = record { at = place_of shuffles block.shuffle; map = block.map }

-- there is room for an output at a place
abbrev pub has_room_at : List ShuffleData → Place → Bool
has_room_at shuffles p = nat_lt p.map (length (at_or (map (λ s. s.outputs) shuffles) p.at []))

-- the output at a place changed
abbrev pub with_output : List ShuffleData → Place → (Output → Output) → List ShuffleData
with_output shuffles p change =
    change_at shuffles p.at
    (λ s. shuffle_data s.shuffle (change_at s.outputs p.map change))

-- a place is another one
abbrev pub is_same : Place → Place → Bool
is_same p q = (p.at == q.at) && (p.map == q.map)

-- a place is among some
abbrev pub has_place : List Place → Place → Bool
has_place places p = list_any (λ q. is_same q p) places

-- no place comes twice
abbrev pub AreOnce : List Place → Type 0
AreOnce [] = Unit {0}
AreOnce (p ∷ places) = (has_place places p ≡ false) × AreOnce places

-- ---- lists

-- Places one behind another, from a first one on. Each knows the one behind it and the one before.
abbrev pub AreLinked :
    (Place → Option Place) → (Place → Option Place) → Option Place → Option Place → List Place
    → Type 0
AreLinked next back before first [] = first ≡ None
AreLinked next back before first (p ∷ places) =
    (first ≡ Some p) × (back p ≡ before) × AreLinked next back (Some p) (next p) places

abbrev pub next_at : List (List Link) → Place → Option Place
next_at rows p = (link_at rows p).next

abbrev pub back_at : List (List Link) → Place → Option Place
back_at rows p = (link_at rows p).back

-- the list of an executor: of the outputs that are registered there each is in it once
pub record IsList (shuffles : List ShuffleData) (rows : List (List Link)) (exec : ℕ)
    (first : Option Place) : Type 0 where
  pub places : List Place
  pub linked : AreLinked (next_at rows) (back_at rows) None first places
  pub once : AreOnce places
  pub exactly : (p : Place) → has_place places p ≡ is_on exec (output_at shuffles p).here

-- each executor has its list, and each output a link
pub record AreListed (shuffles : List ShuffleData) (lists : ListsData) : Type 0 where
  pub each : (exec : ℕ) → exec < length lists.firsts
      → IsList shuffles lists.rows exec (at_or lists.firsts exec None)
  pub linked : map (λ row. length row) lists.rows ≡ map (λ s. length s.outputs) shuffles

-- ---- changes

-- an output, or none, as the first one of an executor
abbrev pub with_first : ℕ → Option Place → ListsData → ListsData
with_first exec first l = lists_data (change_at l.firsts exec (λ _. first)) l.rows

-- an output, or none, behind another that may be there
abbrev pub with_next : Option Place → Option Place → ListsData → ListsData
with_next None next l = l
with_next (Some p) next l =
    lists_data l.firsts
    (with_item l.rows p (λ _. record { back = back_at l.rows p; next = next }))

-- an output, or none, before another that may be there
abbrev pub with_back : Option Place → Option Place → ListsData → ListsData
with_back None back l = l
with_back (Some p) back l =
    lists_data l.firsts
    (with_item l.rows p (λ _. record { back = back; next = next_at l.rows p }))

-- an output in front of the list of an executor
abbrev pub pushed : ℕ → Place → ListsData → ListsData
pushed exec p l =
    with_first exec (Some p)
    (with_back (at_or l.firsts exec None) (Some p)
    (lists_data l.firsts
    (with_item l.rows p (λ _. record { back = None; next = at_or l.firsts exec None }))))

-- what is before an output linked with what is behind it
abbrev pub unchained : Place → ListsData → ListsData
unchained p l =
    with_back (next_at l.rows p) (back_at l.rows p)
    (with_next (back_at l.rows p) (next_at l.rows p) l)

-- an output taken out of the list of an executor, if that is there
abbrev pub removed : ℕ → Place → ListsData → ListsData
removed exec p l =
    if nat_lt exec (length l.firsts)
    then (if is_none (back_at l.rows p) then with_first exec (next_at l.rows p) (unchained p l)
    else unchained p l)
    else l

-- a shuffle with one output forgotten
abbrev pub with_one_forgotten : ℕ → ShuffleData → ShuffleData
with_one_forgotten place s = shuffle_data s.shuffle (change_at s.outputs place forgotten)
