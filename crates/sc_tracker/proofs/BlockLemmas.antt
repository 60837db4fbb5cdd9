-- Lemmas on what is known of each block.
use Rattle.std.proofs.Common.{◌≡◌, ◌≢◌, ℕ, ◌<◌, zero, suc, Bool, true, false, List, [], ◌∷◌, ◌++◌, length, map, replicate, slice_get, Option, Some, None, refl, ap, sym, subst, ◌∙◌, arith, rules, if◌then◌else◌}
use Rattle.std.proofs.lemmas.Bool.Decides.{nat_tests}
use Rattle.std.proofs.lemmas.List.Elements.{All-nil}
use Rattle.std.proofs.lemmas.Option.{get_or_from_slice_get, slice_get_within}
use Rattle.std.specs.List.{All, list_any}
use Rattle.sc_base.specs.Lists.{at_or}
use Rattle.sc_ids.specs.declared.blocks.BlockId.{BlockId}
use Rattle.sc_ids.specs.declared.blocks.ShuffleId.{ShuffleId}
use Rattle.sc_ids.specs.Changes.{change_at}
use Rattle.sc_ids.proofs.ChangeLemmas.{All_at_or, at_or_change_other, at_or_change_same}
use Rattle.sc_tracker.specs.declared.outputs.Output.{Output}
use Rattle.sc_tracker.specs.Outputs.{forgotten_on, never, output_in, placed}
use Rattle.sc_tracker.specs.TrackerData.{ShuffleData, is_of, output_of, output_under, outputs_among, outputs_under, place_of, shuffle_data, tracker_data}
use Rattle.sc_tracker.specs.TrackerFacts.{HasMarkBelow, IsSoundOutput}
use Rattle.sc_tracker.specs.TrackerLaws.{ForgetsOnOne, HasRoomFor, LookupsAreSound, RegistersOne, SizesForAll, UnregistersAll}
use Rattle.sc_tracker.specs.Tracking.{after_executor_lost, after_gone, has_room, registered, sized, with_forgotten_on}
use Rattle.sc_tracker.specs.Trust.{is_live, is_newer, trust_at, untold}

-- what holds of each item holds of one that is read
All_slice_get : {A : Type 0} (P : A → Type 0) (xs : List A) (i : ℕ) (x : A)
    → All P xs → slice_get xs i ≡ Some x → P x
All_slice_get P xs i x a e =
    subst P (get_or_from_slice_get xs i x x e) (a i x (slice_get_within xs i x e))

-- the facts of every tracker hold of what is looked up
pub lookups_sound : LookupsAreSound
lookups_sound t s = (blocks, executors)
  where
    unknown : IsSoundOutput t.trust t.epoch never
    unknown = record { fresh = tt; is_last = tt; before = omega arith }

    among : (o : Option ShuffleData) (shuffle : ShuffleId)
        → slice_get t.shuffles (place_of t.shuffles shuffle) ≡ o
        → All (IsSoundOutput t.trust t.epoch) (outputs_among o)
    among None shuffle e = All-nil (IsSoundOutput t.trust t.epoch)
    among (Some x) shuffle e =
        All_slice_get (λ y. All (IsSoundOutput t.trust t.epoch) y.outputs) t.shuffles
        (place_of t.shuffles shuffle) x s.outputs e

    blocks : (block : BlockId) → IsSoundOutput t.trust t.epoch (output_of t block)
    blocks block =
        All_at_or (IsSoundOutput t.trust t.epoch) (outputs_under t.shuffles block.shuffle)
        block.map never unknown
        (among (slice_get t.shuffles (place_of t.shuffles block.shuffle)) block.shuffle refl)

    executors : (exec : ℕ) → HasMarkBelow t.epoch (trust_at t.trust exec)
    executors exec = All_at_or (HasMarkBelow t.epoch) t.trust exec untold tt s.marks

-- of outputs that were never registered nothing is known
at_or-nothing : (n i : ℕ) → at_or (replicate n never) i never ≡ never
at_or-nothing zero i = refl
at_or-nothing (suc n) zero = refl
at_or-nothing (suc n) (suc i) = at_or-nothing n i

length-nothing : (n : ℕ) → length (replicate n never) ≡ n
length-nothing zero = refl
length-nothing (suc n) = ap suc (length-nothing n)

-- a shuffle is of itself
pub is_of_itself : (shuffle : ShuffleId) (outputs : List Output)
    → is_of shuffle (shuffle_data shuffle outputs) ≡ true
is_of_itself shuffle outputs = grind (arith, nat_tests)

-- the first entry is of the shuffle
place_here : (x : ShuffleData) (xs : List ShuffleData) (shuffle : ShuffleId)
    → is_of shuffle x ≡ true → place_of (x ∷ xs) shuffle ≡ 0
place_here x xs shuffle e = rw e refl

pub under_here : (x : ShuffleData) (xs : List ShuffleData) (shuffle : ShuffleId)
    → is_of shuffle x ≡ true → outputs_under (x ∷ xs) shuffle ≡ x.outputs
under_here x xs shuffle e =
    ap (λ i. outputs_among (slice_get (x ∷ xs) i)) (place_here x xs shuffle e)

-- it isn't
place_behind : (x : ShuffleData) (xs : List ShuffleData) (shuffle : ShuffleId)
    → is_of shuffle x ≡ false → place_of (x ∷ xs) shuffle ≡ suc (place_of xs shuffle)
place_behind x xs shuffle e = rw e (omega arith)

pub under_behind : (x : ShuffleData) (xs : List ShuffleData) (shuffle : ShuffleId)
    → is_of shuffle x ≡ false → outputs_under (x ∷ xs) shuffle ≡ outputs_under xs shuffle
under_behind x xs shuffle e =
    ap (λ i. outputs_among (slice_get (x ∷ xs) i)) (place_behind x xs shuffle e)

-- room for a shuffle that there was none for
pub room_made : (xs : List ShuffleData) (shuffle : ShuffleId) (outputs : List Output)
    → list_any (is_of shuffle) xs ≡ false
    → outputs_under (xs ++ shuffle_data shuffle outputs ∷ []) shuffle ≡ outputs
room_made [] shuffle outputs none =
    under_here (shuffle_data shuffle outputs) [] shuffle (is_of_itself shuffle outputs)
room_made (x ∷ xs) shuffle outputs none =
    by (is_of shuffle x) refl (λ rest. room_made xs shuffle outputs rest)
  where
    by : (b : Bool) → is_of shuffle x ≡ b
        → (list_any (is_of shuffle) xs ≡ false
        → outputs_under (xs ++ shuffle_data shuffle outputs ∷ []) shuffle ≡ outputs)
        → outputs_under (x ∷ (xs ++ shuffle_data shuffle outputs ∷ [])) shuffle ≡ outputs
    by true e more = absurd (search rules)
    by false e more = under_behind x _ shuffle e ∙ more (search rules)

-- of a shuffle with room nothing is known yet, and of others what was
pub room_same : (xs : List ShuffleData) (y : ShuffleData) (shuffle : ShuffleId) (i : ℕ)
    → ((j : ℕ) → output_in y.outputs j ≡ never)
    → output_in (outputs_under (xs ++ y ∷ []) shuffle) i
    ≡ output_in (outputs_under xs shuffle) i
room_same [] y shuffle i h = by (is_of shuffle y) refl
  where
    by : (b : Bool) → is_of shuffle y ≡ b
        → output_in (outputs_under (y ∷ []) shuffle) i ≡ never
    by true e = ap (λ o. output_in o i) (under_here y [] shuffle e) ∙ h i
    by false e = ap (λ o. output_in o i) (under_behind y [] shuffle e)
room_same (x ∷ xs) y shuffle i h = by (is_of shuffle x) refl (room_same xs y shuffle i h)
  where
    by : (b : Bool) → is_of shuffle x ≡ b
        → output_in (outputs_under (xs ++ y ∷ []) shuffle) i
        ≡ output_in (outputs_under xs shuffle) i
        → output_in (outputs_under (x ∷ (xs ++ y ∷ [])) shuffle) i
        ≡ output_in (outputs_under (x ∷ xs) shuffle) i
    by true e more =
        ap (λ o. output_in o i) (under_here x (xs ++ y ∷ []) shuffle e
        ∙ sym (under_here x xs shuffle e))
    by false e more =
        ap (λ o. output_in o i) (under_behind x (xs ++ y ∷ []) shuffle e)
        ∙ more ∙ ap (λ o. output_in o i) (sym (under_behind x xs shuffle e))

pub sizes_for_all : SizesForAll
sizes_for_all t shuffle maps = (room, same)
  where
    room : (map : ℕ) → has_room t shuffle ≡ false → map < maps
        → HasRoomFor (sized t shuffle maps) (record { shuffle = shuffle; map = map })
    room map none h =
        rw (none, room_made t.shuffles shuffle (replicate maps never) none, length-nothing maps) h

    by : (b : Bool) (block : BlockId)
        → output_of (if b then t
        else tracker_data (t.shuffles ++ shuffle_data shuffle (replicate maps never) ∷ [])
        t.trust t.epoch) block ≡ output_of t block
    by true block = refl
    by false block =
        room_same t.shuffles (shuffle_data shuffle (replicate maps never)) block.shuffle block.map
        (λ j. at_or-nothing maps j)

    same : (block : BlockId) → output_of (sized t shuffle maps) block ≡ output_of t block
    same block = by (has_room t shuffle) block

-- the outputs of a shuffle where one entry was changed in its outputs alone
pub under_changed : (xs : List ShuffleData) (shuffle : ShuffleId) (f : List Output → List Output)
    → f [] ≡ []
    → outputs_under
    (change_at xs (place_of xs shuffle) (λ s. shuffle_data s.shuffle (f s.outputs))) shuffle
    ≡ f (outputs_under xs shuffle)
under_changed [] shuffle f h = sym h
under_changed (x ∷ xs) shuffle f h =
    by (is_of shuffle x) refl (under_changed xs shuffle f h)
  where
    with_f : ShuffleData → ShuffleData
    with_f s = shuffle_data s.shuffle (f s.outputs)

    by : (b : Bool) → is_of shuffle x ≡ b
        → outputs_under (change_at xs (place_of xs shuffle) with_f) shuffle
        ≡ f (outputs_under xs shuffle)
        → outputs_under (change_at (x ∷ xs) (place_of (x ∷ xs) shuffle) with_f) shuffle
        ≡ f (outputs_under (x ∷ xs) shuffle)
    by true e more =
        ap (λ i. outputs_under (change_at (x ∷ xs) i with_f) shuffle) (place_here x xs shuffle e)
        ∙ under_here (with_f x) xs shuffle e ∙ ap f (sym (under_here x xs shuffle e))
    by false e more =
        ap (λ i. outputs_under (change_at (x ∷ xs) i with_f) shuffle) (place_behind x xs shuffle e)
        ∙ under_behind x (change_at xs (place_of xs shuffle) with_f) shuffle e
        ∙ more ∙ ap f (sym (under_behind x xs shuffle e))

-- a shuffle is its two numbers
same_shuffle : (a b : ShuffleId) → a.node ≡ b.node → a.side ≡ b.side → a ≡ b
same_shuffle a b node side = ap (λ n. shuffle n a.side) node ∙ ap (λ s. shuffle b.node s) side
  where
    shuffle : ℕ → ℕ → ShuffleId
    shuffle n s = record { node = n; side = s }

-- entries are of one shuffle
pub one_shuffle : (a b : ShuffleId) (x : ShuffleData)
    → is_of a x ≡ true → is_of b x ≡ true → a ≡ b
one_shuffle a b x d e = same_shuffle a b (grind (arith, nat_tests)) (grind (arith, nat_tests))

-- and those of another one
pub under_kept : (xs : List ShuffleData) (shuffle other : ShuffleId)
    (f : List Output → List Output) → other ≢ shuffle
    → outputs_under
    (change_at xs (place_of xs shuffle) (λ s. shuffle_data s.shuffle (f s.outputs))) other
    ≡ outputs_under xs other
under_kept [] shuffle other f h = refl
under_kept (x ∷ xs) shuffle other f h =
    by (is_of shuffle x) (is_of other x) refl refl (under_kept xs shuffle other f h)
  where
    with_f : ShuffleData → ShuffleData
    with_f s = shuffle_data s.shuffle (f s.outputs)

    by : (a b : Bool) → is_of shuffle x ≡ a → is_of other x ≡ b
        → outputs_under (change_at xs (place_of xs shuffle) with_f) other
        ≡ outputs_under xs other
        → outputs_under (change_at (x ∷ xs) (place_of (x ∷ xs) shuffle) with_f) other
        ≡ outputs_under (x ∷ xs) other
    by true true d e more = absurd (h (one_shuffle other shuffle x e d))
    by true false d e more =
        ap (λ i. outputs_under (change_at (x ∷ xs) i with_f) other) (place_here x xs shuffle d)
        ∙ under_behind (with_f x) xs other e ∙ sym (under_behind x xs other e)
    by false true d e more =
        ap (λ i. outputs_under (change_at (x ∷ xs) i with_f) other) (place_behind x xs shuffle d)
        ∙ under_here x (change_at xs (place_of xs shuffle) with_f) other e
        ∙ sym (under_here x xs other e)
    by false false d e more =
        ap (λ i. outputs_under (change_at (x ∷ xs) i with_f) other) (place_behind x xs shuffle d)
        ∙ under_behind x (change_at xs (place_of xs shuffle) with_f) other e
        ∙ more ∙ sym (under_behind x xs other e)

-- a block is its shuffle and its map partition
same_block : (a b : BlockId) → a.shuffle ≡ b.shuffle → a.map ≡ b.map → a ≡ b
same_block a b shuffle map = ap (λ s. block s a.map) shuffle ∙ ap (λ m. block b.shuffle m) map
  where
    block : ShuffleId → ℕ → BlockId
    block s m = record { shuffle = s; map = m }

pub registers_one : RegistersOne
registers_one t block loc = (here, others)
  where
    change : List Output → List Output
    change outputs = change_at outputs block.map (placed loc t.epoch)

    here : HasRoomFor t block
        → output_of (registered t block loc) block ≡ placed loc t.epoch never
    here room =
        ap (λ outputs. output_in outputs block.map)
        (under_changed t.shuffles block.shuffle change refl)
        ∙ at_or_change_same (outputs_under t.shuffles block.shuffle) block.map never
        (placed loc t.epoch) room

    by : (other : BlockId) → other ≢ block
        → (b : Bool) → is_of other.shuffle (shuffle_data block.shuffle []) ≡ b
        → output_of (registered t block loc) other ≡ output_of t other
    by other h true e =
        let same : other.shuffle ≡ block.shuffle =
        one_shuffle other.shuffle block.shuffle (shuffle_data block.shuffle []) e
        (is_of_itself block.shuffle []) in
        let apart : other.map ≡ block.map → ⊥ = λ m. h (same_block other block same m) in
        rw same
        (ap (λ outputs. output_in outputs other.map)
        (under_changed t.shuffles block.shuffle change refl)
        ∙ at_or_change_other (outputs_under t.shuffles block.shuffle) block.map other.map
        never (placed loc t.epoch) apart)
    by other h false e =
        let apart : other.shuffle ≡ block.shuffle → ⊥ =
        λ same. absurd (clash e same) in
        ap (λ outputs. output_in outputs other.map)
        (under_kept t.shuffles block.shuffle other.shuffle change apart)
      where
        clash : is_of other.shuffle (shuffle_data block.shuffle []) ≡ false
            → other.shuffle ≡ block.shuffle → ⊥
        clash differ same = grind (arith, nat_tests)

    others : (other : BlockId) → other ≢ block
        → output_of (registered t block loc) other ≡ output_of t other
    others other h = by other h (is_of other.shuffle (shuffle_data block.shuffle [])) refl

-- the outputs of a shuffle, where the outputs of all were changed alike
pub under_mapped : (xs : List ShuffleData) (shuffle : ShuffleId) (f : Output → Output)
    → outputs_under (map (λ s. shuffle_data s.shuffle (map f s.outputs)) xs) shuffle
    ≡ map f (outputs_under xs shuffle)
under_mapped [] shuffle f = refl
under_mapped (x ∷ xs) shuffle f = by (is_of shuffle x) refl (under_mapped xs shuffle f)
  where
    with_f : ShuffleData → ShuffleData
    with_f s = shuffle_data s.shuffle (map f s.outputs)

    by : (b : Bool) → is_of shuffle x ≡ b
        → outputs_under (map with_f xs) shuffle ≡ map f (outputs_under xs shuffle)
        → outputs_under (map with_f (x ∷ xs)) shuffle ≡ map f (outputs_under (x ∷ xs) shuffle)
    by true e more =
        under_here (with_f x) (map with_f xs) shuffle e
        ∙ ap (map f) (sym (under_here x xs shuffle e))
    by false e more =
        under_behind (with_f x) (map with_f xs) shuffle e
        ∙ more ∙ ap (map f) (sym (under_behind x xs shuffle e))

-- an item of a list, where all were changed alike
pub at_or-map : {A : Type 0} (f : A → A) (xs : List A) (i : ℕ) (d : A)
    → f d ≡ d → at_or (map f xs) i d ≡ f (at_or xs i d)
at_or-map f [] i d h = sym h
at_or-map f (x ∷ xs) zero d h = refl
at_or-map f (x ∷ xs) (suc i) d h = at_or-map f xs i d h

-- what is known of a block once those on an executor were forgotten
pub output_forgotten : (xs : List ShuffleData) (exec : ℕ) (block : BlockId)
    → output_under (map (with_forgotten_on exec) xs) block
    ≡ forgotten_on exec (output_under xs block)
output_forgotten xs exec block =
    ap (λ outputs. output_in outputs block.map) (under_mapped xs block.shuffle (forgotten_on exec))
    ∙ at_or-map (forgotten_on exec) (outputs_under xs block.shuffle) block.map never refl

pub forgets_on_one : ForgetsOnOne
forgets_on_one t exec block = (gone, lost)
  where
    gone : (found : ℕ) → is_newer (slice_get t.trust exec) found ≡ true
        → output_of (after_gone t exec found) block ≡ forgotten_on exec (output_of t block)
    gone found e = rw e (output_forgotten t.shuffles exec block)

    lost : is_live (slice_get t.trust exec) ≡ true
        → output_of (after_executor_lost t exec) block ≡ forgotten_on exec (output_of t block)
    lost e = rw e (output_forgotten t.shuffles exec block)

pub unregisters_all : UnregistersAll
unregisters_all t = (λ block. refl, λ shuffle. refl)
