-- Items of several lists by their places, and outputs by theirs.
use Rattle.std.proofs.Common.{◌≡◌, ◌⊎◌, inl, inr, ℕ, zero, suc, ◌<◌, ◌≤◌, true, false, List, [], ◌∷◌, ◌++◌, Option, Some, None, length, map, replicate, refl, ap, sym, ◌∙◌, arith, true≢false}
use Rattle.std.proofs.lemmas.Bool.{cases_eq, cases_lt}
use Rattle.std.proofs.lemmas.Bool.Decides.{nat_tests}
use Rattle.std.proofs.lemmas.List.{map-append}
use Rattle.sc_base.specs.Lists.{at_or}
use Rattle.sc_ids.specs.Changes.{change_at}
use Rattle.sc_ids.proofs.ChangeLemmas.{at_or_change_other, at_or_change_same, map_change_at}
use Rattle.sc_ids.specs.declared.blocks.Loc.{Loc}
use Rattle.sc_tracker.specs.Lists.{has_room_at, is_same, item_at, output_at, with_item, with_output}
use Rattle.sc_tracker.specs.Outputs.{is_on, never}
use Rattle.sc_tracker.specs.TrackerData.{ShuffleData, shuffle_data}
use Rattle.sc_tracker.specs.declared.links.Place.{Place}
use Rattle.sc_tracker.specs.declared.outputs.Output.{Output}
use Rattle.sc_tracker.proofs.BlockLemmas.{at_or-map}
use Rattle.sc_tracker.proofs.LinkLemmas.{clash}

-- ---- items

pub at_or_past : {A : Type 0} (xs : List A) (i : ℕ) (d : A) → length xs ≤ i → at_or xs i d ≡ d
at_or_past [] i d h = refl
at_or_past (x ∷ xs) zero d h = absurd (omega (arith, h))
at_or_past (x ∷ xs) (suc i) d h = at_or_past xs i d (omega (arith, h))

-- a changed item, where the change leaves as it is what stands for a missing one
at_or_changed : {A : Type 0} (xs : List A) (i : ℕ) (d : A) (f : A → A) → f d ≡ d
    → at_or (change_at xs i f) i d ≡ f (at_or xs i d)
at_or_changed [] i d f e = sym e
at_or_changed (x ∷ xs) zero d f e = refl
at_or_changed (x ∷ xs) (suc i) d f e = at_or_changed xs i d f e

pub item_same : {A : Type 0} (rows : List (List A)) (p : Place) (f : A → A) (d : A)
    → p.map < length (at_or rows p.at []) → item_at (with_item rows p f) p d ≡ f (item_at rows p d)
item_same rows p f d lt =
    ap (λ row. at_or row p.map d)
    (at_or_changed rows p.at [] (λ row. change_at row p.map f) refl)
    ∙ at_or_change_same (at_or rows p.at []) p.map d f lt

pub item_other : {A : Type 0} (rows : List (List A)) (p q : Place) (f : A → A) (d : A)
    → is_same p q ≡ false → item_at (with_item rows p f) q d ≡ item_at rows q d
item_other {A = A} rows p q f d apart = by (cases_eq q.at p.at)
  where
    g : List A → List A
    g row = change_at row p.map f

    by : (q.at ≡ p.at) ⊎ (q.at ≡ p.at → ⊥)
        → item_at (with_item rows p f) q d ≡ item_at rows q d
    by (inl e) =
        let ne : q.map ≡ p.map → ⊥ = λ h. absurd (grind (arith, nat_tests, apart, e, h)) in
        rw e (ap (λ row. at_or row q.map d) (at_or_changed rows p.at [] g refl)
        ∙ at_or_change_other (at_or rows p.at []) p.map q.map d f ne)
    by (inr ne) =
        ap (λ row. at_or row q.map d) (at_or_change_other rows p.at q.at [] g ne)

-- a view of all items that a change of one keeps
pub map_change_kept : {A B : Type 0} (v : A → B) (f : A → A) (xs : List A) (i : ℕ)
    → ((x : A) → v (f x) ≡ v x) → map v (change_at xs i f) ≡ map v xs
map_change_kept v f [] i h = refl
map_change_kept v f (x ∷ xs) zero h = ap (λ y. y ∷ map v xs) (h x)
map_change_kept v f (x ∷ xs) (suc i) h = ap (λ ys. v x ∷ ys) (map_change_kept v f xs i h)

-- one list more, of items that stand for missing ones
pub item_more : {A : Type 0} (rows : List (List A)) (n : ℕ) (p : Place) (d : A)
    → item_at (rows ++ replicate n d ∷ []) p d ≡ item_at rows p d
item_more {A = A} rows n p d = by rows p.at
  where
    blank : (k m : ℕ) → at_or (replicate k d) m d ≡ d
    blank zero m = refl
    blank (suc k) zero = refl
    blank (suc k) (suc m) = blank k m

    by : (xs : List (List A)) (i : ℕ)
        → at_or (at_or (xs ++ replicate n d ∷ []) i []) p.map d ≡ at_or (at_or xs i []) p.map d
    by [] zero = blank n p.map
    by [] (suc i) = refl
    by (x ∷ xs) zero = refl
    by (x ∷ xs) (suc i) = by xs i

-- ---- outputs

pub outputs_with : (shuffles : List ShuffleData) (p : Place) (f : Output → Output)
    → map (λ s. s.outputs) (with_output shuffles p f)
    ≡ with_item (map (λ s. s.outputs) shuffles) p f
outputs_with shuffles p f =
    map_change_at (λ s. s.outputs)
    (λ s. shuffle_data s.shuffle (change_at s.outputs p.map f)) (λ row. change_at row p.map f)
    shuffles p.at (λ x. refl)

pub room_within : (shuffles : List ShuffleData) (p : Place) → has_room_at shuffles p ≡ true
    → p.map < length (at_or (map (λ s. s.outputs) shuffles) p.at [])
room_within shuffles p e = grind (arith, nat_tests, e)

pub output_same : (shuffles : List ShuffleData) (p : Place) (f : Output → Output)
    → has_room_at shuffles p ≡ true
    → output_at (with_output shuffles p f) p ≡ f (output_at shuffles p)
output_same shuffles p f room =
    ap (λ rows. item_at rows p never) (outputs_with shuffles p f)
    ∙ item_same (map (λ s. s.outputs) shuffles) p f never (room_within shuffles p room)

pub output_other : (shuffles : List ShuffleData) (p q : Place) (f : Output → Output)
    → is_same p q ≡ false → output_at (with_output shuffles p f) q ≡ output_at shuffles q
output_other shuffles p q f apart =
    ap (λ rows. item_at rows q never) (outputs_with shuffles p f)
    ∙ item_other (map (λ s. s.outputs) shuffles) p q f never apart

pub output_mapped : (shuffles : List ShuffleData) (q : Place) (f : Output → Output)
    → f never ≡ never
    → output_at (map (λ s. shuffle_data s.shuffle (map f s.outputs)) shuffles) q
    ≡ f (output_at shuffles q)
output_mapped shuffles q f e =
    ap (λ rows. item_at rows q never) (rows_mapped shuffles)
    ∙ ap (λ row. at_or row q.map never)
    (at_or-map (map f) (map (λ s. s.outputs) shuffles) q.at [] refl)
    ∙ at_or-map f (at_or (map (λ s. s.outputs) shuffles) q.at []) q.map never e
  where
    rows_mapped : (xs : List ShuffleData)
        → map (λ s. s.outputs) (map (λ s. shuffle_data s.shuffle (map f s.outputs)) xs)
        ≡ map (map f) (map (λ s. s.outputs) xs)
    rows_mapped [] = refl
    rows_mapped (x ∷ xs) = ap (λ rows. map f x.outputs ∷ rows) (rows_mapped xs)

pub output_more : (shuffles : List ShuffleData) (s : ShuffleData) (n : ℕ) (q : Place)
    → s.outputs ≡ replicate n never
    → output_at (shuffles ++ s ∷ []) q ≡ output_at shuffles q
output_more shuffles s n q is =
    ap (λ rows. item_at rows q never)
    (map-append (λ x. x.outputs) shuffles (s ∷ [])
    ∙ ap (λ row. map (λ x. x.outputs) shuffles ++ row ∷ []) is)
    ∙ item_more (map (λ x. x.outputs) shuffles) n q never

-- an output that is registered has a place
pub has_room_on : (shuffles : List ShuffleData) (p : Place) (exec : ℕ)
    → is_on exec (output_at shuffles p).here ≡ true → has_room_at shuffles p ≡ true
has_room_on shuffles p exec on =
    by (cases_lt p.map (length (at_or (map (λ s. s.outputs) shuffles) p.at [])))
  where
    by : (p.map < length (at_or (map (λ s. s.outputs) shuffles) p.at []))
        ⊎ (length (at_or (map (λ s. s.outputs) shuffles) p.at []) ≤ p.map)
        → has_room_at shuffles p ≡ true
    by (inl lt) = grind (arith, nat_tests, lt)
    by (inr le) =
        absurd (clash on (ap (λ (o : Output). is_on exec o.here)
        (at_or_past (at_or (map (λ s. s.outputs) shuffles) p.at []) p.map never le)))

-- on one executor alone
pub on_one : (a b : ℕ) (o : Option Loc) → is_on a o ≡ true → is_on b o ≡ true → a ≡ b
on_one a b None e f = absurd (true≢false (sym e))
on_one a b (Some loc) e f = grind (arith, nat_tests, e, f)
