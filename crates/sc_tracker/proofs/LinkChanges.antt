-- Links of outputs, and what a change of one leaves of the others.
use Rattle.std.proofs.Common.{◌≡◌, ◌⊎◌, inl, inr, ℕ, zero, suc, ◌<◌, Bool, true, false, List, [], ◌∷◌, Option, Some, None, length, map, refl, ap, sym, subst, arith, rules}
use Rattle.sc_base.specs.Lists.{at_or}
use Rattle.sc_ids.specs.Changes.{change_at}
use Rattle.sc_ids.proofs.ChangeLemmas.{length_change_at}
use Rattle.sc_tracker.specs.Lists.{ListsData, back_at, has_room_at, is_same, link_at, next_at, unlinked, with_back, with_item, with_next, with_output}
use Rattle.sc_tracker.specs.TrackerData.{ShuffleData, shuffle_data}
use Rattle.sc_tracker.specs.declared.links.Link.{Link}
use Rattle.sc_tracker.specs.declared.links.Place.{Place}
use Rattle.sc_tracker.specs.declared.outputs.Output.{Output}
use Rattle.sc_tracker.proofs.ItemLemmas.{item_other, item_same, map_change_kept, room_within}
use Rattle.sc_tracker.proofs.LinkLemmas.{clash, same_itself, same_place, some_one}

-- ---- links are there

abbrev pub HasLink : List (List Link) → Place → Type 0
HasLink rows p = p.map < length (at_or rows p.at [])

pub row_length : (rows : List (List Link)) (shuffles : List ShuffleData) (i : ℕ)
    → map (λ row. length row) rows ≡ map (λ s. length s.outputs) shuffles
    → length (at_or rows i []) ≡ length (at_or (map (λ s. s.outputs) shuffles) i [])
row_length [] [] i e = refl
row_length [] (s ∷ shuffles) i e = absurd (search (rules, e))
row_length (row ∷ rows) [] i e = absurd (search (rules, e))
row_length (row ∷ rows) (s ∷ shuffles) zero e =
    let same : length row ≡ length s.outputs = search (rules, e) in same
row_length (row ∷ rows) (s ∷ shuffles) (suc i) e =
    row_length rows shuffles i
    (let same : map (λ r. length r) rows ≡ map (λ s. length s.outputs) shuffles =
    search (rules, e) in same)

pub has_link : (rows : List (List Link)) (shuffles : List ShuffleData) (p : Place)
    → map (λ row. length row) rows ≡ map (λ s. length s.outputs) shuffles
    → has_room_at shuffles p ≡ true → HasLink rows p
has_link rows shuffles p e room =
    let within = room_within shuffles p room in
    omega (arith, within, row_length rows shuffles p.at e)

pub item_length : (rows : List (List Link)) (p : Place) (f : Link → Link)
    → map (λ row. length row) (with_item rows p f) ≡ map (λ row. length row) rows
item_length rows p f =
    map_change_kept (λ row. length row) (λ row. change_at row p.map f) rows p.at
    (λ row. length_change_at row p.map f)

pub output_length : (shuffles : List ShuffleData) (p : Place) (f : Output → Output)
    → map (λ s. length s.outputs) (with_output shuffles p f)
    ≡ map (λ s. length s.outputs) shuffles
output_length shuffles p f =
    map_change_kept (λ s. length s.outputs)
    (λ s. shuffle_data s.shuffle (change_at s.outputs p.map f)) shuffles p.at
    (λ s. length_change_at s.outputs p.map f)

-- ---- links that change

pub apart_of : (p q : Place) → (Some p ≡ Some q → ⊥) → is_same p q ≡ false
apart_of p q ne = by (is_same p q) refl
  where
    by : (b : Bool) → is_same p q ≡ b → b ≡ false
    by true e = absurd (ne (ap Some (same_place p q e)))
    by false e = refl

pub decide : (o : Option Place) (q : Place) → (o ≡ Some q) ⊎ (o ≡ Some q → ⊥)
decide None q = inr (λ e. absurd (search (rules, e)))
decide (Some p) q = by (is_same p q) refl
  where
    by : (b : Bool) → is_same p q ≡ b → (Some p ≡ Some q) ⊎ (Some p ≡ Some q → ⊥)
    by true e = inl (ap Some (same_place p q e))
    by false e =
        inr (λ h. clash (subst (λ r. is_same p r ≡ true) (some_one p q h) (same_itself p)) e)

pub next_length : (o n : Option Place) (l : ListsData)
    → map (λ row. length row) (with_next o n l).rows ≡ map (λ row. length row) l.rows
next_length None n l = refl
next_length (Some p) n l = item_length l.rows p (λ _. record { back = back_at l.rows p; next = n })

pub next_next : (o n : Option Place) (l : ListsData) (q : Place) → HasLink l.rows q → o ≡ Some q
    → next_at (with_next o n l).rows q ≡ n
next_next None n l q room is = absurd (search (rules, is))
next_next (Some p) n l q room is =
    subst (λ r. next_at (with_item l.rows r
    (λ _. record { back = back_at l.rows r; next = n })) q ≡ n) (sym (some_one p q is))
    (ap (λ (k : Link). k.next)
    (item_same l.rows q (λ _. record { back = back_at l.rows q; next = n }) unlinked room))

pub next_keep : (o n : Option Place) (l : ListsData) (q : Place) → (o ≡ Some q → ⊥)
    → link_at (with_next o n l).rows q ≡ link_at l.rows q
next_keep None n l q ne = refl
next_keep (Some p) n l q ne =
    item_other l.rows p q (λ _. record { back = back_at l.rows p; next = n }) unlinked
    (apart_of p q ne)

pub next_back : (o n : Option Place) (l : ListsData) (q : Place) → HasLink l.rows q
    → back_at (with_next o n l).rows q ≡ back_at l.rows q
next_back o n l q room = by o (decide o q)
  where
    by : (o : Option Place) → (o ≡ Some q) ⊎ (o ≡ Some q → ⊥)
        → back_at (with_next o n l).rows q ≡ back_at l.rows q
    by None h = refl
    by (Some p) (inl is) =
        subst (λ r. back_at (with_item l.rows r
        (λ _. record { back = back_at l.rows r; next = n })) q ≡ back_at l.rows q)
        (sym (some_one p q is))
        (ap (λ (k : Link). k.back)
        (item_same l.rows q (λ _. record { back = back_at l.rows q; next = n }) unlinked room))
    by (Some p) (inr ne) = ap (λ (k : Link). k.back) (next_keep (Some p) n l q ne)

pub next_firsts : (o n : Option Place) (l : ListsData) → (with_next o n l).firsts ≡ l.firsts
next_firsts None n l = refl
next_firsts (Some p) n l = refl

pub back_length : (o b : Option Place) (l : ListsData)
    → map (λ row. length row) (with_back o b l).rows ≡ map (λ row. length row) l.rows
back_length None b l = refl
back_length (Some p) b l = item_length l.rows p (λ _. record { back = b; next = next_at l.rows p })

pub back_back : (o b : Option Place) (l : ListsData) (q : Place) → HasLink l.rows q → o ≡ Some q
    → back_at (with_back o b l).rows q ≡ b
back_back None b l q room is = absurd (search (rules, is))
back_back (Some p) b l q room is =
    subst (λ r. back_at (with_item l.rows r
    (λ _. record { back = b; next = next_at l.rows r })) q ≡ b) (sym (some_one p q is))
    (ap (λ (k : Link). k.back)
    (item_same l.rows q (λ _. record { back = b; next = next_at l.rows q }) unlinked room))

pub back_keep : (o b : Option Place) (l : ListsData) (q : Place) → (o ≡ Some q → ⊥)
    → link_at (with_back o b l).rows q ≡ link_at l.rows q
back_keep None b l q ne = refl
back_keep (Some p) b l q ne =
    item_other l.rows p q (λ _. record { back = b; next = next_at l.rows p }) unlinked
    (apart_of p q ne)

pub back_next : (o b : Option Place) (l : ListsData) (q : Place) → HasLink l.rows q
    → next_at (with_back o b l).rows q ≡ next_at l.rows q
back_next o b l q room = by o (decide o q)
  where
    by : (o : Option Place) → (o ≡ Some q) ⊎ (o ≡ Some q → ⊥)
        → next_at (with_back o b l).rows q ≡ next_at l.rows q
    by None h = refl
    by (Some p) (inl is) =
        subst (λ r. next_at (with_item l.rows r
        (λ _. record { back = b; next = next_at l.rows r })) q ≡ next_at l.rows q)
        (sym (some_one p q is))
        (ap (λ (k : Link). k.next)
        (item_same l.rows q (λ _. record { back = b; next = next_at l.rows q }) unlinked room))
    by (Some p) (inr ne) = ap (λ (k : Link). k.next) (back_keep (Some p) b l q ne)

pub back_firsts : (o b : Option Place) (l : ListsData) → (with_back o b l).firsts ≡ l.firsts
back_firsts None b l = refl
back_firsts (Some p) b l = refl
