-- Lists of outputs, where an output is registered.
use Rattle.std.proofs.Common.{◌≡◌, ◌⊎◌, inl, inr, ℕ, zero, suc, ◌<◌, ◌≤◌, ◌==◌, Bool, true, false, if◌then◌else◌, is_none, List, [], ◌∷◌, Option, Some, None, length, map, nat_lt, refl, ap, sym, subst, ◌∙◌, arith, rules}
use Rattle.std.proofs.lemmas.Bool.{cases_eq, cases_lt}
use Rattle.std.proofs.lemmas.Bool.Decides.{nat_tests}
use Rattle.sc_base.specs.Lists.{at_or}
use Rattle.sc_ids.specs.Changes.{change_at}
use Rattle.sc_ids.specs.declared.blocks.Loc.{Loc}
use Rattle.sc_ids.proofs.ChangeLemmas.{change_at_past, at_or_change_other, at_or_change_same, length_change_at}
use Rattle.sc_tracker.specs.Lists.{AreListed, IsList, ListsData, back_at, has_place, has_room_at, is_same, lists_data, next_at, output_at, pushed, removed, unchained, unlinked, with_back, with_first, with_item, with_next, with_output}
use Rattle.sc_tracker.specs.Outputs.{forgotten, is_on, placed}
use Rattle.sc_tracker.specs.TrackerData.{ShuffleData, shuffle_data}
use Rattle.sc_tracker.specs.declared.links.Link.{Link}
use Rattle.sc_tracker.specs.declared.links.Place.{Place}
use Rattle.sc_tracker.specs.declared.outputs.Output.{Output}
use Rattle.sc_tracker.proofs.ItemLemmas.{at_or_past, has_room_on, item_other, item_same, on_one, output_other, output_same}
use Rattle.sc_tracker.proofs.LinkLemmas.{clash, head_in, links_pushed, links_same, same_place, some_one}
use Rattle.sc_tracker.proofs.LinkChanges.{HasLink, apart_of, back_back, back_firsts, back_keep, back_length, back_next, has_link, item_length, next_firsts, output_length, row_length}
use Rattle.sc_tracker.proofs.ListedLemmas.{forgotten_listed, forgotten_unlisted}

-- ---- an output that is registered nowhere is registered

module _ (shuffles : List ShuffleData) (l : ListsData) (are : AreListed shuffles l)
    (p : Place) (loc : Loc) (epoch : ℕ) (none : (output_at shuffles p).here ≡ None)
    (room : has_room_at shuffles p ≡ true) where
  abbrev after : List ShuffleData
  after = with_output shuffles p (placed loc epoch)

  abbrev first : Option Place
  first = at_or l.firsts loc.exec None

  -- the links with its own, and with that before the one behind it
  abbrev own : ListsData
  own = lists_data l.firsts (with_item l.rows p (λ _. record { back = None; next = first }))

  abbrev linked : ListsData
  linked = with_back first (Some p) own

  linked_lengths : map (λ row. length row) own.rows ≡ map (λ s. length s.outputs) shuffles
  linked_lengths = item_length l.rows p (λ _. record { back = None; next = first }) ∙ are.linked

  own_there : (q : Place) → has_room_at shuffles q ≡ true → HasLink own.rows q
  own_there q h = has_link own.rows shuffles q linked_lengths h

  -- it is in no list
  unlisted : (exec : ℕ) (within : exec < length l.firsts)
      → has_place (are.each exec within).places p ≡ false
  unlisted exec within = (are.each exec within).exactly p ∙ ap (is_on exec) none

  first_there : (q : Place) → first ≡ Some q
      → is_on loc.exec (output_at shuffles q).here ≡ true
  first_there q is = by (cases_lt loc.exec (length l.firsts))
    where
      by : (loc.exec < length l.firsts) ⊎ (length l.firsts ≤ loc.exec)
          → is_on loc.exec (output_at shuffles q).here ≡ true
      by (inl within) =
          let list = are.each loc.exec within in
          sym (list.exactly q)
          ∙ head_in (next_at l.rows) (back_at l.rows) None first list.places q list.linked is
      by (inr past) =
          absurd (search (rules, sym (at_or_past l.firsts loc.exec None past) ∙ is))

  not_first : first ≡ Some p → ⊥
  not_first is =
      clash (first_there p is) (ap (is_on loc.exec) none)

  next_here : next_at linked.rows p ≡ first
  next_here =
      back_next first (Some p) own p (own_there p room)
      ∙ ap (λ (k : Link). k.next)
      (item_same l.rows p (λ _. record { back = None; next = first }) unlinked
      (has_link l.rows shuffles p are.linked room))

  back_here : back_at linked.rows p ≡ None
  back_here =
      ap (λ (k : Link). k.back)
      (back_keep first (Some p) own p not_first
      ∙ item_same l.rows p (λ _. record { back = None; next = first }) unlinked
      (has_link l.rows shuffles p are.linked room))

  next_other : (exec : ℕ) (q : Place) → is_on exec (output_at shuffles q).here ≡ true
      → next_at linked.rows q ≡ next_at l.rows q
  next_other exec q on =
      back_next first (Some p) own q (own_there q (has_room_on shuffles q exec on))
      ∙ ap (λ (k : Link). k.next)
      (item_other l.rows p q (λ _. record { back = None; next = first }) unlinked (apart exec q on))
    where
      apart : (exec : ℕ) (q : Place) → is_on exec (output_at shuffles q).here ≡ true
          → is_same p q ≡ false
      apart exec q on = apart_of p q (λ is. clash
          (subst (λ r. is_on exec (output_at shuffles r).here ≡ true) (sym (some_one p q is)) on)
          (ap (is_on exec) none))

  back_other : (exec : ℕ) (q : Place) → is_on exec (output_at shuffles q).here ≡ true
      → (first ≡ Some q → ⊥) → back_at linked.rows q ≡ back_at l.rows q
  back_other exec q on ne =
      ap (λ (k : Link). k.back)
      (back_keep first (Some p) own q ne
      ∙ item_other l.rows p q (λ _. record { back = None; next = first }) unlinked
      (apart_of p q (λ is. clash
      (subst (λ r. is_on exec (output_at shuffles r).here ≡ true) (sym (some_one p q is)) on)
      (ap (is_on exec) none))))

  here : (exec : ℕ) → is_on exec (output_at after p).here ≡ (loc.exec == exec)
  here exec =
      ap (λ (o : Output). is_on exec o.here)
      (output_same shuffles p (placed loc epoch) room)

  kept : (exec : ℕ) (q : Place) → is_same p q ≡ false
      → is_on exec (output_at after q).here ≡ is_on exec (output_at shuffles q).here
  kept exec q apart =
      ap (λ (o : Output). is_on exec o.here) (output_other shuffles p q (placed loc epoch) apart)

  -- the list of its executor
  own_list : loc.exec < length l.firsts → IsList after linked.rows loc.exec (Some p)
  own_list within =
      record {
        places = p ∷ list.places;
        linked = links_pushed (next_at l.rows) (back_at l.rows) (next_at linked.rows)
            (back_at linked.rows) first list.places p list.once list.linked next_here back_here
            (λ q is. back_back first (Some p) own q
            (own_there q (has_room_on shuffles q loc.exec (first_there q is))) is)
            (λ q h. next_other loc.exec q (sym (list.exactly q) ∙ h))
            (λ q h ne. back_other loc.exec q (sym (list.exactly q) ∙ h) ne);
        once = (unlisted loc.exec within, list.once);
        exactly = λ q. by q (is_same p q) refl;
      }
    where
      list : IsList shuffles l.rows loc.exec first
      list = are.each loc.exec within

      itself : (loc.exec == loc.exec) ≡ true
      itself = grind (arith, nat_tests)

      by : (q : Place) (b : Bool) → is_same p q ≡ b
          → has_place (p ∷ list.places) q ≡ is_on loc.exec (output_at after q).here
      by q true e =
          rw e (sym (subst (λ r. is_on loc.exec (output_at after r).here ≡ true) (same_place p q e)
          (here loc.exec ∙ itself)))
      by q false e = rw e (list.exactly q ∙ sym (kept loc.exec q e))

  -- and another one
  other_list : (exec : ℕ) → (exec ≡ loc.exec → ⊥) → exec < length l.firsts
      → IsList after linked.rows exec (at_or l.firsts exec None)
  other_list exec ne within =
      record {
        places = list.places;
        linked = links_same (next_at l.rows) (back_at l.rows) (next_at linked.rows)
            (back_at linked.rows) None (at_or l.firsts exec None) list.places
            (λ q h. (
              next_other exec q (sym (list.exactly q) ∙ h),
              back_other exec q (sym (list.exactly q) ∙ h)
                  (λ is. ne (on_one exec loc.exec (output_at shuffles q).here
                  (sym (list.exactly q) ∙ h) (first_there q is))),
            )) list.linked;
        once = list.once;
        exactly = λ q. by q (is_same p q) refl;
      }
    where
      list : IsList shuffles l.rows exec (at_or l.firsts exec None)
      list = are.each exec within

      other : (loc.exec == exec) ≡ false
      other = decided (loc.exec == exec) refl
        where
          decided : (b : Bool) → (loc.exec == exec) ≡ b → b ≡ false
          decided true e = absurd (ne (grind (arith, nat_tests, e)))
          decided false e = refl

      by : (q : Place) (b : Bool) → is_same p q ≡ b
          → has_place list.places q ≡ is_on exec (output_at after q).here
      by q true e =
          subst (λ r. has_place list.places r ≡ is_on exec (output_at after r).here)
          (same_place p q e) (unlisted exec within ∙ sym (here exec ∙ other))
      by q false e = list.exactly q ∙ sym (kept exec q e)

  linked_firsts : linked.firsts ≡ l.firsts
  linked_firsts = back_firsts first (Some p) own

  pub pushed_listed : AreListed after (pushed loc.exec p l)
  pushed_listed =
      subst (λ fs. AreListed after
      (lists_data (change_at fs loc.exec (λ _. Some p)) linked.rows)) (sym linked_firsts)
      (record {
        each = λ exec within. by exec (rw (length_change_at l.firsts loc.exec (λ _. Some p)) at
            within) (cases_eq exec loc.exec);
        linked = back_length first (Some p) own ∙ linked_lengths
            ∙ sym (output_length shuffles p (placed loc epoch));
      })
    where
      by : (exec : ℕ) → exec < length l.firsts → (exec ≡ loc.exec) ⊎ (exec ≡ loc.exec → ⊥)
          → IsList after linked.rows exec
          (at_or (change_at l.firsts loc.exec (λ _. Some p)) exec None)
      by exec within (inl is) =
          let there : loc.exec < length l.firsts = subst (λ n. n < length l.firsts) is within in
          subst (λ n. IsList after linked.rows n
          (at_or (change_at l.firsts loc.exec (λ _. Some p)) n None)) (sym is)
          (subst (IsList after linked.rows loc.exec)
          (sym (at_or_change_same l.firsts loc.exec None (λ _. Some p) there))
          (own_list there))
      by exec within (inr ne) =
          subst (IsList after linked.rows exec)
          (sym (at_or_change_other l.firsts loc.exec exec None (λ _. Some p) ne))
          (other_list exec ne within)

-- ---- an output is registered, wherever it was

-- two changes of one output are one
alike : {A : Type 0} (xs : List A) (i : ℕ) (f g : A → A) → ((x : A) → f x ≡ g x)
    → change_at xs i f ≡ change_at xs i g
alike [] i f g same = refl
alike (x ∷ xs) zero f g same = ap (λ y. y ∷ xs) (same x)
alike (x ∷ xs) (suc i) f g same = ap (λ ys. x ∷ ys) (alike xs i f g same)

twice : {A : Type 0} (xs : List A) (i : ℕ) (f g : A → A)
    → change_at (change_at xs i f) i g ≡ change_at xs i (λ x. g (f x))
twice [] i f g = refl
twice (x ∷ xs) zero f g = refl
twice (x ∷ xs) (suc i) f g = ap (λ ys. x ∷ ys) (twice xs i f g)

forgotten_placed : (shuffles : List ShuffleData) (p : Place) (loc : Loc) (epoch : ℕ)
    → with_output (with_output shuffles p forgotten) p (placed loc epoch)
    ≡ with_output shuffles p (placed loc epoch)
forgotten_placed shuffles p loc epoch =
    twice shuffles p.at (λ s. shuffle_data s.shuffle (change_at s.outputs p.map forgotten))
    (λ s. shuffle_data s.shuffle (change_at s.outputs p.map (placed loc epoch)))
    ∙ alike shuffles p.at
    (λ s. shuffle_data s.shuffle
    (change_at (change_at s.outputs p.map forgotten) p.map (placed loc epoch)))
    (λ s. shuffle_data s.shuffle (change_at s.outputs p.map (placed loc epoch)))
    (λ s. ap (shuffle_data s.shuffle) (twice s.outputs p.map forgotten (placed loc epoch)))

pub moved_listed : (shuffles : List ShuffleData) (l : ListsData) (p : Place) (loc old : Loc)
    (epoch : ℕ) → AreListed shuffles l → has_room_at shuffles p ≡ true
    → (output_at shuffles p).here ≡ Some old
    → AreListed (with_output shuffles p (placed loc epoch))
    (pushed loc.exec p (removed old.exec p l))
moved_listed shuffles l p loc old epoch are room is =
    subst (λ s. AreListed s (pushed loc.exec p (removed old.exec p l)))
    (forgotten_placed shuffles p loc epoch)
    (pushed_listed (with_output shuffles p forgotten) (removed old.exec p l)
    (by (cases_lt old.exec (length l.firsts))) p loc epoch
    (ap (λ (o : Output). o.here) (output_same shuffles p forgotten room)) still)
  where
    by : (old.exec < length l.firsts) ⊎ (length l.firsts ≤ old.exec)
        → AreListed (with_output shuffles p forgotten) (removed old.exec p l)
    by (inl within) = forgotten_listed shuffles l are p old is within
    by (inr past) =
        let outside : nat_lt old.exec (length l.firsts) ≡ false =
        grind (arith, nat_tests, past) in
        rw outside (forgotten_unlisted shuffles l are p old is past)

    still : has_room_at (with_output shuffles p forgotten) p ≡ true
    still =
        ap (nat_lt p.map) (sym (row_length l.rows (with_output shuffles p forgotten) p.at
        (are.linked ∙ sym (output_length shuffles p forgotten))) ∙ row_length l.rows shuffles p.at
        are.linked) ∙ room

-- ---- as many lists as before

pub pushed_many : (exec : ℕ) (p : Place) (l : ListsData)
    → length (pushed exec p l).firsts ≡ length l.firsts
pushed_many exec p l =
    let o = at_or l.firsts exec None in
    let own = lists_data l.firsts (with_item l.rows p (λ _. record { back = None; next = o })) in
    length_change_at (with_back o (Some p) own).firsts exec (λ _. Some p)
    ∙ ap length (back_firsts o (Some p) own)

pub removed_many : (exec : ℕ) (p : Place) (l : ListsData)
    → length (removed exec p l).firsts ≡ length l.firsts
removed_many exec p l = by (nat_lt exec (length l.firsts)) (is_none (back_at l.rows p))
  where
    cut : (unchained p l).firsts ≡ l.firsts
    cut =
        back_firsts (next_at l.rows p) (back_at l.rows p)
        (with_next (back_at l.rows p) (next_at l.rows p) l)
        ∙ next_firsts (back_at l.rows p) (next_at l.rows p) l

    by : (a b : Bool)
        → length (if a then (if b then with_first exec (next_at l.rows p) (unchained p l)
        else unchained p l) else l).firsts ≡ length l.firsts
    by true true =
        length_change_at (unchained p l).firsts exec (λ _. next_at l.rows p) ∙ ap length cut
    by true false = ap length cut
    by false b = refl

-- ---- what there is no room for changes nothing

pub no_room : (shuffles : List ShuffleData) (p : Place) (f : Output → Output)
    → has_room_at shuffles p ≡ false → with_output shuffles p f ≡ shuffles
no_room shuffles p f e = by shuffles p.at e
  where
    by : (xs : List ShuffleData) (i : ℕ)
        → nat_lt p.map (length (at_or (map (λ s. s.outputs) xs) i [])) ≡ false
        → change_at xs i (λ s. shuffle_data s.shuffle (change_at s.outputs p.map f)) ≡ xs
    by [] i e = refl
    by (x ∷ xs) zero e =
        let past : length x.outputs ≤ p.map = grind (arith, nat_tests, e) in
        ap (λ os. shuffle_data x.shuffle os ∷ xs) (change_at_past x.outputs p.map f past)
    by (x ∷ xs) (suc i) e = ap (λ ys. x ∷ ys) (by xs i e)
