-- Lists of outputs, where an output is forgotten.
use Rattle.std.proofs.Common.{◌≡◌, ◌⊎◌, inl, inr, ℕ, ◌<◌, ◌≤◌, ◌==◌, Bool, true, false, if◌then◌else◌, List, Option, Some, None, is_none, length, map, nat_lt, refl, ap, sym, subst, ◌∙◌, arith, rules}
use Rattle.std.proofs.lemmas.Bool.{cases_eq}
use Rattle.std.proofs.lemmas.Bool.Decides.{nat_tests}
use Rattle.sc_base.specs.Lists.{at_or}
use Rattle.sc_ids.specs.Changes.{change_at}
use Rattle.sc_ids.specs.declared.blocks.Loc.{Loc}
use Rattle.sc_ids.proofs.ChangeLemmas.{at_or_change_other, at_or_change_same, length_change_at}
use Rattle.sc_tracker.specs.Lists.{AreListed, IsList, ListsData, back_at, has_place, has_room_at, is_same, lists_data, next_at, output_at, removed, unchained, with_first, with_next, with_output}
use Rattle.sc_tracker.specs.Outputs.{forgotten, is_on}
use Rattle.sc_tracker.specs.TrackerData.{ShuffleData}
use Rattle.sc_tracker.specs.declared.links.Link.{Link}
use Rattle.sc_tracker.specs.declared.links.Place.{Place}
use Rattle.sc_tracker.specs.declared.outputs.Output.{Output}
use Rattle.sc_tracker.proofs.ItemLemmas.{has_room_on, on_one, output_other, output_same}
use Rattle.sc_tracker.proofs.LinkLemmas.{Unlinks, back_in, before_in, clash, has_gone, has_without, head_back, links_removed, links_same, next_in, once_without, same_place, without_place}
use Rattle.sc_tracker.proofs.LinkChanges.{HasLink, back_back, back_firsts, back_keep, back_length, back_next, decide, has_link, next_back, next_firsts, next_keep, next_length, next_next, output_length}

-- ---- an output is forgotten

module _ (shuffles : List ShuffleData) (l : ListsData) (are : AreListed shuffles l)
    (p : Place) (old : Loc) (here : (output_at shuffles p).here ≡ Some old) where
  abbrev after : List ShuffleData
  after = with_output shuffles p forgotten

  there : has_room_at shuffles p ≡ true
  there = has_room_on shuffles p old.exec (rw here itself)
    where
      itself : (old.exec == old.exec) ≡ true
      itself = grind (arith, nat_tests)

  gone : (exec : ℕ) → is_on exec (output_at after p).here ≡ false
  gone exec = ap (λ (o : Output). is_on exec o.here) (output_same shuffles p forgotten there)

  kept : (exec : ℕ) (q : Place) → is_same p q ≡ false
      → is_on exec (output_at after q).here ≡ is_on exec (output_at shuffles q).here
  kept exec q apart =
      ap (λ (o : Output). is_on exec o.here) (output_other shuffles p q forgotten apart)

  -- on another executor nothing is
  elsewhere : (exec : ℕ) → (exec ≡ old.exec → ⊥) → (q : Place)
      → is_on exec (output_at after q).here ≡ is_on exec (output_at shuffles q).here
  elsewhere exec ne q = by (is_same p q) refl
    where
      other : (old.exec == exec) ≡ false
      other = by (old.exec == exec) refl
        where
          by : (b : Bool) → (old.exec == exec) ≡ b → b ≡ false
          by true e = absurd (ne (grind (arith, nat_tests, e)))
          by false e = refl

      by : (b : Bool) → is_same p q ≡ b
          → is_on exec (output_at after q).here ≡ is_on exec (output_at shuffles q).here
      by true e =
          subst (λ r. is_on exec (output_at after r).here ≡ is_on exec (output_at shuffles r).here)
          (same_place p q e)
          (gone exec ∙ sym (ap (is_on exec) here ∙ other))
      by false e = kept exec q e

  -- its executor has no list
  pub forgotten_unlisted : length l.firsts ≤ old.exec → AreListed after l
  forgotten_unlisted past =
      record {
        each = λ exec lt. (let list = are.each exec lt in record {
          places = list.places;
          linked = list.linked;
          once = list.once;
          exactly = λ q. list.exactly q
              ∙ sym (elsewhere exec (λ e. absurd (omega (arith, lt, past, e))) q);
        });
        linked = are.linked ∙ sym (output_length shuffles p forgotten);
      }

  module _ (lt : old.exec < length l.firsts) where
    abbrev list : IsList shuffles l.rows old.exec (at_or l.firsts old.exec None)
    list = are.each old.exec lt

    in_list : has_place list.places p ≡ true
    in_list = list.exactly p ∙ ap (is_on old.exec) here ∙ itself
      where
        itself : (old.exec == old.exec) ≡ true
        itself = grind (arith, nat_tests)

    abbrev cut : ListsData
    cut = unchained p l

    abbrev half : ListsData
    half = with_next (back_at l.rows p) (next_at l.rows p) l

    link_there : (q : Place) (exec : ℕ) → is_on exec (output_at shuffles q).here ≡ true
        → HasLink l.rows q
    link_there q exec on =
        has_link l.rows shuffles q are.linked (has_room_on shuffles q exec on)

    half_there : (q : Place) (exec : ℕ) → is_on exec (output_at shuffles q).here ≡ true
        → HasLink half.rows q
    half_there q exec on =
        has_link half.rows shuffles q
        (next_length (back_at l.rows p) (next_at l.rows p) l ∙ are.linked)
        (has_room_on shuffles q exec on)

    -- what is before it and behind it is in its list
    before_listed : (q : Place) → back_at l.rows p ≡ Some q → has_place list.places q ≡ true
    before_listed q is = by (decide (at_or l.firsts old.exec None) p)
      where
        by : (at_or l.firsts old.exec None ≡ Some p)
            ⊎ (at_or l.firsts old.exec None ≡ Some p → ⊥) → has_place list.places q ≡ true
        by (inl first) =
            absurd (search (
              rules,
              sym (head_back (next_at l.rows) (back_at l.rows) None
                  (at_or l.firsts old.exec None) list.places p list.linked first) ∙ is,
            ))
        by (inr later) =
            back_in (next_at l.rows) (back_at l.rows) None (at_or l.firsts old.exec None)
            list.places p q list.linked in_list later is

    behind_listed : (q : Place) → next_at l.rows p ≡ Some q → has_place list.places q ≡ true
    behind_listed q is =
        next_in (next_at l.rows) (back_at l.rows) None (at_or l.firsts old.exec None)
        list.places p q list.linked in_list is

    -- the links of outputs of another executor stay
    others_keep : (exec : ℕ) → (exec ≡ old.exec → ⊥) → (q : Place)
        → is_on exec (output_at shuffles q).here ≡ true
        → (next_at cut.rows q ≡ next_at l.rows q) × (back_at cut.rows q ≡ back_at l.rows q)
    others_keep exec ne q on = (
      back_next (next_at l.rows p) (back_at l.rows p) half q (half_there q exec on)
          ∙ ap (λ (k : Link). k.next)
          (next_keep (back_at l.rows p) (next_at l.rows p) l q
          (λ is. not_listed (before_listed q is))),
      ap (λ (k : Link). k.back)
          (back_keep (next_at l.rows p) (back_at l.rows p) half q
          (λ is. not_listed (behind_listed q is)))
          ∙ next_back (back_at l.rows p) (next_at l.rows p) l q (link_there q exec on),
    )
      where
        not_listed : has_place list.places q ≡ true → ⊥
        not_listed h =
            ne (on_one exec old.exec (output_at shuffles q).here on (sym (list.exactly q) ∙ h))

    unlinks : Unlinks (next_at l.rows) (back_at l.rows) (next_at cut.rows) (back_at cut.rows) p
        list.places
    unlinks =
        record {
          next_here = λ q h is.
              back_next (next_at l.rows p) (back_at l.rows p) half q (half_has q h)
              ∙ next_next (back_at l.rows p) (next_at l.rows p) l q (whole_has q h) is;
          next_other = λ q h ne.
              back_next (next_at l.rows p) (back_at l.rows p) half q (half_has q h)
              ∙ ap (λ (k : Link). k.next)
              (next_keep (back_at l.rows p) (next_at l.rows p) l q ne);
          back_here = λ q h is.
              back_back (next_at l.rows p) (back_at l.rows p) half q (half_has q h) is;
          back_other = λ q h ne.
              ap (λ (k : Link). k.back)
              (back_keep (next_at l.rows p) (back_at l.rows p) half q ne)
              ∙ next_back (back_at l.rows p) (next_at l.rows p) l q (whole_has q h);
        }
      where
        half_has : (q : Place) → has_place list.places q ≡ true → HasLink half.rows q
        half_has q h = half_there q old.exec (sym (list.exactly q) ∙ h)

        whole_has : (q : Place) → has_place list.places q ≡ true → HasLink l.rows q
        whole_has q h = link_there q old.exec (sym (list.exactly q) ∙ h)

    -- where an executor's list begins, once the output is taken out of one
    abbrev firsts : Bool → List (Option Place)
    firsts b = if b then change_at l.firsts old.exec (λ _. next_at l.rows p) else l.firsts

    begins : (b : Bool) → is_none (back_at l.rows p) ≡ b
        → (at_or l.firsts old.exec None ≡ Some p
        → at_or (firsts b) old.exec None ≡ next_at l.rows p)
        × ((at_or l.firsts old.exec None ≡ Some p → ⊥)
        → at_or (firsts b) old.exec None ≡ at_or l.firsts old.exec None)
    begins true e = (
      λ first. at_or_change_same l.firsts old.exec None (λ _. next_at l.rows p) lt,
      λ later. (let b = before_in (next_at l.rows) (back_at l.rows) None
          (at_or l.firsts old.exec None) list.places p list.linked in_list later in
          absurd (clash e (ap is_none b.1))),
    )
    begins false e = (
      λ first. absurd (clash (ap is_none (head_back (next_at l.rows) (back_at l.rows) None
          (at_or l.firsts old.exec None) list.places p list.linked first)) e),
      λ later. refl,
    )

    begins_other : (b : Bool) (exec : ℕ) → (exec ≡ old.exec → ⊥)
        → at_or (firsts b) exec None ≡ at_or l.firsts exec None
    begins_other true exec ne =
        at_or_change_other l.firsts old.exec exec None (λ _. next_at l.rows p) ne
    begins_other false exec ne = refl

    begins_many : (b : Bool) → length (firsts b) ≡ length l.firsts
    begins_many true = length_change_at l.firsts old.exec (λ _. next_at l.rows p)
    begins_many false = refl

    -- its list without it
    own_list : (b : Bool) → is_none (back_at l.rows p) ≡ b
        → IsList after cut.rows old.exec (at_or (firsts b) old.exec None)
    own_list b e =
        record {
          places = without_place p list.places;
          linked = links_removed (next_at l.rows) (back_at l.rows) (next_at cut.rows)
              (back_at cut.rows) p None (at_or l.firsts old.exec None)
              (at_or (firsts b) old.exec None) list.places list.once
              (λ x is. absurd (search (rules, is))) in_list list.linked
              (begins b e).0 (begins b e).1 unlinks;
          once = once_without p list.places list.once;
          exactly = λ q. by q (is_same p q) refl;
        }
      where
        by : (q : Place) (c : Bool) → is_same p q ≡ c
            → has_place (without_place p list.places) q
            ≡ is_on old.exec (output_at after q).here
        by q true same =
            subst (λ r. has_place (without_place p list.places) r
            ≡ is_on old.exec (output_at after r).here) (same_place p q same)
            (has_gone p list.places list.once ∙ sym (gone old.exec))
        by q false apart =
            has_without p q list.places apart ∙ list.exactly q ∙ sym (kept old.exec q apart)

    -- and the others
    other_list : (b : Bool) (exec : ℕ) → (exec ≡ old.exec → ⊥) → exec < length l.firsts
        → IsList after cut.rows exec (at_or (firsts b) exec None)
    other_list b exec ne within =
        subst (IsList after cut.rows exec) (sym (begins_other b exec ne))
        (record {
          places = other.places;
          linked = links_same (next_at l.rows) (back_at l.rows) (next_at cut.rows)
              (back_at cut.rows) None (at_or l.firsts exec None) other.places
              (λ q h. others_keep exec ne q (sym (other.exactly q) ∙ h)) other.linked;
          once = other.once;
          exactly = λ q. other.exactly q ∙ sym (elsewhere exec ne q);
        })
      where
        other : IsList shuffles l.rows exec (at_or l.firsts exec None)
        other = are.each exec within

    each_list : (b : Bool) → is_none (back_at l.rows p) ≡ b → (exec : ℕ)
        → exec < length (firsts b)
        → IsList after cut.rows exec (at_or (firsts b) exec None)
    each_list b e exec within = by (cases_eq exec old.exec)
      where
        by : (exec ≡ old.exec) ⊎ (exec ≡ old.exec → ⊥)
            → IsList after cut.rows exec (at_or (firsts b) exec None)
        by (inl is) =
            subst (λ n. IsList after cut.rows n (at_or (firsts b) n None)) (sym is)
            (own_list b e)
        by (inr ne) =
            other_list b exec ne (let many = begins_many b in omega (arith, within, many))

    cut_firsts : cut.firsts ≡ l.firsts
    cut_firsts =
        back_firsts (next_at l.rows p) (back_at l.rows p) half
        ∙ next_firsts (back_at l.rows p) (next_at l.rows p) l

    cut_lengths : map (λ row. length row) cut.rows ≡ map (λ s. length s.outputs) after
    cut_lengths =
        back_length (next_at l.rows p) (back_at l.rows p) half
        ∙ next_length (back_at l.rows p) (next_at l.rows p) l
        ∙ are.linked ∙ sym (output_length shuffles p forgotten)

    with_firsts : (b : Bool) → AreListed after (lists_data (firsts b) cut.rows)
        → AreListed after (if b then with_first old.exec (next_at l.rows p) cut else cut)
    with_firsts true are' =
        subst (λ fs. AreListed after (lists_data (change_at fs old.exec (λ _. next_at l.rows p))
        cut.rows)) (sym cut_firsts) are'
    with_firsts false are' =
        subst (λ fs. AreListed after (lists_data fs cut.rows)) (sym cut_firsts) are'

    pub forgotten_listed : AreListed after (removed old.exec p l)
    forgotten_listed =
        rw inside (with_firsts (is_none (back_at l.rows p))
        (record {
          each = each_list (is_none (back_at l.rows p)) refl;
          linked = cut_lengths;
        }))
      where
        inside : nat_lt old.exec (length l.firsts) ≡ true
        inside = grind (arith, nat_tests, lt)
