-- Lists of a tracker that begins, has room for one more shuffle, or forgets outputs.
use Rattle.std.proofs.Common.{◌≡◌, ◌⊎◌, inl, inr, ℕ, ◌<◌, Bool, true, false, if◌then◌else◌, List, [], ◌∷◌, ◌++◌, Option, None, length, map, replicate, refl, ap, sym, subst, ◌∙◌}
use Rattle.std.proofs.lemmas.Bool.{cases_eq}
use Rattle.std.proofs.lemmas.List.{length-map, length-replicate, map-append}
use Rattle.sc_base.specs.Lists.{at_or}
use Rattle.sc_ids.specs.Changes.{change_at}
use Rattle.sc_ids.proofs.ChangeLemmas.{at_or_change_other, at_or_change_same, length_change_at}
use Rattle.sc_tracker.specs.Lists.{AreListed, IsList, ListsData, back_at, lists_data, next_at, output_at, unlinked, with_first}
use Rattle.sc_tracker.specs.Outputs.{forgotten, forgotten_on, is_on, never}
use Rattle.sc_tracker.specs.TrackerData.{ShuffleData}
use Rattle.sc_tracker.specs.Tracking.{with_forgotten_on}
use Rattle.sc_tracker.specs.declared.links.Link.{Link}
use Rattle.sc_tracker.specs.declared.links.Place.{Place}
use Rattle.sc_tracker.specs.declared.outputs.Output.{Output}
use Rattle.sc_tracker.proofs.ItemLemmas.{item_more, on_one, output_mapped, output_more}
use Rattle.sc_tracker.proofs.LinkLemmas.{links_same}

abbrev nowhere : Option Place
nowhere = None

empty_list : (shuffles : List ShuffleData) (rows : List (List Link)) (exec : ℕ)
    (first : Option Place) → first ≡ None
    → ((p : Place) → is_on exec (output_at shuffles p).here ≡ false)
    → IsList shuffles rows exec first
empty_list shuffles rows exec first is none =
    record { places = []; linked = is; once = tt; exactly = λ p. sym (none p) }

pub more_listed : (shuffles : List ShuffleData) (l : ListsData) (s : ShuffleData) (n : ℕ)
    → s.outputs ≡ replicate n never → AreListed shuffles l
    → AreListed (shuffles ++ s ∷ [])
    (lists_data l.firsts (l.rows ++ replicate n unlinked ∷ []))
more_listed shuffles l s n is are =
    record {
      each = λ exec within. (let list = are.each exec within in record {
        places = list.places;
        linked = links_same (next_at l.rows) (back_at l.rows) (next_at rows) (back_at rows) None
            (at_or l.firsts exec None) list.places
            (λ q h. (
              ap (λ (k : Link). k.next) (item_more l.rows n q unlinked),
              ap (λ (k : Link). k.back) (item_more l.rows n q unlinked),
            )) list.linked;
        once = list.once;
        exactly = λ q. list.exactly q
            ∙ sym (ap (λ (o : Output). is_on exec o.here) (output_more shuffles s n q is));
      });
      linked = map-append (λ row. length row) l.rows (replicate n unlinked ∷ [])
          ∙ ap (λ ns. ns ++ length (replicate n unlinked) ∷ []) are.linked
          ∙ ap (λ m. map (λ x. length x.outputs) shuffles ++ m ∷ []) lengths
          ∙ sym (map-append (λ x. length x.outputs) shuffles (s ∷ []));
    }
  where
    rows : List (List Link)
    rows = l.rows ++ replicate n unlinked ∷ []

    lengths : length (replicate n unlinked) ≡ length s.outputs
    lengths = length-replicate n unlinked ∙ sym (ap length is ∙ length-replicate n never)

-- ---- the lists of a tracker that has forgotten one executor's outputs

pub lost_listed : (shuffles : List ShuffleData) (l : ListsData) (exec : ℕ)
    → AreListed shuffles l
    → AreListed (map (with_forgotten_on exec) shuffles) (with_first exec None l)
lost_listed shuffles l exec are =
    record {
      each = λ other within. by other (rw (length_change_at l.firsts exec (λ _. nowhere)) at within)
          (cases_eq other exec);
      linked = are.linked ∙ lengths shuffles;
    }
  where
    lengths : (xs : List ShuffleData)
        → map (λ s. length s.outputs) xs
        ≡ map (λ s. length s.outputs) (map (with_forgotten_on exec) xs)
    lengths [] = refl
    lengths (x ∷ xs) =
        ap (λ n. n ∷ map (λ s. length s.outputs) xs)
        (sym (length-map x.outputs (forgotten_on exec)))
        ∙ ap (λ ns. length (map (forgotten_on exec) x.outputs) ∷ ns) (lengths xs)

    on_it : (o : Output) → is_on exec (forgotten_on exec o).here ≡ false
    on_it o = decided (is_on exec o.here) refl
      where
        decided : (b : Bool) → is_on exec o.here ≡ b
            → is_on exec (if b then forgotten o else o).here ≡ false
        decided true e = refl
        decided false e = e

    on_other : (other : ℕ) → (other ≡ exec → ⊥) → (o : Output)
        → is_on other (forgotten_on exec o).here ≡ is_on other o.here
    on_other other ne o = decided (is_on exec o.here) refl
      where
        decided : (b : Bool) → is_on exec o.here ≡ b
            → is_on other (if b then forgotten o else o).here ≡ is_on other o.here
        decided true e = kept (is_on other o.here) refl
          where
            kept : (c : Bool) → is_on other o.here ≡ c → false ≡ c
            kept true f = absurd (ne (on_one other exec o.here f e))
            kept false f = refl
        decided false e = refl

    by : (other : ℕ) → other < length l.firsts → (other ≡ exec) ⊎ (other ≡ exec → ⊥)
        → IsList (map (with_forgotten_on exec) shuffles) l.rows other
        (at_or (change_at l.firsts exec (λ _. nowhere)) other None)
    by other within (inl is) =
        subst (λ n. IsList (map (with_forgotten_on exec) shuffles) l.rows n
        (at_or (change_at l.firsts exec (λ _. nowhere)) n None)) (sym is)
        (empty_list (map (with_forgotten_on exec) shuffles) l.rows exec
        (at_or (change_at l.firsts exec (λ _. nowhere)) exec None)
        (at_or_change_same l.firsts exec None (λ _. nowhere)
        (subst (λ n. n < length l.firsts) is within))
        (λ p. ap (λ (o : Output). is_on exec o.here)
        (output_mapped shuffles p (forgotten_on exec) refl) ∙ on_it (output_at shuffles p)))
    by other within (inr ne) =
        subst (IsList (map (with_forgotten_on exec) shuffles) l.rows other)
        (sym (at_or_change_other l.firsts exec other None (λ _. nowhere) ne))
        (let list = are.each other within in record {
          places = list.places;
          linked = list.linked;
          once = list.once;
          exactly = λ p. list.exactly p
              ∙ sym (ap (λ (o : Output). is_on other o.here)
              (output_mapped shuffles p (forgotten_on exec) refl)
              ∙ on_other other ne (output_at shuffles p));
        })
