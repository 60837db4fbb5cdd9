-- Going through the list of an executor, whose outputs are forgotten one by one.
use Rattle.std.proofs.Common.{◌≡◌, ℕ, zero, suc, ◌+◌, ◌<◌, ◌||◌, Bool, true, false, cond, List, [], ◌∷◌, Option, Some, None, length, map, refl, ap, sym, subst, ◌∙◌, arith, rules, true≢false}
use Rattle.std.proofs.lemmas.List.Sums.{sum_by-cons}
use Rattle.std.specs.List.{count_by}
use Rattle.sc_base.specs.Lists.{at_or}
use Rattle.sc_ids.specs.Changes.{change_at}
use Rattle.sc_tracker.specs.Lists.{AreLinked, AreOnce, back_at, has_place, is_same, next_at, output_at, with_one_forgotten, with_output}
use Rattle.sc_tracker.specs.Outputs.{forgotten, forgotten_on, is_on, never}
use Rattle.sc_tracker.specs.TrackerData.{ShuffleData, registered_on, shuffle_data}
use Rattle.sc_tracker.specs.Tracking.{with_forgotten_on}
use Rattle.sc_tracker.specs.declared.links.Link.{Link}
use Rattle.sc_tracker.specs.declared.links.Place.{Place}
use Rattle.sc_tracker.specs.declared.outputs.Output.{Output}
use Rattle.sc_tracker.proofs.CountLemmas.{count_change, count_cons, passes_within}
use Rattle.sc_tracker.proofs.ItemLemmas.{has_room_on, output_other, output_same}
use Rattle.sc_tracker.proofs.LinkLemmas.{in_front, same_place}

-- ---- what is still to be gone through

-- The list of an executor from one output on, where those before it are forgotten: going on leaves
-- what it leaves from the first one on, and each output that is left is one step more.
pub record IsRest (before now : List ShuffleData) (rows : List (List Link)) (exec : ℕ)
    (next : Option Place) (taken : ℕ) : Type 0 where
  pub front : Option Place
  pub places : List Place
  pub linked : AreLinked (next_at rows) (back_at rows) front next places
  pub once : AreOnce places
  pub exactly : (p : Place) → has_place places p ≡ is_on exec (output_at now p).here
  pub same : map (with_forgotten_on exec) now ≡ map (with_forgotten_on exec) before
  pub counted : taken + registered_on now exec ≡ registered_on before exec

-- ---- one step

view_kept_at : {A B : Type 0} (v : A → B) (f : A → A) (xs : List A) (i : ℕ) (d : A)
    → (i < length xs → v (f (at_or xs i d)) ≡ v (at_or xs i d))
    → map v (change_at xs i f) ≡ map v xs
view_kept_at v f [] i d h = refl
view_kept_at v f (x ∷ xs) zero d h = ap (λ y. y ∷ map v xs) (h (omega arith))
view_kept_at v f (x ∷ xs) (suc i) d h =
    ap (λ ys. v x ∷ ys) (view_kept_at v f xs i d (λ l. h (omega (arith, l))))

abbrev no_shuffle : ShuffleData
no_shuffle = shuffle_data (record { node = 0; side = 0 }) []

outputs_there : (shuffles : List ShuffleData) (i : ℕ)
    → at_or (map (λ s. s.outputs) shuffles) i [] ≡ (at_or shuffles i no_shuffle).outputs
outputs_there [] i = refl
outputs_there (s ∷ shuffles) zero = refl
outputs_there (s ∷ shuffles) (suc i) = outputs_there shuffles i

is_on_at : (shuffles : List ShuffleData) (exec : ℕ) (p : Place)
    → is_on exec (output_at shuffles p).here ≡ true
    → is_on exec (at_or (at_or shuffles p.at no_shuffle).outputs p.map never).here ≡ true
is_on_at shuffles exec p on =
    subst (λ os. is_on exec (at_or os p.map never).here ≡ true) (outputs_there shuffles p.at) on

forgotten_twice : (exec : ℕ) (o : Output) → is_on exec o.here ≡ true
    → forgotten_on exec (forgotten o) ≡ forgotten_on exec o
forgotten_twice exec o on = rw on refl

pub same_rest : (shuffles : List ShuffleData) (exec : ℕ) (p : Place)
    → is_on exec (output_at shuffles p).here ≡ true
    → map (with_forgotten_on exec) (with_output shuffles p forgotten)
    ≡ map (with_forgotten_on exec) shuffles
same_rest shuffles exec p on =
    view_kept_at (with_forgotten_on exec) (with_one_forgotten p.map) shuffles p.at no_shuffle
    (λ within. ap (shuffle_data (at_or shuffles p.at no_shuffle).shuffle)
    (view_kept_at (forgotten_on exec) forgotten (at_or shuffles p.at no_shuffle).outputs p.map
    never (λ l. forgotten_twice exec
    (at_or (at_or shuffles p.at no_shuffle).outputs p.map never)
    (is_on_at shuffles exec p on))))

-- one output less is registered there
abbrev on : ℕ → Output → Bool
on exec o = is_on exec o.here

sum_less : (exec : ℕ) (shuffles : List ShuffleData) (i m : ℕ)
    → on exec (at_or (at_or shuffles i no_shuffle).outputs m never) ≡ true
    → registered_on (change_at shuffles i (with_one_forgotten m)) exec + 1
    ≡ registered_on shuffles exec
sum_less exec [] i m e = absurd (true≢false (sym e))
sum_less exec (s ∷ shuffles) zero m e =
    rw (
      sum_by-cons (λ x. count_by (on exec) x.outputs) (with_one_forgotten m s) shuffles,
      sum_by-cons (λ x. count_by (on exec) x.outputs) s shuffles,
    )
    (let less = count_change (on exec) forgotten s.outputs m never
    (passes_within (on exec) s.outputs m never refl e) false (λ x. refl) in
    omega (arith, rw e at less))
sum_less exec (s ∷ shuffles) (suc i) m e =
    rw (
      sum_by-cons (λ x. count_by (on exec) x.outputs) s
          (change_at shuffles i (with_one_forgotten m)),
      sum_by-cons (λ x. count_by (on exec) x.outputs) s shuffles,
    )
    (let less = sum_less exec shuffles i m e in omega (arith, less))

pub one_less : (shuffles : List ShuffleData) (exec : ℕ) (p : Place)
    → is_on exec (output_at shuffles p).here ≡ true
    → registered_on (with_output shuffles p forgotten) exec + 1 ≡ registered_on shuffles exec
one_less shuffles exec p e = sum_less exec shuffles p.at p.map (is_on_at shuffles exec p e)

-- the output that comes next is registered there
pub next_is_on : (before now : List ShuffleData) (rows : List (List Link)) (exec : ℕ) (p : Place)
    (taken : ℕ) → IsRest before now rows exec (Some p) taken
    → is_on exec (output_at now p).here ≡ true
next_is_on before now rows exec p taken rest = by rest.places rest.linked (rest.exactly p)
  where
    by : (places : List Place)
        → AreLinked (next_at rows) (back_at rows) rest.front (Some p) places
        → has_place places p ≡ is_on exec (output_at now p).here
        → is_on exec (output_at now p).here ≡ true
    by [] linked e = absurd (search (rules, linked))
    by (x ∷ places) linked e =
        let is : p ≡ x = search (rules, linked.0) in
        sym e ∙ subst (λ r. has_place (x ∷ places) r ≡ true) (sym is) (in_front x places)

pub rest_forgotten : (before now : List ShuffleData) (rows : List (List Link)) (exec : ℕ)
    (p : Place) (taken : ℕ) → IsRest before now rows exec (Some p) taken
    → IsRest before (with_output now p forgotten) rows exec (next_at rows p) (taken + 1)
rest_forgotten before now rows exec p taken rest =
    by rest.places rest.linked rest.once rest.exactly
  where
    on_it : is_on exec (output_at now p).here ≡ true
    on_it = next_is_on before now rows exec p taken rest

    gone : is_on exec (output_at (with_output now p forgotten) p).here ≡ false
    gone = ap (λ (o : Output). is_on exec o.here)
        (output_same now p forgotten (has_room_on now p exec on_it))

    by : (places : List Place)
        → AreLinked (next_at rows) (back_at rows) rest.front (Some p) places
        → AreOnce places
        → ((q : Place) → has_place places q ≡ is_on exec (output_at now q).here)
        → IsRest before (with_output now p forgotten) rows exec (next_at rows p) (taken + 1)
    by [] linked once exactly = absurd (search (rules, linked))
    by (x ∷ places) linked once exactly =
        let is : x ≡ p = search (rules, linked.0) in
        record {
          front = Some p;
          places = places;
          linked = subst (λ r. AreLinked (next_at rows) (back_at rows) (Some r) (next_at rows r)
              places) is linked.2;
          once = once.1;
          exactly = λ q. left is q (is_same p q) refl;
          same = same_rest now exec p on_it ∙ rest.same;
          counted = let less = one_less now exec p on_it in
              let had = rest.counted in omega (arith, less, had);
        }
      where
        left : x ≡ p → (q : Place) (b : Bool) → is_same p q ≡ b
            → has_place places q
            ≡ is_on exec (output_at (with_output now p forgotten) q).here
        left is q true e =
            subst (λ r. has_place places r
            ≡ is_on exec (output_at (with_output now p forgotten) r).here) (same_place p q e)
            (subst (λ r. has_place places r ≡ false) is once.0 ∙ sym gone)
        left is q false e =
            let front : is_same x q ≡ false = subst (λ r. is_same r q ≡ false) (sym is) e in
            sym (ap (λ b. b || has_place places q) front) ∙ exactly q
            ∙ sym (ap (λ (o : Output). is_on exec o.here) (output_other now p q forgotten e))

-- ---- the end

none_kept : (exec : ℕ) (os : List Output)
    → ((m : ℕ) → is_on exec (at_or os m never).here ≡ false)
    → map (forgotten_on exec) os ≡ os
none_kept exec [] none = refl
none_kept exec (o ∷ os) none =
    let first : forgotten_on exec o ≡ o = rw (none 0) refl in
    ap (λ x. x ∷ map (forgotten_on exec) os) first
    ∙ ap (λ xs. o ∷ xs) (none_kept exec os (λ m. none (suc m)))

none_counted : (exec : ℕ) (os : List Output)
    → ((m : ℕ) → is_on exec (at_or os m never).here ≡ false) → count_by (on exec) os ≡ 0
none_counted exec [] none = refl
none_counted exec (o ∷ os) none =
    let first : count_by (on exec) (o ∷ os) ≡ cond false 1 0 + count_by (on exec) os =
    subst (λ b. count_by (on exec) (o ∷ os) ≡ cond b 1 0 + count_by (on exec) os) (none 0)
    (count_cons (on exec) o os) in
    let more = none_counted exec os (λ m. none (suc m)) in
    omega (arith, first, more)

abbrev place : ℕ → ℕ → Place
place at map = record { at = at; map = map }

all_kept : (exec : ℕ) (shuffles : List ShuffleData)
    → ((p : Place) → is_on exec (output_at shuffles p).here ≡ false)
    → (map (with_forgotten_on exec) shuffles ≡ shuffles) × (registered_on shuffles exec ≡ 0)
all_kept exec [] none = (refl, refl)
all_kept exec (s ∷ shuffles) none =
    let more = all_kept exec shuffles (λ p. none (place (suc p.at) p.map)) in
    let here : (m : ℕ) → is_on exec (at_or s.outputs m never).here ≡ false =
    λ m. none (place 0 m) in (
      ap (λ os. shuffle_data s.shuffle os ∷ map (with_forgotten_on exec) shuffles)
          (none_kept exec s.outputs here)
          ∙ ap (λ xs. s ∷ xs) more.0,
      sum_by-cons (λ x. count_by (on exec) x.outputs) s shuffles
          ∙ (let a = none_counted exec s.outputs here in
          let b = more.1 in omega (arith, a, b)),
    )

pub rest_none : (before now : List ShuffleData) (rows : List (List Link)) (exec taken : ℕ)
    → IsRest before now rows exec None taken
    → (now ≡ map (with_forgotten_on exec) before) × (taken ≡ registered_on before exec)
rest_none before now rows exec taken rest =
    by rest.places rest.linked rest.exactly
  where
    by : (places : List Place)
        → AreLinked (next_at rows) (back_at rows) rest.front None places
        → ((p : Place) → has_place places p ≡ is_on exec (output_at now p).here)
        → (now ≡ map (with_forgotten_on exec) before) × (taken ≡ registered_on before exec)
    by (x ∷ places) linked exactly = absurd (search (rules, linked.0))
    by [] linked exactly =
        let end = all_kept exec now (λ p. sym (exactly p)) in (
          sym end.0 ∙ rest.same,
          (let had = rest.counted in let none = end.1 in omega (arith, had, none)),
        )
