-- Executors that a row leaves, and one that it comes to.
use Rattle.std.proofs.Common.{◌≡◌, ℕ, ◌<◌, ◌==◌, ◌⊎◌, ◌↔◌, inl, inr, Bool, true, false, ◌||◌, List, [], ◌∷◌, ◌++◌, Option, Some, None, length, get_or, set, map, refl, ap, sym, subst, ◌∙◌, arith, rules, true≢false}
use Rattle.std.proofs.lemmas.Bool.{cases_eq}
use Rattle.std.proofs.lemmas.Bool.Decides.{nat_tests}
use Rattle.std.proofs.lemmas.List.{length-map, map-set}
use Rattle.std.specs.List.{list_any}
use Rattle.std.specs.Option.{option_map, option_to_list}
use Rattle.sc_base.specs.Lists.{at_or}
use Rattle.sc_taskset.specs.Lists.{AreListed, HasLeft, HaveLeft, IsAdded, IsListOf, IsOnFewer, IsOnOneMore, IsWithout, is_row_on, list_of}
use Rattle.sc_taskset.specs.Lookups.{is_finish_on}
use Rattle.sc_taskset.specs.Looks.{is_copy_on}
use Rattle.sc_taskset.specs.declared.lists.Lists.{Lists}
use Rattle.sc_taskset.specs.declared.rows.Row.{Row}
use Rattle.sc_taskset.specs.declared.tasks.RunningCopy.{RunningCopy}
use Rattle.sc_taskset.proofs.MarkLemmas.{at_here}
use Rattle.sc_taskset.proofs.PlaceLemmas.{flag_same, list_less, list_more, without_twice}

-- ---- executors

-- an executor is one that may be there, or isn't
is_some : (x : Option ℕ) (e : ℕ) → (x ≡ Some e) ⊎ (x ≡ Some e → ⊥)
is_some None e = inr (λ q. absurd (search (rules, q)))
is_some (Some y) e = by (cases_eq y e)
  where
    by : (y ≡ e) ⊎ (y ≡ e → ⊥) → (Some y ≡ Some e) ⊎ (Some y ≡ Some e → ⊥)
    by (inl q) = inl (ap Some q)
    by (inr n) = inr (λ q. n (search (rules, q)))

abbrev pub exec_in : Option RunningCopy → Option ℕ
exec_in copy = option_map (λ c. c.exec) copy

-- a row is on the executors of its attempts
on_first : (e : ℕ) (f : Bool) (first second : Option RunningCopy) → exec_in first ≡ Some e
    → (f || list_any (is_copy_on e) (option_to_list first ++ option_to_list second)) ≡ true
on_first e true first second is = refl
on_first e false None second is = absurd (search (rules, is))
on_first e false (Some c) second is =
    let here : (c.exec == e) ≡ true =
    (let same : c.exec ≡ e = search (rules, is) in grind (arith, nat_tests, same)) in
    rw here refl

on_second : (e : ℕ) (f : Bool) (first second : Option RunningCopy) → exec_in second ≡ Some e
    → (f || list_any (is_copy_on e) (option_to_list first ++ option_to_list second)) ≡ true
on_second e true first second is = refl
on_second e false first None is = absurd (search (rules, is))
on_second e false None (Some c) is =
    let here : (c.exec == e) ≡ true =
    (let same : c.exec ≡ e = search (rules, is) in grind (arith, nat_tests, same)) in
    rw here refl
on_second e false (Some d) (Some c) is =
    let here : (c.exec == e) ≡ true =
    (let same : c.exec ≡ e = search (rules, is) in grind (arith, nat_tests, same)) in
    rw here (or_true (d.exec == e))
  where
    or_true : (b : Bool) → (b || true) ≡ true
    or_true true = refl
    or_true false = refl

-- and on no others
off_others : (e : ℕ) (first second : Option RunningCopy) → (exec_in first ≡ Some e → ⊥)
    → (exec_in second ≡ Some e → ⊥)
    → list_any (is_copy_on e) (option_to_list first ++ option_to_list second) ≡ false
off_others e None None m n = refl
off_others e None (Some d) m n = one d n
  where
    one : (c : RunningCopy) → (Some c.exec ≡ Some e → ⊥) → ((c.exec == e) || false) ≡ false
    one c not = by (c.exec == e) refl
      where
        by : (b : Bool) → (c.exec == e) ≡ b → (b || false) ≡ false
        by true q = absurd (not (ap Some (grind (arith, nat_tests, q))))
        by false q = refl
off_others e (Some c) None m n = one c m
  where
    one : (d : RunningCopy) → (Some d.exec ≡ Some e → ⊥) → ((d.exec == e) || false) ≡ false
    one d not = by (d.exec == e) refl
      where
        by : (b : Bool) → (d.exec == e) ≡ b → (b || false) ≡ false
        by true q = absurd (not (ap Some (grind (arith, nat_tests, q))))
        by false q = refl
off_others e (Some c) (Some d) m n = by (c.exec == e) (d.exec == e) refl refl
  where
    by : (a b : Bool) → (c.exec == e) ≡ a → (d.exec == e) ≡ b → (a || (b || false)) ≡ false
    by true b p q = absurd (m (ap Some (grind (arith, nat_tests, p))))
    by false true p q = absurd (n (ap Some (grind (arith, nat_tests, q))))
    by false false p q = refl

-- ---- leaving

module _ (a b c d : Lists) (place : ℕ) (before row : Row) (finisher : Option ℕ)
    (finished : (e : ℕ) → (is_finish_on e before.finish ≡ true) ↔ (finisher ≡ Some e))
    (one : HasLeft a b finisher place row) (two : HasLeft b c (exec_in before.first) place row)
    (three : HasLeft c d (exec_in before.second) place row) where
  step : (old new : Lists) (x : Option ℕ) → HasLeft old new x place row → (e : ℕ)
      → is_row_on e row ≡ false
      → IsWithout (list_of old e) (list_of new e) place ⊎ (list_of new e ≡ list_of old e)
  step old new x left e off = by (is_some x e)
    where
      by : (x ≡ Some e) ⊎ (x ≡ Some e → ⊥)
          → IsWithout (list_of old e) (list_of new e) place ⊎ (list_of new e ≡ list_of old e)
      by (inl is) = inl (left.here e is off)
      by (inr not) = inr (left.others e (λ is. absurd (not is)))

  and_then : (p q r : List ℕ) → IsWithout p q place → IsWithout q r place ⊎ (r ≡ q)
      → IsWithout p r place
  and_then p q r without (inl more) = without_twice p q r place without more
  and_then p q r without (inr same) = subst (λ s. IsWithout p s place) (sym same) without

  off_finish : (e : ℕ) → (finisher ≡ Some e → ⊥) → (f : Bool)
      → is_finish_on e before.finish ≡ f → f ≡ false
  off_finish e not true is = absurd (not ((finished e).0 is))
  off_finish e not false is = refl

  gone : (e : ℕ) → is_row_on e before ≡ true → is_row_on e row ≡ false
      → IsWithout (list_of a e) (list_of d e) place
  gone e on off =
      by (is_some finisher e) (is_some (exec_in before.first) e)
      (is_some (exec_in before.second) e)
    where
      by : (finisher ≡ Some e) ⊎ (finisher ≡ Some e → ⊥)
          → (exec_in before.first ≡ Some e) ⊎ (exec_in before.first ≡ Some e → ⊥)
          → (exec_in before.second ≡ Some e) ⊎ (exec_in before.second ≡ Some e → ⊥)
          → IsWithout (list_of a e) (list_of d e) place
      by (inl x) y z =
          and_then (list_of a e) (list_of c e) (list_of d e)
          (and_then (list_of a e) (list_of b e) (list_of c e) (one.here e x off)
          (step b c (exec_in before.first) two e off))
          (step c d (exec_in before.second) three e off)
      by (inr x) (inl y) z =
          subst (λ s. IsWithout s (list_of d e) place) (one.others e (λ is. absurd (x is)))
          (and_then (list_of b e) (list_of c e) (list_of d e) (two.here e y off)
          (step c d (exec_in before.second) three e off))
      by (inr x) (inr y) (inl z) =
          subst (λ s. IsWithout s (list_of d e) place)
          (two.others e (λ is. absurd (y is)) ∙ one.others e (λ is. absurd (x is)))
          (three.here e z off)
      by (inr x) (inr y) (inr z) =
          absurd (true≢false (sym on
          ∙ ap (λ f. f || list_any (is_copy_on e)
          (option_to_list before.first ++ option_to_list before.second))
          (off_finish e x (is_finish_on e before.finish) refl)
          ∙ off_others e before.first before.second y z))

  pub have_left : HaveLeft a d place before row
  have_left =
      record {
        gone = gone;
        others = λ e stays.
            three.others e (λ is. stays (on_second e (is_finish_on e before.finish) before.first
            before.second is))
            ∙ two.others e (λ is. stays (on_first e (is_finish_on e before.finish) before.first
            before.second is))
            ∙ one.others e (λ is. stays (on_finish e ((finished e).1 is)));
      }
    where
      on_finish : (e : ℕ) → is_finish_on e before.finish ≡ true → is_row_on e before ≡ true
      on_finish e is = rw is refl

-- ---- lists and rows

module _ (old now : Lists) (rows : List Row) (place : ℕ) (before row : Row)
    (within : place < length rows) (there : get_or rows place row ≡ before)
    (listed : AreListed old rows) where
  flag : (e : ℕ) → at_or (map (is_row_on e) rows) place false ≡ is_row_on e before
  flag e = at_here (is_row_on e) rows place row within ∙ ap (is_row_on e) there

  inside : (e : ℕ) → place < length (map (is_row_on e) rows)
  inside e = rw length-map within

  -- a row that is on the same executors
  same_listed : (e : ℕ) (b : Bool) → is_row_on e before ≡ b → is_row_on e row ≡ b
      → list_of now e ≡ list_of old e
      → IsListOf (list_of now e) (map (is_row_on e) (set rows place row))
  same_listed e b was is same =
      rw (
        same,
        map-set (is_row_on e) rows place row,
        flag_same (map (is_row_on e) rows) place (is_row_on e row) (inside e)
            (flag e ∙ was ∙ sym is),
      )
      (listed e)

  -- one that is on fewer
  pub put_listed : IsOnFewer before row → HaveLeft old now place before row
      → AreListed now (set rows place row)
  put_listed fewer left e = by (is_row_on e before) (is_row_on e row) refl refl
    where
      by : (x y : Bool) → is_row_on e before ≡ x → is_row_on e row ≡ y
          → IsListOf (list_of now e) (map (is_row_on e) (set rows place row))
      by true true was is = same_listed e true was is (left.others e (λ on. is))
      by true false was is =
          rw (map-set (is_row_on e) rows place row, is)
          (list_less (list_of old e) (map (is_row_on e) rows) place (listed e) (list_of now e)
          (flag e ∙ was) (left.gone e was is))
      by false true was is = absurd (true≢false (sym (fewer e is) ∙ was))
      by false false was is =
          same_listed e false was is (left.others e (λ on. absurd (true≢false (sym on ∙ was))))

  -- one that is on one more
  pub hand_listed : (exec : ℕ) → IsOnOneMore exec before row → is_row_on exec before ≡ false
      → IsAdded old now exec place → AreListed now (set rows place row)
  hand_listed exec more off added e = by (cases_eq e exec)
    where
      apart : (e ≡ exec → ⊥) → (b : Bool) → (exec == e) ≡ b → b ≡ false
      apart ne true q = absurd (ne (grind (arith, nat_tests, q)))
      apart ne false q = refl

      or_false : (b : Bool) → (b || false) ≡ b
      or_false true = refl
      or_false false = refl

      by : (e ≡ exec) ⊎ (e ≡ exec → ⊥)
          → IsListOf (list_of now e) (map (is_row_on e) (set rows place row))
      by (inl q) =
          let self : (exec == e) ≡ true = grind (arith, nat_tests, q) in
          let was : is_row_on e before ≡ false = ap (λ x. is_row_on x before) q ∙ off in
          let is : is_row_on e row ≡ true = more e ∙ ap (λ b. b || (exec == e)) was ∙ self in
          rw (
            map-set (is_row_on e) rows place row,
            is,
            ap (list_of now) q ∙ added.here ∙ ap (λ x. list_of old x ++ place ∷ []) (sym q),
          )
          (list_more (list_of old e) (map (is_row_on e) rows) place (listed e) (inside e)
          (flag e ∙ was))
      by (inr ne) =
          same_listed e (is_row_on e before) refl
          (more e ∙ ap (λ b. is_row_on e before || b) (apart ne (exec == e) refl)
          ∙ or_false (is_row_on e before))
          (added.others e ne)

  -- one that is on one more, and was on it
  pub kept_listed : (exec : ℕ) → IsOnOneMore exec before row → is_row_on exec before ≡ true
      → ((e : ℕ) → list_of now e ≡ list_of old e) → AreListed now (set rows place row)
  kept_listed exec more on same e =
      same_listed e (is_row_on e before) refl (more e ∙ by (cases_eq e exec)) (same e)
    where
      or_false : (b : Bool) → (b || false) ≡ b
      or_false true = refl
      or_false false = refl

      apart : (e ≡ exec → ⊥) → (b : Bool) → (exec == e) ≡ b → b ≡ false
      apart ne true q = absurd (ne (grind (arith, nat_tests, q)))
      apart ne false q = refl

      by : (e ≡ exec) ⊎ (e ≡ exec → ⊥)
          → (is_row_on e before || (exec == e)) ≡ is_row_on e before
      by (inl q) =
          let was : is_row_on e before ≡ true = ap (λ x. is_row_on x before) q ∙ on in
          rw was refl
      by (inr ne) =
          ap (λ b. is_row_on e before || b) (apart ne (exec == e) refl)
          ∙ or_false (is_row_on e before)
