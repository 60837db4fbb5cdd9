-- Tables: entries in the order of their keys.
use Rattle.std.proofs.Common.{◌≡◌, ◌∙◌, ℕ, suc, ◌-◌, ◌≤◌, Bool, true, false, cond, List, [], ◌∷◌, length, take, drop, get_or, filter, refl, ap, sym, subst, arith}
use Rattle.std.proofs.lemmas.Bool.Decides.{nat_tests}
use Rattle.std.specs.Cmp.{IsStrictWeakOrder}
use Rattle.std.specs.List.{AllByRecursion}
use Rattle.std.specs.List.Sorted.{IsPartitionedBy, IsSortedBy, IsStableBy}
use Rattle.std.specs.Ordering.{is_lt, nat_cmp}
use Rattle.std.specs.declared.cmp.Ordering.TheVariants.{Less, Equal, Greater}
use Rattle.std.specs.Prelude.{nat_le, nat_lt, ◌==◌}
use Rattle.std.proofs.lemmas.List.Sorted.{sorted_far}
use Rattle.sc_part.proofs.OrderLemmas.{Asc, sorted_from_asc}
use Rattle.sc_part.proofs.SortLemmas.{sorted_is}
use Rattle.sc_part.specs.Sorts.{sorted}
use Rattle.sc_plan.proofs.FilterLemmas.{filter-sorted, none_pass}
use Rattle.sc_plan.specs.Lookups.{is_between, is_lower}
use Rattle.sc_plan.specs.declared.lookups.Entry.{Entry}

-- the order of keys
pub lower : IsStrictWeakOrder is_lower
lower = record {
  one_way = λ x y h. grind (arith, nat_tests);
  chain = λ x y z h k. grind (arith, nat_tests);
}

-- the order of keys as numbers are compared
abbrev pub by_keys : Entry → Entry → Bool
by_keys a b = is_lt (nat_cmp a.key b.key)

less_by : (a b : Bool) → is_lt (cond a Less (cond b Equal Greater)) ≡ a
less_by true b = refl
less_by false true = refl
less_by false false = refl

pub is_lower_by : by_keys ≡ is_lower
is_lower_by = λ i. λ a b. less_by (nat_lt a.key b.key) (a.key == b.key) i

-- what a stable sort by keys leaves
pub sorted_by_keys : (xs ys : List Entry) → IsStrictWeakOrder by_keys → IsSortedBy by_keys ys
    → IsStableBy by_keys xs ys → ys ≡ sorted is_lower xs
sorted_by_keys xs ys o up stable =
    sorted_is by_keys o xs ys up stable ∙ ap (λ lt. sorted lt xs) is_lower_by

-- entries of one key are in order
above_same : (key : ℕ) (x : Entry) (es : List Entry) → x.key ≡ key
    → AllByRecursion (λ e. e.key ≡ key) es → AllByRecursion (λ z. is_lower z x ≡ false) es
above_same key x [] is all = tt
above_same key x (e ∷ es) is all =
    (grind (arith, nat_tests, is, all.0), above_same key x es is all.1)

asc_same : (key : ℕ) (es : List Entry) → AllByRecursion (λ e. e.key ≡ key) es → Asc is_lower es
asc_same key [] all = tt
asc_same key (e ∷ es) all = (above_same key e es all.0 all.1, asc_same key es all.1)

same_by : (key : ℕ) (e : Entry) (es : List Entry) (b : Bool) → (e.key == key) ≡ b
    → AllByRecursion (λ x. x.key ≡ key) es → AllByRecursion (λ x. x.key ≡ key) (cond b (e ∷ es) es)
same_by key e es true is all = (grind (arith, nat_tests), all)
same_by key e es false is all = all

same_keys : (key : ℕ) (es : List Entry)
    → AllByRecursion (λ x. x.key ≡ key) (filter (λ e. e.key == key) es)
same_keys key [] = tt
same_keys key (e ∷ es) =
    same_by key e (filter (λ x. x.key == key) es) (e.key == key) refl (same_keys key es)

-- the entries of a key stand in a table as their lines do
pub found_at : (key : ℕ) (es : List Entry)
    → filter (λ e. e.key == key) (sorted is_lower es) ≡ filter (λ e. e.key == key) es
found_at key es =
    let kept = filter (λ e. e.key == key) es in
    filter-sorted is_lower lower (λ e. e.key == key) es
    ∙ sym (sorted_is is_lower lower kept kept
    (sorted_from_asc is_lower kept (asc_same key kept (same_keys key es))) (λ z. refl))

-- the entries below a key come first
still : (a b : Entry) (key : ℕ) → is_lower b a ≡ false → nat_lt b.key key ≡ true
    → nat_lt a.key key ≡ true
still a b key up below = grind (arith, nat_tests)

pub parted : (es : List Entry) (key : ℕ) → IsSortedBy is_lower es
    → IsPartitionedBy (λ e. nat_lt e.key key) es
parted es key up i j d low within below =
    still (get_or es i d) (get_or es j d) key
    (sorted_far is_lower lower es up i j d low within) below

-- the entries from one key up to another, between those that are below each of them
module _ (from to : ℕ) where
  abbrev Low : Entry → Bool
  Low e = nat_lt e.key from

  abbrev High : Entry → Bool
  High e = nat_lt e.key to

  abbrev lows : List Entry → ℕ
  lows es = length (filter Low es)

  abbrev highs : List Entry → ℕ
  highs es = length (filter High es)

  pub lows-le-highs : from ≤ to → (es : List Entry) → lows es ≤ highs es
  lows-le-highs order [] = omega arith
  lows-le-highs order (e ∷ es) =
      go (Low e) (High e) refl refl (lows-le-highs order es) where
        go : (a b : Bool) → Low e ≡ a → High e ≡ b → lows es ≤ highs es
            → length (cond a (e ∷ filter Low es) (filter Low es))
            ≤ length (cond b (e ∷ filter High es) (filter High es))
        go true true l h rest = omega arith
        go true false l h rest = absurd (grind (arith, nat_tests))
        go false true l h rest = omega arith
        go false false l h rest = rest

  not_low : (e : Entry) → Low e ≡ false → (z : Entry) → is_lower z e ≡ false → Low z ≡ false
  not_low e l z up = grind (arith, nat_tests)

  not_high : (e : Entry) → High e ≡ false → (z : Entry) → is_lower z e ≡ false → High z ≡ false
  not_high e h z up = grind (arith, nat_tests)

  each_not : (P Q : Entry → Bool) (es : List Entry)
      → ((z : Entry) → P z ≡ false → Q z ≡ false)
      → AllByRecursion (λ z. P z ≡ false) es → AllByRecursion (λ z. Q z ≡ false) es
  each_not P Q [] h all = tt
  each_not P Q (z ∷ zs) h all = (h z all.0, each_not P Q zs h all.1)

  abbrev Cut : List Entry → Type 0
  Cut es = take (highs es - lows es) (drop (lows es) es) ≡ filter (is_between from to) es

  from_low : (e : Entry) → Low e ≡ true → nat_le from e.key ≡ false
  from_low e l = grind (arith, nat_tests)

  from_not_low : (e : Entry) → Low e ≡ false → nat_le from e.key ≡ true
  from_not_low e l = grind (arith, nat_tests)

  left_high : (e : Entry) → High e ≡ false → is_between from to e ≡ false
  left_high e h = grind (arith, nat_tests)

  at_low : (e : Entry) (es : List Entry) → Low e ≡ true → High e ≡ true → Cut es → Cut (e ∷ es)
  at_low e es l h rest =
      let less : suc (highs es) - suc (lows es) ≡ highs es - lows es = omega arith in
      rw (l, h, from_low e l) (ap (λ n. take n (drop (lows es) es)) less ∙ rest)

  at_high : (e : Entry) (es : List Entry) → Low e ≡ false → High e ≡ true
      → AllByRecursion (λ z. is_lower z e ≡ false) es → Cut es → Cut (e ∷ es)
  at_high e es l h above rest =
      let none : filter Low es ≡ [] =
      none_pass Low es (each_not (λ z. is_lower z e) Low es (not_low e l) above) in
      let B = filter (is_between from to) es in
      let zero_lows : lows es ≡ 0 = ap (λ ys. length ys) none in
      let all : take (highs es - 0) (drop 0 es) ≡ B =
      subst (λ n. take (highs es - n) (drop n es) ≡ B) zero_lows rest in
      let less : suc (highs es) - 0 ≡ suc (highs es - 0) = omega arith in
      let front : take (suc (highs es) - 0) (e ∷ es) ≡ e ∷ B =
      ap (λ n. take n (e ∷ es)) less ∙ ap (λ (ys : List Entry). e ∷ ys) all in
      rw (l, h, from_not_low e l, none) front

  at_end : (e : Entry) (es : List Entry) → Low e ≡ false → High e ≡ false
      → AllByRecursion (λ z. is_lower z e ≡ false) es → Cut (e ∷ es)
  at_end e es l h above =
      let no_high = each_not (λ z. is_lower z e) High es (not_high e h) above in
      let lows_none : filter Low es ≡ [] =
      none_pass Low es (each_not (λ z. is_lower z e) Low es (not_low e l) above) in
      let highs_none : filter High es ≡ [] = none_pass High es no_high in
      let between_none : filter (is_between from to) es ≡ [] =
      none_pass (is_between from to) es
      (each_not High (is_between from to) es left_high no_high) in
      rw (l, h, from_not_low e l, lows_none, highs_none, between_none) refl

  pub cut_is : from ≤ to → (es : List Entry) → Asc is_lower es → Cut es
  cut_is order [] up = refl
  cut_is order (e ∷ es) up =
      go (Low e) (High e) refl refl (cut_is order es up.1) where
        go : (a b : Bool) → Low e ≡ a → High e ≡ b → Cut es → Cut (e ∷ es)
        go true true l h rest = at_low e es l h rest
        go true false l h rest = absurd (grind (arith, nat_tests))
        go false true l h rest = at_high e es l h up.0 rest
        go false false l h rest = at_end e es l h up.0
