-- What a plan says of places and of losses, as it lies in tables.
use Rattle.std.proofs.Common.{◌≡◌, ◌∙◌, ℕ, ◌<◌, ◌+◌, ◌*◌, Bool, true, false, ◌||◌, cond, List, [], ◌∷◌, filter, Option, Some, None, refl, ap, sym, arith, if◌then◌else◌}
use Rattle.std.proofs.lemmas.Bool.{both_ways}
use Rattle.std.proofs.lemmas.Bool.Decides.{nat_tests}
use Rattle.std.specs.List.{AllByRecursion}
use Rattle.std.specs.Prelude.{filter_map, is_some, slice_get, ◌==◌}
use Rattle.sc_plan.proofs.TableLemmas.{found_at}
use Rattle.sc_plan.specs.Attempts.{delay_at, delay_of, is_doubled, is_failed}
use Rattle.sc_plan.specs.Lookups.{HasShortParts, entry, entry_in, first_value, place_key, table_of}
use Rattle.sc_plan.specs.Orders.{loss_in, loss_of}
use Rattle.sc_plan.specs.PlanLines.{HasSmallNumbers, IsSmallPlace, is_same_place}
use Rattle.sc_plan.specs.declared.lines.AttemptPlace.{AttemptPlace}
use Rattle.sc_plan.specs.declared.lines.PlanLine.{PlanLine}
use Rattle.sc_plan.specs.declared.lines.PlanLine.TheVariants as lines
use Rattle.sc_plan.specs.declared.lookups.Entry.{Entry}
use Rattle.sc_plan.specs.declared.lookups.Sought.{Sought}
use Rattle.sc_plan.specs.declared.lookups.Sought.TheVariants as sought

-- two numbers of two digits below a base are the same where their digits are
digits_same : (a b c d : ℕ) → b < 4294967296 → d < 4294967296
    → a * 4294967296 + b ≡ c * 4294967296 + d → (a ≡ c) × (b ≡ d)
digits_same a b c d h k e = (omega (arith, e), omega (arith, e))

-- the same key is the same place
same_parts : (p q : AttemptPlace) → HasShortParts p → HasShortParts q → place_key p ≡ place_key q
    → is_same_place p q ≡ true
same_parts p q h k e =
    let outer = digits_same (p.stage * 4294967296 + p.partition) p.nth
    (q.stage * 4294967296 + q.partition) q.nth h.nth k.nth e in
    let inner = digits_same p.stage p.partition q.stage q.partition h.partition k.partition
    outer.0 in
    grind (arith, nat_tests, inner.0, inner.1, outer.1)

same_place_key : (p q : AttemptPlace) → is_same_place p q ≡ true → place_key p ≡ place_key q
same_place_key p q e =
    let s : p.stage ≡ q.stage = grind (arith, nat_tests) in
    let t : p.partition ≡ q.partition = grind (arith, nat_tests) in
    let n : p.nth ≡ q.nth = grind (arith, nat_tests) in
    omega (arith, s, t, n)

same_key_by : (p q : AttemptPlace) → HasShortParts p → HasShortParts q → (a b : Bool)
    → (place_key p == place_key q) ≡ a → is_same_place p q ≡ b → a ≡ b
same_key_by p q h k true true e f = refl
same_key_by p q h k true false e f =
    let same : place_key p ≡ place_key q = grind (arith, nat_tests) in
    absurd (both_ways (is_same_place p q) f (same_parts p q h k same))
same_key_by p q h k false true e f =
    let same = same_place_key p q f in
    absurd (grind (arith, nat_tests, same))
same_key_by p q h k false false e f = refl

same_key : (p q : AttemptPlace) → HasShortParts p → HasShortParts q
    → (place_key p == place_key q) ≡ is_same_place p q
same_key p q h k = same_key_by p q h k (place_key p == place_key q) (is_same_place p q) refl refl

short : (p : AttemptPlace) → IsSmallPlace p → HasShortParts p
short p small = record {
  stage = omega (arith, small.stage);
  partition = omega (arith, small.partition);
  nth = omega (arith, small.nth);
}

-- the entries of a key
abbrev at : ℕ → List Entry → List Entry
at key es = filter (λ e. e.key == key) es

abbrev entries : Sought → List PlanLine → List Entry
entries what ls = filter_map (entry_in what) ls

some_by : (b c r : Bool) (e : Entry) (es : List Entry) → b ≡ c → is_some (first_value es) ≡ r
    → is_some (first_value (cond b (e ∷ es) es)) ≡ (c || r)
some_by true true r e es same rest = refl
some_by true false r e es same rest = absurd cc
some_by false true r e es same rest = absurd cc
some_by false false r e es same rest = rest

value_by : (b c : Bool) (key n : ℕ) (es : List Entry) (ns : List ℕ) → b ≡ c
    → first_value es ≡ slice_get ns 0
    → first_value (cond b (entry key n ∷ es) es) ≡ slice_get (cond c (n ∷ ns) ns) 0
value_by true true key n es ns same rest = refl
value_by true false key n es ns same rest = absurd cc
value_by false true key n es ns same rest = absurd cc
value_by false false key n es ns same rest = rest

-- what an option adds in front of others
in_front_by : (c : Bool) (n : ℕ) (ns : List ℕ) (f : PlanLine → Option ℕ) (ls : List PlanLine)
    (l : PlanLine) → f l ≡ (if c then Some n else None) → filter_map f ls ≡ ns
    → filter_map f (l ∷ ls) ≡ cond c (n ∷ ns) ns
in_front_by true n ns f ls l is rest = rw (is, rest) refl
in_front_by false n ns f ls l is rest = rw (is, rest) refl

module _ (p : AttemptPlace) (h : HasShortParts p) where
  failing : (ls : List PlanLine) → AllByRecursion HasSmallNumbers ls
      → is_some (first_value (at (place_key p) (entries sought.Fail ls))) ≡ is_failed ls p
  failing [] small = refl
  failing (lines.Fail q ∷ ls) small =
      some_by (place_key q == place_key p) (is_same_place q p) (is_failed ls p)
      (entry (place_key q) 0) (at (place_key p) (entries sought.Fail ls))
      (same_key q p (short q small.0) h) (failing ls small.1)
  failing (lines.Late q c ∷ ls) small = failing ls small.1
  failing (lines.Twice q ∷ ls) small = failing ls small.1
  failing (lines.Drop e a ∷ ls) small = failing ls small.1
  failing (lines.Lose e a t ∷ ls) small = failing ls small.1
  failing (lines.Evict e a ∷ ls) small = failing ls small.1

  doubling : (ls : List PlanLine) → AllByRecursion HasSmallNumbers ls
      → is_some (first_value (at (place_key p) (entries sought.Twice ls))) ≡ is_doubled ls p
  doubling [] small = refl
  doubling (lines.Fail q ∷ ls) small = doubling ls small.1
  doubling (lines.Late q c ∷ ls) small = doubling ls small.1
  doubling (lines.Twice q ∷ ls) small =
      some_by (place_key q == place_key p) (is_same_place q p) (is_doubled ls p)
      (entry (place_key q) 0) (at (place_key p) (entries sought.Twice ls))
      (same_key q p (short q small.0) h) (doubling ls small.1)
  doubling (lines.Drop e a ∷ ls) small = doubling ls small.1
  doubling (lines.Lose e a t ∷ ls) small = doubling ls small.1
  doubling (lines.Evict e a ∷ ls) small = doubling ls small.1

  delaying : (ls : List PlanLine) → AllByRecursion HasSmallNumbers ls
      → first_value (at (place_key p) (entries sought.Late ls)) ≡ delay_of ls p
  delaying [] small = refl
  delaying (lines.Fail q ∷ ls) small = delaying ls small.1
  delaying (lines.Late q c ∷ ls) small =
      value_by (place_key q == place_key p) (is_same_place q p) (place_key q) c
      (at (place_key p) (entries sought.Late ls)) (filter_map (delay_at p) ls)
      (same_key q p (short q small.0.0) h) (delaying ls small.1)
      ∙ sym (ap (λ ns. slice_get ns 0) (in_front_by (is_same_place q p) c
      (filter_map (delay_at p) ls) (delay_at p) ls (lines.Late q c) refl refl))
  delaying (lines.Twice q ∷ ls) small = delaying ls small.1
  delaying (lines.Drop e a ∷ ls) small = delaying ls small.1
  delaying (lines.Lose e a t ∷ ls) small = delaying ls small.1
  delaying (lines.Evict e a ∷ ls) small = delaying ls small.1

losing : (exec : ℕ) (ls : List PlanLine)
    → first_value (at exec (entries sought.Loss ls)) ≡ loss_of ls exec
losing exec [] = refl
losing exec (lines.Fail q ∷ ls) = losing exec ls
losing exec (lines.Late q c ∷ ls) = losing exec ls
losing exec (lines.Twice q ∷ ls) = losing exec ls
losing exec (lines.Drop e a ∷ ls) = losing exec ls
losing exec (lines.Lose e a t ∷ ls) =
    value_by (e == exec) (e == exec) e t (at exec (entries sought.Loss ls))
    (filter_map (loss_in exec) ls) refl (losing exec ls)
    ∙ sym (ap (λ ns. slice_get ns 0) (in_front_by (e == exec) t (filter_map (loss_in exec) ls)
    (loss_in exec) ls (lines.Lose e a t) refl refl))
losing exec (lines.Evict e a ∷ ls) = losing exec ls

-- the same of tables
module _ (p : AttemptPlace) (ls : List PlanLine) (h : HasShortParts p)
    (small : AllByRecursion HasSmallNumbers ls) where
  pub failed_in_table : (es : List Entry) → es ≡ table_of sought.Fail ls
      → is_some (first_value (at (place_key p) es)) ≡ is_failed ls p
  failed_in_table es is =
      ap (λ xs. is_some (first_value (at (place_key p) xs))) is
      ∙ ap (λ xs. is_some (first_value xs)) (found_at (place_key p) (entries sought.Fail ls))
      ∙ failing p h ls small

  pub doubled_in_table : (es : List Entry) → es ≡ table_of sought.Twice ls
      → is_some (first_value (at (place_key p) es)) ≡ is_doubled ls p
  doubled_in_table es is =
      ap (λ xs. is_some (first_value (at (place_key p) xs))) is
      ∙ ap (λ xs. is_some (first_value xs)) (found_at (place_key p) (entries sought.Twice ls))
      ∙ doubling p h ls small

  pub delay_in_table : (es : List Entry) → es ≡ table_of sought.Late ls
      → first_value (at (place_key p) es) ≡ delay_of ls p
  delay_in_table es is =
      ap (λ xs. first_value (at (place_key p) xs)) is
      ∙ ap first_value (found_at (place_key p) (entries sought.Late ls))
      ∙ delaying p h ls small

pub loss_in_table : (exec : ℕ) (ls : List PlanLine) (es : List Entry)
    → es ≡ table_of sought.Loss ls → first_value (at exec es) ≡ loss_of ls exec
loss_in_table exec ls es is =
    ap (λ xs. first_value (at exec xs)) is
    ∙ ap first_value (found_at exec (entries sought.Loss ls))
    ∙ losing exec ls
