-- What holds of the lines that are read as a plan.
use Rattle.std.proofs.Common.{◌≡◌, ◌∙◌, ℕ, zero, suc, ◌+◌, ◌<◌, ◌≤◌, Bool, true, false, ◌&&◌, not, List, [], ◌∷◌, ◌++◌, length, map, refl, sym, ap, subst, Option, Some, None, Ok, Err, Result, arith}
use Rattle.std.specs.List.{AllByRecursion, list_all, list_any}
use Rattle.std.specs.Prelude.{if◌then◌else◌, nat_le, nat_lt}
use Rattle.std.specs.Str.Parse.{digits_value}
use Rattle.std.proofs.lemmas.Bool.{and_parts, leb-true, ltb-true}
use Rattle.sc_base.specs.Lists.{at_or}
use Rattle.sc_value.specs.Numbers.{is_digits}
use Rattle.sc_value.specs.Words.{words_of}
use Rattle.sc_plan.specs.Limits.{line_limit, lines_limit, number_limit}
use Rattle.sc_plan.specs.LineReading.{added, fits, is_plan_number, is_shaped, is_skipped, kind_read, line_read, named_read, with_line, words_read}
use Rattle.sc_plan.specs.PlanLines.{AreBelow, AreOnceBehind, HasSmallNumbers, IsSmallPlace, IsSoundPlan, line_of, names_below, place_from, repeats, tells_in_order}
use Rattle.sc_plan.specs.Plans.{ReadsLines, no_line, behind_line}
use Rattle.sc_plan.specs.Tables.{kind_named}
use Rattle.sc_plan.specs.declared.faults.PlanFaultKind.{PlanFaultKind}
use Rattle.sc_plan.specs.declared.lines.PlanLine.{PlanLine}
use Rattle.sc_plan.specs.declared.tables.LineKind.{LineKind}
use Rattle.sc_plan.specs.declared.tables.LineKind.TheVariants as kinds

-- a test that was passed
passed : {X F : Type 0} (b : Bool) (k : F) (y : Result X F) (x : X)
    → (if not b then Err k else y) ≡ Ok x → (b ≡ true) × (y ≡ Ok x)
passed true k y x e = (refl, e)
passed false k y x e = absurd cc

passed_not : {X F : Type 0} (b : Bool) (k : F) (y : Result X F) (x : X)
    → (if b then Err k else y) ≡ Ok x → (b ≡ false) × (y ≡ Ok x)
passed_not true k y x e = absurd cc
passed_not false k y x e = (refl, e)

-- items with one more
all_more : {X : Type 0} (P : X → Type 0) (xs : List X) (x : X) → AllByRecursion P xs → P x
    → AllByRecursion P (xs ++ x ∷ [])
all_more P [] x all one = (one, tt)
all_more P (y ∷ ys) x all one = (all.0, all_more P ys x all.1 one)

length_more : {X : Type 0} (xs : List X) (x : X) → length (xs ++ x ∷ []) ≡ suc (length xs)
length_more [] x = refl
length_more (y ∷ ys) x = ap suc (length_more ys x)

unit_right : {X : Type 0} (xs : List X) → xs ++ [] ≡ xs
unit_right [] = refl
unit_right (x ∷ xs) = ap (λ ys. x ∷ ys) (unit_right xs)

between : {X : Type 0} (xs : List X) (y : X) (ys : List X)
    → (xs ++ y ∷ []) ++ ys ≡ xs ++ y ∷ ys
between [] y ys = refl
between (x ∷ xs) y ys = ap (λ zs. x ∷ zs) (between xs y ys)

once_more : (before ls : List PlanLine) (l : PlanLine) → AreOnceBehind before ls
    → list_any (repeats l) (before ++ ls) ≡ false → AreOnceBehind before (ls ++ l ∷ [])
once_more before [] l once new =
    (sym (ap (list_any (repeats l)) (unit_right before)) ∙ new, tt)
once_more before (m ∷ ls) l once new = (
  once.0,
  once_more (before ++ m ∷ []) ls l once.1
      (ap (list_any (repeats l)) (between before m ls) ∙ new),
)

-- the numbers of words that were tested
small_number : (word : List ℕ) → is_plan_number word ≡ true
    → digits_value 10 word ≤ number_limit
small_number word is =
    let parts = and_parts (is_digits word) (nat_le (digits_value 10 word) number_limit) is in
    leb-true (digits_value 10 word) number_limit parts.1

small_at : (words : List (List ℕ)) → list_all is_plan_number words ≡ true → (i : ℕ)
    → at_or (map (digits_value 10) words) i 0 ≤ number_limit
small_at [] all i = omega arith
small_at (w ∷ ws) all zero =
    small_number w (and_parts (is_plan_number w) (list_all is_plan_number ws) all).0
small_at (w ∷ ws) all (suc i) =
    small_at ws (and_parts (is_plan_number w) (list_all is_plan_number ws) all).1 i

module _ (ns : List ℕ) (h : (i : ℕ) → at_or ns i 0 ≤ number_limit) where
  small_place : IsSmallPlace (place_from ns)
  small_place = record { stage = h 0; partition = h 1; nth = h 2 }

  small_line : (kind : LineKind) → HasSmallNumbers (line_of kind ns)
  small_line kinds.Fail = small_place
  small_line kinds.Late = (small_place, h 3)
  small_line kinds.Twice = small_place
  small_line kinds.Drop = (h 0, h 1)
  small_line kinds.Lose = (h 0, h 1, h 2)
  small_line kinds.Evict = (h 0, h 1)

-- what a line that is read passed
record Passed (executors : ℕ) (before : List PlanLine) (l : PlanLine) : Type 0 where
  pub fit : fits executors before l ≡ true
  pub new : list_any (repeats l) before ≡ false
  pub small : HasSmallNumbers l

module _ (executors : ℕ) (before : List PlanLine) where
  abbrev P : PlanLine → Type 0
  P = Passed executors before

  added_passed : (line l : PlanLine) → HasSmallNumbers line
      → added executors before line ≡ Ok l → P l
  added_passed line l small e =
      let p = passed (fits executors before line) _ _ l e in
      let q = passed_not (list_any (repeats line) before) _ _ l p.1 in
      let same : line ≡ l = let is = q.1 in cc in
      subst P same (record { fit = p.0; new = q.0; small = small })

  kind_passed : (kind : LineKind) (args : List (List ℕ)) (l : PlanLine)
      → kind_read executors before kind args ≡ Ok l → P l
  kind_passed kind args l e =
      let p = passed (is_shaped kind args) _ _ l e in
      let q = passed (list_all is_plan_number args) _ _ l p.1 in
      let ns = map (digits_value 10) args in
      added_passed (line_of kind ns) l (small_line ns (small_at args q.0) kind) q.1

  named_passed : (kind : Option LineKind) (args : List (List ℕ)) (l : PlanLine)
      → named_read executors before kind args ≡ Ok l → P l
  named_passed None args l e = absurd cc
  named_passed (Some kind) args l e = kind_passed kind args l e

  words_passed : (words : List (List ℕ)) (l : PlanLine)
      → words_read executors before words ≡ Ok l → P l
  words_passed [] l e = absurd cc
  words_passed (word ∷ args) l e = named_passed (kind_named word) args l e

  line_passed : (line : List ℕ) (l : PlanLine) → line_read executors before line ≡ Ok l → P l
  line_passed line l e =
      let p = passed_not (nat_lt line_limit (length line)) _ _ l e in
      words_passed (words_of line) l p.1

-- a plan for so many executors
record IsKept (executors : ℕ) (ls : List PlanLine) : Type 0 where
  pub sound : IsSoundPlan ls
  pub below : AreBelow executors ls

kept_more : (executors : ℕ) (before : List PlanLine) (l : PlanLine) → IsKept executors before
    → Passed executors before l → IsKept executors (before ++ l ∷ [])
kept_more executors before l kept p =
    let room = and_parts (nat_lt (length before) lines_limit)
    (names_below executors l && tells_in_order l) p.fit in
    let own = and_parts (names_below executors l) (tells_in_order l) room.1 in
    let less : length before < lines_limit = ltb-true (length before) lines_limit room.0 in
    record {
      sound = record {
        few = omega (arith, length_more before l);
        small = all_more HasSmallNumbers before l kept.sound.small p.small;
        once = once_more [] before l kept.sound.once p.new;
        told = all_more (λ m. tells_in_order m ≡ true) before l kept.sound.told own.1;
      };
      below = all_more (λ m. names_below executors m ≡ true) before l kept.below own.0;
    }

kept_with : (executors : ℕ) (before next : List PlanLine)
    (r : Result PlanLine PlanFaultKind)
    → ((l : PlanLine) → r ≡ Ok l → Passed executors before l) → IsKept executors before
    → with_line before r ≡ Ok next → IsKept executors next
kept_with executors before next (Ok l) passes kept e =
    let same : before ++ l ∷ [] ≡ next = cc in
    subst (IsKept executors) same (kept_more executors before l kept (passes l refl))
kept_with executors before next (Err kind) passes kept e = absurd cc

kept_by : (executors : ℕ) (before next : List PlanLine) (line : List ℕ) (skip : Bool)
    → IsKept executors before
    → (if skip then Ok before else with_line before (line_read executors before line)) ≡ Ok next
    → IsKept executors next
kept_by executors before next line true kept e =
    let same : before ≡ next = cc in
    subst (IsKept executors) same kept
kept_by executors before next line false kept e =
    kept_with executors before next (line_read executors before line)
    (line_passed executors before line) kept e

kept_behind : (executors : ℕ) (before : List PlanLine) (first : ℕ) (lines : List (List ℕ))
    (read : List PlanLine) → IsKept executors before
    → ReadsLines executors before first lines (Ok read) → IsKept executors read
kept_behind executors before first lines read kept (no_line _ _ _) = kept
kept_behind executors before first lines read kept
    (behind_line _ _ next _ line rest _ is reads) =
    kept_behind executors next (first + 1) rest read
    (kept_by executors before next line (is_skipped line) kept is) reads

none_kept : (executors : ℕ) → IsKept executors []
none_kept executors =
    record { sound = record { few = omega arith; small = tt; once = tt; told = tt }; below = tt }

pub sound_lines : (executors : ℕ) (lines : List (List ℕ)) (read : List PlanLine)
    → ReadsLines executors [] 1 lines (Ok read) → IsSoundPlan read
sound_lines executors lines read h =
    (kept_behind executors [] 1 lines read (none_kept executors) h).sound

pub below_lines : (executors : ℕ) (lines : List (List ℕ)) (read : List PlanLine)
    → ReadsLines executors [] 1 lines (Ok read) → AreBelow executors read
below_lines executors lines read h =
    (kept_behind executors [] 1 lines read (none_kept executors) h).below
