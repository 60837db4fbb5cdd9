-- Lists of pieces, as ranges of the pieces of all lists, and one piece of each list.
use Rattle.std.proofs.Common.{◌≡◌, ◌∙◌, ℕ, zero, suc, ◌+◌, ◌-◌, ◌<◌, ◌≤◌, List, [], ◌∷◌, ◌++◌, length, map, take, drop, get_or, refl, ap, sym, subst, arith, Option, Some}
use Rattle.std.proofs.lemmas.List.{append_assoc, drop_all, drop-append-le, take-append-le, take_all, length-append, length-drop, length-map, map_push}
use Rattle.std.proofs.lemmas.List.Elements.{All-push}
use Rattle.std.specs.List.{All, AllByRecursion}
use Rattle.sc_value.specs.declared.texts.Span.{Span}
use Rattle.sc_value.specs.Spans.{IsPart, part_at}
use Rattle.sc_value.specs.Words.{in_front, range_of, until_none}

-- a range of so many items
pub record IsIn (n : ℕ) (s : Span) : Type 0 where
  pub ordered : s.from ≤ s.to
  pub within : s.to ≤ n

range_more : {X : Type 0} (xs more : List X) (s : Span) → IsIn (length xs) s
    → range_of (xs ++ more) s ≡ range_of xs s
range_more xs more s is =
    ap (take (s.to - s.from))
    (drop-append-le s.from xs more (omega (arith, is.ordered, is.within)))
    ∙ take-append-le (s.to - s.from) (drop s.from xs) more
    (omega (arith, length-drop s.from xs, is.ordered, is.within))

ranges_more : {X : Type 0} (xs more : List X) (lists : List Span)
    → AllByRecursion (IsIn (length xs)) lists
    → map (range_of (xs ++ more)) lists ≡ map (range_of xs) lists
ranges_more xs more [] all = refl
ranges_more xs more (s ∷ lists) all =
    let one = range_more xs more s all.0 in
    let rest = ranges_more xs more lists all.1 in
    ap (λ r. r ∷ map (range_of (xs ++ more)) lists) one ∙ ap (λ rs. range_of xs s ∷ rs) rest

all_in : (m n : ℕ) (lists : List Span) → m ≤ n → AllByRecursion (IsIn m) lists
    → AllByRecursion (IsIn n) lists
all_in m n [] le all = tt
all_in m n (s ∷ lists) le all = (
  record { ordered = all.0.ordered; within = omega (arith, all.0.within) },
  all_in m n lists le all.1,
)

all_push : (n : ℕ) (lists : List Span) (s : Span) → AllByRecursion (IsIn n) lists → IsIn n s
    → AllByRecursion (IsIn n) (lists ++ s ∷ [])
all_push n [] s all is = (is, tt)
all_push n (x ∷ lists) s all is = (all.0, all_push n lists s all.1 is)

range_last : {X : Type 0} (xs more : List X) (s : Span) → s.from ≡ length xs
    → s.to ≡ length (xs ++ more) → range_of (xs ++ more) s ≡ more
range_last xs more s from to =
    ap (take (s.to - s.from)) (drop-append-le s.from xs more (omega arith)
    ∙ ap (λ d. d ++ more) (drop_all s.from xs (omega arith)))
    ∙ take_all (s.to - s.from) more (omega (arith, length-append xs more))

-- the pieces of the texts at the first places are the lists
pub record AreListsTo (g : List ℕ → List (List ℕ)) (text : List ℕ) (places items lists : List Span)
    (i : ℕ) : Type 0 where
  pub are : map (range_of (map (part_at text) items)) lists
      ≡ take i (map g (map (part_at text) places))
  pub within : AllByRecursion (IsIn (length items)) lists
  pub parts : All (IsPart text) items

at_place : {X Y Z : Type 0} (f : X → Y) (g : Y → Z) (xs : List X) (i : ℕ) (d : X)
    → i < length xs
    → take (i + 1) (map g (map f xs)) ≡ take i (map g (map f xs)) ++ g (f (get_or xs i d)) ∷ []
at_place f g [] i d below = absurd (omega arith)
at_place f g (y ∷ xs) zero d below = refl
at_place f g (y ∷ xs) (suc i) d below =
    ap (λ k. take k (g (f y) ∷ map g (map f xs)))
    (let e : suc i + 1 ≡ suc (i + 1) = omega arith in e)
    ∙ ap (λ r. g (f y) ∷ r) (at_place f g xs i d (omega arith))

pub AreListsTo-more : (g : List ℕ → List (List ℕ)) (text : List ℕ)
    (places items now lists lists_now : List Span) (d last : Span) (i : ℕ)
    → i < length places
    → last.from ≡ length items → last.to ≡ length now
    → map (part_at text) now ≡ map (part_at text) items ++ g (part_at text (get_or places i d))
    → All (IsPart text) now → lists_now ≡ lists ++ last ∷ []
    → AreListsTo g text places items lists i → AreListsTo g text places now lists_now (i + 1)
AreListsTo-more g text places items now lists lists_now d last i below from to now_is parts lists_is
    were =
    let f = part_at text in
    let all = map g (map f places) in
    let new = g (f (get_or places i d)) in
    let len : length (map f items) ≡ length items = length-map items f in
    let len_now : length (map f items ++ new) ≡ length now =
    sym (ap length now_is) ∙ length-map now f in
    let more : length items ≤ length now =
    omega (arith, length-append (map f items) new, len, len_now) in
    let old_in : AllByRecursion (IsIn (length (map f items))) lists =
    all_in _ _ lists (omega (arith, len)) were.within in
    record {
      are =
          ap (λ ls. map (range_of (map f now)) ls) lists_is
          ∙ ap (λ xs. map (range_of xs) (lists ++ last ∷ [])) now_is
          ∙ map_push (range_of (map f items ++ new)) lists last
          ∙ ap (λ l. l ++ range_of (map f items ++ new) last ∷ [])
          (ranges_more (map f items) new lists old_in ∙ were.are)
          ∙ ap (λ w. take i all ++ w ∷ [])
          (range_last (map f items) new last (omega (arith, len)) (omega (arith, len_now)))
          ∙ sym (at_place f g places i d below);
      within = subst (AllByRecursion (IsIn (length now))) (sym lists_is)
          (all_push (length now) lists last (all_in _ _ lists more were.within)
          (record { ordered = omega arith; within = omega arith }));
      parts = parts;
    }

-- what a function gives of each text up to a place lies at the spans
pub record AreFoundTo (g : List ℕ → Option (List ℕ)) (text : List ℕ) (places out : List Span)
    (i : ℕ) : Type 0 where
  pub are : map (part_at text) out ++ until_none g (map (part_at text) (drop i places))
      ≡ until_none g (map (part_at text) places)
  pub parts : All (IsPart text) out

until_at : {X Y Z : Type 0} (f : X → Y) (g : Y → Option Z) (xs : List X) (i : ℕ) (d : X)
    → i < length xs
    → until_none g (map f (drop i xs))
    ≡ in_front (g (f (get_or xs i d))) (until_none g (map f (drop (i + 1) xs)))
until_at f g [] i d below = absurd (omega arith)
until_at f g (x ∷ xs) zero d below = refl
until_at f g (x ∷ xs) (suc i) d below =
    until_at f g xs i d (omega arith)
    ∙ ap (λ m. in_front (g (f (get_or xs i d))) (until_none g (map f (drop m (x ∷ xs)))))
    (let e : suc (i + 1) ≡ suc i + 1 = omega arith in e)

pub AreFoundTo-more : (g : List ℕ → Option (List ℕ)) (text : List ℕ) (places out now : List Span)
    (d span : Span) (i : ℕ) → i < length places
    → Some (part_at text span) ≡ g (part_at text (get_or places i d)) → IsPart text span
    → now ≡ out ++ span ∷ [] → AreFoundTo g text places out i
    → AreFoundTo g text places now (i + 1)
AreFoundTo-more g text places out now d span i below is part now_is was =
    let f = part_at text in
    let rest = until_none g (map f (drop (i + 1) places)) in
    let P : List Span → Type 0 = λ all. All (IsPart text) all in
    record {
      are =
          ap (λ o. map f o ++ rest) now_is
          ∙ ap (λ o. o ++ rest) (map_push f out span)
          ∙ append_assoc (map f out) (f span ∷ []) rest
          ∙ ap (λ o. map f out ++ in_front o rest) is
          ∙ ap (λ r. map f out ++ r) (sym (until_at f g places i d below))
          ∙ was.are;
      parts = subst P (sym now_is) (All-push (IsPart text) out span was.parts part);
    }
