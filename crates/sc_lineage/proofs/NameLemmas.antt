-- The names of inputs: each that is named, once, in the order of first naming.
use Rattle.std.proofs.Common.{◌≡◌, ◌∙◌, ℕ, zero, suc, ◌<◌, ◌⊎◌, inl, inr, ⊎_elim, Bool, true, false, cond, not, List, [], ◌∷◌, ◌++◌, length, take, get_or, filter, flat_map, bytes_eq, Contains, refl, ap, sym, arith}
use Rattle.std.proofs.lemmas.Bool.{false≢true}
use Rattle.std.proofs.Math.Seq.{take-append_seam}
use Rattle.std.proofs.lemmas.List.Concat.{flat_map-append}
use Rattle.std.proofs.lemmas.List.Elements.{All-weaker, recursion_from_All, filter_passes, filter-append}
use Rattle.std.proofs.lemmas.Map.Keys.{IsDistinct-head, IsDistinct-tail, IsDistinct-cons}
use Rattle.std.proofs.lemmas.Slice.Eq.{bytes_eq-Decides}
use Rattle.std.specs.List.{AllByRecursion, IsDistinct}
use Rattle.sc_base.specs.Lists.{firsts}
use Rattle.sc_lineage.specs.Laws.{InputsAreNamed, InputsAreNamedOnce, InputsAreInOrder}
use Rattle.sc_lineage.specs.ScriptData.{names_of_node}

-- whether a name is another one
abbrev is_other : List ℕ → List ℕ → Bool
is_other name other = not (bytes_eq name other)

here : {A : Type 0} (x y : A) (xs : List A) → x ≡ y → Contains (x ∷ xs) y
here x y xs same = (0, omega arith, same)

later : {A : Type 0} (x y : A) (xs : List A) → Contains xs y → Contains (x ∷ xs) y
later x y xs has = (suc has.0, omega (arith, has.1), has.2)

first_or_later : {A : Type 0} (x y : A) (xs : List A) (k : ℕ) → k < length (x ∷ xs)
    → get_or (x ∷ xs) k y ≡ y → (x ≡ y) ⊎ Contains xs y
first_or_later x y xs zero within is = inl is
first_or_later x y xs (suc k) within is = inr (k, omega arith, is)

-- what a filter keeps
module _ {A : Type 0} (test : A → Bool) (y : A) where
  kept_is_there : (x : A) (xs kept : List A) (b : Bool) → (Contains kept y → Contains xs y)
      → Contains (cond b (x ∷ kept) kept) y → Contains (x ∷ xs) y
  kept_is_there x xs kept true rest has =
      ⊎_elim (here x y xs) (λ in_rest. later x y xs (rest in_rest))
      (first_or_later x y kept has.0 has.1 has.2)
  kept_is_there x xs kept false rest has = later x y xs (rest has)

  in_filter : (xs : List A) → Contains (filter test xs) y → Contains xs y
  in_filter [] has = has
  in_filter (x ∷ xs) has = kept_is_there x xs (filter test xs) (test x) (in_filter xs) has

  there_is_kept : (x : A) (kept : List A) (b : Bool) → test x ≡ b → test y ≡ true
      → (x ≡ y) ⊎ Contains kept y → Contains (cond b (x ∷ kept) kept) y
  there_is_kept x kept true is passes (inl same) = here x y kept same
  there_is_kept x kept true is passes (inr rest) = later x y kept rest
  there_is_kept x kept false is passes (inl same) =
      absurd (false≢true (sym is ∙ ap test same ∙ passes))
  there_is_kept x kept false is passes (inr rest) = rest

  to_filter : (xs : List A) → test y ≡ true → Contains xs y → Contains (filter test xs) y
  to_filter [] passes has = has
  to_filter (x ∷ xs) passes has =
      there_is_kept x (filter test xs) (test x) refl passes
      (⊎_elim inl (λ rest. inr (to_filter xs passes rest))
      (first_or_later x y xs has.0 has.1 has.2))

-- what is among the firsts
in_firsts : (names : List (List ℕ)) (name : List ℕ) → Contains (firsts names) name
    → Contains names name
in_firsts [] name has = has
in_firsts (n ∷ names) name has =
    ⊎_elim (here n name names)
    (λ rest.
    later n name names (in_firsts names name (in_filter (is_other n) name (firsts names) rest)))
    (first_or_later n name (filter (is_other n) (firsts names)) has.0 has.1 has.2)

same_or_kept : (n name : List ℕ) (kept : List (List ℕ)) (b : Bool) → bytes_eq n name ≡ b
    → Contains kept name → Contains (n ∷ filter (is_other n) kept) name
same_or_kept n name kept true is has =
    here n name (filter (is_other n) kept) ((bytes_eq-Decides n name).0 is)
same_or_kept n name kept false is has =
    later n name (filter (is_other n) kept)
    (to_filter (is_other n) name kept (ap not is) has)

to_firsts : (names : List (List ℕ)) (name : List ℕ) → Contains names name
    → Contains (firsts names) name
to_firsts [] name has = has
to_firsts (n ∷ names) name has =
    ⊎_elim (here n name (filter (is_other n) (firsts names)))
    (λ rest. same_or_kept n name (firsts names) (bytes_eq n name) refl (to_firsts names name rest))
    (first_or_later n name names has.0 has.1 has.2)

pub inputs_are_named : InputsAreNamed
inputs_are_named script name =
    let named = flat_map names_of_node script.nodes in (in_firsts named name, to_firsts named name)

-- none of the firsts stands twice
module _ {A : Type 0} (eq : A → A → Bool) (test : A → Bool) where
  all_kept : (P : A → Type 0) (xs : List A) → AllByRecursion P xs
      → AllByRecursion P (filter test xs)
  all_kept P [] all = tt
  all_kept P (x ∷ xs) all = decided (test x) (all_kept P xs all.1)
    where
      decided : (b : Bool) → AllByRecursion P (filter test xs)
          → AllByRecursion P (cond b (x ∷ filter test xs) (filter test xs))
      decided true rest = (all.0, rest)
      decided false rest = rest

  distinct_kept : (xs : List A) → IsDistinct eq xs → IsDistinct eq (filter test xs)
  distinct_kept [] distinct = distinct
  distinct_kept (x ∷ xs) distinct =
      decided (test x) (distinct_kept xs (IsDistinct-tail eq x xs distinct))
    where
      decided : (b : Bool) → IsDistinct eq (filter test xs)
          → IsDistinct eq (cond b (x ∷ filter test xs) (filter test xs))
      decided true rest =
          IsDistinct-cons eq x (filter test xs)
          (all_kept (λ y. eq x y ≡ false) xs (IsDistinct-head eq x xs distinct)) rest
      decided false rest = rest

not_false : (b : Bool) → not b ≡ true → b ≡ false
not_false true is = cc
not_false false is = refl

firsts_are_distinct : (names : List (List ℕ)) → IsDistinct bytes_eq (firsts names)
unfolding IsDistinct
firsts_are_distinct [] = tt
firsts_are_distinct (n ∷ names) =
    let kept = filter (is_other n) (firsts names) in
    IsDistinct-cons bytes_eq n kept
    (recursion_from_All (λ other. bytes_eq n other ≡ false) kept
    (All-weaker (λ other. is_other n other ≡ true) (λ other. bytes_eq n other ≡ false)
    (λ other. not_false (bytes_eq n other)) kept (filter_passes (is_other n) (firsts names))))
    (distinct_kept bytes_eq (is_other n) (firsts names) (firsts_are_distinct names))

pub inputs_are_named_once : InputsAreNamedOnce
inputs_are_named_once script = firsts_are_distinct (flat_map names_of_node script.nodes)

-- more names are put behind the firsts of those before
firsts_behind : (names more : List (List ℕ))
    → (behind : List (List ℕ)) × (firsts (names ++ more) ≡ firsts names ++ behind)
firsts_behind [] more = (firsts more, refl)
firsts_behind (n ∷ names) more =
    let rest = firsts_behind names more in (
      filter (is_other n) rest.0,
      ap (λ ns. n ∷ filter (is_other n) ns) rest.1
          ∙ ap (λ ns. n ∷ ns) (filter-append (is_other n) (firsts names) rest.0),
    )

pub inputs_are_in_order : InputsAreInOrder
inputs_are_in_order script longer more are =
    let named = flat_map names_of_node script.nodes in
    let rest = firsts_behind named (flat_map names_of_node more) in
    ap (λ nodes. take (length (firsts named)) (firsts (flat_map names_of_node nodes))) are
    ∙ ap (λ ns. take (length (firsts named)) (firsts ns))
    (flat_map-append names_of_node script.nodes more)
    ∙ ap (take (length (firsts named))) rest.1
    ∙ take-append_seam (firsts named) rest.0
