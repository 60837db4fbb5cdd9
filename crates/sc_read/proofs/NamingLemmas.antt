-- Names noted one after another are each once where they stand first.
use Rattle.std.proofs.Common.{◌≡◌, ◌∙◌, ℕ, Bool, true, false, ◌||◌, not, cond, List, [], ◌∷◌, ◌++◌, refl, ap, sym, append_assoc}
use Rattle.std.proofs.lemmas.List.{append-nil}
use Rattle.std.proofs.lemmas.List.Folds.{list_any-append}
use Rattle.std.proofs.lemmas.Slice.Eq.{bytes_eq-Decides}
use Rattle.std.specs.List.{filter, list_any}
use Rattle.std.specs.Str.{bytes_eq}
use Rattle.sc_base.specs.Lists.{firsts}
use Rattle.sc_read.specs.Naming.{with_name, with_names}

-- a name isn't among others
abbrev pub is_new : List (List ℕ) → List ℕ → Bool
is_new names name = not (list_any (bytes_eq name) names)

swap_by : (xs ys : List ℕ) (r s : Bool) → bytes_eq xs ys ≡ r → bytes_eq ys xs ≡ s → r ≡ s
swap_by xs ys true true a b = refl
swap_by xs ys true false a b =
    sym ((bytes_eq-Decides ys xs).1 (sym ((bytes_eq-Decides xs ys).0 a))) ∙ b
swap_by xs ys false true a b =
    sym a ∙ (bytes_eq-Decides xs ys).1 (sym ((bytes_eq-Decides ys xs).0 b))
swap_by xs ys false false a b = refl

bytes_eq-swap : (xs ys : List ℕ) → bytes_eq xs ys ≡ bytes_eq ys xs
bytes_eq-swap xs ys = swap_by xs ys (bytes_eq xs ys) (bytes_eq ys xs) refl refl

or_true : (b : Bool) → (b || (true || false)) ≡ true
or_true true = refl
or_true false = refl

-- a list without some items, one of them again
module _ (names : List (List ℕ)) (name : List ℕ) where
  -- where the name is among the names, those that are new aren't the name
  without-known : (rest : List (List ℕ)) → list_any (bytes_eq name) names ≡ true
      → filter (is_new names) (filter (λ other. not (bytes_eq name other)) rest)
      ≡ filter (is_new names) rest
  without-known [] known = refl
  without-known (other ∷ rest) known =
      by_same (bytes_eq name other) refl (without-known rest known)
    where
      by_same : (same : Bool) → bytes_eq name other ≡ same
          → filter (is_new names) (filter (λ o. not (bytes_eq name o)) rest)
          ≡ filter (is_new names) rest
          → filter (is_new names)
          (cond (not same) (other ∷ filter (λ o. not (bytes_eq name o)) rest)
          (filter (λ o. not (bytes_eq name o)) rest))
          ≡ filter (is_new names) (other ∷ rest)
      by_same true is more =
          let e : name ≡ other = (bytes_eq-Decides name other).0 is in
          let old : is_new names other ≡ false =
          ap (λ (n : List ℕ). is_new names n) (sym e) ∙ ap not known in
          more ∙ sym (ap (λ b. cond b (other ∷ filter (is_new names) rest)
          (filter (is_new names) rest)) old)
      by_same false is more =
          ap (λ ns. cond (is_new names other) (other ∷ ns) ns) more

  -- where it isn't, those that are new to the names and it are those without it that are new
  without-new : (rest : List (List ℕ))
      → filter (is_new (names ++ name ∷ [])) rest
      ≡ filter (is_new names) (filter (λ other. not (bytes_eq name other)) rest)
  without-new [] = refl
  without-new (other ∷ rest) =
      by_same (without-new rest) (bytes_eq name other) (list_any (bytes_eq other) names) refl refl
    where
      both : list_any (bytes_eq other) (names ++ name ∷ [])
          ≡ (list_any (bytes_eq other) names || (bytes_eq name other || false))
      both =
          list_any-append (bytes_eq other) names (name ∷ [])
          ∙ ap (λ b. list_any (bytes_eq other) names || (b || false)) (bytes_eq-swap other name)

      by_same : filter (is_new (names ++ name ∷ [])) rest
          ≡ filter (is_new names) (filter (λ o. not (bytes_eq name o)) rest)
          → (same known : Bool) → bytes_eq name other ≡ same
          → list_any (bytes_eq other) names ≡ known
          → filter (is_new (names ++ name ∷ [])) (other ∷ rest)
          ≡ filter (is_new names) (filter (λ o. not (bytes_eq name o)) (other ∷ rest))
      by_same more true known is in_names =
          let test : is_new (names ++ name ∷ []) other ≡ false =
          ap not (both ∙ ap (λ b. list_any (bytes_eq other) names || (b || false)) is
          ∙ or_true (list_any (bytes_eq other) names)) in
          rw (test, is) more
      by_same more false true is in_names =
          let test : is_new (names ++ name ∷ []) other ≡ false =
          ap not (both ∙ ap (λ b. b || (bytes_eq name other || false)) in_names) in
          rw (test, is, in_names) more
      by_same more false false is in_names =
          let test : is_new (names ++ name ∷ []) other ≡ true =
          ap not (both ∙ ap (λ b. b || (bytes_eq name other || false)) in_names
          ∙ ap (λ b. b || false) is) in
          rw (test, is, in_names) (ap (λ ns. other ∷ ns) more)

-- names noted behind others are those of them that are new, each where it stands first
pub with_names-is : (names more : List (List ℕ))
    → with_names names more ≡ names ++ filter (is_new names) (firsts more)
with_names-is names [] = sym (append-nil names)
with_names-is names (name ∷ more) =
    by_known (with_names-is names more) (with_names-is (names ++ name ∷ []) more)
    (list_any (bytes_eq name) names) refl
  where
    by_known : with_names names more ≡ names ++ filter (is_new names) (firsts more)
        → with_names (names ++ name ∷ []) more
        ≡ (names ++ name ∷ []) ++ filter (is_new (names ++ name ∷ [])) (firsts more)
        → (known : Bool) → list_any (bytes_eq name) names ≡ known
        → with_names (with_name names name) more
        ≡ names ++ filter (is_new names)
        (name ∷ filter (λ other. not (bytes_eq name other)) (firsts more))
    by_known old new true is =
        rw is (old ∙ ap (λ ns. names ++ ns) (sym (without-known names name (firsts more) is)))
    by_known old new false is =
        rw is (new
        ∙ append_assoc names (name ∷ []) (filter (is_new (names ++ name ∷ [])) (firsts more))
        ∙ ap (λ ns. names ++ name ∷ ns) (without-new names name (firsts more)))

-- names noted one after another, from none on
pub noted-all : (more : List (List ℕ)) → with_names [] more ≡ firsts more
noted-all more = with_names-is [] more ∙ all_new (firsts more)
  where
    all_new : (names : List (List ℕ)) → filter (is_new []) names ≡ names
    all_new [] = refl
    all_new (name ∷ names) = ap (λ ns. name ∷ ns) (all_new names)
