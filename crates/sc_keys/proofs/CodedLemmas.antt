-- Texts are grouped as what tells them apart.
use Rattle.std.proofs.Common.{◌≡◌, ◌∙◌, ◌+◌, ◌<◌, ◌≤◌, ℕ, Bool, true, false, cond, List, [], ◌∷◌, ◌++◌, bytes_eq, get_or, length, map, refl, ap, ap₂, sym, subst, arith, take, ◌||◌, not, if◌then◌else◌}
use Rattle.std.proofs.lemmas.Cmp.{nat_list_eq_equiv}
use Rattle.std.proofs.lemmas.List.{map-append}
use Rattle.std.proofs.lemmas.List.Elements.{All-append, All-cons, All-head, All-more, All-nil, All-tail, All-weaker}
use Rattle.std.specs.List.{All, list_any}
use Rattle.sc_keys.proofs.GroupLemmas.{groups_more}
use Rattle.sc_keys.specs.Groups.{distinct, groups, place_in, with_key}

-- what a table of marks knows of texts, and the numbers of their groups
pub record AreKnown {C : Type 0} (mark : List ℕ → C) (Fits : List ℕ → Type 0)
    (texts : List (List ℕ)) (table : List C) (out : List ℕ) : Type 0 where
  pub known : table ≡ map mark (distinct bytes_eq texts)
  pub fit : All Fits (distinct bytes_eq texts)
  pub numbers : out ≡ groups bytes_eq texts

module _ {C : Type 0} (same : C → C → Bool) (mark : List ℕ → C) (Fits : List ℕ → Type 0)
    (tell : (s t : List ℕ) → Fits s → Fits t → same (mark s) (mark t) ≡ bytes_eq s t) where
  any_marks : (known : List (List ℕ)) (k : List ℕ) → All Fits known → Fits k
      → list_any (same (mark k)) (map mark known) ≡ list_any (bytes_eq k) known
  any_marks [] k all own = refl
  any_marks (x ∷ known) k all own =
      ap₂ (λ a b. a || b) (tell k x own (All-head Fits x known all))
      (any_marks known k (All-tail Fits x known all) own)

  -- a text has the place of its mark
  place_of_mark : (known : List (List ℕ)) (k : List ℕ) → All Fits known → Fits k
      → place_in same (map mark known) (mark k) ≡ place_in bytes_eq known k
  place_of_mark [] k all own = refl
  place_of_mark (x ∷ known) k all own =
      ap₂ (λ b n. cond (not b) (1 + n) 0) (tell k x own (All-head Fits x known all))
      (place_of_mark known k (All-tail Fits x known all) own)

  with_mark_by : (b : Bool) (known : List (List ℕ)) (k : List ℕ)
      → (if b then map mark known else map mark known ++ mark k ∷ [])
      ≡ map mark (if b then known else known ++ k ∷ [])
  with_mark_by true known k = refl
  with_mark_by false known k = sym (map-append mark known (k ∷ []))

  -- marks with one more are those of texts with one more
  with_mark : (known : List (List ℕ)) (k : List ℕ) → All Fits known → Fits k
      → with_key same (map mark known) (mark k) ≡ map mark (with_key bytes_eq known k)
  with_mark known k all own =
      ap (λ b. if b then map mark known else map mark known ++ mark k ∷ [])
      (any_marks known k all own)
      ∙ with_mark_by (list_any (bytes_eq k) known) known k

  fit_by : (b : Bool) (known : List (List ℕ)) (k : List ℕ) → All Fits known → Fits k
      → All Fits (if b then known else known ++ k ∷ [])
  fit_by true known k all own = all
  fit_by false known k all own =
      All-append Fits known (k ∷ []) all (All-cons Fits k [] own (All-nil Fits))

  -- one text more
  pub known_more : (ks : List (List ℕ)) (i g : ℕ) (k : List ℕ) (known after : List C)
      (out more : List ℕ) → i < length ks → k ≡ get_or ks i k
      → AreKnown mark Fits (take i ks) known out → Fits k
      → after ≡ with_key same known (mark k) → g ≡ place_in same known (mark k)
      → more ≡ out ++ g ∷ [] → AreKnown mark Fits (take (i + 1) ks) after more
  known_more ks i g k known after out more within at are own next here pushed =
      let before = distinct bytes_eq (take i ks) in
      let place : g ≡ place_in bytes_eq before k =
      here ∙ ap (λ ms. place_in same ms (mark k)) are.known ∙ place_of_mark before k are.fit own in
      let step = groups_more bytes_eq nat_list_eq_equiv.refl ks i g k before
      (with_key bytes_eq before k) out more within at refl are.numbers refl place pushed in
      record {
        known = next ∙ ap (λ ms. with_key same ms (mark k)) are.known
            ∙ with_mark before k are.fit own ∙ ap (map mark) step.0;
        fit = subst (All Fits) step.0
            (fit_by (list_any (bytes_eq k) before) before k are.fit own);
        numbers = step.1;
      }

-- the longest of one text more
pub longest_more : (ks : List (List ℕ)) (i most more : ℕ) (k : List ℕ) → i < length ks
    → k ≡ get_or ks i k → All (λ t. length t ≤ most) (take i ks) → most ≤ more → length k ≤ more
    → All (λ t. length t ≤ more) (take (i + 1) ks)
longest_more ks i most more k within at all up own =
    All-more (λ t. length t ≤ more) ks i k within
    (All-weaker (λ t. length t ≤ most) (λ t. length t ≤ more)
    (λ t few. omega (arith, few, up)) (take i ks) all)
    (subst (λ t. length t ≤ more) at own)
