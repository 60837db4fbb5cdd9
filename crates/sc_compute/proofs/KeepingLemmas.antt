-- What is kept under keys, when something is put in or taken out.
use Rattle.std.proofs.Common.{◌≡◌, ◌∙◌, ◌⊎◌, inl, inr, ℕ, ◌+◌, ◌<◌, Bool, true, false, ◌||◌, All, cond, nat_eq, is_some, List, [], ◌∷◌, ◌++◌, Option, Some, None, get_or, length, take, ap, refl, sym, subst}
use Rattle.std.proofs.lemmas.Bool.{and_parts, eqb-true, or_right}
use Rattle.std.proofs.lemmas.List.{map-append, take_more}
use Rattle.std.proofs.lemmas.List.Elements.{All-get_or}
use Rattle.std.proofs.lemmas.List.Folds.{list_any-append}
use Rattle.std.specs.Option.{IfSome}
use Rattle.sc_value.specs.Datum.{Datum}
use Rattle.sc_lineage.specs.Dependencies.{PlaceData}
use Rattle.sc_lineage.specs.Meaning.{local_stream}
use Rattle.sc_lineage.specs.ScriptData.{WorkData}
use Rattle.sc_lineage.specs.Streams.{whole_stream}
use Rattle.sc_lineage.specs.Views.{place_data_of}
use Rattle.sc_compute.specs.Caching.{IsOwnPart}
use Rattle.sc_compute.specs.Keeping.{AreOwnRows, same_place}
use Rattle.sc_compute.specs.Needs.{HasJust, is_among, is_place, places_in}
use Rattle.sc_compute.specs.declared.caching.CachedPart.{CachedPart}
use Rattle.sc_compute.specs.declared.kept.Kept.{Kept}
use Rattle.sc_compute.proofs.NeedsLemmas.{place_same}

-- Something is put in under two numbers.
module _ {A : Type 0} (P : ℕ → ℕ → A → Type 0) (before after : ℕ × ℕ → Option A) (node p : ℕ)
    (right : (n q : ℕ) → IfSome (before (n, q)) (P n q)) (x : A) (is : P node p x)
    (updates : (at : ℕ × ℕ) → after at ≡ cond (same_place (node, p) at) (Some x) (before at)) where
  pub right-under_two : (n q : ℕ) → IfSome (after (n, q)) (P n q)
  right-under_two n q =
      subst (λ o. IfSome o (P n q)) (sym (updates (n, q))) (here (same_place (node, p) (n, q)) refl)
    where
      here : (b : Bool) → same_place (node, p) (n, q) ≡ b
          → IfSome (cond b (Some x) (before (n, q))) (P n q)
      here true same =
          let parts = and_parts (nat_eq node n) (nat_eq p q) same in
          subst (λ m. P n m x) (eqb-true p q parts.1)
          (subst (λ m. P m p x) (eqb-true node n parts.0) is)
      here false other = right n q

-- what is kept of a partition is its stream
abbrev pub IsRight : WorkData → ℕ → ℕ → Option Kept → Type 0
IsRight work node p kept = IfSome kept (λ k. k.stream ≡ local_stream work node p)

module _ (work : WorkData) (before after : ℕ × ℕ → Option Kept) (node p : ℕ)
    (right : (n q : ℕ) → IsRight work n q (before (n, q))) where
  -- one is put in
  pub right-inserted : (kept : Kept) → kept.stream ≡ local_stream work node p
      → ((at : ℕ × ℕ) → after at ≡ cond (same_place (node, p) at) (Some kept) (before at))
      → (n q : ℕ) → IsRight work n q (after (n, q))
  right-inserted kept is updates =
      right-under_two (λ n q (k : Kept). k.stream ≡ local_stream work n q) before after node p right
      kept is updates

  -- one is taken out
  pub right-removed : ((at : ℕ × ℕ) → after at ≡ cond (same_place (node, p) at) None (before at))
      → (n q : ℕ) → IsRight work n q (after (n, q))
  right-removed updates n q =
      subst (IsRight work n q) (sym (updates (n, q))) (here (same_place (node, p) (n, q)))
    where
      here : (b : Bool) → IsRight work n q (cond b None (before (n, q)))
      here true = tt
      here false = right n q

-- a partition is kept, if it was or is put in
pub kept_inserted : {A : Type 0} (before after : ℕ × ℕ → Option A) (one : PlaceData) (x : A)
    → ((at : ℕ × ℕ)
    → after at ≡ cond (same_place (one.node, one.partition) at) (Some x) (before at))
    → (at : PlaceData) → is_some (after (at.node, at.partition)) ≡ true
    → (is_some (before (at.node, at.partition)) ≡ true) ⊎ (at ≡ one)
kept_inserted before after one x updates at is =
    by (is_place one at) refl
    (subst (λ o. is_some o ≡ true) (updates (at.node, at.partition)) is)
  where
    by : (b : Bool) → is_place one at ≡ b
        → is_some (cond b (Some x) (before (at.node, at.partition))) ≡ true
        → (is_some (before (at.node, at.partition)) ≡ true) ⊎ (at ≡ one)
    by true same there = inr (sym (place_same one at same))
    by false other there = inl there

-- a partition was kept that is kept where another is taken out
pub kept_removed : {A : Type 0} (before after : ℕ × ℕ → Option A) (one at : PlaceData)
    → ((q : ℕ × ℕ) → after q ≡ cond (same_place (one.node, one.partition) q) None (before q))
    → is_some (after (at.node, at.partition)) ≡ true
    → is_some (before (at.node, at.partition)) ≡ true
kept_removed before after one at updates is =
    by (is_place one at)
    (subst (λ o. is_some o ≡ true) (updates (at.node, at.partition)) is)
  where
    by : (b : Bool) → is_some (cond b None (before (at.node, at.partition))) ≡ true
        → is_some (before (at.node, at.partition)) ≡ true
    by true there = cc
    by false there = there

-- the rows of one more partition are put in
module _ (before after : ℕ × ℕ → Option (List Datum)) (part : CachedPart)
    (updates : (at : ℕ × ℕ) → after at
    ≡ cond (same_place (part.at.node, part.at.partition) at) (Some part.rows) (before at)) where
  pub own_more : (work : WorkData) → IsOwnPart work part → AreOwnRows work before
      → AreOwnRows work after
  own_more work own right =
      right-under_two (λ n q (rows : List Datum). whole_stream rows ≡ local_stream work n q)
      before after part.at.node part.at.partition right part.rows (sym own) updates

  pub just_more : (parts : List CachedPart) → HasJust before parts
      → HasJust after (parts ++ part ∷ [])
  just_more parts just at =
      ap is_some (updates (at.node, at.partition))
      ∙ by (is_place (place_data_of part.at) at) (just at)
      ∙ sym (ap (λ ps. is_among ps at) (map-append (λ q. place_data_of q.at) parts (part ∷ []))
      ∙ list_any-append (λ q. is_place q at) (places_in parts) (place_data_of part.at ∷ []))
    where
      by : (b : Bool) → is_some (before (at.node, at.partition)) ≡ is_among (places_in parts) at
          → is_some (cond b (Some part.rows) (before (at.node, at.partition)))
          ≡ (is_among (places_in parts) at || (b || false))
      by true same = sym (or_right (is_among (places_in parts) at) true refl)
      by false same = same ∙ sym (or_nothing (is_among (places_in parts) at))
        where
          or_nothing : (b : Bool) → (b || false) ≡ b
          or_nothing true = refl
          or_nothing false = refl

-- the rows of the next of some partitions are put in
module _ (before after : ℕ × ℕ → Option (List Datum)) (parts : List CachedPart) (i : ℕ)
    (part : CachedPart) (rows : List Datum) (within : i < length parts)
    (is : part ≡ get_or parts i part) (same : rows ≡ part.rows)
    (updates : (at : ℕ × ℕ) → after at
    ≡ cond (same_place (part.at.node, part.at.partition) at) (Some rows) (before at)) where
  put : (at : ℕ × ℕ) → after at
      ≡ cond (same_place (part.at.node, part.at.partition) at) (Some part.rows) (before at)
  put at =
      updates at
      ∙ ap (λ rs. cond (same_place (part.at.node, part.at.partition) at) (Some rs) (before at)) same

  pub own_next : (work : WorkData) → All (IsOwnPart work) parts → AreOwnRows work before
      → AreOwnRows work after
  own_next work all =
      own_more before after part put work
      (subst (IsOwnPart work) (sym is) (All-get_or (IsOwnPart work) parts i part within all))

  pub just_next : HasJust before (take i parts) → HasJust after (take (i + 1) parts)
  just_next just =
      subst (HasJust after)
      (sym (take_more parts i part within ∙ ap (λ p. take i parts ++ p ∷ []) (sym is)))
      (just_more before after part put (take i parts) just)
