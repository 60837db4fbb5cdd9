-- How many sorts lack their bounds.
use Rattle.std.proofs.Common.{◌≡◌, ◌∙◌, ◌⊎◌, inl, inr, ℕ, zero, suc, ◌<◌, ◌≤◌, true, not, List, [], ◌∷◌, Option, Some, None, is_some, unwrap_or, true≢false, length, slice_get, refl, ap, sym, subst, arith}
use Rattle.std.proofs.lemmas.Bool.{and_parts, cases_eq, cases_lt, false≢true}
use Rattle.sc_base.specs.Lists.{at_or}
use Rattle.sc_value.specs.Keys.{KeyData}
use Rattle.sc_ids.specs.Changes.{change_at}
use Rattle.sc_ids.proofs.ChangeLemmas.{at_or_change_other, at_or_change_same, length_change_at}
use Rattle.sc_lineage.specs.NodeData.{NodeData, cache_node, shuffle_node, sort_by_key}
use Rattle.sc_lineage.specs.ScriptData.{WorkData}
use Rattle.sc_lineage.proofs.PlaceLemmas.{at_or-found, at_or-past}
use Rattle.sc_compute.specs.Stages.{bounds_at}
use Rattle.sc_jobs.proofs.NodeLemmas.{sort_is}
use Rattle.sc_stagecut.specs.Carrying.{AreRightBounds, CarriedData, is_sort, is_unbounded, with_bounds}
use Rattle.sc_lineage.specs.Meaning.{bounds_step, known_of, meanings_by}
use Rattle.sc_desk.specs.Begins.{IsPassedFor}
use Rattle.sc_desk.specs.DeskData.{PassedData, passed_data}

-- how many places have no bounds
abbrev pub places_left : List (Option (List KeyData)) → ℕ
places_left [] = 0
places_left (None ∷ bounds) = suc (places_left bounds)
places_left (Some found ∷ bounds) = places_left bounds

-- one less where some are put at a place that has none
fewer_left : (bounds : List (Option (List KeyData))) (k : ℕ) (found : List KeyData)
    → k < length bounds → at_or bounds k None ≡ None
    → places_left (change_at bounds k (λ _. Some found)) < places_left bounds
fewer_left [] k found within none = absurd (omega arith)
fewer_left (None ∷ bounds) zero found within none = omega arith
fewer_left (Some b ∷ bounds) zero found within none =
    absurd (true≢false (ap is_some none))
fewer_left (None ∷ bounds) (suc k) found within none =
    let rest = fewer_left bounds k found (omega arith) none in omega (arith, rest)
fewer_left (Some b ∷ bounds) (suc k) found within none =
    fewer_left bounds k found (omega arith) none

pub fewer_behind : (old new : List (Option (List KeyData))) (k : ℕ) (found : List KeyData)
    → new ≡ change_at old k (λ _. Some found) → k < length old → at_or old k None ≡ None
    → places_left new < places_left old
fewer_behind old new k found is within none =
    subst (λ bs. places_left bs < places_left old) (sym is) (fewer_left old k found within none)

-- a node that lacks bounds has none
pub lacks_none : (node : Option NodeData) (bounds : Option (List KeyData))
    → is_unbounded node bounds ≡ true → bounds ≡ None
lacks_none None bounds h = absurd (false≢true h)
lacks_none (Some node) None h = refl
lacks_none (Some node) (Some b) h =
    absurd (false≢true (and_parts (is_sort node) (not (is_some (Some b))) h).1)

-- it is a sort
pub lacking_is : (node : Option NodeData) (bounds : Option (List KeyData))
    → is_unbounded node bounds ≡ true
    → (parent n : ℕ) × (node ≡ Some (shuffle_node sort_by_key parent n))
lacking_is None bounds h = absurd (false≢true h)
lacking_is (Some node) bounds h =
    let sort = sort_is node (and_parts (is_sort node) (not (is_some bounds)) h).0 in
    (sort.0, sort.1, ap Some sort.2)

-- and it is there
pub lacks_within : (nodes : List NodeData) (k : ℕ) (bounds : Option (List KeyData))
    → is_unbounded (slice_get nodes k) bounds ≡ true → k < length nodes
lacks_within [] k bounds h = absurd (false≢true h)
lacks_within (n ∷ nodes) zero bounds h = omega arith
lacks_within (n ∷ nodes) (suc k) bounds h =
    let rest = lacks_within nodes k bounds h in omega (arith, rest)

-- ---- bounds that were found

-- Bounds that were found for a sort, beside those that are carried.
module _ (work : WorkData) (carried : CarriedData) (sort : ℕ) (found : List KeyData)
    (is : found ≡ bounds_at work sort) (right : AreRightBounds work carried) where
  abbrev changed : List (Option (List KeyData))
  changed = change_at carried.bounds sort (λ _. Some found)

  abbrev meant : ℕ → ℕ → List KeyData
  meant parent n =
      bounds_step (meanings_by (known_of work) work) (shuffle_node sort_by_key parent n)

  own : (k parent n : ℕ) → k ≡ sort
      → slice_get work.script.nodes k ≡ Some (shuffle_node sort_by_key parent n)
      → bounds_at work sort ≡ meant parent n
  own k parent n same node =
      ap (bounds_step (meanings_by (known_of work) work))
      (at_or-found work.script.nodes sort (shuffle_node sort_by_key parent n) (cache_node 0)
      (subst (λ i. slice_get work.script.nodes i ≡ Some (shuffle_node sort_by_key parent n)) same
      node))

  -- they stay right
  pub found_right : AreRightBounds work (with_bounds carried sort found)
  found_right k parent n bounds node at =
      by (cases_eq k sort) (cases_lt sort (length carried.bounds))
    where
      by : (k ≡ sort) ⊎ (k ≡ sort → ⊥)
          → (sort < length carried.bounds) ⊎ (length carried.bounds ≤ sort)
          → bounds ≡ meant parent n
      by (inl same) (inl within) =
          let e : at_or changed sort None ≡ Some found =
          at_or_change_same carried.bounds sort None (λ _. Some found) within in
          ap (λ o. unwrap_or o bounds) (sym at ∙ ap (λ i. at_or changed i None) same ∙ e)
          ∙ is ∙ own k parent n same node
      by (inl same) (inr past) =
          let len = length_change_at carried.bounds sort (λ _. Some found) in
          absurd (true≢false (ap is_some (sym at ∙ ap (λ i. at_or changed i None) same
          ∙ at_or-past changed sort None (omega (arith, past, len)))))
      by (inr other) within =
          right k parent n bounds node
          (sym (at_or_change_other carried.bounds sort k None (λ _. Some found) other) ∙ at)

-- so what goes on serves the next job again
pub found_passed : (work : WorkData) (passed : PassedData) (sort : ℕ) (found : List KeyData)
    → found ≡ bounds_at work sort → IsPassedFor work passed
    → IsPassedFor work (passed_data (with_bounds passed.carried sort found) passed.ordered)
found_passed work passed sort found is serves =
    record {
      carried = serves.carried;
      right = found_right work passed.carried sort found is serves.right;
      many = serves.many;
    }
