-- Marks: what is marked by way of a node, and that one pass down finds all that is reached.
use Rattle.std.proofs.Common.{◌≡◌, ◌∙◌, ℕ, zero, suc, ◌+◌, ◌-◌, ◌<◌, ◌≤◌, Bool, true, false, List, [], ◌∷◌, ◌++◌, length, get_or, All, inl, inr, ◌⊎◌, refl, ap, sym, subst, arith, replicate}
use Rattle.std.proofs.Math.ListN.{set}
use Rattle.std.proofs.lemmas.Bool.{cases_eq, false≢true}
use Rattle.std.proofs.lemmas.List.{get_or-set_same, get_or-set_other, length-set, length-replicate}
use Rattle.std.proofs.lemmas.List.Elements.{All-nil, All-cons, All-head, All-tail, All-contains, All-weaker}
use Rattle.std.specs.List.{Contains}
use Rattle.sc_stagecut.specs.Marking.{AreMarked, AreReached, is_marked}
use Rattle.sc_stagecut.specs.Reaching.{Leads, Reaches}

-- What an item is an item of.
Contains-head : (x : ℕ) (xs : List ℕ) → Contains (x ∷ xs) x
Contains-head x xs = (0, omega arith, refl)

Contains-behind : (y x : ℕ) (xs : List ℕ) → Contains xs x → Contains (y ∷ xs) x
Contains-behind y x xs c = (suc c.0, omega (arith, c.1), c.2)

-- some nodes marked one after another
abbrev pub marked_all : List ℕ → List Bool → List Bool
marked_all [] marks = marks
marked_all (k ∷ ks) marks = marked_all ks (set marks k true)

mark_kept : (marks : List Bool) (k j : ℕ) → is_marked marks j ≡ true
    → is_marked (set marks k true) j ≡ true
mark_kept marks k j is = decided (cases_eq j k)
  where
    decided : (j ≡ k) ⊎ (j ≡ k → ⊥) → get_or (set marks k true) j false ≡ true
    decided (inr other) = get_or-set_other marks k j true false other ∙ is
    decided (inl same) =
        let P : ℕ → Type 0 = λ i. get_or (set marks k true) i false ≡ true in
        subst P (sym same) (here marks k (subst (λ i. get_or marks i false ≡ true) same is))
      where
        here : (ms : List Bool) (i : ℕ) → get_or ms i false ≡ true
            → get_or (set ms i true) i false ≡ true
        here [] i m = m
        here (m ∷ ms) zero h = refl
        here (m ∷ ms) (suc i) h = here ms i h

mark_only : (marks : List Bool) (k j : ℕ) → is_marked (set marks k true) j ≡ true
    → (is_marked marks j ≡ true) ⊎ (k ≡ j)
mark_only marks k j is = decided (cases_eq j k)
  where
    decided : (j ≡ k) ⊎ (j ≡ k → ⊥) → (get_or marks j false ≡ true) ⊎ (k ≡ j)
    decided (inl same) = inr (sym same)
    decided (inr other) = inl (sym (get_or-set_other marks k j true false other) ∙ is)

pub marked_all-marks : (ks : List ℕ) (marks : List Bool) → All (λ k. k < length marks) ks
    → AreMarked ks marks (marked_all ks marks)
marked_all-marks [] marks below = record {
  same = refl;
  kept = λ k is. is;
  added = All-nil (λ k. is_marked marks k ≡ true);
  only = λ k is. inl is;
}
marked_all-marks (k ∷ ks) marks below =
    let ms = set marks k true in
    let new = marked_all ks ms in
    let len : length ms ≡ length marks = length-set marks k true in
    let rest = marked_all-marks ks ms
    (All-weaker (λ j. j < length marks) (λ j. j < length ms) (λ j h. omega (arith, len)) ks
    (All-tail (λ j. j < length marks) k ks below)) in
    let at : k < length marks = All-head (λ j. j < length marks) k ks below in
    record {
      same = rest.same ∙ len;
      kept = λ j is. rest.kept j (mark_kept marks k j is);
      added = All-cons (λ j. is_marked new j ≡ true) k ks
          (rest.kept k (get_or-set_same marks k true false at)) rest.added;
      only = λ j is. first j (rest.only j is);
    }
  where
    first : (j : ℕ) → (is_marked (set marks k true) j ≡ true) ⊎ Contains ks j
        → (is_marked marks j ≡ true) ⊎ Contains (k ∷ ks) j
    first j (inr c) = inr (Contains-behind k j ks c)
    first j (inl is) = second (mark_only marks k j is)
      where
        second : (is_marked marks j ≡ true) ⊎ (k ≡ j)
            → (is_marked marks j ≡ true) ⊎ Contains (k ∷ ks) j
        second (inl m) = inl m
        second (inr same) =
            let P : ℕ → Type 0 = λ i. Contains (k ∷ ks) i in
            inr (subst P same (Contains-head k ks))

-- In a pass down over the nodes, those from k on were looked at.
pub record Passes (next : ℕ → List ℕ) (from k : ℕ) (marks : List Bool) : Type 0 where
  pub sound : (j : ℕ) → is_marked marks j ≡ true → Reaches next from j
  pub start : is_marked marks from ≡ true
  pub closed : (j : ℕ) → k ≤ j → is_marked marks j ≡ true
      → All (λ p. is_marked marks p ≡ true) (next j)

-- A pass down over the nodes.
module _ (next : ℕ → List ℕ) (from : ℕ) (before : (k : ℕ) → All (λ p. p < k) (next k)) where
  -- one step more
  pub reaches-step : (j p : ℕ) → Reaches next from j → Contains (next j) p → Reaches next from p
  reaches-step j p reach c = (reach.0 ++ p ∷ [], along from reach.0 reach.1)
    where
      along : (i : ℕ) (path : List ℕ) → Leads next i path j → Leads next i (path ++ p ∷ []) p
      along i [] leads =
          let P : ℕ → Type 0 = λ k. Contains (next k) p in
          (subst P (sym leads) c, refl)
      along i (via ∷ path) leads = (leads.0, along via path leads.1)

  -- only the first node is marked, and no node from k on leads anywhere but it
  pub passes-first : (n k : ℕ) → from < n → k ≡ from + 1
      → Passes next from k (set (replicate n false) from true)
  passes-first n k within is = record {
    sound = λ j m. sound_at j (mark_only (replicate n false) from j m);
    start = get_or-set_same (replicate n false) from true false
        (omega (arith, length-replicate n false));
    closed = λ j past m. absurd (past_at j past (mark_only (replicate n false) from j m));
  }
    where
      unmarked : (j m : ℕ) → get_or (replicate m false) j false ≡ false
      unmarked j zero = refl
      unmarked zero (suc m) = refl
      unmarked (suc j) (suc m) = unmarked j m

      sound_at : (j : ℕ) → (is_marked (replicate n false) j ≡ true) ⊎ (from ≡ j)
          → Reaches next from j
      sound_at j (inl m) = absurd (false≢true (sym (unmarked j n) ∙ m))
      sound_at j (inr same) = ([], same)

      past_at : (j : ℕ) → k ≤ j → (is_marked (replicate n false) j ≡ true) ⊎ (from ≡ j) → ⊥
      past_at j past (inl m) = false≢true (sym (unmarked j n) ∙ m)
      past_at j past (inr same) = omega arith

  -- a node that is marked marks those that it leads to
  pub passes-marked : (k : ℕ) (marks new : List Bool) → Passes next from (k + 1) marks
      → is_marked marks k ≡ true → AreMarked (next k) marks new → Passes next from k new
  passes-marked k marks new passes is marked = record {
    sound = λ j m. sound_at j (marked.only j m);
    start = marked.kept from passes.start;
    closed = λ j past m. closed_at j past (cases_eq j k) (marked.only j m);
  }
    where
      sound_at : (j : ℕ) → (is_marked marks j ≡ true) ⊎ Contains (next k) j → Reaches next from j
      sound_at j (inl m) = passes.sound j m
      sound_at j (inr c) = reaches-step k j (passes.sound k is) c

      closed_at : (j : ℕ) → k ≤ j → (j ≡ k) ⊎ (j ≡ k → ⊥)
          → (is_marked marks j ≡ true) ⊎ Contains (next k) j
          → All (λ p. is_marked new p ≡ true) (next j)
      closed_at j past (inl same) m =
          let P : ℕ → Type 0 = λ i. All (λ p. is_marked new p ≡ true) (next i) in
          subst P (sym same) marked.added
      closed_at j past (inr other) (inl m) =
          All-weaker (λ p. is_marked marks p ≡ true) (λ p. is_marked new p ≡ true)
          (λ p h. marked.kept p h) (next j) (passes.closed j (omega arith) m)
      closed_at j past (inr other) (inr c) =
          let below = All-contains (λ p. p < k) (next k) j (before k) c in absurd (omega arith)

  -- one that isn't marks none
  pub passes-unmarked : (k : ℕ) (marks : List Bool) → Passes next from (k + 1) marks
      → is_marked marks k ≡ false → Passes next from k marks
  passes-unmarked k marks passes is = record {
    sound = passes.sound;
    start = passes.start;
    closed = λ j past m. closed_at j past m (cases_eq j k);
  }
    where
      closed_at : (j : ℕ) → k ≤ j → is_marked marks j ≡ true → (j ≡ k) ⊎ (j ≡ k → ⊥)
          → All (λ p. is_marked marks p ≡ true) (next j)
      closed_at j past m (inr other) = passes.closed j (omega arith) m
      closed_at j past m (inl same) =
          absurd (false≢true (sym is ∙ ap (λ i. is_marked marks i) (sym same) ∙ m))

  -- all were looked at
  pub passes-down_marked : (n : ℕ) (marks new : List Bool) → 0 < n → Passes next from n marks
      → is_marked marks (n - 1) ≡ true → AreMarked (next (n - 1)) marks new
      → Passes next from (n - 1) new
  passes-down_marked n marks new some passes is marked =
      let one : n ≡ (n - 1) + 1 = omega arith in
      let P : ℕ → Type 0 = λ k. Passes next from k marks in
      passes-marked (n - 1) marks new (subst P one passes) is marked

  pub passes-down_unmarked : (n : ℕ) (marks : List Bool) → 0 < n → Passes next from n marks
      → is_marked marks (n - 1) ≡ false → Passes next from (n - 1) marks
  passes-down_unmarked n marks some passes is =
      let one : n ≡ (n - 1) + 1 = omega arith in
      let P : ℕ → Type 0 = λ k. Passes next from k marks in
      passes-unmarked (n - 1) marks (subst P one passes) is

  -- no path leads up
  pub reaches-below : (k : ℕ) → Reaches next from k → k ≤ from
  reaches-below k reach = along from reach.0 reach.1
    where
      along : (i : ℕ) (path : List ℕ) → Leads next i path k → k ≤ i
      along i [] leads = omega arith
      along i (via ∷ path) leads =
          let rest = along via path leads.1 in
          let down = All-contains (λ p. p < i) (next i) via (before i) leads.0 in
          omega (arith, rest, down)

  pub passes-all : (k : ℕ) (marks : List Bool) → k ≤ 0 → Passes next from k marks
      → AreReached next from marks
  passes-all k marks all passes j =
      (passes.sound j, λ reach. along from reach.0 reach.1 passes.start)
    where
      along : (i : ℕ) (path : List ℕ) → Leads next i path j → is_marked marks i ≡ true
          → is_marked marks j ≡ true
      along i [] leads m = ap (λ n. is_marked marks n) (sym leads) ∙ m
      along i (via ∷ path) leads m =
          along via path leads.1
          (All-contains (λ p. is_marked marks p ≡ true) (next i) via
          (passes.closed i (omega arith) m) leads.0)
