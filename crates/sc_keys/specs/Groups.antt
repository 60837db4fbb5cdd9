-- Keys in order of first appearance, and the groups of the rows of each.
use Rattle.std.specs.Prelude.{◌≡◌, ◌<◌, ◌≤◌, Bool, List, [], ◌∷◌, ◌++◌, fold, if◌then◌else◌, length, map, true, ℕ}
use Rattle.std.specs.List.{All, IsDistinct, list_any, position_or_len}
use Rattle.sc_base.specs.Limits.{count_limit}

-- keys with one more behind them, unless it is among them
abbrev pub with_key : {K : Type 0} → (K → K → Bool) → List K → K → List K
with_key same keys key = if list_any (same key) keys then keys else keys ++ key ∷ []

-- each key once, in order of first appearance
abbrev pub distinct : {K : Type 0} → (K → K → Bool) → List K → List K
distinct same keys = fold (with_key same) [] keys

-- the place of a key among others, or how many these are
abbrev pub place_in : {K : Type 0} → (K → K → Bool) → List K → K → ℕ
place_in same keys key = position_or_len (same key) keys

-- the number of each row's group: the place of its key among the distinct ones
abbrev pub groups : {K : Type 0} → (K → K → Bool) → List K → List ℕ
groups same keys = map (place_in same (distinct same keys)) keys

-- some keys are those of a list, each of them once
pub record AreDistinct {K : Type 0} (same : K → K → Bool) (keys once : List K) : Type 0 where
  pub apart : IsDistinct same once
  pub all : All (λ key. list_any (same key) once ≡ true) keys
  pub own : All (λ key. list_any (same key) keys ≡ true) once

-- numbers of rows tell groups of one key, counted from 0 in order of first appearance, where there
-- are no more keys than are counted
pub record AreGroups {K : Type 0} (same : K → K → Bool) (keys : List K) (numbers : List ℕ)
    (count : ℕ) : Type 0 where
  pub are : numbers ≡ groups same keys
  pub counted : count ≡ length (distinct same keys)
  pub below : All (λ number. number < count) numbers
  pub within : length keys ≤ count_limit
