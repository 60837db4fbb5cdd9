-- The lines of a plan: which numbers make which line, and which of them say the same.
use Rattle.std.specs.Prelude.{ℕ, ◌≤◌, ◌≡◌, Bool, true, false, ◌==◌, ◌&&◌, nat_le, nat_lt, List, [], ◌∷◌, ◌++◌, length}
use Rattle.std.specs.List.{AllByRecursion, list_any}
use Rattle.sc_base.specs.Lists.{at_or}
use Rattle.sc_ids.specs.declared.attempts.AttemptId.{AttemptId}
use Rattle.sc_plan.specs.declared.lines.AttemptPlace.{AttemptPlace}
use Rattle.sc_plan.specs.declared.lines.PlanLine.{PlanLine}
use Rattle.sc_plan.specs.declared.lines.PlanLine.TheVariants as lines
use Rattle.sc_plan.specs.declared.tables.LineKind.{LineKind}
use Rattle.sc_plan.specs.declared.tables.LineKind.TheVariants as kinds
use Rattle.sc_plan.specs.Limits.{lines_limit, number_limit}

-- the place of an attempt, whichever attempt of its stage it is in
abbrev pub place_of : AttemptId → AttemptPlace
place_of a = record { stage = a.stage; partition = a.partition; nth = a.nth }

-- whether two places are the same
abbrev pub is_same_place : AttemptPlace → AttemptPlace → Bool
is_same_place p q = (p.stage == q.stage) && ((p.partition == q.partition) && (p.nth == q.nth))

-- the place that the first three numbers name
abbrev pub place_from : List ℕ → AttemptPlace
place_from ns = record { stage = at_or ns 0 0; partition = at_or ns 1 0; nth = at_or ns 2 0 }

-- the line of a kind with these numbers
abbrev pub line_of : LineKind → List ℕ → PlanLine
line_of kinds.Fail ns = lines.Fail (place_from ns)
line_of kinds.Late ns = lines.Late (place_from ns) (at_or ns 3 0)
line_of kinds.Twice ns = lines.Twice (place_from ns)
line_of kinds.Drop ns = lines.Drop (at_or ns 0 0) (at_or ns 1 0)
line_of kinds.Lose ns = lines.Lose (at_or ns 0 0) (at_or ns 1 0) (at_or ns 2 0)
line_of kinds.Evict ns = lines.Evict (at_or ns 0 0) (at_or ns 1 0)

-- Whether a line says what another one says already: they are of one kind, and what tells lines of
-- this kind apart is equal.
abbrev pub repeats : PlanLine → PlanLine → Bool
repeats (lines.Fail p) (lines.Fail q) = is_same_place p q
repeats (lines.Late p c) (lines.Late q d) = is_same_place p q
repeats (lines.Twice p) (lines.Twice q) = is_same_place p q
repeats (lines.Drop e a) (lines.Drop f b) = (e == f) && (a == b)
repeats (lines.Lose e a t) (lines.Lose f b u) = e == f
repeats (lines.Evict e a) (lines.Evict f b) = (e == f) && (a == b)
repeats line other = false

-- whether the executor that a line names, if it names one, is below a number
abbrev pub names_below : ℕ → PlanLine → Bool
names_below executors (lines.Drop e a) = nat_lt e executors
names_below executors (lines.Lose e a t) = nat_lt e executors
names_below executors (lines.Evict e a) = nat_lt e executors
names_below executors line = true

-- whether an executor isn't told lost before it is wiped
abbrev pub tells_in_order : PlanLine → Bool
tells_in_order (lines.Lose e a t) = nat_le a t
tells_in_order line = true

-- the executors that lines name are below a number
abbrev pub AreBelow : ℕ → List PlanLine → Type 0
AreBelow executors ls = AllByRecursion (λ l. names_below executors l ≡ true) ls

-- no line repeats one that stands before it, there or among some before all of them
abbrev pub AreOnceBehind : List PlanLine → List PlanLine → Type 0
AreOnceBehind before [] = Unit {0}
AreOnceBehind before (l ∷ ls) =
    (list_any (repeats l) before ≡ false) × AreOnceBehind (before ++ l ∷ []) ls

-- the numbers of a place are at most so large
pub record IsSmallPlace (place : AttemptPlace) : Type 0 where
  pub stage : place.stage ≤ number_limit
  pub partition : place.partition ≤ number_limit
  pub nth : place.nth ≤ number_limit

-- the numbers of a line are at most so large
abbrev pub HasSmallNumbers : PlanLine → Type 0
HasSmallNumbers (lines.Fail p) = IsSmallPlace p
HasSmallNumbers (lines.Late p c) = IsSmallPlace p × (c ≤ number_limit)
HasSmallNumbers (lines.Twice p) = IsSmallPlace p
HasSmallNumbers (lines.Drop e a) = (e ≤ number_limit) × (a ≤ number_limit)
HasSmallNumbers (lines.Lose e a t) =
    (e ≤ number_limit) × (a ≤ number_limit) × (t ≤ number_limit)
HasSmallNumbers (lines.Evict e a) = (e ≤ number_limit) × (a ≤ number_limit)

-- what holds of the lines of every plan
pub record IsSoundPlan (ls : List PlanLine) : Type 0 where
  -- they are few
  pub few : length ls ≤ lines_limit
  -- their numbers are small
  pub small : AllByRecursion HasSmallNumbers ls
  -- no line says what a line before it says
  pub once : AreOnceBehind [] ls
  -- no executor is told lost before it is wiped
  pub told : AllByRecursion (λ l. tells_in_order l ≡ true) ls
