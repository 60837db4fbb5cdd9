-- What a plan says of the attempts at a place.
use Rattle.std.specs.Prelude.{ℕ, Bool, false, List, Option, Some, None, filter_map, slice_get, if◌then◌else◌}
use Rattle.std.specs.List.{list_any}
use Rattle.sc_plan.specs.declared.lines.AttemptPlace.{AttemptPlace}
use Rattle.sc_plan.specs.declared.lines.PlanLine.{PlanLine}
use Rattle.sc_plan.specs.declared.lines.PlanLine.TheVariants as lines
use Rattle.sc_plan.specs.PlanLines.{is_same_place}

-- whether a line lets the attempts at a place fail
abbrev pub fails_at : AttemptPlace → PlanLine → Bool
fails_at place (lines.Fail p) = is_same_place p place
fails_at place line = false

-- whether a plan lets them fail
abbrev pub is_failed : List PlanLine → AttemptPlace → Bool
is_failed plan place = list_any (fails_at place) plan

-- whether a line lets their reports come twice
abbrev pub doubles_at : AttemptPlace → PlanLine → Bool
doubles_at place (lines.Twice p) = is_same_place p place
doubles_at place line = false

-- whether a plan lets them come twice
abbrev pub is_doubled : List PlanLine → AttemptPlace → Bool
is_doubled plan place = list_any (doubles_at place) plan

-- how many more reports are told before theirs, by a line
abbrev pub delay_at : AttemptPlace → PlanLine → Option ℕ
delay_at place (lines.Late p count) = if is_same_place p place then Some count else None
delay_at place line = None

-- how many more, by a plan: it has at most one line that says so
abbrev pub delay_of : List PlanLine → AttemptPlace → Option ℕ
delay_of plan place = slice_get (filter_map (delay_at place) plan) 0
