-- What a line adds to the lines before it, and which fault it has otherwise: five tests, of which
-- the first that fails names the fault.
use Rattle.std.specs.Prelude.{ℕ, Bool, true, false, ◌==◌, ◌&&◌, not, nat_le, nat_lt, List, [], ◌∷◌, ◌++◌, length, map, Option, Some, None, Result, Ok, Err, if◌then◌else◌}
use Rattle.std.specs.List.{list_all, list_any}
use Rattle.std.specs.Str.Parse.{digits_value}
use Rattle.sc_value.specs.Numbers.{is_digits}
use Rattle.sc_value.specs.Words.{words_of}
use Rattle.sc_plan.specs.declared.faults.PlanFaultKind.{PlanFaultKind}
use Rattle.sc_plan.specs.declared.faults.PlanFaultKind.TheVariants.{Limit, Syntax, UnknownName, Twice}
use Rattle.sc_plan.specs.declared.lines.PlanLine.{PlanLine}
use Rattle.sc_plan.specs.declared.tables.LineKind.{LineKind}
use Rattle.sc_plan.specs.Limits.{line_limit, lines_limit, number_limit}
use Rattle.sc_plan.specs.PlanLines.{line_of, names_below, repeats, tells_in_order}
use Rattle.sc_plan.specs.Tables.{kind_named, number_count}

-- whether a word begins with `#`
abbrev pub is_comment : List ℕ → Bool
is_comment [] = false
is_comment (c ∷ cs) = c == 35

-- whether words are none, or the first of them begins a comment
abbrev pub are_skipped : List (List ℕ) → Bool
are_skipped [] = true
are_skipped (word ∷ words) = is_comment word

-- whether a line is blank, or its first word begins with `#`
abbrev pub is_skipped : List ℕ → Bool
is_skipped line = are_skipped (words_of line)

-- whether words are as many numbers as a kind takes
abbrev pub is_shaped : LineKind → List (List ℕ) → Bool
is_shaped kind args = (length args == number_count kind) && list_all is_digits args

-- whether a word is a number that a plan may have
abbrev pub is_plan_number : List ℕ → Bool
is_plan_number word = is_digits word && nat_le (digits_value 10 word) number_limit

-- Whether a line keeps the other limits behind these: there is room for it, its executor is one of
-- the run, and it is told lost no earlier than it is wiped.
abbrev pub fits : ℕ → List PlanLine → PlanLine → Bool
fits executors before line =
    nat_lt (length before) lines_limit && (names_below executors line && tells_in_order line)

-- the last two tests
abbrev pub added : ℕ → List PlanLine → PlanLine → Result PlanLine PlanFaultKind
added executors before line =
    if not (fits executors before line) then Err Limit
    else (if list_any (repeats line) before then Err Twice else Ok line)

-- the tests of a line of a known kind: the shape, the numbers, the other limits, the lines before
abbrev pub kind_read :
    ℕ → List PlanLine → LineKind → List (List ℕ) → Result PlanLine PlanFaultKind
kind_read executors before kind args =
    if not (is_shaped kind args) then Err Syntax
    else (if not (list_all is_plan_number args) then Err Limit
    else added executors before (line_of kind (map (digits_value 10) args)))

-- the tests of a line whose first word names a kind or none
abbrev pub named_read :
    ℕ → List PlanLine → Option LineKind → List (List ℕ) → Result PlanLine PlanFaultKind
named_read executors before None args = Err UnknownName
named_read executors before (Some kind) args = kind_read executors before kind args

-- what words say
abbrev pub words_read : ℕ → List PlanLine → List (List ℕ) → Result PlanLine PlanFaultKind
words_read executors before [] = Err UnknownName
words_read executors before (word ∷ args) =
    named_read executors before (kind_named word) args

-- what a line says that isn't skipped
abbrev pub line_read : ℕ → List PlanLine → List ℕ → Result PlanLine PlanFaultKind
line_read executors before line =
    if nat_lt line_limit (length line) then Err Limit
    else words_read executors before (words_of line)

-- the lines so far, with one more
abbrev pub with_line :
    List PlanLine → Result PlanLine PlanFaultKind → Result (List PlanLine) PlanFaultKind
with_line before (Ok line) = Ok (before ++ line ∷ [])
with_line before (Err kind) = Err kind

-- what a line makes of the lines before it, where it may be skipped
abbrev pub next_read : ℕ → List PlanLine → List ℕ → Result (List PlanLine) PlanFaultKind
next_read executors before line =
    if is_skipped line then Ok before else with_line before (line_read executors before line)
