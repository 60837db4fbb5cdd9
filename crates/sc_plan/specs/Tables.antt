-- The table of the kinds of lines: how each is written, and how many numbers it takes.
use Rattle.std.specs.Prelude.{ℕ, List, [], ◌∷◌, codes, find, Option, option_map}
use Rattle.std.specs.Str.{bytes_eq}
use Rattle.sc_plan.specs.declared.tables.LineKind.{LineKind}
use Rattle.sc_plan.specs.declared.tables.LineKind.TheVariants as kinds

-- the kinds of lines, by their first words
abbrev pub line_kinds : List (List ℕ × LineKind)
line_kinds =
    (codes "fail", kinds.Fail)
    ∷ (codes "late", kinds.Late)
    ∷ (codes "twice", kinds.Twice)
    ∷ (codes "drop", kinds.Drop)
    ∷ (codes "lose", kinds.Lose)
    ∷ (codes "evict", kinds.Evict)
    ∷ []

-- the kind that a word names
abbrev pub kind_named : List ℕ → Option LineKind
kind_named word = option_map (λ entry. entry.1) (find (λ entry. bytes_eq word entry.0) line_kinds)

-- how many numbers a line of a kind has
abbrev pub number_count : LineKind → ℕ
number_count kinds.Fail = 3
number_count kinds.Late = 4
number_count kinds.Twice = 3
number_count kinds.Drop = 2
number_count kinds.Lose = 3
number_count kinds.Evict = 2
