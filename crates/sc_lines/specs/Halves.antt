-- A text in halves, and the lines of both.
use Rattle.std.specs.Prelude.{ℕ, ◌+◌, ◌≡◌, ◌≤◌, ◌<◌, ◌⊎◌, Err, IfOk, List, Result, Vec, get_or, length, map}
use Rattle.std.specs.declared.alloc.Global.{Global}
use Rattle.std.specs.List.{All}
use Rattle.std.specs.Str.{IsUtf8}
use Rattle.sc_base.specs.Limits.{count_limit}
use Rattle.sc_base.specs.declared.refusals.OrMemory.{OrMemory}
use Rattle.sc_base.specs.declared.refusals.OrMemory.TheVariants.{Fault}
use Rattle.sc_value.specs.Lines.{not_text, text_lines}
use Rattle.sc_value.specs.Spans.{IsPart, part_at}
use Rattle.sc_value.specs.declared.line_ends.NotText.{NotText}
use Rattle.sc_value.specs.declared.texts.Span.{Span}

-- a text is cut behind a line feed, or at its end
abbrev pub IsCut : List ℕ → ℕ → Type 0
IsCut text n =
    (n ≡ length text)
    ⊎ ((k : ℕ) × (n ≡ k + 1) × (k < length text) × (get_or text k 0 ≡ 10))

-- a span of a text that stands behind so many bytes
abbrev pub moved : ℕ → Span → Span
moved by span = record { from = by + span.from; to = by + span.to }

-- it ends within what is counted there too
abbrev pub CanMove : ℕ → Span → Type 0
CanMove by span = (span.from ≤ span.to) × (by + span.to ≤ count_limit)

-- the lines of a text lie at these spans
pub record AreLinesOf (text : List ℕ) (spans : List Span) : Type 0 where
  pub lines : map (part_at text) spans ≡ text_lines text
  pub parts : All (IsPart text) spans
  pub utf8 : IsUtf8 text

-- where the lines of a text lie; that it is none is told only of bytes that aren't UTF-8
pub record IsFound (text : List ℕ) (found : Result (Vec Span Global) (OrMemory NotText))
    : Type 0 where
  pub lines : IfOk found (λ spans. AreLinesOf text spans.items)
  pub not_text : found ≡ Err (Fault not_text) → IsUtf8 text → ⊥
