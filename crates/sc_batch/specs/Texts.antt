-- Columns of texts, and what heads make of two texts.
use Rattle.std.specs.Prelude.{ℕ, Bool, false, ◌||◌, ◌++◌, List, replicate}
use Rattle.std.specs.Cmp.Lexicographic.{slice_cmp}
use Rattle.std.specs.Ordering.{is_lt, nat_cmp}
use Rattle.std.specs.Str.{bytes_eq}
use Rattle.sc_expr.specs.declared.exprs.Head.{Head}
use Rattle.sc_expr.specs.declared.exprs.Head.TheVariants as heads
use Rattle.sc_batch.specs.declared.texts.TextColumn.{TextColumn}
use Rattle.sc_batch.specs.declared.texts.TextColumn.TheVariants as columns

-- the texts of a column
abbrev pub texts_in : TextColumn → List (List ℕ)
texts_in (columns.Each all) = all.now
texts_in (columns.Same t n) = replicate n t.now

-- the truth value that a head gives of two texts
unfoldable pub text_test : Head → List ℕ → List ℕ → Bool
text_test heads.Eq s t = bytes_eq s t
text_test heads.Lt s t = is_lt (slice_cmp nat_cmp s t)
text_test heads.Le s t = is_lt (slice_cmp nat_cmp s t) || bytes_eq s t
text_test h s t = false

-- a text and another one behind it
abbrev pub joined : List ℕ → List ℕ → List ℕ
joined s t = s ++ t
