-- Separators that are one character.
use Rattle.std.specs.Prelude.{◌≡◌, ◌<◌, List, [], ◌∷◌, replicate}
use Rattle.sc_value.specs.Datum.{Datum, text}
use Rattle.sc_batch.specs.declared.words.Separator.{Separator}

-- each row is this character, which is one of ASCII
pub record IsSeparator (rows : List Datum) (separator : Separator) : Type 0 where
  pub are : rows ≡ replicate separator.rows (text (separator.byte ∷ []))
  pub ascii : separator.byte < 128
