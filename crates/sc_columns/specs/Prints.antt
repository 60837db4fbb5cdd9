-- Printed rows as they are written.
use Rattle.std.specs.Prelude.{◌≡◌, List, Option, Result, Some, None, Ok, Err, [], ◌++◌, codes, length, slice_get, suc, take, zero, ℕ}
use Rattle.std.specs.Str.{IsUtf8}
use Rattle.sc_value.specs.Datum.{Datum}
use Rattle.sc_value.specs.Printing.{printed}

-- a text was written behind some bytes
pub record IsWritten (before after text : List ℕ) : Type 0 where
  pub bytes : after ≡ before ++ text
  pub utf8 : IsUtf8 text

-- a text was written behind some bytes, or a refusal left these and whatever came behind
abbrev pub Writes : {T E : Type 0} → Result T E → List ℕ → List ℕ → List ℕ → Type 0
Writes (Ok x) before after text = IsWritten before after text
Writes (Err e) before after text = take (length before) after ≡ before

-- the printed text of a row, if there is one
abbrev pub printed_row : Option Datum → List ℕ
printed_row None = []
printed_row (Some d) = printed d

-- the printed text of the row at a place
abbrev pub printed_at : List Datum → ℕ → List ℕ
printed_at rows i = printed_row (slice_get rows i)

-- what stands behind so many items of a list and in front of the next
abbrev pub separator : ℕ → List ℕ
separator zero = []
separator (suc n) = codes ", "
