-- The keys of rows.
use Rattle.std.specs.Prelude.{List, map, pos}
use Rattle.sc_value.specs.Datum.{Datum, number, text}
use Rattle.sc_value.specs.Keys.{KeyData, number_key, text_key}

-- the key that a value is: a number or a text. Any other value, which no checked script has as a
-- key, counts as the number 0
abbrev pub key_in : Datum → KeyData
key_in (number n) = number_key n
key_in (text t) = text_key t
key_in d = number_key (pos 0)

-- the key of each of some values
abbrev pub keys_in : List Datum → List KeyData
keys_in ds = map key_in ds
