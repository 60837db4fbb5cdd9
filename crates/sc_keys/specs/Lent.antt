-- The data that lent keys stand for.
use Rattle.sc_value.specs.Keys.{KeyData, number_key, text_key}
use Rattle.sc_keys.specs.declared.lending.LentKey.{LentKey}
use Rattle.sc_keys.specs.declared.lending.LentKey.TheVariants.{Int, Text}

-- what a lent key stands for
abbrev pub lent_data : LentKey → KeyData
lent_data (Int n) = number_key n
lent_data (Text t) = text_key t.now
