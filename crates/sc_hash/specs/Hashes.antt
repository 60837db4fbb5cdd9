-- The hashes of keys, and the buckets that they fall into.
use Rattle.std.specs.Prelude.{ℕ, ◌/◌, ◌%◌, ◌<◌, ◌^◌, ℤ, pos, ◌+ℤ◌, ◌*ℤ◌, List, bit_xor, unsigned_abs}
use Rattle.std.specs.Char.Escape.{encode_utf16}
use Rattle.std.specs.Int.{w32, w64, cast_signed, cast_unsigned, int_rem_euclid, int_wrap}
use Rattle.std.specs.List.{flat_map, fold}
use Rattle.std.specs.Str.{chars}
use Rattle.sc_value.specs.Keys.{KeyData, number_key, text_key}

-- the UTF-16 units of a text that is given by its UTF-8 bytes
abbrev pub units_of : List ℕ → List ℕ
units_of text = flat_map encode_utf16 (chars text)

-- a hash with a unit more: 31 times what it was, and the unit, in 32 bits with a sign
abbrev pub with_unit : ℤ → ℕ → ℤ
with_unit hash unit = int_wrap w32 (hash *ℤ pos 31 +ℤ pos unit)

-- a hash with some units more
abbrev pub with_units : ℤ → List ℕ → ℤ
with_units hash units = fold with_unit hash units

-- the hash of a text, by its units from 0 on
abbrev pub hash_of_text : List ℕ → ℤ
hash_of_text text = with_units (pos 0) (units_of text)

-- the lower half of 64 bits and the upper half, by exclusive or, as a number with a sign
abbrev pub halves_joined : ℕ → ℤ
halves_joined bits = cast_signed w32 (bit_xor bits (bits / 2 ^ 32) % 2 ^ 32)

-- the hash of a number, by its 64 bits
abbrev pub hash_of_number : ℤ → ℤ
hash_of_number n = halves_joined (cast_unsigned w64 n)

-- the hash of a key
abbrev pub hash_of_key : KeyData → ℤ
hash_of_key (number_key n) = hash_of_number n
hash_of_key (text_key t) = hash_of_text t

-- of so many buckets the one of a hash: its remainder that isn't negative
abbrev pub bucket_of_hash : ℕ → ℤ → ℕ
bucket_of_hash n hash = unsigned_abs (int_rem_euclid hash (pos n))

-- of so many buckets the one of a key
abbrev pub bucket_of : ℕ → KeyData → ℕ
bucket_of n key = bucket_of_hash n (hash_of_key key)

-- where there are buckets, each key has one of them
abbrev pub KeysHaveBuckets : Type 0
KeysHaveBuckets = (n : ℕ) (key : KeyData) → 0 < n → bucket_of n key < n
