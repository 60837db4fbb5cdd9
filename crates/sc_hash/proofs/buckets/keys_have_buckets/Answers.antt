use Rattle.std.proofs.Common.{ℕ, ◌<◌, ℤ, pos, negsuc, arith}
use Rattle.sc_hash.specs.Hashes.{bucket_of_hash, hash_of_key}
use Rattle.sc_hash.proofs.buckets.keys_have_buckets.Goals as goal

within : (n : ℕ) (hash : ℤ) → 0 < n → bucket_of_hash n hash < n
within n (pos a) some = omega arith
within n (negsuc a) some = omega arith

pub returns : goal.returns
returns c = λ n key some. within n (hash_of_key key) some
