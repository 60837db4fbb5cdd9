use Rattle.std.proofs.Common.{◌≡◌, map, take}
use Rattle.sc_hash.specs.Hashes.{bucket_of}
use Rattle.sc_value.specs.Views.{key_data_of}
use Rattle.sc_keys.proofs.buckets.buckets_of_keys.Given as goal

abbrev pub invariant-loop-i : goal.invariant-loop-i
invariant-loop-i l = l.out.items ≡ map (bucket_of l.n) (map key_data_of (take l.i l.keys))
