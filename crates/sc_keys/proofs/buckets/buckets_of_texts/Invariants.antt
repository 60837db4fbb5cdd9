use Rattle.std.proofs.Common.{◌≡◌, map, take}
use Rattle.sc_hash.specs.Hashes.{bucket_of}
use Rattle.sc_value.specs.Keys.{text_key}
use Rattle.sc_keys.proofs.buckets.buckets_of_texts.Given as goal

abbrev pub invariant-loop-i : goal.invariant-loop-i
invariant-loop-i l = l.out.items ≡ map (bucket_of l.n) (map text_key (take l.i l.keys))
