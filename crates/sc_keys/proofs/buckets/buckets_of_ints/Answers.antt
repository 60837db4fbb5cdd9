use Rattle.std.proofs.Common.{rules, ◌∙◌, ◌<◌, length, ap, sym, arith, get_or, pos, w32, w64, SFits}
use Rattle.std.proofs.lemmas.Int.{to_z-of_z}
use Rattle.std.proofs.lemmas.List.{get_or_default}
use Rattle.sc_hash.specs.Hashes.{bucket_of, bucket_of_hash, hash_of_number}
use Rattle.sc_value.specs.Keys.{number_key}
use Rattle.sc_keys.proofs.KeyLemmas.{twice_more}
use Rattle.sc_keys.proofs.buckets.buckets_of_ints.Goals as goal

pub loop-i-preserved : goal.loop-i-preserved
loop-i-preserved c =
    let ks = c.args.keys.now in
    let i = c.loop-i.i in
    let k = get_or ks i (pos 0) in
    let within : c.loop-i.i < length c.args.keys.now = omega arith in
    let key_fits : SFits w64 (get_or c.args.keys.now c.loop-i.i (pos 0)) = search rules in
    let hash_fits : SFits w32 c.hash_of_int.result = search rules in
    twice_more number_key (bucket_of c.args.n) ks i k c.bucket_of_hash.result c.loop-i.out.items
    c.push.new.self.items within (sym (get_or_default ks i (pos 0) k within))
    (c.bucket_of_hash.ensures.value
    ∙ ap (bucket_of_hash c.args.n) (to_z-of_z w32 c.hash_of_int.result hash_fits
    ∙ c.hash_of_int.ensures ∙ ap hash_of_number (to_z-of_z w64 k key_fits)))
    c.loop-i.invariant c.in_ok-push.ensures.items
