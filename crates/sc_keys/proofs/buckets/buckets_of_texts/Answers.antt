use Rattle.std.proofs.Common.{rules, ◌∙◌, ap, arith, w32, SFits}
use Rattle.std.proofs.lemmas.Int.{to_z-of_z}
use Rattle.std.proofs.lemmas.Option.{get_or_from_slice_get}
use Rattle.sc_hash.specs.Hashes.{bucket_of, bucket_of_hash}
use Rattle.sc_value.specs.Keys.{text_key}
use Rattle.sc_keys.proofs.KeyLemmas.{twice_more}
use Rattle.sc_keys.proofs.buckets.buckets_of_texts.Goals as goal

pub loop-i-preserved : goal.loop-i-preserved
loop-i-preserved c =
    let ks = c.args.keys.now in
    let i = c.loop-i.i in
    let k = c.get.result.now in
    let hash_fits : SFits w32 c.hash_of_text.result = search rules in
    twice_more text_key (bucket_of c.args.n) ks i k c.bucket_of_hash.result c.loop-i.out.items
    c.push.new.self.items (omega arith) (get_or_from_slice_get ks i k k c.get.ensures)
    (c.bucket_of_hash.ensures.value
    ∙ ap (bucket_of_hash c.args.n)
    (to_z-of_z w32 c.hash_of_text.result hash_fits ∙ c.hash_of_text.ensures))
    c.loop-i.invariant c.in_ok-push.ensures.items
