use Rattle.std.proofs.Common.{◌≡◌, ◌<◌, ℕ, List, Vec, Global, map, sym, subst}
use Rattle.std.proofs.lemmas.Result.{IfOk-weaker}
use Rattle.std.specs.List.{All}
use Rattle.sc_hash.specs.Hashes.{KeysHaveBuckets, bucket_of}
use Rattle.sc_value.specs.Keys.{KeyData, number_key, text_key}
use Rattle.sc_value.specs.Views.{key_data_of}
use Rattle.sc_keys.proofs.KeyLemmas.{All-mapped}
use Rattle.sc_keys.proofs.keyed.Keys.buckets.Goals as goal

below : KeysHaveBuckets → (n : ℕ) → 0 < n → (keys : List KeyData) (v : Vec ℕ Global)
    → v.items ≡ map (bucket_of n) keys → All (λ b. b < n) v.items
below law n some keys v are =
    subst (All (λ b. b < n)) (sym are)
    (All-mapped (bucket_of n) (λ b. b < n) (λ key. law n key some) keys)

pub returns-in-Some-clause-below : goal.returns-in-Some-clause-below
returns-in-Some-clause-below c =
    IfOk-weaker c.buckets_of_ints.result
    (λ v. v.items ≡ map (bucket_of c.args.n) (map number_key c.in-Some.ints.now))
    (λ v. All (λ b. b < c.args.n) v.items)
    (below c.keys_have_buckets.ensures c.args.n c.requires (map number_key c.in-Some.ints.now))
    c.buckets_of_ints.ensures

pub returns-in-Some-texts-clause-below : goal.returns-in-Some-texts-clause-below
returns-in-Some-texts-clause-below c =
    IfOk-weaker c.buckets_of_texts.result
    (λ v. v.items ≡ map (bucket_of c.args.n) (map text_key c.in-Some-texts.texts.now))
    (λ v. All (λ b. b < c.args.n) v.items)
    (below c.keys_have_buckets.ensures c.args.n c.requires
    (map text_key c.in-Some-texts.texts.now))
    c.buckets_of_texts.ensures

pub returns-clause-below : goal.returns-clause-below
returns-clause-below c =
    IfOk-weaker c.buckets_of_keys.result
    (λ v. v.items ≡ map (bucket_of c.args.n) (map key_data_of c.deref.result.now))
    (λ v. All (λ b. b < c.args.n) v.items)
    (below c.keys_have_buckets.ensures c.args.n c.requires
    (map key_data_of c.deref.result.now))
    c.buckets_of_keys.ensures
