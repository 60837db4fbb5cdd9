use Rattle.std.proofs.Common.{rules, ◌≡◌, ◌∙◌, ap, map, sym, replicate, w64, SFits}
use Rattle.std.proofs.lemmas.Int.{to_z-of_z}
use Rattle.std.proofs.lemmas.Result.{IfOk-weaker}
use Rattle.sc_keys.specs.Keyed.{keys_in}
use Rattle.sc_value.specs.Datum.{number, text}
use Rattle.sc_value.specs.Keys.{number_key, text_key}
use Rattle.sc_value.specs.Views.{key_data_of}
use Rattle.sc_keys.proofs.KeyLemmas.{keys-number, keys-text, map-replicate}
use Rattle.sc_keys.proofs.keyed.repeated.Goals as goal

pub returns-in_ok-vec-in-Int : goal.returns-in_ok-vec-in-Int
returns-in_ok-vec-in-Int c =
    let n = c.args.n in
    let k = c.in-Int.k in
    let fits : SFits w64 c.in-Int.k = search rules in
    let items = c.in_ok-vec-in-Int.ensures.items_if_clones_equal (λ _ same. same)
    ∙ ap (replicate n) (to_z-of_z w64 k fits) in
    IfOk-weaker c.of_ints.result (λ r. r ≡ map number c.in_ok-vec-in-Int.field-0.items)
    (λ r. keys_in r ≡ replicate n (key_data_of c.args.key.now))
    (λ r is. ap keys_in (is ∙ ap (map number) items) ∙ keys-number (replicate n k)
    ∙ map-replicate number_key n k
    ∙ ap (λ key. replicate n (key_data_of key)) (sym c.in-Int.is)) c.of_ints.ensures

pub returns-in_ok-copies-in-Text : goal.returns-in_ok-copies-in-Text
returns-in_ok-copies-in-Text c =
    let n = c.args.n in
    let t = c.in-Text.text in
    let items = c.in_ok-copies-in-Text.ensures ∙ ap (replicate n) c.as_str.ensures in
    IfOk-weaker c.of_texts.result (λ r. r ≡ map text c.in_ok-copies-in-Text.field-0)
    (λ r. keys_in r ≡ replicate n (key_data_of c.args.key.now))
    (λ r is. ap keys_in (is ∙ ap (map text) items) ∙ keys-text (replicate n t)
    ∙ map-replicate text_key n t
    ∙ ap (λ key. replicate n (key_data_of key)) (sym c.in-Text.is)) c.of_texts.ensures
