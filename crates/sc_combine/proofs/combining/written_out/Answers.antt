use Rattle.std.proofs.Common.{◌≡◌, ◌∙◌, ap, map, sym, rules, replicate, w64, SFits}
use Rattle.std.proofs.lemmas.Int.{to_z-of_z}
use Rattle.std.proofs.lemmas.Result.{IfOk-weaker}
use Rattle.sc_batch.proofs.ZipLemmas.{map-replicate}
use Rattle.sc_value.specs.Datum.{number}
use Rattle.sc_combine.proofs.combining.written_out.Goals as goal

pub returns-in_ok-vec-in-Some : goal.returns-in_ok-vec-in-Some
returns-in_ok-vec-in-Some c =
    let values = c.args.values.now in
    let n = c.len.result in
    let k = c.in-Some.n in
    let fits : SFits w64 k = search rules in
    let items = c.in_ok-vec-in-Some.ensures.items_if_clones_equal (λ _ same. same)
    ∙ ap (replicate n) (to_z-of_z w64 k fits) in
    let same : replicate n (number k) ≡ values = search rules in
    IfOk-weaker c.of_ints.result (λ r. r ≡ map number c.in_ok-vec-in-Some.field-0.items)
    (λ r. r ≡ values)
    (λ r are. are ∙ ap (map number) items ∙ sym (map-replicate number n k) ∙ same) c.of_ints.ensures
