use Rattle.std.proofs.Common.{◌≡◌, ◌∙◌, arith, length, map, ap, sym}
use Rattle.std.proofs.lemmas.List.{length-map}
use Rattle.sc_value.specs.Views.{datum_of}
use Rattle.sc_value.proofs.ViewLemmas.{datum_of-List}
use Rattle.sc_ops.specs.Given.{item_count}
use Rattle.sc_ops.proofs.PairLemmas.{list_of-items_of}
use Rattle.sc_ops.proofs.keyed.list_len.Goals as goal

pub returns-in-List : goal.returns-in-List
returns-in-List c =
    let items = c.in-List.items.items in
    let many : c.len.result ≡ length items = omega (arith, c.in-List.items.ok.0) in
    many ∙ sym (length-map items datum_of)
    ∙ sym (ap length (list_of-items_of (map datum_of items)))
    ∙ sym (ap item_count (datum_of-List c.in-List.items))
    ∙ sym (ap (λ v. item_count (datum_of v)) c.in-List.is)
