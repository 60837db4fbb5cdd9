use Rattle.std.proofs.Common.{◌∙◌, [], map, ap, sym, if◌then◌else◌}
use Rattle.std.specs.List.{flat_map}
use Rattle.sc_keys.specs.Keyed.{keys_in}
use Rattle.sc_lineage.specs.Keyed.{key_of}
use Rattle.sc_part.specs.Bounds.{bounds_of}
use Rattle.sc_combine.proofs.PairLemmas.{keys-firsts}
use Rattle.sc_combine.proofs.bounding.bounds_between.Goals as goal

pub returns : goal.returns
returns c =
    let n = c.args.n in
    let rows = flat_map (λ s. s.rows) c.args.parts.now in
    let bounds = bounds_of (map key_of rows) n in
    c.in_ok-bounds.ensures
    ∙ ap (λ ks. bounds_of ks n) (c.in_ok-keys.ensures ∙ ap keys_in c.in_ok-firsts.ensures
    ∙ keys-firsts rows)
    ∙ ap (λ b. if b then [] else bounds) (sym c.if-any_raises.false ∙ c.any_raises.ensures)
