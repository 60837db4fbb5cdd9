use Rattle.std.proofs.Common.{◌∙◌, ap, sym, pos}
use Rattle.std.proofs.lemmas.List.{map-id}
use Rattle.std.proofs.lemmas.Iterator.{YieldsList-from_chars}
use Rattle.std.proofs.lemmas.Iterator.Consumers.{YieldsList-end}
use Rattle.std.specs.Char.Escape.{encode_utf16}
use Rattle.std.specs.List.{flat_map}
use Rattle.sc_hash.specs.Hashes.{with_units}
use Rattle.sc_hash.proofs.hashes.chars_hash.Goals as goal

pub returns : goal.returns
returns c =
    let whole = YieldsList-from_chars c.args.text.now c.utf8.text cc in
    let end = YieldsList-end whole c.loop-c.yielded _ c.loop-c.yielded_by _ _ c.in-None.is
    c.next.ensures.steps in
    c.loop-c.invariant
    ∙ ap (λ cs. with_units (pos 0) (flat_map encode_utf16 cs))
    (sym (map-id c.loop-c.yielded) ∙ end.0)
