use Rattle.std.proofs.Common.{◌≡◌, ◌∙◌, ◌+◌, ◌<◌, ◌++◌, length, take, ap, arith, rules}
use Rattle.std.proofs.lemmas.Grind.{common_steps}
use Rattle.std.proofs.lemmas.List.{places, with_items_is}
use Rattle.sc_input.proofs.ReadLemmas.{read_in_place, AddsBytes-of}
use Rattle.sc_input.proofs.whole.read_more.Goals as goal

pub returns-in-Ok : goal.returns-in-Ok
returns-in-Ok g c =
    let old = c.args.bytes.now.items in
    let len = c.len-len.result in
    let count = c.in-Ok.count in
    let long : length old ≡ len = search (rules, places) in
    let front : take len c.deref_mut.result.now ≡ old =
    rw (c.deref_mut.ensures.value, c.in_ok-resize.ensures.items) (grind (arith, common_steps)) in
    let all : c.truncate.new.self.items ≡ old ++ take count c.read_some.new.buf =
    c.truncate.ensures.items
    ∙ ap (take (len + count)) (with_items_is c.resize.new.self _ (search (rules, places)))
    ∙ read_in_place old c.deref_mut.result.now c.read_some.new.buf len _ count long front
    c.in-Ok.ensures.within in
    let room : 0 < length c.read_some.new.buf = search (rules, places) in
    AddsBytes-of _ _ _ _ _ count all room c.in-Ok.ensures
