use Rattle.std.proofs.Common.{◌<◌, ◌≤◌, ◌∙◌, [], ap, arith, length, sym}
use Rattle.std.specs.Vec.{with_item}
use Rattle.sc_taskset.specs.Lists.{is_row_on, list_of}
use Rattle.sc_taskset.proofs.LossLemmas.{lost_listed, none_lost}
use Rattle.sc_taskset.proofs.PlaceLemmas.{flags_counted, items_at, items_here, items_other, items_past}
use Rattle.sc_taskset.proofs.listed.ListedRows.lose.Goals as goal

pub invariant_of-self : goal.invariant_of-self
invariant_of-self g c =
    let places = c.self.inside.lists.places in
    let there : c.args.exec < length places.items =
    omega (arith, c.if-exec-len.true, c.len.ensures, places.ok.0) in
    lost_listed c.self.inside.lists
    (record { places = with_item places c.args.exec c.lose_listed.new.places }) c.args.exec
    c.args.redoes c.self.inside.table
    c.lose_listed.new.table c.self.invariant
    (rw (items_here (λ v. v.items) places.items c.args.exec c.lose_listed.new.places there)
    c.lose_listed.ensures.listed)
    (λ e ne. items_other (λ v. v.items) places.items c.args.exec e c.lose_listed.new.places ne)
    (c.lose_listed.ensures.rows [])

pub returns-then-exec-len-clause-looked : goal.returns-then-exec-len-clause-looked
returns-then-exec-len-clause-looked g c =
    let places = c.self.inside.lists.places in
    let there : c.args.exec < length places.items =
    omega (arith, c.if-exec-len.true, c.len.ensures, places.ok.0) in
    let few = (c.self.invariant c.args.exec).few in
    let looked = c.lose_listed.ensures.looked in
    let list = ap length (ap (λ v. v.items) c.index_mut-places.ensures.value
    ∙ sym (items_at (λ v. v.items) places.items c.args.exec _ there)) in
    let count = flags_counted (is_row_on c.args.exec) c.self.inside.table in
    rw (← c.self.view_is) (omega (arith, few, looked, list, count))

pub returns-else-exec-len-clause-rows : goal.returns-else-exec-len-clause-rows
returns-else-exec-len-clause-rows g c = λ failures.
    let places = c.self.inside.lists.places in
    let past : length places.items ≤ c.args.exec =
    omega (arith, c.if-exec-len.false, c.len.ensures, places.ok.0) in
    rw (← c.self.view_is)
    (none_lost c.args.exec c.args.redoes (list_of c.self.inside.lists c.args.exec)
    c.self.inside.table (items_past (λ v. v.items) places.items c.args.exec past)
    (c.self.invariant c.args.exec) failures)
