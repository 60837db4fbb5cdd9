use Rattle.std.proofs.Common.{◌<◌, ◌∙◌, ap, arith, length, sym}
use Rattle.sc_taskset.proofs.PlaceLemmas.{items_at, items_here, items_other}
use Rattle.sc_taskset.proofs.lists.Lists.take.Goals as goal

pub returns-then-exec-len : goal.returns-then-exec-len
returns-then-exec-len c =
    let places = c.args.self.now.places in
    let there : c.args.exec < length places.items =
    omega (arith, c.if-exec-len.true, c.len.ensures, places.ok.0) in
    let was = ap (λ v. v.items) c.index_mut.ensures.value
    ∙ sym (items_at (λ v. v.items) places.items c.args.exec _ there) in
    record {
      here = rw (
        items_here (λ v. v.items) places.items c.args.exec c.take_from.new.places there,
        ← was,
      ) c.take_from.ensures;
      others = λ e ne.
          items_other (λ v. v.items) places.items c.args.exec e c.take_from.new.places ne;
    }
