use Rattle.std.proofs.Common.{◌∷◌, ◌++◌, ◌∙◌, [], Result, Ok, Err, OnErr, ap, sym}
use Rattle.sc_taskset.proofs.PlaceLemmas.{items_at, items_here, items_kept, items_other}
use Rattle.sc_taskset.proofs.lists.Lists.add.Goals as goal

-- what holds anyway holds of an error
on_err : {T E P : Type 0} (r : Result T E) → P → OnErr r P
on_err (Ok x) p = tt
on_err (Err e) p = p

pub returns-in_err-push-clause-refused : goal.returns-in_err-push-clause-refused
returns-in_err-push-clause-refused c =
    let places = c.grow.new.places.items in
    let there = c.in_ok-grow.ensures.there in
    on_err c.from_residual-in_err-push.result
    (λ e. items_kept (λ v. v.items) places c.args.exec e c.push.new.self _ there
    (c.in_err-push.ensures.items ∙ ap (λ v. v.items) c.index_mut.ensures.value)
    ∙ c.grow.ensures.same e)

pub returns-clause-added : goal.returns-clause-added
returns-clause-added c =
    let places = c.grow.new.places.items in
    let there = c.in_ok-grow.ensures.there in
    record {
      here = items_here (λ v. v.items) places c.args.exec c.push.new.self there
          ∙ c.in_ok-push.ensures.items
          ∙ ap (λ v. v.items ++ c.args.place ∷ []) c.index_mut.ensures.value
          ∙ ap (λ xs. xs ++ c.args.place ∷ [])
          (sym (items_at (λ v. v.items) places c.args.exec _ there)
          ∙ c.grow.ensures.same c.args.exec);
      others = λ e ne. items_other (λ v. v.items) places c.args.exec e c.push.new.self ne
          ∙ c.grow.ensures.same e;
    }
