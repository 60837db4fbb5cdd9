use Rattle.std.proofs.Common.{◌∙◌, ◌++◌, length, ap, sym, arith, append-nil, drop_of_length-le}
use Rattle.sc_combine.proofs.FirstLemmas.{firsts_put, firsts_pass}
use Rattle.sc_combine.specs.Groupings.{firsts_from}
use Rattle.sc_combine.proofs.grouping.first_places.Goals as goal
use Rattle.sc_combine.proofs.grouping.first_places.Goals.{then-numbers-i+in_ok-push, else-numbers-i}

pub loop-i-preserved : goal.loop-i-preserved
loop-i-preserved c =
    let out = c.loop-i.places.items in
    let numbers = c.args.numbers.now in
    let whole = firsts_from 0 0 numbers in
    let i = c.loop-i.i in
    elim c.if-numbers-i.branch [
      | then-numbers-i+in_ok-push w ↦ rw w.places-is
          (firsts_put out w.push.new.self.items numbers whole i c.loop-i-test.true
          (omega (arith, w.if-numbers-i.true, c.len.ensures)) w.in_ok-push.ensures.items
          c.loop-i.invariant)
      | else-numbers-i w ↦ rw w.places-is
          (firsts_pass out numbers whole i c.loop-i-test.true
          (omega (arith, w.if-numbers-i.false, c.len.ensures)) c.loop-i.invariant)
    ]

pub returns-clause-are : goal.returns-clause-are
returns-clause-are c =
    let out = c.loop-i.places.items in
    sym (append-nil out)
    ∙ ap (λ ns. out ++ firsts_from (length out) c.loop-i.i ns)
    (sym (drop_of_length-le c.args.numbers.now c.loop-i-test.false))
    ∙ c.loop-i.invariant
