use Rattle.std.proofs.Common.{◌∙◌, ◌+◌, ap, arith, subst}
use Rattle.sc_tracker.proofs.Forgetting.{IsRest, next_is_on, one_less, rest_forgotten, rest_none}
use Rattle.sc_tracker.proofs.listed.forget_listed.Goals as goal

pub loop-next-smaller : goal.loop-next-smaller
loop-next-smaller g c =
    let now = c.loop-next.shuffles.items in
    let i = c.loop-next.invariant in
    let rest = subst (λ n. IsRest c.args.shuffles.now.items now c.args.lists.now.rows c.args.exec n
    i.taken) c.in-Some.is i.rest in
    let less = one_less now c.args.exec c.in-Some.place
    (next_is_on c.args.shuffles.now.items now c.args.lists.now.rows c.args.exec c.in-Some.place
    i.taken rest) in
    rw c.forget_at.ensures (omega (arith, less))

pub loop-next-preserved : goal.loop-next-preserved
loop-next-preserved g c =
    let now = c.loop-next.shuffles.items in
    let i = c.loop-next.invariant in
    let rest = subst (λ n. IsRest c.args.shuffles.now.items now c.args.lists.now.rows c.args.exec n
    i.taken) c.in-Some.is i.rest in
    rw (c.forget_at.ensures, c.link-next.ensures)
    (record {
      taken = i.taken + 1;
      rest = rest_forgotten c.args.shuffles.now.items now c.args.lists.now.rows c.args.exec
          c.in-Some.place i.taken rest;
      steps = let one = c.tick.ensures in let had = i.steps in omega (arith, one, had);
    })

pub returns-clause-outputs : goal.returns-clause-outputs
returns-clause-outputs g c =
    let now = c.loop-next.shuffles.items in
    let i = c.loop-next.invariant in
    let rest = subst (λ n. IsRest c.args.shuffles.now.items now c.args.lists.now.rows c.args.exec n
    i.taken) c.in_default.is i.rest in
    (rest_none c.args.shuffles.now.items now c.args.lists.now.rows c.args.exec i.taken rest).0

pub returns-clause-looked : goal.returns-clause-looked
returns-clause-looked g c =
    let now = c.loop-next.shuffles.items in
    let i = c.loop-next.invariant in
    let rest = subst (λ n. IsRest c.args.shuffles.now.items now c.args.lists.now.rows c.args.exec n
    i.taken) c.in_default.is i.rest in
    let all = (rest_none c.args.shuffles.now.items now c.args.lists.now.rows c.args.exec i.taken
    rest).1 in
    i.steps ∙ ap (λ n. c.args.steps.now + n) all
