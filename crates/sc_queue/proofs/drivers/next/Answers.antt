use Rattle.std.proofs.Common.{◌≡◌, ◌++◌, None, ap, rules}
use Rattle.sc_queue.specs.Rule.{as_list}
use Rattle.sc_queue.proofs.PopLemmas.{pops_as, pops_list}
use Rattle.sc_queue.proofs.drivers.next.Goals as goal

pub pop_as-requires-clause-rule : goal.pop_as-requires-clause-rule
pop_as-requires-clause-rule g c = pops_as _ _ c.requires.driver

pub returns-clause-came : goal.returns-clause-came
returns-clause-came g c =
    let none : c.args.held.now ≡ None = search rules in (
      as_list c.pop_as.result,
      pops_list c.pop_as.result _ _ _ c.requires.driver c.pop_as.ensures.rule,
      ap (λ o. as_list o ++ as_list c.pop_as.result) none,
    )
