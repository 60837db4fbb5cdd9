use Rattle.std.proofs.Common.{◌≡◌, ◌∙◌, ◌≤◌, ◌<◌, false, true, sym, ap, refl, arith, length, nat_eq, count_by}
use Rattle.std.proofs.lemmas.Bool.Decides.{nat_tests}
use Rattle.sc_tracker.proofs.CountLemmas.{all_pass, few_pass}
use Rattle.sc_dag.specs.Rows.{all_have_results}
use Rattle.sc_dag.proofs.rows.StageRow.has_all_results.Goals as goal

pub returns-then-self-tasks : goal.returns-then-self-tasks
returns-then-self-tasks c =
    let results = c.self.inside.results.items in
    let tasks = c.self.inside.stage.tasks in
    let less : count_by (λ b. b) results < tasks =
    omega (arith, c.self.invariant.2, c.if-self-tasks.true, c.tasks-tasks.ensures) in
    sym (rw (← c.self.view_is) (few_pass (λ b. b) false refl results tasks less))

pub returns-then-len-tasks : goal.returns-then-len-tasks
returns-then-len-tasks c =
    let results = c.self.inside.results.items in
    let tasks = c.self.inside.stage.tasks in
    let same : length results ≡ tasks =
    omega (
      arith,
      c.len.ensures,
      c.if-len-tasks.true,
      c.self.inside.results.ok.0,
      c.tasks-tasks.ensures,
    ) in
    let full : length results ≤ count_by (λ b. b) results =
    omega (
      arith,
      same,
      c.self.invariant.2,
      c.if-self-tasks.false,
      c.tasks-tasks.ensures,
    ) in
    let is : nat_eq c.len.result c.tasks-tasks.result ≡ true =
    grind (arith, nat_tests, c.if-len-tasks.true) in
    is ∙ sym (rw (← c.self.view_is)
    (ap (all_have_results results) (sym same) ∙ all_pass (λ b. b) false results full))
