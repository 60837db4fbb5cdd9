use Rattle.std.proofs.Common.{◌≡◌, ◌∙◌, ◌+◌, ◌≤◌, [], ◌∷◌, length, arith, ap, subst}
use Rattle.std.specs.Option.{option_to_list}
use Rattle.sc_stagecut.specs.Carrying.{CarriedData}
use Rattle.sc_jobs.specs.JobData.{goal_action}
use Rattle.sc_jobs.specs.declared.goals.Goal.TheVariants as goals
use Rattle.sc_context.specs.Contexts.{ContextData, Evaluates}
use Rattle.sc_context.specs.Records.{histories_of}
use Rattle.sc_context.specs.declared.records.Records.{Records}
use Rattle.sc_context.proofs.ChainLemmas.{stops_ended, stops_short}
use Rattle.sc_context.proofs.JobLemmas.{context_behind, gone_behind}
use Rattle.sc_context.proofs.context.Context.run_own_job.Goals as goal

pub returns-in_default-clause-stops : goal.returns-in_default-clause-stops
returns-in_default-clause-stops g c =
    let left = c.without_memory.result in
    stops_short g.W.Naming.work c.args.self left.why left.records.histories.items
    (histories_of left.records.gave_up.items) (g.F.Files.state left.files)
    c.is_sound.ensures.come c.without_memory.ensures.why c.without_memory.ensures.histories
    c.without_memory.ensures.given_up c.without_memory.ensures.files

pub returns-in_default-value_of-clause-stops : goal.returns-in_default-value_of-clause-stops
returns-in_default-value_of-clause-stops g c =
    let e = c.in_ok-ended.ended in
    let left = c.without_memory-in_default-value_of in
    stops_ended g.W.Naming.work c.args.self (goals.Action c.self.inside.actions)
    left.result.why e.passed e.records.histories.items (histories_of e.records.gave_up.items)
    left.result.records.histories.items (histories_of left.result.records.gave_up.items)
    e.results.items (g.F.Files.state e.files) (g.F.Files.state left.result.files)
    (ap (λ (x : ContextData). x.progress.actions) c.self.view_is, c.requires.found)
    c.is_sound.ensures.come c.in_ok-ended.ensures.ended
    left.ensures.why (ap (λ (r : Records). r.histories.items) left.ensures.records)
    (ap (λ (r : Records). histories_of r.gave_up.items) left.ensures.records)
    left.ensures.files

pub invariant_of-context : goal.invariant_of-context
invariant_of-context g c =
    let work = g.W.Naming.work in
    let p = c.args.self.progress in
    let e = c.in_ok-ended.ended in
    let ended = c.in_ok-ended.ensures.ended in
    let at = ap (λ (x : ContextData). x.progress.actions) c.self.view_is in
    let many : c.in-Some.behind ≡ p.actions + 1 = omega (arith, c.in-Some.ensures, at) in
    let within : c.in-Some.behind ≤ length work.script.actions =
    omega (arith, many, c.requires.within) in (
      context_behind work c.args.self (goals.Action c.self.inside.actions) e.passed e.passed
          e.records.histories.items (histories_of e.records.gave_up.items) e.results.items
          c.in-Some.behind (g.F.Files.state e.files) c.is_sound.ensures.come ended ended.carried
          many within ended.ready.passed_on
          (ap (λ (k : CarriedData). length k.bounds) ended.carried ∙ c.is_sound.ensures.places),
      c.in_ok-ended.ensures.recorded,
    )

pub returns-clause-given : goal.returns-clause-given
returns-clause-given g c =
    let work = g.W.Naming.work in
    let e = c.in_ok-ended.ended in
    let ended = c.in_ok-ended.ensures.ended in
    let at = ap (λ (x : ContextData). x.progress.actions) c.self.view_is in
    let many : c.in-Some.behind ≡ c.args.self.progress.actions + 1 =
    omega (arith, c.in-Some.ensures, at) in
    let gone = gone_behind work c.args.self (goals.Action c.self.inside.actions) e.passed e.passed
    e.records.histories.items (histories_of e.records.gave_up.items) e.results.items
    c.in-Some.behind (g.F.Files.state e.files) c.is_sound.ensures.come ended ended.carried many in
    record {
      evaluates = subst (λ k. Evaluates work (goal_action work (goals.Action k)) c.in-Ok.value) at
          c.in-Ok.ensures;
      one_more = many;
      more = ended.history ∷ [];
      all = ended.all;
      given = option_to_list ended.tried;
      all_given = ended.all_given;
      come = gone.come;
      left = gone.left;
    }
