use Rattle.std.proofs.Common.{◌∙◌, ◌≤◌, [], ◌∷◌, Some, None, length, arith, ap, subst, sym}
use Rattle.sc_base.specs.Lists.{at_or}
use Rattle.sc_ids.proofs.ChangeLemmas.{length_change_at}
use Rattle.std.specs.List.{slice_get}
use Rattle.std.specs.Option.{option_to_list}
use Rattle.sc_stagecut.specs.Carrying.{CarriedData, after_job, with_bounds}
use Rattle.sc_jobs.specs.declared.goals.Goal.TheVariants as goals
use Rattle.sc_desk.specs.Begins.{IsPassedFor}
use Rattle.sc_desk.specs.DeskData.{PassedData, passed_data}
use Rattle.sc_context.specs.Records.{histories_of}
use Rattle.sc_context.specs.declared.records.Records.{Records}
use Rattle.sc_context.proofs.BoundLemmas.{found_passed, lacking_is}
use Rattle.sc_context.proofs.ChainLemmas.{stops_ended}
use Rattle.sc_context.proofs.JobLemmas.{context_behind, gone_behind}
use Rattle.sc_context.proofs.context.Context.find_bounds.Goals as goal

pub bounds-requires-clause-sort : goal.bounds-requires-clause-sort
bounds-requires-clause-sort g c =
    lacking_is (slice_get g.W.Naming.work.script.nodes c.args.sort)
    (at_or c.args.self.progress.carried.bounds c.args.sort None) c.requires.next.0.unbounded

pub returns-in_default-clause-stops : goal.returns-in_default-clause-stops
returns-in_default-clause-stops g c =
    let e = c.in_ok-ended.ended in
    let left = c.without_memory in
    stops_ended g.W.Naming.work c.args.self (goals.Bounds c.args.sort) left.result.why e.passed
    e.records.histories.items (histories_of e.records.gave_up.items)
    left.result.records.histories.items (histories_of left.result.records.gave_up.items)
    e.results.items (g.F.Files.state e.files) (g.F.Files.state left.result.files)
    c.requires.next c.is_sound.ensures.come c.in_ok-ended.ensures.ended left.ensures.why
    (ap (λ (r : Records). r.histories.items) left.ensures.records)
    (ap (λ (r : Records). histories_of r.gave_up.items) left.ensures.records)
    left.ensures.files

pub invariant_of-result : goal.invariant_of-result
invariant_of-result g c =
    let work = g.W.Naming.work in
    let sort = c.args.sort in
    let e = c.in_ok-ended.ended in
    let ended = c.in_ok-ended.ensures.ended in
    let inside = passed_data c.passed.inside.carried c.passed.inside.ordered in
    let found = c.in-Ok.bounds in
    let from = ap (λ (x : PassedData). x.carried) c.passed.view_is ∙ ended.carried in
    let carried = c.set_bounds.ensures
    ∙ ap (λ (k : CarriedData). with_bounds k sort found) from
    ∙ ap (λ b. with_bounds (after_job c.args.self.progress.carried ended.is.graph) sort b)
    c.in-Ok.ensures in
    let serves = subst (λ (k : CarriedData). IsPassedFor work
    (passed_data k c.passed.inside.ordered)) (sym c.set_bounds.ensures)
    (found_passed work inside sort found c.in-Ok.ensures
    (subst (λ (x : PassedData). IsPassedFor work x) (sym c.passed.view_is)
    ended.ready.passed_on)) in
    let places = ap (λ (k : CarriedData). length k.bounds) c.set_bounds.ensures
    ∙ length_change_at c.passed.inside.carried.bounds sort (λ _. Some found)
    ∙ ap (λ (k : CarriedData). length k.bounds) from
    ∙ c.is_sound.ensures.places in
    let many = c.in_ok-ended.ensures.actions in
    let within : e.actions ≤ length work.script.actions =
    omega (arith, many, c.requires.within) in (
      context_behind work c.args.self (goals.Bounds sort) e.passed
          (passed_data c.set_bounds.new.self c.passed.inside.ordered) e.records.histories.items
          (histories_of e.records.gave_up.items) e.results.items e.actions
          (g.F.Files.state e.files) c.is_sound.ensures.come ended carried many within serves
          places,
      c.in_ok-ended.ensures.recorded,
    )

pub returns-clause-finds : goal.returns-clause-finds
returns-clause-finds g c =
    let work = g.W.Naming.work in
    let sort = c.args.sort in
    let e = c.in_ok-ended.ended in
    let ended = c.in_ok-ended.ensures.ended in
    let from = ap (λ (x : PassedData). x.carried) c.passed.view_is ∙ ended.carried in
    let carried = c.set_bounds.ensures
    ∙ ap (λ (k : CarriedData). with_bounds k sort c.in-Ok.bounds) from
    ∙ ap (λ b. with_bounds (after_job c.args.self.progress.carried ended.is.graph) sort b)
    c.in-Ok.ensures in
    let gone = gone_behind work c.args.self (goals.Bounds sort) e.passed
    (passed_data c.set_bounds.new.self c.passed.inside.ordered) e.records.histories.items
    (histories_of e.records.gave_up.items) e.results.items e.actions (g.F.Files.state e.files)
    c.is_sound.ensures.come ended carried c.in_ok-ended.ensures.actions in
    record {
      on = record {
        actions = c.in_ok-ended.ensures.actions;
        more = ended.history ∷ [];
        all = ended.all;
        given = option_to_list ended.tried;
        all_given = ended.all_given;
        come = gone.come;
        left = gone.left;
        files = ended.left.left;
      };
      bounds = ap (λ (k : CarriedData). k.bounds) carried;
    }
