use Rattle.std.proofs.Common.{◌∙◌, ap, sym}
use Rattle.sc_lineage.specs.ScriptData.{WorkData}
use Rattle.sc_plan.specs.Attempts.{is_doubled}
use Rattle.sc_plan.specs.PlanLines.{place_of}
use Rattle.sc_desk.specs.DeskData.{DeskData, core_of}
use Rattle.sc_desk.specs.Posts.{attempt_of}
use Rattle.sc_desk.proofs.desks.Desk.copy_of.Goals as goal

pub returns-in_ok-share : goal.returns-in_ok-share
returns-in_ok-share g c =
    let plan = ap (λ (x : DeskData). (core_of x).plan) (sym c.self.view_is) ∙ c.self.invariant.plan
    ∙ ap (λ (w : WorkData). w.plan) (sym (c.get.ensures ∙ c.is_named.ensures))
    ∙ sym c.plan.ensures in (
      ap (λ ls. is_doubled ls (place_of (attempt_of c.args.report.now))) plan
          ∙ ap (λ a. is_doubled c.plan.result.now (place_of a)) (sym c.attempt.ensures)
          ∙ sym c.twice.ensures ∙ c.if-twice.true,
      c.in_ok-share.ensures,
    )
