-- The core of a job before its result stage is submitted.
use Rattle.std.proofs.Common.{◌≡◌, ◌-◌, Bool, true, false, List, Option, length, replicate, refl, ap, sym, ◌∙◌}
use Rattle.sc_base.specs.Lists.{at_or}
use Rattle.sc_commit.specs.declared.committers.Committer.TheVariants.{Nobody}
use Rattle.sc_ids.specs.Graphs.{StageData}
use Rattle.sc_ids.specs.declared.limits.Limits.{Limits}
use Rattle.sc_plan.specs.declared.lines.PlanLine.{PlanLine}
use Rattle.sc_dag.specs.DagData.{DagData, no_stage}
use Rattle.sc_dag.specs.Submission.{this_stage}
use Rattle.sc_core.specs.CoreData.{CoreData, result_stage, with_dag}
use Rattle.sc_core.specs.Openings.{IsOpening, IsUnsubmitted, OpeningsAreSubmissions, SubmitsResult, committers_for}
use Rattle.sc_core.proofs.StageCallLemmas.{submitted_calm}

-- a job has as many result tasks, whatever was submitted
same_committers : (saves : Bool) (d e : DagData) → d.stages ≡ e.stages
    → committers_for saves d ≡ committers_for saves e
same_committers false d e same = refl
same_committers true d e same =
    ap (λ (stages : List StageData).
    replicate (at_or stages (length stages - 1) no_stage).tasks Nobody) same

unsubmitted :
    (graph : List StageData) (limits : Limits) (saves : Bool) (plan : List PlanLine)
    (last : Option CoreData) (c : CoreData) → IsOpening graph limits saves plan last c
    → (before : CoreData) × IsUnsubmitted graph limits saves plan last before
    × SubmitsResult before c
unsubmitted graph limits saves plan last c o = (with_dag c o.dag, blank, submits)
  where
    stages : c.dag.stages ≡ o.dag.stages
    stages = (submitted_calm o.dag c.dag (this_stage (result_stage o.dag)) o.submits).stages

    blank : IsUnsubmitted graph limits saves plan last (with_dag c o.dag)
    blank =
        record {
          stages = o.opens;
          limits_are = o.limits_are;
          told = o.told;
          now = o.now;
          plan_is = o.plan_is;
          job = o.job;
          none_handed = o.handed;
          none_out = o.running;
          none_shelved = o.shelf;
          no_key = o.next_key;
          none_left = o.left_first;
          no_grant = o.committers ∙ same_committers saves c.dag o.dag stages;
        }

    submits : SubmitsResult (with_dag c o.dag) c
    submits = record { submits = o.submits; others = refl }

submitted :
    (graph : List StageData) (limits : Limits) (saves : Bool) (plan : List PlanLine)
    (last : Option CoreData) (before c : CoreData)
    → IsUnsubmitted graph limits saves plan last before → SubmitsResult before c
    → IsOpening graph limits saves plan last c
submitted graph limits saves plan last before c blank s =
    record {
      dag = before.dag;
      opens = blank.stages;
      limits_are = blank.limits_are;
      submits = s.submits;
      told = ap (λ (x : CoreData). x.told) s.others ∙ blank.told;
      now = ap (λ (x : CoreData). x.now) s.others ∙ blank.now;
      handed = ap (λ (x : CoreData). x.handed) s.others ∙ blank.none_handed;
      job = ap (λ (x : CoreData). x.job) s.others ∙ blank.job;
      left_first = ap (λ (x : CoreData). x.left_first) s.others ∙ blank.none_left;
      running = ap (λ (x : CoreData). x.running) s.others ∙ blank.none_out;
      shelf = ap (λ (x : CoreData). x.shelf) s.others ∙ blank.none_shelved;
      next_key = ap (λ (x : CoreData). x.next_key) s.others ∙ blank.no_key;
      committers =
          ap (λ (x : CoreData). x.committers) s.others ∙ blank.no_grant
          ∙ same_committers saves before.dag c.dag (sym stages);
      plan_is = ap (λ (x : CoreData). x.plan) s.others ∙ blank.plan_is;
    }
  where
    stages : c.dag.stages ≡ before.dag.stages
    stages =
        (submitted_calm before.dag c.dag (this_stage (result_stage before.dag)) s.submits).stages

pub openings_are_submissions : OpeningsAreSubmissions
openings_are_submissions graph limits saves plan last c = (
  unsubmitted graph limits saves plan last c,
  λ s. submitted graph limits saves plan last s.0 c s.1 s.2,
)
