use Rattle.std.proofs.Common.{◌≡◌, ◌∙◌, List, Option, Some, map, ap, refl, subst, sym}
use Rattle.std.specs.Prelude.{IfErr, IfOk, IfSome}
use Rattle.sc_base.specs.Trees.{Path}
use Rattle.sc_core.specs.CoreData.{CoreData}
use Rattle.sc_core.specs.declared.answers.JobState.TheVariants.{Done}
use Rattle.sc_core.specs.declared.entries.Entry.{Entry}
use Rattle.sc_compute.specs.declared.results.TaskResult.{TaskResult}
use Rattle.sc_jobs.specs.JobData.{JobData}
use Rattle.sc_jobs.specs.Plans.{IsJobFor}
use Rattle.sc_staging.specs.Outputs.{GoesOnIn, output_dir, output_files}
use Rattle.sc_desk.specs.Files.{faults_of}
use Rattle.sc_desk.specs.Sound.{AreEvident}
use Rattle.sc_context.specs.Jobs.{HasNoResults, HasResults}
use Rattle.sc_context.specs.Outputs.{CanCommit, CountsIn, WentIn}
use Rattle.sc_context.specs.Results.{AreThere}
use Rattle.sc_context.proofs.CountingLemmas.{went_counts}
use Rattle.sc_context.proofs.OutputLemmas.{can_commit}
use Rattle.sc_context.proofs.ResultLemmas.{all_are_there, both_ok, results_of_job}
use Rattle.sc_context.proofs.WentLemmas.{went_files, went_none}
use Rattle.sc_context.proofs.went.finish.Goals as goal

pub end_output-files-requires : goal.end_output-files-requires
end_output-files-requires g c = λ done.
    let work = g.W.Naming.work in
    let output = c.args.output in
    let files = output_files g.F.Files.state output in
    let end_is = c.close-history.ensures.end in
    let job = subst (λ (j : JobData). IsJobFor work j) c.job.ensures c.is_job.ensures in
    subst (λ (e : CoreData). IfSome (output_dir output) (λ p. CanCommit p e files)) (sym end_is)
    (can_commit c.files_go_on.ensures c.laws_of_jobs.ensures.results work c.args.desk
    c.is_sound.ensures c.is_replay.ensures job c.saves_by_goal.ensures c.laws_of_files.ensures
    (output_dir output) files c.requires.stand
    (ap (λ (x : CoreData). x.job) (sym end_is) ∙ done))

pub results_by-results-requires : goal.results_by-results-requires
results_by-results-requires g c = record {
  whole = λ done.
      subst (λ (rs : List (Option TaskResult)). AreThere rs) (sym c.as_slice.ensures.value)
      (all_are_there g.W.Naming.work c.close-history.result.job
      c.close-history.result.results.items
      (c.close-history.ensures.whole
      (ap (λ (x : CoreData). x.job) (sym c.close-history.ensures.end) ∙ done)));
}

pub returns-clause-went : goal.returns-clause-went
returns-clause-went g c = λ o from.
    let work = g.W.Naming.work in
    let d = c.args.desk in
    let state = g.F.Files.state in
    let closed = c.close-history in
    let history = closed.result.history in
    let end = history.end in
    let output = c.args.output in
    let mid = output_files state output in
    let ended = c.end_output-files.result in
    let after = state ended.files in
    let results = c.results_by-results.result in
    let lacks = c.results_by-results.ensures in
    let is_job = subst (λ (j : JobData). IsJobFor work j) c.job.ensures c.is_job.ensures in
    record {
      opening = closed.ensures.opening ∙ from.core;
      replays = closed.ensures.replays;
      evidence = λ is. subst (λ (j : JobData).
          AreEvident work j history.opening history.entries.items end is)
          (closed.ensures.job ∙ from.job) (closed.ensures.evidence is);
      carried = closed.ensures.carried ∙ from.carried;
      passed_on = closed.ensures.passed;
      fits = closed.ensures.fits;
      given = subst
          (λ (j : JobData). IfOk results (λ rs. HasResults work j.goal end rs.items)) from.job
          (both_ok results (λ all. c.as_slice.result.now ≡ map Some all.items)
          (λ all. end.job ≡ Done) (λ all. HasResults work d.job.goal end all.items)
          (λ all are done. record {
            done = done;
            all = results_of_job c.laws_of_jobs.ensures.results work d d.job.goal
                closed.result.job closed.result.results.items all.items c.is_sound.ensures is_job
                closed.ensures.results closed.ensures.job refl
                (closed.ensures.whole
                (ap (λ (x : CoreData). x.job) (sym closed.ensures.end) ∙ done))
                (sym c.as_slice.ensures.value ∙ are);
          }) lacks.all lacks.done);
      none = subst (λ (j : JobData). IfErr results (HasNoResults work j.goal end)) from.job
          (went_none work d (output_dir output) mid after end ended.ended results
          c.requires.stand c.end_output-files.ensures.ends lacks.none);
      left = subst (λ (j : JobData). WentIn o.dir work j.goal end o.files after results) from.job
          (subst (λ (dir : Option Path). WentIn dir work d.job.goal end o.files after results)
          from.dir
          (went_files c.files_go_on.ensures c.laws_of_jobs.ensures.results
          c.laws_of_saves.ensures.saved work d c.is_sound.ensures c.is_replay.ensures is_job
          c.saves_by_goal.ensures (output_dir output) o.files mid after end ended.ended results
          closed.ensures.end from.later
          (subst (λ dir. GoesOnIn dir o.files mid) (sym from.dir) from.goes)
          c.requires.stand c.end_output-files.ensures.later c.end_output-files.ensures.ends
          lacks.done lacks.ended lacks.none));
    }

pub returns-clause-counted : goal.returns-clause-counted
returns-clause-counted g c = λ opened counted.
    let state = g.F.Files.state in
    let output = c.args.output in
    let ended = c.end_output-files.result in
    let results = c.results_by-results.result in
    subst (λ (es : List Entry). CountsIn (faults_of es) opened (state ended.files) results)
    (sym c.close-history.ensures.entries)
    (went_counts (faults_of c.args.desk.journal.entries) (output_dir output)
    c.close-history.result.history.end opened (output_files state output) (state ended.files)
    ended.ended results counted c.end_output-files.ensures.later
    c.end_output-files.ensures.ends c.results_by-results.ensures.ended
    c.results_by-results.ensures.none)
