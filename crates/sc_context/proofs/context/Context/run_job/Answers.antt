use Rattle.std.proofs.Common.{◌∙◌, List, Option, ap, arith, subst, sym}
use Rattle.std.specs.Prelude.{Ok}
use Rattle.std.specs.Option.{option_map}
use Rattle.std.proofs.lemmas.Result.{IfErr-weaker, IfOk-weaker}
use Rattle.sc_lineage.specs.ScriptData.{WorkData, IsSoundScript, IsSoundWork}
use Rattle.sc_stagecut.specs.Carrying.{CarriedData, HasBounds}
use Rattle.sc_core.specs.CoreData.{CoreData}
use Rattle.sc_core.specs.Openings.{tracker_behind}
use Rattle.sc_core.specs.Sound.{HasLive}
use Rattle.sc_core.specs.declared.journals.JobHistory.{JobHistory}
use Rattle.sc_jobs.specs.JobData.{goal_node}
use Rattle.sc_staging.specs.Outputs.{output_dir, output_files}
use Rattle.sc_desk.specs.Begins.{FitsLast}
use Rattle.sc_desk.specs.Files.{dir_of_job}
use Rattle.sc_context.specs.Contexts.{ContextData, IsEnded, Stops}
use Rattle.sc_context.specs.Endings.{IsOver, IsRecorded}
use Rattle.sc_context.specs.Histories.{last_end}
use Rattle.sc_context.specs.Outputs.{IsOpenIn, RefusesOutput}
use Rattle.sc_context.specs.Records.{AreKept, histories_of}
use Rattle.sc_context.specs.declared.records.Records.{Records}
use Rattle.sc_context.proofs.ChainLemmas.{next_known, stops_opened, stops_short, stops_unbegun}
use Rattle.sc_context.proofs.EndingLemmas.{can_be_kept, ended_recorded, over_at, recorded_at, stops_over}
use Rattle.sc_context.proofs.LiveLemmas.{live_behind}
use Rattle.sc_context.proofs.OpenedLemmas.{begun_stands}
use Rattle.sc_context.proofs.context.Context.run_job.Goals as goal

pub begin-requires-clause-bounds : goal.begin-requires-clause-bounds
begin-requires-clause-bounds g c =
    let work = g.W.Naming.work in
    let script = subst (λ (w : WorkData). IsSoundScript w.script)
    (c.get.ensures ∙ c.is_named.ensures) c.is_sound-2.ensures.script in
    subst (λ (k : CarriedData). HasBounds work.script.nodes k (goal_node work c.args.goal))
    (sym (ap (λ (x : ContextData). x.progress.carried) c.self.view_is))
    (next_known work c.args.self.progress c.args.goal script c.requires.within c.requires.next).1

pub begin-requires-clause-live : goal.begin-requires-clause-live
begin-requires-clause-live g c =
    let work = g.W.Naming.work in
    let sound = subst (λ (w : WorkData). IsSoundWork w) (c.get.ensures ∙ c.is_named.ensures)
    c.is_sound-2.ensures in
    let above = sound.limits.executors.above in
    let last = c.last_end-last.ensures
    ∙ ap last_end (c.as_slice.ensures.value ∙ c.make_room.ensures.same.histories)
    ∙ ap (λ (x : ContextData). x.progress.last) c.self.view_is in
    subst (λ (o : Option CoreData). HasLive (tracker_behind o work.limits)) (sym last)
    (live_behind work c.args.self.progress c.args.self.histories c.args.self.given_up
    (omega (arith, above)) c.is_sound.ensures.come)

pub run_begun-run-requires-clause-stand : goal.run_begun-run-requires-clause-stand
run_begun-run-requires-clause-stand g c κs within =
    begun_stands c.laws_of_ends.ensures.files g.W.Naming.work c.self.inside.passed
    (option_map (λ l. l.now) c.last_end-last.result) c.args.goal c.in-Ok-begin.begun.desk
    g.F.Files.state (g.F.Files.state c.self.inside.files) c.in-Ok-open_output.output
    c.in-Ok-begin.ensures.begun c.in-Ok-open_output.ensures.open

pub run_begun-run-requires-clause-begun : goal.run_begun-run-requires-clause-begun
run_begun-run-requires-clause-begun g c κs within =
    (c.self.inside.passed, c.args.goal, c.in-Ok-begin.ensures.begun)

pub run_begun-run-requires-clause-fits : goal.run_begun-run-requires-clause-fits
run_begun-run-requires-clause-fits g c κs within =
    let last = c.last_end-last.ensures
    ∙ ap last_end (c.as_slice.ensures.value ∙ c.make_room.ensures.same.histories)
    ∙ ap (λ (x : ContextData). x.progress.last) c.self.view_is in
    subst (FitsLast g.W.Naming.work) (sym last) c.is_sound.ensures.fits

pub run_begun-run-requires-clause-live : goal.run_begun-run-requires-clause-live
run_begun-run-requires-clause-live g c κs within =
    let work = g.W.Naming.work in
    let sound = subst (λ (w : WorkData). IsSoundWork w) (c.get.ensures ∙ c.is_named.ensures)
    c.is_sound-2.ensures in
    let above = sound.limits.executors.above in
    let last = c.last_end-last.ensures
    ∙ ap last_end (c.as_slice.ensures.value ∙ c.make_room.ensures.same.histories)
    ∙ ap (λ (x : ContextData). x.progress.last) c.self.view_is in
    subst (λ (o : Option CoreData). HasLive (tracker_behind o work.limits)) (sym last)
    (live_behind work c.args.self.progress c.args.self.histories c.args.self.given_up
    (omega (arith, above)) c.is_sound.ensures.come)

pub end_job-requires-clause-run : goal.end_job-requires-clause-run
end_job-requires-clause-run g c =
    let last = option_map (λ l. l.now) c.last_end-last.result in
    let output = c.in-Ok-open_output.output in
    can_be_kept g.W.Naming.work g.F.Files.state c.self.inside.passed last c.args.goal
    (output_dir output) (output_files g.F.Files.state output) c.run_begun-run.result
    (c.run_begun-run.ensures.runs c.self.inside.passed c.args.goal c.in-Ok-begin.ensures.begun)

pub returns-in_default-clause-stops : goal.returns-in_default-clause-stops
returns-in_default-clause-stops g c =
    let left = c.without_memory in
    stops_short g.W.Naming.work c.args.self left.result.why left.result.records.histories.items
    (histories_of left.result.records.gave_up.items) (g.F.Files.state left.result.files)
    c.is_sound.ensures.come left.ensures.why
    (◌∙◌ {A = List JobHistory} (ap (λ (r : Records). r.histories.items) left.ensures.records)
    (◌∙◌ {A = List JobHistory} c.make_room.ensures.same.histories
    (ap (λ (x : ContextData). x.histories) c.self.view_is)))
    (◌∙◌ {A = List JobHistory}
    (ap (λ (r : Records). histories_of r.gave_up.items) left.ensures.records)
    (◌∙◌ {A = List JobHistory} (ap histories_of c.make_room.ensures.same.given_up)
    (ap (λ (x : ContextData). x.given_up) c.self.view_is)))
    (left.ensures.files ∙ ap (λ (x : ContextData). x.files) c.self.view_is)

pub returns-in-Err-clause-stops : goal.returns-in-Err-clause-stops
returns-in-Err-clause-stops g c =
    let work = g.W.Naming.work in
    let refused = c.in-Err.field-0 in
    let files = g.F.Files.state refused.files in
    let records = c.make_room.new.records in
    stops_unbegun work c.args.self c.args.goal refused.why records.histories.items
    (histories_of records.gave_up.items) files c.requires.next c.is_sound.ensures.come
    (subst (λ f. RefusesOutput (dir_of_job work c.args.goal) f files refused.why)
    (ap (λ (x : ContextData). x.files) c.self.view_is) c.in-Err.ensures.refused)
    (◌∙◌ {A = List JobHistory} c.make_room.ensures.same.histories
    (ap (λ (x : ContextData). x.histories) c.self.view_is))
    (◌∙◌ {A = List JobHistory} (ap histories_of c.make_room.ensures.same.given_up)
    (ap (λ (x : ContextData). x.given_up) c.self.view_is))

pub returns-in_default-begin-clause-stops : goal.returns-in_default-begin-clause-stops
returns-in_default-begin-clause-stops g c =
    let work = g.W.Naming.work in
    let left = c.without_memory-in_default-begin in
    let dir = dir_of_job work c.args.goal in
    stops_opened c.laws_of_ends.ensures.ways work c.args.self c.args.goal left.result.why
    left.result.records.histories.items (histories_of left.result.records.gave_up.items)
    (g.F.Files.state left.result.files) c.requires.next c.is_sound.ensures.come
    (subst (IsOpenIn dir c.args.self.files) (sym (left.ensures.files ∙ c.close.ensures))
    (subst (λ f. IsOpenIn dir f (output_files g.F.Files.state c.in-Ok-open_output.output))
    (ap (λ (x : ContextData). x.files) c.self.view_is) c.in-Ok-open_output.ensures.open.opened))
    left.ensures.why
    (◌∙◌ {A = List JobHistory} (ap (λ (r : Records). r.histories.items) left.ensures.records)
    (◌∙◌ {A = List JobHistory} c.make_room.ensures.same.histories
    (ap (λ (x : ContextData). x.histories) c.self.view_is)))
    (◌∙◌ {A = List JobHistory}
    (ap (λ (r : Records). histories_of r.gave_up.items) left.ensures.records)
    (◌∙◌ {A = List JobHistory} (ap histories_of c.make_room.ensures.same.given_up)
    (ap (λ (x : ContextData). x.given_up) c.self.view_is)))

pub returns-in_default-begin-clause-kept : goal.returns-in_default-begin-clause-kept
returns-in_default-begin-clause-kept g c =
    subst (AreKept g.W.Naming.work) (sym c.without_memory-in_default-begin.ensures.records)
    c.make_room.ensures.kept

pub returns-clause-ended : goal.returns-clause-ended
returns-clause-ended g c =
    let work = g.W.Naming.work in
    let state = g.F.Files.state in
    let self = c.args.self in
    let to = c.args.goal in
    let passed = c.self.inside.passed in
    let last = option_map (λ l. l.now) c.last_end-last.result in
    let output = c.in-Ok-open_output.output in
    let dir = output_dir output in
    let opened = output_files state output in
    let before = c.make_room.new.records.histories.items in
    let given = histories_of c.make_room.new.records.gave_up.items in
    let script = subst (λ (w : WorkData). IsSoundScript w.script)
    (c.get.ensures ∙ c.is_named.ensures) c.is_sound-2.ensures.script in
    let is_open = subst (λ f. IsOpenIn (dir_of_job work to) f opened)
    (ap (λ (x : ContextData). x.files) c.self.view_is) c.in-Ok-open_output.ensures.open.opened in
    let last_is = c.last_end-last.ensures
    ∙ ap last_end (c.as_slice.ensures.value ∙ c.make_room.ensures.same.histories)
    ∙ ap (λ (x : ContextData). x.progress.last) c.self.view_is in
    let before_is = ◌∙◌ {A = List JobHistory} c.make_room.ensures.same.histories
    (ap (λ (x : ContextData). x.histories) c.self.view_is) in
    let given_is = ◌∙◌ {A = List JobHistory} (ap histories_of c.make_room.ensures.same.given_up)
    (ap (λ (x : ContextData). x.given_up) c.self.view_is) in
    IfOk-weaker c.end_job.result
    (λ e. IsRecorded work passed last to dir opened before given e.records.histories.items
    (histories_of e.records.gave_up.items) e.passed (Ok e.results) (state e.files))
    (λ e. IsEnded work self to e.passed e.records.histories.items
    (histories_of e.records.gave_up.items) e.results.items (state e.files))
    (λ e h. ended_recorded c.laws_of_ends.ensures.ways work self to passed opened c.requires.next
    (ap (λ (x : ContextData). x.progress.carried) c.self.view_is) is_open
    (next_known work self.progress to script c.requires.within c.requires.next).0
    c.laws_of_ends.ensures.outcome script e.records.histories.items
    (histories_of e.records.gave_up.items) e.passed e.results (state e.files)
    (recorded_at work passed e.passed last self.progress.last to dir (dir_of_job work to) opened
    before self.histories given self.given_up e.records.histories.items
    (histories_of e.records.gave_up.items) (Ok e.results) (state e.files) last_is
    c.in-Ok-open_output.ensures.open.saves_to before_is given_is h))
    (c.end_job.ensures.went passed last to dir opened
    (c.run_begun-run.ensures.runs passed to c.in-Ok-begin.ensures.begun))

pub returns-clause-stops : goal.returns-clause-stops
returns-clause-stops g c =
    let work = g.W.Naming.work in
    let state = g.F.Files.state in
    let self = c.args.self in
    let to = c.args.goal in
    let passed = c.self.inside.passed in
    let last = option_map (λ l. l.now) c.last_end-last.result in
    let output = c.in-Ok-open_output.output in
    let dir = output_dir output in
    let opened = output_files state output in
    let before = c.make_room.new.records.histories.items in
    let given = histories_of c.make_room.new.records.gave_up.items in
    let sound = subst (λ (w : WorkData). IsSoundWork w) (c.get.ensures ∙ c.is_named.ensures)
    c.is_sound-2.ensures in
    let is_open = subst (λ f. IsOpenIn (dir_of_job work to) f opened)
    (ap (λ (x : ContextData). x.files) c.self.view_is) c.in-Ok-open_output.ensures.open.opened in
    let last_is = c.last_end-last.ensures
    ∙ ap last_end (c.as_slice.ensures.value ∙ c.make_room.ensures.same.histories)
    ∙ ap (λ (x : ContextData). x.progress.last) c.self.view_is in
    let before_is = ◌∙◌ {A = List JobHistory} c.make_room.ensures.same.histories
    (ap (λ (x : ContextData). x.histories) c.self.view_is) in
    let given_is = ◌∙◌ {A = List JobHistory} (ap histories_of c.make_room.ensures.same.given_up)
    (ap (λ (x : ContextData). x.given_up) c.self.view_is) in
    IfErr-weaker c.end_job.result
    (λ s. IsOver work passed last to dir opened before given s.records.histories.items
    (histories_of s.records.gave_up.items) s.why (state s.files))
    (λ s. Stops work self s.why s.records.histories.items
    (histories_of s.records.gave_up.items) (state s.files))
    (λ s h. stops_over c.laws_of_ends.ensures.ways work self to passed opened c.requires.next
    (ap (λ (x : ContextData). x.progress.carried) c.self.view_is) is_open
    (next_known work self.progress to sound.script c.requires.within c.requires.next).0
    (record {
      raises = c.laws_of_ends.ensures.raises;
      losses = c.laws_of_ends.ensures.losses;
      stages = c.laws_of_ends.ensures.stages;
    }) sound c.is_sound.ensures.come c.requires.within c.is_sound.ensures.serves
    s.records.histories.items (histories_of s.records.gave_up.items) s.why
    (state s.files)
    (over_at work passed last self.progress.last to dir (dir_of_job work to) opened before
    self.histories given self.given_up s.records.histories.items
    (histories_of s.records.gave_up.items) s.why (state s.files) last_is
    c.in-Ok-open_output.ensures.open.saves_to before_is given_is h))
    (c.end_job.ensures.over passed last to dir opened
    (c.run_begun-run.ensures.runs passed to c.in-Ok-begin.ensures.begun))
