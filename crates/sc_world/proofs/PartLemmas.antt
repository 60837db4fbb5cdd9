-- The text of an attempt's part is that of its partition.
use Rattle.std.proofs.Common.{◌≡◌, ◌∙◌, ℕ, false, List, [], Option, Some, None, map, true≢false, refl, ap, sym}
use Rattle.sc_base.specs.Lists.{at_or}
use Rattle.sc_value.specs.Printing.{printed_lines}
use Rattle.sc_ids.specs.Graphs.{StageData}
use Rattle.sc_ids.specs.declared.blocks.Target.{Target}
use Rattle.sc_ids.specs.declared.blocks.Target.TheVariants as targets
use Rattle.sc_lineage.specs.Actions.{result_of}
use Rattle.sc_lineage.specs.Meaning.{local_streams}
use Rattle.sc_lineage.specs.ScriptData.{ActionData, WorkData, collect_action, count_action, node_of_action, reduce_action, save_action}
use Rattle.sc_lineage.specs.Streams.{ended_stream, whole_stream}
use Rattle.sc_lineage.specs.Targets.{own_value, result_target}
use Rattle.sc_lineage.specs.declared.streams.Stream.{Stream}
use Rattle.sc_lineage.proofs.PlaceLemmas.{at_or-map_any}
use Rattle.sc_dag.specs.Submission.{is_map}
use Rattle.sc_staging.specs.Done.{text_of}
use Rattle.sc_jobs.specs.JobData.{goal_action, stage_in, target_among, target_by}
use Rattle.sc_jobs.specs.declared.goals.Goal.{Goal}
use Rattle.sc_net.specs.Tasks.{TaskData, is_map_stage}
use Rattle.sc_task.specs.States.{IsPartText}
use Rattle.sc_desk.specs.Files.{part_texts}

-- a task that is none of a map stage is to compute a result
result_among : (work : WorkData) (goal : Goal) (o : Option StageData) (p : ℕ)
    → is_map_stage o ≡ false
    → target_among work goal o p ≡ result_target (goal_action work goal) p
result_among work goal None p kind = refl
result_among work goal (Some stage) p kind = by stage.target kind
  where
    by : (target : Target) → is_map target ≡ false
        → target_by work goal target p ≡ result_target (goal_action work goal) p
    by (targets.Map shuffle) k = absurd (true≢false k)
    by (targets.Result node) k = refl

-- past the last partition there are no rows
none_past : (action : ActionData) → printed_lines (result_of action (ended_stream None)).rows ≡ []
none_past (collect_action node) = refl
none_past (count_action node) = refl
none_past (reduce_action node e) = refl
none_past (save_action node dir) = refl

-- the text of a partition is made of what is computed for it
text_at : (action : ActionData) (streams : List Stream) (p : ℕ)
    → at_or (map (λ s. printed_lines s.rows) (map (result_of action) streams)) p []
    ≡ printed_lines (result_of action (at_or streams p (ended_stream None))).rows
text_at action streams p =
    ap (at_or (map (λ s. printed_lines s.rows) (map (result_of action) streams)) p)
    (sym (none_past action))
    ∙ at_or-map_any (λ (s : Stream). printed_lines s.rows) (map (result_of action) streams) p
    (result_of action (ended_stream None))
    ∙ ap (λ (s : Stream). printed_lines s.rows)
    (at_or-map_any (result_of action) streams p (ended_stream None))

pub part_text : (work : WorkData) (t : TaskData) (text : List ℕ) → IsPartText work t text
    → text ≡ text_of (part_texts work t.job.goal) t.hand_out.attempt
part_text work t text (rows, part, is) =
    let a = t.hand_out.attempt in
    let action = goal_action work t.job.goal in
    let target = result_among work t.job.goal (stage_in t.job.graph a.stage) a.partition
    part.part.0 in
    let own : own_value work (result_target action a.partition) ≡ whole_stream rows =
    ap (own_value work) (sym target) ∙ part.own in
    is ∙ ap (λ (s : Stream). printed_lines s.rows) (sym own)
    ∙ sym (text_at action (local_streams work (node_of_action action)) a.partition)
