-- What the tasks of an action hand over, by the rows of their partitions.
use Rattle.std.specs.Prelude.{◌≡◌, List, [], length, map, replicate}
use Rattle.sc_value.specs.Datum.{Datum, group, no_items}
use Rattle.sc_lineage.specs.Actions.{local_results}
use Rattle.sc_lineage.specs.ScriptData.{ActionData, WorkData, collect_action, count_action, reduce_action, save_action}
use Rattle.sc_lineage.specs.Streams.{whole_stream}
use Rattle.sc_lineage.specs.Targets.{TargetData, map_target, own_value, result_target}
use Rattle.sc_compute.specs.declared.results.TaskResult.{TaskResult}
use Rattle.sc_compute.specs.declared.results.TaskResult.TheVariants.{Rows, Count, Saved}

-- what is handed over of the rows of a partition: for `count` their number alone, for a save only
-- that they are saved, else themselves
abbrev pub result_by : ActionData → List Datum → TaskResult
result_by (collect_action node) rows = Rows rows
result_by (count_action node) rows = Count (length rows)
result_by (reduce_action node e) rows = Rows rows
result_by (save_action node dir) rows = Saved

abbrev pub result_for : TargetData → List Datum → TaskResult
result_for (map_target node side m) rows = Rows rows
result_for (result_target action p) rows = result_by action rows

-- A result is handed over for a target: what the target is to have computed doesn't raise, and the
-- result tells of its rows what the action needs of them.
pub record HandsOver (work : WorkData) (target : TargetData) (result : TaskResult) : Type 0 where
  pub rows : List Datum
  pub own : own_value work target ≡ whole_stream rows
  pub told : result ≡ result_for target rows

-- results are those of all partitions for an action, in order, of which none raises
pub record AreResultsOf (work : WorkData) (action : ActionData) (results : List TaskResult)
    : Type 0 where
  pub rows : List (List Datum)
  pub whole : local_results work action ≡ map whole_stream rows
  pub told : results ≡ map (result_by action) rows

-- a result has its rows
abbrev pub HasRows : TaskResult → Type 0
HasRows (Rows rows) = Unit {0}
HasRows (Count n) = ⊥
HasRows Saved = ⊥

-- a result has what an action needs: where it neither counts nor saves, the rows
abbrev pub IsFor : ActionData → TaskResult → Type 0
IsFor (collect_action node) result = HasRows result
IsFor (count_action node) result = Unit {0}
IsFor (reduce_action node e) result = HasRows result
IsFor (save_action node dir) result = Unit {0}

-- Rows of which a result tells: its own, so many of any kind, or none. What an action makes of a
-- result that is for it is what it makes of these, unless it saves.
abbrev pub rows_told : TaskResult → List Datum
rows_told (Rows rows) = rows
rows_told (Count n) = replicate n (group no_items)
rows_told Saved = []
