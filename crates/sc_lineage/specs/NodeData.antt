-- The nodes of a lineage, as plain data.
use Rattle.std.specs.Prelude.{ℕ, List}
use Rattle.sc_value.specs.Datum.{Datum}
use Rattle.sc_expr.specs.ExprData.{ExprData}
use Rattle.sc_lineage.specs.declared.nodes.Elementwise.{Elementwise}
use Rattle.sc_lineage.specs.declared.nodes.Meeting.{Meeting}

-- what a shuffle of one parent does with its rows
pub data ShufflingData : Type 0 where
  -- puts the values under each key together, by an expression over two values
  reduce_by_key : ExprData → ShufflingData
  -- gathers the values under each key
  group_by_key : ShufflingData
  -- sorts by key, so that the partitions are ranges of keys
  sort_by_key : ShufflingData
  -- deals the rows out in turn
  repartition : ShufflingData

-- a node, by what it reads and what it does with it; the nodes that it reads go by their numbers
pub data NodeData : Type 0 where
  -- the lines of an input by its name, in so many slices
  text_node : List ℕ → ℕ → NodeData
  -- literals, in so many slices
  parallelize_node : List Datum → ℕ → NodeData
  -- an operation with an expression, row by row of a parent
  each_node : Elementwise → ℕ → ExprData → NodeData
  -- the partitions of one node and then those of another
  union_node : ℕ → ℕ → NodeData
  -- the partitions of a parent put together, so that there are so many at most
  coalesce_node : ℕ → ℕ → NodeData
  -- the partitions of a parent, worth keeping
  cache_node : ℕ → NodeData
  -- the rows of a parent, shuffled into so many partitions
  shuffle_node : ShufflingData → ℕ → ℕ → NodeData
  -- the rows of two parents that have the same keys, in so many partitions
  meet_node : Meeting → ℕ → ℕ → ℕ → NodeData
