-- The tables of operations, actions and heads: how each is written, and what it takes.
use Rattle.std.specs.Prelude.{ℕ, ◌≡◌, ◌↔◌, List, [], ◌∷◌, codes, Contains, Option, Some, None, if◌then◌else◌}
use Rattle.std.specs.Str.{bytes_eq}
use Rattle.sc_expr.specs.declared.exprs.Head.{Head}
use Rattle.sc_expr.specs.declared.exprs.Head.TheVariants as heads
use Rattle.sc_lineage.specs.declared.nodes.Elementwise.TheVariants as each
use Rattle.sc_lineage.specs.declared.nodes.Meeting.TheVariants as meet
use Rattle.sc_script.specs.declared.tables.Operation.{Operation}
use Rattle.sc_script.specs.declared.tables.Operation.TheVariants as by
use Rattle.sc_script.specs.declared.tables.ActionName.{ActionName}
use Rattle.sc_script.specs.declared.tables.ActionName.TheVariants as to
use Rattle.sc_script.specs.declared.tables.ArgKind.{ArgKind}
use Rattle.sc_script.specs.declared.tables.ArgKind.TheVariants as kinds
use Rattle.sc_script.specs.Trees.{HeadData, word_head, sign_head}

-- a table: a spelling and what it stands for, line by line
abbrev pub Table : Type 0 → Type 0
Table T = List (List ℕ × T)

-- what the first line with this spelling stands for
abbrev pub found_in : {T : Type 0} → Table T → List ℕ → Option T
found_in [] word = None
found_in (line ∷ lines) word = if bytes_eq word line.0 then Some line.1 else found_in lines word

-- the operations of definitions
abbrev pub operations : Table Operation
operations =
    (codes "text", by.Text)
    ∷ (codes "parallelize", by.Parallelize)
    ∷ (codes "map", by.Each each.Map)
    ∷ (codes "filter", by.Each each.Filter)
    ∷ (codes "flatMap", by.Each each.FlatMap)
    ∷ (codes "mapValues", by.Each each.MapValues)
    ∷ (codes "flatMapValues", by.Each each.FlatMapValues)
    ∷ (codes "union", by.Union)
    ∷ (codes "coalesce", by.Coalesce)
    ∷ (codes "repartition", by.Repartition)
    ∷ (codes "cache", by.Cache)
    ∷ (codes "reduceByKey", by.ReduceByKey)
    ∷ (codes "groupByKey", by.GroupByKey)
    ∷ (codes "sortByKey", by.SortByKey)
    ∷ (codes "cogroup", by.Meet meet.Cogroup)
    ∷ (codes "join", by.Meet meet.Join)
    ∷ []

-- the actions
abbrev pub actions : Table ActionName
actions =
    (codes "collect", to.Collect)
    ∷ (codes "count", to.Count)
    ∷ (codes "reduce", to.Reduce)
    ∷ (codes "save", to.Save)
    ∷ []

-- the heads that are signs
abbrev pub signs : Table Head
signs =
    (codes "+", heads.Add)
    ∷ (codes "-", heads.Sub)
    ∷ (codes "*", heads.Mul)
    ∷ (codes "/", heads.Div)
    ∷ (codes "%", heads.Rem)
    ∷ (codes "==", heads.Eq)
    ∷ (codes "<", heads.Lt)
    ∷ (codes "<=", heads.Le)
    ∷ []

-- the heads that are words
abbrev pub words : Table Head
words =
    (codes "and", heads.And)
    ∷ (codes "or", heads.Or)
    ∷ (codes "not", heads.Not)
    ∷ (codes "if", heads.If)
    ∷ (codes "pair", heads.Pair)
    ∷ (codes "fst", heads.Fst)
    ∷ (codes "snd", heads.Snd)
    ∷ (codes "list", heads.List)
    ∷ (codes "len", heads.Len)
    ∷ (codes "nth", heads.Nth)
    ∷ (codes "sum", heads.Sum)
    ∷ (codes "words", heads.Words)
    ∷ (codes "cut", heads.Cut)
    ∷ (codes "int", heads.Int)
    ∷ (codes "text", heads.Text)
    ∷ (codes "concat", heads.Concat)
    ∷ []

-- the head that is written so
abbrev pub named_head : HeadData → Option Head
named_head (word_head w) = found_in words w
named_head (sign_head s) = found_in signs s

-- what an operation takes
abbrev pub operation_kinds : Operation → List ArgKind
operation_kinds by.Text = kinds.Input ∷ kinds.Count ∷ []
operation_kinds by.Parallelize = kinds.Count ∷ kinds.Literals ∷ []
operation_kinds (by.Each kind) = kinds.Node ∷ kinds.Expr ∷ []
operation_kinds by.Union = kinds.Node ∷ kinds.Node ∷ []
operation_kinds by.Coalesce = kinds.Node ∷ kinds.Count ∷ []
operation_kinds by.Repartition = kinds.Node ∷ kinds.Count ∷ []
operation_kinds by.Cache = kinds.Node ∷ []
operation_kinds by.ReduceByKey = kinds.Node ∷ kinds.Count ∷ kinds.Expr ∷ []
operation_kinds by.GroupByKey = kinds.Node ∷ kinds.Count ∷ []
operation_kinds by.SortByKey = kinds.Node ∷ kinds.Count ∷ []
operation_kinds (by.Meet kind) = kinds.Node ∷ kinds.Node ∷ kinds.Count ∷ []

-- what an action takes
abbrev pub action_kinds : ActionName → List ArgKind
action_kinds to.Collect = kinds.Node ∷ []
action_kinds to.Count = kinds.Node ∷ []
action_kinds to.Reduce = kinds.Node ∷ kinds.Expr ∷ []
action_kinds to.Save = kinds.Node ∷ kinds.Directory ∷ []

-- what a head takes
abbrev pub head_kinds : Head → List ArgKind
head_kinds heads.Not = kinds.Expr ∷ []
head_kinds heads.Fst = kinds.Expr ∷ []
head_kinds heads.Snd = kinds.Expr ∷ []
head_kinds heads.Len = kinds.Expr ∷ []
head_kinds heads.Sum = kinds.Expr ∷ []
head_kinds heads.Words = kinds.Expr ∷ []
head_kinds heads.Int = kinds.Expr ∷ []
head_kinds heads.Text = kinds.Expr ∷ []
head_kinds heads.If = kinds.Expr ∷ kinds.Expr ∷ kinds.Expr ∷ []
head_kinds heads.List = kinds.Expr ∷ kinds.Exprs ∷ []
head_kinds heads.Cut = kinds.Expr ∷ kinds.Character ∷ []
head_kinds h = kinds.Expr ∷ kinds.Expr ∷ []

-- what a head takes, where it is one
abbrev pub kinds_of : Option Head → List ArgKind
kinds_of None = []
kinds_of (Some h) = head_kinds h

-- a table has exactly what is found in it: no spelling stands there twice
abbrev pub IsExact : {T : Type 0} → Table T → Type 0
IsExact {T} table =
    (word : List ℕ) (t : T) → (found_in table word ≡ Some t) ↔ Contains table (word, t)

-- each table is exact
pub record TablesAreExact : Type 0 where
  pub operations_exact : IsExact operations
  pub actions_exact : IsExact actions
  pub words_exact : IsExact words
  pub signs_exact : IsExact signs
