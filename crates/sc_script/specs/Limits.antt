-- The limits of scripts, each in one place. That of partitions is the lineage's `partition_limit`.
use Rattle.std.specs.Prelude.{ℕ}

-- the most bytes of a script, and of one of its lines
abbrev pub script_limit : ℕ
script_limit = 65536

abbrev pub line_limit : ℕ
line_limit = 4096

-- how deep parentheses may be nested
abbrev pub depth_limit : ℕ
depth_limit = 32

-- the most characters of a word
abbrev pub word_limit : ℕ
word_limit = 64

-- the most definitions and actions of a script
abbrev pub node_limit : ℕ
node_limit = 256

abbrev pub action_limit : ℕ
action_limit = 64

-- the most constructors that the type of a node's rows is written with
abbrev pub type_limit : ℕ
type_limit = 256
