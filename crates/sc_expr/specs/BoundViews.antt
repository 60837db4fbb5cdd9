-- What the letters of a scheme stand for, and the patterns behind the first.
use Rattle.std.specs.Prelude.{List, [], ◌∷◌, Option, Some, None}
use Rattle.std.specs.Borrow.{Bor}
use Rattle.sc_value.specs.Types.{TypeData}
use Rattle.sc_value.specs.declared.types.Ty.{Ty}
use Rattle.sc_value.specs.Views.{type_data_of}
use Rattle.sc_expr.specs.Schemes.{Bound as BoundData, patterns_behind}
use Rattle.sc_expr.specs.declared.typing.Bound.{Bound}
use Rattle.sc_expr.specs.declared.schemes.Pattern.{Pattern}

-- what a letter stands for
abbrev pub letter_data_of : Option (Bor Ty) → Option TypeData
letter_data_of None = None
letter_data_of (Some r) = Some (type_data_of r.now)

-- what all letters stand for
abbrev pub bound_data_of : Bound → BoundData
bound_data_of b = record {
  t = letter_data_of b.t;
  u = letter_data_of b.u;
}

-- the patterns behind the first of them, once a type fits it
abbrev pub all_behind : List Pattern → List Pattern
all_behind [] = []
all_behind (q ∷ ps) = patterns_behind q ps
