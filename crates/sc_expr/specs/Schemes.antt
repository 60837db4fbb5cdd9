-- The types of expressions: a scheme for each head, and one matcher.
use Rattle.std.specs.Prelude.{Bool, true, false, List, [], ◌∷◌, Option, Some, None, if◌then◌else◌}
use Rattle.std.specs.Option.{option_map, option_and_then}
use Rattle.sc_value.specs.Types.{TypeData, int_type, bool_type, text_type, pair_type, list_type, same_type}
use Rattle.sc_expr.specs.ExprData.{ExprData, int_expr, bool_expr, text_expr, variable_expr, call_expr, ExprsData, no_exprs, more_exprs}
use Rattle.sc_expr.specs.declared.exprs.Variable.{Variable}
use Rattle.sc_expr.specs.declared.exprs.Variable.TheVariants.{X, A, B}
use Rattle.sc_expr.specs.declared.exprs.Head.{Head}
use Rattle.sc_expr.specs.declared.exprs.Head.TheVariants as heads
use Rattle.sc_expr.specs.declared.schemes.Pattern.{Pattern}
use Rattle.sc_expr.specs.declared.schemes.Pattern.TheVariants as p

-- the types of the variables of a place: of `x`, or of `a` and `b`
pub data TypeEnvData : Type 0 where
  one_type : TypeData → TypeEnvData
  two_types : TypeData → TypeData → TypeEnvData

-- the type of a variable, where the place has it
abbrev pub variable_type : TypeEnvData → Variable → Option TypeData
variable_type (one_type x) X = Some x
variable_type (two_types a b) A = Some a
variable_type (two_types a b) B = Some b
variable_type env v = None

-- the types of a head's arguments
abbrev pub head_takes : Head → List Pattern
head_takes heads.Add = p.Int ∷ p.Int ∷ []
head_takes heads.Sub = p.Int ∷ p.Int ∷ []
head_takes heads.Mul = p.Int ∷ p.Int ∷ []
head_takes heads.Div = p.Int ∷ p.Int ∷ []
head_takes heads.Rem = p.Int ∷ p.Int ∷ []
head_takes heads.Eq = p.Plain ∷ p.Plain ∷ []
head_takes heads.Lt = p.Ordered ∷ p.Ordered ∷ []
head_takes heads.Le = p.Ordered ∷ p.Ordered ∷ []
head_takes heads.And = p.Bool ∷ p.Bool ∷ []
head_takes heads.Or = p.Bool ∷ p.Bool ∷ []
head_takes heads.Not = p.Bool ∷ []
head_takes heads.If = p.Bool ∷ p.T ∷ p.T ∷ []
head_takes heads.Pair = p.T ∷ p.U ∷ []
head_takes heads.Fst = p.PairTU ∷ []
head_takes heads.Snd = p.PairTU ∷ []
head_takes heads.List = p.T ∷ p.EachT ∷ []
head_takes heads.Len = p.ListT ∷ []
head_takes heads.Nth = p.ListT ∷ p.Int ∷ []
head_takes heads.Sum = p.ListInt ∷ []
head_takes heads.Words = p.Text ∷ []
head_takes heads.Cut = p.Text ∷ p.Text ∷ []
head_takes heads.Int = p.Text ∷ []
head_takes heads.Text = p.T ∷ []
head_takes heads.Concat = p.Text ∷ p.Text ∷ []

-- the type that a head gives
abbrev pub head_gives : Head → Pattern
head_gives heads.Add = p.Int
head_gives heads.Sub = p.Int
head_gives heads.Mul = p.Int
head_gives heads.Div = p.Int
head_gives heads.Rem = p.Int
head_gives heads.Eq = p.Bool
head_gives heads.Lt = p.Bool
head_gives heads.Le = p.Bool
head_gives heads.And = p.Bool
head_gives heads.Or = p.Bool
head_gives heads.Not = p.Bool
head_gives heads.If = p.T
head_gives heads.Pair = p.PairTU
head_gives heads.Fst = p.T
head_gives heads.Snd = p.U
head_gives heads.List = p.ListT
head_gives heads.Len = p.Int
head_gives heads.Nth = p.T
head_gives heads.Sum = p.Int
head_gives heads.Words = p.ListText
head_gives heads.Cut = p.ListText
head_gives heads.Int = p.Int
head_gives heads.Text = p.Text
head_gives heads.Concat = p.Text

-- what the letters of a scheme stand for so far
pub record Bound : Type 0 where
  pub t : Option TypeData
  pub u : Option TypeData

-- nothing so far
abbrev pub nothing_bound : Bound
nothing_bound = record { t = None; u = None }

-- a letter bound to a type: anew, or to the same type again
abbrev pub bound_to : Option TypeData → TypeData → Option TypeData
bound_to None s = Some s
bound_to (Some r) s = if same_type r s then Some r else None

-- the letter T bound to a type
abbrev pub with_t : Bound → TypeData → Option Bound
with_t b s = option_map (λ r. record { t = Some r; u = b.u }) (bound_to b.t s)

-- the letter U bound to a type
abbrev pub with_u : Bound → TypeData → Option Bound
with_u b s = option_map (λ r. record { t = b.t; u = Some r }) (bound_to b.u s)

-- a type that `==` compares
abbrev pub is_plain : TypeData → Bool
is_plain int_type = true
is_plain bool_type = true
is_plain text_type = true
is_plain s = false

-- a type that `<` compares
abbrev pub is_ordered : TypeData → Bool
is_ordered int_type = true
is_ordered text_type = true
is_ordered s = false

-- what the letters stand for, where a test holds
abbrev pub where_true : Bool → Bound → Option Bound
where_true true b = Some b
where_true false b = None

-- the letters bound to the parts of a pair
abbrev pub with_pair : Bound → TypeData → Option Bound
with_pair b (pair_type r s) = option_and_then (λ c. with_u c s) (with_t b r)
with_pair b s = None

-- the letter T bound to the items of a list
abbrev pub with_items : Bound → TypeData → Option Bound
with_items b (list_type s) = with_t b s
with_items b s = None

-- what the letters stand for once a type fits a pattern
abbrev pub matched : Pattern → TypeData → Bound → Option Bound
matched p.Int s b = where_true (same_type s int_type) b
matched p.Bool s b = where_true (same_type s bool_type) b
matched p.Text s b = where_true (same_type s text_type) b
matched p.Plain s b = if is_plain s then with_t b s else None
matched p.Ordered s b = if is_ordered s then with_t b s else None
matched p.T s b = with_t b s
matched p.EachT s b = with_t b s
matched p.U s b = with_u b s
matched p.PairTU s b = with_pair b s
matched p.ListT s b = with_items b s
matched p.ListInt s b = where_true (same_type s (list_type int_type)) b
matched p.ListText s b = where_true (same_type s (list_type text_type)) b

-- the patterns behind a type that fits the first of them
abbrev pub patterns_behind : Pattern → List Pattern → List Pattern
patterns_behind p.EachT ps = p.EachT ∷ ps
patterns_behind q ps = ps

-- no type need follow
abbrev pub may_end : List Pattern → Bool
may_end [] = true
may_end (p.EachT ∷ ps) = true
may_end (q ∷ ps) = false

-- what the letters stand for once types fit patterns one after another
abbrev pub all_matched : List Pattern → List TypeData → Bound → Option Bound
all_matched ps [] b = where_true (may_end ps) b
all_matched [] (s ∷ ss) b = None
all_matched (q ∷ ps) (s ∷ ss) b =
    option_and_then (all_matched (patterns_behind q ps) ss) (matched q s b)

-- a pair of two types that are both there
abbrev pub pair_given : Option TypeData → Option TypeData → Option TypeData
pair_given (Some s) (Some t) = Some (pair_type s t)
pair_given s t = None

-- the type that a pattern writes
abbrev pub given : Pattern → Bound → Option TypeData
given p.Int b = Some int_type
given p.Bool b = Some bool_type
given p.Text b = Some text_type
given p.Plain b = b.t
given p.Ordered b = b.t
given p.T b = b.t
given p.EachT b = b.t
given p.U b = b.u
given p.PairTU b = pair_given b.t b.u
given p.ListT b = option_map list_type b.t
given p.ListInt b = Some (list_type int_type)
given p.ListText b = Some (list_type text_type)

-- the type that a head gives at types
abbrev pub head_type : Head → List TypeData → Option TypeData
head_type h ss =
    option_and_then (given (head_gives h)) (all_matched (head_takes h) ss nothing_bound)

-- a type in front of others
abbrev pub with_type : Option TypeData → Option (List TypeData) → Option (List TypeData)
with_type (Some s) (Some ss) = Some (s ∷ ss)
with_type s ss = None

abbrev mutual
  -- the type of an expression, where it has one
  pub type_of_expr : TypeEnvData → ExprData → Option TypeData
  type_of_expr env (int_expr n) = Some int_type
  type_of_expr env (bool_expr b) = Some bool_type
  type_of_expr env (text_expr t) = Some text_type
  type_of_expr env (variable_expr v) = variable_type env v
  type_of_expr env (call_expr h es) = option_and_then (head_type h) (types_of_exprs env es)

  -- the types of expressions, where each has one
  pub types_of_exprs : TypeEnvData → ExprsData → Option (List TypeData)
  types_of_exprs env no_exprs = Some []
  types_of_exprs env (more_exprs e es) = with_type (type_of_expr env e) (types_of_exprs env es)
