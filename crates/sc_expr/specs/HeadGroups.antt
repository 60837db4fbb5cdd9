-- The groups of heads that the code takes together.
use Rattle.std.specs.Prelude.{Bool, true, false}
use Rattle.sc_expr.specs.Heads.{is_lazy}
use Rattle.sc_expr.specs.declared.exprs.Head.{Head}
use Rattle.sc_expr.specs.declared.exprs.Head.TheVariants as heads

-- a head that computes from two numbers
abbrev pub is_arithmetic : Head → Bool
is_arithmetic heads.Add = true
is_arithmetic heads.Sub = true
is_arithmetic heads.Mul = true
is_arithmetic heads.Div = true
is_arithmetic heads.Rem = true
is_arithmetic h = false

-- a head that gives a truth value
abbrev pub is_test : Head → Bool
is_test heads.Eq = true
is_test heads.Lt = true
is_test heads.Le = true
is_test heads.Not = true
is_test h = is_lazy h

-- a head that keeps its arguments or parts of them
abbrev pub is_keeper : Head → Bool
is_keeper heads.Pair = true
is_keeper heads.Fst = true
is_keeper heads.Snd = true
is_keeper heads.List = true
is_keeper heads.Nth = true
is_keeper h = false

-- a head that reads a text, a list or any value to its end
abbrev pub is_reader : Head → Bool
is_reader heads.Len = true
is_reader heads.Sum = true
is_reader heads.Words = true
is_reader heads.Cut = true
is_reader heads.Int = true
is_reader heads.Text = true
is_reader heads.Concat = true
is_reader h = false
