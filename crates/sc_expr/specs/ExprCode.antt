-- A code of expressions, by which proofs tell two of them apart: words in postfix order, read back
-- with a stack.
use Rattle.std.specs.Prelude.{◌≡◌, ℕ, zero, suc, ℤ, pos, Bool, List, [], ◌∷◌, ◌⊎◌}
use Rattle.std.specs.Coded.{Coded, code_by, coded_ℕ, coded_ℤ, coded_bool, coded_list, coded⊎}
use mathlib.Core.Logic.{inl, inr}
use mathlib.Core.Path.{refl, ◌∙◌, ap}
use Rattle.sc_expr.specs.ExprData.{ExprData, int_expr, bool_expr, text_expr, variable_expr, call_expr, ExprsData, no_exprs, more_exprs}
use Rattle.sc_expr.specs.declared.exprs.Variable.{Variable}
use Rattle.sc_expr.specs.declared.exprs.Head.{Head}
use Rattle.sc_expr.specs.contracts.exprs.Variable.{the_row as variable_type}
use Rattle.sc_expr.specs.contracts.exprs.Head.{the_row as head_type}

-- a literal, a variable, a head, or a mark
abbrev pub CodeWord : Type 0
CodeWord = ℤ ⊎ (Bool ⊎ (List ℕ ⊎ (Variable ⊎ (Head ⊎ ℕ))))

-- what stands on the stack
pub data Stacked : Type 0 where
  one : ExprData → Stacked
  many : ExprsData → Stacked

-- the word of a head
abbrev pub head_word : Head → CodeWord
head_word h = inr (inr (inr (inr (inl h))))

-- the mark of a place in a list of expressions
abbrev pub mark : ℕ → CodeWord
mark n = inr (inr (inr (inr (inr n))))

abbrev mutual
  -- the words of an expression, in front of others
  pub code_onto : ExprData → List CodeWord → List CodeWord
  code_onto (int_expr n) k = inl n ∷ k
  code_onto (bool_expr b) k = inr (inl b) ∷ k
  code_onto (text_expr t) k = inr (inr (inl t)) ∷ k
  code_onto (variable_expr v) k = inr (inr (inr (inl v))) ∷ k
  code_onto (call_expr h es) k = all_code_onto es (head_word h ∷ k)

  -- the words of expressions, in front of others
  pub all_code_onto : ExprsData → List CodeWord → List CodeWord
  all_code_onto no_exprs k = mark 0 ∷ k
  all_code_onto (more_exprs e es) k = code_onto e (all_code_onto es (mark 1 ∷ k))

-- the stack once a head took the expressions on top
abbrev pub with_call : Head → List Stacked → List Stacked
with_call h (many es ∷ s) = one (call_expr h es) ∷ s
with_call h s = s

-- the stack once the expression below those on top is the first of them
abbrev pub with_more : List Stacked → List Stacked
with_more (many es ∷ one e ∷ s) = many (more_exprs e es) ∷ s
with_more s = s

-- the stack behind a mark
abbrev pub after_mark : ℕ → List Stacked → List Stacked
after_mark zero s = many no_exprs ∷ s
after_mark (suc n) s = with_more s

-- the stack behind a word
abbrev pub after_word : CodeWord → List Stacked → List Stacked
after_word (inl n) s = one (int_expr n) ∷ s
after_word (inr (inl b)) s = one (bool_expr b) ∷ s
after_word (inr (inr (inl t))) s = one (text_expr t) ∷ s
after_word (inr (inr (inr (inl v)))) s = one (variable_expr v) ∷ s
after_word (inr (inr (inr (inr (inl h))))) s = with_call h s
after_word (inr (inr (inr (inr (inr n))))) s = after_mark n s

-- the stack behind words, one after another
abbrev pub stack_after : List CodeWord → List Stacked → List Stacked
stack_after [] s = s
stack_after (w ∷ ws) s = stack_after ws (after_word w s)

mutual
  -- the words of an expression put it on the stack
  pub stack_after-code_onto : (e : ExprData) (k : List CodeWord) (s : List Stacked)
      → stack_after (code_onto e k) s ≡ stack_after k (one e ∷ s)
  stack_after-code_onto (int_expr n) k s = refl
  stack_after-code_onto (bool_expr b) k s = refl
  stack_after-code_onto (text_expr t) k s = refl
  stack_after-code_onto (variable_expr v) k s = refl
  stack_after-code_onto (call_expr h es) k s = stack_after-all_code_onto es (head_word h ∷ k) s

  -- the words of expressions put them on the stack
  pub stack_after-all_code_onto : (es : ExprsData) (k : List CodeWord) (s : List Stacked)
      → stack_after (all_code_onto es k) s ≡ stack_after k (many es ∷ s)
  stack_after-all_code_onto no_exprs k s = refl
  stack_after-all_code_onto (more_exprs e es) k s =
      stack_after-code_onto e (all_code_onto es (mark 1 ∷ k)) s
      ∙ stack_after-all_code_onto es (mark 1 ∷ k) (one e ∷ s)

-- the expression on top of a stack
abbrev pub top_of : List Stacked → ExprData
top_of (one e ∷ s) = e
top_of s = int_expr (pos 0)

-- the words of an expression
abbrev pub code_words : ExprData → List CodeWord
code_words e = code_onto e []

-- the expression that words spell
abbrev pub expr_from : List CodeWord → ExprData
expr_from ws = top_of (stack_after ws [])

-- an expression is read back from its words
abbrev pub expr_from-code_words : (e : ExprData) → expr_from (code_words e) ≡ e
expr_from-code_words e = ap top_of (stack_after-code_onto e [] [])

-- expressions as words, and back
abbrev pub expr_code : Coded ExprData
expr_code =
    code_by (List CodeWord)
    (coded_list (coded⊎ coded_ℤ (coded⊎ coded_bool (coded⊎ (coded_list coded_ℕ)
    (coded⊎ variable_type.coded (coded⊎ head_type.coded coded_ℕ))))))
    code_words expr_from expr_from-code_words
