use Rattle.std.proofs.Common.{◌∙◌, ◌++◌, ◌∷◌, [], ap, rules, sym}
use Rattle.sc_value.proofs.CutLemmas.{cut_more, cut_last}
use Rattle.sc_value.specs.Words.{cut_at}
use Rattle.sc_value.proofs.cuts.cut_in.Goals as goal

pub loop-piece-preserved : goal.loop-piece-preserved
loop-piece-preserved c = (
  search rules,
  cut_more c.args.separator.now c.loop-piece.rest.now c.in-Some.behind.now c.in-Some.piece.now
      c.loop-piece.out.items c.push-in-Some.new.self.items
      (cut_at c.args.separator.now c.args.text.now) (sym c.is_empty.ensures ∙ c.if-is_empty.false)
      c.in-Some.ensures.cases (c.in_ok-push-2.ensures.items
      ∙ ap (λ t. c.loop-piece.out.items ++ t ∷ []) c.in_ok-new-2.ensures)
      c.loop-piece.invariant.1,
)

pub returns : goal.returns
returns c =
    cut_last c.args.separator.now c.loop-piece.rest.now c.loop-piece.out.items
    c.push-2.new.self.items (cut_at c.args.separator.now c.args.text.now)
    (sym c.is_empty.ensures ∙ c.if-is_empty.false) c.in_default.ensures.cases
    (c.in_ok-push-3.ensures.items
    ∙ ap (λ t. c.loop-piece.out.items ++ t ∷ []) c.in_ok-new-3.ensures)
    c.loop-piece.invariant.1
