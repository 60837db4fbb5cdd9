use Rattle.std.proofs.Common.{◌∙◌, ap, min, cond, ltb, length, Some}
use Rattle.std.specs.List.{slice_range}
use Rattle.std.proofs.lemmas.Result.{IfOk-weaker}
use Rattle.sc_value.specs.Words.{words_of}
use Rattle.sc_expr.specs.declared.exprs.Raise.TheVariants.{OutOfRange}
use Rattle.sc_batch.proofs.WordLemmas.{each-nth}
use Rattle.sc_batch.proofs.picks.nth_words.Goals as goal

pub returns : goal.returns
returns c =
    let all = c.args.all.now in
    let n = c.args.place.rows in
    let some_are = c.in_ok-some.ensures ∙ ap (slice_range all 0) (c.min.ensures
    ∙ ap (λ m. min m n) c.len.ensures) in
    let ends = c.ended-raise.ensures
    ∙ ap (λ m. cond (ltb m c.len-3.result) (Some OutOfRange) c.args.end) c.len-2.ensures
    ∙ ap (λ m. cond (ltb (length c.in_ok-found.found) m) (Some OutOfRange) c.args.end)
    c.len-3.ensures in
    IfOk-weaker c.texts.result _ _ (λ s is. is
    ∙ each-nth words_of c.args.place.at n all c.in_ok-some.some c.in_ok-found.found c.args.end
    c.ended-raise.result some_are c.in_ok-found.ensures ends) c.texts.ensures
