use Rattle.std.proofs.Common.{◌≡◌, ◌∙◌, ◌+◌, ◌-◌, [], ◌∷◌, ◌++◌, append_assoc, ap, arith, sym}
use Rattle.std.specs.List.{range_with_len}
use Rattle.sc_columns.proofs.FlatLemmas.{range_with_len_more}
use Rattle.sc_columns.proofs.flats.push_range.Goals as goal

pub loop-k-preserved : goal.loop-k-preserved
loop-k-preserved c =
    let a = c.args.from in
    let start = c.args.out.now.items in
    let k = c.loop-k.k in
    let count : c.loop-k.k - c.args.from + 1 ≡ c.loop-k.k + 1 - c.args.from = omega arith in
    let place : c.args.from + (c.loop-k.k - c.args.from) ≡ c.loop-k.k = omega arith in
    c.in_ok-push.ensures.items
    ∙ ap (λ o. o ++ k ∷ []) c.loop-k.invariant
    ∙ append_assoc start (range_with_len a (k - a)) (k ∷ [])
    ∙ ap (λ p. start ++ (range_with_len a (k - a) ++ p ∷ [])) (sym place)
    ∙ ap (λ r. start ++ r) (sym (range_with_len_more a (k - a)))
    ∙ ap (λ n. start ++ range_with_len a n) count

pub returns : goal.returns
returns c =
    let count : c.loop-k.k - c.args.from ≡ c.args.to - c.args.from = omega arith in
    c.loop-k.invariant ∙ ap (λ n. c.args.out.now.items ++ range_with_len c.args.from n) count
