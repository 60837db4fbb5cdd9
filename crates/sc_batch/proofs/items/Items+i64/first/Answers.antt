use Rattle.std.proofs.Common.{rules, ◌≤◌, ◌∙◌, length, replicate, take, ap, sym, subst, arith}
use Rattle.std.proofs.lemmas.Int.{to_z-of_z}
use Rattle.std.proofs.lemmas.List.{length-replicate, take-replicate}
use mir.Val.{SFits}
use mir.Syntax.{w64}
use Rattle.sc_batch.specs.Items.{list_in}
use Rattle.sc_batch.proofs.items.Items+i64.first.Goals as goal

pub returns-in_ok-vec-in-Same : goal.returns-in_ok-vec-in-Same
returns-in_ok-vec-in-Same c =
    let y = c.in-Same.item.now in
    let n = c.in-Same.field-1 in
    let m = c.args.count in
    let fits : SFits w64 y = search rules in
    let are = ap list_in c.in-Same.is in
    let within : m ≤ length (replicate n y) = subst (λ ys. m ≤ length ys) are c.requires in
    c.in_ok-vec-in-Same.ensures.items_if_clones_equal (λ _ same. same)
    ∙ ap (replicate m) (to_z-of_z w64 y fits)
    ∙ sym (take-replicate m n y (omega (arith, within, length-replicate n y)))
    ∙ ap (take m) (sym are)
