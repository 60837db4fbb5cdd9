use Rattle.std.proofs.Common.{◌∙◌, ◌+◌, ap, ap₂, refl, replicate, sym, ◌++◌}
use Rattle.std.proofs.lemmas.List.{replicate-append-replicate}
use Rattle.sc_value.specs.Views.{datum_of}
use Rattle.sc_columns.proofs.VariantLemmas.{at-Same}
use Rattle.sc_columns.proofs.joins.merged.Goals as goal

pub returns-in_ok-same-in-Same-second : goal.returns-in_ok-same-in-Same-second
returns-in_ok-same-in-Same-second c =
    let n = c.in-Same.n in
    let m = c.in-Same-second.m in
    let v = datum_of c.in-Same.v.value in
    let same = sym (ap datum_of c.deref.ensures) ∙ c.if-not-is_same.ensures.0 refl
    ∙ ap datum_of c.deref-in-Same-second.ensures in
    c.in_ok-same-in-Same-second.ensures
    ∙ ap (λ w. replicate (n + m) (datum_of w)) c.in_ok-try_clone-in-Same-second.ensures
    ∙ sym (replicate-append-replicate n m v)
    ∙ ap₂ (λ xs ys. xs ++ ys)
    (sym (at-Same c.args.first.now c.in-Same.v n c.in-Same.is))
    (ap (replicate m) same ∙ sym (at-Same c.args.second.now c.in-Same-second.w m
    c.in-Same-second.is))
