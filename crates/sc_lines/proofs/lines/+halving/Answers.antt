use Rattle.std.proofs.Common.{◌∙◌, Err, List, ℕ, ap, rules, subst}
use Rattle.std.proofs.lemmas.Result.{IfOk-at_ok, err_from_is_err_and}
use Rattle.sc_lines.specs.Halves.{AreLinesOf, IsFound}
use Rattle.sc_lines.proofs.HalfLemmas.{found_both, none_in_back, none_in_front}
use Rattle.sc_lines.proofs.lines.+halving.Goals as goal

pub returns-in_err-spans : goal.returns-in_err-spans
returns-in_err-spans g t c =
    let p = err_from_is_err_and c.from_residual.result c.from_residual.ensures.1 in
    none_in_front c.args.text.now c.middle.result c.join-first.result.0 c.from_residual.result
    c.in_err-spans.field-0.0 c.middle.ensures c.in_err-spans.was (p.1 ∙ ap Err p.2)
    (subst (λ (x : List ℕ). IsFound x c.join-first.result.0) c.split_at.ensures.front
    c.join-first.ensures.first)

pub returns-in_err-second : goal.returns-in_err-second
returns-in_err-second g t c =
    let p = err_from_is_err_and c.from_residual-in_err-second.result
    c.from_residual-in_err-second.ensures.1 in
    none_in_back c.args.text.now c.middle.result c.join-first.result.1
    c.from_residual-in_err-second.result
    c.in_err-second.field-0.0 c.middle.ensures c.in_err-second.was (p.1 ∙ ap Err p.2)
    (subst (λ (x : List ℕ). IsFound x c.join-first.result.1) c.split_at.ensures.back
    c.join-first.ensures.second)

pub returns : goal.returns
returns g t c =
    found_both c.args.text.now c.middle.result c.in_ok-spans.spans.items
    c.in_ok-second.field-0.items c.append_moved.new.spans c.middle.ensures (search rules)
    (subst (λ (x : List ℕ). AreLinesOf x c.in_ok-spans.spans.items) c.split_at.ensures.front
    (IfOk-at_ok (λ v. AreLinesOf c.split_at.result.0.now v.items) c.in_ok-spans.was
    c.join-first.ensures.first.lines))
    (subst (λ (x : List ℕ). AreLinesOf x c.in_ok-second.field-0.items) c.split_at.ensures.back
    (IfOk-at_ok (λ v. AreLinesOf c.split_at.result.1.now v.items) c.in_ok-second.was
    c.join-first.ensures.second.lines))
