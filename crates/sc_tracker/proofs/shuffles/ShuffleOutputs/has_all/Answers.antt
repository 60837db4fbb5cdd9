use Rattle.std.proofs.Common.{◌≡◌, ◌∙◌, ◌≤◌, ◌<◌, sym, ap, refl, arith, length, nat_eq, true, count_by}
use Rattle.std.proofs.lemmas.Bool.Decides.{nat_tests}
use Rattle.sc_tracker.specs.Outputs.{are_here, is_here, never}
use Rattle.sc_tracker.proofs.CountLemmas.{all_pass, few_pass}
use Rattle.sc_tracker.proofs.shuffles.ShuffleOutputs.has_all.Goals as goal

pub returns-then-self-maps : goal.returns-then-self-maps
returns-then-self-maps c =
    let outputs = c.self.inside.outputs.items in
    let less : count_by is_here outputs < c.args.maps =
    omega (arith, c.self.invariant, c.if-self-maps.true) in
    sym (rw (← c.self.view_is) (few_pass is_here never refl outputs c.args.maps less))

pub returns-then-len-maps : goal.returns-then-len-maps
returns-then-len-maps c =
    let outputs = c.self.inside.outputs.items in
    let same : length outputs ≡ c.args.maps =
    omega (arith, c.len.ensures, c.if-len-maps.true, c.self.inside.outputs.ok.0) in
    let full : length outputs ≤ count_by is_here outputs =
    omega (arith, same, c.self.invariant, c.if-self-maps.false) in
    let is : nat_eq c.len.result c.args.maps ≡ true =
    grind (arith, nat_tests, c.if-len-maps.true) in
    is ∙ sym (rw (← c.self.view_is)
    (ap (are_here outputs) (sym same) ∙ all_pass is_here never outputs full))
