use Rattle.std.proofs.Common.{◌≡◌, ◌∙◌, ◌+◌, ◌<◌, ◌++◌, [], length, map, take, ap, ap₂, sym, subst, arith}
use Rattle.std.proofs.lemmas.List.{length-append, length-map}
use Rattle.sc_expr.specs.Heads.{first_of}
use Rattle.sc_lineage.specs.Keyed.{leaders}
use Rattle.sc_combine.specs.Groupings.{AreLed, twins}
use Rattle.sc_combine.proofs.PairLemmas.{runs_more}
use Rattle.sc_combine.proofs.RunLemmas.{led_more, led_none}
use Rattle.sc_combine.proofs.TwinLemmas.{firsts_of_twins}
use Rattle.sc_combine.proofs.grouping.led_of_runs.Goals as goal

pub loop-i-init : goal.loop-i-init
loop-i-init c = record {
  led = subst (λ fs. AreLed [] fs c.in_ok-numbers.numbers.items) (sym c.new-firsts.ensures)
      (subst (AreLed [] []) (sym c.in_ok-numbers.ensures.items) led_none);
  count = sym (ap length c.new-firsts.ensures);
}

pub loop-i-preserved : goal.loop-i-preserved
loop-i-preserved c =
    let runs = c.args.runs.now in
    let i = c.loop-i.i in
    let run = c.index-runs-i.result in
    let groups = c.in_ok-groups.groups in
    let are = c.in_ok-groups.ensures (twins run) (sym (firsts_of_twins run)) in
    let firsts = c.loop-i.firsts in
    let out = c.loop-i.numbers.items in
    let within : c.loop-i.i < length c.args.runs.now = omega arith in
    let step = runs_more runs i run within c.index-runs-i.is in
    let grown = c.in_ok-append.ensures in
    let pushed = c.in_ok-add_behind.ensures
    ∙ ap₂ (λ ns k. out ++ map (λ n. k + n) ns) c.deref.ensures.value c.loop-i.invariant.count in
    let size : groups.count ≡ length groups.keys =
    are.count ∙ sym (ap length are.keys ∙ length-map (leaders (twins run)) first_of) in
    record {
      led = subst (λ rs. AreLed rs c.append.new.self c.add_behind.new.out.items) (sym step)
          (led_more run groups.keys groups.numbers.items groups.count are.keys are.numbers are.count
          are.below (take i runs) firsts c.append.new.self out c.add_behind.new.out.items
          c.loop-i.invariant.led grown pushed);
      count = c.in_ok-count.ensures ∙ ap₂ (λ a b. a + b) c.loop-i.invariant.count size
          ∙ sym (ap length grown ∙ length-append firsts groups.keys);
    }
