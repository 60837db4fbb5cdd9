use Rattle.std.proofs.Common.{◌≡◌, ◌∙◌, ◌<◌, length, ap, ap₂, sym, subst}
use Rattle.std.proofs.lemmas.List.{length-map}
use Rattle.std.specs.List.{All}
use Rattle.sc_expr.specs.Heads.{first_of}
use Rattle.sc_value.specs.Picked.{ArePlaces, picked}
use Rattle.sc_value.proofs.PickedLemmas.{All-picked}
use Rattle.sc_combine.proofs.GroupLemmas.{length-groups}
use Rattle.sc_combine.proofs.RunLemmas.{led_count, led_keys, led_numbers}
use Rattle.sc_combine.proofs.TwinLemmas.{leads_of_runs, run_leaders}
use Rattle.sc_combine.proofs.grouping.group_runs.Goals as goal

pub picked_items-requires : goal.picked_items-requires
picked_items-requires c =
    let runs = c.args.runs.now in
    let led = c.in_ok-led.ensures in
    let rows = run_leaders runs in
    let column = led.led ∙ leads_of_runs runs in
    let groups = c.in_ok-groups.ensures rows column in
    let size : length c.in_ok-led.led.firsts ≡ length c.deref.result.now =
    ap length column ∙ length-map rows first_of
    ∙ sym (ap length c.deref.ensures.value
    ∙ length-groups rows c.in_ok-groups.groups.numbers.items groups.numbers) in
    subst (ArePlaces c.deref.result.now) (sym c.deref-2.ensures.value)
    (subst (λ n. All (λ p. p < n) c.in_ok-led.led.numbers.items) size led.places)

pub returns : goal.returns
returns c = λ rows column.
    let runs = c.args.runs.now in
    let led = c.in_ok-led.ensures in
    let groups = c.in_ok-groups.ensures (run_leaders runs) (led.led ∙ leads_of_runs runs) in
    let numbers = c.in_ok-groups.groups.numbers.items in
    let places = c.in_ok-led.led.numbers.items in
    let is = c.in_ok-numbers.ensures
    ∙ ap₂ picked c.deref.ensures.value c.deref-2.ensures.value in
    record {
      numbers = led_numbers runs rows column c.in_ok-led.led.firsts places numbers
          c.in_ok-numbers.numbers.items led groups.numbers is;
      below = subst (All (λ n. n < c.in_ok-groups.groups.count)) (sym is)
          (All-picked (λ n. n < c.in_ok-groups.groups.count) numbers places groups.below);
      count = led_count runs rows column c.in_ok-groups.groups.count groups.count;
      keys = led_keys runs rows column c.in_ok-groups.groups.keys groups.keys;
    }
