use Rattle.std.proofs.Common.{◌≡◌, ◌≤◌, ℕ, List, Vec, Global, length, map, sym, subst}
use Rattle.std.proofs.lemmas.Result.{IfOk-weaker}
use Rattle.std.specs.List.{All}
use Rattle.sc_part.specs.Bounds.{range_of}
use Rattle.sc_part.specs.Laws.{BoundsAreLawful}
use Rattle.sc_value.specs.Keys.{KeyData, number_key, text_key}
use Rattle.sc_value.specs.Views.{key_data_of}
use Rattle.sc_keys.proofs.KeyLemmas.{All-mapped}
use Rattle.sc_keys.proofs.keyed.Keys.ranges.Goals as goal

below : BoundsAreLawful → (bounds keys : List KeyData) (v : Vec ℕ Global)
    → v.items ≡ map (range_of bounds) keys → All (λ r. r ≤ length bounds) v.items
below law bounds keys v are =
    subst (All (λ r. r ≤ length bounds)) (sym are)
    (All-mapped (range_of bounds) (λ r. r ≤ length bounds) (λ key. law.ranges bounds key) keys)

pub returns-in-Some-clause-below : goal.returns-in-Some-clause-below
returns-in-Some-clause-below c =
    let bounds = c.args.bounds.now in
    IfOk-weaker c.ranges_of_ints.result
    (λ v. v.items ≡ map (range_of bounds) (map number_key c.in-Some.ints.now))
    (λ v. All (λ r. r ≤ length bounds) v.items)
    (below c.bounds_are_lawful.ensures bounds (map number_key c.in-Some.ints.now))
    c.ranges_of_ints.ensures

pub returns-in-Some-texts-clause-below : goal.returns-in-Some-texts-clause-below
returns-in-Some-texts-clause-below c =
    let bounds = c.args.bounds.now in
    IfOk-weaker c.ranges_of_texts.result
    (λ v. v.items ≡ map (range_of bounds) (map text_key c.in-Some-texts.texts.now))
    (λ v. All (λ r. r ≤ length bounds) v.items)
    (below c.bounds_are_lawful.ensures bounds (map text_key c.in-Some-texts.texts.now))
    c.ranges_of_texts.ensures

pub returns-clause-below : goal.returns-clause-below
returns-clause-below c =
    let bounds = c.args.bounds.now in
    IfOk-weaker c.ranges_of_keys.result
    (λ v. v.items ≡ map (range_of bounds) (map key_data_of c.deref.result.now))
    (λ v. All (λ r. r ≤ length bounds) v.items)
    (below c.bounds_are_lawful.ensures bounds (map key_data_of c.deref.result.now))
    c.ranges_of_keys.ensures
