-- How many attempts the stages of a job have, by what becomes of them.
use Rattle.std.proofs.Common.{◌≡◌, ℕ, ◌+◌, ◌<◌, ◌≤◌, List, get_or, length, ap, ◌∙◌, arith}
use Rattle.std.proofs.lemmas.List.{length-map}
use Rattle.std.proofs.lemmas.Option.{slice_get-get_or}
use Rattle.sc_plan.specs.Orders.{planned_losses}
use Rattle.sc_dag.specs.DagData.{StageState}
use Rattle.sc_dag.specs.Sound.{attempts_in, attempts_of}
use Rattle.sc_world.specs.Laws.{StepsKeepSound, WorldsBegin}
use Rattle.sc_world.specs.WorldData.{core_in}
use Rattle.sc_epochs.specs.Apart.{sets_of}
use Rattle.sc_epochs.specs.ApartLaws.{StagesArePlanned}
use Rattle.sc_epochs.proofs.WorldApart as worlds

pub stages_planned_by : WorldsBegin → StepsKeepSound → StagesArePlanned
stages_planned_by begins keeps work w comes = λ i d l. each i d l
  where
    states : List StageState
    states = (core_in w).dag.states

    each : (i : ℕ) (d : StageState) → i < length (core_in w).dag.states
        → length (get_or (core_in w).dag.states i d).attempts ≤ 1 + planned_losses work.plan
    each i d l =
        let few = worlds.attempts_are_planned begins keeps work w i comes in
        let many : length (sets_of (core_in w).dag i) ≡ length (get_or states i d).attempts =
        length-map (attempts_of (core_in w).dag i) (λ a. a.set)
        ∙ ap (λ o. length (attempts_in o)) (slice_get-get_or states i d l) in
        omega (arith, few, many)
