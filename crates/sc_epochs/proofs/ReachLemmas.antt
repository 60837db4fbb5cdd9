-- The worlds that a job comes to.
use Rattle.std.proofs.Common.{List, [], ◌∷◌, sym, subst}
use Rattle.sc_lineage.specs.ScriptData.{WorkData}
use Rattle.sc_world.specs.Laws.{StepsKeepSound, WorldsBegin}
use Rattle.sc_world.specs.Runs.{IsWorld, Runs, idle_world}
use Rattle.sc_world.specs.WorldData.{WorldData}
use Rattle.sc_world.specs.declared.steps.Applied.{Applied}
use Rattle.sc_world.specs.declared.steps.Step.{Step}
use Rattle.sc_epochs.specs.Found.{FindsStale}
use Rattle.sc_epochs.specs.Laws.{WorldsFindStale}
use Rattle.sc_epochs.proofs.WorldLemmas.{beginnings_find_stale, steps_find_stale}

runs_found : StepsKeepSound → (work : WorkData) (steps : List Step) (answers : List Applied)
    (w after : WorldData) → IsWorld work w → FindsStale w → Runs work w steps answers after
    → IsWorld work after × FindsStale after
runs_found keeps work [] [] w after h found is =
    subst (λ x. IsWorld work x × FindsStale x) (sym is) (h, found)
runs_found keeps work [] (answer ∷ answers) w after h found bad = absurd bad
runs_found keeps work (step ∷ steps) [] w after h found bad = absurd bad
runs_found keeps work (step ∷ steps) (answer ∷ answers) w after h found
    (mid, goes, sound, more) =
    runs_found keeps work steps answers mid after (keeps work w mid step answer h goes sound)
    (steps_find_stale work w mid step answer h found goes) more

-- by what holds of all worlds
pub find_stale_by : WorldsBegin → StepsKeepSound → WorldsFindStale
find_stale_by begins keeps work w comes =
    let b = comes.begun in
    runs_found keeps work comes.reaches.steps comes.reaches.answers
    (idle_world work comes.desk comes.stores) w
    (begins work b.last comes.desk comes.stores b.core b.sound b.opening b.shelf b.ready)
    (beginnings_find_stale work comes.desk comes.stores b.shelf) comes.reaches.runs
