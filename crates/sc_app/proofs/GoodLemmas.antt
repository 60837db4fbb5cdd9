-- With nothing to refuse a run ends well.
use Rattle.std.proofs.Common.{◌≡◌, ◌∙◌, ℕ, List, [], ◌∷◌, ◌++◌, length, subst, ap, refl, Some, None, inl, inr, true, false}
use Rattle.std.specs.Prelude.{◌⊎◌}
use Rattle.std.proofs.lemmas.Option.{slice_get_within, get_or_from_slice_get}
use Rattle.sc_base.specs.Counts.{Rose}
use Rattle.sc_base.specs.Lists.{content_of}
use Rattle.sc_core.specs.declared.journals.JobHistory.{JobHistory}
use Rattle.sc_lineage.specs.Saves.{SavesAreLawful}
use Rattle.sc_lineage.specs.ScriptData.{WorkData, input_names}
use Rattle.sc_output.specs.NameLaws.{NamesLieWithin}
use Rattle.sc_read.specs.Reads.{IsMissing, Taken}
use Rattle.sc_app.specs.declared.ran.Status.{Status}
use Rattle.sc_app.specs.declared.ran.Status.TheVariants as statuses
use Rattle.sc_app.specs.Promises.{Ends, ZeroMeansText}
use Rattle.sc_app.specs.Good.{AreAllThere, EndsWell, HasRoom, IsGood}
use Rattle.sc_app.specs.Runs.{RunData, HasReadWork, IsNextName}
use Rattle.sc_app.proofs.FileLemmas.{HasPlace, none-exists, none-fails}
use Rattle.sc_app.proofs.ReadingLemmas.{AreTexts-last}

-- a name that is next isn't missing where all names are there
there : (run : RunData) (name : List ℕ) → AreAllThere run → IsNextName run name
    → IsMissing run.before.source.shown name → ⊥
there run name all (inl next) missing =
    let gone : content_of all.files name ≡ None =
    subst (λ shown. IsMissing shown name) all.shown missing in
    all.script next.1.0 next.1.1 (ap (content_of all.files) next.1.2 ∙ gone)
there run name all (inr (inl next)) missing =
    let gone : content_of all.files name ≡ None =
    subst (λ shown. IsMissing shown name) all.shown missing in
    all.plan next.command name next.is_command next.named gone
there run name all (inr (inr next)) missing =
    let gone : content_of all.files name ≡ None =
    subst (λ shown. IsMissing shown name) all.shown missing in
    let names = input_names next.0 in
    let at = length next.2 in
    let taken : Taken =
    record { script = next.3.bytes; plan = next.3.plan_bytes; inputs = next.2 } in
    all.inputs taken next.0 name next.3.is next.3.is_script (
      at,
      slice_get_within names at name next.4.next,
      get_or_from_slice_get names at name name next.4.next,
    ) gone

-- the files of a run with nothing to refuse have room for all saves of the work that was read
pub has_place : (run : RunData) (work : WorkData) → HasReadWork run.words run.reads work
    → IsGood run → HasPlace work run.files_before run.files_after
has_place run work was good = by_room good.room
  where
    by_room : (Rose run.files_before.clashes run.files_after.clashes → ⊥) ⊎ HasRoom run
        → HasPlace work run.files_before run.files_after
    by_room (inl no_clash) = inl no_clash
    by_room (inr room) =
        let read = was.read in
        let taken : Taken =
        record { script = read.bytes; plan = read.plan_bytes; inputs = work.inputs } in
        inr (room.opening, room.shown, room.free taken work.script read.is read.is_script)

module _ (laws : SavesAreLawful) (names : NamesLieWithin) where
  pub ends_well : (run : RunData) (history given_up : List JobHistory) (status : Status)
      → Ends run history given_up status → IsGood run → EndsWell status
  ends_well run history given_up statuses.Done ends good = tt
  ends_well run history given_up statuses.Usage ends good = good.command ends.no_command
  ends_well run history given_up (statuses.Script fault) ends good =
      good.script (record { script = ends.bytes; plan = None; inputs = [] }) fault ends.is
      ends.faults
  ends_well run history given_up (statuses.Plan fault) ends good =
      let taken : Taken =
      record { script = ends.bytes; plan = Some ends.plan_bytes; inputs = [] } in
      good.plan ends.command taken ends.plan_bytes fault ends.is_command ends.is refl ends.faults
  ends_well run history given_up (statuses.Input name true) ends good = by_there good.there
    where
      by_there : (Rose run.before.source.misses run.after.source.misses → ⊥) ⊎ AreAllThere run → ⊥
      by_there (inl no_miss) = no_miss ends.cause.0
      by_there (inr all) = there run name all ends.is_next ends.cause.2
  ends_well run history given_up (statuses.Input name false) ends good = good.no_fault ends.cause.0
  ends_well run history given_up (statuses.Aborted abort) ends good = tt
  ends_well run history given_up (statuses.DriverFault k fault) ends good = tt
  ends_well run history given_up (statuses.OutputExists dir) ends good =
      none-exists laws names ends.work run.files_before run.files_after history given_up ends.k dir
      ends.over (has_place run ends.work ends.read good)
  ends_well run history given_up (statuses.Device path) ends good =
      none-fails ends.work run.files_before run.files_after history given_up ends.k path ends.over
      good.no_file_fault (has_place run ends.work ends.read good)
  ends_well run history given_up statuses.WriteFault ends good = good.no_write_fault ends.stops.rose
  ends_well run history given_up statuses.OutOfMemory ends good = tt
  ends_well run history given_up (statuses.NotText name) ends good =
      ends.no_text (AreTexts-last ends.inputs name ends.bytes
      (good.texts (record {
        script = ends.read.bytes;
        plan = ends.read.plan_bytes;
        inputs = ends.inputs ++ (name, ends.bytes) ∷ [];
      }) ends.read.is))

-- and one that is done has printed the meaning
pub zero_means_text : (run : RunData) (history given_up : List JobHistory)
    (status : Status) → Ends run history given_up status → ZeroMeansText run status
zero_means_text run history given_up status ends = λ done.
    subst (λ s. Ends run history given_up s) done ends
