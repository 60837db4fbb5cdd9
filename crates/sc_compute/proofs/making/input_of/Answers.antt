use Rattle.std.proofs.Common.{◌∙◌, [], List, Bor, Option, Vec, length, ap, sym, subst, arith}
use Rattle.std.specs.Option.{option_map}
use Rattle.std.specs.declared.alloc.Global.{Global}
use Rattle.sc_base.specs.Lists.{at_or}
use Rattle.sc_value.specs.Datum.{Datum}
use Rattle.sc_lineage.specs.Meaning.{bounds_of_shuffle, known_of, local_streams}
use Rattle.sc_lineage.specs.Partitioners.{no_partitioner}
use Rattle.sc_lineage.specs.Views.{shuffling_data_of}
use Rattle.sc_lineage.proofs.CountLemmas.{count_is_within}
use Rattle.sc_compute.proofs.HandedLemmas.{doesnt_lie, handed_few, handed_maps, handed_parts, were_handed}
use Rattle.sc_compute.specs.Stages.{IsReadOf}
use Rattle.sc_compute.specs.declared.stages.Input.TheVariants as inputs
use Rattle.sc_compute.proofs.MakingLemmas.{skipped_parts}
use Rattle.sc_compute.proofs.making.input_of.Goals as goal

pub parts_handed-requires : goal.parts_handed-requires
parts_handed-requires c =
    let work = c.args.work.now in
    let node = c.args.at.node in
    let side = c.args.at.side in
    let outputs = c.in-Some.outputs.now in
    let are = were_handed work c.args.stages.now node side outputs c.requires.right
    (sym c.handed.ensures
    ∙ ap (option_map (λ (o : Bor (Vec (List (List Datum)) Global)). o.now)) c.in-Some.is) in
    let some = (count_is_within (known_of work) work c.is_sound.ensures.script c.args.parent
    c.requires.known).some in
    let few = handed_few work node side (shuffling_data_of c.args.kind.now) c.args.parent c.args.n
    outputs.items c.requires.side are (omega (arith, some)) c.requires.some_partitions in
    record { few = rw c.deref-in-Some.ensures.value (omega (arith, few, c.ranges.n.fits)) }

pub returns-in_ok-dealt-in-Some-clause-count : goal.returns-in_ok-dealt-in-Some-clause-count
returns-in_ok-dealt-in-Some-clause-count c =
    let work = c.args.work.now in
    let node = c.args.at.node in
    let side = c.args.at.side in
    let outputs = c.in-Some.outputs.now in
    let are = were_handed work c.args.stages.now node side outputs c.requires.right
    (sym c.handed.ensures
    ∙ ap (option_map (λ (o : Bor (Vec (List (List Datum)) Global)). o.now)) c.in-Some.is) in
    let some = (count_is_within (known_of work) work c.is_sound.ensures.script c.args.parent
    c.requires.known).some in
    c.parts_handed.ensures
    ∙ ap (λ (xs : List (List (List Datum))). length (at_or xs 0 [])) c.deref-in-Some.ensures.value
    ∙ handed_parts work node side (shuffling_data_of c.args.kind.now) c.args.parent c.args.n
    outputs.items c.requires.side are (omega (arith, some))

pub returns-in_ok-dealt-in-Some-clause-input : goal.returns-in_ok-dealt-in-Some-clause-input
returns-in_ok-dealt-in-Some-clause-input c =
    let work = c.args.work.now in
    let node = c.args.at.node in
    let side = c.args.at.side in
    let kind = shuffling_data_of c.args.kind.now in
    let outputs = c.in-Some.outputs.now in
    let are = were_handed work c.args.stages.now node side outputs c.requires.right
    (sym c.handed.ensures
    ∙ ap (option_map (λ (o : Bor (Vec (List (List Datum)) Global)). o.now)) c.in-Some.is) in
    let maps = handed_maps work node side kind c.args.parent c.args.n outputs.items
    c.requires.side are c.in_ok-dealt-in-Some.dealt.items
    (c.in_ok-dealt-in-Some.ensures ∙ c.deref.ensures.value) in (
      maps.0,
      doesnt_lie work node side kind c.args.parent c.args.n outputs.items c.requires.side are,
      maps.1,
      maps.2,
    )

pub returns-in_ok-dealt-in-Some-clause-read : goal.returns-in_ok-dealt-in-Some-clause-read
returns-in_ok-dealt-in-Some-clause-read c =
    let dealt = c.in_ok-dealt-in-Some.dealt in
    let P : Option (Vec (List (List Datum)) Global) → Type 0 = λ o.
    IsReadOf o (inputs.Dealt dealt) in
    subst P
    (sym (ap (option_map (λ (o : Bor (Vec (List (List Datum)) Global)). o.now)) c.in-Some.is)
    ∙ c.handed.ensures)
    (c.in_ok-dealt-in-Some.ensures ∙ c.deref.ensures.value)

pub returns-in-None-clause-count : goal.returns-in-None-clause-count
returns-in-None-clause-count c =
    let work = c.args.work.now in
    let kind = shuffling_data_of c.args.kind.now in
    let parent = c.args.parent in
    skipped_parts kind (at_or (known_of work) parent no_partitioner) c.args.n
    (bounds_of_shuffle kind (local_streams work parent) c.args.n)
    (c.requires.lies (sym c.handed.ensures
    ∙ ap (option_map (λ (o : Bor (Vec (List (List Datum)) Global)). o.now)) c.in-None.is))

pub returns-in-None-clause-input : goal.returns-in-None-clause-input
returns-in-None-clause-input c =
    c.requires.lies (sym c.handed.ensures
    ∙ ap (option_map (λ (o : Bor (Vec (List (List Datum)) Global)). o.now)) c.in-None.is)

pub returns-in-None-clause-read : goal.returns-in-None-clause-read
returns-in-None-clause-read c =
    let P : Option (Vec (List (List Datum)) Global) → Type 0 = λ o. IsReadOf o inputs.Own in
    subst P
    (sym (sym c.handed.ensures
    ∙ ap (option_map (λ (o : Bor (Vec (List (List Datum)) Global)). o.now)) c.in-None.is)) tt
