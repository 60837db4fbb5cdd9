use Rattle.std.proofs.Common.{◌≡◌, ◌∙◌, ap, sym, Some, None}
use Rattle.std.specs.List.{position}
use Rattle.std.specs.Option.{option_map}
use Rattle.sc_net.specs.Shelves.{is_under}
use Rattle.sc_taskset.proofs.FindLemmas.{none_placed}
use Rattle.sc_desk.proofs.KeyLemmas.{none_goes, place_found}
use Rattle.sc_desk.proofs.shelves.take_off.Goals as goal

pub returns-in-Some-clause-report : goal.returns-in-Some-clause-report
returns-in-Some-clause-report g c =
    let reports = c.args.shelf.now.items in
    let place : Some c.in-Some.place ≡ position (is_under c.args.key) reports =
    sym c.in-Some.is ∙ c.place_of.ensures
    ∙ ap (position (is_under c.args.key)) c.as_slice.ensures.value in
    (place_found reports c.args.key c.in-Some.place c.requires.rising place).found
    c.remove.result c.remove.ensures.value

pub returns-in-Some-clause-shelf : goal.returns-in-Some-clause-shelf
returns-in-Some-clause-shelf g c =
    let reports = c.args.shelf.now.items in
    let place : Some c.in-Some.place ≡ position (is_under c.args.key) reports =
    sym c.in-Some.is ∙ c.place_of.ensures
    ∙ ap (position (is_under c.args.key)) c.as_slice.ensures.value in
    c.remove.ensures.items
    ∙ (place_found reports c.args.key c.in-Some.place c.requires.rising place).alone

pub returns-in-None-clause-report : goal.returns-in-None-clause-report
returns-in-None-clause-report g c =
    let reports = c.args.shelf.now.items in
    let place : None ≡ position (is_under c.args.key) reports =
    sym c.in-None.is ∙ c.place_of.ensures
    ∙ ap (position (is_under c.args.key)) c.as_slice.ensures.value in
    sym (ap (option_map (λ r. r.report)) (none_placed (is_under c.args.key) reports place))

pub returns-in-None-clause-shelf : goal.returns-in-None-clause-shelf
returns-in-None-clause-shelf g c =
    let reports = c.args.shelf.now.items in
    let place : None ≡ position (is_under c.args.key) reports =
    sym c.in-None.is ∙ c.place_of.ensures
    ∙ ap (position (is_under c.args.key)) c.as_slice.ensures.value in
    none_goes reports c.args.key place
