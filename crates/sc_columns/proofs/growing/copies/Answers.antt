use Rattle.std.proofs.Common.{rules, ◌∙◌, ◌++◌, ap, map, refl, replicate, sym}
use Rattle.std.proofs.lemmas.Int.{to_z-of_z}
use mir.Syntax.{w64}
use mir.Val.{SFits, of_z, to_z}
use Rattle.sc_value.specs.Datum.{number, pair, text, truth}
use Rattle.sc_value.specs.Views.{datum_of}
use Rattle.sc_value.proofs.ViewLemmas.{datum_of-Pair}
use Rattle.sc_columns.specs.Columns.{zip_with}
use Rattle.sc_columns.specs.Runs.{run_rows}
use Rattle.sc_columns.proofs.ListLemmas.{map-replicate, zip_with-replicate}
use Rattle.sc_columns.proofs.RunLemmas.{run-Bools, run-Ints, run-Pairs, run-Texts}
use Rattle.sc_columns.proofs.VariantLemmas.{datum_of-Bool, datum_of-Int, datum_of-Text}
use Rattle.sc_columns.proofs.growing.copies.Goals as goal

pub returns-in_ok-push_copies-in-Int : goal.returns-in_ok-push_copies-in-Int
returns-in_ok-push_copies-in-Int c =
    let k = c.in-Int.k in
    let n = c.args.n in
    let fits : SFits w64 c.in-Int.k = search rules in
    run-Ints _ c.push_copies.new.out refl
    ∙ ap (map number) (c.in_ok-push_copies-in-Int.ensures
    ∙ ap (λ o. o ++ replicate n (to_z w64 (of_z w64 k))) c.new-out.ensures.items
    ∙ ap (replicate n) (to_z-of_z w64 k fits))
    ∙ map-replicate number n k
    ∙ ap (replicate n) (sym (ap datum_of c.in-Int.is ∙ datum_of-Int k))

pub returns-in_ok-push_copies-in-Bool : goal.returns-in_ok-push_copies-in-Bool
returns-in_ok-push_copies-in-Bool c =
    let b = c.in-Bool.b in
    let n = c.args.n in
    run-Bools _ c.push_copies-in-Bool.new.out refl
    ∙ ap (map truth) (c.in_ok-push_copies-in-Bool.ensures
    ∙ ap (λ o. o ++ replicate n b) c.new-out-in-Bool.ensures.items)
    ∙ map-replicate truth n b
    ∙ ap (replicate n) (sym (ap datum_of c.in-Bool.is ∙ datum_of-Bool b))

pub returns-in_ok-push_copies-in-Text : goal.returns-in_ok-push_copies-in-Text
returns-in_ok-push_copies-in-Text c =
    let n = c.args.n in
    let t = c.as_str.result.now in
    run-Texts _ c.push_copies-in-Text.new.self refl
    ∙ ap (map text) (c.in_ok-push_copies-in-Text.ensures
    ∙ ap (λ o. o ++ replicate n t) c.new-out-in-Text.ensures)
    ∙ map-replicate text n t
    ∙ ap (replicate n)
    (ap text c.as_str.ensures ∙ sym (ap datum_of c.in-Text.is ∙ datum_of-Text c.in-Text.t))

pub returns-in_ok-second-in-Pair : goal.returns-in_ok-second-in-Pair
returns-in_ok-second-in-Pair c =
    let n = c.args.n in
    let a = datum_of c.in-Pair.a.value in
    let b = datum_of c.in-Pair.b.value in
    let first = c.in_ok-first-in-Pair.ensures ∙ c.in_ok-same-in-Pair.ensures
    ∙ ap (λ v. replicate n (datum_of v)) c.in_ok-a-in-Pair.ensures.ok
    ∙ ap (replicate n) (c.in_ok-copy-in-Pair.ensures ∙ ap datum_of c.deref.ensures) in
    let second = c.in_ok-second-in-Pair.ensures ∙ c.in_ok-same-in-Pair-2.ensures
    ∙ ap (λ v. replicate n (datum_of v)) c.in_ok-b-in-Pair.ensures.ok
    ∙ ap (replicate n) (c.in_ok-copy-in-Pair-2.ensures ∙ ap datum_of c.deref-in-Pair.ensures) in
    run-Pairs _ c.in_ok-first-in-Pair.first c.in_ok-second-in-Pair.second refl
    ∙ ap (λ x. zip_with pair x (run_rows c.in_ok-second-in-Pair.second.value)) first
    ∙ ap (zip_with pair (replicate n a)) second
    ∙ zip_with-replicate pair n a b
    ∙ ap (replicate n)
    (sym (ap datum_of c.in-Pair.is ∙ datum_of-Pair c.in-Pair.a c.in-Pair.b))
