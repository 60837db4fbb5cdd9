use Rattle.std.proofs.Common.{◌≡◌, ◌∙◌, [], List, Ok, length, map, ap, sym, arith}
use Rattle.std.proofs.lemmas.Result.{err_from_is_err_and}
use Rattle.sc_columns.specs.Columns.{zip_with}
use Rattle.sc_columns.proofs.ListLemmas.{length-zip_with}
use Rattle.sc_expr.specs.Heads.{first_of}
use Rattle.sc_expr.specs.Views.{expr_data_of}
use Rattle.sc_lineage.specs.Keyed.{combined as combined_of, leaders}
use Rattle.sc_value.specs.Datum.{Datum, pair}
use Rattle.sc_combine.specs.Combining.{folded_by, step_of}
use Rattle.sc_combine.specs.declared.combining.Taken.TheVariants.{Values}
use Rattle.sc_combine.proofs.CombineLemmas.{combined_by_values}
use Rattle.sc_combine.proofs.RowLemmas.{mapped}
use Rattle.sc_combine.proofs.FoldLemmas.{Answers-refused}
use Rattle.sc_combine.proofs.GroupLemmas.{length-groups}
use Rattle.sc_batch.proofs.PairLemmas.{firsts}
use Rattle.sc_combine.proofs.combining.combined_columns.Goals as goal

pub combined_values-requires : goal.combined_values-requires
combined_values-requires c =
    let first = c.args.both.first in
    let second = c.args.both.second in
    let rows = zip_with pair first second in
    let groups = c.in_ok-groups.ensures rows (firsts first second (sym c.requires.level)) in
    let size = length-zip_with pair first second in
    let count : length c.deref.result.now
    ≡ length (zip_with pair c.args.both.first c.args.both.second) =
    ap length c.deref.ensures.value
    ∙ length-groups rows c.in_ok-groups.groups.numbers.items groups.numbers in
    record { level = omega (arith, size, count, c.requires.level) }

pub returns-in_err-values : goal.returns-in_err-values
returns-in_err-values c =
    let e = expr_data_of c.args.expr.now in
    let first = c.args.both.first in
    let second = c.args.both.second in
    let rows = zip_with pair first second in
    let step = step_of Values e in
    let groups = c.in_ok-groups.ensures rows (firsts first second (sym c.requires.level)) in
    let numbers = c.deref.ensures.value ∙ groups.numbers in
    let Z = zip_with pair (map first_of (leaders rows)) in
    let p = err_from_is_err_and c.from_residual-in_err-values.result
    c.from_residual-in_err-values.ensures.1 in
    rw (p.1, p.2)
    (Answers-refused {X = List Datum} {Y = List Datum} (λ r. r) (λ r. r)
    (folded_by step [] c.deref.result.now second)
    (combined_of e rows) c.in_err-values.field-0.0
    (λ r is. combined_by_values e first second (sym c.requires.level)
    ∙ ap (λ ns. mapped Z (folded_by step [] ns second)) (sym numbers) ∙ ap (mapped Z) is)
    c.in_err-values.ensures)

pub returns : goal.returns
returns c =
    let e = expr_data_of c.args.expr.now in
    let first = c.args.both.first in
    let second = c.args.both.second in
    let rows = zip_with pair first second in
    let step = step_of Values e in
    let groups = c.in_ok-groups.ensures rows (firsts first second (sym c.requires.level)) in
    let numbers = c.deref.ensures.value ∙ groups.numbers in
    let Z = zip_with pair (map first_of (leaders rows)) in
    combined_by_values e first second (sym c.requires.level)
    ∙ ap (λ ns. mapped Z (folded_by step [] ns second)) (sym numbers)
    ∙ ap (mapped Z) c.in_ok-values.ensures
    ∙ ap Ok (ap (λ ks. zip_with pair ks c.in_ok-values.values) (sym groups.keys)
    ∙ sym c.in_ok-pairs.ensures)
