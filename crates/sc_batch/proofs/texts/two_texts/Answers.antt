use Rattle.std.proofs.Common.{◌∙◌, ap, sym, refl, map}
use Rattle.sc_value.specs.Datum.{text, truth}
use Rattle.sc_columns.specs.Columns.{zip_with}
use Rattle.sc_expr.specs.declared.exprs.Head.TheVariants as heads
use Rattle.sc_batch.specs.Outcomes.{of_two, until_raise}
use Rattle.sc_batch.specs.Texts.{joined, text_test, texts_in}
use Rattle.sc_batch.proofs.ValueLemmas.{each-zipped}
use Rattle.sc_batch.proofs.texts.two_texts.Goals as goal

pub returns-in_ok-comparisons-in-Eq : goal.returns-in_ok-comparisons-in-Eq
unfolding text_test
returns-in_ok-comparisons-in-Eq c =
    let xs = texts_in c.args.first in
    let ys = texts_in c.args.second in
    c.in_ok-comparisons-in-Eq.ensures
    ∙ each-zipped (λ x y. of_two heads.Eq (text x) (text y)) truth (text_test heads.Eq)
    (λ x y. refl) xs ys c.args.end
    ∙ ap (λ h. until_raise (zip_with (λ x y. of_two h (text x) (text y)) xs ys) c.args.end)
    (sym c.in-Eq.is)

pub returns-in_ok-comparisons-in-Lt : goal.returns-in_ok-comparisons-in-Lt
unfolding text_test
returns-in_ok-comparisons-in-Lt c =
    let xs = texts_in c.args.first in
    let ys = texts_in c.args.second in
    c.in_ok-comparisons-in-Lt.ensures
    ∙ each-zipped (λ x y. of_two heads.Lt (text x) (text y)) truth (text_test heads.Lt)
    (λ x y. refl) xs ys c.args.end
    ∙ ap (λ h. until_raise (zip_with (λ x y. of_two h (text x) (text y)) xs ys) c.args.end)
    (sym c.in-Lt.is)

pub returns-in_ok-comparisons-in-Le : goal.returns-in_ok-comparisons-in-Le
unfolding text_test
returns-in_ok-comparisons-in-Le c =
    let xs = texts_in c.args.first in
    let ys = texts_in c.args.second in
    c.in_ok-comparisons-in-Le.ensures
    ∙ each-zipped (λ x y. of_two heads.Le (text x) (text y)) truth (text_test heads.Le)
    (λ x y. refl) xs ys c.args.end
    ∙ ap (λ h. until_raise (zip_with (λ x y. of_two h (text x) (text y)) xs ys) c.args.end)
    (sym c.in-Le.is)

pub returns-in_ok-texts-in-Concat : goal.returns-in_ok-texts-in-Concat
returns-in_ok-texts-in-Concat c =
    let xs = texts_in c.args.first in
    let ys = texts_in c.args.second in
    c.in_ok-texts-in-Concat.ensures
    ∙ ap (λ ts. record { rows = map text ts; raise = c.args.end })
    c.in_ok-concatenated-in-Concat.ensures
    ∙ each-zipped (λ x y. of_two heads.Concat (text x) (text y)) text joined (λ x y. refl)
    xs ys c.args.end
    ∙ ap (λ h. until_raise (zip_with (λ x y. of_two h (text x) (text y)) xs ys) c.args.end)
    (sym c.in-Concat.is)
