use Rattle.std.proofs.Common.{◌∙◌, ap, sym, refl}
use Rattle.sc_value.specs.Datum.{number, truth}
use Rattle.sc_columns.specs.Columns.{zip_with}
use Rattle.sc_expr.specs.declared.exprs.Head.TheVariants as heads
use Rattle.sc_batch.specs.Items.{int_test, int_value, list_in}
use Rattle.sc_batch.specs.Outcomes.{of_two, until_raise}
use Rattle.sc_batch.proofs.ValueLemmas.{each-zipped}
use Rattle.sc_batch.proofs.numbers.two_ints.Goals as goal

pub returns-in_ok-arithmetic-in-Add : goal.returns-in_ok-arithmetic-in-Add
unfolding int_value
returns-in_ok-arithmetic-in-Add c =
    let xs = list_in c.args.m in
    let ys = list_in c.args.n in
    c.in_ok-arithmetic-in-Add.ensures
    ∙ each-zipped (λ x y. of_two heads.Add (number x) (number y)) number (int_value heads.Add)
    (λ x y. refl) xs ys c.args.end
    ∙ ap (λ h. until_raise (zip_with (λ x y. of_two h (number x) (number y)) xs ys) c.args.end)
    (sym c.in-Add.is)

pub returns-in_ok-arithmetic-in-Sub : goal.returns-in_ok-arithmetic-in-Sub
unfolding int_value
returns-in_ok-arithmetic-in-Sub c =
    let xs = list_in c.args.m in
    let ys = list_in c.args.n in
    c.in_ok-arithmetic-in-Sub.ensures
    ∙ each-zipped (λ x y. of_two heads.Sub (number x) (number y)) number (int_value heads.Sub)
    (λ x y. refl) xs ys c.args.end
    ∙ ap (λ h. until_raise (zip_with (λ x y. of_two h (number x) (number y)) xs ys) c.args.end)
    (sym c.in-Sub.is)

pub returns-in_ok-arithmetic-in-Mul : goal.returns-in_ok-arithmetic-in-Mul
unfolding int_value
returns-in_ok-arithmetic-in-Mul c =
    let xs = list_in c.args.m in
    let ys = list_in c.args.n in
    c.in_ok-arithmetic-in-Mul.ensures
    ∙ each-zipped (λ x y. of_two heads.Mul (number x) (number y)) number (int_value heads.Mul)
    (λ x y. refl) xs ys c.args.end
    ∙ ap (λ h. until_raise (zip_with (λ x y. of_two h (number x) (number y)) xs ys) c.args.end)
    (sym c.in-Mul.is)

pub returns-in_ok-divisions-in-Div : goal.returns-in_ok-divisions-in-Div
returns-in_ok-divisions-in-Div c =
    let xs = list_in c.args.m in
    let ys = list_in c.args.n in
    c.in_ok-divisions-in-Div.ensures
    ∙ ap (λ h. until_raise (zip_with (λ x y. of_two h (number x) (number y)) xs ys) c.args.end)
    (sym c.in-Div.is)

pub returns-in_ok-divisions-in-Rem : goal.returns-in_ok-divisions-in-Rem
returns-in_ok-divisions-in-Rem c =
    let xs = list_in c.args.m in
    let ys = list_in c.args.n in
    c.in_ok-divisions-in-Rem.ensures
    ∙ ap (λ h. until_raise (zip_with (λ x y. of_two h (number x) (number y)) xs ys) c.args.end)
    (sym c.in-Rem.is)

pub returns-in_ok-comparisons-in-Eq : goal.returns-in_ok-comparisons-in-Eq
unfolding int_test
returns-in_ok-comparisons-in-Eq c =
    let xs = list_in c.args.m in
    let ys = list_in c.args.n in
    c.in_ok-comparisons-in-Eq.ensures
    ∙ each-zipped (λ x y. of_two heads.Eq (number x) (number y)) truth (int_test heads.Eq)
    (λ x y. refl) xs ys c.args.end
    ∙ ap (λ h. until_raise (zip_with (λ x y. of_two h (number x) (number y)) xs ys) c.args.end)
    (sym c.in-Eq.is)

pub returns-in_ok-comparisons-in-Lt : goal.returns-in_ok-comparisons-in-Lt
unfolding int_test
returns-in_ok-comparisons-in-Lt c =
    let xs = list_in c.args.m in
    let ys = list_in c.args.n in
    c.in_ok-comparisons-in-Lt.ensures
    ∙ each-zipped (λ x y. of_two heads.Lt (number x) (number y)) truth (int_test heads.Lt)
    (λ x y. refl) xs ys c.args.end
    ∙ ap (λ h. until_raise (zip_with (λ x y. of_two h (number x) (number y)) xs ys) c.args.end)
    (sym c.in-Lt.is)

pub returns-in_ok-comparisons-in-Le : goal.returns-in_ok-comparisons-in-Le
unfolding int_test
returns-in_ok-comparisons-in-Le c =
    let xs = list_in c.args.m in
    let ys = list_in c.args.n in
    c.in_ok-comparisons-in-Le.ensures
    ∙ each-zipped (λ x y. of_two heads.Le (number x) (number y)) truth (int_test heads.Le)
    (λ x y. refl) xs ys c.args.end
    ∙ ap (λ h. until_raise (zip_with (λ x y. of_two h (number x) (number y)) xs ys) c.args.end)
    (sym c.in-Le.is)
