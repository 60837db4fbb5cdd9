-- Rows put together, in two runs and number by number.
use Rattle.std.proofs.Common.{◌≡◌, ◌∙◌, ℕ, ℤ, ◌+◌, List, [], ◌∷◌, ◌++◌, Some, Ok, Err, fold, map, drop, refl, ap, sym}
use Rattle.std.proofs.lemmas.List.{drop_more}
use Rattle.std.proofs.lemmas.Option.{slice_get_within, get_or_from_slice_get, slice_get-map}
use Rattle.std.specs.List.{slice_get}
use Rattle.std.specs.Option.{option_map}
use Rattle.sc_base.specs.Answers.{Answers}
use Rattle.sc_base.specs.declared.refusals.OrMemory.{OrMemory}
use Rattle.sc_base.specs.declared.refusals.OrMemory.TheVariants.{Fault, OutOfMemory}
use Rattle.sc_value.specs.Datum.{Datum, number}
use Rattle.sc_value.specs.Views.{datum_of, datum_step}
use Rattle.sc_value.specs.declared.values.Value.{Value}
use Rattle.sc_value.specs.declared.values.Value.TheFolds.{fold-roll-Value}
use Rattle.sc_value.specs.declared.values.Value.TheOpen as value_layers
use Rattle.sc_value.specs.declared.values.Value.TheVariants as values
use Rattle.sc_expr.specs.ExprData.{ExprData}
use Rattle.sc_expr.specs.Heads.{Outcome}
use Rattle.sc_expr.specs.Meaning.{two_values, value_of_expr}
use Rattle.sc_expr.specs.declared.exprs.Raise.{Raise}
use Rattle.sc_lineage.specs.Actions.{fold_from, folded}
use Rattle.sc_batch.specs.AtInts.{Gives}
use Rattle.sc_batch.specs.declared.at_ints.Stop.{Stop}
use Rattle.sc_batch.specs.declared.at_ints.Stop.TheVariants.{Raised, Beyond}
use Rattle.sc_batch.specs.IntFolds.{FoldsInts, put_together}
use Rattle.sc_batch.specs.declared.int_folds.IntFold.{IntFold}

-- two runs of rows
pub folded-append : (e : ExprData) (a : Datum) (xs ys : List Datum)
    → folded e a (xs ++ ys) ≡ fold_from (λ c. folded e c ys) (folded e a xs)
folded-append e a [] ys = refl
folded-append e a (x ∷ xs) ys =
    behind (value_of_expr (two_values a x) e) (λ c. folded-append e c xs ys)
  where
    behind : (o : Outcome) → ((c : Datum) → folded e c (xs ++ ys) ≡ fold_from (λ b. folded e b ys)
        (folded e c xs))
        → fold_from (λ c. folded e c (xs ++ ys)) o
        ≡ fold_from (λ b. folded e b ys) (fold_from (λ c. folded e c xs) o)
    behind (Ok c) more = more c
    behind (Err r) more = refl

-- numbers put together by a simple expression
folded-ints : (e : ExprData) (f : IntFold) (a : ℤ) (ns : List ℤ) → FoldsInts e f
    → folded e (number a) (map number ns) ≡ Ok (number (fold (put_together f) a ns))
folded-ints e f a [] folds = refl
folded-ints e f a (n ∷ ns) folds =
    ap (fold_from (λ c. folded e c (map number ns))) (folds a n)
    ∙ folded-ints e f (put_together f a n) ns folds

next_put : (e : ExprData) (a : Datum) (rows : List Datum) (i : ℕ) (d : Datum)
    → slice_get rows i ≡ Some d
    → folded e a (drop i rows)
    ≡ fold_from (λ c. folded e c (drop (i + 1) rows)) (value_of_expr (two_values a d) e)
next_put e a rows i d at =
    ap (folded e a)
    (drop_more rows i d (slice_get_within rows i d at)
    ∙ ap (λ x. x ∷ drop (i + 1) rows) (get_or_from_slice_get rows i d d at))

-- one row more
pub folded-more : (e : ExprData) (a c whole : Datum) (rows : List Datum) (i : ℕ) (d : Datum)
    → slice_get rows i ≡ Some d
    → value_of_expr (two_values a d) e ≡ Ok c → folded e whole rows ≡ folded e a (drop i rows)
    → folded e whole rows ≡ folded e c (drop (i + 1) rows)
folded-more e a c whole rows i d at is so_far =
    so_far ∙ next_put e a rows i d at ∙ ap (fold_from (λ b. folded e b (drop (i + 1) rows))) is

-- a row that raises
pub folded-raised : (e : ExprData) (a whole : Datum) (rows : List Datum) (i : ℕ) (d : Datum)
    (r : Raise) → slice_get rows i ≡ Some d
    → value_of_expr (two_values a d) e ≡ Err r → folded e whole rows ≡ folded e a (drop i rows)
    → folded e whole rows ≡ Err r
folded-raised e a whole rows i d r at is so_far =
    so_far ∙ next_put e a rows i d at ∙ ap (fold_from (λ b. folded e b (drop (i + 1) rows))) is

-- a refusal on the way is one of the whole
pub Answers-stopped : (is whole : Outcome) (error : OrMemory Raise)
    → ((r : Raise) → is ≡ Err r → whole ≡ Err r)
    → Answers {X = Value} {Y = Datum} datum_of (λ r. r) (Err error) is
    → Answers {X = Value} {Y = Datum} datum_of (λ r. r) (Err error) whole
Answers-stopped is whole (Fault r) stops answered = stops r answered
Answers-stopped is whole OutOfMemory stops answered = tt

-- the same where the part is put in place
pub Answers-stopped_in : (put : Value) (is whole : Outcome) (error : OrMemory Raise)
    → ((r : Raise) → is ≡ Err r → whole ≡ Err r)
    → Answers {X = Unit {0}} {Y = Datum} (λ u. datum_of put) (λ r. r) (Err error) is
    → Answers {X = Value} {Y = Datum} datum_of (λ r. r) (Err error) whole
Answers-stopped_in put is whole (Fault r) stops answered = stops r answered
Answers-stopped_in put is whole OutOfMemory stops answered = tt

datum_of-Int : (n : ℤ) → datum_of (values.Int n) ≡ number n
datum_of-Int n =
    ap datum_of (sym (values.rolls-Int n)) ∙ fold-roll-Value Datum datum_step (value_layers.Int n)

-- numbers put together with a number by a simple expression
pub folded-simply : (e : ExprData) (f : IntFold) (a first last m : ℤ) (ns : List ℤ)
    → FoldsInts e f → first ≡ a → last ≡ fold (put_together f) first ns → m ≡ last
    → folded e (number a) (map number ns) ≡ Ok (number m)
folded-simply e f a first last m ns folds same done is =
    folded-ints e f a ns folds
    ∙ ap (λ z. Ok (number z))
    (sym (is ∙ done ∙ ap (λ b. fold (put_together f) b ns) same))

-- the same of a value and rows that are numbers
pub folded-held : (e : ExprData) (value : Value) (n first : ℤ) (rows : List Datum)
    (items : List ℤ) → value ≡ values.Int n → first ≡ n → rows ≡ map number items
    → folded e (number first) (map number items) ≡ folded e (datum_of value) rows
folded-held e value n first rows items is same are =
    ap (λ a. folded e a (map number items))
    (ap number same ∙ sym (ap datum_of is ∙ datum_of-Int n))
    ∙ ap (folded e (datum_of value)) (sym are)

-- one number more, by any expression
pub ints-more : (e : ExprData) (first : Datum) (a x n after : ℤ) (ns : List ℤ) (i : ℕ)
    → slice_get ns i ≡ Some x → value_of_expr (two_values (number a) (number x)) e ≡ Ok (number n)
    → after ≡ n → folded e first (map number ns) ≡ folded e (number a) (drop i (map number ns))
    → folded e first (map number ns) ≡ folded e (number after) (drop (i + 1) (map number ns))
ints-more e first a x n after ns i at is same so_far =
    folded-more e (number a) (number after) first (map number ns) i (number x)
    (slice_get-map number ns i ∙ ap (option_map number) at)
    (is ∙ ap (λ m. Ok (number m)) (sym same)) so_far

-- a number at which it stops
pub ints-stopped : (e : ExprData) (a x first begun : ℤ) (ns : List ℤ) (i : ℕ) (stop : Stop)
    → slice_get ns i ≡ Some x
    → Gives {X = ℤ} number (Err stop) (value_of_expr (two_values (number a) (number x)) e)
    → begun ≡ first
    → folded e (number begun) (map number ns) ≡ folded e (number a) (drop i (map number ns))
    → Gives {X = ℤ} number (Err stop) (folded e (number first) (map number ns))
ints-stopped e a x first begun ns i (Raised r) at is same so_far =
    ap (λ b. folded e (number b) (map number ns)) (sym same)
    ∙ folded-raised e (number a) (number begun) (map number ns) i (number x) r
    (slice_get-map number ns i ∙ ap (option_map number) at) is so_far
ints-stopped e a x first begun ns i Beyond at is same so_far = tt

run_put : (e : ExprData) (a : Datum) (rows run rest : List Datum) → rows ≡ run ++ rest
    → folded e a rows ≡ fold_from (λ c. folded e c rest) (folded e a run)
run_put e a rows run rest are = ap (folded e a) are ∙ folded-append e a run rest

-- rows in front of others
pub folded-run : (e : ExprData) (a c : Datum) (rows run rest : List Datum) (whole : Outcome)
    → rows ≡ run ++ rest
    → folded e a run ≡ Ok c → whole ≡ folded e a rows → whole ≡ folded e c rest
folded-run e a c rows run rest whole are is so_far =
    so_far ∙ run_put e a rows run rest are ∙ ap (fold_from (λ b. folded e b rest)) is

-- rows in front of others raise
pub folded-run_raised : (e : ExprData) (a : Datum) (rows run rest : List Datum) (whole : Outcome)
    (r : Raise) → rows ≡ run ++ rest
    → folded e a run ≡ Err r → whole ≡ folded e a rows → whole ≡ Err r
folded-run_raised e a rows run rest whole r are is so_far =
    so_far ∙ run_put e a rows run rest are ∙ ap (fold_from (λ b. folded e b rest)) is
