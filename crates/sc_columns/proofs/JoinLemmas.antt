-- Rows that come behind others, or don't.
use Rattle.std.proofs.Common.{◌≡◌, ◌∙◌, Bool, true, false, cond, List, ◌++◌, length, ap₂, sym}
use Rattle.sc_value.specs.Datum.{Datum, pair}
use Rattle.sc_columns.specs.Columns.{zip_with}
use Rattle.sc_columns.proofs.ListLemmas.{zip_with-append, zip_with-append_first}

-- the second side of pairs grows too, or not, once the first has grown
pub pairs_extended : (a b a_after b_after x y rows more : List Datum) (done : Bool)
    → rows ≡ zip_with pair a b → more ≡ zip_with pair x y → length a ≡ length b
    → a_after ≡ a ++ x → b_after ≡ cond done (b ++ y) b
    → zip_with pair a_after b_after ≡ cond done (rows ++ more) rows
pairs_extended a b a_after b_after x y rows more true rows_are more_are level a_is b_is =
    ap₂ (zip_with pair) a_is b_is ∙ zip_with-append pair a x b y level
    ∙ ap₂ (λ xs ys. xs ++ ys) (sym rows_are) (sym more_are)
pairs_extended a b a_after b_after x y rows more false rows_are more_are level a_is b_is =
    ap₂ (zip_with pair) a_is b_is ∙ zip_with-append_first pair a x b level ∙ sym rows_are
