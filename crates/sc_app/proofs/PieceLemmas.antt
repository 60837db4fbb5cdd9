-- The pieces that a sink took, put together.
use Rattle.std.proofs.Common.{◌≡◌, ◌∙◌, ℕ, List, [], ◌∷◌, ◌++◌, length, take, refl, ap, Option, Some, None}
use Rattle.std.specs.List.{concat, cons_option, filter_map, flat_map}
use Rattle.std.specs.Option.{option_map}
use Rattle.std.specs.Prelude.{unwrap_or}
use Rattle.std.proofs.lemmas.List.Folds.{concat-append}
use Rattle.sc_base.specs.Outside.{SinkState, bytes_taken, with_more}
use Rattle.sc_lineage.specs.Actions.{action_text, printed_by, some_text, texts_by}
use Rattle.sc_lineage.specs.ScriptData.{WorkData}
use Rattle.sc_print.specs.Printing.{PrintsAll}

-- texts, of which the empty ones are left out, give the same bytes
concat-texts : {X : Type 0} (text : X → Option (List ℕ)) (xs : List X)
    → concat (filter_map (λ x. some_text (text x)) xs)
    ≡ flat_map (λ x. unwrap_or (text x) []) xs
concat-texts text [] = refl
concat-texts text (x ∷ xs) =
    put (text x) (filter_map (λ y. some_text (text y)) xs)
    (flat_map (λ y. unwrap_or (text y) []) xs)
    (concat-texts text xs)
  where
    put : (t : Option (List ℕ)) (ts : List (List ℕ)) (bytes : List ℕ) → concat ts ≡ bytes
        → concat (cons_option (some_text t) ts) ≡ unwrap_or t [] ++ bytes
    put None ts bytes e = e
    put (Some []) ts bytes e = e
    put (Some (c ∷ cs)) ts bytes e = ap (λ bs. (c ∷ cs) ++ bs) e

-- more pieces are more bytes
concat-more : (pieces : Option (List (List ℕ))) (more : List (List ℕ))
    → option_map concat (with_more pieces more)
    ≡ with_more (option_map concat pieces) (concat more)
concat-more None more = refl
concat-more (Some pieces) more = ap Some (concat-append pieces more)

-- what a sink took where all actions were printed
pub text-printed : (work : WorkData) (before after : SinkState) → PrintsAll work before after
    → bytes_taken after
    ≡ with_more (bytes_taken before) (printed_by work (length work.script.actions))
text-printed work before after prints =
    let k = length work.script.actions in
    ap (option_map concat) prints.pieces
    ∙ concat-more before.pieces (texts_by work k)
    ∙ ap (with_more (bytes_taken before))
    (concat-texts (action_text work) (take k work.script.actions))
