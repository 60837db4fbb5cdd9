use Rattle.std.proofs.Common.{◌∙◌, ap, map}
use Rattle.std.proofs.lemmas.Result.{IfOk-weaker}
use Rattle.sc_columns.specs.Columns.{group_at, texts_value}
use Rattle.sc_columns.proofs.ViewLemmas.{texts-ranges}
use Rattle.sc_columns.proofs.rows.Rows.words.Goals as goal

pub returns : goal.returns
returns c =
    IfOk-weaker c.of_lists.result _ _ (λ r is. is
    ∙ ap (λ i. map (group_at i) c.in_ok-items.field-0.lists.items) c.in_ok-of_texts.ensures
    ∙ texts-ranges c.in_ok-items.field-0.items c.in_ok-items.field-0.lists.items
    ∙ ap (map texts_value) c.in_ok-items.ensures.words) c.of_lists.ensures
