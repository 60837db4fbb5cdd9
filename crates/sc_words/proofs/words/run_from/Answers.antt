use Rattle.std.proofs.Common.{◌≡◌, ◌∙◌, ap, List, [], ℕ, None, Option, codes, refl}
use Rattle.std.specs.Borrow.{Bor}
use Rattle.std.specs.Prelude.{unwrap_or}
use Rattle.clap.specs.Words.{first_of, found_of, rows_of}
use Rattle.clap.proofs.WalkLemmas.{first_value-rows}
use Rattle.sc_words.proofs.GetterLemmas.{text_or_empty}
use Rattle.sc_words.proofs.words.run_from.Goals as goal

pub returns-clause-command : goal.returns-clause-command
returns-clause-command c =
    let found = found_of c.args.run.now in
    let rows = rows_of found in
    let script : c.in_ok-script.script ≡ unwrap_or (first_of (codes "SCRIPT") rows) [] =
    c.in_ok-script.ensures ∙ ap (λ (s : Bor (List ℕ)). s.now) c.unwrap_or.ensures
    ∙ text_or_empty c.get_str.result _ refl
    ∙ ap (λ (o : Option (List ℕ)). unwrap_or o [])
    (c.get_str.ensures ∙ first_value-rows found (codes "SCRIPT")) in
    let plan : c.in_ok-plan.plan ≡ first_of (codes "plan") rows =
    c.in_ok-plan.ensures ∙ c.get_str-2.ensures ∙ first_value-rows found (codes "plan") in
    λ i. record {
      script = script i;
      plan = plan i;
      limits = c.limits_from-limits.ensures.limits i;
      workload = None;
    }
