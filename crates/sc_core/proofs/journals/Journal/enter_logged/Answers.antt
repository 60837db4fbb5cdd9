use Rattle.std.proofs.Common.{◌∙◌, ap, ◌++◌, ◌∷◌, []}
use Rattle.sc_core.specs.Journals.{entry}
use Rattle.sc_core.specs.declared.entries.Entry.{Entry}
use Rattle.sc_core.proofs.CoreLemmas.{replays_entry}
use Rattle.sc_core.proofs.journals.Journal.enter_logged.Goals as goal

pub invariant_of-self-2 : goal.invariant_of-self-2
invariant_of-self-2 c =
    let i = c.self.inside in
    let e : Entry = entry c.args.by c.args.event c.in_ok-answer.field-0.answer in
    replays_entry i.opening i.entries.items c.push_reserved.new.self.items e i.core
    c.step.new.self c.self.invariant c.in_ok-answer.ensures.answered
    (c.push_reserved.ensures.items ∙ ap (λ es. es ++ e ∷ []) c.reserve.ensures.items)
