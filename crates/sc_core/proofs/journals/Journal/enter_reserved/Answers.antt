use Rattle.sc_core.specs.Journals.{entry}
use Rattle.sc_core.specs.declared.entries.Entry.{Entry}
use Rattle.sc_core.specs.declared.events.Event.TheVariants.{Side}
use Rattle.sc_core.proofs.CoreLemmas.{replays_entry}
use Rattle.sc_core.proofs.journals.Journal.enter_reserved.Goals as goal

pub invariant_of-self : goal.invariant_of-self
invariant_of-self c =
    let i = c.self.inside in
    let said = c.step_aside-answer.result.answer in
    let e : Entry = entry c.args.by (Side c.args.event) said in
    replays_entry i.opening i.entries.items c.push_reserved.new.self.items e i.core
    c.step_aside-answer.new.self c.self.invariant c.step_aside-answer.ensures.answered
    c.push_reserved.ensures.items
