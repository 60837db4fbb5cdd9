use Rattle.std.proofs.Common.{◌∙◌, Err, ap, rules, sym}
use Rattle.sc_desk.specs.DeskData.{core_of}
use Rattle.sc_desk.proofs.DueLemmas.{due_there}
use Rattle.sc_exec.proofs.TurnLemmas.{releases_on}
use Rattle.sc_exec.proofs.job_desks.JobDesk.hand_on.Goals as goal

pub unreachable-requires : goal.unreachable-requires
unreachable-requires g c =
    let none = c.release.ensures.not_enabled c.in-Err-Fault.field-0-0
    (c.in-Err-Fault.is ∙ ap Err c.in-Err-Fault.field-0-is) in
    let there = due_there (core_of c.args.self.now.desk) c.args.log.now.exec c.args.key
    c.requires.due in
    search (rules, sym there ∙ none)

pub returns-in-Ok-clause-works : goal.returns-in-Ok-clause-works
returns-in-Ok-clause-works g c =
    releases_on _ _ c.args.log.now _ c.args.key c.release.result c.requires.works
    c.release.ensures.released c.release.ensures.unlogged
