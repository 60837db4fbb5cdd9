use Rattle.std.proofs.Common.{◌∙◌, sym}
use Rattle.sc_exec.proofs.ReadingLemmas.{lay_somewhere}
use Rattle.sc_exec.proofs.Unread.{lies_known, unread_hinders}
use Rattle.sc_exec.proofs.performing.get_next.Goals as goal

pub fetch-requires-clause-known : goal.fetch-requires-clause-known
fetch-requires-clause-known g c =
    lies_known c.args.state.task c.args.state.got g.W.Naming.work.limits.executors _
    c.in-Fetch.loc c.requires.lay (sym c.next.ensures ∙ c.in-Fetch.is)

pub missing-requires : goal.missing-requires
missing-requires g c =
    record {
      next = lay_somewhere c.args.state.task c.args.state.got
          g.W.Naming.work.limits.executors _ c.requires.lay
          (sym c.next.ensures ∙ c.in-Missing.is);
    }

pub returns-in-Fetch-clause-hinders : goal.returns-in-Fetch-clause-hinders
returns-in-Fetch-clause-hinders g c =
    unread_hinders c.args.exec c.args.state.task c.args.state.got c.fetch.result
    c.fetch.ensures.unread
