use Rattle.std.proofs.Common.{sym, ◌∙◌}
use Rattle.std.proofs.lemmas.Result.{IfOk-weaker}
use Rattle.sc_task.specs.Attempts.{attempt_data_of}
use Rattle.sc_task.specs.Nexts.{next_of}
use Rattle.sc_world.proofs.CodeGo.{fetch_stands, fetched}
use Rattle.sc_world.proofs.going.read_next.Goals as goal

pub fetch_next-requires : goal.fetch_next-requires
fetch_next-requires g c =
    record {
      stands = fetch_stands c.args.stores.now (next_of c.args.state.task c.args.state.got)
          c.in-Fetch.block c.in-Fetch.loc c.index-stores-loc.result c.requires.order
          c.requires.stands (sym c.next.ensures ∙ c.in-Fetch.is) c.index-stores-loc.is;
    }

pub returns-in-Fetch-clause-reads : goal.returns-in-Fetch-clause-reads
returns-in-Fetch-clause-reads g c =
    IfOk-weaker c.fetch_next.result _ _
    (λ next h. fetched c.args.stores.now c.args.state.task c.args.state.got c.in-Fetch.block
    c.in-Fetch.loc c.index-stores-loc.result (attempt_data_of next) c.requires.stands
    (sym c.next.ensures ∙ c.in-Fetch.is) c.index-stores-loc.is h)
    c.fetch_next.ensures.fetches
