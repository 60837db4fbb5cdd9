use Rattle.std.proofs.Common.{◌∙◌, sym}
use Rattle.sc_task.proofs.HandingLemmas.{count_by_map}
use Rattle.sc_task.proofs.computing.count_left.Goals as goal

pub returns-in-Map : goal.returns-in-Map
returns-in-Map c =
    count_by_map c.args.stage.now.target c.args.stage.now.tasks c.tasks.result c.in-Map.field-0
    (sym c.target.ensures ∙ c.in-Map.is) c.tasks.ensures
