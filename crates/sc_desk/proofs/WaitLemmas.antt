-- An executor that is to wait does so for others.
use Rattle.std.proofs.Common.{ℕ, sym, subst}
use Rattle.sc_core.specs.CoreData.{CoreData}
use Rattle.sc_core.specs.Sound.{IsSoundCore}
use Rattle.sc_core.specs.Takes.{Takes}
use Rattle.sc_core.specs.Waits.{IsForOthers}
use Rattle.sc_core.specs.declared.answers.Answer.{Answer}
use Rattle.sc_core.specs.declared.answers.Answer.TheVariants as says
use Rattle.sc_core.proofs.OthersLemmas.{waits_are_for_others}
use Rattle.sc_jobs.specs.JobData.{JobData}
use Rattle.sc_desk.specs.DeskData.{DeskData, core_of}
use Rattle.sc_desk.specs.Takes.{IsTaken, WaitsForOthers}
use Rattle.sc_desk.specs.declared.takes.Taken.{Taken}
use Rattle.sc_desk.specs.declared.takes.Taken.TheVariants as takes

pub waits_for_others :
    {W : _} (job : JobData) (d : DeskData) (after : CoreData) (exec : ℕ) (taken : Taken W)
    (answer : Answer) → IsSoundCore (core_of d) → Takes (core_of d) exec answer after
    → IsTaken job taken answer → WaitsForOthers d exec taken
waits_for_others {W = W} job d after exec taken answer sound step is = by taken answer step is
  where
    by : (t : Taken W) (a : Answer) → Takes (core_of d) exec a after → IsTaken job t a
        → WaitsForOthers d exec t
    by (takes.Wait out) (says.Wait attempt) step e =
        subst (IsForOthers (core_of d) exec) (sym e)
        (waits_are_for_others (core_of d) after exec attempt sound step)
    by (takes.Wait out) a step bad = absurd bad
    by t a step e = tt
