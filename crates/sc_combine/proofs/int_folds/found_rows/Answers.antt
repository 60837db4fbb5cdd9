use Rattle.std.proofs.Common.{◌∙◌, ℤ, [], List, Vec, Result, Err, ap, subst}
use Rattle.std.specs.declared.alloc.Global.{Global}
use Rattle.sc_base.specs.declared.refusals.OrMemory.{OrMemory}
use Rattle.sc_base.specs.declared.refusals.OrMemory.TheVariants.{Fault}
use Rattle.sc_batch.specs.declared.at_ints.Stop.{Stop}
use Rattle.sc_combine.specs.IntFolds.{AreFound}
use Rattle.sc_combine.proofs.FoldLemmas.{found_refused}
use Rattle.sc_combine.proofs.int_folds.found_rows.Goals as goal

pub returns-in-Fault : goal.returns-in-Fault
returns-in-Fault c = λ whole found.
    let items : Vec ℤ Global → List ℤ = λ v. v.items in
    let P : Result (Vec ℤ Global) (OrMemory Stop) → Type 0 =
    λ f. AreFound {X = Vec ℤ Global} items whole f in
    c.unless_beyond.ensures whole
    (found_refused {X = Vec ℤ Global} {Y = Unit {0}} items (λ _. []) whole whole
    (Fault c.in-Fault.stop) (λ r is. is) (subst P (c.in-Err.is ∙ ap Err c.in-Fault.is) found))
