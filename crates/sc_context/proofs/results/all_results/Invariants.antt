use Rattle.std.proofs.Common.{◌≡◌, Some, map, take}
use Rattle.sc_context.proofs.results.all_results.Given as goal

abbrev pub invariant-loop-result : goal.invariant-loop-result
invariant-loop-result l = take l.result-index l.results ≡ map Some l.all.items
