use Rattle.std.proofs.Common.{◌*◌, ◌-◌, ◌^◌, ◌≤◌, flat_map, length}
use Rattle.sc_lineage.specs.Views.{action_data_of}
use Rattle.sc_compute.specs.Gathering.{IsGathered, rows_counted}
use Rattle.sc_compute.specs.Results.{rows_told}
use Rattle.sc_compute.proofs.settling.all_gathered.Given as goal

abbrev pub invariant-loop-result : goal.invariant-loop-result
invariant-loop-result l =
    record {
      gathered : IsGathered (action_data_of l.action) l.gathered
          (flat_map rows_told l.yielded);
      count : rows_counted l.gathered ≤ length l.yielded * (2 ^ 64 - 1);
    }
