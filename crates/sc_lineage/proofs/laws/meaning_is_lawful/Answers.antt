use Rattle.sc_lineage.specs.Meaning.{streams_step}
use Rattle.sc_lineage.specs.Partitioners.{partitioner_step}
use Rattle.sc_lineage.specs.ScriptData.{count_step}
use Rattle.sc_lineage.proofs.ByNodesLemmas.{fold_laws}
use Rattle.sc_lineage.proofs.CountLemmas.{counts_are_within}
use Rattle.sc_lineage.proofs.MeaningLemmas.{partitions_are_made, partitions_are_narrow}
use Rattle.sc_lineage.proofs.NameLemmas.{inputs_are_named, inputs_are_named_once, inputs_are_in_order}
use Rattle.sc_lineage.proofs.SaveLemmas.{saves_are_lawful}
use Rattle.sc_lineage.proofs.WholeLemmas.{reads_are_whole}
use Rattle.sc_lineage.proofs.laws.meaning_is_lawful.Goals as goal

pub returns : goal.returns
returns c = record {
  counts_fold = fold_laws count_step;
  partitioners_fold = fold_laws partitioner_step;
  streams_fold = λ inputs known. fold_laws (streams_step inputs known);
  partitions = partitions_are_made;
  narrow = partitions_are_narrow;
  reads = reads_are_whole;
  counts = counts_are_within;
  inputs = inputs_are_named;
  inputs_once = inputs_are_named_once;
  inputs_order = inputs_are_in_order;
  saves = saves_are_lawful;
}
