use Rattle.std.proofs.Common.{◌≡◌, ◌+◌, ◌*◌, map, take}
use Rattle.sc_lineage.specs.Meaning.{local_stream}
use Rattle.sc_lineage.specs.Views.{place_data_of}
use Rattle.sc_compute.specs.Caching.{AreOwn}
use Rattle.sc_compute.specs.Keeping.{KeepsRight}
use Rattle.sc_compute.specs.Needs.{AreNoted, NotesReads}
use Rattle.sc_compute.proofs.partitions.+computing.Given as goal

abbrev pub decreases-stream_at : goal.decreases-stream_at
decreases-stream_at l = l.at.node * 2 + 1

abbrev pub decreases-computed : goal.decreases-computed
decreases-computed l = l.at.node * 2

abbrev pub invariant-computed-loop-place : goal.invariant-computed-loop-place
invariant-computed-loop-place l = record {
  right : KeepsRight l.work l.kept;
  known : l.kept.known ≡ l.initial.kept.known;
  noted : AreNoted l.work l.kept l.caching;
  own : AreOwn l.work l.caching;
  far : NotesReads l.work (place_data_of l.at) l.initial.caching l.caching
      (map place_data_of (take l.place-index l.place-items));
  streams : l.streams.items
      ≡ map (λ at. local_stream l.work at.node at.partition) (take l.place-index l.place-items);
}
