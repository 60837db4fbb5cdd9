use Rattle.std.proofs.Common.{◌∙◌, ◌<◌, IfSome, refl, subst, sym, arith}
use Rattle.sc_value.proofs.PrintingLemmas.{on_ok}
use Rattle.sc_lineage.specs.Views.{place_data_of}
use Rattle.sc_compute.specs.Chains.{LeadsTo}
use Rattle.sc_compute.specs.Keeping.{is_known}
use Rattle.sc_compute.specs.Needs.{HasFresh, Notes, NotesReads, places_in, places_known, places_noted}
use Rattle.sc_compute.specs.declared.chains.Chain.{Chain}
use Rattle.sc_compute.proofs.ChainLemmas.{notes_down}
use Rattle.sc_compute.proofs.NeedsLemmas.{had_notes, known_among, lacks_known, noted_more, so_far_done, so_far_more}
use Rattle.sc_compute.proofs.PartitionLemmas.{all_read, one_more, places_all, places_more, read_at}
use Rattle.sc_compute.proofs.partitions.+computing.Goals as goal

pub computed-loop-place-preserved : goal.computed-loop-place-preserved
computed-loop-place-preserved t c =
    let work = c.args.work.now in
    let at = place_data_of c.args.at in
    let first = c.args.caching.now in
    let now = c.loop-place.caching in
    let items = c.deref-place-items.result.now in
    let i = c.loop-place.place-index in
    let lacks = known_among c.args.kept.now first at c.requires.knows c.requires.lacks in
    record {
      right = c.stream_at-in-loop-place.ensures.kept;
      known = c.stream_at-in-loop-place.ensures.known ∙ c.loop-place.invariant.known;
      noted = c.in_ok-stream_at.ensures.noted;
      own = c.stream_at-in-loop-place.ensures.own;
      far = subst (NotesReads work at first c.stream_at-in-loop-place.new.caching)
          (places_more items i _ (omega arith))
          (so_far_more work at first now c.stream_at-in-loop-place.new.caching _ _
          c.loop-place.invariant.far lacks
          (read_at work c.args.at.node c.args.at.partition c.in_ok-places.places.items items i _
          c.in_ok-places.ensures.places c.deref-place-items.ensures.value (omega arith))
          c.in_ok-stream_at.ensures.notes);
      streams = one_more c.args.work.now items i
          _ c.loop-place.streams.items c.push.new.self.items c.in_ok-stream_at.field-0 (omega arith)
          c.loop-place.invariant.streams c.in_ok-push.ensures.items
          c.in_ok-stream_at.ensures.stream;
    }

pub stream_at-returns-then-has-clause-kept : goal.stream_at-returns-then-has-clause-kept
stream_at-returns-then-has-clause-kept t c = c.take.ensures.right c.args.work.now c.requires.kept

pub stream_at-returns-then-has-clause-notes : goal.stream_at-returns-then-has-clause-notes
stream_at-returns-then-has-clause-notes t c =
    let at = place_data_of c.args.at in
    on_ok c.take.result
    (had_notes c.args.work.now c.args.kept.now c.args.caching.now c.requires.noted at
    c.requires.knows (sym c.has.ensures ∙ c.if-has.true))

pub computed-stream_of-requires-clause-inputs : goal.computed-stream_of-requires-clause-inputs
computed-stream_of-requires-clause-inputs t c =
    all_read c.args.work.now c.args.at.node c.args.at.partition c.in_ok-places.places.items
    c.deref-place-items.result.now c.loop-place.streams.items c.deref-2.result.now
    c.loop-place.place-index c.in_ok-places.ensures.places c.deref-place-items.ensures.value
    (omega arith) c.loop-place.invariant.streams c.deref-2.ensures.value

pub computed-returns-clause-notes : goal.computed-returns-clause-notes
computed-returns-clause-notes t c =
    let work = c.args.work.now in
    let at = place_data_of c.args.at in
    let first = c.args.caching.now in
    let now = c.loop-place.caching in
    let all = places_all work c.args.at.node c.args.at.partition c.in_ok-places.places.items
    c.deref-place-items.result.now c.loop-place.place-index c.in_ok-places.ensures.places
    c.deref-place-items.ensures.value (omega arith) in
    on_ok c.stream_of.result
    (subst (NotesReads work at first now) all c.loop-place.invariant.far)

pub stream_at-returns-clause-notes : goal.stream_at-returns-clause-notes
stream_at-returns-clause-notes t c =
    let work = c.args.work.now in
    let at = place_data_of c.args.at in
    let first = c.args.caching.now in
    let lacks = lacks_known c.args.kept.now first at c.requires.knows
    (sym c.has.ensures ∙ c.if-has.false) in
    so_far_done work at first c.computed.new.caching c.note.new.self
    c.in_ok-stream.ensures.notes lacks c.in_ok-note.ensures.notes

pub stream_at-returns-clause-noted : goal.stream_at-returns-clause-noted
stream_at-returns-clause-noted t c =
    let work = c.args.work.now in
    let at = place_data_of c.args.at in
    let first = c.args.caching.now in
    let now = c.computed.new.caching in
    let after = c.note.new.self in
    let lacks = lacks_known c.args.kept.now first at c.requires.knows
    (sym c.has.ensures ∙ c.if-has.false) in
    let done : Notes work at first after = so_far_done work at first now after
    c.in_ok-stream.ensures.notes lacks c.in_ok-note.ensures.notes in
    noted_more work c.computed.new.kept now c.in_ok-stream.ensures.noted c.keep.new.self after at
    c.keep.ensures.keeps c.in_ok-note.ensures.notes
    (subst (λ ks. HasFresh work (places_in ks) (places_noted after) at) (sym done.known) done.all)

pub computed-returns-in-Some-clause-notes : goal.computed-returns-in-Some-clause-notes
computed-returns-in-Some-clause-notes t c =
    let work = c.args.work.now in
    let at = place_data_of c.args.at in
    let first = c.args.caching.now in
    let chain = c.in-Some.chain in
    let leads : LeadsTo work c.args.inputs.now c.args.kept.now at chain =
    subst (λ o. IfSome o (LeadsTo work c.args.inputs.now c.args.kept.now at)) c.in-Some.is
    c.in_ok-chain.ensures.leads in
    let lower : chain.from.node < c.args.at.node =
    subst (λ o. IfSome o (λ (r : Chain). r.from.node < c.args.at.node)) c.in-Some.is
    c.in_ok-chain.ensures.before in
    on_ok c.run_chain.result
    (notes_down work (is_known c.args.kept.now) (places_known first) c.requires.knows at
    (place_data_of chain.from) leads.path first c.stream_at.new.caching refl leads.passes lower
    c.in_ok-input.ensures.notes)
