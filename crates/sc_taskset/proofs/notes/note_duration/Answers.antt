use Rattle.std.proofs.Common.{◌≡◌, ◌∙◌, ℕ, ap, nat_le, rules, of_calls, sym, subst}
use Rattle.std.specs.List.{insert, prefix_len}
use Rattle.std.specs.List.Sorted.{IsNonDecreasing}
use Rattle.std.proofs.lemmas.List.Sorted.{IsPartitionPoint-from_clause, IsPartitionedBy-leb}
use Rattle.sc_taskset.proofs.DurationLemmas.{place_is}
use Rattle.sc_taskset.proofs.notes.note_duration.Goals as goal

pub returns-in-Ok-clause-items : goal.returns-in-Ok-clause-items
returns-in-Ok-clause-items c =
    let d = c.in-Some.new in
    let old = c.args.durations.now.items in
    let xs = c.deref.result.now in
    let same : xs ≡ old = c.deref.ensures.value in
    let rising : IsNonDecreasing xs = subst IsNonDecreasing (sym same) c.requires.rising in
    let point = IsPartitionPoint-from_clause (λ e. nat_le e d) xs c.partition_point-place.result
    c.partition_point-place.ensures.partitioned
    (IsPartitionedBy-leb (λ e. e) xs d rising) (λ a r f k. search (rules, of_calls)) in
    let place : c.partition_point-place.result ≡ prefix_len (λ e. nat_le e d) old =
    place_is (λ e. nat_le e d) xs c.partition_point-place.result
    c.partition_point-place.ensures.bound point ∙ ap (prefix_len (λ e. nat_le e d)) same in
    rw (c.in-Some.is) (c.in-Ok.ensures.items ∙ ap (λ (i : ℕ). insert old i d) place)
