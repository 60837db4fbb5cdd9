-- The streams that were read of the places that a partition reads.
use Rattle.std.proofs.Common.{◌≡◌, ◌∙◌, ℕ, ◌+◌, ◌<◌, ◌≤◌, List, [], ◌∷◌, ◌++◌, All, Contains, length, map, take, get_or, ap, ap₂, sym, subst}
use Rattle.std.proofs.lemmas.List.{map-append, take_all, take_more}
use Rattle.std.proofs.lemmas.List.Elements.{All-contains_itself, All-get_or}
use Rattle.sc_lineage.specs.Meaning.{known_of, local_stream}
use Rattle.sc_lineage.specs.ScriptData.{WorkData}
use Rattle.sc_lineage.specs.Views.{place_data_of}
use Rattle.sc_lineage.specs.declared.dependencies.Place.{Place}
use Rattle.sc_lineage.specs.declared.streams.Stream.{Stream}
use Rattle.sc_lineage.proofs.FoundLemmas.{streams_at}
use Rattle.sc_compute.specs.Reading.{direct_reads}
use Rattle.sc_compute.proofs.DirectLemmas.{found_all}

-- the streams of all places that a partition reads as they are
pub all_read : (work : WorkData) (k p : ℕ) (found places : List Place) (inputs lent : List Stream)
    (i : ℕ) → map place_data_of found ≡ direct_reads work k p → places ≡ found
    → length places ≤ i
    → inputs ≡ map (λ at. local_stream work at.node at.partition) (take i places)
    → lent ≡ inputs
    → lent ≡ map (λ at. local_stream work at.node at.partition) (direct_reads work k p)
all_read work k p found places inputs lent i read same past are lent_is =
    let one : Place → Stream = λ at. local_stream work at.node at.partition in
    lent_is
    ∙ are
    ∙ ap (map one) (take_all i places past ∙ same)
    ∙ streams_at (known_of work) work found
    ∙ ap (map (λ at. local_stream work at.node at.partition)) read

-- one more of them was read
pub one_more : (work : WorkData) (places : List Place) (i : ℕ) (other : Place)
    (before after : List Stream) (s : Stream) → i < length places
    → before ≡ map (λ at. local_stream work at.node at.partition) (take i places)
    → after ≡ before ++ s ∷ []
    → s ≡ local_stream work (get_or places i other).node (get_or places i other).partition
    → after ≡ map (λ at. local_stream work at.node at.partition) (take (i + 1) places)
one_more work places i other before after s within are more is =
    let one : Place → Stream = λ at. local_stream work at.node at.partition in
    more
    ∙ ap₂ (λ ss t. ss ++ t ∷ []) are is
    ∙ sym (map-append one (take i places) (get_or places i other ∷ []))
    ∙ ap (map one) (sym (take_more places i other within))

-- a place that is read is among those that a partition reads as they are
pub read_at : (work : WorkData) (k p : ℕ) (found places : List Place) (i : ℕ) (d : Place)
    → map place_data_of found ≡ direct_reads work k p → places ≡ found → i < length places
    → Contains (direct_reads work k p) (place_data_of (get_or places i d))
read_at work k p found places i d read same within =
    All-get_or (λ q. Contains (direct_reads work k p) (place_data_of q)) places i d within
    (subst (All (λ q. Contains (direct_reads work k p) (place_data_of q))) (sym same)
    (found_all (Contains (direct_reads work k p)) found (direct_reads work k p) read
    (All-contains_itself (direct_reads work k p))))

-- the places that were read, and one more
pub places_more : (places : List Place) (i : ℕ) (d : Place) → i < length places
    → map place_data_of (take i places) ++ place_data_of (get_or places i d) ∷ []
    ≡ map place_data_of (take (i + 1) places)
places_more places i d within =
    sym (map-append place_data_of (take i places) (get_or places i d ∷ []))
    ∙ ap (map place_data_of) (sym (take_more places i d within))

-- all places that a partition reads as they are
pub places_all : (work : WorkData) (k p : ℕ) (found places : List Place) (i : ℕ)
    → map place_data_of found ≡ direct_reads work k p → places ≡ found → length places ≤ i
    → map place_data_of (take i places) ≡ direct_reads work k p
places_all work k p found places i read same past =
    ap (map place_data_of) (take_all i places past ∙ same) ∙ read
