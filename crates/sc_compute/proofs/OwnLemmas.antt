-- What a partition of a shuffle reads of a parent as it is.
use Rattle.std.proofs.Common.{◌≡◌, ◌∙◌, ℕ, ◌-◌, Bool, if◌then◌else◌, List, [], ◌∷◌, ◌++◌, Some, Ok, Option, length, map, refl, ap, sym, subst}
use Rattle.std.specs.List.{slice_get}
use Rattle.sc_base.specs.Lists.{at_or}
use Rattle.sc_lineage.specs.Dependencies.{one_to_one, shuffled, unless_parted}
use Rattle.sc_lineage.specs.Meaning.{known_of, local_stream, node_streams_by, partition_stream_by}
use Rattle.sc_lineage.specs.NodeData.{ShufflingData}
use Rattle.sc_lineage.specs.Partitioners.{PartitionerData, no_partitioner, hash_partitioner}
use Rattle.sc_lineage.specs.ScriptData.{WorkData}
use Rattle.sc_lineage.specs.Shuffles.{Dealing, by_hash, map_side}
use Rattle.sc_lineage.specs.declared.streams.Stream.{Stream}
use Rattle.sc_lineage.proofs.ShuffleLemmas.{streams_for}
use Rattle.sc_compute.proofs.DirectLemmas.{lies_by_hash}
use Rattle.sc_compute.specs.Reading.{IsReadFrom, ReadsFrom, own_place, own_stream, read_directly}
use Rattle.sc_compute.specs.Stages.{AreDealt, IsInput, Opens, local_count}
use Rattle.sc_compute.specs.declared.shuffles.ReadFrom.{ReadFrom}
use Rattle.sc_compute.specs.declared.shuffles.ReadFrom.TheVariants.{Own, Dealt}
use Rattle.sc_compute.specs.declared.stages.Input.{Input}
use Rattle.sc_compute.specs.declared.stages.Input.TheVariants as inputs

-- where an input is read as it is, its stream is this one
abbrev pub OwnIs : WorkData → ℕ → ℕ → Input → Option Stream → Type 0
OwnIs work parent p inputs.Own own = own ≡ Some (local_stream work parent p)
OwnIs work parent p (inputs.Dealt dealt) own = Unit {0}

-- the first of what is read of one parent
pub only_own : (work : WorkData) (parent p : ℕ) (input : Input)
    → OwnIs work parent p input (slice_get (own_stream work input parent p) 0)
only_own work parent p inputs.Own = refl
only_own work parent p (inputs.Dealt dealt) = tt

-- the first and the last of what is read of two
pub first_own : (work : WorkData) (left right p : ℕ) (first second : Input)
    → OwnIs work left p first
    (slice_get (own_stream work first left p ++ own_stream work second right p) 0)
first_own work left right p inputs.Own second = refl
first_own work left right p (inputs.Dealt dealt) second = tt

pub last_own : (work : WorkData) (left right p : ℕ) (first second : Input)
    → OwnIs work right p second
    (slice_get (own_stream work first left p ++ own_stream work second right p)
    (length (own_stream work first left p ++ own_stream work second right p) - 1))
last_own work left right p inputs.Own inputs.Own = refl
last_own work left right p (inputs.Dealt dealt) inputs.Own = refl
last_own work left right p first (inputs.Dealt dealt) = tt

-- what is read as it is of one parent
pub own_direct : (work : WorkData) (p : ℕ) (kind : ShufflingData) (dealing : Dealing)
    (wanted : PartitionerData) (parent : ℕ) (input : Input)
    → IsInput work kind dealing wanted parent input
    → read_directly (local_count work) p (unless_parted (known_of work) (shuffled parent wanted))
    ≡ own_place input parent p
own_direct work p kind dealing wanted parent inputs.Own is =
    ap (λ (b : Bool). read_directly (local_count work) p
    (if b then one_to_one parent else shuffled parent wanted)) is
own_direct work p kind dealing wanted parent (inputs.Dealt dealt) is =
    ap (λ (b : Bool). read_directly (local_count work) p
    (if b then one_to_one parent else shuffled parent wanted)) is.1

pub nothing_behind : (input : Input) (parent p : ℕ)
    → own_place input parent p ++ [] ≡ own_place input parent p
nothing_behind inputs.Own parent p = refl
nothing_behind (inputs.Dealt dealt) parent p = refl

some_same : (a b : Stream) → Some a ≡ Some b → a ≡ b
some_same a b is = cc

-- what is read of a parent, by all streams that the meaning reads of it
pub reads_so : (work : WorkData) (kind : ShufflingData) (dealing : Dealing)
    (wanted : PartitionerData) (parent n p : ℕ) (input : Input) (own : Option Stream)
    (from : ReadFrom) → IsInput work kind dealing wanted parent input
    → OwnIs work parent p input own
    → ((m : ℕ) → wanted ≡ hash_partitioner m → dealing ≡ by_hash n)
    → ReadsFrom input own from
    → IsReadFrom kind dealing n from (streams_for (known_of work) work wanted parent p)
reads_so work kind dealing wanted parent n p inputs.Own own (Own s) is has hashed reads =
    let hash = lies_by_hash wanted (at_or (known_of work) parent no_partitioner) is in
    let same = some_same (local_stream work parent p) s.now (sym has ∙ reads) in (
      ap (λ (b : Bool). if b then partition_stream_by (known_of work) work parent p ∷ []
          else node_streams_by (known_of work) work parent) is ∙ ap (λ t. t ∷ []) same,
      hashed hash.0 hash.1,
    )
reads_so work kind dealing wanted parent n p inputs.Own own (Dealt lent) is has hashed reads =
    absurd reads
reads_so work kind dealing wanted parent n p (inputs.Dealt dealt) own (Own s) is has hashed reads =
    absurd reads
reads_so work kind dealing wanted parent n p (inputs.Dealt dealt) own (Dealt lent) is has hashed
    reads =
    let all = ap (λ (b : Bool). if b then partition_stream_by (known_of work) work parent p ∷ []
    else node_streams_by (known_of work) work parent) is.1 in
    let P : List Stream → Type 0 = λ streams. Opens (map (map_side kind) streams) (Ok is.0) in
    let Q = AreDealt dealing 0 is.0 in
    (is.0, subst P (sym all) is.2, subst Q (sym reads) is.3)
