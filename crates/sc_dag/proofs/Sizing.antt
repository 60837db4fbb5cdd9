-- Room for the outputs of all stages of a job.
use Rattle.std.proofs.Common.{◌≡◌, ◌⊎◌, inl, inr, ◌≤◌, ◌||◌, Bool, true, false, if◌then◌else◌, List, [], ◌∷◌, ◌++◌, All, AllPairs, get_or, length, replicate, refl, ap, sym, subst, ◌∙◌, arith}
use Rattle.std.specs.List.{list_any}
use Rattle.std.proofs.lemmas.List.{length-replicate}
use Rattle.std.proofs.lemmas.List.Elements.{All-cons, All-head, All-nil, All-push, All-replicate, All-tail}
use Rattle.sc_ids.specs.Graphs.{StageData}
use Rattle.sc_ids.specs.declared.blocks.ShuffleId.{ShuffleId}
use Rattle.sc_ids.specs.declared.blocks.Target.{Target}
use Rattle.sc_ids.specs.declared.blocks.Target.TheVariants as targets
use Rattle.sc_tracker.specs.Outputs.{never}
use Rattle.sc_tracker.specs.TrackerData.{ShuffleData, TrackerData, is_of, outputs_of, outputs_under, shuffle_data, tracker_data}
use Rattle.sc_tracker.specs.TrackerFacts.{IsSoundOutput, IsSoundTracker}
use Rattle.sc_tracker.specs.Tracking.{has_room}
use Rattle.sc_tracker.proofs.BlockLemmas.{is_of_itself, one_shuffle, room_made, under_behind, under_here}
use Rattle.sc_dag.specs.Openings.{AreOfTwo, FitsIn, FitsJob, sized_by, sized_for_all}
use Rattle.sc_dag.proofs.Items.{pairs_head, pairs_tail}
use Rattle.sc_dag.proofs.Tests.{clash}

-- ---- one more shuffle

-- it shortens the outputs of none
under_longer :
    (xs : List ShuffleData) (y : ShuffleData) (shuffle : ShuffleId)
    → length (outputs_under xs shuffle) ≤ length (outputs_under (xs ++ y ∷ []) shuffle)
under_longer [] y shuffle = omega arith
under_longer (x ∷ xs) y shuffle = by (is_of shuffle x) refl (under_longer xs y shuffle)
  where
    by : (b : Bool) → is_of shuffle x ≡ b
        → length (outputs_under xs shuffle) ≤ length (outputs_under (xs ++ y ∷ []) shuffle)
        → length (outputs_under (x ∷ xs) shuffle)
        ≤ length (outputs_under (x ∷ (xs ++ y ∷ [])) shuffle)
    by true e rest =
        rw (under_here x xs shuffle e, under_here x (xs ++ y ∷ []) shuffle e) (omega arith)
    by false e rest =
        rw (under_behind x xs shuffle e, under_behind x (xs ++ y ∷ []) shuffle e) rest

-- and leaves those of another shuffle as they are
under_other :
    (xs : List ShuffleData) (y : ShuffleData) (shuffle : ShuffleId) → is_of shuffle y ≡ false
    → outputs_under (xs ++ y ∷ []) shuffle ≡ outputs_under xs shuffle
under_other [] y shuffle other = under_behind y [] shuffle other
under_other (x ∷ xs) y shuffle other =
    by (is_of shuffle x) refl (under_other xs y shuffle other)
  where
    by : (b : Bool) → is_of shuffle x ≡ b
        → outputs_under (xs ++ y ∷ []) shuffle ≡ outputs_under xs shuffle
        → outputs_under (x ∷ (xs ++ y ∷ [])) shuffle ≡ outputs_under (x ∷ xs) shuffle
    by true e rest =
        under_here x (xs ++ y ∷ []) shuffle e ∙ sym (under_here x xs shuffle e)
    by false e rest =
        under_behind x (xs ++ y ∷ []) shuffle e ∙ rest ∙ sym (under_behind x xs shuffle e)

room_other :
    (xs : List ShuffleData) (y : ShuffleData) (shuffle : ShuffleId) → is_of shuffle y ≡ false
    → list_any (is_of shuffle) (xs ++ y ∷ []) ≡ list_any (is_of shuffle) xs
room_other [] y shuffle other = rw other refl
room_other (x ∷ xs) y shuffle other =
    ap (λ b. is_of shuffle x || b) (room_other xs y shuffle other)

-- ---- room for a stage

-- a tracker keeps what holds of it
pub sized_sound :
    (t : TrackerData) (stage : StageData) → IsSoundTracker t → IsSoundTracker (sized_by t stage)
sized_sound t stage sound = by stage.target
  where
    none : IsSoundOutput t.trust t.epoch never
    none = record { fresh = tt; is_last = tt; before = omega arith }

    longer : (shuffle : ShuffleId) (b : Bool)
        → IsSoundTracker (if b then t
        else tracker_data (t.shuffles ++ shuffle_data shuffle (replicate stage.tasks never) ∷ [])
        t.trust t.epoch)
    longer shuffle true = sound
    longer shuffle false =
        record {
          outputs = All-push (λ s. All (IsSoundOutput t.trust t.epoch) s.outputs) t.shuffles
              (shuffle_data shuffle (replicate stage.tasks never)) sound.outputs
              (All-replicate (IsSoundOutput t.trust t.epoch) stage.tasks never none);
          marks = sound.marks;
          events = sound.events;
        }

    by : (target : Target) → IsSoundTracker (sized_by t (record stage { target = target }))
    by (targets.Map shuffle) = longer shuffle (has_room t shuffle)
    by (targets.Result node) = sound

-- no stage loses room
sized_longer :
    (t : TrackerData) (stage : StageData) (shuffle : ShuffleId)
    → length (outputs_of t shuffle) ≤ length (outputs_of (sized_by t stage) shuffle)
sized_longer t stage shuffle = by stage.target
  where
    longer : (made : ShuffleId) (b : Bool)
        → length (outputs_of t shuffle)
        ≤ length (outputs_of (if b then t
        else tracker_data (t.shuffles ++ shuffle_data made (replicate stage.tasks never) ∷ [])
        t.trust t.epoch) shuffle)
    longer made true = omega arith
    longer made false =
        under_longer t.shuffles (shuffle_data made (replicate stage.tasks never)) shuffle

    by : (target : Target)
        → length (outputs_of t shuffle)
        ≤ length (outputs_of (sized_by t (record stage { target = target })) shuffle)
    by (targets.Map made) = longer made (has_room t made)
    by (targets.Result node) = omega arith

-- the stage itself has it
sized_enough :
    (t : TrackerData) (stage : StageData) (shuffle : ShuffleId) → FitsIn t stage
    → stage.target ≡ targets.Map shuffle
    → stage.tasks ≤ length (outputs_of (sized_by t stage) shuffle)
sized_enough t stage shuffle fits target = by (fits shuffle target)
  where
    enough : TrackerData → Type 0
    enough u = stage.tasks ≤ length (outputs_of u shuffle)

    made : (b : Bool) → has_room t shuffle ≡ b
        → (has_room t shuffle ≡ false) ⊎ (length (outputs_of t shuffle) ≡ stage.tasks)
        → stage.tasks ≤ length (outputs_of (if b then t
        else tracker_data (t.shuffles ++ shuffle_data shuffle (replicate stage.tasks never) ∷ [])
        t.trust t.epoch) shuffle)
    made true e (inl none) = absurd (clash e none)
    made true e (inr same) = omega (arith, same)
    made false e f =
        rw (
          room_made t.shuffles shuffle (replicate stage.tasks never) e,
          length-replicate stage.tasks never,
        ) (omega arith)

    by : (has_room t shuffle ≡ false) ⊎ (length (outputs_of t shuffle) ≡ stage.tasks)
        → stage.tasks ≤ length (outputs_of (sized_by t stage) shuffle)
    by f =
        subst (λ x. stage.tasks
        ≤ length (outputs_of (sized_by t (record stage { target = x })) shuffle))
        (sym target) (made (has_room t shuffle) refl f)

-- another stage fits as it did
sized_fits :
    (t : TrackerData) (stage other : StageData) → AreOfTwo stage.target other.target
    → FitsIn t other → FitsIn (sized_by t stage) other
sized_fits t stage other apart fits shuffle target = by stage.target refl (fits shuffle target)
  where
    two : (made : ShuffleId) → stage.target ≡ targets.Map made
        → is_of shuffle (shuffle_data made (replicate stage.tasks never)) ≡ false
    two made is = check (is_of shuffle (shuffle_data made (replicate stage.tasks never))) refl
      where
        check : (b : Bool)
            → is_of shuffle (shuffle_data made (replicate stage.tasks never)) ≡ b → b ≡ false
        check false e = refl
        check true e =
            let same : shuffle ≡ made = one_shuffle shuffle made
            (shuffle_data made (replicate stage.tasks never)) e
            (is_of_itself made (replicate stage.tasks never)) in
            absurd (apart shuffle (is ∙ ap targets.Map (sym same)) target)

    more : (made : ShuffleId) → stage.target ≡ targets.Map made → (b : Bool)
        → (has_room t shuffle ≡ false) ⊎ (length (outputs_of t shuffle) ≡ other.tasks)
        → let u = if b then t
        else tracker_data (t.shuffles ++ shuffle_data made (replicate stage.tasks never) ∷ [])
        t.trust t.epoch in
        (has_room u shuffle ≡ false) ⊎ (length (outputs_of u shuffle) ≡ other.tasks)
    more made is true f = f
    more made is false (inl none) = inl (room_other t.shuffles _ shuffle (two made is) ∙ none)
    more made is false (inr same) =
        inr (ap length (under_other t.shuffles _ shuffle (two made is)) ∙ same)

    by : (x : Target) → stage.target ≡ x
        → (has_room t shuffle ≡ false) ⊎ (length (outputs_of t shuffle) ≡ other.tasks)
        → let u = sized_by t (record stage { target = x }) in
        (has_room u shuffle ≡ false) ⊎ (length (outputs_of u shuffle) ≡ other.tasks)
    by (targets.Map made) is f = more made is (has_room t made) f
    by (targets.Result node) is f = f

-- ---- room for all stages

pub all_sized_sound :
    (t : TrackerData) (graph : List StageData) → IsSoundTracker t
    → IsSoundTracker (sized_for_all t graph)
all_sized_sound t [] sound = sound
all_sized_sound t (stage ∷ graph) sound =
    all_sized_sound (sized_by t stage) graph (sized_sound t stage sound)

all_sized_longer :
    (t : TrackerData) (graph : List StageData) (shuffle : ShuffleId)
    → length (outputs_of t shuffle) ≤ length (outputs_of (sized_for_all t graph) shuffle)
all_sized_longer t [] shuffle = omega arith
all_sized_longer t (stage ∷ graph) shuffle =
    let one = sized_longer t stage shuffle in
    let rest = all_sized_longer (sized_by t stage) graph shuffle in
    omega (arith, one, rest)

-- there is room for the outputs of a map stage
abbrev pub HasRoomIn : TrackerData → StageData → Type 0
HasRoomIn t stage =
    (shuffle : ShuffleId) → stage.target ≡ targets.Map shuffle
    → stage.tasks ≤ length (outputs_of t shuffle)

pub all_sized_enough :
    (t : TrackerData) (graph : List StageData)
    → AllPairs (λ a b. AreOfTwo a.target b.target) graph → FitsJob t graph
    → All (HasRoomIn (sized_for_all t graph)) graph
all_sized_enough t [] apart fits = All-nil (HasRoomIn t)
all_sized_enough t (stage ∷ graph) apart fits =
    All-cons (HasRoomIn (sized_for_all (sized_by t stage) graph)) stage graph
    (λ shuffle target.
    (let one = sized_enough t stage shuffle (All-head (FitsIn t) stage graph fits) target in
    let rest = all_sized_longer (sized_by t stage) graph shuffle in omega (arith, one, rest)))
    (all_sized_enough (sized_by t stage) graph (pairs_tail R stage graph apart)
    (still graph (pairs_head R stage graph apart) (All-tail (FitsIn t) stage graph fits)))
  where
    R : StageData → StageData → Type 0
    R a b = AreOfTwo a.target b.target

    still : (rest : List StageData) → All (R stage) rest → FitsJob t rest
        → FitsJob (sized_by t stage) rest
    still rest two had = λ i d lt. sized_fits t stage (get_or rest i d) (two i d lt) (had i d lt)
