-- What is kept of when attempts began.
use Rattle.std.proofs.Common.{◌≡◌, ◌⊎◌, inl, inr, ℕ, zero, suc, ◌-◌, ◌<◌, ◌≤◌, ◌==◌, Bool, true, false, if◌then◌else◌, List, [], ◌∷◌, ◌++◌, All, length, map, Option, Some, None, IfSome, IsSomeAnd, is_some, option_map, slice_get, refl, ap, sym, subst, ◌∙◌, arith, true≢false}
use Rattle.std.proofs.lemmas.Bool.Decides.{nat_tests}
use Rattle.std.proofs.lemmas.Bool.{cases_eq}
use Rattle.std.proofs.lemmas.List.Elements.{All-cons, All-nil, All-push, All-weaker}
use Rattle.std.proofs.lemmas.List.Quantifiers.{all_pairs_push}
use Rattle.std.specs.List.{list_all}
use Rattle.sc_base.specs.Lists.{numbers_below}
use Rattle.sc_ids.specs.Changes.{change_at}
use Rattle.sc_ids.specs.Graphs.{StageData}
use Rattle.sc_ids.specs.declared.blocks.BlockId.{BlockId}
use Rattle.sc_ids.specs.declared.blocks.Loc.{Loc}
use Rattle.sc_ids.specs.declared.blocks.ShuffleId.{ShuffleId}
use Rattle.sc_ids.specs.declared.blocks.Target.{Target}
use Rattle.sc_ids.specs.declared.blocks.Target.TheVariants as targets
use Rattle.sc_ids.proofs.ChangeLemmas.{slice_get_change_other, slice_get_change_same}
use Rattle.sc_taskset.specs.TaskSetData.{TaskSetData}
use Rattle.sc_tracker.specs.Outputs.{forgotten, forgotten_on, is_on}
use Rattle.sc_tracker.specs.TrackerData.{TrackerData, output_of, trust_of}
use Rattle.sc_tracker.specs.TrackerFacts.{IsSoundOutput, IsSoundTracker}
use Rattle.sc_tracker.specs.TrackerLaws.{HasRoomFor, IsLaterTrust}
use Rattle.sc_tracker.specs.Tracking.{registered}
use Rattle.sc_tracker.specs.declared.outputs.Output.{Output}
use Rattle.sc_tracker.proofs.BlockLemmas.{lookups_sound, registers_one}
use Rattle.sc_dag.specs.Births.{AreBornInTurn, ReadsOutput, WasLost, WasThere, births_of}
use Rattle.sc_dag.specs.DagData.{DagData, StageState, changed_newest, changed_set, place_of_attempt, stage_at, with_set}
use Rattle.sc_dag.specs.Outputs.{block_of, has_inputs, is_complete, is_done_by, is_registered, results_in}
use Rattle.sc_dag.specs.Sound.{IsSoundDag, attempts_in, attempts_of}
use Rattle.sc_dag.specs.declared.attempts.StageAttempt.{StageAttempt}
use Rattle.sc_dag.proofs.Tests.{all_in, any_below, both_left, both_right}

-- what holds of the epochs in which the attempts of each stage began
pub record AreBirths (stages : List StageData) (t : TrackerData) (births : ℕ → List ℕ)
    : Type 0 where
  pub turn : (s : ℕ) → AreBornInTurn t.epoch (births s)
  pub there : (s p : ℕ) (shuffle : ShuffleId) → ReadsOutput stages s shuffle p
      → All (WasThere t (block_of shuffle p)) (births s)

pub births_in : (d : DagData) → IsSoundDag d
    → AreBirths d.stages d.tracker (λ s. births_of (attempts_of d s))
births_in d sound = record { turn = sound.born; there = sound.inputs }

-- what was there in an epoch was still there then, with a tracker later on
pub record Ages (t u : TrackerData) : Type 0 where
  pub epoch : t.epoch ≤ u.epoch
  pub there : (block : BlockId) (born : ℕ) → born ≤ t.epoch → WasThere t block born
      → WasThere u block born

pub ages_same : (t : TrackerData) → Ages t t
ages_same t = record { epoch = omega arith; there = λ block born le was. was }

-- the same attempts, with a tracker later on
pub births_kept :
    (stages : List StageData) (t u : TrackerData) (before after : ℕ → List ℕ)
    → ((s : ℕ) → after s ≡ before s) → Ages t u → AreBirths stages t before
    → AreBirths stages u after
births_kept stages t u before after same ages are =
    record {
      turn = λ s. rw (same s) (record {
        rising = (are.turn s).rising;
        past = All-weaker (λ b. b ≤ t.epoch) (λ b. b ≤ u.epoch)
            (λ b le. (let later = ages.epoch in omega (arith, le, later))) (before s)
            (are.turn s).past;
      });
      there = λ s p shuffle reads. rw (same s)
          (λ k d l. ages.there (block_of shuffle p) _ ((are.turn s).past k d l)
          (are.there s p shuffle reads k d l));
    }

-- ---- what a submission begins

all_true : {A : Type 0} (f : A → Bool) (xs : List A) → list_all f xs ≡ true
    → All (λ x. f x ≡ true) xs
all_true f [] e = All-nil (λ x. f x ≡ true)
all_true f (x ∷ xs) e =
    All-cons (λ y. f y ≡ true) x xs (both_left (f x) (list_all f xs) e)
    (all_true f xs (both_right (f x) (list_all f xs) e))

-- all outputs of a complete stage are registered
registered_in :
    (t : TrackerData) (target : Target) (tasks : ℕ) (results : List Bool) (shuffle : ShuffleId)
    (p : ℕ) → target ≡ targets.Map shuffle
    → list_all (is_done_by t target results) (numbers_below tasks) ≡ true → p < tasks
    → is_registered t (block_of shuffle p) ≡ true
registered_in t target tasks results shuffle p e all lt =
    let itself : (p == p) ≡ true = grind (arith, nat_tests) in
    subst (λ x. is_done_by t x results p ≡ true) e
    (all_in (λ q. is_done_by t target results q ≡ true) (numbers_below tasks) p
    (all_true (is_done_by t target results) (numbers_below tasks) all)
    (any_below (λ q. q == p) tasks p lt itself))

-- what a stage reads is registered where all its inputs are there
pub input_registered :
    (d : DagData) (s p : ℕ) (shuffle : ShuffleId) → has_inputs d s ≡ true
    → ReadsOutput d.stages s shuffle p → is_registered d.tracker (block_of shuffle p) ≡ true
input_registered d s p shuffle has reads =
    registered_in d.tracker (stage_at d reads.parent).target (stage_at d reads.parent).tasks
    (results_in (slice_get d.states reads.parent)) shuffle p reads.made
    (all_in (λ q. is_complete d q ≡ true) (stage_at d s).parents reads.parent
    (all_true (is_complete d) (stage_at d s).parents has) reads.is_parent)
    reads.within

-- one more attempt, where its inputs are there, or none
pub births_moved :
    (d : DagData) (before after : ℕ → List ℕ)
    → ((s : ℕ) → (after s ≡ before s)
    ⊎ ((after s ≡ before s ++ d.tracker.epoch ∷ []) × (has_inputs d s ≡ true)))
    → AreBirths d.stages d.tracker before → AreBirths d.stages d.tracker after
births_moved d before after moved are =
    record {
      turn = λ s. turn s (moved s);
      there = λ s p shuffle reads. there s p shuffle reads (moved s);
    }
  where
    turn : (s : ℕ) → (after s ≡ before s)
        ⊎ ((after s ≡ before s ++ d.tracker.epoch ∷ []) × (has_inputs d s ≡ true))
        → AreBornInTurn d.tracker.epoch (after s)
    turn s (inl same) = rw same (are.turn s)
    turn s (inr (more, has)) =
        rw more (record {
          rising = all_pairs_push (λ a b. a ≤ b) (before s) d.tracker.epoch (are.turn s).rising
              (λ k e l. (are.turn s).past k e l);
          past = All-push (λ b. b ≤ d.tracker.epoch) (before s) d.tracker.epoch
              (are.turn s).past (omega arith);
        })

    there : (s p : ℕ) (shuffle : ShuffleId) → ReadsOutput d.stages s shuffle p
        → (after s ≡ before s)
        ⊎ ((after s ≡ before s ++ d.tracker.epoch ∷ []) × (has_inputs d s ≡ true))
        → All (WasThere d.tracker (block_of shuffle p)) (after s)
    there s p shuffle reads (inl same) = rw same (are.there s p shuffle reads)
    there s p shuffle reads (inr (more, has)) =
        rw more (All-push (WasThere d.tracker (block_of shuffle p)) (before s) d.tracker.epoch
        (are.there s p shuffle reads) (inl (input_registered d s p shuffle has reads)))

-- ---- changes of attempts

pub births_changed :
    (attempts : List StageAttempt) (i : ℕ) (h : StageAttempt → StageAttempt)
    → ((a : StageAttempt) → (h a).set.born ≡ a.set.born)
    → births_of (change_at attempts i h) ≡ births_of attempts
births_changed [] i h keeps = refl
births_changed (a ∷ attempts) zero h keeps = ap (λ b. b ∷ births_of attempts) (keeps a)
births_changed (a ∷ attempts) (suc i) h keeps =
    ap (λ bs. a.set.born ∷ bs) (births_changed attempts i h keeps)

pub births_mapped :
    (attempts : List StageAttempt) (h : StageAttempt → StageAttempt)
    → ((a : StageAttempt) → (h a).set.born ≡ a.set.born)
    → births_of (map h attempts) ≡ births_of attempts
births_mapped [] h keeps = refl
births_mapped (a ∷ attempts) h keeps =
    ap (λ bs. (h a).set.born ∷ bs) (births_mapped attempts h keeps)
    ∙ ap (λ b. b ∷ births_of attempts) (keeps a)

pub births_pushed :
    (attempts : List StageAttempt) (a : StageAttempt)
    → births_of (attempts ++ a ∷ []) ≡ births_of attempts ++ a.set.born ∷ []
births_pushed [] a = refl
births_pushed (x ∷ attempts) a = ap (λ bs. x.set.born ∷ bs) (births_pushed attempts a)

-- a state changed in a way that keeps when its attempts began
abbrev pub KeepsBirths : (StageState → StageState) → Type 0
KeepsBirths f =
    (state : StageState) → births_of (f state).attempts ≡ births_of state.attempts

pub births_state :
    (f : StageState → StageState) (o : Option StageState) → KeepsBirths f
    → births_of (attempts_in (option_map f o)) ≡ births_of (attempts_in o)
births_state f None keeps = refl
births_state f (Some state) keeps = keeps state

-- one set of a stage changed
pub births_own :
    (number : ℕ) (g : TaskSetData → TaskSetData) → ((set : TaskSetData) → (g set).born ≡ set.born)
    → KeepsBirths (changed_set number g)
births_own number g keeps state =
    births_changed state.attempts (place_of_attempt state number) (with_set g)
    (λ a. keeps a.set)

pub births_newest :
    (g : TaskSetData → TaskSetData) → ((set : TaskSetData) → (g set).born ≡ set.born)
    → KeepsBirths (changed_newest g)
births_newest g keeps state =
    births_changed state.attempts (length state.attempts - 1) (with_set g) (λ a. keeps a.set)

-- one stage changed
pub births_with :
    (states : List StageState) (s k : ℕ) (f : StageState → StageState) → KeepsBirths f
    → births_of (attempts_in (slice_get (change_at states s f) k))
    ≡ births_of (attempts_in (slice_get states k))
births_with states s k f keeps = by (cases_eq k s)
  where
    by : (k ≡ s) ⊎ (k ≡ s → ⊥)
        → births_of (attempts_in (slice_get (change_at states s f) k))
        ≡ births_of (attempts_in (slice_get states k))
    by (inl e) =
        subst (λ j. births_of (attempts_in (slice_get (change_at states s f) j))
        ≡ births_of (attempts_in (slice_get states j))) (sym e)
        (ap (λ o. births_of (attempts_in o)) (slice_get_change_same states s f)
        ∙ births_state f (slice_get states s) keeps)
    by (inr ne) =
        ap (λ o. births_of (attempts_in o)) (slice_get_change_other states s k f ne)

-- ---- changes of the tracker

-- a registration loses nothing
pub registered_ages :
    (t : TrackerData) (block : BlockId) (loc : Loc) → HasRoomFor t block
    → ((other : BlockId) → (other ≡ block) ⊎ (other ≡ block → ⊥))
    → Ages t (registered t block loc)
registered_ages t block loc room which =
    record { epoch = omega arith; there = λ other born le was. by other born was (which other) }
  where
    u : TrackerData
    u = registered t block loc

    lost : (output : Output) (born : ℕ) → WasLost t output born → WasLost u output born
    lost output born was =
        record {
          loc = was.loc;
          mark = was.mark;
          place = was.place;
          marked = was.marked;
          after_it = was.after_it;
          after_birth = was.after_birth;
        }

    kept : (other : BlockId) (born : ℕ) → output_of u other ≡ output_of t other
        → WasThere t other born → WasThere u other born
    kept other born same (inl here) = inl (ap (λ o. is_some o.here) same ∙ here)
    kept other born same (inr was) =
        inr (subst (λ o. WasLost u o born) (sym same) (lost (output_of t other) born was))

    by : (other : BlockId) (born : ℕ) → WasThere t other born
        → (other ≡ block) ⊎ (other ≡ block → ⊥) → WasThere u other born
    by other born was (inl e) =
        inl (ap (λ b. is_registered u b) e
        ∙ ap (λ o. is_some o.here) ((registers_one t block loc).0 room))
    by other born was (inr ne) = kept other born ((registers_one t block loc).1 other ne) was

-- an output was there in an epoch
abbrev Was : TrackerData → Output → ℕ → Type 0
Was t output born = (is_some output.here ≡ true) ⊎ WasLost t output born

-- nor does an event lose what it doesn't mark
pub event_ages :
    (t u : TrackerData) (exec : ℕ) → IsSoundTracker t → t.epoch ≤ u.epoch
    → ((block : BlockId) → output_of u block ≡ forgotten_on exec (output_of t block))
    → (trust_of u exec).mark ≡ Some t.epoch
    → ((e : ℕ) → IsLaterTrust (trust_of t e) (trust_of u e))
    → Ages t u
event_ages t u exec sound epoch outputs marked later =
    record {
      epoch = epoch;
      there = λ block born le was.
          subst (λ o. Was u o born) (sym (outputs block))
          (by (output_of t block) born ((lookups_sound t sound).0 block) le was);
    }
  where
    aged : (output : Output) (born : ℕ) → WasLost t output born → WasLost u output born
    aged output born was =
        from (trust_of u was.loc.exec).mark refl
        (subst (λ m. IfSome m (λ x. IsSomeAnd (trust_of u was.loc.exec).mark (λ y. x ≤ y)))
        was.marked (later was.loc.exec).mark)
      where
        from : (m : Option ℕ) → (trust_of u was.loc.exec).mark ≡ m
            → IsSomeAnd (trust_of u was.loc.exec).mark (λ y. was.mark ≤ y)
            → WasLost u output born
        from None e h = absurd (rw e at h)
        from (Some n) e h =
            let up : was.mark ≤ n = rw e at h in
            record {
              loc = was.loc;
              mark = n;
              place = was.place;
              marked = e;
              after_it = (let a = was.after_it in omega (arith, a, up));
              after_birth = (let b = was.after_birth in omega (arith, b, up));
            }

    gone : (output : Output) (born : ℕ) → WasLost u output born → WasLost u (forgotten output) born
    gone output born was =
        record {
          loc = was.loc;
          mark = was.mark;
          place = was.place;
          marked = was.marked;
          after_it = was.after_it;
          after_birth = was.after_birth;
        }

    lost : (output : Output) (born : ℕ) → IsSoundOutput t.trust t.epoch output → born ≤ t.epoch
        → (here : Option Loc) → output.here ≡ here → is_on exec here ≡ true
        → WasLost u (forgotten output) born
    lost output born is le None e on = absurd (true≢false (sym on))
    lost output born is le (Some loc) e on =
        let same : loc.exec ≡ exec = grind (arith, nat_tests, on) in
        let last : output.last ≡ Some loc =
        subst (λ h. IfSome h (λ l. output.last ≡ Some l)) e is.is_last in
        record {
          loc = loc;
          mark = t.epoch;
          place = last;
          marked = ap (λ x. (trust_of u x).mark) same ∙ marked;
          after_it = is.before;
          after_birth = le;
        }

    by : (output : Output) (born : ℕ) → IsSoundOutput t.trust t.epoch output → born ≤ t.epoch
        → Was t output born → Was u (forgotten_on exec output) born
    by output born is le was = on (is_on exec output.here) refl was
      where
        on : (b : Bool) → is_on exec output.here ≡ b → Was t output born
            → Was u (if b then forgotten output else output) born
        on true e (inl here) = inr (lost output born is le output.here refl e)
        on true e (inr before) = inr (gone output born (aged output born before))
        on false e (inl here) = inl here
        on false e (inr before) = inr (aged output born before)
