-- What is handed out with a task, and when an event shows that its stage may fail.
use Rattle.std.proofs.Common.{◌≡◌, ◌⊎◌, inl, inr, ℕ, ◌+◌, ◌||◌, ◌<◌, ◌≤◌, ◌==◌, All, Bool, true, false, List, [], ◌∷◌, Option, Some, None, IfSome, is_some, option_map, slice_get, refl, ap, sym, subst, ◌∙◌, arith, rules, true≢false}
use Rattle.std.specs.List.{flat_map, list_any}
use Rattle.std.proofs.lemmas.Bool.Decides.{nat_tests}
use Rattle.std.proofs.lemmas.List.Concat.{flat_map-cons}
use Rattle.std.proofs.lemmas.List.Elements.{All-append, All-map, All-nil, All-weaker}
use Rattle.sc_base.specs.Lists.{numbers_below}
use Rattle.sc_ids.specs.declared.attempts.AttemptId.{AttemptId}
use Rattle.sc_ids.specs.declared.blocks.BlockId.{BlockId}
use Rattle.sc_ids.specs.declared.blocks.Loc.{Loc}
use Rattle.sc_ids.specs.declared.blocks.ShuffleId.{ShuffleId}
use Rattle.sc_ids.specs.declared.blocks.Target.{Target}
use Rattle.sc_ids.specs.declared.blocks.Target.TheVariants as targets
use Rattle.sc_taskset.specs.TaskSetData.{TaskSetData}
use Rattle.sc_tracker.specs.Outputs.{location_in, location_of_places}
use Rattle.sc_tracker.specs.TrackerData.{output_of}
use Rattle.sc_tracker.specs.Trust.{trust_at}
use Rattle.sc_tracker.specs.declared.outputs.Location.{Location}
use Rattle.sc_tracker.proofs.BlockLemmas.{lookups_sound}
use Rattle.sc_dag.specs.Births.{WasLost, WasThere}
use Rattle.sc_dag.specs.DagData.{DagData, stage_at}
use Rattle.sc_dag.specs.Offers.{newest_number}
use Rattle.sc_dag.specs.Outputs.{block_of}
use Rattle.sc_dag.specs.Reports.{set_of}
use Rattle.sc_dag.specs.Sound.{IsSoundDag, attempts_of}
use Rattle.sc_dag.proofs.Items.{all_unmapped}
use Rattle.sc_dag.proofs.Stuck.{newest_holds}
use Rattle.sc_dag.proofs.SoundSubmissions.{numbers_within}
use Rattle.sc_core.specs.HandOuts.{HandOutData, inputs_of, locations_by}
use Rattle.sc_core.specs.Sound.{AreOnLive, IsInput, IsLive, WasHandedOut, born_of}
use Rattle.sc_core.proofs.LookupLemmas.{set_holds, set_of_newest}
use Rattle.sc_core.proofs.OfferLemmas.{IsOffered}

-- ---- a task set began no later than now

all_born : (d : DagData) (s : ℕ) → IsSoundDag d
    → All (λ a. a.set.born ≤ d.tracker.epoch) (attempts_of d s)
all_born d s sound =
    all_unmapped (λ b. b ≤ d.tracker.epoch) (λ a. a.set.born) (attempts_of d s)
    (sound.born s).past

pub born_past : (d : DagData) (a : AttemptId) (b : ℕ) → IsSoundDag d → born_of d a ≡ Some b
    → b ≤ d.tracker.epoch
born_past d a b sound e = by (set_of d a) refl e
  where
    by : (o : Option TaskSetData) → set_of d a ≡ o → option_map (λ set. set.born) o ≡ Some b
        → b ≤ d.tracker.epoch
    by None is h = absurd (search (rules, h))
    by (Some set) is h =
        let same : set.born ≡ b = search (rules, h) in
        subst (λ n. n ≤ d.tracker.epoch) same
        (set_holds (λ s. s.born ≤ d.tracker.epoch) (slice_get d.states a.stage) a.stage_attempt
        set (all_born d a.stage sound) is)

-- ---- a hand-out

-- what holds of all locations of outputs of some stages
all_listed :
    (P : Location → Type 0) (d : DagData) (parents : List ℕ)
    → ((q p : ℕ) (shuffle : ShuffleId) → list_any (λ x. x == q) parents ≡ true
    → (stage_at d q).target ≡ targets.Map shuffle → p < (stage_at d q).tasks
    → P (location_in (output_of d.tracker (block_of shuffle p))))
    → All P (flat_map
    (λ q. locations_by d.tracker (stage_at d q).target (stage_at d q).tasks) parents)
all_listed P d [] each = All-nil P
all_listed P d (q ∷ parents) each =
    subst (λ ls. All P ls)
    (sym (flat_map-cons
    (λ r. locations_by d.tracker (stage_at d r).target (stage_at d r).tasks) q parents))
    (All-append P (locations_by d.tracker (stage_at d q).target (stage_at d q).tasks) _
    (one (stage_at d q).target refl)
    (all_listed P d parents
    (λ r p shuffle is made lt. each r p shuffle (rw is (later (q == r))) made lt)))
  where
    later : (b : Bool) → (b || true) ≡ true
    later true = refl
    later false = refl

    itself : (q == q) ≡ true
    itself = grind (arith, nat_tests)

    one : (target : Target) → (stage_at d q).target ≡ target
        → All P (locations_by d.tracker target (stage_at d q).tasks)
    one (targets.Map shuffle) is =
        All-map P (λ m. location_in (output_of d.tracker (block_of shuffle m)))
        (numbers_below (stage_at d q).tasks)
        (All-weaker (λ m. m < 0 + (stage_at d q).tasks)
        (λ m. P (location_in (output_of d.tracker (block_of shuffle m))))
        (λ m lt. each q m shuffle (rw itself refl) is (omega (arith, lt)))
        (numbers_below (stage_at d q).tasks) (numbers_within 0 (stage_at d q).tasks))
    one (targets.Result node) is = All-nil P

-- where an output lies that was there once
input_is :
    (d : DagData) (block : BlockId) (born : ℕ) → IsSoundDag d → AreOnLive d.tracker
    → WasThere d.tracker block born
    → IsInput d.tracker born d.tracker.epoch (location_in (output_of d.tracker block))
input_is d block born sound placed was =
    by (output_of d.tracker block).here refl (placed block)
    (((lookups_sound d.tracker sound.tracker).0 block).fresh) was
  where
    lost : WasLost d.tracker (output_of d.tracker block) born → born < d.tracker.epoch
    lost w =
        let below : w.mark < d.tracker.epoch =
        subst (λ m. IfSome m (λ mark. mark < d.tracker.epoch)) w.marked
        ((lookups_sound d.tracker sound.tracker).1 w.loc.exec) in
        let after = w.after_birth in omega (arith, below, after)

    by : (here : Option Loc) → (output_of d.tracker block).here ≡ here
        → IfSome here (λ loc. IsLive d.tracker loc.exec)
        → IfSome here (λ loc. (trust_at d.tracker.trust loc.exec).seen ≤ loc.generation)
        → (is_some here ≡ true) ⊎ WasLost d.tracker (output_of d.tracker block) born
        → IsInput d.tracker born d.tracker.epoch
        (location_of_places here (output_of d.tracker block).last)
    by (Some loc) e live fresh w = (live.there, inl fresh)
    by None e live fresh (inl some) = absurd (true≢false (sym some))
    by None e live fresh (inr w) = lost w

pub handed_new :
    (d : DagData) (exec now : ℕ) (h : HandOutData) → IsSoundDag d → AreOnLive d.tracker
    → IsOffered d exec now h.attempt
    → h.attempt.stage_attempt ≡ newest_number d h.attempt.stage
    → h.epoch ≡ d.tracker.epoch → h.inputs ≡ inputs_of d h.attempt.stage → WasHandedOut d h
handed_new d exec now h sound placed o number epoch inputs =
    record {
      born = o.set.born;
      is_born = ap (λ x. option_map (λ set. set.born) x)
          (set_of_newest d h.attempt number ∙ o.newest);
      begun = rw epoch begun;
      past = rw epoch (omega arith);
      inputs = rw (inputs, epoch)
          (all_listed (IsInput d.tracker o.set.born d.tracker.epoch) d (stage_at d s).parents
          (λ q p shuffle is made lt.
          input_is d (block_of shuffle p) o.set.born sound placed
          (newest_holds (λ set. WasThere d.tracker (block_of shuffle p) set.born)
          (slice_get d.states s) o.set
          (all_unmapped (WasThere d.tracker (block_of shuffle p)) (λ a. a.set.born)
          (attempts_of d s)
          (sound.inputs s p shuffle
          (record { parent = q; is_parent = is; made = made; within = lt })))
          o.newest)));
    }
  where
    s : ℕ
    s = h.attempt.stage

    begun : o.set.born ≤ d.tracker.epoch
    begun =
        newest_holds (λ set. set.born ≤ d.tracker.epoch) (slice_get d.states s) o.set
        (all_born d s sound) o.newest
