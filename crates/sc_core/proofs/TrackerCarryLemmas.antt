-- What changes of the tracker leave of what was handed out.
use Rattle.std.proofs.Common.{◌≡◌, ◌⊎◌, inl, inr, ℕ, zero, suc, ◌<◌, ◌≤◌, ◌==◌, Bool, true, false, not, if◌then◌else◌, List, [], ◌∷◌, length, Option, Some, None, IfSome, nat_le, slice_get, refl, ap, sym, subst, ◌∙◌, arith, true≢false}
use Rattle.std.proofs.lemmas.Bool.Decides.{nat_tests}
use Rattle.std.proofs.lemmas.Option.{slice_get_within}
use Rattle.sc_base.specs.Lists.{at_or}
use Rattle.sc_ids.specs.Changes.{change_at}
use Rattle.sc_ids.specs.declared.attempts.AttemptId.{AttemptId}
use Rattle.sc_ids.specs.declared.blocks.BlockId.{BlockId}
use Rattle.sc_ids.specs.declared.blocks.Loc.{Loc}
use Rattle.sc_ids.proofs.ChangeLemmas.{at_or_change_other, at_or_change_same, length_change_at}
use Rattle.sc_tracker.specs.Outputs.{forgotten, forgotten_on, is_on}
use Rattle.sc_tracker.specs.TrackerData.{TrackerData, output_of, trust_of}
use Rattle.sc_tracker.specs.TrackerLaws.{HasRoomFor}
use Rattle.sc_tracker.specs.Tracking.{after_executor_lost, after_gone, registered}
use Rattle.sc_tracker.specs.Trust.{is_live, is_marked, is_newer, lost_at, seen_at, untold}
use Rattle.sc_tracker.specs.declared.outputs.Location.{Location}
use Rattle.sc_tracker.specs.declared.outputs.Location.TheVariants.{Here, Missing}
use Rattle.sc_tracker.specs.declared.trust.Trust.{Trust}
use Rattle.sc_tracker.proofs.BlockLemmas.{forgets_on_one, registers_one}
use Rattle.sc_dag.specs.DagData.{DagData, with_tracker}
use Rattle.sc_dag.proofs.Trackers.{which_block}
use Rattle.sc_core.specs.Sound.{AreOnLive, IsInput, IsLive, born_of}
use Rattle.sc_core.proofs.CarryLemmas.{Carries, carries_same}

-- an executor is as live where nothing else is known of executors
pub live_as : (t u : TrackerData) (exec : ℕ) → u.trust ≡ t.trust → IsLive t exec → IsLive u exec
live_as t u exec same is = record { there = rw same is.there; live = rw same is.live }

-- an output registered on an executor that is live
pub registered_placed :
    (t : TrackerData) (block : BlockId) (loc : Loc) → HasRoomFor t block
    → IsLive t loc.exec → AreOnLive t → AreOnLive (registered t block loc)
registered_placed t block loc room live all other = by (which_block other block)
  where
    kept : (here : Option Loc) → IfSome here (λ x. IsLive t x.exec)
        → IfSome here (λ x. IsLive (registered t block loc) x.exec)
    kept None h = h
    kept (Some x) h = live_as t (registered t block loc) x.exec refl h

    by : (other ≡ block) ⊎ (other ≡ block → ⊥)
        → IfSome (output_of (registered t block loc) other).here
        (λ x. IsLive (registered t block loc) x.exec)
    by (inl e) =
        subst (λ b. IfSome (output_of (registered t block loc) b).here
        (λ x. IsLive (registered t block loc) x.exec)) (sym e)
        (rw ((registers_one t block loc).0 room)
        (live_as t (registered t block loc) loc.exec refl live))
    by (inr ne) =
        rw ((registers_one t block loc).1 other ne) (kept (output_of t other).here (all other))

pub registered_carries :
    (d : DagData) (block : BlockId) (loc : Loc) → HasRoomFor d.tracker block
    → IsLive d.tracker loc.exec
    → Carries d (with_tracker d (registered d.tracker block loc))
registered_carries d block loc room live =
    record {
      many = refl;
      epoch = omega arith;
      born = λ a b e. e;
      inputs = λ born epoch l le is. by born epoch l is;
      placed = registered_placed d.tracker block loc room live;
    }
  where
    by : (born epoch : ℕ) (l : Location) → IsInput d.tracker born epoch l
        → IsInput (registered d.tracker block loc) born epoch l
    by born epoch (Here at) is = is
    by born epoch (Missing last) is = is

-- an event on an executor
record IsEvent (t u : TrackerData) (exec : ℕ) : Type 0 where
  many : length u.trust ≡ length t.trust
  epoch : t.epoch ≤ u.epoch
  others : (e : ℕ) → (e == exec) ≡ false → trust_of u e ≡ trust_of t e
  marked : (trust_of u exec).mark ≡ Some t.epoch
  outputs : (block : BlockId) → output_of u block ≡ forgotten_on exec (output_of t block)

event_inputs :
    (t u : TrackerData) (exec : ℕ) → IsEvent t u exec → (born epoch : ℕ) (l : Location)
    → epoch ≤ t.epoch → IsInput t born epoch l → IsInput u born epoch l
event_inputs t u exec event born epoch (Missing last) le is = is
event_inputs t u exec event born epoch (Here loc) le (lt, known) =
    (subst (λ n. loc.exec < n) (sym event.many) lt, by (loc.exec == exec) refl)
  where
    by : (x : Bool) → (loc.exec == exec) ≡ x
        → ((trust_of u loc.exec).seen ≤ loc.generation)
        ⊎ (is_marked (trust_of u loc.exec).mark epoch ≡ true)
    by true e =
        let is : loc.exec ≡ exec = grind (arith, nat_tests, e) in
        let below : nat_le epoch t.epoch ≡ true = grind (arith, nat_tests, le) in
        inr (ap (λ (n : ℕ). is_marked (trust_of u n).mark epoch) is
        ∙ ap (λ m. is_marked m epoch) event.marked ∙ below)
    by false e = rw (event.others loc.exec e) known

event_placed :
    (t u : TrackerData) (exec : ℕ) → IsEvent t u exec → AreOnLive t → AreOnLive u
event_placed t u exec event all block =
    rw (event.outputs block) (by (output_of t block).here refl (all block))
  where
    away : (loc : Loc) → (loc.exec == exec) ≡ false → IsLive t loc.exec → IsLive u loc.exec
    away loc other is =
        record {
          there = subst (λ n. loc.exec < n) (sym event.many) is.there;
          live = ap (λ x. x.lost) (event.others loc.exec other) ∙ is.live;
        }

    on : (loc : Loc) (x : Bool) → (loc.exec == exec) ≡ x → (output_of t block).here ≡ Some loc
        → IsLive t loc.exec
        → IfSome (if x then forgotten (output_of t block) else output_of t block).here
        (λ at. IsLive u at.exec)
    on loc true e here is = tt
    on loc false e here is = rw here (away loc e is)

    by : (here : Option Loc) → (output_of t block).here ≡ here
        → IfSome here (λ loc. IsLive t loc.exec)
        → IfSome (if is_on exec here then forgotten (output_of t block)
        else output_of t block).here (λ loc. IsLive u loc.exec)
    by None e h = rw e tt
    by (Some loc) e h = on loc (loc.exec == exec) refl e h

-- what was heard of an executor changed
trust_event :
    (t u : TrackerData) (exec : ℕ) (f : Trust → Trust) → exec < length t.trust
    → ((x : Trust) → (f x).mark ≡ Some t.epoch) → u.trust ≡ change_at t.trust exec f
    → t.epoch ≤ u.epoch
    → ((block : BlockId) → output_of u block ≡ forgotten_on exec (output_of t block))
    → IsEvent t u exec
trust_event t u exec f lt marks trust epoch outputs =
    record {
      many = ap length trust ∙ length_change_at t.trust exec f;
      epoch = epoch;
      others = λ e other. ap (λ ts. at_or ts e untold) trust
          ∙ at_or_change_other t.trust exec e untold f
          (λ is. grind (arith, nat_tests, other, is));
      marked = ap (λ ts. (at_or ts exec untold).mark) trust
          ∙ ap (λ x. x.mark) (at_or_change_same t.trust exec untold f lt)
          ∙ marks (at_or t.trust exec untold);
      outputs = outputs;
    }

event_carries :
    (d after : DagData) (exec : ℕ) → IsEvent d.tracker after.tracker exec
    → ((a : AttemptId) (b : ℕ) → born_of d a ≡ Some b → born_of after a ≡ Some b)
    → Carries d after
event_carries d after exec event born =
    record {
      many = event.many;
      epoch = event.epoch;
      born = born;
      inputs = event_inputs d.tracker after.tracker exec event;
      placed = event_placed d.tracker after.tracker exec event;
    }

-- an executor that isn't lost is there
pub live_there :
    (trust : List Trust) (exec : ℕ) → is_live (slice_get trust exec) ≡ true
    → (exec < length trust) × ((at_or trust exec untold).lost ≡ false)
live_there trust exec live = (by (slice_get trust exec) refl live, lost trust exec live)
  where
    by : (o : Option Trust) → slice_get trust exec ≡ o → is_live o ≡ true → exec < length trust
    by None e h = absurd (true≢false (sym h))
    by (Some x) e h = slice_get_within trust exec x e

    lost : (trust : List Trust) (e : ℕ) → is_live (slice_get trust e) ≡ true
        → (at_or trust e untold).lost ≡ false
    lost [] e h = absurd (true≢false (sym h))
    lost (t ∷ ts) zero h = flip t.lost h
      where
        flip : (b : Bool) → not b ≡ true → b ≡ false
        flip true f = absurd (true≢false (sym f))
        flip false f = refl
    lost (t ∷ ts) (suc e) h = lost ts e h

-- a newer generation is seen
pub seen_carries :
    (d : DagData) (exec found : ℕ) → Carries d (with_tracker d (after_gone d.tracker exec found))
seen_carries d exec found = by (is_newer (slice_get d.tracker.trust exec) found) refl
  where
    there : (o : Option Trust) → slice_get d.tracker.trust exec ≡ o → is_newer o found ≡ true
        → exec < length d.tracker.trust
    there None e h = absurd (true≢false (sym h))
    there (Some x) e h = slice_get_within d.tracker.trust exec x e

    by : (x : Bool) → is_newer (slice_get d.tracker.trust exec) found ≡ x
        → Carries d (with_tracker d (after_gone d.tracker exec found))
    by true e =
        event_carries d (with_tracker d (after_gone d.tracker exec found)) exec
        (trust_event d.tracker (after_gone d.tracker exec found) exec
        (seen_at found d.tracker.epoch) (there (slice_get d.tracker.trust exec) refl e)
        (λ x. refl) (rw e refl) (rw e (omega arith))
        (λ block. (forgets_on_one d.tracker exec block).0 found e))
        (λ a b h. h)
    by false e = rw e (carries_same d)

-- an executor is lost
pub lost_event :
    (d after : DagData) (exec : ℕ) → after.tracker ≡ after_executor_lost d.tracker exec
    → is_live (slice_get d.tracker.trust exec) ≡ true
    → ((a : AttemptId) (b : ℕ) → born_of d a ≡ Some b → born_of after a ≡ Some b)
    → Carries d after
lost_event d after exec is live born =
    event_carries d after exec
    (subst (λ u. IsEvent d.tracker u exec) (sym is)
    (trust_event d.tracker (after_executor_lost d.tracker exec) exec (lost_at d.tracker.epoch)
    (live_there d.tracker.trust exec live).0 (λ x. refl) (rw live refl) (rw live (omega arith))
    (λ block. (forgets_on_one d.tracker exec block).1 live)))
    born
