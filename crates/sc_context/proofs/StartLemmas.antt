-- What a run begins with.
use Rattle.std.proofs.Common.{◌≡◌, ◌∙◌, ℕ, zero, suc, ◌+◌, ◌≤◌, List, [], ◌∷◌, Option, Some, None, IfSome, length, map, replicate, slice_get, refl, ap, sym, subst, arith}
use Rattle.std.proofs.lemmas.List.{length-map, length-replicate}
use Rattle.sc_base.specs.Lists.{numbers_below, numbers_from}
use Rattle.sc_base.specs.Outside.{FilesState}
use Rattle.sc_cache.specs.Caches.{cache_data}
use Rattle.sc_lineage.specs.ScriptData.{WorkData}
use Rattle.sc_lineage.proofs.PlaceLemmas.{length-numbers_below}
use Rattle.sc_plan.specs.Orders.{due_count, nth_order, wipes_of}
use Rattle.sc_plan.specs.declared.lines.PlanLine.{PlanLine}
use Rattle.sc_plan.specs.declared.orders.Order.{Order}
use Rattle.sc_stagecut.specs.Carrying.{CarriedData}
use Rattle.sc_tracker.specs.TrackerData.{TrackerData, trust_of}
use Rattle.sc_tracker.specs.Trust.{trust_at, untold}
use Rattle.sc_tracker.specs.declared.trust.Trust.{Trust}
use Rattle.sc_store.specs.StoreData.{StoreData, store_data}
use Rattle.sc_store.specs.Storing.{Wipes, emptied}
use Rattle.sc_store.specs.declared.answers.WipeAnswer.{WipeAnswer}
use Rattle.sc_store.specs.declared.answers.WipeAnswer.TheVariants as answers
use Rattle.sc_desk.specs.DeskData.{DeskData, PassedData, core_of}
use Rattle.sc_desk.specs.Dues.{wipes_due}
use Rattle.sc_desk.specs.Sound.{IsSoundDesk}
use Rattle.sc_desk.proofs.OrderLemmas.{due_room}
use Rattle.sc_world.proofs.CodeOrders.{IsWipeOf, wipe_of}
use Rattle.sc_world.specs.Runs.{AreReady}
use Rattle.sc_world.specs.Ties.{StandsAt, generation_at, generation_in}
use Rattle.sc_context.specs.Contexts.{IsContext, IsReady, context_data}
use Rattle.sc_context.specs.Progress.{first_progress, progress}
use Rattle.sc_context.specs.Starts.{IsUnregistered, empty_store, new_store, new_stores, seen_store, seen_stores}
use Rattle.sc_context.proofs.ReadyLemmas.{AreReadyBehind}

-- the store of each executor, as it is made, stands at its number
module _ (make : ℕ → StoreData) (P : ℕ → StoreData → Type 0)
    (each : (exec : ℕ) → P exec (make exec)) where
  made_from : (first count exec : ℕ)
      → IfSome (slice_get (map make (numbers_from first count)) exec) (P (first + exec))
  made_from first zero exec = tt
  made_from first (suc count) zero =
      let e : first ≡ first + 0 = omega arith in subst (λ n. P n (make first)) e (each first)
  made_from first (suc count) (suc exec) =
      let e : suc first + exec ≡ first + suc exec = omega arith in
      subst (λ n. IfSome (slice_get (map make (numbers_from (suc first) count)) exec) (P n)) e
      (made_from (suc first) count exec)

  made_at : (count exec : ℕ)
      → IfSome (slice_get (map make (numbers_below count)) exec) (P exec)
  made_at count exec =
      let e : 0 + exec ≡ exec = omega arith in
      subst (λ n. IfSome (slice_get (map make (numbers_below count)) exec) (P n)) e
      (made_from 0 count exec)

-- a store that may be there is at a generation of at most so many
within : (n : ℕ) (o : Option StoreData) → IfSome o (λ s. s.generation ≤ n) → generation_in o ≤ n
within n None h = omega arith
within n (Some s) h = h

-- as many stores as executors, each with the number of its own
pub many_made : (work : WorkData) (make : ℕ → StoreData)
    → length (map make (numbers_below work.limits.executors)) ≡ work.limits.executors
many_made work make =
    length-map (numbers_below work.limits.executors) make
    ∙ length-numbers_below work.limits.executors

unseen : (n exec : ℕ) → (trust_at (replicate n untold) exec).seen ≡ 0
unseen zero exec = refl
unseen (suc n) zero = refl
unseen (suc n) (suc exec) = unseen n exec

-- and they are ready for the first job
pub fresh_ready : (work : WorkData) → AreReadyBehind work (new_stores work) None
fresh_ready work =
    record {
      many = many_made work (new_store work);
      own = λ exec. made_at (new_store work) (λ n s. s.exec ≡ n) (λ n. refl)
          work.limits.executors exec;
      tied = record {
        last = λ b. tt;
        seen = λ exec.
            let e = unseen work.limits.executors exec in
            subst (λ n. n ≤ generation_at (new_stores work) exec) (sym e) (omega arith);
      };
      due = λ exec. within (wipes_due work 0 exec) (slice_get (new_stores work) exec)
          (made_at (new_store work) (λ n s. s.generation ≤ wipes_due work 0 n) (λ n. omega arith)
          work.limits.executors exec);
    }

-- the first context
pub first_progress_is : (work : WorkData) (passed : PassedData)
    → passed.carried ≡ (first_progress work).carried
    → progress 0 passed.carried None ≡ first_progress work
first_progress_is work passed is = ap (λ c. progress 0 c None) is

pub first_context : (work : WorkData) (passed : PassedData) (files : FilesState)
    → passed.carried ≡ (first_progress work).carried → IsReady work passed None
    → IsContext work passed (context_data 0 passed.carried [] [] files)
first_context work passed files is ready =
    record {
      come = (first_progress_is work passed is, refl);
      within = omega arith;
      ready = ready;
      places = ap (λ (c : CarriedData). length c.bounds) is
          ∙ length-replicate (length work.script.nodes) None;
    }

-- ---- stores at the generations that were seen

-- a generation that was seen is that of the store made so, or none
seen_from : (make : ℕ → StoreData) (trust : List Trust) (first : ℕ)
    → ((i : ℕ) → (make (first + i)).generation ≡ (trust_at trust i).seen) → (exec : ℕ)
    → (trust_at trust exec).seen
    ≤ generation_at (map make (numbers_from first (length trust))) exec
seen_from make [] first is exec = omega arith
seen_from make (x ∷ xs) first is zero =
    let e : first + 0 ≡ first = omega arith in
    let here = subst (λ n. (make n).generation ≡ x.seen) e (is 0) in
    omega (arith, here)
seen_from make (x ∷ xs) first is (suc exec) =
    seen_from make xs (suc first)
    (λ i.
    let e : first + suc i ≡ suc first + i = omega arith in
    subst (λ n. (make n).generation ≡ (trust_at xs i).seen) e (is (suc i)))
    exec

-- each was brought by a wipe of the plan
pub seen_planned : (work : WorkData) (d : DeskData) (exec seen : ℕ)
    → seen ≡ (trust_of (core_of d).dag.tracker exec).seen → IsSoundDesk work d
    → seen ≤ length (wipes_of work.plan exec)
seen_planned work d exec seen is sound =
    let due : (trust_of (core_of d).dag.tracker exec).seen
    ≤ due_count (wipes_of work.plan exec) (core_of d).told = sound.seen exec in
    let room = due_room (wipes_of work.plan exec) (core_of d).told in
    omega (arith, is, due, room)

-- they are ready for the job of a desk that knows of no place
pub seen_ready : (work : WorkData) (d : DeskData) → IsUnregistered d → IsSoundDesk work d
    → AreReady work (seen_stores work (core_of d).dag.tracker) (core_of d).dag.tracker
    (core_of d).told
seen_ready work d none sound =
    record {
      many = many_made work make;
      own = λ exec. made_at make (λ n s. s.exec ≡ n) (λ n. refl) work.limits.executors exec;
      tied = record {
        last = λ b. subst (λ o. IfSome o (StandsAt (seen_stores work t) b)) (sym (none b)) tt;
        seen = λ exec. subst
            (λ n. (trust_of t exec).seen ≤ generation_at (map make (numbers_below n)) exec)
            sound.execs (seen_from make t.trust 0 from_none exec);
      };
      due = λ exec. within (wipes_due work (core_of d).told exec)
          (slice_get (seen_stores work t) exec)
          (made_at make (λ n s. s.generation ≤ wipes_due work (core_of d).told n) sound.seen
          work.limits.executors exec);
    }
  where
    t : TrackerData
    t = (core_of d).dag.tracker

    make : ℕ → StoreData
    make = seen_store work t

    from_none : (i : ℕ) → (make (0 + i)).generation ≡ (trust_at t.trust i).seen
    from_none i = let e : 0 + i ≡ i = omega arith in ap (λ n. (make n).generation) e

-- a store as it is made, whose cache takes so many blocks
pub made_store : (work : WorkData) (exec cache : ℕ) (s : StoreData)
    → cache ≡ work.limits.cache → s ≡ store_data exec 0 [] (cache_data [] cache)
    → s ≡ new_store work exec
made_store work exec cache s is made =
    made ∙ ap (λ n. store_data exec 0 [] (cache_data [] n)) is

-- a wipe brings a store that wasn't wiped to the generation of its number
wiped_to : (before : StoreData) (number : ℕ) (answer : WipeAnswer) (after : StoreData)
    → before.generation ≡ 0 → 1 ≤ number → Wipes before number answer after
    → after ≡ emptied before number
wiped_to before number (answers.Wiped generation) after new some (below, told, is) = is
wiped_to before number (answers.Stale generation) after new some (above, told, is) =
    absurd (omega (arith, new, some, above))

-- so does the one of a plan that has that number
pub wiped_store : (work : WorkData) (plan : List PlanLine) (exec number : ℕ) (order : Order)
    (before : StoreData) (answer : WipeAnswer) (after : StoreData)
    → before ≡ new_store work exec → nth_order exec number (wipes_of plan exec) ≡ Some order
    → 1 ≤ number → Wipes before order.number answer after
    → after ≡ empty_store work exec number
wiped_store work plan exec number order before answer after new is some wipes =
    let n : IsWipeOf exec number order = wipe_of plan exec number order is in
    wiped_to before order.number answer after (ap (λ (s : StoreData). s.generation) new)
    (subst (λ i. 1 ≤ i) (sym n.number_is) some) wipes
    ∙ ap (λ (s : StoreData). emptied s order.number) new
    ∙ ap (empty_store work exec) n.number_is
