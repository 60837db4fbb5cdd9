-- What holds of a world holds on, once an attempt has read, computed or put, or a store was wiped.
use Rattle.std.proofs.Common.{◌≡◌, inl, inr, ℕ, ◌+◌, ◌<◌, ◌≤◌, ◌==◌, ◌||◌, Bool, true, false, List, Option, Some, None, IsSomeAnd, option_map, slice_get, refl, ap, sym, subst, ◌∙◌, arith, true≢false}
use Rattle.std.proofs.lemmas.Bool.Decides.{nat_tests}
use Rattle.sc_ids.specs.Changes.{change_at}
use Rattle.sc_ids.specs.declared.blocks.BlockId.{BlockId}
use Rattle.sc_ids.specs.declared.blocks.Loc.{Loc}
use Rattle.sc_ids.proofs.ChangeLemmas.{length_change_at, slice_get_change_other, slice_get_change_same}
use Rattle.sc_dag.proofs.Tests.{clash}
use Rattle.sc_core.specs.declared.running.Phase.{Phase}
use Rattle.sc_core.specs.declared.running.Phase.TheVariants as phases
use Rattle.sc_jobs.specs.JobData.{saves}
use Rattle.sc_lineage.specs.ScriptData.{WorkData}
use Rattle.sc_plan.specs.declared.orders.Order.{Order}
use Rattle.sc_cache.specs.Caches.{without_last}
use Rattle.sc_store.specs.StoreData.{StoreData, with_cache}
use Rattle.sc_store.specs.Storing.{Wipes}
use Rattle.sc_store.specs.declared.answers.WipeAnswer.{WipeAnswer}
use Rattle.sc_store.specs.declared.answers.WipeAnswer.TheVariants as wipes
use Rattle.sc_net.specs.Reports.{loc_at}
use Rattle.sc_net.specs.Tasks.{TaskData, is_map_task}
use Rattle.sc_net.specs.declared.findings.Finding.{Finding}
use Rattle.sc_net.specs.declared.findings.Finding.TheVariants as findings
use Rattle.sc_task.specs.Attempts.{AttemptData, assigned, computed, granted, reported, staged, stored, task_of}
use Rattle.sc_task.specs.Nexts.{next_of}
use Rattle.sc_task.specs.Steps.{FailsAs, PutsOwn}
use Rattle.sc_desk.specs.Dues.{wipes_due}
use Rattle.sc_task.specs.declared.next.Next.{Next}
use Rattle.sc_task.specs.declared.next.Next.TheVariants.{Fetch, Missing, Complete}
use Rattle.sc_world.specs.Places.{IsAtRest}
use Rattle.sc_world.specs.Sound.{Brings, ComesAt, IsSoundWorld}
use Rattle.sc_world.specs.Steps.{Computes, EvictsOne, HasMade, Makes, Puts, ReadsAt, ReadsNext, WipesOne, is_put_aside}
use Rattle.sc_world.specs.Ties.{StandsAt, StandsIn, generation_at, generation_in}
use Rattle.sc_world.specs.WorldData.{WorldData, core_in, held_at, with_held, with_store}
use Rattle.sc_world.specs.declared.steps.Kept.{Kept}
use Rattle.sc_world.proofs.CachingLemmas.{caches_same}
use Rattle.sc_world.proofs.HeldLemmas.{goes_on_sound, later_sound, own_changed}
use Rattle.sc_world.proofs.TieLemmas.{cached_stands, one_later, put_here, put_stands, wiped_grows, wiped_stands}

-- what an attempt is then of a task that was being read
pub record IsOn (work : WorkData) (stores : List StoreData) (exec : ℕ) (t : TaskData)
    (next : AttemptData) : Type 0 where
  pub same : task_of next ≡ t
  pub brings : Brings stores exec next
  pub rests : IsAtRest work (Some next)
  -- in a save it has come no further than it was handed out
  pub comes : saves work t.job.goal ≡ true → (phase : Phase) → phase ≡ phases.Given
      → ComesAt next phase

-- the attempt of an executor goes on that was reading
pub record GoesOn (work : WorkData) (stores : List StoreData) (exec : ℕ) (t : TaskData)
    (after : Option AttemptData) : Type 0 where
  pub next : AttemptData
  pub on : IsOn work stores exec t next
  pub is : after ≡ Some next

-- an attempt has read, or has found that a block is gone or missing
pub reads_on : (work : WorkData) (stores : List StoreData) (exec : ℕ)
    (before after : Option AttemptData) → (h : ReadsAt stores before after)
    → GoesOn work stores exec h.task after
reads_on work stores exec before after h =
    record { next = h.next; on = of (next_of h.task h.got) h.reads; is = h.is }
  where
    of : (next : Next) → ReadsNext stores h.task h.got next h.next
        → IsOn work stores exec h.task h.next
    of (Fetch block loc) (store, there, inl (le, is)) =
        subst (IsOn work stores exec h.task) (sym is)
        (record { same = refl; brings = tt; rests = tt; comes = λ s phase given. given })
    of (Fetch block loc) (store, there, inr (lt, is)) =
        subst (IsOn work stores exec h.task) (sym is)
        (record {
          same = refl;
          brings = (
            subst (λ o. store.generation ≤ generation_in o) (sym there) (omega arith),
            tt,
          );
          rests = tt;
          comes = λ s phase given. tt;
        })
    of (Missing (Some last)) is =
        subst (IsOn work stores exec h.task) (sym is)
        (record { same = refl; brings = (tt, tt); rests = tt; comes = λ s phase given. tt })
    of (Missing None) bad = absurd bad
    of Complete bad = absurd bad

-- an attempt has computed, or fails
pub computes_on : (work : WorkData) (stores : List StoreData) (exec : ℕ) (t : TaskData)
    (next : AttemptData) → Makes work t next → GoesOn work stores exec t (Some next)
computes_on work stores exec t next makes =
    record { next = next; on = by next makes; is = refl }
  where
    fails : (finding : Finding) → FailsAs work t finding
        → IsOn work stores exec t (reported t finding)
    fails findings.Planned f =
        record { same = refl; brings = (tt, tt); rests = tt; comes = λ s phase given. tt }
    fails (findings.Raised r) f =
        record { same = refl; brings = (tt, tt); rests = tt; comes = λ s phase given. tt }
    fails (findings.Map loc) f = absurd f
    fails (findings.Result given) f = absurd f
    fails (findings.Gone at wanted found) f = absurd f
    fails (findings.Metadata last) f = absurd f
    fails (findings.Device fault) f = absurd f
    fails findings.Denied f = absurd f

    -- what is put aside isn't reported at once
    kept : (b : Bool) → saves work t.job.goal ≡ true → (b || saves work t.job.goal) ≡ false → ⊥
    kept true s e = true≢false e
    kept false s e = clash s e

    made : (next : AttemptData) → HasMade work t next → IsOn work stores exec t next
    made (computed u) (same, aside) =
        record {
          same = same;
          brings = tt;
          rests = subst (λ v. is_put_aside work v ≡ true) (sym same) aside;
          comes = λ s phase given. given;
        }
    made (reported u (findings.Result given)) (same, aside, own) =
        record {
          same = same;
          brings = (tt, tt);
          rests = tt;
          comes = λ s phase given. absurd (kept (is_map_task t) s aside);
        }
    made (reported u (findings.Map loc)) bad = absurd bad
    made (reported u findings.Planned) bad = absurd bad
    made (reported u (findings.Raised r)) bad = absurd bad
    made (reported u (findings.Gone at wanted found)) bad = absurd bad
    made (reported u (findings.Metadata last)) bad = absurd bad
    made (reported u (findings.Device fault)) bad = absurd bad
    made (reported u findings.Denied) bad = absurd bad
    made (assigned u got) bad = absurd bad
    made (stored u loc) bad = absurd bad
    made (staged u) bad = absurd bad
    made (granted u) bad = absurd bad

    by : (next : AttemptData) → Makes work t next → IsOn work stores exec t next
    by next (inl (finding, f, is)) =
        subst (IsOn work stores exec t) (sym is) (fails finding f)
    by next (inr (planned, raise, has)) = made next has

pub on_sound : (work : WorkData) (w : WorldData) (exec : ℕ) (t : TaskData) (got : ℕ)
    (after : Option AttemptData) → IsSoundWorld work w → held_at w exec ≡ Some (assigned t got)
    → GoesOn work w.stores exec t after → IsSoundWorld work (with_held w exec after)
on_sound work w exec t got after sound held h =
    subst (λ o. IsSoundWorld work (with_held w exec o)) (sym h.is)
    (goes_on_sound work w exec (assigned t got) h.next sound held h.on.same h.on.brings h.on.rests
    h.on.comes)

-- a generation that is due, where one store was changed
due_changed : (stores : List StoreData) (exec : ℕ) (next : StoreData) (due : ℕ → ℕ)
    → next.generation ≤ due exec → ((e : ℕ) → generation_at stores e ≤ due e)
    → (e : ℕ) → generation_at (change_at stores exec (λ _. next)) e ≤ due e
due_changed stores exec next due le all e = by (exec == e) refl
  where
    one : (o : Option StoreData) → generation_in (option_map (λ _. next) o) ≤ due exec
    one None = omega arith
    one (Some s) = le

    by : (x : Bool) → (exec == e) ≡ x
        → generation_at (change_at stores exec (λ _. next)) e ≤ due e
    by true q =
        let is : exec ≡ e = grind (arith, nat_tests, q) in
        subst (λ (k : ℕ). generation_at (change_at stores exec (λ _. next)) k ≤ due k) is
        (rw (slice_get_change_same stores exec (λ _. next)) (one (slice_get stores exec)))
    by false q =
        rw (slice_get_change_other stores exec e (λ _. next)
        (λ is. grind (arith, nat_tests, q, is))) (all e)

-- one store was changed for one in which all stands that stood, and which is wiped no oftener than
-- is due
store_sound : (work : WorkData) (w : WorldData) (exec : ℕ) (store next : StoreData)
    → IsSoundWorld work w → slice_get w.stores exec ≡ Some store → next.exec ≡ store.exec
    → ((b : BlockId) (loc : Loc) → StandsIn store b loc → StandsIn next b loc)
    → store.generation ≤ next.generation
    → next.generation ≤ wipes_due work (core_in w).told exec
    → IsSoundWorld work (with_store w exec next)
store_sound work w exec store next sound there same stands grows due =
    later_sound work w (change_at w.stores exec (λ _. next)) sound
    (one_later w.stores (change_at w.stores exec (λ _. next)) exec store next there refl stands
    grows)
    (length_change_at w.stores exec (λ _. next))
    (own_changed w.stores exec store next there same sound.own)
    (due_changed w.stores exec next (λ e. wipes_due work (core_in w).told e) due sound.due)

-- the generation of a store is due
due_there : (work : WorkData) (w : WorldData) (exec : ℕ) (store : StoreData)
    → IsSoundWorld work w → slice_get w.stores exec ≡ Some store
    → store.generation ≤ wipes_due work (core_in w).told exec
due_there work w exec store sound there =
    subst (λ o. generation_in o ≤ wipes_due work (core_in w).told exec) there (sound.due exec)

-- a store has another cache
pub cached_sound : (work : WorkData) (w : WorldData) (exec : ℕ) (store next : StoreData)
    → IsSoundWorld work w → slice_get w.stores exec ≡ Some store
    → next ≡ with_cache store next.cache → IsSoundWorld work (with_store w exec next)
cached_sound work w exec store next sound there same =
    let at : next.generation ≡ store.generation = ap (λ (s : StoreData). s.generation) same in
    store_sound work w exec store next sound there (ap (λ (s : StoreData). s.exec) same)
    (cached_stands store next same)
    (subst (λ (n : ℕ). store.generation ≤ n) (sym at) (omega arith))
    (subst (λ (n : ℕ). n ≤ wipes_due work (core_in w).told exec) (sym at)
    (due_there work w exec store sound there))

-- an attempt has computed
pub computes_sound : (work : WorkData) (w : WorldData) (exec : ℕ) (kept : Kept)
    (after : WorldData) → IsSoundWorld work w → Computes work w exec kept after
    → IsSoundWorld work after
computes_sound work w exec kept after sound h =
    subst (IsSoundWorld work) (sym h.is)
    (on_sound work (with_store w exec h.cached) exec h.task h.got (Some h.next)
    (cached_sound work w exec h.store h.cached sound h.own
    (caches_same work h.task kept h.store h.cached h.caches).rest) h.held
    (computes_on work (with_store w exec h.cached).stores exec h.task h.next h.makes))

-- a block was put
pub puts_sound : (work : WorkData) (w : WorldData) (exec : ℕ) (loc : Loc) (after : WorldData)
    → IsSoundWorld work w → Puts work w exec loc after → IsSoundWorld work after
puts_sound work w exec loc after sound h = by h.puts
  where
    store : StoreData
    store = h.store

    next : StoreData
    next = h.next

    by : PutsOwn work h.task h.store h.next → IsSoundWorld work after
    by (block, named, own, puts) =
        subst (IsSoundWorld work) (sym h.is)
        (goes_on_sound work (with_store w exec next) exec (computed h.task)
        (reported h.task (findings.Map loc)) mid h.held refl (
          record { block = block.id; own = named; there = stands },
          ap (λ (l : Loc). l.exec) h.loc_is,
        ) tt (λ s phase given. tt))
      where
        same : h.next.generation ≡ h.store.generation
        same = ap (λ (s : StoreData). s.generation) puts.rest

        mid : IsSoundWorld work (with_store w exec h.next)
        mid =
            store_sound work w exec store next sound h.own
            (ap (λ (s : StoreData). s.exec) puts.rest) (put_stands store next block puts)
            (subst (λ (n : ℕ). h.store.generation ≤ n) (sym same) (omega arith))
            (subst (λ (n : ℕ). n ≤ wipes_due work (core_in w).told exec) (sym same)
            (due_there work w exec h.store sound h.own))

        at_exec : StandsAt (change_at w.stores exec (λ _. h.next)) block.id
            (loc_at exec h.store.generation)
        at_exec =
            subst (λ o. IsSomeAnd o (λ s. StandsIn s block.id (loc_at exec h.store.generation)))
            (sym (slice_get_change_same w.stores exec (λ _. next)
            ∙ ap (λ o. option_map (λ _. next) o) h.own))
            (put_here store next block (loc_at exec h.store.generation) puts refl)

        stands : StandsAt (change_at w.stores exec (λ _. h.next)) block.id loc
        stands =
            subst (λ (l : Loc). StandsAt (change_at w.stores exec (λ _. h.next)) block.id l)
            (sym h.loc_is) at_exec

-- a store was wiped
pub wipes_sound : (work : WorkData) (w : WorldData) (order : Order) (answer : WipeAnswer)
    (after : WorldData) → IsSoundWorld work w → WipesOne work w order answer after
    → IsSoundWorld work after
wipes_sound work w order answer after sound h =
    subst (IsSoundWorld work) (sym h.is)
    (store_sound work w order.exec h.store h.next sound h.own (same answer h.wipes)
    (wiped_stands h.store h.next order.number answer h.wipes)
    (wiped_grows h.store h.next order.number answer h.wipes)
    (due answer h.wipes))
  where
    same : (answer : WipeAnswer) → Wipes h.store order.number answer h.next
        → h.next.exec ≡ h.store.exec
    same (wipes.Wiped generation) (lt, is, empty) = ap (λ (s : StoreData). s.exec) empty
    same (wipes.Stale generation) (ge, is, stays) = ap (λ (s : StoreData). s.exec) stays

    numbered : order.number ≤ wipes_due work (core_in w).told order.exec
    numbered =
        let lt : order.number < wipes_due work (core_in w).told order.exec + 1 = h.due.0 in
        omega (arith, lt)

    due : (answer : WipeAnswer) → Wipes h.store order.number answer h.next
        → h.next.generation ≤ wipes_due work (core_in w).told order.exec
    due (wipes.Wiped generation) (lt, is, empty) =
        subst (λ (s : StoreData). s.generation ≤ wipes_due work (core_in w).told order.exec)
        (sym empty) numbered
    due (wipes.Stale generation) (ge, is, stays) =
        subst (λ (s : StoreData). s.generation ≤ wipes_due work (core_in w).told order.exec)
        (sym stays) (due_there work w order.exec h.store sound h.own)

-- a store has let a cached block go
pub evicts_sound : (work : WorkData) (w : WorldData) (exec : ℕ) (after : WorldData)
    → IsSoundWorld work w → EvictsOne w exec after → IsSoundWorld work after
evicts_sound work w exec after sound h =
    subst (IsSoundWorld work) (sym h.is)
    (cached_sound work w exec h.store (with_cache h.store (without_last h.store.cache)) sound h.own
    refl)
