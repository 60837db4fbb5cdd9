-- What holds of a world holds on, where stores grow or an attempt goes on.
use Rattle.std.proofs.Common.{◌≡◌, ℕ, zero, suc, ◌≤◌, ◌==◌, Bool, true, false, List, [], ◌∷◌, Option, Some, None, IfSome, length, slice_get, refl, ap, sym, subst, ◌∙◌, arith, rules}
use Rattle.std.specs.List.{AllZip}
use Rattle.std.proofs.lemmas.Bool.Decides.{nat_tests}
use Rattle.std.proofs.lemmas.List.Elements.{All-weaker}
use Rattle.sc_base.specs.Lists.{at_or}
use Rattle.sc_ids.specs.Changes.{change_at}
use Rattle.sc_ids.specs.declared.blocks.BlockId.{BlockId}
use Rattle.sc_ids.specs.declared.blocks.Loc.{Loc}
use Rattle.sc_ids.proofs.ChangeLemmas.{at_or_change_other, length_change_at, slice_get_change_other, slice_get_change_same}
use Rattle.sc_tracker.specs.declared.outputs.Location.{Location}
use Rattle.sc_tracker.specs.declared.outputs.Location.TheVariants as locations
use Rattle.sc_lineage.specs.ScriptData.{WorkData}
use Rattle.sc_core.specs.CoreData.{running_of}
use Rattle.sc_core.specs.Sound.{was_given}
use Rattle.sc_core.specs.declared.running.Phase.{Phase}
use Rattle.sc_core.specs.declared.running.Running.{Running}
use Rattle.sc_jobs.specs.JobData.{saves}
use Rattle.sc_store.specs.StoreData.{StoreData}
use Rattle.sc_net.specs.Tasks.{TaskData, blocks_of_task}
use Rattle.sc_net.specs.declared.findings.Finding.{Finding}
use Rattle.sc_net.specs.declared.findings.Finding.TheVariants as findings
use Rattle.sc_task.specs.Attempts.{AttemptData, assigned, computed, granted, reported, staged, stored, task_of}
use Rattle.sc_desk.specs.Dues.{wipes_due}
use Rattle.sc_world.specs.Places.{IsAtRest}
use Rattle.sc_world.specs.Sound.{Brings, ComesAt, HasPut, InputStands, IsOut, IsRight, IsSoundWorld, IsThatOf, RunsThere, Says}
use Rattle.sc_world.specs.Ties.{AreLater, generation_at}
use Rattle.sc_world.specs.WorldData.{WorldData, core_in, held_at, with_held, world_data}
use Rattle.sc_world.proofs.TieLemmas.{later_tied}

-- ---- stores that grow

pub zip_weaker : {A B : Type 0} (R S : A → B → Type 0) → ((a : A) (b : B) → R a b → S a b)
    → (xs : List A) (ys : List B) → AllZip R xs ys → AllZip S xs ys
zip_weaker R S f [] [] all = tt
zip_weaker R S f [] (y ∷ ys) all = absurd all
zip_weaker R S f (x ∷ xs) [] all = absurd all
zip_weaker R S f (x ∷ xs) (y ∷ ys) (r, rest) = (f x y r, zip_weaker R S f xs ys rest)

input_later : (before after : List StoreData) → AreLater before after → (b : BlockId)
    (l : Location) → InputStands before b l → InputStands after b l
input_later before after later b (locations.Here loc) h = later.stands b loc h
input_later before after later b (locations.Missing None) h = absurd h
input_later before after later b (locations.Missing (Some loc)) h = later.stands b loc h

put_later : (before after : List StoreData) → AreLater before after → (t : TaskData) (loc : Loc)
    → HasPut before t loc → HasPut after t loc
put_later before after later t loc h =
    record { block = h.block; own = h.own; there = later.stands h.block loc h.there }

pub says_later : (before after : List StoreData) → AreLater before after → (t : TaskData)
    (finding : Finding) → Says before t finding → Says after t finding
says_later before after later t (findings.Map loc) h = put_later before after later t loc h
says_later before after later t (findings.Result given) h = h
says_later before after later t findings.Planned h = h
says_later before after later t (findings.Raised r) h = h
says_later before after later t (findings.Gone on wanted found) h =
    let up : generation_at before on ≤ generation_at after on = later.reached on in
    let le : found ≤ generation_at before on = h in
    omega (arith, up, le)
says_later before after later t (findings.Metadata last) h = h
says_later before after later t (findings.Device fault) h = h
says_later before after later t findings.Denied h = h

brings_later : (before after : List StoreData) → AreLater before after → (exec : ℕ)
    (a : AttemptData) → Brings before exec a → Brings after exec a
brings_later before after later exec (assigned t got) h = h
brings_later before after later exec (computed t) h = h
brings_later before after later exec (stored t loc) (put, here) =
    (put_later before after later t loc put, here)
brings_later before after later exec (staged t) h = h
brings_later before after later exec (granted t) h = h
brings_later before after later exec (reported t finding) (says, from) =
    (says_later before after later t finding says, from)

pub right_later : (before after : List StoreData) → AreLater before after → (exec : ℕ)
    (a : AttemptData) → IsRight before exec a → IsRight after exec a
right_later before after later exec a h =
    record {
      inputs = zip_weaker (InputStands before) (InputStands after)
          (input_later before after later) (blocks_of_task (task_of a))
          (task_of a).hand_out.inputs h.inputs;
      brings = brings_later before after later exec a h.brings;
    }

pub later_sound : (work : WorkData) (w : WorldData) (stores : List StoreData)
    → IsSoundWorld work w → AreLater w.stores stores → length stores ≡ length w.stores
    → ((exec : ℕ) → IfSome (slice_get stores exec) (λ s. s.exec ≡ exec))
    → ((exec : ℕ) → generation_at stores exec ≤ wipes_due work (core_in w).told exec)
    → IsSoundWorld work (world_data w.desk stores w.held)
later_sound work w stores sound later same own due =
    record {
      stores = same ∙ sound.stores;
      places = sound.places;
      own = own;
      tied = later_tied w.stores stores later (core_in w).dag.tracker sound.tied;
      due = due;
      of_job = sound.of_job;
      given = sound.given;
      right = λ exec. by exec (held_at w exec) (sound.right exec);
      shelved = All-weaker (λ s. Says w.stores s.report.task s.report.finding)
          (λ s. Says stores s.report.task s.report.finding)
          (λ s h. says_later w.stores stores later s.report.task s.report.finding h)
          w.desk.shelf sound.shelved;
      rests = sound.rests;
      runs = sound.runs;
      out = λ job r there is.
          let o : IsOut w r = sound.out job r there is in
          record { attempt = o.attempt; held = o.held; same = o.same };
      saving = sound.saving;
      stays = sound.stays;
    }
  where
    by : (exec : ℕ) (o : Option AttemptData) → IfSome o (IsRight w.stores exec)
        → IfSome o (IsRight stores exec)
    by exec None h = tt
    by exec (Some a) h = right_later w.stores stores later exec a h

-- the stores stay in order where one is changed for one of the same executor
pub own_changed : (stores : List StoreData) (exec : ℕ) (s s' : StoreData)
    → slice_get stores exec ≡ Some s → s'.exec ≡ s.exec
    → ((e : ℕ) → IfSome (slice_get stores e) (λ s. s.exec ≡ e))
    → (e : ℕ) → IfSome (slice_get (change_at stores exec (λ _. s')) e) (λ s. s.exec ≡ e)
own_changed stores exec s s' there same own e = by (exec == e) refl
  where
    was : s.exec ≡ exec
    was = subst (λ o. IfSome o (λ s. s.exec ≡ exec)) there (own exec)

    by : (x : Bool) → (exec == e) ≡ x
        → IfSome (slice_get (change_at stores exec (λ _. s')) e) (λ s. s.exec ≡ e)
    by true q =
        let is : exec ≡ e = grind (arith, nat_tests, q) in
        subst
        (λ (k : ℕ). IfSome (slice_get (change_at stores exec (λ _. s')) k) (λ s. s.exec ≡ k)) is
        (rw (slice_get_change_same stores exec (λ _. s'), there) (same ∙ was))
    by false q =
        rw (slice_get_change_other stores exec e (λ _. s')
        (λ is. grind (arith, nat_tests, q, is))) (own e)

-- ---- attempts

pub held_here : {A : Type 0} (xs : List (Option A)) (i : ℕ) (a : A) (o : Option A)
    → at_or xs i None ≡ Some a → at_or (change_at xs i (λ _. o)) i None ≡ o
held_here [] i a o e = absurd (search (rules, e))
held_here (x ∷ xs) zero a o e = refl
held_here (x ∷ xs) (suc i) a o e = held_here xs i a o e

pub held_other : {A : Type 0} (xs : List (Option A)) (i j : ℕ) (o : Option A)
    → (i == j) ≡ false → at_or (change_at xs i (λ _. o)) j None ≡ at_or xs j None
held_other xs i j o e =
    at_or_change_other xs i j None (λ _. o) (λ is. grind (arith, nat_tests, e, is))

-- what holds of each place holds where one is filled with what it holds of too
pub held_each : {A : Type 0} (P : ℕ → A → Type 0) (xs : List (Option A)) (i : ℕ) (o : Option A)
    → IfSome o (P i) → ((j : ℕ) → IfSome (at_or xs j None) (P j))
    → (j : ℕ) → IfSome (at_or (change_at xs i (λ _. o)) j None) (P j)
held_each P [] i o new all j = all j
held_each P (x ∷ xs) zero o new all zero = new
held_each P (x ∷ xs) zero o new all (suc j) = all (suc j)
held_each P (x ∷ xs) (suc i) o new all zero = all zero
held_each P (x ∷ xs) (suc i) o new all (suc j) =
    held_each (λ k a. P (suc k) a) xs i o new (λ k. all (suc k)) j

-- The attempt of an executor goes on. In a save it hasn't come further than the core knows.
pub goes_on_sound : (work : WorkData) (w : WorldData) (exec : ℕ) (a next : AttemptData)
    → IsSoundWorld work w → held_at w exec ≡ Some a → task_of next ≡ task_of a
    → Brings w.stores exec next → IsAtRest work (Some next)
    → (saves work (task_of a).job.goal ≡ true → (phase : Phase) → ComesAt a phase
    → ComesAt next phase)
    → IsSoundWorld work (with_held w exec (Some next))
goes_on_sound work w exec a next sound there same brings rests comes =
    record {
      stores = sound.stores;
      places = length_change_at w.held exec (λ _. Some next) ∙ sound.places;
      own = sound.own;
      tied = sound.tied;
      due = sound.due;
      of_job = held_each (λ e a. (task_of a).job ≡ w.desk.job) w.held exec (Some next)
          (rw same (of (λ a. (task_of a).job ≡ w.desk.job) there (sound.of_job exec)))
          sound.of_job;
      given = held_each
          (λ e a. was_given (core_in w).dag (task_of a).hand_out.attempt ≡ true) w.held exec
          (Some next)
          (rw same (of (λ a. was_given (core_in w).dag (task_of a).hand_out.attempt ≡ true) there
          (sound.given exec)))
          sound.given;
      right = held_each (IsRight w.stores) w.held exec (Some next) now sound.right;
      shelved = sound.shelved;
      rests = held_each (λ e a. IsAtRest work (Some a)) w.held exec (Some next) rests sound.rests;
      runs = λ job. held_each (RunsThere work (core_in w)) w.held exec (Some next)
          (runs_on (of (RunsThere work (core_in w) exec) there (sound.runs job exec)))
          (sound.runs job);
      out = λ job r is_in is. still r (sound.out job r is_in is);
      saving = sound.saving;
      stays = sound.stays;
    }
  where
    of : (P : AttemptData → Type 0) → held_at w exec ≡ Some a → IfSome (held_at w exec) P → P a
    of P e h = subst (λ o. IfSome o P) e h

    was : IsRight w.stores exec a
    was = of (IsRight w.stores exec) there (sound.right exec)

    now : IsRight w.stores exec next
    now = record { inputs = rw same was.inputs; brings = brings }

    that_on : (r : Running) → IsThatOf work exec a r → IsThatOf work exec next r
    that_on r h =
        record {
          on = h.on;
          same = h.same ∙ ap (λ (t : TaskData). t.hand_out) (sym same);
          out = h.out;
          come = λ s.
              (let was = ap (λ (t : TaskData). saves work t.job.goal) (sym same) ∙ s in
              comes was r.phase (h.come was));
        }

    runs_on : RunsThere work (core_in w) exec a → RunsThere work (core_in w) exec next
    runs_on h =
        subst
        (λ (t : TaskData). IfSome (running_of (core_in w) t.hand_out.attempt)
        (IsThatOf work exec next)) (sym same)
        (by (running_of (core_in w) (task_of a).hand_out.attempt) h)
      where
        by : (o : Option Running) → IfSome o (IsThatOf work exec a)
            → IfSome o (IsThatOf work exec next)
        by None k = tt
        by (Some r) k = that_on r k

    still : (r : Running) → IsOut w r → IsOut (with_held w exec (Some next)) r
    still r o = by (exec == r.exec) refl
      where
        one_task : Some a ≡ Some o.attempt
            → (task_of a).hand_out ≡ (task_of o.attempt).hand_out
        one_task e = search (rules, e)

        by : (x : Bool) → (exec == r.exec) ≡ x → IsOut (with_held w exec (Some next)) r
        by true q =
            let is : exec ≡ r.exec = grind (arith, nat_tests, q) in
            let one : Some a ≡ Some o.attempt =
            sym there ∙ ap (λ (e : ℕ). held_at w e) is ∙ o.held in
            record {
              attempt = next;
              held = subst (λ (e : ℕ). at_or (change_at w.held exec (λ _. Some next)) e None
                  ≡ Some next) is (held_here w.held exec a (Some next) there);
              same = ap (λ (t : TaskData). t.hand_out) same ∙ one_task one ∙ o.same;
            }
        by false q =
            record {
              attempt = o.attempt;
              held = held_other w.held exec r.exec (Some next) q ∙ o.held;
              same = o.same;
            }
