-- How one attempt goes on, in code.
use Rattle.std.proofs.Common.{◌≡◌, ℕ, zero, suc, inr, List, [], ◌∷◌, Option, Some, None, IfSome, IsSomeAnd, get_or, slice_get, refl, ap, sym, subst, ◌∙◌, rules}
use Rattle.sc_ids.specs.declared.blocks.BlockId.{BlockId}
use Rattle.sc_ids.specs.declared.blocks.Loc.{Loc}
use Rattle.sc_lineage.specs.ScriptData.{WorkData}
use Rattle.sc_store.specs.StoreData.{StoreData}
use Rattle.sc_net.specs.Tasks.{TaskData}
use Rattle.sc_compute.specs.declared.caching.CachedPart.{CachedPart}
use Rattle.sc_task.specs.Attempts.{AttemptData, assigned}
use Rattle.sc_task.specs.States.{ComputedData}
use Rattle.sc_task.specs.Steps.{Computes}
use Rattle.sc_task.specs.declared.took.Did.{Did}
use Rattle.sc_task.specs.declared.took.Did.TheVariants as dids
use Rattle.sc_task.specs.Nexts.{next_of}
use Rattle.sc_task.specs.declared.next.Next.{Next}
use Rattle.sc_task.specs.declared.next.Next.TheVariants.{Complete, Fetch, Missing}
use Rattle.sc_world.specs.Caching.{Caches}
use Rattle.sc_world.specs.Places.{AreInOrder, ComputesAt, FetchStands, FetchesTo, NextStands}
use Rattle.sc_world.specs.Steps.{HasMade, Makes, ReadsAt, ReadsNext, phase_of, phase_reading}
use Rattle.sc_world.specs.declared.places.AttemptState.TheVariants as phases
use Rattle.sc_world.specs.declared.steps.Kept.{Kept}
use Rattle.sc_world.specs.Ties.{StandsIn}

got_is : {A : Type 0} (xs : List A) (i : ℕ) (x d : A) → slice_get xs i ≡ Some x → get_or xs i d ≡ x
got_is [] zero x d e = absurd (search (rules, e))
got_is [] (suc i) x d e = absurd (search (rules, e))
got_is (y ∷ ys) zero x d e = search (rules, e)
got_is (y ∷ ys) (suc i) x d e = got_is ys i x d e

-- the store that is read is the one at which the next block stands
pub store_read : (stores : List StoreData) (next : Next) (block : BlockId) (loc : Loc)
    (store : StoreData) → NextStands stores next → next ≡ Fetch block loc
    → store ≡ get_or stores loc.exec store
    → (slice_get stores loc.exec ≡ Some store) × StandsIn store block loc
store_read stores next block loc store stands e is =
    by (slice_get stores loc.exec) refl (subst (NextStands stores) e stands)
  where
    by : (o : Option StoreData) → slice_get stores loc.exec ≡ o
        → IsSomeAnd o (λ s. StandsIn s block loc)
        → (slice_get stores loc.exec ≡ Some store) × StandsIn store block loc
    by None there bad = absurd bad
    by (Some s) there h =
        let one : store ≡ s = is ∙ got_is stores loc.exec s store there in
        (there ∙ ap Some (sym one), subst (λ x. StandsIn x block loc) (sym one) h)

pub fetch_stands : (stores : List StoreData) (next : Next) (block : BlockId) (loc : Loc)
    (store : StoreData) → AreInOrder stores → NextStands stores next → next ≡ Fetch block loc
    → store ≡ get_or stores loc.exec store → FetchStands store next
fetch_stands stores next block loc store order stands e is =
    let read = store_read stores next block loc store stands e is in
    subst (FetchStands store) (sym e)
    (sym (subst (λ o. IfSome o (λ s. s.exec ≡ loc.exec)) read.0 (order loc.exec)), read.1)

pub fetched : (stores : List StoreData) (t : TaskData) (got : ℕ) (block : BlockId) (loc : Loc)
    (store : StoreData) (a : AttemptData) → NextStands stores (next_of t got)
    → next_of t got ≡ Fetch block loc → store ≡ get_or stores loc.exec store
    → FetchesTo store t got (next_of t got) a
    → ReadsAt stores (Some (assigned t got)) (Some a)
fetched stores t got block loc store a stands e is fetches =
    let read = store_read stores (next_of t got) block loc store stands e is in
    record {
      task = t;
      got = got;
      held = refl;
      next = a;
      reads = subst (λ n. ReadsNext stores t got n a) (sym e)
          (store, read.0, subst (λ n. FetchesTo store t got n a) e fetches);
      is = refl;
    }

-- where an attempt computes, it has read all
reads_all : (n : Next) → phase_reading n ≡ phases.Computes → n ≡ Complete
reads_all (Fetch block loc) e = absurd (search (rules, e))
reads_all (Missing last) e = absurd (search (rules, e))
reads_all Complete e = refl

pub computes_at : (work : WorkData) (before : Option AttemptData) (t : TaskData) (got : ℕ)
    (next : AttemptData) (kept : Kept) (store cached : StoreData) → before ≡ Some (assigned t got)
    → phase_of before ≡ phases.Computes → Makes work t next → Caches work t kept store cached
    → ComputesAt work before store kept (Some next) cached
computes_at work before t got next kept store cached held computes makes caches =
    record {
      task = t;
      got = got;
      held = held;
      complete = reads_all (next_of t got) (ap phase_of (sym held) ∙ computes);
      next = next;
      makes = makes;
      caches = caches;
      is = refl;
    }

-- an attempt that has computed makes what it has
pub computes_makes : {W : _} → (work : WorkData) (t s r : TaskData) (known : List CachedPart)
    (did : Did W) (done : ComputedData) (next : AttemptData) → did ≡ dids.Computed done
    → Computes work r known did → r ≡ t → s ≡ done.task → HasMade work s next → Makes work t next
computes_makes work t s r known did done next is computes same kept made =
    let d = subst (Computes work r known) is computes in
    subst (λ u. Makes work u next) same
    (inr (d.0, d.1, subst (λ u. HasMade work u next) (kept ∙ d.2) made))
