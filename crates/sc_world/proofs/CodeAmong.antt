-- One of the places and one of the stores, as code changes them.
use Rattle.std.proofs.Common.{◌≡◌, ◌≢◌, ℕ, zero, suc, ◌<◌, List, [], ◌∷◌, Option, Some, None, get_or, length, slice_get, slice_set, refl, ap, sym, subst, ◌∙◌, arith, rules}
use Rattle.std.proofs.lemmas.Option.{slice_get_read}
use Rattle.sc_base.specs.Lists.{at_or}
use Rattle.sc_ids.specs.Changes.{change_at}
use Rattle.sc_ids.specs.declared.blocks.Loc.{Loc}
use Rattle.sc_ids.proofs.ChangeLemmas.{at_or_slice_get, set_changed}
use Rattle.sc_lineage.specs.ScriptData.{WorkData}
use Rattle.sc_plan.specs.declared.orders.Order.{Order}
use Rattle.sc_core.specs.declared.answers.SideAnswer.{SideAnswer}
use Rattle.sc_cache.specs.Caches.{without_last}
use Rattle.sc_store.specs.StoreData.{StoreData, with_cache}
use Rattle.sc_store.specs.Storing.{Wipes}
use Rattle.sc_store.specs.declared.answers.WipeAnswer.{WipeAnswer}
use Rattle.sc_task.specs.Attempts.{AttemptData}
use Rattle.sc_world.specs.Places.{ComputesAmong, ComputesAt, EvictsAmong, IsAside, PutsAmong, PutsAt, ReadsAmong, WipesAmong, settled}
use Rattle.sc_world.specs.Steps.{ReadsAt, phase_of}
use Rattle.sc_world.specs.declared.places.AttemptState.{AttemptState}
use Rattle.sc_world.specs.declared.places.AttemptState.TheVariants as phases
use Rattle.sc_world.specs.declared.steps.Kept.{Kept}

-- ---- places

-- an executor that has an attempt out is one of them
pub is_there : {A : Type 0} (xs : List (Option A)) (i : ℕ) → at_or xs i None ≢ None → i < length xs
is_there [] i out = absurd (out refl)
is_there (x ∷ xs) zero out = omega arith
is_there (x ∷ xs) (suc i) out =
    let below : i < length xs = is_there xs i out in omega (arith, below)

-- so is one whose attempt isn't idle
pub is_busy : (held : List (Option AttemptData)) (exec : ℕ) (p : AttemptState)
    → phase_of (at_or held exec None) ≡ p → (p ≡ phases.Idle → ⊥) → exec < length held
is_busy held exec p is busy = is_there held exec (λ none. busy (sym is ∙ ap phase_of none))

-- an item that is read
pub at_read : {A : Type 0} (xs : List A) (i : ℕ) (x d : A) → i < length xs → x ≡ get_or xs i x
    → at_or xs i d ≡ x
at_read xs i x d lt e =
    let same : Some (at_or xs i d) ≡ Some x =
    sym (at_or_slice_get xs i d lt) ∙ slice_get_read xs (length xs) i x refl lt e in
    search (rules, same)

pub there : {A : Type 0} (xs : List A) (i : ℕ) (x : A) → i < length xs → x ≡ get_or xs i x
    → slice_get xs i ≡ Some x
there xs i x lt e = slice_get_read xs (length xs) i x refl lt e

-- an item that is read and written
pub written : {A : Type 0} (xs : List A) (i : ℕ) (x y : A) → i < length xs → x ≡ get_or xs i x
    → slice_set xs i y ≡ change_at xs i (λ _. y)
written xs i x y lt e = set_changed xs i x y (λ _. y) lt e refl

pub written_as : {A : Type 0} (xs : List A) (i : ℕ) (x y z : A) → i < length xs
    → x ≡ get_or xs i x → y ≡ z → slice_set xs i y ≡ change_at xs i (λ _. z)
written_as xs i x y z lt e is = set_changed xs i x y (λ _. z) lt e is

-- so is one whose attempt does something beside the reports
pub aside_there : (held : List (Option AttemptData)) (exec : ℕ) → IsAside (at_or held exec None)
    → exec < length held
aside_there held exec aside = is_there held exec (λ none. subst IsAside none aside)

-- its attempt, once it did that
pub settles_among : (held : List (Option AttemptData)) (exec : ℕ) (x y : Option AttemptData)
    (said : SideAnswer) → exec < length held → x ≡ get_or held exec x → y ≡ settled x said
    → slice_set held exec y
    ≡ change_at held exec (λ _. settled (at_or held exec None) said)
settles_among held exec x y said lt e is =
    written_as held exec x y (settled (at_or held exec None) said) lt e
    (is ∙ ap (λ (o : Option AttemptData). settled o said) (sym (at_read held exec x None lt e)))

-- an item that was taken away and is put back
pub restored : {A : Type 0} (xs : List (Option A)) (i : ℕ) (x : Option A) → at_or xs i None ≡ x
    → change_at (change_at xs i (λ _. None)) i (λ _. x) ≡ xs
restored [] i x e = refl
restored (y ∷ ys) zero x e = ap (λ z. z ∷ ys) (sym e)
restored (y ∷ ys) (suc i) x e = ap (λ zs. y ∷ zs) (restored ys i x e)

-- ---- steps

pub reads_among : (stores : List StoreData) (exec : ℕ) (held : List (Option AttemptData))
    (x y : Option AttemptData) → exec < length held → x ≡ get_or held exec x → ReadsAt stores x y
    → ReadsAmong stores exec held (slice_set held exec y)
reads_among stores exec held x y lt e reads =
    record {
      next = y;
      reads = subst (λ o. ReadsAt stores o y) (sym (at_read held exec x None lt e)) reads;
      is = written held exec x y lt e;
    }

pub computes_among : (work : WorkData) (exec : ℕ) (held : List (Option AttemptData))
    (stores : List StoreData) (kept : Kept) (x y : Option AttemptData) (s t : StoreData)
    → exec < length held → exec < length stores → x ≡ get_or held exec x
    → s ≡ get_or stores exec s → ComputesAt work x s kept y t
    → ComputesAmong work exec held stores kept (slice_set held exec y) (slice_set stores exec t)
computes_among work exec held stores kept x y s t lt below e f computes =
    record {
      store = s;
      own = there stores exec s below f;
      next = y;
      cached = t;
      computes = subst (λ o. ComputesAt work o s kept y t) (sym (at_read held exec x None lt e))
          computes;
      is = written held exec x y lt e;
      stores_are = written stores exec s t below f;
    }

pub puts_among : (work : WorkData) (exec : ℕ) (held : List (Option AttemptData))
    (stores : List StoreData) (loc : Loc) (x y : Option AttemptData) (s t : StoreData)
    → exec < length held → exec < length stores → x ≡ get_or held exec x
    → s ≡ get_or stores exec s → PutsAt work x s loc y t
    → PutsAmong work exec held stores loc (slice_set held exec y) (slice_set stores exec t)
puts_among work exec held stores loc x y s t lt below e f puts =
    record {
      store = s;
      own = there stores exec s below f;
      next = y;
      full = t;
      puts = subst (λ o. PutsAt work o s loc y t) (sym (at_read held exec x None lt e)) puts;
      is = written held exec x y lt e;
      stores_are = written stores exec s t below f;
    }

pub wipes_among : (order : Order) (stores : List StoreData) (answer : WipeAnswer) (s t : StoreData)
    → order.exec < length stores → s ≡ get_or stores order.exec s → Wipes s order.number answer t
    → WipesAmong order stores answer (slice_set stores order.exec t)
wipes_among order stores answer s t below f wipes =
    record {
      store = s;
      own = there stores order.exec s below f;
      next = t;
      wipes = wipes;
      stores_are = written stores order.exec s t below f;
    }

pub evicts_among : (exec : ℕ) (stores : List StoreData) (s t : StoreData) → exec < length stores
    → s ≡ get_or stores exec s → t ≡ with_cache s (without_last s.cache)
    → EvictsAmong exec stores (slice_set stores exec t)
evicts_among exec stores s t below f is =
    record {
      store = s;
      own = there stores exec s below f;
      stores_are = written_as stores exec s t (with_cache s (without_last s.cache)) below f is;
    }
