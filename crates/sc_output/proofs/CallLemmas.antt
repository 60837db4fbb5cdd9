-- Calls on files that are made one behind the other.
use Rattle.std.proofs.Common.{◌≡◌, ◌∙◌, inl, inr, List, [], ◌∷◌, ◌++◌, refl, ap, sym, subst, arith}
use Rattle.std.specs.Prelude.{Option, Some, None, Result, Ok, Err}
use Rattle.sc_base.specs.Counts.{Rose}
use Rattle.sc_base.specs.Outside.{FilesState, Changes, IsLaterFiles, IsQuietFiles}
use Rattle.sc_base.specs.Trees.{Tree, Path}
use Rattle.sc_base.specs.declared.refusals.OrMemory.{OrMemory}
use Rattle.sc_base.specs.declared.refusals.OrMemory.TheVariants.{Fault, OutOfMemory}
use Rattle.sc_base.proofs.ChangeLemmas.{changes-compose, changes-weaker}
use Rattle.sc_output.specs.Calls.{AreOpen, Call, HasPath, IsNotDone, IsPartOfTheWay, IsStoppedAt, MakesCalls, after_call, after_calls}

-- ---- calls behind others

pub after_calls-append : (xs ys : List Call) (t : Tree)
    → after_calls t (xs ++ ys) ≡ after_calls (after_calls t xs) ys
after_calls-append [] ys t = refl
after_calls-append (x ∷ xs) ys t = after_calls-append xs ys (after_call t x)

pub open-front : (xs ys : List Call) (t : Tree) → AreOpen (xs ++ ys) t → AreOpen xs t
open-front [] ys t o = tt
open-front (x ∷ xs) ys t o = (o.0, open-front xs ys (after_call t x) o.1)

pub open-back : (xs ys : List Call) (t : Tree) → AreOpen (xs ++ ys) t
    → AreOpen ys (after_calls t xs)
open-back [] ys t o = o
open-back (x ∷ xs) ys t o = open-back xs ys (after_call t x) o.1

stopped-front : (xs ys : List Call) (path : Path) (t u : Tree)
    → IsStoppedAt xs path t u → IsStoppedAt (xs ++ ys) path t u
stopped-front [] ys path t u s = absurd s
stopped-front (x ∷ xs) ys path t u (inl s) = inl s
stopped-front (x ∷ xs) ys path t u (inr s) =
    inr (stopped-front xs ys path (after_call t x) u s)

stopped-back : (xs ys : List Call) (path : Path) (t u : Tree)
    → IsStoppedAt ys path (after_calls t xs) u → IsStoppedAt (xs ++ ys) path t u
stopped-back [] ys path t u s = s
stopped-back (x ∷ xs) ys path t u s = inr (stopped-back xs ys path (after_call t x) u s)

way-begin : (calls : List Call) (t u : Tree) → u ≡ t → IsPartOfTheWay calls t u
way-begin [] t u is = is
way-begin (call ∷ calls) t u is = inl is

way-front : (xs ys : List Call) (t u : Tree)
    → IsPartOfTheWay xs t u → IsPartOfTheWay (xs ++ ys) t u
way-front [] ys t u w = way-begin ys t u w
way-front (x ∷ xs) ys t u (inl w) = inl w
way-front (x ∷ xs) ys t u (inr w) = inr (way-front xs ys (after_call t x) u w)

way-back : (xs ys : List Call) (t u : Tree)
    → IsPartOfTheWay ys (after_calls t xs) u → IsPartOfTheWay (xs ++ ys) t u
way-back [] ys t u w = w
way-back (x ∷ xs) ys t u w = inr (way-back xs ys (after_call t x) u w)

path-front : (xs ys : List Call) (path : Path) → HasPath xs path → HasPath (xs ++ ys) path
path-front [] ys path h = absurd h
path-front (x ∷ xs) ys path (inl h) = inl h
path-front (x ∷ xs) ys path (inr h) = inr (path-front xs ys path h)

path-back : (xs ys : List Call) (path : Path) → HasPath ys path → HasPath (xs ++ ys) path
path-back [] ys path h = h
path-back (x ∷ xs) ys path h = inr (path-back xs ys path h)

pub quiet-then : (s u v : FilesState) → IsQuietFiles s u → IsQuietFiles u v → IsQuietFiles s v
quiet-then s u v one two =
    record { faults = two.faults ∙ one.faults; clashes = two.clashes ∙ one.clashes }

unseen-before : (R : Tree → Tree → Type 0) (a b : Option Tree)
    → Changes R a b → b ≡ None → a ≡ None
unseen-before R None b x e = refl
unseen-before R (Some t) None x e = absurd x
unseen-before R (Some t) (Some u) x e = absurd (some-none u e)
  where
    some-none : (u : Tree) → Some u ≡ None → ⊥
    some-none u e = subst (λ o. IfNone o) (sym e) tt
      where
        IfNone : Option Tree → Type 0
        IfNone None = Unit {0}
        IfNone (Some x) = ⊥

-- a call that isn't done behind others that raised no count
pub not_done-then : (R : Tree → Tree → Type 0) (s u v : FilesState) → IsQuietFiles s u
    → Changes R s.shown u.shown → IsNotDone u v → IsNotDone s v
not_done-then R s u v quiet change (inl rose) =
    inl (subst (λ n. Rose n v.faults) quiet.faults rose)
not_done-then R s u v quiet change (inr rose) =
    inr (
      unseen-before R s.shown u.shown change rose.0,
      subst (λ n. Rose n v.clashes) quiet.clashes rose.1,
    )

pub calls-then : (xs ys : List Call) (s u v : FilesState)
    (result : Result (Unit {0}) (OrMemory Path))
    → MakesCalls xs s u (Ok tt) → MakesCalls ys u v result → MakesCalls (xs ++ ys) s v result
calls-then xs ys s u v (Ok x) one two = (
  quiet-then s u v one.0 two.0,
  changes-compose _ _ (λ t k. k ≡ after_calls t (xs ++ ys)) s.shown u.shown v.shown
      (λ t k l e f. f ∙ ap (λ m. after_calls m ys) e ∙ sym (after_calls-append xs ys t))
      one.1 two.1,
)
calls-then xs ys s u v (Err (Fault path)) one two = (
  path-back xs ys path two.0,
  not_done-then _ s u v one.0 one.1 two.1,
  changes-compose _ _ (IsStoppedAt (xs ++ ys) path) s.shown u.shown v.shown
      (λ t k l e f. stopped-back xs ys path t l (subst (λ m. IsStoppedAt ys path m l) e f))
      one.1 two.2,
)
calls-then xs ys s u v (Err OutOfMemory) one two = (
  quiet-then s u v one.0 two.0,
  changes-compose _ _ (IsPartOfTheWay (xs ++ ys)) s.shown u.shown v.shown
      (λ t k l e f. way-back xs ys t l (subst (λ m. IsPartOfTheWay ys m l) e f)) one.1 two.1,
)

pub calls-ended : (xs ys : List Call) (s u : FilesState) (fault : OrMemory Path)
    → MakesCalls xs s u (Err fault) → MakesCalls (xs ++ ys) s u (Err fault)
calls-ended xs ys s u (Fault path) one = (
  path-front xs ys path one.0,
  one.1,
  changes-weaker _ (IsStoppedAt (xs ++ ys) path) s.shown u.shown
      (λ t k. stopped-front xs ys path t k) one.2,
)
calls-ended xs ys s u OutOfMemory one = (
  one.0,
  changes-weaker _ (IsPartOfTheWay (xs ++ ys)) s.shown u.shown (λ t k. way-front xs ys t k) one.1,
)

-- what is later than later files is later than they
pub later-then : (s u v : FilesState) → IsLaterFiles s u → IsLaterFiles u v → IsLaterFiles s v
later-then s u v one two = record {
  shown = changes-compose _ _ (λ t k. Unit {0}) s.shown u.shown v.shown
      (λ t k l x y. tt) one.shown two.shown;
  faults = omega (arith, one.faults, two.faults);
  clashes = omega (arith, one.clashes, two.clashes);
}
