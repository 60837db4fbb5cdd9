-- A block that isn't read, and a store that an attempt has no use of.
use Rattle.std.proofs.Common.{ℕ, ◌≡◌, ◌≢◌, ◌<◌, inl, inr, All, Contains, Option, Some, None, Result, Ok, Err, IfErr, IfOk, slice_get, refl, ap, sym, subst}
use Rattle.std.proofs.lemmas.List.Elements.{All-contains}
use Rattle.std.proofs.lemmas.Option.{get_or_from_slice_get, slice_get_within}
use Rattle.sc_ids.specs.declared.blocks.BlockId.{BlockId}
use Rattle.sc_ids.specs.declared.blocks.Loc.{Loc}
use Rattle.sc_tracker.specs.declared.outputs.Location.{Location}
use Rattle.sc_tracker.specs.declared.outputs.Location.TheVariants as locations
use Rattle.sc_core.specs.HandOuts.{HandOutData}
use Rattle.sc_net.specs.Reports.{ReportData}
use Rattle.sc_net.specs.Tasks.{TaskData, blocks_of_task}
use Rattle.sc_store.specs.StoreData.{StoreData}
use Rattle.sc_task.specs.Nexts.{next_at, next_of}
use Rattle.sc_task.specs.States.{AssignedData}
use Rattle.sc_task.specs.declared.next.Next.{Next}
use Rattle.sc_task.specs.declared.next.Next.TheVariants.{Fetch, Missing, Complete}
use Rattle.sc_exec.specs.Fetching.{GetsFrom, IsAbsentFrom, IsBarred, IsGoneFrom, IsNextSo, IsUnread, LacksFrom}
use Rattle.sc_exec.specs.Performing.{Gets, Hinders, IsOfReading}
use Rattle.sc_exec.specs.Places.{IsMisplaced}
use Rattle.sc_exec.specs.Turns.{LiesOrLay}
use Rattle.sc_exec.specs.declared.lefts.Left.{Left}
use Rattle.sc_exec.specs.declared.lefts.Left.TheVariants as lefts
use Rattle.sc_exec.specs.declared.lefts.Stranger.TheVariants as strangers
use Rattle.sc_exec.specs.declared.performing.Got.{Got}
use Rattle.sc_exec.specs.declared.performing.Got.TheVariants as got
use Rattle.sc_exec.specs.declared.places.Misplaced.{Misplaced}

-- ---- the block that is fetched next

-- it is one of those that the task reads, with its location
pub fetched : (t : TaskData) (n : ℕ) (P : BlockId → Loc → Type 0) → IsNextSo P (next_of t n)
    → (loc : Loc) × Contains t.hand_out.inputs (locations.Here loc) × ((b : BlockId) × P b loc)
fetched t n P is = by (slice_get (blocks_of_task t) n) (slice_get t.hand_out.inputs n) refl is
  where
    by : (b : Option BlockId) (o : Option Location) → slice_get t.hand_out.inputs n ≡ o
        → IsNextSo P (next_at b o)
        → (loc : Loc) × Contains t.hand_out.inputs (locations.Here loc)
        × ((b : BlockId) × P b loc)
    by None o at is = absurd is
    by (Some b) None at is = absurd is
    by (Some b) (Some (locations.Missing last)) at is = absurd is
    by (Some b) (Some (locations.Here loc)) at is =
        let x = locations.Here loc in
        let xs = t.hand_out.inputs in (
          loc,
          (n, slice_get_within xs n x at, get_or_from_slice_get xs n x x at),
          (b, is),
        )

-- so it lies on an executor of the work
pub lies_known : (t : TaskData) (n executors : ℕ) (block : BlockId) (loc : Loc)
    → All (LiesOrLay executors) t.hand_out.inputs → next_of t n ≡ Fetch block loc
    → loc.exec < executors
lies_known t n executors block loc lay is =
    let found = fetched t n (λ b l. l ≡ loc)
    (subst (IsNextSo (λ b l. l ≡ loc)) (sym is) refl) in
    subst (λ (l : Loc). l.exec < executors) found.2.1
    (All-contains (LiesOrLay executors) t.hand_out.inputs (locations.Here found.0) lay found.1)

-- ---- at its store

-- what an attempt gets there
pub so_gets : {W : _} (store : StoreData) (a : AssignedData) (r : Result (Got W) Left)
    → IfOk r (GetsFrom store a) → IfOk r (Gets a)
so_gets store a (Err left) gets = gets
so_gets store a (Ok (got.Next next)) gets = gets
so_gets store a (Ok (got.Report report)) gets = by (next_of a.task a.got) gets
  where
    by : (next : Next) → IsNextSo (IsGoneFrom store a report) next
        → (report.task ≡ a.task) × IsOfReading report.finding
    by (Fetch block loc) (past, is) = (
      ap (λ (x : ReportData). x.task) is,
      subst (λ (x : ReportData). IsOfReading x.finding) (sym is) tt,
    )
    by (Missing last) is = absurd is
    by Complete is = absurd is

-- and why it gets nothing
pub so_unread : {T : Type 0} (store : StoreData) (a : AssignedData) (r : Result T Left)
    → IfErr r (LacksFrom store a) → IfErr r (IsUnread (next_of a.task a.got))
so_unread store a (Ok t) lacks = lacks
so_unread store a (Err (lefts.Absent absence)) lacks = by (next_of a.task a.got) lacks
  where
    by : (next : Next) → IsNextSo (IsAbsentFrom store absence) next
        → IsNextSo (λ block loc. absence.loc ≡ loc) next
    by (Fetch block loc) (past, none, at) = at
    by (Missing last) is = absurd is
    by Complete is = absurd is
so_unread store a (Err lefts.NoMemory) lacks = tt
so_unread store a (Err (lefts.Stranger stranger)) lacks = absurd lacks
so_unread store a (Err (lefts.Early early)) lacks = absurd lacks
so_unread store a (Err lefts.JobEnded) lacks = absurd lacks
so_unread store a (Err (lefts.Stopped first)) lacks = absurd lacks
so_unread store a (Err lefts.Lost) lacks = absurd lacks
so_unread store a (Err (lefts.Busy held)) lacks = absurd lacks
so_unread store a (Err (lefts.Drained strange)) lacks = absurd lacks

-- ---- what keeps an executor from going on

itself : (place : ℕ) (m : Misplaced) → IsMisplaced place m → IsMisplaced m.place m
itself place m (at, other) = (refl, subst (λ (p : ℕ). m.found ≢ p) (sym at) other)

-- what keeps its block from being read
pub unread_hinders : {T : Type 0} (exec : ℕ) (t : TaskData) (n : ℕ) (r : Result T Left)
    → IfErr r (IsUnread (next_of t n)) → IfErr r (Hinders exec t.hand_out)
unread_hinders exec t n (Ok x) unread = unread
unread_hinders exec t n (Err (lefts.Stranger (strangers.Store m))) unread =
    let found = fetched t n (λ block loc. IsMisplaced loc.exec m) unread in
    let is = found.2.1 in
    (itself found.0.exec m is, inr (found.0, found.1, sym is.0))
unread_hinders exec t n (Err (lefts.Absent absence)) unread =
    let found = fetched t n (λ block loc. absence.loc ≡ loc) unread in
    subst (λ (l : Loc). Contains t.hand_out.inputs (locations.Here l)) (sym found.2.1) found.1
unread_hinders exec t n (Err lefts.NoMemory) unread = tt
unread_hinders exec t n (Err (lefts.Stranger (strangers.Report refused))) unread = absurd unread
unread_hinders exec t n (Err (lefts.Early early)) unread = absurd unread
unread_hinders exec t n (Err lefts.JobEnded) unread = absurd unread
unread_hinders exec t n (Err (lefts.Stopped first)) unread = absurd unread
unread_hinders exec t n (Err lefts.Lost) unread = absurd unread
unread_hinders exec t n (Err (lefts.Busy held)) unread = absurd unread
unread_hinders exec t n (Err (lefts.Drained strange)) unread = absurd unread

-- what keeps it from its own store
pub barred_hinders : {T : Type 0} (exec : ℕ) (h : HandOutData) (r : Result T Left)
    → IfErr r (IsBarred exec) → IfErr r (Hinders exec h)
barred_hinders exec h (Ok x) barred = barred
barred_hinders exec h (Err (lefts.Stranger (strangers.Store m))) barred =
    (itself exec m barred, inl barred.0)
barred_hinders exec h (Err lefts.NoMemory) barred = tt
barred_hinders exec h (Err (lefts.Stranger (strangers.Report refused))) barred = absurd barred
barred_hinders exec h (Err (lefts.Absent absence)) barred = absurd barred
barred_hinders exec h (Err (lefts.Early early)) barred = absurd barred
barred_hinders exec h (Err lefts.JobEnded) barred = absurd barred
barred_hinders exec h (Err (lefts.Stopped first)) barred = absurd barred
barred_hinders exec h (Err lefts.Lost) barred = absurd barred
barred_hinders exec h (Err (lefts.Busy held)) barred = absurd barred
barred_hinders exec h (Err (lefts.Drained strange)) barred = absurd barred
