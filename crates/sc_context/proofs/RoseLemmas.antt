-- Where a job tells of a call on the files that failed, their counts rose over the whole run.
use Rattle.std.proofs.Common.{◌≡◌, ◌∙◌, ◌⊎◌, inl, inr, ℕ, zero, suc, ◌<◌, ◌≤◌, Bool, false, List, [], ◌∷◌, Contains, Option, Some, None, refl, sym, subst, arith}
use Rattle.std.specs.Prelude.{is_some}
use Rattle.std.proofs.lemmas.Bool.{cases_lt}
use Rattle.std.proofs.lemmas.List.Elements.{Contains-append_right}
use Rattle.sc_base.specs.Counts.{Rose}
use Rattle.sc_base.specs.Outside.{FilesState, IsLaterFiles}
use Rattle.sc_base.specs.Trees.{Tree}
use Rattle.sc_base.specs.declared.refusals.OrMemory.{OrMemory}
use Rattle.sc_files.specs.Calls.{counts_of}
use Rattle.sc_ids.specs.declared.failures.Counts.{Counts}
use Rattle.sc_ids.specs.declared.failures.Fault.{Fault}
use Rattle.sc_output.specs.Calls.{IsNotDone}
use Rattle.sc_core.specs.declared.journals.JobHistory.{JobHistory}
use Rattle.sc_desk.specs.Files.{AreCounted, AreInRow, faults_of}
use Rattle.sc_desk.proofs.CountLemmas.{later_shows}
use Rattle.sc_context.specs.Files.{CountAll, HasCounted, faults_before, faults_with}
use Rattle.sc_context.specs.declared.stops.JobFault.{JobFault}

-- ---- counts

-- no count fell
record HaveGrown (from to : Counts) : Type 0 where
  faults : from.faults ≤ to.faults
  clashes : from.clashes ≤ to.clashes

-- a count that rose between two moments rose between an earlier and a later one
wider : (a b c d : ℕ) → a ≤ b → b ≤ c → c ≤ d → Rose b c → Rose a d
wider a b c d first grown last (inl less) = inl (omega (arith, first, last, less))
wider a b c d first grown last (inr most) = by (cases_lt a d)
  where
    by : (a < d) ⊎ (d ≤ a) → Rose a d
    by (inl less) = inl less
    by (inr back) = inr (omega (arith, first, grown, last, most, back))

-- ---- faults in a row

row_grows : (shows : Bool) (from : Counts) (faults : List Fault) (to : Counts)
    → AreInRow shows from faults to → HaveGrown from to
row_grows shows from [] to is =
    subst (HaveGrown from) (sym is)
    (record { faults = omega arith; clashes = omega arith })
row_grows shows from (fault ∷ faults) to (is, tells, rest) =
    let more = row_grows shows fault.after faults to rest in
    subst (λ (c : Counts). HaveGrown c to) is
    (record {
      faults = omega (arith, tells.faults, more.faults);
      clashes = omega (arith, tells.clashes, more.clashes);
    })

-- the faults rose, or the clashes where the files don't show
abbrev HasRisenIn : Bool → Counts → Counts → Type 0
HasRisenIn shows from to =
    Rose from.faults to.faults ⊎ ((shows ≡ false) × Rose from.clashes to.clashes)

risen_in : (shows : Bool) (a b c d : Counts) → HaveGrown a b → HaveGrown b c → HaveGrown c d
    → HasRisenIn shows b c → HasRisenIn shows a d
risen_in shows a b c d first grown last (inl rose) =
    inl (wider a.faults b.faults c.faults d.faults first.faults grown.faults last.faults rose)
risen_in shows a b c d first grown last (inr (unseen, rose)) =
    inr (
      unseen,
      wider a.clashes b.clashes c.clashes d.clashes first.clashes grown.clashes last.clashes rose,
    )

same_counts : (c : Counts) → HaveGrown c c
same_counts c = record { faults = omega arith; clashes = omega arith }

row_rose : (shows : Bool) (from : Counts) (faults : List Fault) (to : Counts) (fault : Fault)
    → AreInRow shows from faults to → Contains faults fault → HasRisenIn shows from to
row_rose shows from [] to fault is there = absurd (omega (arith, there.1))
row_rose shows from (first ∷ faults) to fault (is, tells, rest) (zero, within, same) =
    subst (λ (c : Counts). HasRisenIn shows c to) is
    (risen_in shows first.before first.before first.after to (same_counts first.before)
    (record { faults = tells.faults; clashes = tells.clashes })
    (row_grows shows first.after faults to rest) tells.cause)
row_rose shows from (first ∷ faults) to fault (is, tells, rest) (suc k, within, same) =
    subst (λ (c : Counts). HasRisenIn shows c to) is
    (risen_in shows first.before first.after to to
    (record { faults = tells.faults; clashes = tells.clashes })
    (row_grows shows first.after faults to rest) (same_counts to)
    (row_rose shows first.after faults to fault rest (k, omega (arith, within), same)))

-- ---- files

-- files that show as others did, and of which no count fell
record GoOn (before after : FilesState) : Type 0 where
  shows : is_some after.shown ≡ is_some before.shown
  grown : HaveGrown (counts_of before) (counts_of after)

counted_on : (before after : FilesState) (faults : List Fault) → AreCounted before faults after
    → GoOn before after
counted_on before after faults counted =
    record {
      shows = counted.shows;
      grown = row_grows (is_some before.shown) (counts_of before) faults (counts_of after)
          counted.row;
    }

then_on : (a b c : FilesState) → GoOn a b → GoOn b c → GoOn a c
then_on a b c x y =
    record {
      shows = y.shows ∙ x.shows;
      grown = record {
        faults = omega (arith, x.grown.faults, y.grown.faults);
        clashes = omega (arith, x.grown.clashes, y.grown.clashes);
      };
    }

later_on : (before after : FilesState) → IsLaterFiles before after → GoOn before after
later_on before after later =
    record {
      shows = later_shows before after later;
      grown = record { faults = later.faults; clashes = later.clashes };
    }

-- a call wasn't done among these
abbrev HasRisenOver : FilesState → FilesState → Type 0
HasRisenOver before after =
    HasRisenIn (is_some before.shown) (counts_of before) (counts_of after)

risen_over : (a b c d : FilesState) → GoOn a b → GoOn b c → GoOn c d → HasRisenOver b c
    → HasRisenOver a d
risen_over a b c d first grown last rose =
    risen_in (is_some a.shown) (counts_of a) (counts_of b) (counts_of c) (counts_of d) first.grown
    grown.grown last.grown
    (subst (λ shows. HasRisenIn shows (counts_of b) (counts_of c)) first.shows rose)

not_done : (before after : FilesState) → HasRisenOver before after → IsNotDone before after
not_done before after (inl rose) = inl rose
not_done before after (inr (unseen, rose)) = inr (none before.shown unseen, rose)
  where
    none : (shown : Option Tree) → is_some shown ≡ false → shown ≡ None
    none None is = refl
    none (Some t) is = absurd cc

-- ---- jobs

-- what some jobs counted goes on
all_on : (histories given_up : List JobHistory) (before after : FilesState)
    → CountAll histories given_up before after → GoOn before after
all_on [] given_up before after counted =
    subst (GoOn before) (sym counted.0) (record { shows = refl; grown = same_counts _ })
all_on (h ∷ histories) given_up before after counted =
    then_on before counted.mid after
    (counted_on before counted.mid (faults_with counted.tried h) counted.counted)
    (all_on histories counted.rest counted.mid after counted.then)

all_rose : (histories given_up : List JobHistory) (before after : FilesState) (h : JobHistory)
    (fault : Fault) → CountAll histories given_up before after → Contains histories h
    → Contains (faults_of h.entries.items) fault → HasRisenOver before after
all_rose [] given_up before after h fault counted there told = absurd (omega (arith, there.1))
all_rose (first ∷ histories) given_up before after h fault counted (zero, within, same) told =
    let here = subst (λ (x : JobHistory). Contains (faults_of x.entries.items) fault) (sym same)
    told in
    let none : GoOn before before = record { shows = refl; grown = same_counts (counts_of before) }
    in
    risen_over before before counted.mid after none
    (counted_on before counted.mid (faults_with counted.tried first) counted.counted)
    (all_on histories counted.rest counted.mid after counted.then)
    (row_rose (is_some before.shown) (counts_of before) (faults_with counted.tried first)
    (counts_of counted.mid) fault counted.counted.row
    (Contains-append_right (faults_before counted.tried) (faults_of first.entries.items) fault
    here))
all_rose (first ∷ histories) given_up before after h fault counted (suc k, within, same) told =
    let none : GoOn after after = record { shows = refl; grown = same_counts (counts_of after) } in
    risen_over before counted.mid after after
    (counted_on before counted.mid (faults_with counted.tried first) counted.counted)
    (all_on histories counted.rest counted.mid after counted.then) none
    (all_rose histories counted.rest counted.mid after h fault counted.then
    (k, omega (arith, within), same) told)

-- over jobs of which one tells of a call that failed a call wasn't done
pub has_not_done : (histories given_up : List JobHistory) (why : OrMemory JobFault)
    (before after : FilesState) (h : JobHistory) (fault : Fault)
    → HasCounted histories given_up why before after → Contains histories h
    → Contains (faults_of h.entries.items) fault → IsNotDone before after
has_not_done histories given_up why before after h fault has there told =
    let none : GoOn before before = record { shows = refl; grown = same_counts (counts_of before) }
    in
    not_done before after
    (risen_over before before has.last after none
    (all_on histories has.front before has.last has.counted)
    (later_on has.last after has.later)
    (all_rose histories has.front before has.last h fault has.counted there told))
