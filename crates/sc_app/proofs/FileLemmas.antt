-- Where files have room and no call on them failed, no save is kept from its end.
use Rattle.std.proofs.Common.{◌≡◌, ◌∙◌, ◌⊎◌, ℕ, zero, suc, ◌≤◌, inl, inr, true, true≢false, List, [], ◌∷◌, Option, Some, None, refl, sym, ap, subst, arith}
use Rattle.std.specs.Prelude.{slice_get}
use Rattle.sc_base.specs.Counts.{Rose}
use Rattle.sc_base.specs.Lists.{at_or}
use Rattle.sc_base.specs.Outside.{Changes, FilesState, IsLaterFiles}
use Rattle.sc_base.specs.Saves.{IsApart}
use Rattle.sc_base.specs.Trees.{Path, Tree, has_dir}
use Rattle.sc_base.specs.declared.refusals.OrMemory.TheVariants.{Fault}
use Rattle.sc_base.proofs.ChangeLemmas.{changes-compose}
use Rattle.sc_lineage.specs.Saves.{CanSaveAll, SavesAreLawful, dir_of_action, saved_by}
use Rattle.sc_lineage.specs.ScriptData.{ActionData, WorkData, collect_action, count_action, reduce_action, save_action}
use Rattle.sc_output.specs.Calls.{IsNotDone}
use Rattle.sc_output.specs.NameLaws.{NamesLieWithin}
use Rattle.sc_output.specs.Names.{staging_path}
use Rattle.sc_staging.specs.Opening.{IsInTheWay}
use Rattle.sc_core.specs.declared.journals.JobHistory.{JobHistory}
use Rattle.sc_jobs.specs.declared.goals.Goal.TheVariants as goals
use Rattle.sc_desk.specs.Files.{dir_of_job}
use Rattle.sc_context.specs.Files.{StopsIn}
use Rattle.sc_context.specs.declared.stops.JobFault.TheVariants as faults
use Rattle.sc_print.specs.Printing.{EndsOver}

-- a count that rose later rose
rose-since : (a b c : ℕ) → a ≤ b → Rose b c → Rose a c
rose-since a b c le (inl less) = inl (omega (arith, le, less))
rose-since a b c le (inr last) = inr last

-- files that show go on to show
still-shown : (a b : Option Tree) (t : Tree) → a ≡ Some t → Changes (λ u v. Unit {0}) a b
    → b ≡ None → ⊥
still-shown None b t is changes none = absurd cc
still-shown (Some u) None t is changes none = changes
still-shown (Some u) (Some v) t is changes none = absurd cc

-- where files show that a directory or its staging area was in the way, one of these was there
in-the-way : (a b : Option Tree) (dir path : Path) (t : Tree) → a ≡ Some t
    → Changes (IsInTheWay dir path) a b
    → (has_dir t dir ≡ true) ⊎ (has_dir t (staging_path dir) ≡ true)
in-the-way None b dir path t is changes = absurd cc
in-the-way (Some u) None dir path t is changes = absurd changes
in-the-way (Some u) (Some v) dir path t is changes =
    subst (λ s. (has_dir s dir ≡ true) ⊎ (has_dir s (staging_path dir) ≡ true)) (one is)
    (there changes)
  where
    one : Some u ≡ Some t → u ≡ t
    one e = cc

    there : IsInTheWay dir path u v
        → (has_dir u dir ≡ true) ⊎ (has_dir u (staging_path dir) ≡ true)
    there (inl x) = inl x.1
    there (inr x) = inr x.2

-- an action of which a directory is known saves to it
pub saves-to : (actions : List ActionData) (k : ℕ) (dir : Path)
    → dir_of_action (at_or actions k (collect_action 0)) ≡ Some dir
    → (node : ℕ) × (slice_get actions k ≡ Some (save_action node dir))
saves-to [] k dir is = absurd cc
saves-to (action ∷ actions) (suc k) dir is = saves-to actions k dir is
saves-to (collect_action node ∷ actions) zero dir is = absurd cc
saves-to (count_action node ∷ actions) zero dir is = absurd cc
saves-to (reduce_action node e ∷ actions) zero dir is = absurd cc
saves-to (save_action node other ∷ actions) zero dir is =
    (node, ap (λ d. Some (save_action node d)) (one is))
  where
    one : Some other ≡ Some dir → other ≡ dir
    one e = cc

-- no clash rose, or the files show and the script can save all
abbrev pub HasPlace : WorkData → FilesState → FilesState → Type 0
HasPlace work before after =
    (Rose before.clashes after.clashes → ⊥)
    ⊎ ((opening : Tree) × (before.shown ≡ Some opening) × CanSaveAll work.script opening)

module _ (laws : SavesAreLawful) (names : NamesLieWithin) (work : WorkData)
    (before after : FilesState) (history given_up : List JobHistory) (k : ℕ) where
  -- where all can be saved, the directory of the next save isn't there, nor anything under it
  next-apart : (opening : Tree) (dir : Path) → CanSaveAll work.script opening
      → dir_of_job work (goals.Action k) ≡ Some dir → IsApart dir (saved_by work k opening)
  next-apart opening dir can is =
      laws.all_apart work k dir opening can (saves-to work.script.actions k dir is)

  none-in-the-way : (opening : Tree) (dir : Path) → CanSaveAll work.script opening
      → dir_of_job work (goals.Action k) ≡ Some dir
      → (has_dir (saved_by work k opening) dir ≡ true)
      ⊎ (has_dir (saved_by work k opening) (staging_path dir) ≡ true) → ⊥
  none-in-the-way opening dir can is (inl there) =
      true≢false (sym there ∙ (next-apart opening dir can is).itself)
  none-in-the-way opening dir can is (inr there) =
      true≢false (sym there
      ∙ (next-apart opening dir can is).dirs (staging_path dir) (names.staging dir))

  -- no directory is in the way
  pub none-exists : (path : Path)
      → EndsOver work before after history given_up k (Fault (faults.Exists path))
      → HasPlace work before after → ⊥
  none-exists path ends place = by (dir_of_job work (goals.Action k)) refl ends.over
    where
      by : (d : Option Path) → dir_of_job work (goals.Action k) ≡ d
          → StopsIn work ends.given d ends.mid after (Fault (faults.Exists path)) → ⊥
      by None is over = over.1
      by (Some dir) is (inl over) = over.1
      by (Some dir) is (inr over) = by_place place
        where
          by_place : HasPlace work before after → ⊥
          by_place (inl no_clash) =
              no_clash (rose-since before.clashes ends.mid.clashes after.clashes
              ends.done.later.clashes over.1.1.clashed)
          by_place (inr room) =
              none-in-the-way room.0 dir room.2 is
              (in-the-way ends.mid.shown after.shown dir path (saved_by work k room.0)
              (ends.done.saved room.0 room.1 room.2.apart) over.1.2)

module _ (work : WorkData) (before after : FilesState) (history given_up : List JobHistory)
    (k : ℕ) where
  -- a call that wasn't done shows in the faults
  not-done : (mid : FilesState) → IsLaterFiles before mid
      → (Rose before.faults after.faults → ⊥) → HasPlace work before after
      → IsNotDone mid after → ⊥
  not-done mid later no_fault place (inl rose) =
      no_fault (rose-since before.faults mid.faults after.faults later.faults rose)
  not-done mid later no_fault (inl no_clash) (inr clash) =
      no_clash (rose-since before.clashes mid.clashes after.clashes later.clashes clash.1)
  not-done mid later no_fault (inr room) (inr clash) =
      still-shown before.shown mid.shown room.0 room.1 later.shown clash.0

  -- no call on the files failed
  pub none-fails : (path : Path)
      → EndsOver work before after history given_up k (Fault (faults.Device path))
      → (Rose before.faults after.faults → ⊥) → HasPlace work before after → ⊥
  none-fails path ends no_fault place = by (dir_of_job work (goals.Action k)) ends.over
    where
      later-twice : (mid : FilesState) → IsLaterFiles ends.mid mid → IsLaterFiles before mid
      later-twice mid later = record {
        shown = changes-compose (λ t u. Unit {0}) (λ t u. Unit {0}) (λ t u. Unit {0}) before.shown
            ends.mid.shown mid.shown (λ t u v x y. tt) ends.done.later.shown later.shown;
        faults = omega (arith, ends.done.later.faults, later.faults);
        clashes = omega (arith, ends.done.later.clashes, later.clashes);
      }

      by : (d : Option Path) → StopsIn work ends.given d ends.mid after (Fault (faults.Device path))
          → ⊥
      by None over = over.1
      by (Some dir) (inl over) = over.1
      by (Some dir) (inr (later, inl opening)) =
          no_fault (rose-since before.faults ends.mid.faults after.faults
          ends.done.later.faults opening.1.failed)
      by (Some dir) (inr (later, inr (inl ending))) =
          not-done ending.2.mid (later-twice ending.2.mid ending.2.way.later) no_fault place
          ending.2.makes.1
      by (Some dir) (inr (later, inr (inr again))) =
          not-done again.mid (later-twice again.mid again.way.later) no_fault place again.not_done
