-- The files of a save that begins again, or couldn't.
use Rattle.std.proofs.Common.{◌≡◌, ◌≢◌, ◌∙◌, inl, inr, ◌&&◌, ◌||◌, Bool, true, false, true≢false, cond, not, List, Option, Some, None, refl, ap, sym, subst}
use Rattle.std.specs.Prelude.{IfSome, Err}
use Rattle.std.specs.Cmp.Lexicographic.{slice_cmp, nat_list_cmp_total}
use Rattle.std.specs.FinSet as sets
use Rattle.std.specs.Ordering.{nat_cmp, eq_by_cmp}
use Rattle.sc_base.specs.Outside.{Changes, FilesState, IsLaterFiles}
use Rattle.sc_base.specs.Saves.{IsApart}
use Rattle.sc_base.specs.Trees.{Dirs, Path, Tree, file_at, has_dir, is_in, lies_under, without_tree}
use Rattle.sc_base.specs.declared.refusals.OrMemory.{OrMemory}
use Rattle.sc_base.specs.declared.refusals.OrMemory.TheVariants.{Fault, OutOfMemory}
use Rattle.sc_base.proofs.ChangeLemmas.{changes-after, changes-compose, changes-none, changes-weaker}
use Rattle.sc_base.proofs.PathLemmas.{is_in-itself, lies_under-itself}
use Rattle.sc_base.proofs.TreeLemmas.{by_bytes, file_at-without_tree, has_dir-without_tree, ties-other}
use Rattle.sc_lineage.specs.ScriptData.{WorkData}
use Rattle.sc_output.specs.Commits.{abort_calls}
use Rattle.sc_output.specs.Names.{staging_path}
use Rattle.sc_output.specs.Saved.{IsUnderWay}
use Rattle.sc_output.proofs.CallLemmas.{later-then}
use Rattle.sc_output.proofs.SavedLemmas.{in_staging-under}
use Rattle.sc_staging.specs.Laws.{StaysUnderWay, WaysGoOn}
use Rattle.sc_staging.specs.Opening.{IsOpened}
use Rattle.sc_staging.specs.Renewal.{cleared_tree, renewed_tree}
use Rattle.sc_core.specs.declared.journals.JobHistory.{JobHistory}
use Rattle.sc_context.specs.Files.{EndsBy, FailsIn, IsOfNoFiles, IsOpenSince, IsTriedIn, StopsIn, begun_tree}
use Rattle.sc_context.specs.Outputs.{HasBegunIn, IsLeftOpen, IsNotBegun, IsOpenIn, IsRenewedIn, RefusesRenewalIn}
use Rattle.sc_context.specs.declared.stops.JobFault.{JobFault}
use Rattle.sc_context.specs.declared.stops.JobFault.TheVariants as faults

-- ---- trees

and_false : (a : Bool) → (a && false) ≡ false
and_false true = refl
and_false false = refl

and_true : (a : Bool) → (a && true) ≡ a
and_true true = refl
and_true false = refl

-- the directory of a save isn't in its staging area
not_within : (dir q : Path) → is_in (staging_path dir) q ≡ true → q ≢ dir
not_within dir q within e =
    true≢false (sym (in_staging-under dir q within) ∙ ap (lies_under dir) e ∙ lies_under-itself dir)

not_staging : (dir q : Path) → is_in (staging_path dir) q ≡ false → q ≢ staging_path dir
not_staging dir q beside e =
    true≢false (sym (ap (is_in (staging_path dir)) e ∙ is_in-itself (staging_path dir)) ∙ beside)

-- what a removal of the staging area leaves of the directories of a save under way
cleared_dirs : (dir : Path) (t u : Tree) → IsUnderWay dir t u
    → (cleared_tree dir u).dirs ≡ sets.insert (cleared_tree dir t).dirs dir
cleared_dirs dir t u way =
    sets.same_set nat_list_cmp_total by_bytes _ _ (λ q.
    has_dir-without_tree u (staging_path dir) q
    ∙ ap (λ (ds : Dirs). sets.contains ds q && not (is_in (staging_path dir) q)) way.dirs
    ∙ at q (is_in (staging_path dir) q) refl
    ∙ sym (sets.contains-insert nat_list_cmp_total (cleared_tree dir t).dirs dir q
    ∙ ap (λ b. eq_by_cmp (slice_cmp nat_cmp) q dir || b)
    (has_dir-without_tree t (staging_path dir) q)))
  where
    at : (q : Path) (b : Bool) → is_in (staging_path dir) q ≡ b
        → (sets.contains (sets.insert (sets.insert t.dirs dir) (staging_path dir)) q && not b)
        ≡ (eq_by_cmp (slice_cmp nat_cmp) q dir || (has_dir t q && not (is_in (staging_path dir) q)))
    at q true within =
        and_false (sets.contains (sets.insert (sets.insert t.dirs dir) (staging_path dir)) q)
        ∙ sym (ap (λ b. b || (has_dir t q && not (is_in (staging_path dir) q)))
        (ties-other q dir (not_within dir q within))
        ∙ ap (λ b. has_dir t q && not b) within ∙ and_false (has_dir t q))
    at q false beside =
        and_true (sets.contains (sets.insert (sets.insert t.dirs dir) (staging_path dir)) q)
        ∙ sets.contains-insert nat_list_cmp_total (sets.insert t.dirs dir) (staging_path dir) q
        ∙ ap (λ b. b || sets.contains (sets.insert t.dirs dir) q)
        (ties-other q (staging_path dir) (not_staging dir q beside))
        ∙ sets.contains-insert nat_list_cmp_total t.dirs dir q
        ∙ sym (ap (λ b. eq_by_cmp (slice_cmp nat_cmp) q dir || (has_dir t q && not b)) beside
        ∙ ap (λ b. eq_by_cmp (slice_cmp nat_cmp) q dir || b) (and_true (has_dir t q)))

-- files beside the staging area stay
beside_stays : (dir q : Path) (t : Tree) → lies_under (staging_path dir) q ≡ false
    → file_at (without_tree t (staging_path dir)) q ≡ file_at t q
beside_stays dir q t beside =
    file_at-without_tree t (staging_path dir) q
    ∙ ap (λ b. cond (not b) (file_at t q) None) beside

-- with its staging area made anew a save is under way since the tree without what lay there
under_renewed : (dir : Path) (t u : Tree) → IsUnderWay dir t u
    → IsUnderWay dir (cleared_tree dir t) (renewed_tree dir u)
under_renewed dir t u way =
    record {
      dirs = ap (λ (ds : Dirs). sets.insert ds (staging_path dir)) (cleared_dirs dir t u way);
      files = λ q beside. beside_stays dir q u beside ∙ way.files q beside
          ∙ sym (beside_stays dir q t beside);
    }

-- ---- a save under way

abbrev IsWay : Option JobHistory → Path → Tree → Tree → Type 0
IsWay tried dir t u = (has_dir t dir ≡ false) × IsUnderWay dir (begun_tree tried dir t) u

-- A save that was opened.
module _ (ways : WaysGoOn) (dir : Path) (before opened : FilesState)
    (open_is : IsOpenIn (Some dir) before opened) where
  opened_since : IsOpenSince None dir before opened
  opened_since =
      record {
        later = open_is.0;
        way = changes-weaker (IsOpened dir) (IsWay None dir) before.shown opened.shown
            (λ t u is. (is.place, subst (IsUnderWay dir t) (sym is.made) (ways.opened dir t)))
            open_is.2;
      }

  -- it goes on
  pub goes_since : (tried : Option JobHistory) (a b : FilesState) → IsOpenSince tried dir before a
      → IsLaterFiles a b → Changes (StaysUnderWay dir) a.shown b.shown
      → IsOpenSince tried dir before b
  goes_since tried a b since later goes =
      record {
        later = later-then before a b since.later later;
        way = changes-compose (IsWay tried dir) (StaysUnderWay dir) (IsWay tried dir) before.shown
            a.shown b.shown
            (λ t u v way stays. (way.0, stays (begun_tree tried dir t) way.1)) since.way goes;
      }

  -- as its executors left it that gave it up
  left_since : (left : FilesState) → IsLeftOpen (Some dir) opened left
      → IsOpenSince None dir before left
  left_since left lay = goes_since None opened left opened_since lay.0 lay.1

  -- and with its staging area made anew
  renewed_since : (tried : JobHistory) (a b : FilesState) → IsOpenSince None dir before a
      → IsRenewedIn (Some dir) a b → IsOpenSince (Some tried) dir before b
  renewed_since tried a b since renewed =
      record {
        later = later-then before a b since.later renewed.0;
        way = changes-compose (IsWay None dir) (λ u v. v ≡ renewed_tree dir u)
            (IsWay (Some tried) dir) before.shown a.shown b.shown
            (λ t u v way is. (
              way.0,
              subst (IsUnderWay dir (cleared_tree dir t)) (sym is) (under_renewed dir t u way.1),
            )) since.way renewed.2;
      }

  -- as its job begins
  pub begun_since : (tried : Option JobHistory) (begun : FilesState)
      → HasBegunIn tried (Some dir) opened begun → IsOpenSince tried dir before begun
  begun_since None begun same =
      subst (λ (f : FilesState). IsOpenSince None dir before f) (sym same) opened_since
  begun_since (Some tried) begun (left, lay, renewed) =
      renewed_since tried left begun (left_since left lay) renewed

  -- where nothing lay below its staging area it is under way since that tree itself
  opened_under : (opening : Tree) → before.shown ≡ Some opening
      → IfSome opened.shown (IsUnderWay dir opening)
  opened_under opening shown =
      by opened.shown (subst (λ o. Changes (IsOpened dir) o opened.shown) shown open_is.2)
    where
      by : (o : Option Tree) → Changes (IsOpened dir) (Some opening) o
          → IfSome o (IsUnderWay dir opening)
      by None is = tt
      by (Some t) is = subst (IsUnderWay dir opening) (sym is.made) (ways.opened dir opening)

  pub begun_under : (tried : Option JobHistory) (begun : FilesState)
      → HasBegunIn tried (Some dir) opened begun → (opening : Tree)
      → before.shown ≡ Some opening → IsApart dir opening
      → IfSome begun.shown (IsUnderWay dir opening)
  begun_under None begun same opening shown apart =
      subst (λ (f : FilesState). IfSome f.shown (IsUnderWay dir opening)) (sym same)
      (opened_under opening shown)
  begun_under (Some tried) begun (left, lay, renewed) opening shown apart =
      changes-after (λ u v. v ≡ renewed_tree dir u) (IsUnderWay dir opening)
      (IsUnderWay dir opening) left.shown begun.shown
      (λ u v under is. subst (IsUnderWay dir opening)
      (sym (is ∙ ways.renewed dir opening u apart under)) (ways.opened dir opening))
      (changes-after (StaysUnderWay dir) (IsUnderWay dir opening) (IsUnderWay dir opening)
      opened.shown left.shown (λ t u was stays. stays opening was)
      (opened_under opening shown) lay.1)
      renewed.2

  -- ---- a job that was given up and didn't begin again

  module _ (work : WorkData) (given : List JobHistory) (tried : JobHistory)
      (own : IsTriedIn work given (Some tried)) (left : FilesState)
      (lay : IsLeftOpen (Some dir) opened left) where
    -- memory ran out while nothing was done since
    abbrev Left : FilesState → Type 0
    Left after =
        EndsBy work given dir before after (abort_calls dir) (Err OutOfMemory)

    still_ends : (by : Option JobHistory) → IsTriedIn work given by → (after : FilesState)
        → IsOpenSince by dir before after → Left after
    still_ends by its after since =
        record {
          tried = by;
          own = its;
          mid = after;
          way = since;
          makes = (
            record { faults = refl; clashes = refl },
            changes-none _ after.shown (λ t. inl refl),
          );
        }

    -- or in the call that removes the staging area
    cleared_ends : (after : FilesState) → RefusesRenewalIn dir left after OutOfMemory → Left after
    cleared_ends after refused =
        record {
          tried = None;
          own = tt;
          mid = left;
          way = left_since left lay;
          makes = (refused.0, refused.1);
        }

    refused_fails : (after : FilesState) (why : OrMemory JobFault)
        → RefusesRenewalIn dir left after why → FailsIn work given dir before after why
    refused_fails after (Fault (faults.Aborted abort)) refused = absurd refused
    refused_fails after (Fault (faults.Exists path)) refused = absurd refused
    refused_fails after (Fault (faults.Device path)) refused =
        inr (inr (record {
          tried = tried;
          own = own;
          mid = left;
          way = left_since left lay;
          at = refused.0;
          not_done = refused.1;
          half = refused.2;
        }))
    refused_fails after OutOfMemory refused =
        inr (abort_calls dir, inl refl, inr (cleared_ends after refused))

    no_memory : (after : FilesState) → Left after → FailsIn work given dir before after OutOfMemory
    no_memory after ends = inr (abort_calls dir, inl refl, inr ends)

    pub not_begun_fails : (after : FilesState) (why : OrMemory JobFault)
        → IsNotBegun (Some dir) left after why
        → IsLaterFiles before after × FailsIn work given dir before after why
    not_begun_fails after why (inl (none, inl same)) =
        let since = subst (λ (f : FilesState). IsOpenSince None dir before f) (sym same)
        (left_since left lay) in (
          since.later,
          subst (FailsIn work given dir before after) (sym none)
              (no_memory after (still_ends None tt after since)),
        )
    not_begun_fails after why (inl (none, inr renewed)) =
        let since = renewed_since tried left after (left_since left lay) renewed in (
          since.later,
          subst (FailsIn work given dir before after) (sym none)
              (no_memory after (still_ends (Some tried) own after since)),
        )
    not_begun_fails after why (inr refused) = (
      later-then before left after (left_since left lay).later refused.0,
      refused_fails after why refused.1,
    )

-- the files of a job that was given up and didn't begin again
pub not_begun_stops : (ways : WaysGoOn) (work : WorkData) (given : List JobHistory)
    (tried : JobHistory) (dir : Option Path) (before opened left after : FilesState)
    (why : OrMemory JobFault) → IsOpenIn dir before opened → IsLeftOpen dir opened left
    → IsNotBegun dir left after why
    → ((p : Path) → dir ≡ Some p → IsTriedIn work given (Some tried))
    → StopsIn work given dir before after why
not_begun_stops ways work given tried None before opened left after why is lay
    (inl (none, inl same)) own =
    (same ∙ lay.1 ∙ is, subst IsOfNoFiles (sym none) tt)
not_begun_stops ways work given tried None before opened left after why is lay
    (inl (none, inr same)) own =
    (same ∙ lay.1 ∙ is, subst IsOfNoFiles (sym none) tt)
not_begun_stops ways work given tried None before opened left after why is lay (inr refused) own =
    absurd refused
not_begun_stops ways work given tried (Some dir) before opened left after why is lay not_begun
    own =
    inr (not_begun_fails ways dir before opened is work given tried (own dir refl) left lay after
    why not_begun)
