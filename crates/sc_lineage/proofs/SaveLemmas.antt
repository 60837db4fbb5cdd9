-- What saves leave, one behind another.
use Rattle.std.proofs.Common.{◌≡◌, ◌≢◌, ◌∙◌, ◌⊎◌, inl, inr, ℕ, zero, suc, ◌+◌, false, true≢false, All, List, [], ◌∷◌, Option, Some, None, Ok, Err, map, refl, ap, sym, subst, arith}
use Rattle.std.specs.Prelude.{slice_get, take, unwrap_or}
use Rattle.std.specs.List.{IsDistinct, cons_option}
use Rattle.std.specs.Str.{bytes_eq}
use Rattle.std.proofs.lemmas.List.Elements.{All-cons, All-head, All-nil, All-tail, All-weaker, All-from_recursion}
use Rattle.std.proofs.lemmas.Map.Keys.{IsDistinct-head, IsDistinct-tail}
use Rattle.std.proofs.lemmas.Slice.Eq.{bytes_eq-Decides}
use Rattle.sc_base.specs.Saves.{IsApart, saved_tree}
use Rattle.sc_base.specs.Trees.{Tree, Path, has_dir, lies_under, with_dir}
use Rattle.sc_base.proofs.SaveLemmas.{saves_keep_apart}
use Rattle.sc_base.proofs.TreeLemmas.{has_dir-with_dir, has_dir-with_dir_other}
use Rattle.sc_value.specs.Datum.{Datum}
use Rattle.sc_expr.specs.ExprData.{ExprData}
use Rattle.sc_expr.specs.Heads.{Outcome}
use Rattle.sc_lineage.specs.declared.streams.Stream.{Stream}
use Rattle.sc_lineage.specs.Actions.{ActionOutcome, action_outcome, first_raise, folded, outcome_of_rows, printed_outcome, reduced, result_of, rows_of_each, saves, unless_never}
use Rattle.sc_lineage.specs.Meaning.{node_streams}
use Rattle.sc_lineage.specs.Saves.{AreApart, CanSaveAll, SavesAreLawful, SavesAt, after_actions, after_outcome, dir_of_action, saved_by, saved_dirs}
use Rattle.sc_lineage.specs.ScriptData.{ActionData, WorkData, collect_action, count_action, reduce_action, save_action, node_of_action}

-- ---- what one action leaves

-- an action is a save that was done
record IsSaved (action : ActionData) (t u : Tree) : Type 0 where
  dir : Path
  texts : List (List ℕ)
  saves_to : dir_of_action action ≡ Some dir
  leaves : u ≡ saved_tree dir texts t

-- what results give, unless one raises
unless-same : (t : Tree) (outcome : ActionOutcome) (raised : Option ℕ)
    → after_outcome t outcome ≡ t → after_outcome t (unless_never raised outcome) ≡ t
unless-same t outcome None e = e
unless-same t outcome (Some p) e = refl

printed-same : (t : Tree) (outcome : Outcome) → after_outcome t (printed_outcome outcome) ≡ t
printed-same t (Ok d) = refl
printed-same t (Err r) = refl

reduced-same : (t : Tree) (e : ExprData) (rows : List Datum) → after_outcome t (reduced e rows) ≡ t
reduced-same t e [] = refl
reduced-same t e (d ∷ ds) = printed-same t (folded e d ds)

unless-saved : (t : Tree) (node : ℕ) (dir : Path) (texts : List (List ℕ)) (raised : Option ℕ)
    → (after_outcome t (unless_never raised (saves dir texts)) ≡ t)
    ⊎ IsSaved (save_action node dir) t (after_outcome t (unless_never raised (saves dir texts)))
unless-saved t node dir texts None =
    inr (record { dir = dir; texts = texts; saves_to = refl; leaves = refl })
unless-saved t node dir texts (Some p) = inl refl

module _ (work : WorkData) (t : Tree) where
  abbrev results : ActionData → List Stream
  results action = map (result_of action) (node_streams work (node_of_action action))

  abbrev rows_of : ActionData → List (List Datum)
  rows_of action = rows_of_each (results action)

  abbrev after : ActionData → Tree
  after action = after_outcome t (action_outcome work action)

  -- all is as it was, or the action is a save that was done
  after-action : (action : ActionData) → (after action ≡ t) ⊎ IsSaved action t (after action)
  after-action (collect_action node) =
      inl (unless-same t (outcome_of_rows (collect_action node) (rows_of (collect_action node)))
      (first_raise (results (collect_action node))) refl)
  after-action (count_action node) =
      inl (unless-same t (outcome_of_rows (count_action node) (rows_of (count_action node)))
      (first_raise (results (count_action node))) refl)
  after-action (reduce_action node e) =
      inl (unless-same t (outcome_of_rows (reduce_action node e) (rows_of (reduce_action node e)))
      (first_raise (results (reduce_action node e)))
      (reduced-same t e _))
  after-action (save_action node dir) =
      unless-saved t node dir _ (first_raise (results (save_action node dir)))

-- ---- the directories of actions

cons-tail : (P : Path → Type 0) (o : Option Path) (dirs : List Path) → All P (cons_option o dirs)
    → All P dirs
cons-tail P None dirs all = all
cons-tail P (Some d) dirs all = All-tail P d dirs all

cons-head : (P : Path → Type 0) (o : Option Path) (dirs : List Path) (dir : Path) → o ≡ Some dir
    → All P (cons_option o dirs) → P dir
cons-head P None dirs dir is all = absurd cc
cons-head P (Some d) dirs dir is all =
    subst P (ap (λ o. unwrap_or o d) is) (All-head P d dirs all)

cons-both : (P : Path → Type 0) (o : Option Path) (dirs : List Path)
    → ((dir : Path) → o ≡ Some dir → P dir) → All P dirs → All P (cons_option o dirs)
cons-both P None dirs one all = all
cons-both P (Some d) dirs one all = All-cons P d dirs (one d refl) all

-- what holds of all directories holds of that of a save
at-save : (P : Path → Type 0) (actions : List ActionData) (k node : ℕ) (dir : Path)
    → slice_get actions k ≡ Some (save_action node dir) → All P (saved_dirs actions) → P dir
at-save P [] k node dir is all = absurd cc
at-save P (action ∷ actions) zero node dir is all =
    cons-head P (dir_of_action action) (saved_dirs actions) dir
    (ap (λ o. dir_of_action (unwrap_or o action)) is) all
at-save P (action ∷ actions) (suc k) node dir is all =
    at-save P actions k node dir is
    (cons-tail P (dir_of_action action) (saved_dirs actions) all)

-- and of those of the first actions
of-first : (P : Path → Type 0) (actions : List ActionData) (k : ℕ) → All P (saved_dirs actions)
    → All P (saved_dirs (take k actions))
of-first P actions zero all = All-nil P
of-first P [] (suc k) all = All-nil P
of-first P (action ∷ actions) (suc k) all =
    cons-both P (dir_of_action action) (saved_dirs (take k actions))
    (λ dir is. cons-head P (dir_of_action action) (saved_dirs actions) dir is all)
    (of-first P actions k (cons-tail P (dir_of_action action) (saved_dirs actions) all))

-- where no directory is saved twice, none of those before a save is its own
none-before : (actions : List ActionData) (k node : ℕ) (dir : Path)
    → IsDistinct bytes_eq (saved_dirs actions)
    → slice_get actions k ≡ Some (save_action node dir)
    → All (λ other. other ≢ dir) (saved_dirs (take k actions))
none-before actions zero node dir once is = All-nil (λ other. other ≢ dir)
none-before [] (suc k) node dir once is = absurd cc
none-before (action ∷ actions) (suc k) node dir once is =
    by (dir_of_action action) (λ once. none-before actions k node dir once is) once
  where
    by : (o : Option Path)
        → (IsDistinct bytes_eq (saved_dirs actions)
        → All (λ other. other ≢ dir) (saved_dirs (take k actions)))
        → IsDistinct bytes_eq (cons_option o (saved_dirs actions))
        → All (λ other. other ≢ dir) (cons_option o (saved_dirs (take k actions)))
    by None behind once = behind once
    by (Some d) behind once =
        All-cons (λ other. other ≢ dir) d (saved_dirs (take k actions))
        (λ same. true≢false (sym ((bytes_eq-Decides d dir).1 same)
        ∙ at-save (λ other. bytes_eq d other ≡ false) actions k node dir is
        (All-from_recursion (λ other. bytes_eq d other ≡ false) (saved_dirs actions)
        (IsDistinct-head bytes_eq d (saved_dirs actions) once))))
        (behind (IsDistinct-tail bytes_eq d (saved_dirs actions) once))

-- ---- actions one behind another

step-from : (work : WorkData) (actions : List ActionData) (k : ℕ) (action : ActionData) (t : Tree)
    → slice_get actions k ≡ Some action
    → after_actions work t (take (suc k) actions)
    ≡ after_outcome (after_actions work t (take k actions)) (action_outcome work action)
step-from work [] k action t is = absurd cc
step-from work (first ∷ actions) zero action t is =
    ap (λ o. after_outcome t (action_outcome work (unwrap_or o first))) is
step-from work (first ∷ actions) (suc k) action t is =
    step-from work actions k action (after_outcome t (action_outcome work first)) is

module _ (work : WorkData) (dir : Path) where
  -- a directory that isn't there at last is apart, where it was unless it was there
  stays-apart : (actions : List ActionData) (t : Tree)
      → All (λ other. lies_under dir other ≡ false) (saved_dirs actions)
      → All (λ other. lies_under other dir ≡ false) (saved_dirs actions)
      → (has_dir t dir ≡ false → IsApart dir t)
      → has_dir (after_actions work t actions) dir ≡ false
      → IsApart dir (after_actions work t actions)
  stays-apart [] t under over bare absent = bare absent
  stays-apart (action ∷ actions) t under over bare absent =
      stays-apart actions next
      (cons-tail (λ other. lies_under dir other ≡ false) (dir_of_action action)
      (saved_dirs actions) under)
      (cons-tail (λ other. lies_under other dir ≡ false) (dir_of_action action)
      (saved_dirs actions) over)
      (by (after-action work t action)) absent
    where
      next : Tree
      next = after_outcome t (action_outcome work action)

      Bare : Tree → Type 0
      Bare u = has_dir u dir ≡ false → IsApart dir u

      by : (next ≡ t) ⊎ IsSaved action t next → Bare next
      by (inl same) = subst Bare (sym same) bare
      by (inr saved) = subst Bare (sym saved.leaves) (λ absent.
          let other = saved.dir in
          let differ : dir ≢ other =
          λ same. true≢false (sym (ap (has_dir (with_dir t other)) same ∙ has_dir-with_dir t other)
          ∙ absent) in
          saves_keep_apart dir other saved.texts t
          (bare (sym (has_dir-with_dir_other t other dir differ) ∙ absent)) differ
          (cons-head (λ o. lies_under dir o ≡ false) (dir_of_action action) (saved_dirs actions)
          other saved.saves_to under)
          (cons-head (λ o. lies_under o dir ≡ false) (dir_of_action action) (saved_dirs actions)
          other saved.saves_to over))

  -- a directory that is saved by none of the actions doesn't come to be there
  stays-absent : (actions : List ActionData) (t : Tree)
      → All (λ other. other ≢ dir) (saved_dirs actions) → has_dir t dir ≡ false
      → has_dir (after_actions work t actions) dir ≡ false
  stays-absent [] t differ absent = absent
  stays-absent (action ∷ actions) t differ absent =
      stays-absent actions next
      (cons-tail (λ other. other ≢ dir) (dir_of_action action) (saved_dirs actions) differ)
      (by (after-action work t action))
    where
      next : Tree
      next = after_outcome t (action_outcome work action)

      by : (next ≡ t) ⊎ IsSaved action t next → has_dir next dir ≡ false
      by (inl same) = ap (λ u. has_dir u dir) same ∙ absent
      by (inr saved) =
          ap (λ u. has_dir u dir) saved.leaves
          ∙ has_dir-with_dir_other t saved.dir dir
          (λ same. cons-head (λ other. other ≢ dir) (dir_of_action action) (saved_dirs actions)
          saved.dir saved.saves_to differ (sym same))
          ∙ absent

-- ---- the laws

apart-there : (work : WorkData) (k : ℕ) (dir : Path) (opening : Tree)
    → AreApart work.script opening → SavesAt work k dir
    → has_dir (saved_by work k opening) dir ≡ false → IsApart dir (saved_by work k opening)
apart-there work k dir opening apart at absent =
    let actions = work.script.actions in
    let of_this : All (λ other. lies_under dir other ≡ false) (saved_dirs actions) =
    at-save (λ d. All (λ other. lies_under d other ≡ false) (saved_dirs actions)) actions k at.0
    dir at.1 apart.beside in
    let of_others : All (λ other. lies_under other dir ≡ false) (saved_dirs actions) =
    All-weaker (λ d. All (λ other. lies_under d other ≡ false) (saved_dirs actions))
    (λ other. lies_under other dir ≡ false)
    (λ d all. at-save (λ other. lies_under d other ≡ false) actions k at.0 dir at.1 all)
    (saved_dirs actions) apart.beside in
    stays-apart work dir (take k actions) opening
    (of-first (λ other. lies_under dir other ≡ false) actions k of_this)
    (of-first (λ other. lies_under other dir ≡ false) actions k of_others)
    (at-save (λ d. has_dir opening d ≡ false → IsApart d opening) actions k at.0 dir at.1
    apart.bare)
    absent

absent-there : (work : WorkData) (k : ℕ) (dir : Path) (opening : Tree)
    → CanSaveAll work.script opening → SavesAt work k dir
    → has_dir (saved_by work k opening) dir ≡ false
absent-there work k dir opening can at =
    let actions = work.script.actions in
    stays-absent work dir (take k actions) opening
    (none-before actions k at.0 dir can.once at.1)
    (at-save (λ d. has_dir opening d ≡ false) actions k at.0 dir at.1 can.absent)

pub saves_are_lawful : SavesAreLawful
saves_are_lawful = record {
  step = λ work k action opening is.
      let next : k + 1 ≡ suc k = omega arith in
      ap (λ n. saved_by work n opening) next
      ∙ step-from work work.script.actions k action opening is;
  apart = apart-there;
  all_apart = λ work k dir opening can at.
      apart-there work k dir opening can.apart at (absent-there work k dir opening can at);
}
