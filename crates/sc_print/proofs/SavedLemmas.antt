-- What the jobs of actions leave of the files: what their saves leave by the sequential meaning.
use Rattle.std.proofs.Common.{◌≡◌, ◌∙◌, ℕ, zero, suc, List, [], ◌∷◌, map, take, false, subst, sym, ap, refl, add-one, arith, rules, Option, Some, None}
use Rattle.std.specs.Prelude.{slice_get, Ok, Err}
use Rattle.sc_base.specs.Lists.{at_or}
use Rattle.sc_base.specs.Outside.{Changes, FilesState, IsLaterFiles}
use Rattle.sc_base.specs.Trees.{Path, Tree, has_dir}
use Rattle.sc_base.proofs.ChangeLemmas.{changes-none}
use Rattle.sc_value.specs.Datum.{Datum}
use Rattle.sc_expr.specs.ExprData.{ExprData}
use Rattle.sc_expr.specs.Heads.{Outcome}
use Rattle.sc_lineage.specs.Actions.{ActionOutcome, action_outcome, first_raise, folded, outcome_of_results, outcome_of_rows, printed_outcome, reduced, result_of, rows_of_each, rows_together, unless_never}
use Rattle.sc_lineage.specs.Meaning.{node_streams}
use Rattle.sc_lineage.specs.Saves.{AreApart, SavesAreLawful, after_actions, after_outcome, dir_of_action, saved_by}
use Rattle.sc_lineage.specs.ScriptData.{ActionData, WorkData, collect_action, count_action, reduce_action, save_action}
use Rattle.sc_lineage.specs.declared.streams.Stream.{Stream}
use Rattle.sc_output.specs.Saved.{IsUnderWay}
use Rattle.sc_output.proofs.CallLemmas.{later-then}
use Rattle.sc_core.specs.declared.journals.JobHistory.{JobHistory}
use Rattle.sc_jobs.specs.JobData.{goal_action}
use Rattle.sc_jobs.specs.declared.goals.Goal.{Goal}
use Rattle.sc_jobs.specs.declared.goals.Goal.TheVariants as goals
use Rattle.sc_desk.specs.Files.{dir_of_job}
use Rattle.sc_context.specs.Files.{HaveLeft, LeavesFiles, LeavesIn, begun_tree}
use Rattle.sc_context.specs.Histories.{HasCome}
use Rattle.sc_context.specs.Progress.{IsNext, Progress, actions_behind}

-- ---- files go on

-- files are later than themselves
pub later-same : (s : FilesState) → IsLaterFiles s s
later-same s =
    record {
      shown = changes-none (λ t u. Unit {0}) s.shown (λ t. tt);
      faults = omega arith;
      clashes = omega arith;
    }

-- a job that is done leaves later files
leaves-later : (dir : Option Path) (work : WorkData) (goal : Goal) (tried : Option JobHistory)
    (h : JobHistory) (before after : FilesState) → LeavesIn dir work goal tried h before after
    → IsLaterFiles before after
leaves-later None work goal tried h before after left =
    subst (λ s. IsLaterFiles before s) (sym left) (later-same before)
leaves-later (Some dir) work goal tried h before after left = left.1

-- and so do jobs one behind the other
pub left-later : (work : WorkData) (histories given_up : List JobHistory) (p q : Progress)
    (come : HasCome work p histories given_up q) (before after : FilesState)
    → HaveLeft work p histories given_up q come before after → IsLaterFiles before after
left-later work [] given_up p q come before after left =
    subst (λ s. IsLaterFiles before s) (sym left) (later-same before)
left-later work (h ∷ histories) given_up p q come before after (then, leaves, left) =
    later-then before then after
    (leaves-later (dir_of_job work come.done.goal) work come.done.goal come.tried h before then
    leaves.left)
    (left-later work histories come.rest come.mid q come.then then after left)

-- ---- what an action leaves by its outcome

-- nothing, where it never has one
never-leaves : (t : Tree) (first : Option ℕ) (outcome : ActionOutcome)
    → after_outcome t outcome ≡ t → after_outcome t (unless_never first outcome) ≡ t
never-leaves t None outcome same = same
never-leaves t (Some p) outcome same = refl

-- nothing, where it is a fold
printed-leaves : (t : Tree) (o : Outcome) → after_outcome t (printed_outcome o) ≡ t
printed-leaves t (Ok d) = refl
printed-leaves t (Err r) = refl

fold-leaves : (t : Tree) (e : ExprData) (rows : List Datum) → after_outcome t (reduced e rows) ≡ t
fold-leaves t e [] = refl
fold-leaves t e (d ∷ ds) = printed-leaves t (folded e d ds)

-- an outcome of results leaves what that of their rows does, or nothing
results-leave : (t : Tree) (action : ActionData) (results : List Stream)
    → after_outcome t (outcome_of_rows action (rows_of_each results)) ≡ t
    → after_outcome t (outcome_of_results action results) ≡ t
results-leave t action results same =
    never-leaves t (first_raise results) (outcome_of_rows action (rows_of_each results)) same

-- an action that is no save leaves nothing
no-save-leaves : (work : WorkData) (t : Tree) (action : ActionData) → dir_of_action action ≡ None
    → after_outcome t (action_outcome work action) ≡ t
no-save-leaves work t (collect_action node) none =
    results-leave t (collect_action node)
    (map (result_of (collect_action node)) (node_streams work node)) refl
no-save-leaves work t (count_action node) none =
    results-leave t (count_action node)
    (map (result_of (count_action node)) (node_streams work node)) refl
no-save-leaves work t (reduce_action node e) none =
    let results = map (result_of (reduce_action node e)) (node_streams work node) in
    results-leave t (reduce_action node e) results
    (fold-leaves t e (rows_together (rows_of_each results)))
no-save-leaves work t (save_action node dir) none = absurd (search (rules, none))

-- one action more leaves what its outcome does
next-leaves : (work : WorkData) (actions : List ActionData) (k : ℕ) (t : Tree)
    → after_actions work t (take (suc k) actions)
    ≡ after_outcome (after_actions work t (take k actions))
    (action_outcome work (at_or actions k (collect_action 0)))
next-leaves work [] zero t = sym (no-save-leaves work t (collect_action 0) refl)
next-leaves work [] (suc k) t = sym (no-save-leaves work t (collect_action 0) refl)
next-leaves work (action ∷ actions) zero t = refl
next-leaves work (action ∷ actions) (suc k) t =
    next-leaves work actions k (after_outcome t (action_outcome work action))

-- ---- what is saved

-- a save that stands at a place is there
save-at : (actions : List ActionData) (k node : ℕ) (dir : Path)
    → at_or actions k (collect_action 0) ≡ save_action node dir
    → slice_get actions k ≡ Some (save_action node dir)
save-at [] k node dir is = absurd (search (rules, is))
save-at (action ∷ actions) zero node dir is = ap Some is
save-at (action ∷ actions) (suc k) node dir is = save-at actions k node dir is

-- what showed before a change of it
was-so : (R : Tree → Tree → Type 0) (t : Tree) (after : Option Tree) → Changes R (Some t) after
    → (u : Tree) × R t u
was-so R t None change = absurd change
was-so R t (Some u) change = (u, change)

module _ (laws : SavesAreLawful) (work : WorkData) (opening : Tree)
    (apart : AreApart work.script opening)
  where
    -- an action that is done leaves what its outcome does
    action-saved : (k : ℕ) (tried : Option JobHistory) (h : JobHistory)
        (before after : FilesState)
        → before.shown ≡ Some (saved_by work k opening) → (action : ActionData)
        → goal_action work (goals.Action k) ≡ action
        → LeavesIn (dir_of_action action) work (goals.Action k) tried h before after
        → after.shown
        ≡ Some (after_outcome (saved_by work k opening) (action_outcome work action))
    action-saved k tried h before after shown (collect_action node) is left =
        ap (λ (s : FilesState). s.shown) left ∙ shown
        ∙ ap Some
        (sym (no-save-leaves work (saved_by work k opening) (collect_action node) refl))
    action-saved k tried h before after shown (count_action node) is left =
        ap (λ (s : FilesState). s.shown) left ∙ shown
        ∙ ap Some
        (sym (no-save-leaves work (saved_by work k opening) (count_action node) refl))
    action-saved k tried h before after shown (reduce_action node e) is left =
        ap (λ (s : FilesState). s.shown) left ∙ shown
        ∙ ap Some
        (sym (no-save-leaves work (saved_by work k opening) (reduce_action node e) refl))
    action-saved k tried h before after shown (save_action node dir) is left =
        let was = was-so
        (λ t u. (has_dir t dir ≡ false) × IsUnderWay dir (begun_tree tried dir t) u)
        (saved_by work k opening) left.0.mid.shown
        (subst (λ s. Changes
        (λ t u. (has_dir t dir ≡ false) × IsUnderWay dir (begun_tree tried dir t) u) s
        left.0.mid.shown) shown left.0.way.way) in
        left.0.saved (saved_by work k opening) shown
        (laws.apart work k dir opening apart
        (node, save-at work.script.actions k node dir is) was.1.0)
        ∙ ap (λ o. Some (after_outcome (saved_by work k opening) o))
        (sym left.0.gives ∙ ap (action_outcome work) is)

    -- so does a job that is done, by the actions that then have their value
    job-saved : (p : Progress) (goal : Goal) → IsNext work p goal → (tried : Option JobHistory)
        (h : JobHistory) (before after : FilesState)
        → before.shown ≡ Some (saved_by work p.actions opening)
        → LeavesFiles work goal tried h before after
        → after.shown ≡ Some (saved_by work (actions_behind goal p.actions) opening)
    job-saved p (goals.Action number) next tried h before after shown left =
        action-saved p.actions tried h before after shown
        (goal_action work (goals.Action p.actions)) refl
        (subst (λ n. LeavesFiles work (goals.Action n) tried h before after) next.0 left).left
        ∙ ap Some (sym (next-leaves work work.script.actions p.actions opening))
        ∙ ap (λ n. Some (saved_by work n opening)) (sym (add-one p.actions))
    job-saved p (goals.Bounds sort) next tried h before after shown left =
        ap (λ (s : FilesState). s.shown) left.left ∙ shown

    -- and jobs one behind the other
    pub left-saved : (histories given_up : List JobHistory) (p q : Progress)
        (come : HasCome work p histories given_up q) (before after : FilesState)
        → HaveLeft work p histories given_up q come before after
        → before.shown ≡ Some (saved_by work p.actions opening)
        → after.shown ≡ Some (saved_by work q.actions opening)
    left-saved [] given_up p q come before after left shown =
        ap (λ (s : FilesState). s.shown) left ∙ shown
        ∙ ap (λ (r : Progress). Some (saved_by work r.actions opening)) (sym come.0)
    left-saved (h ∷ histories) given_up p q come before after (then, leaves, left) shown =
        let done = come.done in
        left-saved histories come.rest come.mid q come.then then after left
        (job-saved p done.goal done.is.next come.tried h before then shown leaves
        ∙ ap (λ (r : Progress). Some (saved_by work r.actions opening)) (sym done.behind))
