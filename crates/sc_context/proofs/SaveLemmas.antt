-- What a save that is done leaves.
use Rattle.std.proofs.Common.{◌≡◌, ◌∙◌, ℕ, List, [], ◌∷◌, map, Option, Some, None, refl, ap, sym, subst}
use Rattle.std.specs.Prelude.{IfSome, Result, Ok}
use Rattle.sc_base.specs.Outside.{Changes, FilesState}
use Rattle.sc_base.specs.Saves.{saved_tree}
use Rattle.sc_base.specs.Trees.{Path, Tree}
use Rattle.sc_base.specs.declared.refusals.OrMemory.{OrMemory}
use Rattle.sc_value.specs.Datum.{Datum}
use Rattle.sc_value.specs.Printing.{printed_lines}
use Rattle.sc_lineage.specs.Actions.{action_outcome, local_results, saves}
use Rattle.sc_lineage.specs.Saves.{dir_of_action}
use Rattle.sc_lineage.specs.ScriptData.{ActionData, WorkData, IsSoundScript, collect_action, count_action, reduce_action, save_action}
use Rattle.sc_lineage.specs.Streams.{whole_stream}
use Rattle.sc_lineage.specs.declared.streams.Stream.{Stream}
use Rattle.sc_laws.specs.Skips.{OutcomeLaw}
use Rattle.sc_compute.specs.Evaluations.{local_outcome}
use Rattle.sc_compute.specs.declared.results.TaskResult.{TaskResult}
use Rattle.sc_compute.proofs.SettleLemmas.{saved_parts}
use Rattle.sc_output.proofs.CallLemmas.{later-then}
use Rattle.sc_staging.specs.Laws.{WaysGoOn}
use Rattle.sc_core.specs.declared.journals.JobHistory.{JobHistory}
use Rattle.sc_jobs.specs.JobData.{IsGoal, goal_action}
use Rattle.sc_jobs.specs.declared.goals.Goal.{Goal}
use Rattle.sc_jobs.proofs.NodeLemmas.{goal_known}
use Rattle.sc_desk.specs.Files.{dir_of_job, part_texts}
use Rattle.sc_context.specs.Files.{LeavesIn}
use Rattle.sc_context.specs.Jobs.{AreResultsFor}
use Rattle.sc_context.specs.Outputs.{HasBegunIn, IsOpenIn, WentIn}
use Rattle.sc_context.specs.declared.stops.JobFault.{JobFault}
use Rattle.sc_context.proofs.FilesLemmas.{begun_same}
use Rattle.sc_context.proofs.RenewalLemmas.{begun_since, begun_under, goes_since}

-- the action that saves to a directory
save_is : (action : ActionData) (dir : Path) → dir_of_action action ≡ Some dir
    → (node : ℕ) × (action ≡ save_action node dir)
save_is (save_action node other) dir is = (node, ap (save_action node) cc)
save_is (collect_action node) dir is = absurd cc
save_is (count_action node) dir is = absurd cc
save_is (reduce_action node e) dir is = absurd cc

-- the texts of parts whose rows don't raise
texts_of_rows : (rows : List (List Datum))
    → map (λ (s : Stream). printed_lines s.rows) (map whole_stream rows) ≡ map printed_lines rows
texts_of_rows [] = refl
texts_of_rows (r ∷ rows) = ap (λ texts. printed_lines r ∷ texts) (texts_of_rows rows)

-- a save gives the texts that its parts have
save_gives : OutcomeLaw → (work : WorkData) (goal : Goal) (dir : Path)
    (results : List TaskResult) → IsSoundScript work.script → IsGoal work goal
    → dir_of_job work goal ≡ Some dir → AreResultsFor work goal results
    → action_outcome work (goal_action work goal) ≡ saves dir (part_texts work goal)
save_gives law work goal dir results sound known is are =
    let found = save_is (goal_action work goal) dir is in
    let whole = subst (λ a. local_results work a ≡ map whole_stream are.rows) found.1 are.whole in
    sym (law work (goal_action work goal) sound (goal_known work goal sound known))
    ∙ ap (λ a. local_outcome work a) found.1
    ∙ saved_parts work found.0 dir are.rows whole
    ∙ ap (saves dir) (sym (texts_of_rows are.rows)
    ∙ ap (map (λ (s : Stream). printed_lines s.rows)) (sym are.whole))

-- a tree that is there behind one
saved_shown : (dir : Path) (texts : List (List ℕ)) (opening : Tree) (a : Option Tree)
    → Changes (λ t u. Unit {0}) (Some opening) a
    → IfSome a (λ t. t ≡ saved_tree dir texts opening) → a ≡ Some (saved_tree dir texts opening)
saved_shown dir texts opening None shown is = absurd shown
saved_shown dir texts opening (Some t) shown is = ap Some is

pub went_leaves : {A : Type 0} (ways : WaysGoOn) (law : OutcomeLaw) (work : WorkData)
    (goal : Goal) (tried : Option JobHistory) (h : JobHistory) (given : List TaskResult)
    (dir : Option Path) (before opened begun after : FilesState) (a : A)
    (results : Result A (OrMemory JobFault)) → results ≡ Ok a → IsSoundScript work.script
    → IsGoal work goal → dir_of_job work goal ≡ dir → AreResultsFor work goal given
    → IsOpenIn dir before opened → HasBegunIn tried dir opened begun
    → WentIn dir work goal h.end begun after results
    → LeavesIn dir work goal tried h before after
went_leaves ways law work goal tried h given dir before opened begun after a results ok sound known
    is are open_is began went =
    by dir is open_is began went
  where
    by : (dir : Option Path) → dir_of_job work goal ≡ dir → IsOpenIn dir before opened
        → HasBegunIn tried dir opened begun
        → WentIn dir work goal h.end begun after results
        → LeavesIn dir work goal tried h before after
    by None is open_is began went =
        subst (WentIn None work goal h.end begun after) ok went
        ∙ begun_same tried opened begun began ∙ open_is
    by (Some dir) is open_is began went =
        let w = subst (WentIn (Some dir) work goal h.end begun after) ok went in
        let c = w.1 in
        let since = begun_since ways dir before opened open_is tried begun began in
        let later = later-then before begun after since.later w.0 in (
          record {
            mid = c.made.mid;
            way = goes_since ways dir before opened open_is tried begun c.made.mid since
                c.made.later c.made.goes;
            winners = c.winners;
            are_winners = c.are_winners;
            commits = c.made.makes;
            texts = part_texts work goal;
            gives = save_gives law work goal dir given sound known is are;
            saved = λ opening shown apart.
                saved_shown dir (part_texts work goal) opening after.shown
                (subst (λ o. Changes (λ t u. Unit {0}) o after.shown) shown later.shown)
                (c.saved opening apart
                (begun_under ways dir before opened open_is tried begun began opening shown apart));
          },
          later,
        )
