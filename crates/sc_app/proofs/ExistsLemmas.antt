-- A directory that is there when an action is to save to it is told.
use Rattle.std.proofs.Common.{◌≡◌, ◌∙◌, ◌⊎◌, ℕ, zero, suc, ◌+◌, ◌<◌, ◌≤◌, inl, inr, true, false, true≢false, List, [], ◌∷◌, length, Option, Some, None, refl, sym, ap, subst, arith}
use Rattle.std.specs.Option.{option_to_list}
use Rattle.std.specs.Prelude.{slice_get, unwrap_or}
use Rattle.std.proofs.lemmas.Option.{slice_get_within}
use Rattle.sc_base.specs.Lists.{at_or}
use Rattle.sc_base.specs.Outside.{Changes, FilesState}
use Rattle.sc_base.specs.Saves.{IsApart}
use Rattle.sc_base.specs.Trees.{Path, Tree, has_dir}
use Rattle.sc_base.specs.declared.refusals.OrMemory.TheVariants.{Fault}
use Rattle.sc_lineage.specs.Actions.{HasText}
use Rattle.sc_lineage.specs.Saves.{AreApart, SavesAreLawful, SavesAt, dir_of_action, saved_by}
use Rattle.sc_lineage.specs.ScriptData.{ActionData, WorkData, collect_action, save_action}
use Rattle.sc_output.specs.NameLaws.{NamesLieWithin}
use Rattle.sc_output.specs.Names.{staging_path}
use Rattle.sc_output.specs.Saved.{IsUnderWay}
use Rattle.sc_plan.specs.Plans.{PlansHaveOneReading}
use Rattle.sc_script.specs.Parsing.{HaveOneReading}
use Rattle.sc_staging.specs.Opening.{IsInTheWay}
use Rattle.sc_core.specs.declared.journals.JobHistory.{JobHistory}
use Rattle.sc_jobs.specs.declared.goals.Goal.{Goal}
use Rattle.sc_jobs.specs.declared.goals.Goal.TheVariants as goals
use Rattle.sc_desk.specs.Files.{dir_of_job}
use Rattle.sc_context.specs.Files.{HaveLeft, LeavesFiles, LeavesIn, StopsIn, begun_tree}
use Rattle.sc_context.specs.Histories.{HasCome}
use Rattle.sc_context.specs.Progress.{IsNext, Progress, actions_behind, first_progress}
use Rattle.sc_context.specs.declared.stops.JobFault.TheVariants as faults
use Rattle.sc_context.proofs.FilesLemmas.{gone_once}
use Rattle.sc_print.specs.Printing.{EndsOver, HasDoneOver}
use Rattle.sc_print.proofs.SavedLemmas.{left-saved}
use Rattle.sc_app.specs.declared.ran.Status.{Status}
use Rattle.sc_app.specs.declared.ran.Status.TheVariants as statuses
use Rattle.sc_app.specs.Exactly.{IsFirstInTheWay, IsUnlessMemory, TellsAbort, TellsDevice, TellsExists}
use Rattle.sc_app.specs.Handed.{IsRun, RanAllJobs}
use Rattle.sc_app.specs.Promises.{Ends}
use Rattle.sc_app.specs.Runs.{RunData, HasReadWork}
use Rattle.sc_app.proofs.EndingLemmas.{not_bad, not_faulty, not_next, not_planless, not_refused}
use Rattle.sc_app.proofs.FileLemmas.{saves-to}
use Rattle.sc_app.proofs.ReadingLemmas.{one_work}
use Rattle.sc_app.proofs.WithoutTextLemmas.{faults_without, has_text, in_order}

-- the directory of a save that is known
dir-saved : (actions : List ActionData) (k node : ℕ) (dir : Path)
    → slice_get actions k ≡ Some (save_action node dir)
    → dir_of_action (at_or actions k (collect_action 0)) ≡ Some dir
dir-saved [] k node dir is = absurd cc
dir-saved (action ∷ actions) zero node dir is =
    ap (λ (o : Option ActionData). dir_of_action (unwrap_or o action)) is
dir-saved (action ∷ actions) (suc k) node dir is = dir-saved actions k node dir is

-- what showed before a change of it
was-so : (R : Tree → Tree → Type 0) (a b : Option Tree) (t : Tree) → a ≡ Some t → Changes R a b
    → (u : Tree) × R t u
was-so R None b t is changes = absurd cc
was-so R (Some s) None t is changes = absurd changes
was-so R (Some s) (Some u) t is changes = (u, subst (λ v. R v u) (one is) changes)
  where
    one : Some s ≡ Some t → s ≡ t
    one e = cc

module _ (laws : SavesAreLawful) (names : NamesLieWithin) (work : WorkData) (opening : Tree)
    (apart : AreApart work.script opening) where
  -- the files behind so many actions
  abbrev behind : ℕ → Tree
  behind k = saved_by work k opening

  module _ (k : ℕ) (dir : Path) (saves : SavesAt work k dir) where
    -- a save that is done found no directory there
    in-job : (p : Progress) (goal : Goal) → IsNext work p goal → (tried : Option JobHistory)
        (h : JobHistory) (before after : FilesState) → before.shown ≡ Some (behind p.actions)
        → LeavesFiles work goal tried h before after → p.actions ≤ k
        → k < actions_behind goal p.actions → has_dir (behind k) dir ≡ false
    in-job p (goals.Bounds sort) next tried h before after shown left least more =
        absurd (omega (arith, least, more))
    in-job p (goals.Action number) next tried h before after shown left least more =
        let same : p.actions ≡ k = omega (arith, least, more) in
        let leaves : LeavesIn (Some dir) work (goals.Action k) tried h before after =
        subst (λ d. LeavesIn d work (goals.Action k) tried h before after)
        (dir-saved work.script.actions k saves.0 dir saves.1)
        (subst (λ n. LeavesFiles work (goals.Action n) tried h before after) (next.0 ∙ same)
        left).left
        in
        (was-so (λ t u. (has_dir t dir ≡ false) × IsUnderWay dir (begun_tree tried dir t) u)
        before.shown leaves.0.mid.shown (behind k) (shown ∙ ap (λ n. Some (behind n)) same)
        leaves.0.way.way).1.0

    -- in jobs one behind the other, up to past it
    in-jobs : (histories given_up : List JobHistory) (p q : Progress)
        (come : HasCome work p histories given_up q) (before after : FilesState)
        → HaveLeft work p histories given_up q come before after
        → before.shown ≡ Some (behind p.actions) → p.actions ≤ k → k < q.actions
        → has_dir (behind k) dir ≡ false
    in-jobs [] given_up p q come before after left shown least more =
        let same : q.actions ≡ p.actions = ap (λ (r : Progress). r.actions) come.0 in
        absurd (omega (arith, same, least, more))
    in-jobs (h ∷ histories) given_up p q come before after (then, leaves, left) shown least more =
        let done = come.done in
        let now : come.mid.actions ≡ actions_behind done.goal p.actions =
        ap (λ (r : Progress). r.actions) done.behind in
        let one = gone_once work p come.mid come.tried h before then done leaves in
        let saved = left-saved laws work opening apart (h ∷ []) (option_to_list come.tried) p
        come.mid one.come before then one.left shown in
        by (in_order k come.mid.actions)
        (λ past. in-job p done.goal done.is.next come.tried h before then shown leaves least
        (subst (λ n. k < n) now past))
        (λ still. in-jobs histories come.rest come.mid q come.then then after left saved still
        more)
      where
        by : (k < come.mid.actions) ⊎ ((k ≡ come.mid.actions) ⊎ (come.mid.actions < k))
            → (k < come.mid.actions → has_dir (behind k) dir ≡ false)
            → (come.mid.actions ≤ k → has_dir (behind k) dir ≡ false)
            → has_dir (behind k) dir ≡ false
        by (inl past) one others = one past
        by (inr (inl same)) one others = others (omega (arith, same))
        by (inr (inr more)) one others = others (omega (arith, more))

    -- so the action isn't done where it is there
    pub not-done : (before after : FilesState) (history given_up : List JobHistory) (n : ℕ)
        → before.shown ≡ Some opening → HasDoneOver work before after history given_up n → k < n
        → has_dir (behind k) dir ≡ true → ⊥
    not-done before after history given_up n shown over past there =
        true≢false (sym there
        ∙ in-jobs history given_up (first_progress work) over.progress over.come before after
        over.left shown (omega arith) (subst (λ m. k < m) (sym over.at) past))

  -- what stood in the way of a save that was refused: its directory itself
  in-its-way : (i : ℕ) (dir path : Path) → SavesAt work i dir → (u : Tree)
      → IsInTheWay dir path (behind i) u → (path ≡ dir) × (has_dir (behind i) dir ≡ true)
  in-its-way i dir path saves u (inl there) = (there.0, there.1)
  in-its-way i dir path saves u (inr staging) =
      let bare : IsApart dir (behind i) =
      laws.apart work i dir opening apart saves staging.1 in
      absurd (true≢false (sym staging.2 ∙ bare.dirs (staging_path dir) (names.staging dir)))

  pub refused : (before after : FilesState) (history given_up : List JobHistory) (i : ℕ)
      (path : Path) → before.shown ≡ Some opening
      → EndsOver work before after history given_up i (Fault (faults.Exists path))
      → SavesAt work i path × (has_dir (behind i) path ≡ true)
  refused before after history given_up i path shown ends =
      by (dir_of_job work (goals.Action i)) refl ends.over
    where
      by : (d : Option Path) → dir_of_job work (goals.Action i) ≡ d
          → StopsIn work ends.given d ends.mid after (Fault (faults.Exists path))
          → SavesAt work i path × (has_dir (behind i) path ≡ true)
      by None is over = absurd over.1
      by (Some dir) is (inl over) = absurd over.1
      by (Some dir) is (inr over) =
          let saves = saves-to work.script.actions i dir is in
          let was = was-so (IsInTheWay dir path) ends.mid.shown after.shown (behind i)
          (ends.done.saved opening shown apart) over.1.2 in
          let way = in-its-way i dir path saves was.0 was.1 in
          subst (λ d. SavesAt work i d × (has_dir (behind i) d ≡ true)) (sym way.0) (saves, way.1)

module _ (law : HaveOneReading) (plans : PlansHaveOneReading) (laws : SavesAreLawful)
    (names : NamesLieWithin) (run : RunData) (history given_up : List JobHistory)
    (work : WorkData) (k : ℕ) (dir : Path) (read : HasReadWork run.words run.reads work)
    (way : IsFirstInTheWay run work k dir) where
  abbrev Told : Status → Type 0
  Told status = TellsAbort status ⊎ (IsUnlessMemory (statuses.OutputExists dir) status
      ⊎ ((status ≡ statuses.WriteFault) ⊎ TellsDevice status))

  -- the work that was run is this one
  this : (other : WorkData) → HasReadWork run.words run.reads other → other ≡ work
  this other was = one_work law plans run.words run.reads other work was read

  -- the action wasn't done
  undone : (other : WorkData) → HasReadWork run.words run.reads other → (n : ℕ)
      (after : FilesState) (histories given : List JobHistory)
      → HasDoneOver other run.files_before after histories given n → k < n → ⊥
  undone other was n after histories given over past =
      not-done laws names work way.opening way.apart k dir way.saves run.files_before after
      histories given n way.shown
      (subst (λ (w : WorkData). HasDoneOver w run.files_before after histories given n)
      (this other was) over) past way.there

  known : k < length work.script.actions
  known = slice_get_within work.script.actions k (save_action way.saves.0 dir) way.saves.1

  told-done : RanAllJobs run history given_up → ⊥
  told-done (other, was, over) =
      undone other was (length other.script.actions) run.files_after history given_up over
      (subst (λ (w : WorkData). k < length w.script.actions) (sym (this other was)) known)

  -- a directory that stopped the run is this one
  told-exists : (other : WorkData) → HasReadWork run.words run.reads other → (i : ℕ) (path : Path)
      → EndsOver other run.files_before run.files_after history given_up i
      (Fault (faults.Exists path)) → path ≡ dir
  told-exists other was i path ends = by (in_order i k)
    where
      here : EndsOver work run.files_before run.files_after history given_up i
          (Fault (faults.Exists path))
      here =
          subst (λ (w : WorkData). EndsOver w run.files_before run.files_after history given_up i
          (Fault (faults.Exists path))) (this other was) ends

      found : SavesAt work i path
          × (has_dir (saved_by work i way.opening) path ≡ true)
      found =
          refused laws names work way.opening way.apart run.files_before run.files_after history
          given_up i path way.shown here

      by : (i < k) ⊎ ((i ≡ k) ⊎ (k < i)) → path ≡ dir
      by (inl less) = absurd (true≢false (sym found.1 ∙ way.first i path less found.0))
      by (inr (inl same)) =
          let one : Some path ≡ Some dir =
          sym (dir-saved work.script.actions i found.0.0 path found.0.1)
          ∙ ap (λ n. dir_of_action (at_or work.script.actions n (collect_action 0))) same
          ∙ dir-saved work.script.actions k way.saves.0 dir way.saves.1 in
          cc
      by (inr (inr more)) =
          absurd (undone other was i ends.mid ends.front ends.given_front ends.done more)

  -- the driver has no fault before it
  told-driver : (other : WorkData) → HasReadWork run.words run.reads other → (i : ℕ)
      → HasDoneOver other run.files_before run.files_after history given_up (i + 1)
      → (a : ActionData) → slice_get other.script.actions i ≡ Some a → (HasText other a → ⊥) → ⊥
  told-driver other was i over a is none = by (in_order i k)
    where
      by : (i < k) ⊎ ((i ≡ k) ⊎ (k < i)) → ⊥
      by (inl less) =
          none (subst (λ (w : WorkData). HasText w a) (sym (this other was))
          (has_text work work.script.actions k i a way.texts less
          (subst (λ (w : WorkData). slice_get w.script.actions i ≡ Some a) (this other was) is)))
      by (inr (inl same)) =
          undone other was (i + 1) run.files_after history given_up over (omega (arith, same))
      by (inr (inr more)) =
          undone other was (i + 1) run.files_after history given_up over (omega (arith, more))

  told : (status : Status) → Ends run history given_up status
      → (status ≡ statuses.Done → RanAllJobs run history given_up) → Told status
  told statuses.Done ends jobs = absurd (told-done (jobs refl))
  told statuses.Usage ends jobs = absurd (not_refused law plans run history given_up work read ends)
  told (statuses.Script f) ends jobs =
      absurd (not_faulty law plans run history given_up work read f ends)
  told (statuses.Plan f) ends jobs =
      absurd (not_planless law plans run history given_up work read f ends)
  told (statuses.Input name missing) ends jobs =
      absurd (not_next law plans run history given_up work read name ends.is_next)
  told (statuses.Aborted abort) ends jobs = inl (abort, refl)
  told (statuses.DriverFault i f) ends jobs =
      absurd (told-driver ends.work ends.read i ends.jobs ends.stops.action ends.stops.is_action
      (faults_without ends.work ends.stops.action f ends.stops.faults_so))
  told (statuses.OutputExists path) ends jobs =
      inr (inl (inl (ap (λ (d : Path). statuses.OutputExists d)
      (told-exists ends.work ends.read ends.k path ends.over))))
  told (statuses.Device path) ends jobs = inr (inr (inr (path, refl)))
  told statuses.WriteFault ends jobs = inr (inr (inl refl))
  told statuses.OutOfMemory ends jobs = inr (inl (inr refl))
  told (statuses.NotText name) ends jobs =
      absurd (not_bad law plans run history given_up work read name ends)

pub tells_exists : HaveOneReading → PlansHaveOneReading → SavesAreLawful → NamesLieWithin
    → (run : RunData) (history given_up : List JobHistory) (status : Status)
    → IsRun run history given_up status → TellsExists run status
tells_exists law plans laws names run history given_up status is = λ work k dir read way.
    told law plans laws names run history given_up work k dir read way status is.ends is.jobs
