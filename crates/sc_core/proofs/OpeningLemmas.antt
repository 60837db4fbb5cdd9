-- The core of a job that begins is sound.
use Rattle.std.proofs.Common.{◌≡◌, ◌≢◌, ◌⊎◌, inl, inr, ℕ, zero, suc, ◌+◌, ◌-◌, ◌^◌, ◌<◌, All, Bool, true, false, List, [], ◌∷◌, ◌++◌, length, Option, Some, None, IfSome, option_map, replicate, slice_get, refl, ap, sym, subst, ◌∙◌, arith, rules, true≢false, length-append}
use Rattle.std.proofs.Math.Seq.{get_or-append_seam}
use Rattle.std.specs.List.{AllPairs, Contains, list_any}
use Rattle.std.proofs.lemmas.Bool.Decides.{nat_tests}
use Rattle.std.proofs.lemmas.List.Elements.{All-append, All-contains, All-cons, All-replicate, All-weaker}
use Rattle.sc_base.specs.Lists.{at_or}
use Rattle.sc_ids.specs.Graphs.{StageData}
use Rattle.sc_ids.specs.declared.attempts.AttemptId.{AttemptId}
use Rattle.sc_ids.specs.declared.limits.Limits.{Limits}
use Rattle.sc_ids.specs.declared.blocks.Loc.{Loc}
use Rattle.sc_ids.specs.declared.blocks.ShuffleId.{ShuffleId}
use Rattle.sc_ids.specs.declared.blocks.Target.{Target}
use Rattle.sc_ids.specs.declared.blocks.Target.TheVariants as targets
use Rattle.sc_plan.specs.Orders.{loss_of}
use Rattle.sc_tracker.specs.TrackerData.{TrackerData, output_of, trust_of}
use Rattle.sc_tracker.specs.Tracking.{has_room, sized}
use Rattle.sc_tracker.specs.TrackerFacts.{HasMarkBelow, IsSoundTracker}
use Rattle.sc_tracker.specs.Trust.{untold}
use Rattle.sc_dag.specs.DagData.{DagData, StageState, is_live_set, newest_at, no_stage, stage_at}
use Rattle.sc_dag.specs.Laws.{CallsKeepSound, SubmissionsSettle}
use Rattle.sc_dag.specs.Laws as dag
use Rattle.sc_dag.specs.Openings.{IsJob, Opens, blank_states, number_behind, sized_by, sized_for_all}
use Rattle.sc_dag.specs.Outputs.{is_complete}
use Rattle.sc_dag.specs.Settled.{IsSettled, IsSettledBy, IsUnderWay, will_go_on}
use Rattle.sc_dag.specs.Sound.{IsSoundDag, runner_of}
use Rattle.sc_dag.specs.Submission.{is_map, this_stage}
use Rattle.sc_dag.proofs.Moving.{newest_among}
use Rattle.sc_dag.proofs.Tests.{any_mono}
use Rattle.sc_core.specs.CoreData.{CoreData, result_stage}
use Rattle.sc_core.specs.Laws.{OpeningsAreSound}
use Rattle.sc_core.specs.Losses.{is_due_after}
use Rattle.sc_core.specs.Openings.{plan_behind, told_before, tracker_behind}
use Rattle.sc_core.specs.Sound.{AreTwo, IsShelvedWell, IsSoundJob, IsSoundShelf, RunsWell, is_shelved, AreOnLive, HasLive, IsLive, LeavesWell}
use Rattle.sc_core.proofs.StageCallLemmas.{submitted_calm}
use Rattle.sc_core.proofs.MoveLemmas.{Calm}
use Rattle.sc_core.proofs.StateLemmas.{runs_in}
use Rattle.sc_core.proofs.CallCarryLemmas.{submitted_carries}
use Rattle.sc_core.proofs.SaveOpenLemmas.{opened_saves}
use Rattle.sc_core.proofs.StaffLemmas.{live_still}
use Rattle.sc_core.proofs.TrackerCarryLemmas.{live_as}
use Rattle.sc_tracker.proofs.BlockLemmas.{sizes_for_all}

-- ---- stages that nothing was done for

blank_runs : (last : Option DagData) (n : ℕ) (stages : List StageData) (s : ℕ) (b : AttemptId)
    → runs_in (slice_get (blank_states last n stages) s) b ≡ None
blank_runs last n [] s b = refl
blank_runs last n (stage ∷ stages) zero b = refl
blank_runs last n (stage ∷ stages) (suc s) b = blank_runs last (n + 1) stages s b

blank_dead : (last : Option DagData) (n : ℕ) (stages : List StageData) (s : ℕ)
    → is_live_set (newest_among (slice_get (blank_states last n stages) s)) ≡ false
blank_dead last n [] s = refl
blank_dead last n (stage ∷ stages) zero = refl
blank_dead last n (stage ∷ stages) (suc s) = blank_dead last (n + 1) stages s

-- ---- the stages of a job

number_of_last : (maps : List StageData) (result : StageData)
    → number_behind (maps ++ result ∷ []) ≡ result.id + 1
number_of_last [] result = refl
number_of_last (x ∷ []) result = refl
number_of_last (x ∷ y ∷ ys) result = number_of_last (y ∷ ys) result

at_or_found : {A : Type 0} (xs : List A) (i : ℕ) (x d : A) → slice_get xs i ≡ Some x
    → at_or xs i d ≡ x
at_or_found [] i x d e = absurd (search (rules, e))
at_or_found (y ∷ ys) zero x d e = search (rules, e)
at_or_found (y ∷ ys) (suc i) x d e = at_or_found ys i x d e

-- what is known of the stages of a job that begins
record Begins (d : DagData) (result : StageData) : Type 0 where
  number : result_stage d ≡ result.id
  at : stage_at d (result_stage d) ≡ result
  maps : (s : ℕ) → s ≢ result_stage d
      → (is_map (stage_at d s).target ≡ true) ⊎ (stage_at d s ≡ no_stage)

begins : (graph : List StageData) (last : Option DagData) (t : TrackerData) (d : DagData)
    → (job : IsJob graph) → Opens graph last t d → Begins d job.result
begins graph last t d job opens =
    record {
      number = number;
      at = at_or_found d.stages (result_stage d) job.result no_stage
          (subst (λ (s : ℕ). slice_get d.stages s ≡ Some job.result) (sym number)
          (All-contains (λ x. slice_get d.stages x.id ≡ Some x) graph job.result
          opens.numbered.each is_one));
      maps = maps;
    }
  where
    number : result_stage d ≡ job.result.id
    number =
        let many : length d.stages ≡ job.result.id + 1 =
        opens.numbered.many ∙ ap number_behind job.all ∙ number_of_last job.maps job.result in
        omega (arith, many)

    is_one : Contains graph job.result
    is_one =
        subst (λ xs. Contains xs job.result) (sym job.all) (
          length job.maps,
          omega (arith, length-append job.maps (job.result ∷ [])),
          get_or-append_seam job.maps job.result [] job.result,
        )

    kinds : All (λ x. (is_map x.target ≡ true) ⊎ (x ≡ job.result)) graph
    kinds =
        subst (λ xs. All (λ x. (is_map x.target ≡ true) ⊎ (x ≡ job.result)) xs) (sym job.all)
        (All-append (λ x. (is_map x.target ≡ true) ⊎ (x ≡ job.result)) job.maps (job.result ∷ [])
        (All-weaker (λ x. is_map x.target ≡ true)
        (λ x. (is_map x.target ≡ true) ⊎ (x ≡ job.result)) (λ x h. inl h) job.maps job.are_maps)
        (All-cons (λ x. (is_map x.target ≡ true) ⊎ (x ≡ job.result)) job.result [] (inr refl)
        (λ i x l. absurd (omega (arith, l)))))

    maps : (s : ℕ) → s ≢ result_stage d
        → (is_map (stage_at d s).target ≡ true) ⊎ (stage_at d s ≡ no_stage)
    maps s other = by (opens.numbered.only s)
      where
        which : (stage_at d s).id ≡ s
            → (is_map (stage_at d s).target ≡ true) ⊎ (stage_at d s ≡ job.result)
            → (is_map (stage_at d s).target ≡ true) ⊎ (stage_at d s ≡ no_stage)
        which id (inl h) = inl h
        which id (inr h) =
            absurd (other (sym id ∙ ap (λ (x : StageData). x.id) h ∙ sym number))

        by : (stage_at d s ≡ no_stage)
            ⊎ (Contains graph (stage_at d s) × ((stage_at d s).id ≡ s))
            → (is_map (stage_at d s).target ≡ true) ⊎ (stage_at d s ≡ no_stage)
        by (inl h) = inr h
        by (inr (one, id)) =
            which id (All-contains (λ x. (is_map x.target ≡ true) ⊎ (x ≡ job.result)) graph
            (stage_at d s) kinds one)

-- ---- the tracker

behind_sound : (last : Option CoreData) (limits : Limits) → IfSome last LeavesWell
    → IsSoundTracker (tracker_behind last limits)
behind_sound None limits sound =
    record {
      outputs = λ i x l. absurd (omega (arith, l));
      marks = All-replicate (HasMarkBelow 0) limits.executors untold tt;
      events = omega arith;
    }
behind_sound (Some last) limits sound = sound.tracker

-- nobody is told lost at first
none_lost : (n e : ℕ) → (at_or (replicate n untold) e untold).lost ≡ false
none_lost zero e = refl
none_lost (suc n) zero = refl
none_lost (suc n) (suc e) = none_lost n e

-- room for outputs says nothing of executors
one_sized : (stage : StageData) (t : TrackerData) → (sized_by t stage).trust ≡ t.trust
one_sized stage t = by stage.target
  where
    room : (shuffle : ShuffleId) (b : Bool) → has_room t shuffle ≡ b
        → (sized t shuffle stage.tasks).trust ≡ t.trust
    room shuffle true e = rw e refl
    room shuffle false e = rw e refl

    by : (target : Target) → (sized_by t (record stage { target = target })).trust ≡ t.trust
    by (targets.Map shuffle) = room shuffle (has_room t shuffle) refl
    by (targets.Result node) = refl

pub all_sized : (graph : List StageData) (t : TrackerData) → (sized_for_all t graph).trust ≡ t.trust
all_sized [] t = refl
all_sized (stage ∷ graph) t = all_sized graph (sized_by t stage) ∙ one_sized stage t

-- nor where outputs lie
one_sized_placed :
    (stage : StageData) (t : TrackerData) → AreOnLive t → AreOnLive (sized_by t stage)
one_sized_placed stage t all = by stage.target
  where
    by : (target : Target) → AreOnLive (sized_by t (record stage { target = target }))
    by (targets.Map shuffle) =
        λ block. rw ((sizes_for_all t shuffle stage.tasks).1 block)
        (kept (output_of t block).here (all block))
      where
        same : (sized t shuffle stage.tasks).trust ≡ t.trust
        same = one_sized (record stage { target = targets.Map shuffle }) t

        kept : (here : Option Loc) → IfSome here (λ loc. IsLive t loc.exec)
            → IfSome here (λ loc. IsLive (sized t shuffle stage.tasks) loc.exec)
        kept None h = h
        kept (Some loc) h = live_as t (sized t shuffle stage.tasks) loc.exec same h
    by (targets.Result node) = all

all_sized_placed :
    (graph : List StageData) (t : TrackerData) → AreOnLive t
    → AreOnLive (sized_for_all t graph)
all_sized_placed [] t all = all
all_sized_placed (stage ∷ graph) t all =
    all_sized_placed graph (sized_by t stage) (one_sized_placed stage t all)

behind_placed : (last : Option CoreData) (limits : Limits) → IfSome last LeavesWell
    → AreOnLive (tracker_behind last limits)
behind_placed None limits sound = λ block. tt
behind_placed (Some last) limits sound = sound.placed

-- ---- the core

settled_by : (d : DagData) (submitted : ℕ → Bool) → IsSettled d → IsSettledBy d submitted
settled_by d submitted settled =
    record {
      dead = settled.dead;
      lacking = settled.lacking;
      waits = λ s w. by s (settled.waits s w);
      failed = settled.failed;
    }
  where
    will : (p : ℕ) → will_go_on d (λ s. false) p ≡ true → will_go_on d submitted p ≡ true
    will p e = grind (arith, nat_tests, e)

    by : (s : ℕ)
        → (false ≡ true) ⊎ (list_any (will_go_on d (λ s. false)) (stage_at d s).parents ≡ true)
        → (submitted s ≡ true)
        ⊎ (list_any (will_go_on d submitted) (stage_at d s).parents ≡ true)
    by s (inl e) = absurd (true≢false (sym e))
    by s (inr e) =
        inr (any_mono (will_go_on d (λ s. false)) (will_go_on d submitted) (stage_at d s).parents
        will e)

pub openings_by :
    CallsKeepSound → dag.OpeningsAreSound → SubmissionsSettle → OpeningsAreSound
openings_by calls opening settles graph limits saved plan last c job fits sound somebody o =
    record {
      job = sound_job;
      shelf = λ r. sound_shelf;
      save = λ r. opened_saves c o.dag before saved (this_stage (result_stage o.dag)) o.submits
          sound_job.result o.opens.states o.running o.committers;
      lost = λ e h. rw (o.told, o.plan_is)
          (planned last sound e (sym (trust e) ∙ h));
      told = rw o.told (counts last sound);
      staffed = λ other. live;
    }
  where
    d : DagData
    d = o.dag

    begin : Begins o.dag job.result
    begin =
        begins graph (option_map (λ l. l.dag) last) (tracker_behind last limits) o.dag job o.opens

    first : IsSoundDag o.dag × IsSettled o.dag × (is_complete o.dag job.result.id ≡ false)
    first =
        opening graph (option_map (λ l. l.dag) last) (tracker_behind last limits) o.dag job fits
        (behind_sound last limits sound) o.opens

    calm : Calm o.dag c.dag
    calm = submitted_calm o.dag c.dag (this_stage (result_stage o.dag)) o.submits

    before : Option DagData
    before = option_map (λ l. l.dag) last

    runs : (a : AttemptId) → runner_of c.dag a ≡ None
    runs a =
        calm.runners a
        ∙ ap (λ (states : List StageState). runs_in (slice_get states a.stage) a) o.opens.states
        ∙ blank_runs before 0 o.dag.stages a.stage a

    dead : (s : ℕ) → this_stage (result_stage o.dag) s ≡ true
        → is_live_set (newest_at o.dag s) ≡ false
    dead s e =
        ap (λ (states : List StageState). is_live_set (newest_among (slice_get states s)))
        o.opens.states
        ∙ blank_dead before 0 o.dag.stages s

    lacks : is_complete o.dag (result_stage o.dag) ≡ false
    lacks = subst (λ (s : ℕ). is_complete o.dag s ≡ false) (sym begin.number) first.2

    itself : this_stage (result_stage o.dag) (result_stage o.dag) ≡ true
    itself = grind (arith, nat_tests)

    on : dag.GoesOn o.dag c.dag
        × ((s : ℕ) → this_stage (result_stage o.dag) s ≡ true → is_complete o.dag s ≡ false
        → IsUnderWay c.dag s)
    on =
        settles o.dag (this_stage (result_stage o.dag)) c.dag first.0
        (settled_by o.dag (this_stage (result_stage o.dag)) first.1) dead o.submits

    placed : AreOnLive o.dag.tracker
    placed =
        subst AreOnLive (sym o.opens.tracker)
        (all_sized_placed graph (tracker_behind last limits) (behind_placed last limits sound))

    sound_job : IsSoundJob c
    sound_job =
        record {
          dag = (calls d first.0).0 (this_stage (result_stage d)) c.dag o.submits;
          result = rw (calm.stages, begin.at) job.is_result;
          maps = rw calm.stages begin.maps;
          running = subst (λ rs. All (RunsWell c) rs) (sym o.running)
              (λ i r l. absurd (omega (arith, l)));
          known = λ a exec r. absurd (search (rules, r, runs a));
          placed = (submitted_carries o.dag c.dag (this_stage (result_stage o.dag))
              o.submits).placed placed;
          apart = subst (λ rs. AllPairs AreTwo rs) (sym o.running)
              (λ i j r lt l. absurd (omega (arith, l)));
          budget = rw o.handed (omega arith);
          goes_on = λ r. record {
            settled = on.0.0;
            result = subst (λ (s : ℕ). IsUnderWay c.dag s)
                (ap (λ (all : List StageData). length all - 1) (sym calm.stages))
                (on.1 (result_stage d) itself lacks);
          };
          done = λ e. absurd (search (rules, e, o.job));
        }

    sound_shelf : IsSoundShelf c
    sound_shelf =
        record {
          out = subst (λ rs. All (λ r. r.is_out ≡ false
              → is_shelved c.shelf r.hand_out.attempt ≡ true) rs) (sym o.running)
              (λ i r l. absurd (omega (arith, l)));
          each = subst (λ ss. All (IsShelvedWell c) ss) (sym o.shelf)
              (λ i s l. absurd (omega (arith, l)));
          rising = subst (λ ss. AllPairs (λ s t. s.key < t.key) ss) (sym o.shelf)
              (λ i j s lt l. absurd (omega (arith, l)));
        }

    trust : (e : ℕ)
        → (trust_of c.dag.tracker e).lost ≡ (trust_of (tracker_behind last limits) e).lost
    trust e =
        calm.lost e
        ∙ ap (λ (t : TrackerData). (trust_of t e).lost) o.opens.tracker
        ∙ ap (λ ts. (at_or ts e untold).lost) (all_sized graph (tracker_behind last limits))

    live : HasLive c.dag.tracker
    live =
        live_still (tracker_behind last limits) c.dag.tracker
        (calm.many ∙ ap (λ (t : TrackerData). length t.trust) o.opens.tracker
        ∙ ap length (all_sized graph (tracker_behind last limits)))
        trust somebody

    planned : (before : Option CoreData) → IfSome before LeavesWell → (e : ℕ)
        → (trust_of (tracker_behind before limits) e).lost ≡ true
        → is_due_after (loss_of (plan_behind before plan) e) (told_before before) ≡ true
    planned None s e h = absurd (true≢false (sym h ∙ none_lost limits.executors e))
    planned (Some before) s e h = s.lost e h

    counts : (before : Option CoreData) → IfSome before LeavesWell → told_before before < 2 ^ 64
    counts None s = omega arith
    counts (Some before) s = s.told
