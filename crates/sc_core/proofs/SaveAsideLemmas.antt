-- Who may commit, once an attempt of a save has staged its output, asked, or moved its output.
use Rattle.std.proofs.Common.{◌≡◌, ◌≢◌, ◌⊎◌, inl, inr, ℕ, ◌<◌, ◌==◌, ◌&&◌, All, Bool, true, false, cond, if◌then◌else◌, List, [], ◌∷◌, map, Option, Some, None, find, is_some, length, option_map, slice_get, refl, ap, sym, subst, ◌∙◌, arith, rules, true≢false}
use Rattle.std.proofs.lemmas.List.Elements.{All-map, All-weaker}
use Rattle.std.proofs.lemmas.Option.{slice_get_within}
use Rattle.sc_base.specs.Lists.{at_or}
use Rattle.sc_ids.specs.Graphs.{StageData}
use Rattle.sc_ids.specs.declared.attempts.AttemptId.{AttemptId}
use Rattle.sc_ids.proofs.ChangeLemmas.{at_or_change_other, at_or_change_same, at_or_slice_get, length_change_at}
use Rattle.sc_commit.specs.CommitLaws.{holder_of, winner_of}
use Rattle.sc_commit.specs.Committers.{committer_at, holder_in, winner_in}
use Rattle.sc_commit.specs.Committing.{answer_to, asked, denies, holds, is_same, permitted, permitted_at}
use Rattle.sc_commit.specs.declared.committers.Committer.{Committer}
use Rattle.sc_commit.specs.declared.committers.Committer.TheVariants.{Holder, Nobody, Winner}
use Rattle.sc_commit.specs.declared.committers.Permission.TheVariants as permissions
use Rattle.sc_commit.proofs.CommitLemmas.{asked_sound, change_sound}
use Rattle.sc_taskset.proofs.FindLemmas.{found_is, found_passes}
use Rattle.sc_dag.specs.DagData.{DagData, no_stage, stage_at}
use Rattle.sc_dag.specs.Outputs.{held_in, is_done}
use Rattle.sc_dag.specs.Reports.{after_hold}
use Rattle.sc_dag.proofs.Tests.{both_left, both_right, clash}
use Rattle.sc_core.specs.CoreData.{CoreData, is_of, job_runs, result_stage, running_of, with_dag}
use Rattle.sc_core.specs.Posts.{is_save}
use Rattle.sc_core.specs.Saving.{AsksBy, AsksIf, MovesIf, StagesIf, as_far, asked as core_asked, come_to, held_back, is_given, is_granted, is_out_of, is_staged, may_save, moved_by, phase_out, saver_phase, staged_by}
use Rattle.sc_core.specs.Sides.{LeavesIf, Sides, TicksIf}
use Rattle.sc_core.specs.Sound.{AreTwo, IsAsFar, IsSoundJob, IsSoundSave, SavesWell, has_grant}
use Rattle.sc_core.specs.declared.answers.SideAnswer.{SideAnswer}
use Rattle.sc_core.specs.declared.events.FileOutcome.{FileOutcome}
use Rattle.sc_core.specs.declared.events.FileOutcome.TheVariants as files
use Rattle.sc_core.specs.declared.events.SideEvent.{SideEvent}
use Rattle.sc_core.specs.declared.events.SideEvent.TheVariants.{Ask, Leave, Move, Stage, Tick}
use Rattle.sc_core.specs.declared.running.Phase.{Phase}
use Rattle.sc_core.specs.declared.running.Phase.TheVariants as phases
use Rattle.sc_core.specs.declared.running.Running.{Running}
use Rattle.sc_core.proofs.GrantLemmas.{apart, committer_other, equal, itself}
use Rattle.sc_core.proofs.HeldLemmas.{hold_here, hold_other}
use Rattle.sc_core.proofs.LeftLemmas.{same_saves}
use Rattle.sc_core.proofs.LookupLemmas.{is_itself, same_is}
use Rattle.sc_core.proofs.SaveLemmas.{Freed, HoldsAmong, done_same, result_same, saves_well, save_now, saves_now, saves_others, saves_stay}
use Rattle.sc_core.proofs.SaveTellLemmas.{calm_saves, stays_same}
use Rattle.sc_core.proofs.ShelfLemmas.{find_mapped, found_alone}
use Rattle.sc_core.proofs.PlaceLemmas.{clash as two_clash}
use Rattle.sc_core.proofs.TaskCallLemmas.{hold_calms, hold_results}
use Rattle.sc_core.proofs.RunningLemmas.{same_sym}

-- ---- who comes next

-- an attempt that runs, is out, and is of the result stage of a save
pub record IsSaver (c : CoreData) (a : AttemptId) (phase : Phase) : Type 0 where
  pub one : Running
  pub attempt : one.hand_out.attempt ≡ a
  pub well : SavesWell c one
  pub far : one.phase ≡ phase
  pub found : running_of c a ≢ None
  -- it is the only one of its numbers
  pub alone : All (λ r. is_of a r ≡ true → is_out_of a r ≡ true) c.running
  pub runs : job_runs c ≡ true
  pub saves : is_save c.committers ≡ true
  pub stage : a.stage ≡ result_stage c.dag

-- what passes a narrower test passes a wider one
found_wider : {A : Type 0} (p q : A → Bool) → ((x : A) → p x ≡ true → q x ≡ true) → (xs : List A)
    (one : A) → find p xs ≡ Some one → find q xs ≢ None
found_wider p q wider [] one e = absurd (search (rules, e))
found_wider {A = A} p q wider (x ∷ xs) one e =
    by (p x) (q x) refl refl e (λ f. found_wider p q wider xs one f)
  where
    by : (u v : Bool) → p x ≡ u → q x ≡ v → cond u (Some x) (find p xs) ≡ Some one
        → (find p xs ≡ Some one → find q xs ≢ None) → cond v (Some x) (find q xs) ≢ None
    by u true f g h rest = λ n. search (rules, n)
    by true false f g h rest = absurd (clash (wider x f) g)
    by false false f g h rest = rest h

-- who runs of these numbers is out, where one is
alone_out : (c : CoreData) (a : AttemptId) (one : Running) → IsSoundJob c
    → find (is_out_of a) c.running ≡ Some one
    → All (λ r. is_of a r ≡ true → is_out_of a r ≡ true) c.running
alone_out c a one job e =
    by (running_of c a) refl
    (found_wider (is_out_of a) (is_of a) (λ x p. both_left (is_of a x) x.is_out p) c.running one e)
  where
    passes : is_out_of a one ≡ true
    passes = found_passes (is_out_of a) c.running one e

    by : (o : Option Running) → running_of c a ≡ o → o ≢ None
        → All (λ r. is_of a r ≡ true → is_out_of a r ≡ true) c.running
    by None f n = absurd (n refl)
    by (Some q) f n =
        let all : All (λ y. is_of a y ≡ true → y ≡ q) c.running =
        found_alone AreTwo (is_of a) (two_clash a) c.running q job.apart f in
        let same : one ≡ q =
        found_is (λ y. is_of a y ≡ true → y ≡ q) (is_out_of a) c.running one all e
        (both_left (is_of a one) one.is_out passes) in
        All-weaker (λ y. is_of a y ≡ true → y ≡ q) (λ y. is_of a y ≡ true → is_out_of a y ≡ true)
        (λ y is h. subst (λ x. is_out_of a x ≡ true) (same ∙ sym (is h)) passes) c.running all

pub saver_of : (c : CoreData) (a : AttemptId) (phase : Phase) → IsSoundJob c → IsSoundSave c
    → saver_phase c a ≡ Some phase → IsSaver c a phase
saver_of c a phase job save is = by (may_save c a) refl is
  where
    one : may_save c a ≡ true → (o : Option Running) → find (is_out_of a) c.running ≡ o
        → option_map (λ r. r.phase) o ≡ Some phase → IsSaver c a phase
    one may None e h = absurd (search (rules, h))
    one may (Some r) e h =
        let passes : (is_of a r && r.is_out) ≡ true =
        found_passes (is_out_of a) c.running r e in
        let rest = both_right (job_runs c) _ may in
        record {
          one = r;
          attempt = same_is r.hand_out.attempt a (both_left (is_of a r) _ passes);
          well = found_is (SavesWell c) (is_out_of a) c.running r save.phases e;
          far = search (rules, h);
          found = found_wider (is_out_of a) (is_of a)
              (λ x p. both_left (is_of a x) x.is_out p) c.running r e;
          alone = alone_out c a r job e;
          runs = both_left (job_runs c) _ may;
          saves = both_left (is_save c.committers) _ rest;
          stage = equal a.stage (result_stage c.dag) (both_right (is_save c.committers) _ rest);
        }

    by : (b : Bool) → may_save c a ≡ b
        → (if b then phase_out a c.running else None) ≡ Some phase → IsSaver c a phase
    by false e h = absurd (search (rules, h))
    by true e h = one e (find (is_out_of a) c.running) refl h

pub given_is : (o : Option Phase) → is_given o ≡ true → o ≡ Some phases.Given
given_is None e = absurd (true≢false (sym e))
given_is (Some phases.Given) e = refl
given_is (Some phases.Staged) e = absurd (true≢false (sym e))
given_is (Some phases.Granted) e = absurd (true≢false (sym e))
given_is (Some phases.Denied) e = absurd (true≢false (sym e))
given_is (Some phases.Moved) e = absurd (true≢false (sym e))
given_is (Some (phases.Faulted fault)) e = absurd (true≢false (sym e))

pub staged_is : (o : Option Phase) → is_staged o ≡ true → o ≡ Some phases.Staged
staged_is None e = absurd (true≢false (sym e))
staged_is (Some phases.Given) e = absurd (true≢false (sym e))
staged_is (Some phases.Staged) e = refl
staged_is (Some phases.Granted) e = absurd (true≢false (sym e))
staged_is (Some phases.Denied) e = absurd (true≢false (sym e))
staged_is (Some phases.Moved) e = absurd (true≢false (sym e))
staged_is (Some (phases.Faulted fault)) e = absurd (true≢false (sym e))

pub granted_is : (o : Option Phase) → is_granted o ≡ true → o ≡ Some phases.Granted
granted_is None e = absurd (true≢false (sym e))
granted_is (Some phases.Given) e = absurd (true≢false (sym e))
granted_is (Some phases.Staged) e = absurd (true≢false (sym e))
granted_is (Some phases.Granted) e = refl
granted_is (Some phases.Denied) e = absurd (true≢false (sym e))
granted_is (Some phases.Moved) e = absurd (true≢false (sym e))
granted_is (Some (phases.Faulted fault)) e = absurd (true≢false (sym e))

-- it is as far as its grant tells
pub saver_far : (c : CoreData) (a : AttemptId) (phase : Phase) (s : IsSaver c a phase)
    → IsAsFar phase (has_grant c a)
saver_far c a phase s =
    subst (λ x. IsAsFar x (has_grant c a)) s.far
    (subst (λ b. IsAsFar s.one.phase (has_grant c b)) s.attempt s.well.far)

-- ---- an attempt comes further

far_same : (a b : AttemptId) (phase : Phase) (r : Running) → is_of b (as_far a phase r) ≡ is_of b r
far_same a b phase r = by (is_out_of a r)
  where
    by : (x : Bool) → is_of b (if x then record r { phase = phase } else r) ≡ is_of b r
    by true = refl
    by false = refl

pub find_far : (a b : AttemptId) (phase : Phase) (rs : List Running)
    → find (is_of b) (map (as_far a phase) rs)
    ≡ option_map (as_far a phase) (find (is_of b) rs)
find_far a b phase rs = find_mapped (is_of b) (as_far a phase) (far_same a b phase) rs

-- they run on, wherever they have come
far_some : (a b : AttemptId) (phase : Phase) (rs : List Running) → find (is_of b) rs ≢ None
    → find (is_of b) (map (as_far a phase) rs) ≢ None
far_some a b phase rs some = rw (find_far a b phase rs) (by (find (is_of b) rs) some)
  where
    by : (o : Option Running) → o ≢ None → option_map (as_far a phase) o ≢ None
    by None n = absurd (n refl)
    by (Some r) n = λ m. search (rules, m)

far_none : (a b : AttemptId) (phase : Phase) (rs : List Running) → find (is_of b) rs ≡ None
    → find (is_of b) (map (as_far a phase) rs) ≡ None
far_none a b phase rs e = find_far a b phase rs ∙ ap (option_map (as_far a phase)) e

-- each is as far as its grant tells, where this one is and the others are in the core after it
far_wells :
    (c after : CoreData) (a : AttemptId) (phase : Phase) → is_save after.committers ≡ true
    → a.stage ≡ result_stage after.dag → IsAsFar phase (has_grant after a)
    → ((r : Running) → is_same a r.hand_out.attempt ≡ false → SavesWell c r → SavesWell after r)
    → All (λ r. is_of a r ≡ true → is_out_of a r ≡ true) c.running
    → All (SavesWell c) c.running → All (SavesWell after) (map (as_far a phase) c.running)
far_wells c after a phase saves stage far others alone all =
    All-map (SavesWell after) (as_far a phase) c.running
    (All-weaker (λ r. (is_of a r ≡ true → is_out_of a r ≡ true) × SavesWell c r)
    (λ r. SavesWell after (as_far a phase r))
    (λ r w. by r w.1 w.0 (is_of a r) refl (is_out_of a r) refl) c.running
    (λ i d l. (alone i d l, all i d l)))
  where
    by : (r : Running) → SavesWell c r → (is_of a r ≡ true → is_out_of a r ≡ true)
        → (x : Bool) → is_of a r ≡ x → (y : Bool) → is_out_of a r ≡ y
        → SavesWell after (if y then record r { phase = phase } else r)
    by r w only false e false f =
        others r (same_sym a r.hand_out.attempt ∙ e) w
    by r w only true e false f = absurd (clash (only e) f)
    by r w only x e true f =
        let same : r.hand_out.attempt ≡ a =
        same_is r.hand_out.attempt a (both_left (is_of a r) r.is_out f) in
        record {
          saver = λ n. (saves, ap (λ (b : AttemptId). b.stage) same ∙ stage);
          far = subst (λ b. IsAsFar phase (has_grant after b)) (sym same) far;
        }

-- where who may commit stays
come_saves : (c : CoreData) (a : AttemptId) (phase before : Phase) → IsSoundJob c → IsSoundSave c
    → IsSaver c a before → IsAsFar phase (has_grant c a) → IsSoundSave (come_to c a phase)
come_saves c a phase before job save s far =
    save_now (come_to c a phase) (map (as_far a phase) c.running)
    (saves_stay [] (map (as_far a phase) c.running) c (come_to c a phase) job.result
    (stays_same c (come_to c a phase) refl refl)
    (saves_others [] [] c.running (map (as_far a phase) c.running) c
    (far_wells c c a phase s.saves s.stage far (λ r e w. w) s.alone save.phases)
    (λ p h e n runs. far_some a h phase c.running (runs refl))
    (λ w g e. far_none a w phase c.running e)
    (saves_now c save))) refl

-- ---- an attempt asks

asked_holds : (a x : AttemptId) (k : Committer) → is_same a x ≡ false
    → holds x (asked a k) ≡ holds x k
asked_holds a x Nobody e = e
asked_holds a x (Winner w) e = refl
asked_holds a x (Holder h d) e = by (is_same h a)
  where
    by : (b : Bool) → holds x (if b then Holder h d else Holder h true) ≡ is_same h x
    by true = refl
    by false = refl

pub asked_winner : (a : AttemptId) (k : Committer) → winner_in (asked a k) ≡ winner_in k
asked_winner a Nobody = refl
asked_winner a (Winner w) = refl
asked_winner a (Holder h d) = by (is_same h a)
  where
    by : (b : Bool) → winner_in (if b then Holder h d else Holder h true) ≡ None
    by true = refl
    by false = refl

asked_holder : (a h : AttemptId) (k : Committer) → holder_in (asked a k) ≡ Some h
    → (holder_in k ≡ Some h) ⊎ (a ≡ h)
asked_holder a h Nobody e = inr (search (rules, e))
asked_holder a h (Winner w) e = absurd (search (rules, e))
asked_holder a h (Holder g d) e = by (is_same g a) e
  where
    by : (b : Bool) → holder_in (if b then Holder g d else Holder g true) ≡ Some h
        → (Some g ≡ Some h) ⊎ (a ≡ h)
    by true f = inl f
    by false f = inl f

asked_denies : (a : AttemptId) (k : Committer) → denies (asked a k) ≡ false → denies k ≡ false
asked_denies a Nobody e = refl
asked_denies a (Winner w) e = refl
asked_denies a (Holder h d) e = by (is_same h a) e
  where
    by : (b : Bool) → denies (if b then Holder h d else Holder h true) ≡ false → d ≡ false
    by true f = f
    by false f = absurd (true≢false f)

-- what is held back, once a partition is where its committer denies
pub held_flags :
    (d : DagData) (a : AttemptId) (now : Bool) (result s p : ℕ) (denied : Bool)
    → a.stage ≡ result → a.partition < length (held_in (slice_get d.states a.stage))
    → (now ≡ false → (p == a.partition) ≡ true → denied ≡ false)
    → at_or (held_in (slice_get d.states s)) p false ≡ ((s == result) && denied)
    → at_or (held_in (slice_get
    (if now then after_hold d a.stage a.partition true else d).states s)) p false
    ≡ ((s == result) && (if p == a.partition then now else denied))
held_flags d a false result s p denied stage room free is =
    is ∙ by (p == a.partition) refl
  where
    by : (x : Bool) → (p == a.partition) ≡ x
        → ((s == result) && denied) ≡ ((s == result) && (if x then false else denied))
    by true e = ap (λ b. (s == result) && b) (free refl e)
    by false e = refl
held_flags d a true result s p denied stage room free is =
    by (s == result) refl (p == a.partition) refl
  where
    flags : List Bool
    flags = held_in (slice_get d.states a.stage)

    by : (x : Bool) → (s == result) ≡ x → (y : Bool) → (p == a.partition) ≡ y
        → at_or (held_in (slice_get (after_hold d a.stage a.partition true).states s)) p false
        ≡ (x && (if y then true else denied))
    by true e true f =
        let is_stage : s ≡ a.stage = equal s result e ∙ sym stage in
        let is_part : p ≡ a.partition = equal p a.partition f in
        ap (λ (r : ℕ). at_or (held_in (slice_get
        (after_hold d a.stage a.partition true).states r)) p false) is_stage
        ∙ ap (λ (q : ℕ). at_or (held_in (slice_get
        (after_hold d a.stage a.partition true).states a.stage)) q false) is_part
        ∙ ap (λ xs. at_or xs a.partition false) (hold_here d a.stage a.partition true)
        ∙ at_or_change_same flags a.partition false (λ b. true) room
    by true e false f =
        let is_stage : s ≡ a.stage = equal s result e ∙ sym stage in
        ap (λ (r : ℕ). at_or (held_in (slice_get
        (after_hold d a.stage a.partition true).states r)) p false) is_stage
        ∙ ap (λ xs. at_or xs p false) (hold_here d a.stage a.partition true)
        ∙ at_or_change_other flags a.partition p false (λ b. true) (apart p a.partition f)
        ∙ ap (λ (r : ℕ). at_or (held_in (slice_get d.states r)) p false) (sym is_stage)
        ∙ is ∙ ap (λ b. b && denied) e
    by false e y f =
        ap (λ xs. at_or xs p false)
        (hold_other d a.stage s a.partition true (other (a.stage == s) refl))
        ∙ is ∙ ap (λ b. b && denied) e
      where
        other : (b : Bool) → (a.stage == s) ≡ b → (a.stage == s) ≡ false
        other false g = g
        other true g = absurd (clash (same (equal a.stage s g)) e)
          where
            same : a.stage ≡ s → (s == result) ≡ true
            same h = (let q : s ≡ result = sym h ∙ stage in rw q (itself result))

-- an attempt that has staged its output asks, where its partition has this committer
module _ (c : CoreData) (a : AttemptId) (job : IsSoundJob c) (save : IsSoundSave c)
    (s : IsSaver c a phases.Staged) (k : Committer)
    (at : slice_get c.committers a.partition ≡ Some k) where
  abbrev pub next : CoreData
  next = held_back (core_asked c a) a

  within : a.partition < length c.committers
  within = slice_get_within c.committers a.partition k at

  here : committer_at c.committers a.partition ≡ k
  here = search (rules, at, at_or_slice_get c.committers a.partition Nobody within)

  now_here : committer_at next.committers a.partition ≡ asked a k
  now_here =
      at_or_change_same c.committers a.partition Nobody (asked a) within ∙ ap (asked a) here

  now_other : (p : ℕ) → (p == a.partition) ≡ false
      → committer_at next.committers p ≡ committer_at c.committers p
  now_other p e = committer_other c.committers a.partition p (asked a) e

  grants : (x : AttemptId) → is_same a x ≡ false → has_grant next x ≡ has_grant c x
  grants x e = by (x.partition == a.partition) refl
    where
      by : (b : Bool) → (x.partition == a.partition) ≡ b → has_grant next x ≡ has_grant c x
      by true f =
          let is : x.partition ≡ a.partition = equal x.partition a.partition f in
          ap (λ (q : ℕ). holds x (committer_at next.committers q)) is
          ∙ ap (holds x) now_here ∙ asked_holds a x k e ∙ ap (holds x) (sym here)
          ∙ ap (λ (q : ℕ). holds x (committer_at c.committers q)) (sym is)
      by false f = ap (holds x) (now_other x.partition f)

  winners : (p : ℕ) → winner_of next.committers p ≡ winner_of c.committers p
  winners p = by (p == a.partition) refl
    where
      by : (b : Bool) → (p == a.partition) ≡ b
          → winner_of next.committers p ≡ winner_of c.committers p
      by true f =
          let is : p ≡ a.partition = equal p a.partition f in
          ap (winner_of next.committers) is ∙ ap winner_in now_here ∙ asked_winner a k
          ∙ ap winner_in (sym here) ∙ ap (winner_of c.committers) (sym is)
      by false f = ap winner_in (now_other p f)

  holders : (p : ℕ) (h : AttemptId) → holder_of next.committers p ≡ Some h
      → (holder_of c.committers p ≡ Some h) ⊎ (a ≡ h)
  holders p h e = by (p == a.partition) refl
    where
      by : (b : Bool) → (p == a.partition) ≡ b → (holder_of c.committers p ≡ Some h) ⊎ (a ≡ h)
      by true f =
          let is : p ≡ a.partition = equal p a.partition f in
          was is (asked_holder a h k
          (ap holder_in (sym now_here) ∙ ap (holder_of next.committers) (sym is) ∙ e))
        where
          was : p ≡ a.partition → (holder_in k ≡ Some h) ⊎ (a ≡ h)
              → (holder_of c.committers p ≡ Some h) ⊎ (a ≡ h)
          was is (inl g) =
              inl (ap (holder_of c.committers) is ∙ ap holder_in here ∙ g)
          was is (inr g) = inr g
      by false f = inl (ap holder_in (sym (now_other p f)) ∙ e)

  denied : (p : ℕ) → denies (committer_at next.committers p)
      ≡ (if p == a.partition then denies (asked a k) else denies (committer_at c.committers p))
  denied p = by (p == a.partition) refl
    where
      by : (b : Bool) → (p == a.partition) ≡ b → denies (committer_at next.committers p)
          ≡ (if b then denies (asked a k) else denies (committer_at c.committers p))
      by true f =
          ap (λ (q : ℕ). denies (committer_at next.committers q)) (equal p a.partition f)
          ∙ ap denies now_here
      by false f = ap denies (now_other p f)

  -- where a partition is held back or not, all else of the stages stays
  calm : (b : Bool)
      → Freed c.dag (if b then after_hold c.dag a.stage a.partition true else c.dag)
  calm true =
      let quiet = hold_calms c.dag a.stage a.partition true in
      record {
        stages = quiet.stages;
        results = hold_results c.dag a.stage a.partition true;
        given = quiet.given;
      }
  calm false = record { stages = refl; results = λ s. refl; given = λ b g. g }

  free : Freed c.dag next.dag
  free = calm (denies (committer_at next.committers a.partition))

  same : result_stage next.dag ≡ result_stage c.dag
  same = result_same c next free.stages

  room : a.partition < length (held_in (slice_get c.dag.states a.stage))
  room =
      let flags = job.dag.flags a.stage in
      let places = save.places s.saves in
      let tasks : (stage_at c.dag a.stage).tasks ≡ (stage_at c.dag (result_stage c.dag)).tasks =
      ap (λ (r : ℕ). (stage_at c.dag r).tasks) s.stage in
      omega (arith, within, flags, places, tasks)

  flags_now : (r p : ℕ) → at_or (held_in (slice_get next.dag.states r)) p false
      ≡ ((r == result_stage c.dag) && (if p == a.partition
      then denies (committer_at next.committers a.partition)
      else denies (committer_at c.committers p)))
  flags_now r p =
      held_flags c.dag a (denies (committer_at next.committers a.partition)) (result_stage c.dag) r
      p (denies (committer_at c.committers p)) s.stage room
      (λ n e. ap (λ (q : ℕ). denies (committer_at c.committers q)) (equal p a.partition e)
      ∙ ap denies here ∙ asked_denies a k (ap denies (sym now_here) ∙ n))
      (save.mirrors r p)

  pub ask_saves : (phase : Phase) → IsAsFar phase (holds a (asked a k))
      → IsSoundSave (come_to next a phase)
  ask_saves phase far =
      save_now (come_to next a phase) (map (as_far a phase) c.running)
      (record {
        commit = change_sound c.committers a.partition (asked a) (asked_sound a) save.commit;
        places = λ t. length_change_at c.committers a.partition (asked a) ∙ save.places s.saves
            ∙ sym (ap (λ (r : ℕ). (stage_at next.dag r).tasks) same
            ∙ ap (λ (all : List StageData). (at_or all (result_stage c.dag) no_stage).tasks)
            free.stages);
        phases = wells;
        holders = λ p h e. holder p h (holders p h e);
        winners = λ p w e. (let was = (saves_now c save).winners p w (sym (winners p) ∙ e) in
            record {
              given = free.given w was.given;
              stage = was.stage ∙ sym same;
              over = far_none a w phase c.running was.over;
            });
        won = λ t p. ap (λ o. is_some o) (winners p) ∙ save.won s.saves p
            ∙ sym (ap (λ (r : ℕ). is_done next.dag r p) same
            ∙ done_same c.dag next.dag (result_stage c.dag) p free.stages
            (free.results (result_stage c.dag)) job.result);
        mirrors = λ r p. flags_now r p
            ∙ sym (ap (λ (q : ℕ). (r == q) && denies (committer_at next.committers p)) same
            ∙ ap (λ b. (r == result_stage c.dag) && b) (denied p ∙ mine p));
      }) refl
    where
      mine : (p : ℕ)
          → (if p == a.partition then denies (asked a k) else denies (committer_at c.committers p))
          ≡ (if p == a.partition then denies (committer_at next.committers a.partition)
          else denies (committer_at c.committers p))
      mine p =
          ap (λ b. if p == a.partition then b else denies (committer_at c.committers p))
          (ap denies (sym now_here))

      wells : All (SavesWell (come_to next a phase)) (map (as_far a phase) c.running)
      wells =
          far_wells c (come_to next a phase) a phase
          (same_saves c.committers a.partition (asked a) ∙ s.saves) (s.stage ∙ sym same)
          (subst (IsAsFar phase) (ap (holds a) (sym now_here)) far)
          (λ r e w. saves_well c (come_to next a phase) r free.stages
          (same_saves c.committers a.partition (asked a)) (grants r.hand_out.attempt e) w)
          s.alone save.phases

      holder : (p : ℕ) (h : AttemptId) → (holder_of c.committers p ≡ Some h) ⊎ (a ≡ h)
          → HoldsAmong [] (map (as_far a phase) c.running) (come_to next a phase) h
      holder p h (inl e) =
          let was = (saves_now c save).holders p h e in
          record {
            stage = was.stage ∙ sym same;
            runs = λ n. far_some a h phase c.running (was.runs refl);
          }
      holder p h (inr e) =
          record {
            stage = ap (λ (b : AttemptId). b.stage) (sym e) ∙ s.stage ∙ sym same;
            runs = λ n. far_some a h phase c.running
                (subst (λ b. running_of c b ≢ None) e s.found);
          }

-- what the committers answer one that has staged its output
asks_save : (c after : CoreData) (a : AttemptId) (said : SideAnswer) → IsSoundJob c
    → IsSoundSave c → IsSaver c a phases.Staged
    → AsksBy (answer_to c.committers a true) c a said after → IsSoundSave after
asks_save c after a said job save s asks = at (slice_get c.committers a.partition) refl asks
  where
    none : has_grant c a ≡ false
    none = saver_far c a phases.Staged s

    -- who is asked about hasn't won
    unwon : (p : ℕ) → winner_of c.committers p ≡ Some a → ⊥
    unwon p e = s.found ((saves_now c save).winners p a e).over

    by : (k : Committer) → slice_get c.committers a.partition ≡ Some k
        → committer_at c.committers a.partition ≡ k → AsksBy (permitted a k) c a said after
        → IsSoundSave after
    by Nobody e is (says, same) =
        subst IsSoundSave (sym (same ∙ plain))
        (ask_saves c a job save s Nobody e phases.Granted (is_itself a))
      where
        plain : come_to (core_asked c a) a phases.Granted
            ≡ come_to (held_back (core_asked c a) a) a phases.Granted
        plain =
            ap (λ k. come_to (with_dag (core_asked c a)
            (if denies k then after_hold c.dag a.stage a.partition true else c.dag)) a
            phases.Granted)
            (sym (at_or_change_same c.committers a.partition Nobody (asked a)
            (slice_get_within c.committers a.partition Nobody e) ∙ ap (asked a) is))
    by (Holder h d) e is asks = held (is_same h a) refl asks
      where
        held : (b : Bool) → is_same h a ≡ b
            → AsksBy (if b then permissions.Granted else permissions.Denied h) c a said after
            → IsSoundSave after
        held true same h = absurd (clash same (sym (ap (holds a) is) ∙ none))
        held false same (says, is_so) =
            subst IsSoundSave (sym is_so)
            (ask_saves c a job save s (Holder h d) e phases.Denied (rw same same))
    by (Winner w) e is asks = won (is_same w a) refl asks
      where
        won : (b : Bool) → is_same w a ≡ b
            → AsksBy (if b then permissions.Granted else permissions.Denied w) c a said after
            → IsSoundSave after
        won true same h =
            absurd (unwon a.partition (ap winner_in is ∙ ap (λ x. Some x) (same_is w a same)))
        won false same (says, is_so) =
            subst IsSoundSave (sym is_so)
            (ask_saves c a job save s (Winner w) e phases.Denied refl)

    at : (o : Option Committer) → slice_get c.committers a.partition ≡ o
        → AsksBy (permitted_at a o) c a said after → IsSoundSave after
    at None e (says, is) = subst IsSoundSave (sym is) save
    at (Some k) e h =
        by k e (search (
          rules,
          e,
          at_or_slice_get c.committers a.partition Nobody
              (slice_get_within c.committers a.partition k e),
        )) h

-- ---- any event beside the reports

pub sides_save : (c after : CoreData) (event : SideEvent) (said : SideAnswer) → IsSoundJob c
    → IsSoundSave c → Sides c event said after → IsSoundSave after
sides_save c after (Leave exec) said job save step = by (job_runs c) step
  where
    by : (b : Bool) → LeavesIf b c exec said after → IsSoundSave after
    by false (says, is) = subst IsSoundSave (sym is) save
    by true (says, is) = subst IsSoundSave (sym is) (calm_saves c _ job refl refl refl save)
sides_save c after (Tick now) said job save step = by (job_runs c) step
  where
    by : (b : Bool) → TicksIf b c now said after → IsSoundSave after
    by false (says, is) = subst IsSoundSave (sym is) save
    by true (says, is) = subst IsSoundSave (sym is) (calm_saves c _ job refl refl refl save)
sides_save c after (Stage a wrote) said job save step =
    by (is_given (saver_phase c a)) refl step
  where
    far : (wrote : FileOutcome) → has_grant c a ≡ false → IsAsFar (staged_by wrote) (has_grant c a)
    far files.Done e = e
    far (files.Failed fault) e = tt

    by : (b : Bool) → is_given (saver_phase c a) ≡ b → StagesIf b c a wrote said after
        → IsSoundSave after
    by false e (says, is) = subst IsSoundSave (sym is) save
    by true e (says, is) =
        let s = saver_of c a phases.Given job save (given_is (saver_phase c a) e) in
        subst IsSoundSave (sym is)
        (come_saves c a (staged_by wrote) phases.Given job save s
        (far wrote (saver_far c a phases.Given s)))
sides_save c after (Ask a) said job save step = by (is_staged (saver_phase c a)) refl step
  where
    by : (b : Bool) → is_staged (saver_phase c a) ≡ b → AsksIf b c a said after
        → IsSoundSave after
    by false e (says, is) = subst IsSoundSave (sym is) save
    by true e asks =
        asks_save c after a said job save
        (saver_of c a phases.Staged job save (staged_is (saver_phase c a) e)) asks
sides_save c after (Move a renamed) said job save step =
    by (is_granted (saver_phase c a)) refl step
  where
    far : (renamed : FileOutcome) → has_grant c a ≡ true
        → IsAsFar (moved_by renamed) (has_grant c a)
    far files.Done e = e
    far (files.Failed fault) e = tt

    by : (b : Bool) → is_granted (saver_phase c a) ≡ b → MovesIf b c a renamed said after
        → IsSoundSave after
    by false e (says, is) = subst IsSoundSave (sym is) save
    by true e (says, is) =
        let s = saver_of c a phases.Granted job save (granted_is (saver_phase c a) e) in
        subst IsSoundSave (sym is)
        (come_saves c a (moved_by renamed) phases.Granted job save s
        (far renamed (saver_far c a phases.Granted s)))
