-- Who holds a grant was granted it, and who has won was committed.
use Rattle.std.proofs.Common.{◌≡◌, ◌≢◌, ◌⊎◌, inl, inr, ℕ, Bool, true, false, List, [], ◌∷◌, ◌++◌, All, map, Some, if◌then◌else◌, append-nil, append_assoc, refl, ap, sym, subst, ◌∙◌, rules}
use Rattle.std.proofs.lemmas.List.Elements.{All-map, All-nil, All-weaker}
use Rattle.sc_ids.specs.declared.attempts.AttemptId.{AttemptId}
use Rattle.sc_commit.specs.CommitLaws.{holder_of, winner_of}
use Rattle.sc_commit.specs.Committers.{committer_at, holder_in, winner_in}
use Rattle.sc_commit.specs.Committing.{answer_to}
use Rattle.sc_commit.specs.declared.committers.Committer.TheVariants.{Nobody}
use Rattle.sc_commit.specs.declared.committers.Permission.{Permission}
use Rattle.sc_commit.specs.declared.committers.Permission.TheVariants as permissions
use Rattle.sc_taskset.proofs.FindLemmas.{found_is, found_passes}
use Rattle.sc_dag.proofs.Tests.{both_left, clash}
use Rattle.sc_core.specs.CoreData.{CoreData, is_of, job_runs}
use Rattle.sc_core.specs.HandOuts.{HandOutData}
use Rattle.sc_core.specs.Journals.{Replays}
use Rattle.sc_core.specs.Saving.{AsksBy, AsksIf, MovesIf, StagesIf, as_far, is_given, is_granted, is_out_of, is_staged, move_answer, moved_by, saver_phase, staged_by}
use Rattle.sc_core.specs.Sides.{LeavesIf, Sides, StepsAside, TicksIf}
use Rattle.sc_core.specs.Sound.{IsAsFar, IsSoundCore, IsSoundSave, SavesWell, has_grant}
use Rattle.sc_core.specs.Steps.{Steps}
use Rattle.sc_core.specs.declared.answers.Answer.TheVariants as says
use Rattle.sc_core.specs.declared.answers.SideAnswer.{SideAnswer}
use Rattle.sc_core.specs.declared.entries.Entry.{Entry}
use Rattle.sc_core.specs.declared.events.Event.TheVariants.{Side}
use Rattle.sc_core.specs.declared.events.FileOutcome.{FileOutcome}
use Rattle.sc_core.specs.declared.events.FileOutcome.TheVariants as files
use Rattle.sc_core.specs.declared.events.SideEvent.{SideEvent}
use Rattle.sc_core.specs.declared.events.SideEvent.TheVariants.{Ask, Leave, Move, Stage, Tick}
use Rattle.sc_core.specs.declared.running.Phase.{Phase}
use Rattle.sc_core.specs.declared.running.Phase.TheVariants as phases
use Rattle.sc_core.specs.declared.running.Running.{Running}
use Rattle.sc_core.proofs.GrantLemmas.{holder_is, holds_is}
use Rattle.sc_core.proofs.LawLemmas.{replays_agree, steps_keep_sound}
use Rattle.sc_core.proofs.LookupLemmas.{same_is}
use Rattle.sc_core.proofs.SaveAsideLemmas.{granted_is, saver_far, saver_of}
use Rattle.sc_core.proofs.SaveOpenLemmas.{free_at}
use Rattle.sc_history.specs.Committing.{GrantsAreSole, HoldsAlong, HoldsGrant, IsGrantOf, IsMoveOf, WasCommitted, WinnersCommit}
use Rattle.sc_history.proofs.Closing.{ended_stays}
use Rattle.sc_history.proofs.CommitSteps.{Finishes, steps_holders, steps_winners}
use Rattle.sc_history.proofs.GivenLemmas.{steps_running}
use Rattle.sc_history.proofs.Journals.{replays_induct}

-- ---- parts of journals

-- a part of entries with one more is a part of them, or all of these
split_last : (since part more : List Entry) (e x : Entry) (xs : List Entry)
    → since ++ e ∷ [] ≡ part ++ x ∷ xs → (rest : List Entry) × (since ≡ part ++ rest)
split_last since [] more e x xs is = (since, refl)
split_last [] (y ∷ ys) more e x xs is = absurd (none ys (search (rules, is)))
  where
    none : (zs : List Entry) → [] ≡ zs ++ x ∷ xs → ⊥
    none [] f = search (rules, f)
    none (z ∷ zs) f = search (rules, f)
split_last (s ∷ since) (y ∷ ys) more e x xs is =
    let same : s ≡ y = search (rules, is) in
    let left : since ++ e ∷ [] ≡ ys ++ x ∷ xs = search (rules, is) in
    let rest = split_last since ys more e x xs left in
    (rest.0, ap (λ y. y ∷ since) same ∙ ap (λ xs. y ∷ xs) rest.1)

replays_more : (opening c after : CoreData) (entries : List Entry) (e : Entry)
    → Replays opening entries c → Steps c e.event e.answer after
    → Replays opening (entries ++ e ∷ []) after
replays_more opening c after [] e is step =
    (after, subst (λ x. Steps x e.event e.answer after) is step, refl)
replays_more opening c after (x ∷ entries) e (mid, one, rest) step =
    (mid, one, replays_more mid c after entries e rest step)

-- a grant that is held in one more state
holds_more : (opening after : CoreData) (first since : List Entry) (e : Entry) (a : AttemptId)
    → IsSoundCore opening → HoldsAlong opening first since a
    → Replays opening (first ++ (since ++ e ∷ [])) after → HoldsGrant after a
    → HoldsAlong opening first (since ++ e ∷ []) a
holds_more opening after first since e a sound held replays now part [] c is other =
    subst (λ x. HoldsGrant x a)
    (replays_agree opening after c (first ++ part) sound
    (subst (λ xs. Replays opening (first ++ xs) after) (is ∙ append-nil part) replays) other) now
holds_more opening after first since e a sound held replays now part (x ∷ xs) c is other =
    let rest = split_last since part [] e x xs is in held part rest.0 c rest.1 other

holds_first : (opening after : CoreData) (first : List Entry) (a : AttemptId)
    → IsSoundCore opening → Replays opening first after → HoldsGrant after a
    → HoldsAlong opening first [] a
holds_first opening after first a sound replays now [] more c is other =
    subst (λ x. HoldsGrant x a)
    (replays_agree opening after c first sound replays
    (subst (λ xs. Replays opening xs c) (append-nil first) other)) now
holds_first opening after first a sound replays now (x ∷ xs) more c is other =
    absurd (search (rules, is))

-- ---- what is known of holders, movers and winners

record WasGranted (opening : CoreData) (entries : List Entry) (a : AttemptId) : Type 0 where
  first : List Entry
  ask : Entry
  since : List Entry
  parts : entries ≡ (first ++ ask ∷ []) ++ since
  granted : IsGrantOf a ask
  along : HoldsAlong opening (first ++ ask ∷ []) since a

record WasMoved (opening : CoreData) (entries : List Entry) (a : AttemptId) : Type 0 where
  first : List Entry
  ask : Entry
  second : List Entry
  move : Entry
  third : List Entry
  parts : entries ≡ (first ++ ask ∷ []) ++ (second ++ move ∷ third)
  granted : IsGrantOf a ask
  moved : IsMoveOf a move
  along : HoldsAlong opening (first ++ ask ∷ []) (second ++ move ∷ third) a

abbrev HasMoved : CoreData → List Entry → Running → Type 0
HasMoved opening entries r = r.phase ≡ phases.Moved → WasMoved opening entries r.hand_out.attempt

record IsCommitting (opening : CoreData) (entries : List Entry) (c : CoreData) : Type 0 where
  begins : IsSoundCore opening
  replays : Replays opening entries c
  sound : IsSoundCore c
  granted : job_runs c ≡ true → (p : ℕ) (h : AttemptId) → holder_of c.committers p ≡ Some h
      → WasGranted opening entries h
  moved : job_runs c ≡ true → All (HasMoved opening entries) c.running
  won : (p : ℕ) (w : AttemptId) → winner_of c.committers p ≡ Some w
      → WasCommitted opening entries w

granted_more : (opening after : CoreData) (entries : List Entry) (e : Entry) (a : AttemptId)
    → IsSoundCore opening → Replays opening (entries ++ e ∷ []) after → HoldsGrant after a
    → WasGranted opening entries a → WasGranted opening (entries ++ e ∷ []) a
granted_more opening after entries e a sound replays now g =
    record {
      first = g.first;
      ask = g.ask;
      since = g.since ++ e ∷ [];
      parts = same;
      granted = g.granted;
      along = holds_more opening after (g.first ++ g.ask ∷ []) g.since e a sound g.along
          (subst (λ xs. Replays opening xs after) same replays) now;
    }
  where
    same : entries ++ e ∷ [] ≡ (g.first ++ g.ask ∷ []) ++ (g.since ++ e ∷ [])
    same =
        ap (λ xs. xs ++ e ∷ []) g.parts
        ∙ append_assoc (g.first ++ g.ask ∷ []) g.since (e ∷ [])

-- it moves by this entry
moved_now : (opening after : CoreData) (entries : List Entry) (e : Entry) (a : AttemptId)
    → IsSoundCore opening → Replays opening (entries ++ e ∷ []) after → HoldsGrant after a
    → IsMoveOf a e → WasGranted opening entries a → WasMoved opening (entries ++ e ∷ []) a
moved_now opening after entries e a sound replays now moves g =
    record {
      first = g.first;
      ask = g.ask;
      second = g.since;
      move = e;
      third = [];
      parts = same;
      granted = g.granted;
      moved = moves;
      along = holds_more opening after (g.first ++ g.ask ∷ []) g.since e a sound g.along
          (subst (λ xs. Replays opening xs after) same replays) now;
    }
  where
    same : entries ++ e ∷ [] ≡ (g.first ++ g.ask ∷ []) ++ (g.since ++ e ∷ [])
    same =
        ap (λ xs. xs ++ e ∷ []) g.parts
        ∙ append_assoc (g.first ++ g.ask ∷ []) g.since (e ∷ [])

moved_more : (opening after : CoreData) (entries : List Entry) (e : Entry) (a : AttemptId)
    → IsSoundCore opening → Replays opening (entries ++ e ∷ []) after → HoldsGrant after a
    → WasMoved opening entries a → WasMoved opening (entries ++ e ∷ []) a
moved_more opening after entries e a sound replays now g =
    record {
      first = g.first;
      ask = g.ask;
      second = g.second;
      move = g.move;
      third = g.third ++ e ∷ [];
      parts = same ∙ ap (λ xs. (g.first ++ g.ask ∷ []) ++ xs) tail;
      granted = g.granted;
      moved = g.moved;
      along = subst (λ xs. HoldsAlong opening (g.first ++ g.ask ∷ []) xs a) tail
          (holds_more opening after (g.first ++ g.ask ∷ []) (g.second ++ g.move ∷ g.third) e a sound
          g.along (subst (λ xs. Replays opening xs after) same replays) now);
    }
  where
    tail : (g.second ++ g.move ∷ g.third) ++ e ∷ [] ≡ g.second ++ g.move ∷ (g.third ++ e ∷ [])
    tail = append_assoc g.second (g.move ∷ g.third) (e ∷ [])

    same : entries ++ e ∷ []
        ≡ (g.first ++ g.ask ∷ []) ++ ((g.second ++ g.move ∷ g.third) ++ e ∷ [])
    same =
        ap (λ xs. xs ++ e ∷ []) g.parts
        ∙ append_assoc (g.first ++ g.ask ∷ []) (g.second ++ g.move ∷ g.third) (e ∷ [])

committed_more : (opening : CoreData) (entries : List Entry) (e : Entry) (w : AttemptId)
    → WasCommitted opening entries w → WasCommitted opening (entries ++ e ∷ []) w
committed_more opening entries e w g =
    record {
      first = g.first;
      ask = g.ask;
      second = g.second;
      move = g.move;
      third = g.third;
      told = g.told;
      last = g.last ++ e ∷ [];
      parts = ap (λ xs. xs ++ e ∷ []) g.parts
          ∙ append_assoc ((g.first ++ g.ask ∷ []) ++ (g.second ++ g.move ∷ g.third))
          (g.told ∷ g.last) (e ∷ []);
      granted = g.granted;
      moved = g.moved;
      holds = g.holds;
      before = g.before;
      replays = g.replays;
      finished = g.finished;
    }

-- ---- an attempt moves its output

-- it has moved before, or does so by this entry, and holds its grant
abbrev MovesOr : CoreData → List Entry → CoreData → Entry → Running → Type 0
MovesOr opening entries c e r =
    r.phase ≡ phases.Moved
    → WasMoved opening entries r.hand_out.attempt
    ⊎ (IsMoveOf r.hand_out.attempt e × HoldsGrant c r.hand_out.attempt)

-- no attempt moves by what brings attempts to another phase
none_moves :
    (opening : CoreData) (entries : List Entry) (c : CoreData) (e : Entry) (a : AttemptId)
    (phase : Phase) → phase ≢ phases.Moved → (rs : List Running)
    → All (MovesOr opening entries c e) rs
    → All (MovesOr opening entries c e) (map (as_far a phase) rs)
none_moves opening entries c e a phase other rs all =
    All-map (MovesOr opening entries c e) (as_far a phase) rs
    (All-weaker (MovesOr opening entries c e)
    (λ r. MovesOr opening entries c e (as_far a phase r)) (λ r h. by r h (is_out_of a r)) rs all)
  where
    by : (r : Running) → MovesOr opening entries c e r → (b : Bool)
        → MovesOr opening entries c e (if b then record r { phase = phase } else r)
    by r h false = h
    by r h true = λ m. absurd (other m)

-- one does by a move that is told so
one_moves :
    (opening : CoreData) (entries : List Entry) (c : CoreData) (e : Entry) (a : AttemptId)
    → IsMoveOf a e → HoldsGrant c a → (rs : List Running) → All (MovesOr opening entries c e) rs
    → All (MovesOr opening entries c e) (map (as_far a phases.Moved) rs)
one_moves opening entries c e a moves held rs all =
    All-map (MovesOr opening entries c e) (as_far a phases.Moved) rs
    (All-weaker (MovesOr opening entries c e)
    (λ r. MovesOr opening entries c e (as_far a phases.Moved r))
    (λ r h. by r h (is_out_of a r) refl) rs all)
  where
    by : (r : Running) → MovesOr opening entries c e r → (b : Bool) → is_out_of a r ≡ b
        → MovesOr opening entries c e (if b then record r { phase = phases.Moved } else r)
    by r h false f = h
    by r h true f =
        let same : r.hand_out.attempt ≡ a =
        same_is r.hand_out.attempt a (both_left (is_of a r) r.is_out f) in
        λ m. inr (
          subst (λ b. IsMoveOf b e) (sym same) moves,
          subst (λ b. HoldsGrant c b) (sym same) held,
        )

aside_moves :
    (opening : CoreData) (entries : List Entry) (c after : CoreData) (e : Entry)
    (event : SideEvent) (said : SideAnswer) → IsSoundCore c → job_runs c ≡ true
    → e.event ≡ Side event → e.answer ≡ says.Side said → Sides c event said after
    → All (MovesOr opening entries c e) c.running
    → All (MovesOr opening entries c e) after.running
aside_moves opening entries c after e (Leave exec) said sound runs is told step all =
    by (job_runs c) step
  where
    by : (b : Bool) → LeavesIf b c exec said after
        → All (MovesOr opening entries c e) after.running
    by false (says, same) =
        subst (λ (x : CoreData). All (MovesOr opening entries c e) x.running) (sym same) all
    by true (says, same) =
        subst (λ (x : CoreData). All (MovesOr opening entries c e) x.running) (sym same) all
aside_moves opening entries c after e (Tick now) said sound runs is told step all =
    by (job_runs c) step
  where
    by : (b : Bool) → TicksIf b c now said after
        → All (MovesOr opening entries c e) after.running
    by false (says, same) =
        subst (λ (x : CoreData). All (MovesOr opening entries c e) x.running) (sym same) all
    by true (says, same) =
        subst (λ (x : CoreData). All (MovesOr opening entries c e) x.running) (sym same) all
aside_moves opening entries c after e (Stage a wrote) said sound runs is told step all =
    by (is_given (saver_phase c a)) step
  where
    other : (wrote : FileOutcome) → staged_by wrote ≢ phases.Moved
    other files.Done f = search (rules, f)
    other (files.Failed fault) f = search (rules, f)

    by : (b : Bool) → StagesIf b c a wrote said after
        → All (MovesOr opening entries c e) after.running
    by false (says, same) =
        subst (λ (x : CoreData). All (MovesOr opening entries c e) x.running) (sym same) all
    by true (says, same) =
        subst (λ (x : CoreData). All (MovesOr opening entries c e) x.running) (sym same)
        (none_moves opening entries c e a (staged_by wrote) (other wrote) c.running all)
aside_moves opening entries c after e (Ask a) said sound runs is told step all =
    by (is_staged (saver_phase c a)) step
  where
    asks : (permission : Permission) → AsksBy permission c a said after
        → All (MovesOr opening entries c e) after.running
    asks permissions.Granted (says, same) =
        subst (λ (x : CoreData). All (MovesOr opening entries c e) x.running) (sym same)
        (none_moves opening entries c e a phases.Granted (λ f. search (rules, f)) c.running all)
    asks (permissions.Denied by) (says, same) =
        subst (λ (x : CoreData). All (MovesOr opening entries c e) x.running) (sym same)
        (none_moves opening entries c e a phases.Denied (λ f. search (rules, f)) c.running all)
    asks permissions.Over (says, same) =
        subst (λ (x : CoreData). All (MovesOr opening entries c e) x.running) (sym same) all

    by : (b : Bool) → AsksIf b c a said after → All (MovesOr opening entries c e) after.running
    by false (says, same) =
        subst (λ (x : CoreData). All (MovesOr opening entries c e) x.running) (sym same) all
    by true h = asks (answer_to c.committers a true) h
aside_moves opening entries c after e (Move a renamed) said sound runs is told step all =
    by (is_granted (saver_phase c a)) refl step
  where
    moves : (renamed : FileOutcome) → e.event ≡ Side (Move a renamed)
        → said ≡ move_answer renamed → HoldsGrant c a
        → All (MovesOr opening entries c e) (map (as_far a (moved_by renamed)) c.running)
    moves files.Done at answered held =
        one_moves opening entries c e a (at, told ∙ ap says.Side answered) held c.running all
    moves (files.Failed fault) at answered held =
        none_moves opening entries c e a (phases.Faulted fault) (λ f. search (rules, f)) c.running
        all

    by : (b : Bool) → is_granted (saver_phase c a) ≡ b → MovesIf b c a renamed said after
        → All (MovesOr opening entries c e) after.running
    by false f (says, same) =
        subst (λ (x : CoreData). All (MovesOr opening entries c e) x.running) (sym same) all
    by true f (says, same) =
        let saver =
        saver_of c a phases.Granted sound.job (sound.save runs) (granted_is (saver_phase c a) f) in
        subst (λ (x : CoreData). All (MovesOr opening entries c e) x.running) (sym same)
        (moves renamed is says
        (holds_is (committer_at c.committers a.partition) a
        (saver_far c a phases.Granted saver)))

-- ---- one more entry

-- who holds in a job that runs does so in its own place
in_place : (c : CoreData) (p : ℕ) (h : AttemptId) → IsSoundSave c
    → holder_of c.committers p ≡ Some h → HoldsGrant c h
in_place c p h save e =
    ap (λ (q : ℕ). holder_of c.committers q) (holder_is c.committers p h save.commit e) ∙ e

-- an entry of a job that runs keeps what is known of who holds a grant
keeps_granted :
    (opening : CoreData) (entries : List Entry) (e : Entry) (c after : CoreData)
    → IsCommitting opening entries c → job_runs c ≡ true → Steps c e.event e.answer after
    → Replays opening (entries ++ e ∷ []) after → IsSoundCore after → job_runs after ≡ true
    → (p : ℕ) (h : AttemptId) → holder_of after.committers p ≡ Some h
    → WasGranted opening (entries ++ e ∷ []) h
keeps_granted opening entries e c after k runs step replays sound on p h held =
    by (steps_holders c after e.event e.answer p h (k.sound.save runs).commit step held)
  where
    now : HoldsGrant after h
    now = in_place after p h (sound.save on) held

    by : (holder_of c.committers p ≡ Some h) ⊎ IsGrantOf h e
        → WasGranted opening (entries ++ e ∷ []) h
    by (inl f) =
        granted_more opening after entries e h k.begins replays now (k.granted runs p h f)
    by (inr asked) =
        record {
          first = entries;
          ask = e;
          since = [];
          parts = sym (append-nil (entries ++ e ∷ []));
          granted = asked;
          along = holds_first opening after (entries ++ e ∷ []) h k.begins replays now;
        }

-- and of whose output has moved
keeps_moved :
    (opening : CoreData) (entries : List Entry) (e : Entry) (c after : CoreData)
    → IsCommitting opening entries c → job_runs c ≡ true → Steps c e.event e.answer after
    → Replays opening (entries ++ e ∷ []) after → IsSoundCore after → job_runs after ≡ true
    → All (HasMoved opening (entries ++ e ∷ [])) after.running
keeps_moved opening entries e c after k runs step replays sound on =
    All-weaker (λ r. MovesOr opening entries c e r × SavesWell after r)
    (HasMoved opening (entries ++ e ∷ [])) moved after.running
    (λ i d l. (moves i d l, (sound.save on).phases i d l))
  where
    were : All (MovesOr opening entries c e) c.running
    were =
        All-weaker (HasMoved opening entries) (MovesOr opening entries c e)
        (λ r h m. inl (h m)) c.running (k.moved runs)

    aside : (side : SideEvent) → e.event ≡ Side side → StepsAside c side e.answer after
        → All (MovesOr opening entries c e) after.running
    aside side is (said, told, h) =
        aside_moves opening entries c after e side said k.sound runs is told h were

    same : (q r : Running) → r.hand_out ≡ q.hand_out → r.exec ≡ q.exec → r.phase ≡ q.phase
        → MovesOr opening entries c e q → MovesOr opening entries c e r
    same q r hand exec phase h m =
        subst (λ b. WasMoved opening entries b ⊎ (IsMoveOf b e × HoldsGrant c b))
        (ap (λ (x : HandOutData). x.attempt) (sym hand)) (h (sym phase ∙ m))

    moves : All (MovesOr opening entries c e) after.running
    moves =
        steps_running (MovesOr opening entries c e) same c after e.event e.answer step were
        (λ exec h is told m. absurd (search (rules, m))) aside

    moved : (r : Running) → MovesOr opening entries c e r × SavesWell after r
        → HasMoved opening (entries ++ e ∷ []) r
    moved r (h, well) m = by (h m)
      where
        a : AttemptId
        a = r.hand_out.attempt

        far : has_grant after r.hand_out.attempt ≡ true
        far = subst (λ x. IsAsFar x (has_grant after r.hand_out.attempt)) m well.far

        now : HoldsGrant after a
        now = holds_is (committer_at after.committers a.partition) a far

        by : WasMoved opening entries a ⊎ (IsMoveOf a e × HoldsGrant c a)
            → WasMoved opening (entries ++ e ∷ []) a
        by (inl g) = moved_more opening after entries e a k.begins replays now g
        by (inr (moves, held)) =
            moved_now opening after entries e a k.begins replays now moves
            (k.granted runs a.partition a held)

-- and of who has won
keeps_won :
    (opening : CoreData) (entries : List Entry) (e : Entry) (c after : CoreData)
    → IsCommitting opening entries c → job_runs c ≡ true → Steps c e.event e.answer after
    → (p : ℕ) (w : AttemptId) → winner_of after.committers p ≡ Some w
    → WasCommitted opening (entries ++ e ∷ []) w
keeps_won opening entries e c after k runs step p w won =
    by (steps_winners c after e.event e.answer p w k.sound step won)
  where
    wins : Finishes c e.event e.answer w → WasMoved opening entries w
        → WasCommitted opening (entries ++ e ∷ []) w
    wins f g =
        record {
          first = g.first;
          ask = g.ask;
          second = g.second;
          move = g.move;
          third = g.third;
          told = e;
          last = [];
          parts = ap (λ xs. xs ++ e ∷ []) g.parts;
          granted = g.granted;
          moved = g.moved;
          holds = g.along;
          before = c;
          replays = subst (λ xs. Replays opening xs c) g.parts k.replays;
          finished = f.told;
        }

    mover : Finishes c e.event e.answer w → WasMoved opening entries w
    mover f =
        subst (WasMoved opening entries)
        (same_is f.one.hand_out.attempt w (found_passes (is_of w) c.running f.one f.found))
        (found_is (HasMoved opening entries) (is_of w) c.running f.one (k.moved runs) f.found
        f.moved)

    by : (winner_of c.committers p ≡ Some w) ⊎ Finishes c e.event e.answer w
        → WasCommitted opening (entries ++ e ∷ []) w
    by (inl f) = committed_more opening entries e w (k.won p w f)
    by (inr f) = wins f (mover f)

entry_keeps :
    (opening : CoreData) (entries : List Entry) (e : Entry) (c after : CoreData)
    → IsCommitting opening entries c → Steps c e.event e.answer after
    → IsCommitting opening (entries ++ e ∷ []) after
entry_keeps opening entries e c after k step = by (job_runs c) refl
  where
    replays : Replays opening (entries ++ e ∷ []) after
    replays = replays_more opening c after entries e k.replays step

    sound : IsSoundCore after
    sound = steps_keep_sound c after e.event e.answer k.sound step

    by : (b : Bool) → job_runs c ≡ b → IsCommitting opening (entries ++ e ∷ []) after
    by true runs =
        record {
          begins = k.begins;
          replays = replays;
          sound = sound;
          granted = keeps_granted opening entries e c after k runs step replays sound;
          moved = keeps_moved opening entries e c after k runs step replays sound;
          won = keeps_won opening entries e c after k runs step;
        }
    by false over =
        let same : after ≡ c = ended_stays c after e.event e.answer over step in
        record {
          begins = k.begins;
          replays = replays;
          sound = sound;
          granted = λ on. absurd (clash (subst (λ x. job_runs x ≡ true) same on) over);
          moved = λ on. absurd (clash (subst (λ x. job_runs x ≡ true) same on) over);
          won = λ p w won. committed_more opening entries e w
              (k.won p w (subst (λ (x : CoreData). winner_of x.committers p ≡ Some w) same won));
        }

-- ---- journals

pub winners_commit : WinnersCommit
winners_commit graph limits saves plan last opening end entries p winner o sound replays won =
    (replays_induct (λ es c. IsCommitting opening es c)
    (λ es e c after k step. entry_keeps opening es e c after k step) [] opening begin entries end
    replays).won p winner won
  where
    free : (p : ℕ) → committer_at opening.committers p ≡ Nobody
    free p = ap (λ ks. committer_at ks p) o.committers ∙ free_at saves opening.dag p

    begin : IsCommitting opening [] opening
    begin =
        record {
          begins = sound;
          replays = refl;
          sound = sound;
          granted = λ on q h e. absurd (search (rules, sym (ap holder_in (free q)) ∙ e));
          moved = λ on. subst (λ rs. All (HasMoved opening []) rs) (sym o.running)
              (All-nil (HasMoved opening []));
          won = λ q w e. absurd (search (rules, sym (ap winner_in (free q)) ∙ e));
        }

pub grants_are_sole : GrantsAreSole
grants_are_sole opening end entries a b replays first second same =
    search (
      rules,
      sym first ∙ ap (λ (p : ℕ). holder_of end.committers p) same ∙ second,
    )
