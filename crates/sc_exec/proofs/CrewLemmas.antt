-- What executors leave that have all worked.
use Rattle.std.proofs.Common.{◌≡◌, ◌∙◌, ℕ, zero, suc, ◌+◌, ◌<◌, ◌++◌, All, List, [], ◌∷◌, length, length-append, map, refl, sym, ap, subst, arith}
use Rattle.std.specs.List.{slice_index_or}
use Rattle.std.specs.Iterator.{Yields}
use Rattle.std.specs.Vec.Iter.{into_iter_items, into_iter_steps}
use Rattle.std.specs.declared.vec.IntoIter.{IntoIter}
use Rattle.sc_lineage.specs.ScriptData.{WorkData}
use Rattle.sc_exec.specs.Crews.{HasWorkedMember, HaveWorked, IsFreshMember, IsMarked, worker_of}
use Rattle.sc_exec.specs.Lefts.{IsCause}
use Rattle.sc_exec.specs.Workers.{AreInPlace, HasCause}
use Rattle.sc_exec.specs.Working.{IsFresh}
use Rattle.sc_exec.specs.declared.crews.Member.{Member}
use Rattle.sc_exec.specs.declared.lefts.Left.{Left}
use Rattle.sc_exec.specs.declared.workers.Worker.{Worker}

-- ---- executors alone, and with their sides of the queue

-- what is at a place, whatever stands for what isn't
index_map : {A B : Type 0} (f : A → B) (xs : List A) (i : ℕ) (d : B) → i < length xs
    → (x : A) × ((e : A) → slice_index_or xs i e ≡ x) × (slice_index_or (map f xs) i d ≡ f x)
index_map f [] i d lt = absurd (omega (arith, lt))
index_map f (x ∷ xs) zero d lt = (x, (λ e. refl), refl)
index_map f (x ∷ xs) (suc i) d lt = index_map f xs i d (omega (arith, lt))

pub length_map : {A B : Type 0} (f : A → B) (xs : List A) → length (map f xs) ≡ length xs
length_map f [] = refl
length_map f (x ∷ xs) = ap suc (length_map f xs)

-- each of them is fresh and has its mark
pub fresh_members : {W J q : _} (executors : ℕ) (ms : List (Member W J q)) (ws : List Worker)
    → map worker_of ms ≡ ws → All (IsFresh executors) ws → All IsMarked ms
    → All (IsFreshMember executors) ms
fresh_members executors ms ws are fresh marked = λ k d lt.
    let there = index_map worker_of ms k d.worker lt in
    let many = ap length (sym are) ∙ length_map worker_of ms in
    let one : IsFresh executors (slice_index_or ms k d).worker =
    subst (λ (w : Worker). IsFresh executors w)
    (ap (λ (xs : List Worker). slice_index_or xs k d.worker) (sym are) ∙ there.2
    ∙ ap worker_of (sym (there.1 d)))
    (fresh k d.worker (subst (λ (n : ℕ). k < n) (sym many) lt)) in
    (one, marked k d lt)

-- ---- they get their sides of the queue, in order

-- what the iterator of a vector has given is a front of its items
pub taken_front : {X Z : Type 0} (s : IntoIter X Z) (xs : List X) (t : IntoIter X Z)
    → Yields into_iter_steps s xs t → into_iter_items s ≡ xs ++ into_iter_items t
taken_front s [] t y = ap into_iter_items y
taken_front s (x ∷ xs) t y = y.1.0 ∙ ap (λ ys. x ∷ ys) (taken_front y.0 xs t y.2)

index_behind : {A : Type 0} (xs rest : List A) (x d : A)
    → slice_index_or (xs ++ x ∷ rest) (length xs) d ≡ x
index_behind [] rest x d = refl
index_behind (y ∷ ys) rest x d = index_behind ys rest x d

-- who comes behind so many has their number
pub next_place : (executors : ℕ) (ws xs rest : List Worker) (w : Worker)
    → AreInPlace executors ws → ws ≡ xs ++ w ∷ rest → w.log.exec ≡ length xs
next_place executors ws xs rest w places is =
    let many : length ws ≡ length xs + length (w ∷ rest) =
    ap length is ∙ length-append xs (w ∷ rest) in
    let within : length xs < length ws = omega (arith, many) in
    ap (λ (x : Worker). x.log.exec) (sym (index_behind xs rest w w))
    ∙ ap (λ (l : List Worker). (slice_index_or l (length xs) w).log.exec) (sym is)
    ∙ places.place (length xs) w within

-- so who the iterator gives behind so many has it
pub given_place : {Z : Type 0} (executors : ℕ) (ws xs : List Worker) (w : Worker)
    (s t u : IntoIter Worker Z) → into_iter_items s ≡ ws → Yields into_iter_steps s xs t
    → into_iter_items t ≡ w ∷ into_iter_items u → AreInPlace executors ws
    → w.log.exec ≡ length xs
given_place executors ws xs w s t u from given next places =
    next_place executors ws xs (into_iter_items u) w places
    (sym from ∙ taken_front s xs t given ∙ ap (λ (ys : List Worker). xs ++ ys) next)

-- ---- before they work

-- who never comes to work says that memory ran out
pub unworked : (work : WorkData) (executors : ℕ) (ws : List Worker) → All (IsFresh executors) ws
    → All (HasCause work) ws
unworked work executors ws fresh = λ k d lt.
    let w = slice_index_or ws k d in
    subst (λ (left : Left). IsCause work w.log left) (sym (fresh k d lt).left) tt

-- ---- once they have worked

-- one that is the same before and behind
pub worked_at : {W J q : _} (work : WorkData) (x y before after : Member W J q) → before ≡ x
    → after ≡ y → HasWorkedMember work before after → HasWorkedMember work x y
worked_at {W = W} {J = J} {q = q} work x y before after is left worked =
    subst (λ (m : Member W J q). HasWorkedMember work x m) left
    (subst (λ (m : Member W J q). HasWorkedMember work m after) is worked)

module _ {W J q : _} (work : WorkData) (ms after : List (Member W J q))
    (worked : HaveWorked work ms after) where
  pub worked_causes : All (HasCause work) (map worker_of after)
  worked_causes = λ k d lt.
      let many = length_map worker_of after in
      let within = subst (λ (n : ℕ). k < n) many lt in
      let there = index_map worker_of after k d within in
      let each = worked.each k there.0 (subst (λ (n : ℕ). k < n) worked.many within) in
      subst (λ (w : Worker). HasCause work w) (ap worker_of (there.1 there.0) ∙ sym there.2)
      each.1

  pub worked_places : (executors : ℕ) → AreInPlace executors (map worker_of ms)
      → AreInPlace executors (map worker_of after)
  worked_places executors places =
      record {
        many = length_map worker_of after ∙ worked.many ∙ sym (length_map worker_of ms)
            ∙ places.many;
        place = λ exec d lt.
            let within = subst (λ (n : ℕ). exec < n) (length_map worker_of after) lt in
            let before = subst (λ (n : ℕ). exec < n) worked.many within in
            let there = index_map worker_of after exec d within in
            let was = index_map worker_of ms exec d before in
            let each = worked.each exec there.0 before in
            ap (λ (w : Worker). w.log.exec) there.2
            ∙ ap (λ (m : Member W J q). m.worker.log.exec) (sym (there.1 there.0)) ∙ each.0
            ∙ ap (λ (m : Member W J q). m.worker.log.exec) (was.1 there.0)
            ∙ ap (λ (w : Worker). w.log.exec) (sym was.2)
            ∙ places.place exec d
            (subst (λ (n : ℕ). exec < n) (sym (length_map worker_of ms)) before);
      }
