-- The winners' files that were renamed so far, and those that are left.
use Rattle.std.proofs.Common.{◌≡◌, ◌∙◌, ℕ, zero, suc, List, [], ◌∷◌, ◌++◌, length, take, drop, get_or, map, refl, ap, sym, subst, arith}
use Rattle.std.specs.Prelude.{IfSome, Ok, Err}
use Rattle.sc_base.specs.Outside.{FilesState}
use Rattle.sc_base.specs.Trees.{Path}
use Rattle.sc_base.specs.declared.refusals.OrMemory.{OrMemory}
use Rattle.sc_base.proofs.ChangeLemmas.{changes-after, if_some-weaker}
use Rattle.sc_ids.specs.declared.attempts.AttemptId.{AttemptId}
use Rattle.sc_output.specs.Calls.{AreOpen, Call, IsOpen, MakesCalls, after_call}
use Rattle.sc_output.specs.Commits.{final_rename}
use Rattle.sc_output.proofs.CallLemmas.{calls-ended, calls-then}

-- the first k winners' files were renamed, and nothing keeps the others from being
pub record HasRenamed (dir : Path) (ws : List AttemptId) (k : ℕ) (s u : FilesState) : Type 0 where
  pub calls : MakesCalls (map (final_rename dir) (take k ws)) s u (Ok tt)
  pub left : IfSome u.shown (AreOpen (map (final_rename dir) (drop k ws)))

no_items : (w : AttemptId) (vs : List AttemptId) → [] ≡ w ∷ vs → ⊥
no_items w vs e = no_length (length vs) (ap length e)
  where
    no_length : (n : ℕ) → 0 ≡ suc n → ⊥
    no_length n f = omega (arith, f)

take-more : (ws : List AttemptId) (k : ℕ) (w : AttemptId) (vs : List AttemptId)
    → drop k ws ≡ w ∷ vs → take (suc k) ws ≡ take k ws ++ w ∷ []
take-more [] zero w vs is = absurd (no_items w vs is)
take-more [] (suc k) w vs is = absurd (no_items w vs is)
take-more (v ∷ us) zero w vs is = ap (λ x. x ∷ []) (ap (λ l. get_or l 0 v) is)
take-more (v ∷ us) (suc k) w vs is = ap (λ l. v ∷ l) (take-more us k w vs is)

-- items in front of one, that one, and the others
map-split : (f : AttemptId → Call) (ws : List AttemptId) (k : ℕ) (w : AttemptId)
    (vs : List AttemptId) → drop k ws ≡ w ∷ vs
    → (map f (take k ws) ++ f w ∷ []) ++ map f vs ≡ map f ws
map-split f [] zero w vs is = absurd (no_items w vs is)
map-split f [] (suc k) w vs is = absurd (no_items w vs is)
map-split f (v ∷ us) zero w vs is = ap (map f) (sym is)
map-split f (v ∷ us) (suc k) w vs is = ap (λ l. f v ∷ l) (map-split f us k w vs is)

map-push : (f : AttemptId → Call) (us : List AttemptId) (w : AttemptId)
    → map f us ++ f w ∷ [] ≡ map f (us ++ w ∷ [])
map-push f [] w = refl
map-push f (u ∷ us) w = ap (λ l. f u ∷ l) (map-push f us w)

pub renamed-next : (dir : Path) (ws : List AttemptId) (k : ℕ) (w : AttemptId)
    (vs : List AttemptId) (start now : FilesState) → drop k ws ≡ w ∷ vs
    → HasRenamed dir ws k start now → IfSome now.shown (IsOpen (final_rename dir w))
renamed-next dir ws k w vs start now is so_far =
    if_some-weaker (AreOpen (map (final_rename dir) (drop k ws))) (IsOpen (final_rename dir w))
    now.shown
    (λ t all. (subst (λ l. AreOpen (map (final_rename dir) l) t) is all).0) so_far.left

pub renamed-more : (dir : Path) (ws : List AttemptId) (k : ℕ) (w : AttemptId)
    (start now next : FilesState) → drop k ws ≡ w ∷ drop (suc k) ws
    → HasRenamed dir ws k start now → MakesCalls (final_rename dir w ∷ []) now next (Ok tt)
    → HasRenamed dir ws (suc k) start next
renamed-more dir ws k w start now next is so_far one =
    let f = final_rename dir in
    record {
      calls = subst (λ l. MakesCalls l start next (Ok tt))
          (map-push f (take k ws) w ∙ ap (map f) (sym (take-more ws k w (drop (suc k) ws) is)))
          (calls-then (map f (take k ws)) (f w ∷ []) start now next (Ok tt) so_far.calls one);
      left = changes-after (λ t u. u ≡ after_call t (f w)) (AreOpen (map f (drop k ws)))
          (AreOpen (map f (drop (suc k) ws))) now.shown next.shown
          (λ t u all e. subst (AreOpen (map f (drop (suc k) ws))) (sym e)
          (subst (λ l. AreOpen (map f l) t) is all).1) so_far.left one.1;
    }

pub renamed-stopped : (dir : Path) (ws : List AttemptId) (k : ℕ) (w : AttemptId)
    (vs : List AttemptId) (start now next : FilesState) (fault : OrMemory Path)
    → drop k ws ≡ w ∷ vs → HasRenamed dir ws k start now
    → MakesCalls (final_rename dir w ∷ []) now next (Err fault)
    → MakesCalls (map (final_rename dir) ws) start next (Err fault)
renamed-stopped dir ws k w vs start now next fault is so_far one =
    let f = final_rename dir in
    subst (λ l. MakesCalls l start next (Err fault)) (map-split f ws k w vs is)
    (calls-ended (map f (take k ws) ++ f w ∷ []) (map f vs) start next fault
    (calls-then (map f (take k ws)) (f w ∷ []) start now next (Err fault) so_far.calls one))
