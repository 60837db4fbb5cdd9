-- A new queue keeps its rule, and so does a push.
use Rattle.std.proofs.Common.{◌≡◌, ◌≢◌, ℕ, zero, suc, ◌+◌, List, [], ◌∷◌, ◌++◌, length, set, Some, refl, sym, ap, ◌∙◌, subst, arith, append_assoc, append-nil}
use mathlib.Core.Option.{some, some-ne-none, some-injective}
use lib.ListN.{get_elem?}
use native.Mathlib.Decide.{ℕ_discrete}
use Rattle.crossbeam_queue.specs.Fifo as fifo
use Rattle.crossbeam_queue.proofs.Lists.{set_else}
use Rattle.sc_queue.specs.declared.rules.Posted.{Posted}
use Rattle.sc_queue.specs.declared.rules.Hand.{Hand}
use Rattle.sc_queue.specs.declared.rules.Hand.TheVariants.{Executor, Driver, Spent}
use Rattle.sc_queue.specs.Rule.{reports_of, AreNumbered, Knows, AreInOrder, Pushed, MayPush}
use Rattle.sc_queue.proofs.ViewLemmas.{reports_append, one_here, one_else, numbered_last, within, length_set, not_spent, All, all_set}

-- a queue that is new
pub begins : {T : Type 0} → AreInOrder {T = T} [] (Driver 0 [] [] ∷ [])
begins {T = T} = ([], (λ e. tt), one)
  where
    one : (pass : ℕ) (v : Hand T) → get_elem? (Driver 0 [] [] ∷ []) pass ≡ some v
        → Knows [] [] (Driver 0 [] [] ∷ []) pass v
    one zero v e =
        subst (Knows [] [] (Driver 0 [] [] ∷ []) 0) (some-injective _ _ e)
        (refl, refl, refl, (λ e _. refl), omega arith, λ e h. absurd (omega arith))
    one (suc pass) v e = absurd (some-ne-none v (sym e))

-- push
numbered_by : {T : Type 0} → (e k : ℕ) (pushed all : List (Posted T)) (x : Posted T) → x.exec ≡ e
    → x.number ≡ suc (length pushed) → pushed ≡ reports_of e all
    → AreNumbered 1 (reports_of k all) → Dec (k ≡ e) → AreNumbered 1 (reports_of k (all ++ x ∷ []))
numbered_by {T = T} e k pushed all x is number mine old (yes same) =
    let of_k : pushed ≡ reports_of k all = mine ∙ ap (λ m. reports_of m all) (sym same) in
    let same_len : length pushed ≡ length (reports_of k all) = ap length of_k in
    let n : x.number ≡ 1 + length (reports_of k all) = omega (arith, number) in
    let whole : reports_of k (all ++ x ∷ []) ≡ reports_of k all ++ x ∷ [] =
    reports_append k all (x ∷ [])
    ∙ ap (λ l. reports_of k all ++ l) (one_here x k (is ∙ sym same)) in
    subst (AreNumbered 1) (sym whole) (numbered_last 1 (reports_of k all) x old n)
numbered_by {T = T} e k pushed all x is number mine old (no ne) =
    subst (AreNumbered 1)
    (sym (reports_append k all (x ∷ []) ∙ ap (λ l. reports_of k all ++ l) (one_else x e k is ne)
    ∙ append-nil (reports_of k all))) old

pub pushes : {T : Type 0} → (n pass : ℕ) (v : Hand T) (x : Posted T) → MayPush v x
    → fifo.Pushes AreInOrder n pass v x (Pushed v x)
pushes {T = T} n pass Spent x may items views room h at = absurd may
pushes {T = T} n pass (Driver made popped joined) x may items views room h at = absurd may
pushes {T = T} n pass (Executor e pushed) x may items views room h at =
    let all = h.0 ++ items in
    let w = Executor e (pushed ++ x ∷ []) in
    let mine = h.2 pass (Executor e pushed) at in
    let longer : all ++ x ∷ [] ≡ h.0 ++ (items ++ x ∷ []) = append_assoc h.0 items (x ∷ []) in
    let whole : (k : ℕ) → k ≢ e → reports_of k all ≡ reports_of k (all ++ x ∷ []) =
    λ k ne. sym (reports_append k all (x ∷ []) ∙ ap (λ l. reports_of k all ++ l)
    (one_else x e k may.0 ne) ∙ append-nil (reports_of k all)) in
    let here : pushed ++ x ∷ [] ≡ reports_of e (all ++ x ∷ []) =
    ap (λ l. l ++ x ∷ []) mine.1 ∙ ap (λ l. reports_of e all ++ l) (sym (one_here x e may.0))
    ∙ sym (reports_append e all (x ∷ [])) in
    let kept : All (Knows h.0 (all ++ x ∷ []) (set views pass w)) (set views pass w) =
    all_set (Knows h.0 (all ++ x ∷ []) (set views pass w)) views pass w (mine.0, here)
    (λ j u apart there. others h.0 all views pass e pushed x w mine.0 at whole j u apart
    (h.2 j u there)) in (
      w,
      (
        h.0,
        (λ k. subst (λ l. AreNumbered 1 (reports_of k l)) longer
            (numbered_by e k pushed all x may.0 may.1 mine.1 (h.1 k) (ℕ_discrete k e))),
        subst (λ l. All (Knows h.0 l (set views pass w)) (set views pass w)) longer kept,
      ),
      refl,
    )
  where
    others : (got all : List (Posted T)) (views : List (Hand T)) (pass e : ℕ)
        (pushed : List (Posted T)) (x : Posted T) (w : Hand T)
        → pass ≡ suc e → get_elem? views pass ≡ some (Executor e pushed)
        → ((k : ℕ) → k ≢ e → reports_of k all ≡ reports_of k (all ++ x ∷ []))
        → (j : ℕ) (u : Hand T) → j ≢ pass → Knows got all views j u
        → Knows got (all ++ x ∷ []) (set views pass w) j u
    others got all views pass e pushed x w at_e there whole j Spent apart old = tt
    others got all views pass e pushed x w at_e there whole j (Executor k ys) apart old =
        let ne : k ≢ e = λ same. apart (old.0 ∙ ap suc same ∙ sym at_e) in
        (old.0, old.1 ∙ whole k ne)
    others got all views pass e pushed x w at_e there whole j (Driver made popped joined) apart
        old =
        let long = within views pass (Executor e pushed) there in
        let many : length views ≡ suc made = old.1 in (
          old.0,
          length_set views pass w ∙ old.1,
          old.2,
          (λ k le. let ne : k ≢ e = λ same. absurd (omega arith) in sym (whole k ne) ∙ old.3 k le),
          old.4,
          (λ k lt.
              let was = old.5 k lt in
              let ne : k ≢ e = λ same. not_spent views pass e pushed there
              (ap (λ i. get_elem? views i) (at_e ∙ ap suc (sym same)) ∙ was.0) in
              let away : suc k ≢ pass = λ same.
              ne (let s : suc k ≡ suc e = same ∙ at_e in omega arith) in
              (set_else views pass (suc k) w away ∙ was.0, was.1 ∙ ap Some (whole k ne))),
        )

-- of a view that is known
pub pushes_as : {T : Type 0}
    → (n pass : ℕ) (v : Hand T) (e : ℕ) (pushed : List (Posted T)) (x : Posted T)
    → v ≡ Executor e pushed → x.exec ≡ e → x.number ≡ suc (length pushed)
    → fifo.Pushes AreInOrder n pass v x (Pushed v x)
pushes_as {T = T} n pass v e pushed x is exec number =
    pushes n pass v x (subst (λ u. MayPush u x) (sym is) (exec, number))

pub pushed_is : {T : Type 0}
    → (v : Hand T) (e : ℕ) (pushed : List (Posted T)) (x : Posted T) (w : Hand T)
    → v ≡ Executor e pushed → Pushed v x w → w ≡ Executor e (pushed ++ x ∷ [])
pushed_is {T = T} v e pushed x w is h = subst (λ u. Pushed u x w) is h
