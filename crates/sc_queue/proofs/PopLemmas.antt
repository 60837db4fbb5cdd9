-- A pop keeps the rule, and what the driver learns by one.
use Rattle.std.proofs.Common.{◌≡◌, ◌≢◌, ℕ, suc, true, List, [], ◌∷◌, ◌++◌, length, set, Option, None, Some, refl, sym, ap, ◌∙◌, subst, arith, append_assoc, append-nil}
use Rattle.std.specs.Prelude.{MatchOption}
use Rattle.crossbeam_queue.specs.Fifo as fifo
use Rattle.crossbeam_queue.proofs.Lists.{set_else}
use Rattle.sc_queue.specs.declared.rules.Posted.{Posted}
use Rattle.sc_queue.specs.declared.rules.Hand.{Hand}
use Rattle.sc_queue.specs.declared.rules.Hand.TheVariants.{Executor, Driver, Spent}
use Rattle.sc_queue.specs.Rule.{reports_of, AreNumbered, Knows, AreInOrder, Popped, is_driver, IsDelivered, AreDelivered, popped_of, joined_of, made_of, as_list}
use Rattle.sc_queue.proofs.ViewLemmas.{off, reports_append, length_set, All, all_set}

-- pop
pub pops : {T : Type 0} → (pass : ℕ) (v : Hand T) → is_driver v ≡ true
    → fifo.Pops AreInOrder pass v (Popped v)
pops {T = T} pass Spent is x items views h at = absurd (off is)
pops {T = T} pass (Executor e pushed) is x items views h at = absurd (off is)
pops {T = T} pass (Driver made popped joined) is x items views h at =
    let got = h.0 ++ x ∷ [] in
    let w = Driver made (popped ++ x ∷ []) joined in
    let mine = h.2 pass (Driver made popped joined) at in
    let same : h.0 ++ x ∷ items ≡ got ++ items = sym (append_assoc h.0 (x ∷ []) items) in
    let all = h.0 ++ x ∷ items in
    let kept : All (Knows got all (set views pass w)) (set views pass w) =
    all_set (Knows got all (set views pass w)) views pass w (
      mine.0,
      length_set views pass w ∙ mine.1,
      ap (λ l. l ++ x ∷ []) mine.2,
      mine.3,
      mine.4,
      λ k lt.
          let was = mine.5 k lt in
          let away : suc k ≢ pass = λ e. absurd (let z : pass ≡ 0 = mine.0 in omega arith) in
          (set_else views pass (suc k) w away ∙ was.0, was.1),
    )
    (λ j u apart there. others h.0 got all views pass w mine.0 j u apart (h.2 j u there)) in (
      w,
      (
        got,
        (λ k. subst (λ l. AreNumbered 1 (reports_of k l)) same (h.1 k)),
        subst (λ l. All (Knows got l (set views pass w)) (set views pass w)) same kept,
      ),
      refl,
    )
  where
    others : (before got all : List (Posted T)) (views : List (Hand T)) (pass : ℕ) (w : Hand T)
        → pass ≡ 0 → (j : ℕ) (u : Hand T) → j ≢ pass → Knows before all views j u
        → Knows got all (set views pass w) j u
    others before got all views pass w first j Spent apart old = tt
    others before got all views pass w first j (Executor k ys) apart old = old
    others before got all views pass w first j (Driver made popped joined) apart old =
        absurd (apart (old.0 ∙ sym first))

-- what the driver learns
pub learns : {T : Type 0} → (pass : ℕ) (v : Hand T) → is_driver v ≡ true
    → fifo.Learns AreInOrder pass v (IsDelivered v)
learns {T = T} pass Spent is items views h at = tt
learns {T = T} pass (Executor e pushed) is items views h at = tt
learns {T = T} pass (Driver made popped joined) is items views h at = λ e lt.
    let mine = h.2 pass (Driver made popped joined) at in
    let parts : reports_of e (h.0 ++ items) ≡ reports_of e popped ++ reports_of e items =
    reports_append e h.0 items ∙ ap (λ l. reports_of e l ++ reports_of e items) (sym mine.2) in
    ((mine.5 e lt).1 ∙ ap Some parts, subst (AreNumbered 1) parts (h.1 e))

-- at a moment when the queue was empty
pub delivered_whole : {T : Type 0} → (v : Hand T) → is_driver v ≡ true → fifo.Held 0 (IsDelivered v)
    → AreDelivered (popped_of v) (joined_of v)
delivered_whole {T = T} Spent is held = absurd (off is)
delivered_whole {T = T} (Executor e pushed) is held = absurd (off is)
delivered_whole {T = T} (Driver made popped joined) is held = λ e lt.
    let empty : held.0 ≡ [] = length_zero held.0 held.1 in
    let all = held.2 e lt in
    let parts : reports_of e popped ++ reports_of e held.0 ≡ reports_of e popped =
    ap (λ l. reports_of e popped ++ reports_of e l) empty ∙ append-nil (reports_of e popped) in
    (all.0 ∙ ap Some parts, subst (AreNumbered 1) parts all.1)
  where
    length_zero : (l : List (Posted T)) → length l ≡ 0 → l ≡ []
    length_zero [] e = refl
    length_zero (x ∷ xs) e = absurd (omega arith)

-- of a view that is known
pub popped_is : {T : Type 0} → (v : Hand T) (x : Posted T) (w : Hand T) → is_driver v ≡ true
    → Popped v x w
    → (is_driver w ≡ true) × (made_of w ≡ made_of v) × (joined_of w ≡ joined_of v)
    × (popped_of w ≡ popped_of v ++ x ∷ [])
popped_is {T = T} Spent x w is h = absurd (off is)
popped_is {T = T} (Executor e pushed) x w is h = absurd (off is)
popped_is {T = T} (Driver made popped joined) x w is h =
    (ap is_driver h, ap made_of h, ap joined_of h, ap popped_of h)

pub pops_as : {T : Type 0} → (pass : ℕ) (v : Hand T) → is_driver v ≡ true
    → fifo.Pops AreInOrder pass v (Popped v) × fifo.Learns AreInOrder pass v (IsDelivered v)
pops_as {T = T} pass v d = (pops pass v d, learns pass v d)

-- what a pop adds
pub pops_list : {T : Type 0} → (o : Option (Posted T)) (v w : Hand T) (F : Type 0)
    → is_driver v ≡ true → MatchOption o ((w ≡ v) × F) (λ x. Popped v x w)
    → popped_of w ≡ popped_of v ++ as_list o
pops_list {T = T} None v w F is h = ap popped_of h.0 ∙ sym (append-nil (popped_of v))
pops_list {T = T} (Some x) v w F is h = (popped_is v x w is h).3
