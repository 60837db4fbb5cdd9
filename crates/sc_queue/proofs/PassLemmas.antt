-- Passes that are made and joined keep the rule.
use Rattle.std.proofs.Common.{◌≡◌, ◌≢◌, ◌<◌, ℕ, suc, true, List, [], ◌∷◌, ◌++◌, length, set, Some, refl, sym, ap, ◌∙◌, subst, ⊎_elim, arith, length-append}
use Rattle.std.specs.Prelude.{slice_get}
use mathlib.Core.Option.{some}
use lib.ListN.{get_elem?}
use native.Mathlib.Decide.{ℕ_discrete}
use Rattle.crossbeam_queue.specs.Fifo as fifo
use Rattle.crossbeam_queue.proofs.Lists.{at_set, at_longer, set_else, set_here}
use Rattle.sc_queue.specs.declared.rules.Posted.{Posted}
use Rattle.sc_queue.specs.declared.rules.Hand.{Hand}
use Rattle.sc_queue.specs.declared.rules.Hand.TheVariants.{Executor, Driver, Spent}
use Rattle.sc_queue.specs.Rule.{reports_of, Knows, AreInOrder, one_more, next_executor, joined_by, is_driver, MayJoin, popped_of, joined_of, made_of}
use Rattle.sc_queue.proofs.ViewLemmas.{off, within, length_set, at_snoc_end, get_front, get_last, All, all_set}

-- split pass
pub forks : {T : Type 0} → (pass : ℕ) (v : Hand T) → is_driver v ≡ true
    → fifo.Forks AreInOrder pass v (one_more v) (next_executor v)
forks {T = T} pass Spent is items views h at = absurd (off is)
forks {T = T} pass (Executor e pushed) is items views h at = absurd (off is)
forks {T = T} pass (Driver made popped joined) is items views h at =
    let all = h.0 ++ items in
    let w = Driver (suc made) popped joined in
    let r = Executor made [] in
    let mine = h.2 pass (Driver made popped joined) at in
    let vs : List (Hand T) = set views pass w in
    let now : List (Hand T) = vs ++ r ∷ [] in
    let many : length now ≡ suc (suc made) =
    omega (arith, length-append vs (r ∷ []), length_set views pass w, mine.1) in
    let old : All (Knows h.0 all now) vs =
    all_set (Knows h.0 all now) views pass w (
      mine.0,
      many,
      mine.2,
      (λ k le. mine.3 k (omega arith)),
      (let le = mine.4 in omega arith),
      (λ k lt.
          let was = mine.5 k lt in
          let away : suc k ≢ pass = λ e. absurd (let z : pass ≡ 0 = mine.0 in omega arith) in (
            at_longer vs (r ∷ []) (suc k) Spent (set_else views pass (suc k) w away ∙ was.0),
            was.1,
          )),
    )
    (λ j u apart there. others h.0 all views now pass mine.0 j u apart (h.2 j u there)) in (
      h.0,
      h.1,
      λ j u there. ⊎_elim (λ was. old j u was)
          (λ (is_new : (j ≡ length vs) × (r ≡ u)).
          subst (λ (y : ℕ × Hand T). Knows h.0 all now y.0 y.1) (λ i. (sym is_new.0 i, is_new.1 i))
          (length_set views pass w ∙ mine.1, sym (mine.3 made (omega arith))))
          (at_snoc_end vs r u j there),
    )
  where
    others : (got all : List (Posted T)) (views now : List (Hand T)) (pass : ℕ) → pass ≡ 0
        → (j : ℕ) (u : Hand T) → j ≢ pass → Knows got all views j u → Knows got all now j u
    others got all views now pass first j Spent apart old = tt
    others got all views now pass first j (Executor k ys) apart old = old
    others got all views now pass first j (Driver made popped joined) apart old =
        absurd (apart (old.0 ∙ sym first))

-- join pass
pub merges : {T : Type 0} → (pass : ℕ) (v : Hand T) (other : ℕ) (u : Hand T) → MayJoin v u
    → fifo.Merges AreInOrder pass v other u (joined_by v u) Spent
merges {T = T} pass Spent other u may items views h at two there = absurd may
merges {T = T} pass (Executor e pushed) other u may items views h at two there = absurd may
merges {T = T} pass (Driver made popped joined) other Spent may items views h at two there =
    absurd may
merges {T = T} pass (Driver made popped joined) other (Driver m p j) may items views h at two
    there =
    absurd may
merges {T = T} pass (Driver made popped joined) other (Executor e pushed) next items views h at two
    there =
    let all = h.0 ++ items in
    let both = Driver made popped (joined ++ pushed ∷ []) in
    let mine = h.2 pass (Driver made popped joined) at in
    let vs : List (Hand T) = set views pass both in
    let now : List (Hand T) = set vs other Spent in
    let was : get_elem? views other ≡ some (Executor e pushed) =
    ⊎_elim (λ x. absurd (two x.0)) (λ x. x.1)
    (at_set views pass other both (Executor e pushed) there) in
    let theirs = h.2 other (Executor e pushed) was in
    let many : length now ≡ suc made =
    length_set vs other Spent ∙ length_set views pass both ∙ mine.1 in
    let long = within views other (Executor e pushed) was in
    let at_e : other ≡ suc e = theirs.0 in
    let long_now : other < length vs = omega (arith, length_set views pass both) in
    let last_entry : (k : ℕ) → Dec (k ≡ e) → k < length (joined ++ pushed ∷ [])
    → (get_elem? now (suc k) ≡ some Spent)
    × (slice_get (joined ++ pushed ∷ []) k ≡ Some (reports_of k all)) =
    entry h.0 all views pass other e made popped joined pushed mine next theirs long_now in
    let first : All (Knows h.0 all now) vs =
    all_set (Knows h.0 all now) views pass both (
      mine.0,
      many,
      mine.2,
      mine.3,
      (omega (arith, length-append joined (pushed ∷ []), mine.1, next)),
      λ k lt. last_entry k (ℕ_discrete k e) lt,
    )
    (λ j u apart is. others h.0 all views now pass mine.0 j u apart (h.2 j u is)) in
    (h.0, h.1, all_set (Knows h.0 all now) vs other Spent tt (λ j u apart is. first j u is))
  where
    others : (got all : List (Posted T)) (views now : List (Hand T)) (pass : ℕ) → pass ≡ 0
        → (j : ℕ) (u : Hand T) → j ≢ pass → Knows got all views j u → Knows got all now j u
    others got all views now pass first j Spent apart old = tt
    others got all views now pass first j (Executor k ys) apart old = old
    others got all views now pass first j (Driver made popped joined) apart old =
        absurd (apart (old.0 ∙ sym first))

    entry : (got all : List (Posted T)) (views : List (Hand T)) (pass other e made : ℕ)
        (popped : List (Posted T)) (joined : List (List (Posted T))) (pushed : List (Posted T))
        → Knows got all views pass (Driver made popped joined) → e ≡ length joined
        → Knows got all views other (Executor e pushed)
        → other < length (set views pass (Driver made popped (joined ++ pushed ∷ [])))
        → (k : ℕ) → Dec (k ≡ e) → k < length (joined ++ pushed ∷ [])
        → (get_elem? (set (set views pass (Driver made popped (joined ++ pushed ∷ []))) other Spent)
        (suc k) ≡ some Spent)
        × (slice_get (joined ++ pushed ∷ []) k ≡ Some (reports_of k all))
    entry got all views pass other e made popped joined pushed mine next theirs long k (yes same)
        lt =
        let vs : List (Hand T) = set views pass (Driver made popped (joined ++ pushed ∷ [])) in (
          ap (λ i. get_elem? (set vs other Spent) i) (ap suc same ∙ sym theirs.0)
              ∙ set_here vs other Spent long,
          ap (λ i. slice_get (joined ++ pushed ∷ []) i) (same ∙ next) ∙ get_last joined pushed
              ∙ ap Some (theirs.1 ∙ ap (λ i. reports_of i all) (sym same)),
        )
    entry got all views pass other e made popped joined pushed mine next theirs long k (no ne) lt =
        let both = Driver made popped (joined ++ pushed ∷ []) in
        let vs : List (Hand T) = set views pass both in
        let short : k < length joined = omega (arith, length-append joined (pushed ∷ []), next) in
        let was = mine.5 k short in
        let away : suc k ≢ other = λ s. ne (let t : suc k ≡ suc e = s ∙ theirs.0 in omega arith) in
        let away' : suc k ≢ pass = λ s. absurd (let z : pass ≡ 0 = mine.0 in omega arith) in (
          set_else vs other (suc k) Spent away ∙ set_else views pass (suc k) both away' ∙ was.0,
          get_front joined (pushed ∷ []) k _ was.1,
        )

-- of a view that is known
pub made_more : {T : Type 0} → (v : Hand T) → is_driver v ≡ true
    → (is_driver (one_more v) ≡ true) × (made_of (one_more v) ≡ suc (made_of v))
    × (joined_of (one_more v) ≡ joined_of v) × (popped_of (one_more v) ≡ popped_of v)
    × (next_executor v ≡ Executor (made_of v) [])
made_more {T = T} Spent is = absurd (off is)
made_more {T = T} (Executor e pushed) is = absurd (off is)
made_more {T = T} (Driver made popped joined) is = (refl, refl, refl, refl, refl)

pub joined_is : {T : Type 0} → (v u : Hand T) (e : ℕ) (pushed : List (Posted T))
    → is_driver v ≡ true → u ≡ Executor e pushed
    → (is_driver (joined_by v u) ≡ true) × (made_of (joined_by v u) ≡ made_of v)
    × (joined_of (joined_by v u) ≡ joined_of v ++ pushed ∷ [])
    × (popped_of (joined_by v u) ≡ popped_of v)
joined_is {T = T} Spent u e pushed is is' = absurd (off is)
joined_is {T = T} (Executor k ys) u e pushed is is' = absurd (off is)
joined_is {T = T} (Driver made popped joined) u e pushed is is' =
    let whole : joined_by (Driver made popped joined) u
    ≡ Driver made popped (joined ++ pushed ∷ []) =
    ap (joined_by (Driver made popped joined)) is' in
    (ap is_driver whole, ap made_of whole, ap joined_of whole, ap popped_of whole)

pub merges_as : {T : Type 0}
    → (pass : ℕ) (v : Hand T) (other : ℕ) (u : Hand T) (e : ℕ) (pushed : List (Posted T))
    → is_driver v ≡ true → u ≡ Executor e pushed → e ≡ length (joined_of v)
    → fifo.Merges AreInOrder pass v other u (joined_by v u) Spent
merges_as {T = T} pass v other u e pushed is is' next =
    merges pass v other u (may v u e pushed is is' next)
  where
    may : (v u : Hand T) (e : ℕ) (pushed : List (Posted T)) → is_driver v ≡ true
        → u ≡ Executor e pushed → e ≡ length (joined_of v) → MayJoin v u
    may Spent u e pushed is is' next = absurd (off is)
    may (Executor k ys) u e pushed is is' next = absurd (off is)
    may (Driver made popped joined) u e pushed is is' next =
        subst (λ y. MayJoin (Driver made popped joined) y) (sym is') next
