-- Where a running attempt stands among others.
use Rattle.std.proofs.Common.{◌≡◌, ℕ, ◌<◌, Bool, true, false, cond, List, length, Some, None, slice_get, nat_lt, inl, inr, refl, ◌∙◌, arith}
use Rattle.std.specs.List.{AllPairs, position, position_or_len}
use Rattle.std.proofs.lemmas.Bool.Decides.{nat_tests}
use Rattle.std.proofs.lemmas.List.Folds.{find_at}
use Rattle.std.proofs.lemmas.Option.{slice_get_cases}
use Rattle.sc_ids.specs.declared.attempts.AttemptId.{AttemptId}
use Rattle.sc_taskset.proofs.FindLemmas.{removed_alone}
use Rattle.sc_commit.specs.Committing.{is_same}
use Rattle.sc_commit.proofs.LawLemmas.{is_same_itself, same_attempt}
use Rattle.sc_core.specs.CoreData.{is_of}
use Rattle.sc_core.specs.Rooms.{IsRunningAt}
use Rattle.sc_core.specs.Sound.{AreTwo}
use Rattle.sc_core.specs.declared.running.Running.{Running}

-- two attempts that are different don't have the same numbers
pub clash : (a : AttemptId) (q r : Running) → AreTwo q r → is_of a q ≡ true → is_of a r ≡ false
clash a q r two e = by (is_of a r) refl
  where
    by : (b : Bool) → is_of a r ≡ b → is_of a r ≡ false
    by false h = h
    by true h =
        let first : q.hand_out.attempt ≡ a = same_attempt q.hand_out.attempt a e in
        let second : r.hand_out.attempt ≡ a = same_attempt r.hand_out.attempt a h in
        let same : is_same q.hand_out.attempt r.hand_out.attempt ≡ true =
        rw (first, second) (is_same_itself a) in
        let other = two.attempts in
        absurd (cc)

-- the place at which it is found
pub place_found : (running : List Running) (a : AttemptId) (place : ℕ)
    → AllPairs AreTwo running → Some place ≡ position (is_of a) running
    → IsRunningAt running a place
place_found running a place pairs is = by (nat_lt at (length running)) refl is
  where
    at : ℕ
    at = position_or_len (is_of a) running

    here : at < length running → (one : Running) → slice_get running at ≡ Some one
        → place ≡ at → IsRunningAt running a place
    here lt one there same =
        rw same
        (record {
          one = one;
          found = find_at (is_of a) running ∙ there;
          here = there;
          alone = removed_alone AreTwo (is_of a) (clash a) running pairs lt;
        })

    by : (b : Bool) → nat_lt at (length running) ≡ b → Some place ≡ cond b (Some at) None
        → IsRunningAt running a place
    by true lt e =
        let same : place ≡ at = cc in
        elim (slice_get_cases running at).1 [
          | inl w ↦ here w.1 w.0 w.2 same
          | inr w ↦ absurd (grind (arith, nat_tests, lt, w.0))
        ]
    by false lt e = absurd (cc)
