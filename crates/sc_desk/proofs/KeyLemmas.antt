-- Where a report stands among those that are to be told later.
use Rattle.std.proofs.Common.{◌≡◌, ◌∙◌, ℕ, ◌<◌, Bool, true, false, not, cond, List, [], ◌∷◌, length, remove, Some, None, get_or, nat_lt, refl, ap, sym, arith}
use Rattle.std.specs.List.{AllPairs, filter, find, position, position_or_len}
use Rattle.std.specs.Option.{option_map}
use Rattle.std.proofs.lemmas.Bool.Decides.{nat_tests}
use Rattle.std.proofs.lemmas.List.Folds.{find_at}
use Rattle.std.proofs.lemmas.Option.{slice_get_read}
use Rattle.sc_net.specs.declared.shelved.ShelvedReport.{ShelvedReport}
use Rattle.sc_net.specs.Shelves.{IsBefore, is_under}
use Rattle.sc_taskset.proofs.FindLemmas.{none_placed, removed_alone}

-- where none passes, all are left that don't
none_removed : {A : Type 0} (p : A → Bool) (xs : List A) → find p xs ≡ None
    → filter (λ y. not (p y)) xs ≡ xs
none_removed p [] none = refl
none_removed p (x ∷ xs) none = by (p x) refl none (λ h. none_removed p xs h)
  where
    by : (b : Bool) → p x ≡ b → cond b (Some x) (find p xs) ≡ None
        → (find p xs ≡ None → filter (λ y. not (p y)) xs ≡ xs)
        → cond (not (p x)) (x ∷ filter (λ y. not (p y)) xs) (filter (λ y. not (p y)) xs)
        ≡ x ∷ xs
    by true e h rest = absurd (cc)
    by false e h rest = rw e (ap (λ ys. x ∷ ys) (rest h))

module _ {R : Type 0} where
  -- a later report has another key
  clash : (key : ℕ) (q r : ShelvedReport R) → IsBefore q r → is_under key q ≡ true
      → is_under key r ≡ false
  clash key q r before e = grind (arith, nat_tests)

  -- the report under a key stands there
  pub record IsUnderAt (reports : List (ShelvedReport R)) (key place : ℕ) : Type 0 where
    pub within : place < length reports
    pub found : (r : ShelvedReport R) → r ≡ get_or reports place r
        → Some r.report ≡ option_map (λ q. q.report) (find (is_under key) reports)
    pub alone : remove reports place ≡ filter (λ r. not (is_under key r)) reports

  -- the place at which it is found
  pub place_found : (reports : List (ShelvedReport R)) (key place : ℕ)
      → AllPairs IsBefore reports → Some place ≡ position (is_under key) reports
      → IsUnderAt reports key place
  place_found reports key place pairs is = by (nat_lt at (length reports)) refl is
    where
      at : ℕ
      at = position_or_len (is_under key) reports

      here : at < length reports → place ≡ at → IsUnderAt reports key place
      here lt same =
          rw same
          (record {
            within = lt;
            found = λ r read.
                ap (option_map (λ q. q.report))
                (sym (find_at (is_under key) reports
                ∙ slice_get_read reports (length reports) at r refl lt read));
            alone = removed_alone IsBefore (is_under key) (clash key) reports pairs lt;
          })

      by : (b : Bool) → nat_lt at (length reports) ≡ b → Some place ≡ cond b (Some at) None
          → IsUnderAt reports key place
      by true lt e =
          let same : place ≡ at = cc in
          here (grind (arith, nat_tests, lt)) same
      by false lt e = absurd (cc)

  -- where none has a place, all stay as they are without one
  pub none_goes : (reports : List (ShelvedReport R)) (key : ℕ)
      → None ≡ position (is_under key) reports
      → reports ≡ filter (λ r. not (is_under key r)) reports
  none_goes reports key is =
      sym (none_removed (is_under key) reports (none_placed (is_under key) reports is))
