-- What is due at a desk.
use Rattle.std.proofs.Common.{◌≡◌, ◌==◌, ◌&&◌, inl, inr, ℕ, Bool, true, false, not, List, [], ◌∷◌, Some, None, cond, is_some, nat_le, refl, arith, rules}
use Rattle.std.specs.List.{find}
use Rattle.std.specs.Option.{option_map}
use Rattle.std.proofs.lemmas.Bool.Decides.{nat_tests}
use Rattle.sc_core.specs.CoreData.{CoreData, has_key, job_runs, shelved_of}
use Rattle.sc_core.specs.Releases.{has_no_shelved}
use Rattle.sc_core.specs.declared.running.Shelved.{Shelved}
use Rattle.sc_desk.specs.Dues.{IsDueReport, first_key}

-- a shelf without a first key is empty
pub no_first : (shelf : List Shelved) → first_key shelf ≡ None → shelf ≡ []
no_first [] e = refl
no_first (s ∷ shelf) e = absurd (search (rules, e))

-- where a report is found under a key, one is under that key
keyed : (q : Shelved → Bool) (shelf : List Shelved) (key : ℕ)
    → option_map (λ (s : Shelved). s.key) (find q shelf) ≡ Some key
    → is_some (find (has_key key) shelf) ≡ true
keyed q [] key e = absurd (search (rules, e))
keyed q (s ∷ shelf) key e = by (λ f. keyed q shelf key f) (q s) (s.key == key) refl e
  where
    by : (option_map (λ (x : Shelved). x.key) (find q shelf) ≡ Some key
        → is_some (find (has_key key) shelf) ≡ true) → (b c : Bool) → (s.key == key) ≡ c
        → option_map (λ (x : Shelved). x.key) (cond b (Some s) (find q shelf)) ≡ Some key
        → is_some (cond c (Some s) (find (has_key key) shelf)) ≡ true
    by rest b true same f = refl
    by rest true false same f =
        let key_is : s.key ≡ key = search (rules, f) in
        absurd (grind (arith, nat_tests, same, key_is))
    by rest false false same f = rest f

-- a report that is due may be released
pub due_there : (c : CoreData) (exec key : ℕ) → IsDueReport c exec (Some key)
    → has_no_shelved c key ≡ false
due_there c exec key due = rw (there due) (by (job_runs c))
  where
    there : IsDueReport c exec (Some key) → is_some (shelved_of c key) ≡ true
    there (inl first) = keyed (λ s. nat_le s.due c.told) c.shelf key first
    there (inr (none, idle, first)) = keyed (λ s. true) c.shelf key first

    by : (b : Bool) → (b && not true) ≡ false
    by true = refl
    by false = refl
