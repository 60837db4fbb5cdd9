-- Reports picked from those that a journal tells, one for each of some numbers.
use Rattle.std.proofs.Common.{◌≡◌, ℕ, ◌==◌, ◌&&◌, Bool, true, List, [], ◌∷◌, All, Contains, map, refl, ap, ◌∙◌, arith}
use Rattle.std.specs.List.{Any, list_any}
use Rattle.std.proofs.lemmas.Bool.{or_right}
use Rattle.std.proofs.lemmas.Bool.Decides.{nat_tests}
use Rattle.std.proofs.lemmas.List.Elements.{All-cons, All-nil}
use Rattle.std.proofs.lemmas.List.Folds.{Any-from_list_any}
use Rattle.sc_dag.proofs.Tests.{both_left, both_right, is_in}
use Rattle.sc_history.specs.Tellings.{Telling}

-- some report passes a test, and has this number
abbrev pub is_there : (Telling → Bool) → (Telling → ℕ) → List Telling → ℕ → Bool
is_there test view told n = list_any (λ e. test e && (view e == n)) told

-- reports that pass a test, with these numbers in order
pub record Picked (test : Telling → Bool) (view : Telling → ℕ) (told : List Telling) (ns : List ℕ)
    : Type 0 where
  pub picked : List Telling
  pub among : All (Contains told) picked
  pub are : All (λ e. test e ≡ true) picked
  pub views : map view picked ≡ ns

one_picked : (test : Telling → Bool) (view : Telling → ℕ) (told : List Telling) (n : ℕ)
    → is_there test view told n ≡ true
    → (e : Telling) × Contains told e × ((test e && (view e == n)) ≡ true)
one_picked test view told n h =
    by (Any-from_list_any (λ e. test e && (view e == n)) told h)
  where
    by : Any (λ e. (test e && (view e == n)) ≡ true) told
        → (e : Telling) × Contains told e × ((test e && (view e == n)) ≡ true)
    by (place, e, lt, at, is) = (e, (place, lt, at), is)

pub all_picked : (test : Telling → Bool) (view : Telling → ℕ) (told : List Telling) (ns : List ℕ)
    → ((n : ℕ) → is_in ns n ≡ true → is_there test view told n ≡ true)
    → Picked test view told ns
all_picked test view told [] h =
    record {
      picked = [];
      among = All-nil (Contains told);
      are = All-nil (λ e. test e ≡ true);
      views = refl;
    }
all_picked test view told (n ∷ ns) h =
    more (one_picked test view told n (h n itself))
    (all_picked test view told ns (λ m is. h m (or_right (n == m) (is_in ns m) is)))
  where
    itself : is_in (n ∷ ns) n ≡ true
    itself = grind (arith, nat_tests)

    more : (e : Telling) × Contains told e × ((test e && (view e == n)) ≡ true)
        → Picked test view told ns → Picked test view told (n ∷ ns)
    more (e, there, is) rest =
        record {
          picked = e ∷ rest.picked;
          among = All-cons (Contains told) e rest.picked there rest.among;
          are = All-cons (λ x. test x ≡ true) e rest.picked (both_left (test e) _ is) rest.are;
          views =
              let at : (view e == n) ≡ true = both_right (test e) _ is in
              let same : view e ≡ n = grind (arith, nat_tests, at) in
              ap (λ m. m ∷ map view rest.picked) same ∙ ap (λ ms. n ∷ ms) rest.views;
        }
