-- What runs once an attempt has reported, or runs no more.
use Rattle.std.proofs.Common.{◌≡◌, not, All, Bool, true, false, cond, List, [], ◌∷◌, Contains, Option, Some, None, find, map, option_map, refl, ap, sym, subst, ◌∙◌, rules, true≢false}
use Rattle.std.specs.List.{AllPairs, filter}
use Rattle.std.proofs.lemmas.List.Elements.{All-cons, All-contains, All-contains_itself, All-filter, All-map, All-nil, All-weaker, filter_passes}
use Rattle.sc_ids.specs.declared.attempts.AttemptId.{AttemptId}
use Rattle.sc_commit.specs.Committing.{is_same}
use Rattle.sc_taskset.proofs.FindLemmas.{found_is, found_passes, pairs_head, pairs_tail}
use Rattle.sc_dag.proofs.Tests.{clash}
use Rattle.sc_core.specs.CoreData.{as_in, is_of}
use Rattle.sc_core.specs.Sound.{AreTwo}
use Rattle.sc_core.specs.declared.running.Running.{Running}
use Rattle.sc_core.proofs.LookupLemmas.{same_is}
use Rattle.sc_core.proofs.PlaceLemmas.{clash as two_clash}
use Rattle.sc_core.proofs.RunningLemmas.{found_beside, none_passes, same_sym}
use Rattle.sc_core.proofs.ShelfLemmas.{find_in}

-- ---- items of lists

-- what is found is in the list
found_in : {A : Type 0} (q : A → Bool) (xs : List A) (x : A) → find q xs ≡ Some x → Contains xs x
found_in q xs x e = found_is (Contains xs) q xs x (All-contains_itself xs) e

-- what passes a test is in the list
in_filter : {A : Type 0} (q : A → Bool) (xs : List A) (x : A) → Contains (filter q xs) x
    → Contains xs x × (q x ≡ true)
in_filter q xs x is_in = (
  All-contains (Contains xs) (filter q xs) x
      (All-filter q (Contains xs) xs (All-contains_itself xs)) is_in,
  All-contains (λ y. q y ≡ true) (filter q xs) x (filter_passes q xs) is_in,
)

-- of attempts that are different each is found under its numbers
all_found : (b : AttemptId) (running : List Running) → AllPairs AreTwo running
    → All (λ r. is_of b r ≡ true → find (is_of b) running ≡ Some r) running
all_found b [] pairs = All-nil (λ r. is_of b r ≡ true → find (is_of b) [] ≡ Some r)
all_found b (x ∷ xs) pairs =
    All-cons (λ r. is_of b r ≡ true → find (is_of b) (x ∷ xs) ≡ Some r) x xs
    (λ e. rw e refl)
    (λ i d l. more (pairs_head AreTwo x xs pairs i d l)
    (all_found b xs (pairs_tail AreTwo x xs pairs) i d l))
  where
    more : {r : Running} → AreTwo x r → (is_of b r ≡ true → find (is_of b) xs ≡ Some r)
        → is_of b r ≡ true → find (is_of b) (x ∷ xs) ≡ Some r
    more {r} two found of = by (is_of b x) refl
      where
        by : (u : Bool) → is_of b x ≡ u → cond u (Some x) (find (is_of b) xs) ≡ Some r
        by true e = absurd (clash of (two_clash b x r two e))
        by false e = found of

-- ---- fewer run

-- those that run are among these, each found under its numbers
pub record AreAmong (these running : List Running) : Type 0 where
  pub found : (b : AttemptId) (r : Running) → find (is_of b) these ≡ Some r
      → find (is_of b) running ≡ Some r
  pub there : (r : Running) → Contains these r → Contains running r

pub filter_among : (p : Running → Bool) (running : List Running) → AllPairs AreTwo running
    → AreAmong (filter p running) running
filter_among p running pairs =
    record {
      found = λ b r e.
          All-contains (λ x. is_of b x ≡ true → find (is_of b) running ≡ Some x) running r
          (all_found b running pairs)
          (in_filter p running r (found_in (is_of b) (filter p running) r e)).0
          (found_passes (is_of b) (filter p running) r e);
      there = λ r is_in. (in_filter p running r is_in).0;
    }

-- ---- an attempt isn't out any more

-- what runs once an attempt has reported: others run as before, and it isn't out
pub record AreLess (a : AttemptId) (running these : List Running) : Type 0 where
  pub others : (b : AttemptId) (r : Running) → is_same a b ≡ false
      → find (is_of b) these ≡ Some r → find (is_of b) running ≡ Some r
  pub own : find (is_of a) running ≡ None → find (is_of a) these ≡ None
  pub outs : (r : Running) → Contains these r → r.is_out ≡ true
      → Contains running r × (is_of a r ≡ false)

pub less_then : (a : AttemptId) (xs ys zs : List Running) → AreLess a xs ys → AreLess a ys zs
    → AreLess a xs zs
less_then a xs ys zs h k =
    record {
      others = λ b r other e. h.others b r other (k.others b r other e);
      own = λ e. k.own (h.own e);
      outs = λ r is_in is. h.outs r (k.outs r is_in is).0 is;
    }

-- it doesn't run at all
pub none_less : (a : AttemptId) (running : List Running) → find (is_of a) running ≡ None
    → AreLess a running running
none_less a running none =
    record {
      others = λ b r other e. e;
      own = λ e. e;
      outs = λ r is_in is. (
        is_in,
        All-contains (λ x. is_of a x ≡ false) running r
            (none_passes (is_of a) running none) is_in,
      );
    }

-- it runs no more
pub off_less : (a : AttemptId) (running : List Running)
    → AreLess a running (filter (λ r. not (is_of a r)) running)
off_less a running =
    record {
      others = λ b r other e. sym (found_beside a b running other) ∙ e;
      own = λ e. gone (find (is_of a) these) refl;
      outs = λ r is_in is.
          let there = in_filter (λ x. not (is_of a x)) running r is_in in
          (there.0, negated (is_of a r) there.1);
    }
  where
    these : List Running
    these = filter (λ r. not (is_of a r)) running

    negated : (b : Bool) → not b ≡ true → b ≡ false
    negated true h = absurd (true≢false (sym h))
    negated false h = refl

    gone : (o : Option Running) → find (is_of a) these ≡ o → o ≡ None
    gone None e = refl
    gone (Some r) e =
        absurd (clash (found_passes (is_of a) these r e)
        (negated (is_of a r)
        (in_filter (λ x. not (is_of a x)) running r (found_in (is_of a) these r e)).1))

-- its report is to be told later
pub late_less : (a : AttemptId) (running : List Running)
    → AreLess a running (map (as_in a) running)
late_less a running =
    record {
      others = λ b r other e.
          others b r other (find (is_of b) running) refl (sym (find_in a b running) ∙ e);
      own = λ e. find_in a a running ∙ ap (option_map (as_in a)) e;
      outs = λ r is_in is.
          All-contains
          (λ x. x.is_out ≡ true → Contains running x × (is_of a x ≡ false))
          (map (as_in a) running) r
          (All-map (λ x. x.is_out ≡ true → Contains running x × (is_of a x ≡ false)) (as_in a)
          running
          (All-weaker (Contains running)
          (λ x. (as_in a x).is_out ≡ true
          → Contains running (as_in a x) × (is_of a (as_in a x) ≡ false))
          (λ x there. out x there (is_of a x) refl) running (All-contains_itself running)))
          is_in is;
    }
  where
    out : (x : Running) → Contains running x → (u : Bool) → is_of a x ≡ u
        → (as_in a x).is_out ≡ true
        → Contains running (as_in a x) × (is_of a (as_in a x) ≡ false)
    out x there true e = rw e (λ is. absurd (true≢false (sym is)))
    out x there false e = rw e (λ is. (there, e))

    others : (b : AttemptId) (r : Running) → is_same a b ≡ false → (o : Option Running)
        → find (is_of b) running ≡ o → option_map (as_in a) o ≡ Some r → o ≡ Some r
    others b r other None e h = absurd (search (rules, h))
    others b r other (Some q) e h =
        let is : q.hand_out.attempt ≡ b =
        same_is q.hand_out.attempt b (found_passes (is_of b) running q e) in
        let apart : is_of a q ≡ false = rw (is, same_sym b a) other in
        subst (λ x. Some x ≡ Some r) (still apart) h
      where
        still : is_of a q ≡ false → as_in a q ≡ q
        still apart = rw apart refl
