-- Accounts of partitions, by what becomes of their sets and of what runs.
use Rattle.std.proofs.Common.{◌≡◌, ℕ, ◌+◌, ◌-◌, ◌≤◌, Bool, true, false, if◌then◌else◌, Option, Some, None, is_some, refl, ◌∙◌, arith, true≢false}
use Rattle.sc_taskset.specs.Offers.{given_of}
use Rattle.sc_taskset.specs.Reports.{after_held}
use Rattle.sc_taskset.specs.TaskSetData.{TaskSetData}
use Rattle.sc_bound.specs.Accounts.{account_in}
use Rattle.sc_bound.specs.Sets.{is_open}
use Rattle.sc_bound.proofs.KeepLemmas.{IsOrder, Slot}
use Rattle.sc_bound.proofs.SetLemmas.{Fewer, end_fewer, failure_fewer, held_given, same_fewer, success_fewer, then_fewer, zombie_fewer}

-- ---- two relations of sets

pub fewer_order : (p : ℕ) → IsOrder (Fewer p) p
fewer_order p =
    record {
      same = λ x. same_fewer x p;
      chain = λ x y z. then_fewer x y z p;
      given = λ x y h. h.given;
      succeeds = λ x q nth now. success_fewer x q nth now p;
      ends = λ x q nth. end_fewer x q nth p;
      fails = λ x q nth cause. failure_fewer x q nth cause p;
      stops = λ x. zombie_fewer x p;
    }

-- as much was handed out of a partition, and a zombie stays one
pub record Steady (p : ℕ) (x y : TaskSetData) : Type 0 where
  pub given : given_of y p ≡ given_of x p
  pub dead : x.is_zombie ≡ true → y.is_zombie ≡ true

pub steady_order : (p : ℕ) → IsOrder (Steady p) p
steady_order p =
    record {
      same = λ x. record { given = refl; dead = λ z. z };
      chain = λ x y z h k.
          record { given = k.given ∙ h.given; dead = λ d. k.dead (h.dead d) };
      given = λ x y h. h.given;
      succeeds = λ x q nth now.
          record { given = (success_fewer x q nth now p).given; dead = λ z. rw z refl };
      ends = λ x q nth. record { given = (end_fewer x q nth p).given; dead = λ z. z };
      fails = λ x q nth cause.
          record { given = (failure_fewer x q nth cause p).given; dead = λ z. z };
      stops = λ x. record { given = refl; dead = λ z. refl };
    }

pub steady_held : (p q : ℕ) (denied : Bool) (x : TaskSetData)
    → Steady p x (after_held x q denied)
steady_held p q denied x = record { given = held_given x q denied p; dead = λ z. z }

-- ---- accounts

-- what a set needs, where so many attempts run
abbrev needs : Option TaskSetData → ℕ → ℕ → ℕ
needs o p n = if is_open o p then 2 - n else 0

abbrev pub account : Option TaskSetData → ℕ → ℕ → ℕ
account o p n = account_in o p (needs o p n)

needs_few : (o : Option TaskSetData) (p n : ℕ) → needs o p n ≤ 2
needs_few o p n = by (is_open o p)
  where
    by : (b : Bool) → (if b then 2 - n else 0) ≤ 2
    by true = omega arith
    by false = omega arith

-- a set that has begun since
begun : (x : Option TaskSetData) (p n : ℕ) → (R : TaskSetData → TaskSetData → Type 0)
    → Slot R p None x → account x p n ≤ 2
begun None p n R h = omega arith
begun (Some y) p n R h = let few = needs_few (Some y) p n in omega (arith, h, few)

-- nothing is handed out or opened, and no fewer run where it is open
pub account_kept : (o x : Option TaskSetData) (p n m : ℕ) → Slot (Fewer p) p o x
    → (is_open x p ≡ true → n ≤ m) → account x p m ≤ account o p n
account_kept None x p n m h le = begun x p m (Fewer p) h
account_kept (Some a) None p n m h le = absurd h
account_kept (Some a) (Some b) p n m h le =
    let same = h.given in
    let fewer = by (is_open (Some b) p) refl in
    omega (arith, same, fewer)
  where
    by : (u : Bool) → is_open (Some b) p ≡ u → needs (Some b) p m ≤ needs (Some a) p n
    by false e = rw e (omega arith)
    by true e =
        let more = le e in
        rw (e, h.opens_none e) (omega (arith, more))

-- nothing is handed out, and it isn't open any more
pub account_shut : (o x : Option TaskSetData) (p n m : ℕ) → Slot (Steady p) p o x
    → is_open x p ≡ false → account x p m ≤ account o p n
account_shut None x p n m h e = begun x p m (Steady p) h
account_shut (Some a) None p n m h e = absurd h
account_shut (Some a) (Some b) p n m h e =
    let same = h.given in
    let none : needs (Some b) p m ≡ 0 = rw e refl in
    omega (arith, same, none)

-- nothing is handed out
pub account_freed : (o x : Option TaskSetData) (p n m : ℕ) → Slot (Steady p) p o x
    → account x p m ≤ account o p n + 2
account_freed None x p n m h = let le = begun x p m (Steady p) h in omega (arith, le)
account_freed (Some a) None p n m h = absurd h
account_freed (Some a) (Some b) p n m h =
    let same = h.given in
    let few = needs_few (Some b) p m in
    omega (arith, same, few)

-- a set that is yet to begin needs nothing to be freed
pub account_begun : (o x : Option TaskSetData) (p n m : ℕ) → Slot (Steady p) p o x
    → is_some o ≡ false → account x p m ≤ account o p n
account_begun None x p n m h e = begun x p m (Steady p) h
account_begun (Some a) x p n m h e = absurd (true≢false e)
