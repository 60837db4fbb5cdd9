-- The numbers below a bound, in order.
use Rattle.std.proofs.Common.{◌≡◌, ℕ, ◌+◌, ◌-◌, ◌<◌, ◌≤◌, zero, suc, Bool, true, false, cond, not, List, [], ◌∷◌, ◌++◌, length, get_or, set, refl, ap, sym, ◌∙◌, arith, rules}
use Rattle.std.specs.List.{All, count_by, filter, list_all}
use Rattle.std.proofs.lemmas.List.{append-nil, length-append}
use Rattle.std.proofs.lemmas.List.Sums.{sum_by-set}
use Rattle.std.proofs.lemmas.List.Elements.{All-nil, All-cons, filter-append}
use Rattle.sc_base.specs.Lists.{numbers_below, numbers_from}
use Rattle.sc_taskset.specs.Rooms.{RoomData, room_of}

-- one more number behind the others
numbers_from_more : (a n : ℕ) → numbers_from a (suc n) ≡ numbers_from a n ++ (a + n) ∷ []
numbers_from_more a zero = ap (λ k. k ∷ []) (let e : a ≡ a + 0 = omega arith in e)
numbers_from_more a (suc n) =
    ap (λ ks. a ∷ ks) (numbers_from_more (suc a) n)
    ∙ ap (λ k. a ∷ (numbers_from (suc a) n ++ k ∷ []))
    (let e : suc a + n ≡ a + suc n = omega arith in e)

pub numbers_more : (k : ℕ) → numbers_below (k + 1) ≡ numbers_below k ++ k ∷ []
numbers_more k =
    let one : k + 1 ≡ suc k = omega arith in
    ap numbers_below one ∙ numbers_from_more 0 k
    ∙ ap (λ q. numbers_below k ++ q ∷ []) (let e : 0 + k ≡ k = omega arith in e)

-- a filter over one more number
filter_more : (p : ℕ → Bool) (k : ℕ)
    → filter p (numbers_below (k + 1)) ≡ filter p (numbers_below k) ++ filter p (k ∷ [])
filter_more p k = ap (filter p) (numbers_more k) ∙ filter-append p (numbers_below k) (k ∷ [])

pub filter_taken : (p : ℕ → Bool) (k : ℕ) → p k ≡ true
    → filter p (numbers_below (k + 1)) ≡ filter p (numbers_below k) ++ k ∷ []
filter_taken p k e =
    filter_more p k ∙ ap (λ ks. filter p (numbers_below k) ++ ks) (rw e refl)

pub filter_left : (p : ℕ → Bool) (k : ℕ) → p k ≡ false
    → filter p (numbers_below (k + 1)) ≡ filter p (numbers_below k)
filter_left p k e =
    filter_more p k ∙ ap (λ ks. filter p (numbers_below k) ++ ks) (rw e refl)
    ∙ append-nil (filter p (numbers_below k))

-- what passes is below the bound
filter_from_below : (p : ℕ → Bool) (a n k : ℕ) → a + n ≤ k
    → All (λ q. q < k) (filter p (numbers_from a n))
filter_from_below p a zero k le = All-nil (λ q. q < k)
filter_from_below p a (suc n) k le =
    by (p a) refl (filter_from_below p (suc a) n k (omega arith))
  where
    by : (b : Bool) → p a ≡ b → All (λ q. q < k) (filter p (numbers_from (suc a) n))
        → All (λ q. q < k) (filter p (numbers_from a (suc n)))
    by true e rest = rw e (All-cons (λ q. q < k) a _ (omega arith) rest)
    by false e rest = rw e rest

pub filter_below : (p : ℕ → Bool) (k : ℕ) → All (λ q. q < k) (filter p (numbers_below k))
filter_below p k = filter_from_below p 0 k k (omega arith)

-- there are no more of them than numbers
filter_from_many : (p : ℕ → Bool) (a n : ℕ) → length (filter p (numbers_from a n)) ≤ n
filter_from_many p a zero = omega arith
filter_from_many p a (suc n) = by (p a) refl (filter_from_many p (suc a) n)
  where
    by : (b : Bool) → p a ≡ b → length (filter p (numbers_from (suc a) n)) ≤ n
        → length (filter p (numbers_from a (suc n))) ≤ suc n
    by true e rest = rw e (omega (arith, rest))
    by false e rest = rw e (omega (arith, rest))

pub filter_many : (p : ℕ → Bool) (k : ℕ) → length (filter p (numbers_below k)) ≤ k
filter_many p k = filter_from_many p 0 k

-- where a test doesn't hold of all, some fail it
pub some_fail : (p : ℕ → Bool) (ks : List ℕ) → list_all p ks ≡ false
    → 0 < length (filter (λ k. not (p k)) ks)
some_fail p [] e = absurd (search (rules, e))
some_fail p (k ∷ ks) e = by (p k) refl (some_fail p ks) e
  where
    by : (b : Bool) → p k ≡ b
        → (list_all p ks ≡ false → 0 < length (filter (λ k. not (p k)) ks))
        → list_all p (k ∷ ks) ≡ false → 0 < length (filter (λ k. not (p k)) (k ∷ ks))
    by true is rest e = rw is (rest (rw is at e))
    by false is rest e = rw is (omega arith)

-- the room of a set of so many tasks, where the numbers below a bound that pass a test are named
abbrev pub room_below : (ℕ → Bool) → ℕ → ℕ → RoomData
room_below p tasks k =
    room_of (filter p (numbers_below k)) (tasks - length (filter p (numbers_below k)))

pub room_taken : (p : ℕ → Bool) (tasks k : ℕ) (room after : RoomData)
    → room ≡ room_below p tasks k → p k ≡ true
    → after ≡ room_of (room.partitions ++ k ∷ []) (room.spare - 1)
    → after ≡ room_below p tasks (k + 1)
room_taken p tasks k room after is e held =
    let spare : (tasks - length (filter p (numbers_below k))) - 1
    ≡ tasks - length (filter p (numbers_below k) ++ k ∷ []) =
    rw (length-append (filter p (numbers_below k)) (k ∷ [])) (omega arith) in
    held ∙ ap (λ (r : RoomData). room_of (r.partitions ++ k ∷ []) (r.spare - 1)) is
    ∙ ap (room_of (filter p (numbers_below k) ++ k ∷ [])) spare
    ∙ ap (λ ks. room_of ks (tasks - length ks)) (sym (filter_taken p k e))

pub room_left : (p : ℕ → Bool) (tasks k : ℕ) (room : RoomData)
    → room ≡ room_below p tasks k → p k ≡ false → room ≡ room_below p tasks (k + 1)
room_left p tasks k room is e =
    is ∙ ap (λ ks. room_of ks (tasks - length ks)) (sym (filter_left p k e))

-- there is room for one more
pub room_above : (p : ℕ → Bool) (tasks k : ℕ) (room : RoomData)
    → room ≡ room_below p tasks k → All (λ q. q < k) room.partitions
room_above p tasks k room is = rw is (filter_below p k)

pub room_spare : (p : ℕ → Bool) (tasks k : ℕ) (room : RoomData)
    → room ≡ room_below p tasks k → k < tasks → 0 < room.spare
room_spare p tasks k room is l = rw is (omega (arith, l, filter_many p k))

-- all are named in the end
pub room_full : (p : ℕ → Bool) (tasks k : ℕ) (room : RoomData)
    → room ≡ room_below p tasks k → k ≡ tasks
    → room.partitions ≡ filter p (numbers_below tasks)
room_full p tasks k room is e = rw is (ap (λ n. filter p (numbers_below n)) e)

-- one more result, unless it was there
pub result_counted : (results : List Bool) (place : ℕ) (was : Bool) → place < length results
    → was ≡ get_or results place was
    → count_by (λ b. b) (set results place true)
    ≡ count_by (λ b. b) results + cond (not was) 1 0
result_counted results place true l e =
    let h = sum_by-set (λ b. cond b 1 0) results place true true l in
    omega (arith, rw (sym e) at h)
result_counted results place false l e =
    let h = sum_by-set (λ b. cond b 1 0) results place true false l in
    omega (arith, rw (sym e) at h)
