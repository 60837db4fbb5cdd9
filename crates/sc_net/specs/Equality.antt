-- Which tasks are the same, by a test of their parts.
use Rattle.std.specs.Prelude.{ℕ, ◌≡◌, ◌==◌, ◌&&◌, Bool, true, false, Decides, Option, Some, None}
use Rattle.std.proofs.Common.{ap, ap₂, refl, subst}
use Rattle.std.specs.Cmp.{IsEquivalence, decided, first_so, second_so, unsigned_Decides}
use Rattle.std.specs.Cmp.Lexicographic.{pointwise, pointwise_decides}
use Rattle.sc_commit.specs.Committing.{is_same}
use Rattle.sc_ids.specs.declared.attempts.AttemptId.{AttemptId}
use Rattle.sc_ids.specs.declared.blocks.Loc.{Loc}
use Rattle.sc_tracker.specs.declared.outputs.Location.{Location}
use Rattle.sc_tracker.specs.declared.outputs.Location.TheVariants.{Here, Missing}
use Rattle.sc_core.specs.HandOuts.{HandOutData, hand_out}
use Rattle.sc_core.specs.Posts.{is_same_loc}
use Rattle.sc_jobs.specs.Equality.{same_job, same_job-decides}
use Rattle.sc_net.specs.Tasks.{TaskData, task_data}

-- two locations that blocks had last are the same
abbrev pub same_last : Option Loc → Option Loc → Bool
same_last None None = true
same_last (Some a) (Some b) = is_same_loc a b
same_last a b = false

-- two inputs lie, or lay, at the same place
abbrev pub same_location : Location → Location → Bool
same_location (Here a) (Here b) = is_same_loc a b
same_location (Missing a) (Missing b) = same_last a b
same_location a b = false

-- the same was handed out twice
abbrev pub same_hand_out : HandOutData → HandOutData → Bool
same_hand_out a b =
    is_same a.attempt b.attempt
    && ((a.epoch == b.epoch) && pointwise same_location a.inputs b.inputs)

-- two tasks are the same
abbrev pub same_task : TaskData → TaskData → Bool
same_task a b = same_hand_out a.hand_out b.hand_out && same_job a.job b.job

-- Each test tells what is equal.
both : (a b : Bool) → a ≡ true → b ≡ true → (a && b) ≡ true
both a b h k = ap₂ (λ x y. x && y) h k

same_loc-decides : (a b : Loc) → Decides (is_same_loc a b) (a ≡ b)
same_loc-decides a b = (to, λ e. subst (λ x. is_same_loc a x ≡ true) e itself)
  where
    loc_of : ℕ → ℕ → Loc
    loc_of exec generation = record { exec = exec; generation = generation }

    to : is_same_loc a b ≡ true → a ≡ b
    to h =
        ap₂ loc_of
        ((unsigned_Decides a.exec b.exec).0
        (first_so (a.exec == b.exec) (a.generation == b.generation) h))
        ((unsigned_Decides a.generation b.generation).0
        (second_so (a.exec == b.exec) (a.generation == b.generation) h))

    itself : is_same_loc a a ≡ true
    itself =
        both (a.exec == a.exec) (a.generation == a.generation)
        ((unsigned_Decides a.exec a.exec).1 refl)
        ((unsigned_Decides a.generation a.generation).1 refl)

same_last-decides : (a b : Option Loc) → Decides (same_last a b) (a ≡ b)
same_last-decides a b = (λ h. to a b h, λ e. subst (λ x. same_last a x ≡ true) e (itself a))
  where
    to : (x y : Option Loc) → same_last x y ≡ true → x ≡ y
    to None None h = refl
    to None (Some q) h = cc
    to (Some p) None h = cc
    to (Some p) (Some q) h = ap Some ((same_loc-decides p q).0 h)

    itself : (x : Option Loc) → same_last x x ≡ true
    itself None = refl
    itself (Some p) = (same_loc-decides p p).1 refl

pub same_location-decides : (a b : Location) → Decides (same_location a b) (a ≡ b)
same_location-decides a b =
    (λ h. to a b h, λ e. subst (λ x. same_location a x ≡ true) e (itself a))
  where
    to : (x y : Location) → same_location x y ≡ true → x ≡ y
    to (Here p) (Here q) h = ap Here ((same_loc-decides p q).0 h)
    to (Here p) (Missing q) h = cc
    to (Missing p) (Here q) h = cc
    to (Missing p) (Missing q) h = ap Missing ((same_last-decides p q).0 h)

    itself : (x : Location) → same_location x x ≡ true
    itself (Here p) = (same_loc-decides p p).1 refl
    itself (Missing p) = (same_last-decides p p).1 refl

same_attempt-decides : (a b : AttemptId) → Decides (is_same a b) (a ≡ b)
same_attempt-decides a b = (to, λ e. subst (λ x. is_same a x ≡ true) e itself)
  where
    attempt_of : ℕ → ℕ → ℕ → ℕ → AttemptId
    attempt_of stage number partition nth =
        record { stage = stage; stage_attempt = number; partition = partition; nth = nth }

    to : is_same a b ≡ true → a ≡ b
    to h =
        let last = (a.partition == b.partition) && (a.nth == b.nth) in
        let rest = (a.stage_attempt == b.stage_attempt) && last in
        let second = second_so (a.stage == b.stage) rest h in
        let third = second_so (a.stage_attempt == b.stage_attempt) last second in
        let stage = (unsigned_Decides a.stage b.stage).0 (first_so (a.stage == b.stage) rest h) in
        let number = (unsigned_Decides a.stage_attempt b.stage_attempt).0
        (first_so (a.stage_attempt == b.stage_attempt) last second) in
        let partition = (unsigned_Decides a.partition b.partition).0
        (first_so (a.partition == b.partition) (a.nth == b.nth) third) in
        let nth = (unsigned_Decides a.nth b.nth).0
        (second_so (a.partition == b.partition) (a.nth == b.nth) third) in
        ap₂ (λ f n. f n) (ap₂ (λ f n. f n) (ap₂ attempt_of stage number) partition) nth

    itself : is_same a a ≡ true
    itself =
        let own = (a.partition == a.partition) && (a.nth == a.nth) in
        both (a.stage == a.stage) ((a.stage_attempt == a.stage_attempt) && own)
        ((unsigned_Decides a.stage a.stage).1 refl)
        (both (a.stage_attempt == a.stage_attempt) own
        ((unsigned_Decides a.stage_attempt a.stage_attempt).1 refl)
        (both (a.partition == a.partition) (a.nth == a.nth)
        ((unsigned_Decides a.partition a.partition).1 refl)
        ((unsigned_Decides a.nth a.nth).1 refl)))

pub same_hand_out-decides : (a b : HandOutData) → Decides (same_hand_out a b) (a ≡ b)
same_hand_out-decides a b = (to, λ e. subst (λ x. same_hand_out a x ≡ true) e itself)
  where
    to : same_hand_out a b ≡ true → a ≡ b
    to h =
        let inputs = pointwise same_location a.inputs b.inputs in
        let first = is_same a.attempt b.attempt in
        let second = second_so first ((a.epoch == b.epoch) && inputs) h in
        let attempt = (same_attempt-decides a.attempt b.attempt).0
        (first_so first ((a.epoch == b.epoch) && inputs) h) in
        let epoch = (unsigned_Decides a.epoch b.epoch).0
        (first_so (a.epoch == b.epoch) inputs second) in
        let at = (pointwise_decides same_location-decides a.inputs b.inputs).0
        (second_so (a.epoch == b.epoch) inputs second) in
        ap₂ (λ f xs. f xs) (ap₂ hand_out attempt epoch) at

    itself : same_hand_out a a ≡ true
    itself =
        let own = pointwise same_location a.inputs a.inputs in
        both (is_same a.attempt a.attempt) ((a.epoch == a.epoch) && own)
        ((same_attempt-decides a.attempt a.attempt).1 refl)
        (both (a.epoch == a.epoch) own ((unsigned_Decides a.epoch a.epoch).1 refl)
        ((pointwise_decides same_location-decides a.inputs a.inputs).1 refl))

pub same_task-decides : (a b : TaskData) → Decides (same_task a b) (a ≡ b)
same_task-decides a b = (to, λ e. subst (λ x. same_task a x ≡ true) e itself)
  where
    to : same_task a b ≡ true → a ≡ b
    to h =
        let given = same_hand_out a.hand_out b.hand_out in
        let job = same_job a.job b.job in
        ap₂ task_data ((same_job-decides a.job b.job).0 (second_so given job h))
        ((same_hand_out-decides a.hand_out b.hand_out).0 (first_so given job h))

    itself : same_task a a ≡ true
    itself =
        both (same_hand_out a.hand_out a.hand_out) (same_job a.job a.job)
        ((same_hand_out-decides a.hand_out a.hand_out).1 refl)
        ((same_job-decides a.job a.job).1 refl)

-- so it is an equality
pub tasks_are_equal : IsEquivalence same_task
tasks_are_equal = decided same_task same_task-decides
