-- What is entered keeps room for those who may still leave.
use Rattle.std.proofs.Common.{◌≡◌, ℕ, ◌+◌, ◌-◌, ◌<◌, ◌≤◌, ◌||◌, All, Bool, true, false, List, [], ◌∷◌, ◌++◌, Result, Ok, Err, IfOk, OnErr, get_or, refl, ap, sym, ◌∙◌, arith, true≢false}
use Rattle.std.proofs.lemmas.List.Elements.{All-append, All-cons, All-nil}
use Rattle.std.proofs.lemmas.List.Folds.{list_any-append}
use Rattle.sc_ids.specs.declared.attempts.Mark.{Mark}
use Rattle.sc_core.specs.CoreData.{CoreData}
use Rattle.sc_core.specs.Journals.{JournalData, entry}
use Rattle.sc_core.specs.declared.answers.Answer.{Answer}
use Rattle.sc_core.specs.declared.entries.Entry.{Entry}
use Rattle.sc_core.specs.declared.events.Event.{Event}
use Rattle.sc_core.specs.declared.events.Event.TheVariants.{Post, Release, Side, Take, TellLost}
use Rattle.sc_core.specs.declared.events.SideEvent.TheVariants.{Ask, Leave, Move, Stage, Tick}
use Rattle.sc_desk.specs.Leaving.{HasRoomToLeave, IsNoLeave, IsOwnLeave, has_left, leaves, staying}

or_false : (b : Bool) → (b || (false || false)) ≡ b
or_false true = refl
or_false false = refl

-- ---- entries

stays : (event : Event) (exec : ℕ) → IsNoLeave event → leaves exec event ≡ false
stays (Take who) exec none = refl
stays (Post attempt outcome) exec none = refl
stays (Release key) exec none = refl
stays (TellLost who) exec none = refl
stays (Side (Leave who)) exec none = absurd none
stays (Side (Tick now)) exec none = refl
stays (Side (Stage attempt wrote)) exec none = refl
stays (Side (Ask attempt)) exec none = refl
stays (Side (Move attempt renamed)) exec none = refl

-- who left, once there is one entry more
left_with : (exec : ℕ) (entries : List Entry) (e : Entry)
    → has_left exec (entries ++ e ∷ [])
    ≡ (has_left exec entries || (leaves exec e.event || false))
left_with exec entries e = list_any-append (λ x. leaves exec x.event) entries (e ∷ [])

own_with : (entries : List Entry) (e : Entry) → All IsOwnLeave entries → IsOwnLeave e
    → All IsOwnLeave (entries ++ e ∷ [])
own_with entries e all own =
    All-append IsOwnLeave entries (e ∷ []) all (All-cons IsOwnLeave e [] own (All-nil IsOwnLeave))

-- ---- journals

-- one entry more, by which nobody leaves
pub room_stays :
    (j after : JournalData) (left : List Bool) (room more : ℕ) (by : Mark) (event : Event)
    (answer : Answer) → HasRoomToLeave j left room → IsNoLeave event
    → after.entries ≡ j.entries ++ entry by event answer ∷ [] → after.opening ≡ j.opening
    → staying left ≤ more → HasRoomToLeave after left more
room_stays j after left room more by event answer is none entries opening enough =
    record {
      places = is.places ∙ ap (λ (c : CoreData). c.dag.limits.executors) (sym opening);
      known = known;
      own = rw entries (own_with j.entries (entry by event answer) is.own
          (λ exec left. absurd (true≢false (sym left ∙ stays event exec none))));
      room_is = enough;
    }
  where
    known : (exec : ℕ) → get_or left exec false ≡ has_left exec after.entries
    known exec =
        is.known exec
        ∙ sym (ap (λ es. has_left exec es) entries
        ∙ left_with exec j.entries (entry by event answer)
        ∙ ap (λ b. has_left exec j.entries || (b || false)) (stays event exec none)
        ∙ or_false (has_left exec j.entries))

-- the same of a call that may be refused
pub room_entered :
    {X E : Type 0} (answer : X → Answer) (result : Result X E) (j after : JournalData)
    (left : List Bool) (room more : ℕ) (by : Mark) (event : Event) → HasRoomToLeave j left room
    → IsNoLeave event
    → IfOk result (λ x. after.entries ≡ j.entries ++ entry by event (answer x) ∷ [])
    → OnErr result (after ≡ j) → after.opening ≡ j.opening → 0 < room - staying left
    → room ≤ more + 1 → HasRoomToLeave after left more
room_entered answer (Ok x) j after left room more by event is none entries same opening spare
    less =
    room_stays j after left room more by event (answer x) is none entries opening
    (omega (arith, spare, less))
room_entered answer (Err e) j after left room more by event is none entries same opening spare
    less =
    rw same (record {
      places = is.places;
      known = is.known;
      own = is.own;
      room_is = omega (arith, spare, less);
    })
