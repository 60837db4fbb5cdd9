-- Nobody left where no log has a Leave.
use Rattle.std.proofs.Common.{◌≡◌, ◌||◌, ℕ, zero, suc, ◌<◌, Bool, true, false, All, Contains, List, [], ◌∷◌, cond, filter, length, slice_index_or, refl, ap, sym, subst, ◌∙◌, arith, true≢false}
use Rattle.std.specs.List.{list_any}
use Rattle.std.proofs.lemmas.List.Elements.{All-contains}
use Rattle.std.proofs.lemmas.List.Folds.{Any-from_list_any}
use Rattle.sc_ids.specs.declared.attempts.Mark.TheVariants.{Exec}
use Rattle.sc_core.specs.declared.entries.Entry.{Entry}
use Rattle.sc_core.specs.declared.events.Event.{Event}
use Rattle.sc_core.specs.declared.events.Event.TheVariants.{Post, Release, Side, Take, TellLost}
use Rattle.sc_core.specs.declared.events.SideEvent.TheVariants.{Ask, Leave, Move, Stage, Tick}
use Rattle.sc_logs.specs.Endings.{IsWorkedOut, LeavesItself}
use Rattle.sc_logs.specs.Folds.{has_left, is_leave}
use Rattle.sc_logs.specs.Logs.{Interleaves, IsLogIn, is_by, is_known, marks_driver}
use Rattle.sc_logs.specs.declared.logs.ExecLog.{ExecLog}

pub or_first : (a b : Bool) → (a || b) ≡ false → a ≡ false
or_first false b h = refl
or_first true b h = h

pub or_second : (a b : Bool) → (a || b) ≡ false → b ≡ false
or_second false b h = h
or_second true b h = absurd (true≢false h)

neither : (a b : Bool) → a ≡ false → b ≡ false → (a || b) ≡ false
neither false b g h = h
neither true b g h = g

or_other : (a b : Bool) → a ≡ false → (a || b) ≡ true → b ≡ true
or_other false b g h = h
or_other true b g h = absurd (true≢false g)

leave_of : (event : Event) → is_leave event ≡ true → (exec : ℕ) × (event ≡ Side (Leave exec))
leave_of (Take exec) h = absurd (true≢false (sym h))
leave_of (Post a outcome) h = absurd (true≢false (sym h))
leave_of (Release key) h = absurd (true≢false (sym h))
leave_of (TellLost exec) h = absurd (true≢false (sym h))
leave_of (Side (Leave exec)) h = (exec, refl)
leave_of (Side (Tick now)) h = absurd (true≢false (sym h))
leave_of (Side (Stage a wrote)) h = absurd (true≢false (sym h))
leave_of (Side (Ask a)) h = absurd (true≢false (sym h))
leave_of (Side (Move a renamed)) h = absurd (true≢false (sym h))

-- what an executor made is no Leave, where its entries have none
silent_at :
    (exec i : ℕ) (d : Entry) (es : List Entry) → i < length es
    → has_left (filter (is_by exec) es) ≡ false → is_by exec (slice_index_or es i d) ≡ true
    → is_leave (slice_index_or es i d).event ≡ false
silent_at exec i d [] there none made = absurd (omega (arith, there))
silent_at exec zero d (e ∷ es) there none made = by (is_by exec e) made none
  where
    by : (b : Bool) → b ≡ true
        → has_left (cond b (e ∷ filter (is_by exec) es) (filter (is_by exec) es)) ≡ false
        → is_leave e.event ≡ false
    by true f h = or_first (is_leave e.event) (has_left (filter (is_by exec) es)) h
    by false f h = absurd (true≢false (sym f))
silent_at exec (suc i) d (e ∷ es) there none made =
    silent_at exec i d es (omega (arith, there)) (by (is_by exec e) none) made
  where
    by : (b : Bool)
        → has_left (cond b (e ∷ filter (is_by exec) es) (filter (is_by exec) es)) ≡ false
        → has_left (filter (is_by exec) es) ≡ false
    by true h = or_second (is_leave e.event) (has_left (filter (is_by exec) es)) h
    by false h = h

all_silent : (es : List Entry)
    → ((i : ℕ) (d : Entry) → i < length es → is_leave (slice_index_or es i d).event ≡ false)
    → has_left es ≡ false
all_silent [] h = refl
all_silent (e ∷ es) h =
    neither (is_leave e.event) (has_left es) (h 0 e (omega arith))
    (all_silent es (λ i d there. h (suc i) d (omega (arith, there))))

pub none_left :
    (entries : List Entry) (logs : List ExecLog) → Interleaves entries logs
    → All LeavesItself entries → All IsWorkedOut logs → has_left entries ≡ false
none_left entries logs (ins, known) leaves out =
    all_silent entries (λ i d there. at i d there (slice_index_or entries i d) refl)
  where
    one : (i : ℕ) (d e : Entry) → i < length entries → slice_index_or entries i d ≡ e
        → (exec : ℕ) → e.by ≡ Exec exec → is_known logs e ≡ true → is_leave e.event ≡ false
    one i d e there is exec marked has =
        let driver = ap marks_driver marked in
        let some : list_any (λ (l : ExecLog). is_by l.exec e) logs ≡ true =
        or_other (marks_driver e.by) _ driver has in
        let found = Any-from_list_any (λ (l : ExecLog). is_by l.exec e) logs some in
        let l : ExecLog = found.1 in
        let in_logs : Contains logs l = (found.0, found.2, found.3) in
        let own : IsLogIn entries l = All-contains (IsLogIn entries) logs l ins in_logs in
        let stays = (All-contains IsWorkedOut logs l out in_logs).stays in
        let made : is_by l.exec (slice_index_or entries i d) ≡ true =
        ap (λ x. is_by l.exec x) is ∙ found.4 in
        ap (λ (x : Entry). is_leave x.event) (sym is)
        ∙ silent_at l.exec i d entries there (ap has_left own ∙ stays) made

    at : (i : ℕ) (d : Entry) → i < length entries → (e : Entry)
        → slice_index_or entries i d ≡ e → is_leave e.event ≡ false
    at i d there e is = by (is_leave e.event) refl
      where
        by : (b : Bool) → is_leave e.event ≡ b → is_leave e.event ≡ false
        by false f = f
        by true f =
            let leave = leave_of e.event f in
            let marked : e.by ≡ Exec leave.0 =
            subst (λ x. LeavesItself x) is (leaves i d there) leave.0 leave.1 in
            let has = subst (λ x. is_known logs x ≡ true) is (known i d there) in
            one i d e there is leave.0 marked has
