-- What one entry more changes of what a log tells.
use Rattle.std.proofs.Common.{ℕ, ◌≡◌, ◌&&◌, ◌||◌, Bool, true, false, List, [], ◌∷◌, ◌++◌, Option, refl, ap, ◌∙◌}
use Rattle.sc_ids.specs.declared.attempts.AttemptId.{AttemptId}
use Rattle.sc_core.specs.declared.answers.Answer.{Answer}
use Rattle.sc_core.specs.declared.entries.Entry.{Entry}
use Rattle.sc_logs.specs.Folds.{asked, asks_as, has_asked_as, has_left, is_leave, last_take, owed_after, owing}

pub last_take_more :
    (last : Option Answer) (es : List Entry) (e : Entry)
    → last_take last (es ++ e ∷ []) ≡ asked e.event e.answer (last_take last es)
last_take_more last [] e = refl
last_take_more last (x ∷ es) e = last_take_more (asked x.event x.answer last) es e

pub owed_more :
    (owed : List AttemptId) (es : List Entry) (e : Entry)
    → owed_after owed (es ++ e ∷ []) ≡ owing e.event e.answer (owed_after owed es)
owed_more owed [] e = refl
owed_more owed (x ∷ es) e = owed_more (owing x.event x.answer owed) es e

or_false : (b : Bool) → (b || false) ≡ b
or_false true = refl
or_false false = refl

or_more : (a b c : Bool) → (a || (b || c)) ≡ ((a || b) || c)
or_more true b c = refl
or_more false b c = refl

pub left_more :
    (es : List Entry) (e : Entry) → has_left (es ++ e ∷ []) ≡ (has_left es || is_leave e.event)
left_more [] e = or_false (is_leave e.event)
left_more (x ∷ es) e =
    ap (λ b. is_leave x.event || b) (left_more es e)
    ∙ or_more (is_leave x.event) (has_left es) (is_leave e.event)

and_true : (b : Bool) → (b && true) ≡ b
and_true true = refl
and_true false = refl

and_more : (a b c : Bool) → (a && (b && c)) ≡ ((a && b) && c)
and_more true b c = refl
and_more false b c = refl

pub asks_more :
    (exec : ℕ) (es : List Entry) (e : Entry)
    → has_asked_as exec (es ++ e ∷ []) ≡ (has_asked_as exec es && asks_as exec e.event)
asks_more exec [] e = and_true (asks_as exec e.event)
asks_more exec (x ∷ es) e =
    ap (λ b. asks_as exec x.event && b) (asks_more exec es e)
    ∙ and_more (asks_as exec x.event) (has_asked_as exec es) (asks_as exec e.event)
