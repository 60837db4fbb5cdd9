-- What a log tells of its executor, entry by entry.
use Rattle.std.specs.Prelude.{ℕ, ◌==◌, ◌&&◌, ◌||◌, not, Bool, true, false, List, [], ◌∷◌, Option, Some, filter}
use Rattle.sc_commit.specs.Committing.{is_same}
use Rattle.sc_ids.specs.declared.attempts.AttemptId.{AttemptId}
use Rattle.sc_core.specs.declared.answers.Answer.{Answer}
use Rattle.sc_core.specs.declared.answers.Answer.TheVariants as says
use Rattle.sc_core.specs.declared.answers.SideAnswer.TheVariants.{Over}
use Rattle.sc_core.specs.declared.entries.Entry.{Entry}
use Rattle.sc_core.specs.declared.events.Event.{Event}
use Rattle.sc_core.specs.declared.events.Event.TheVariants.{Post, Side, Take}
use Rattle.sc_core.specs.declared.events.SideEvent.{SideEvent}
use Rattle.sc_core.specs.declared.events.SideEvent.TheVariants.{Ask, Leave, Move, Stage}

-- ---- what the last Take was answered

-- what the last Take was answered, once this happened and was answered so
abbrev pub asked : Event → Answer → Option Answer → Option Answer
asked (Take exec) answer last = Some answer
asked event answer last = last

-- the same once some more happened
abbrev pub last_take : Option Answer → List Entry → Option Answer
last_take last [] = last
last_take last (e ∷ entries) = last_take (asked e.event e.answer last) entries

-- ---- which attempts are owed a report

-- all but this attempt
abbrev pub without : AttemptId → List AttemptId → List AttemptId
without a owed = filter (λ b. not (is_same b a)) owed

-- an attempt that was handed out is owed a report
abbrev pub given : Answer → List AttemptId → List AttemptId
given (says.Task h) owed = h.attempt ∷ owed
given answer owed = owed

-- an attempt that has no step to take isn't any more
abbrev pub over : AttemptId → Answer → List AttemptId → List AttemptId
over a (says.Side Over) owed = without a owed
over a answer owed = owed

abbrev pub owing_aside : SideEvent → Answer → List AttemptId → List AttemptId
owing_aside (Stage a wrote) answer owed = over a answer owed
owing_aside (Ask a) answer owed = over a answer owed
owing_aside (Move a renamed) answer owed = over a answer owed
owing_aside event answer owed = owed

-- the attempts that are owed a report, once this happened and was answered so: one is from the Take
-- that gave it to its Post, or until it was answered that it has no step to take
abbrev pub owing : Event → Answer → List AttemptId → List AttemptId
owing (Take exec) answer owed = given answer owed
owing (Post a outcome) answer owed = without a owed
owing (Side event) answer owed = owing_aside event answer owed
owing event answer owed = owed

-- the same once some more happened
abbrev pub owed_after : List AttemptId → List Entry → List AttemptId
owed_after owed [] = owed
owed_after owed (e ∷ entries) = owed_after (owing e.event e.answer owed) entries

-- ---- who left, and who asked

abbrev pub is_leave : Event → Bool
is_leave (Side (Leave exec)) = true
is_leave event = false

-- somebody left early
abbrev pub has_left : List Entry → Bool
has_left [] = false
has_left (e ∷ entries) = is_leave e.event || has_left entries

-- where an executor asks for a task, it is this one
abbrev pub asks_as : ℕ → Event → Bool
asks_as exec (Take asker) = asker == exec
asks_as exec event = true

-- who asked for tasks was always this executor
abbrev pub has_asked_as : ℕ → List Entry → Bool
has_asked_as exec [] = true
has_asked_as exec (e ∷ entries) = asks_as exec e.event && has_asked_as exec entries
