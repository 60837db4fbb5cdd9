-- The story of one attempt, as its journal has it.
use Rattle.std.specs.Prelude.{ℕ, List, [], ◌∷◌, ◌++◌, Bool, false}
use Rattle.std.specs.List.{filter, flat_map}
use Rattle.sc_commit.specs.Committing.{is_same}
use Rattle.sc_ids.specs.declared.attempts.AttemptId.{AttemptId}
use Rattle.sc_core.specs.Texts.{entry_text}
use Rattle.sc_core.specs.declared.answers.Answer.{Answer}
use Rattle.sc_core.specs.declared.answers.Answer.TheVariants as says
use Rattle.sc_core.specs.declared.entries.Entry.{Entry}
use Rattle.sc_core.specs.declared.events.Event.{Event}
use Rattle.sc_core.specs.declared.events.Event.TheVariants.{Post, Side, Take}
use Rattle.sc_core.specs.declared.events.SideEvent.{SideEvent}
use Rattle.sc_core.specs.declared.events.SideEvent.TheVariants.{Ask, Move, Stage}

-- an answer hands the attempt out
abbrev pub hands_out : Answer → AttemptId → Bool
hands_out (says.Task h) a = is_same h.attempt a
hands_out answer a = false

-- an event beside the reports is a step of an attempt of a save
abbrev pub is_step_of : AttemptId → SideEvent → Bool
is_step_of a (Stage attempt wrote) = is_same attempt a
is_step_of a (Ask attempt) = is_same attempt a
is_step_of a (Move attempt renamed) = is_same attempt a
is_step_of a event = false

-- an entry is of an attempt: it hands it out, or is a step or a report of it
abbrev pub is_told_of : AttemptId → Event → Answer → Bool
is_told_of a (Take exec) answer = hands_out answer a
is_told_of a (Post attempt outcome) answer = is_same attempt a
is_told_of a (Side event) answer = is_step_of a event
is_told_of a event answer = false

abbrev pub is_entry_of : AttemptId → Entry → Bool
is_entry_of a e = is_told_of a e.event e.answer

-- the lines of some entries
abbrev pub lines_of : List Entry → List ℕ
lines_of entries = flat_map (λ e. entry_text e ++ 10 ∷ []) entries

-- the story of an attempt: the lines of its entries, in order
abbrev pub story_text : AttemptId → List Entry → List ℕ
story_text a entries = lines_of (filter (is_entry_of a) entries)
