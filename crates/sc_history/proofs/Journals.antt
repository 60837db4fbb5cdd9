-- What each event keeps holds along a journal.
use Rattle.std.proofs.Common.{List, [], ◌∷◌, ◌++◌, append-nil, append_assoc, sym, subst}
use Rattle.sc_core.specs.CoreData.{CoreData}
use Rattle.sc_core.specs.Journals.{Replays}
use Rattle.sc_core.specs.Steps.{Steps}
use Rattle.sc_core.specs.declared.answers.Answer.{Answer}
use Rattle.sc_core.specs.declared.entries.Entry.{Entry}
use Rattle.sc_core.specs.declared.events.Event.{Event}
use Rattle.sc_history.specs.Tellings.{Telling, tellings, tellings_in}

-- an entry keeps a relation between what was entered before it and the state
abbrev pub EntriesKeep : (List Entry → CoreData → Type 0) → Type 0
EntriesKeep P =
    (entries : List Entry) (entry : Entry) (c after : CoreData) → P entries c
    → Steps c entry.event entry.answer after → P (entries ++ entry ∷ []) after

pub replays_induct :
    (P : List Entry → CoreData → Type 0) → EntriesKeep P → (before : List Entry) (c : CoreData)
    → P before c → (entries : List Entry) (end : CoreData) → Replays c entries end
    → P (before ++ entries) end
replays_induct P keeps before c p [] end is =
    subst (λ entries. P entries end) (sym (append-nil before)) (subst (λ x. P before x) (sym is) p)
replays_induct P keeps before c p (entry ∷ entries) end (mid, step, rest) =
    subst (λ all. P all end) (append_assoc before (entry ∷ []) entries)
    (replays_induct P keeps (before ++ entry ∷ []) mid (keeps before entry c mid p step) entries
    end rest)

-- an event keeps a relation between the reports that were told before it and the state
abbrev pub TellingsKeep : (List Telling → CoreData → Type 0) → Type 0
TellingsKeep P =
    (told : List Telling) (event : Event) (answer : Answer) (c after : CoreData) → P told c
    → Steps c event answer after → P (told ++ tellings_in c event answer) after

pub tellings_induct :
    (P : List Telling → CoreData → Type 0) → TellingsKeep P → (before : List Telling) (c : CoreData)
    → P before c → (entries : List Entry) (end : CoreData) (replays : Replays c entries end)
    → P (before ++ tellings c entries end replays) end
tellings_induct P keeps before c p [] end is =
    subst (λ told. P told end) (sym (append-nil before)) (subst (λ x. P before x) (sym is) p)
tellings_induct P keeps before c p (entry ∷ entries) end (mid, step, rest) =
    subst (λ all. P all end)
    (append_assoc before (tellings_in c entry.event entry.answer) (tellings mid entries end rest))
    (tellings_induct P keeps (before ++ tellings_in c entry.event entry.answer) mid
    (keeps before entry.event entry.answer c mid p step) entries end rest)
