-- Logs, and how they lie in a history.
use Rattle.std.specs.Prelude.{ℕ, ◌≡◌, ◌↔◌, ◌==◌, ◌||◌, Bool, true, false, List, ◌∷◌, All, Option, Some, None, filter}
use Rattle.std.specs.List.{list_any}
use Rattle.sc_ids.specs.declared.attempts.Mark.{Mark}
use Rattle.sc_ids.specs.declared.attempts.Mark.TheVariants.{Driver, Exec}
use Rattle.sc_core.specs.declared.entries.Entry.{Entry}
use Rattle.sc_logs.specs.declared.logs.ExecLog.{ExecLog}

-- a mark is that of an executor
abbrev pub marks : Mark → ℕ → Bool
marks (Exec marked) exec = marked == exec
marks Driver exec = false

abbrev pub marks_driver : Mark → Bool
marks_driver (Exec marked) = false
marks_driver Driver = true

-- an executor made an entry
abbrev pub is_by : ℕ → Entry → Bool
is_by exec e = marks e.by exec

-- the driver did
abbrev pub is_drivers : Entry → Bool
is_drivers e = marks_driver e.by

-- the driver made an entry, or an executor that has a log
abbrev pub is_known : List ExecLog → Entry → Bool
is_known logs e = is_drivers e || list_any (λ (l : ExecLog). is_by l.exec e) logs

-- the entries that an executor made are its log, in order
abbrev pub IsLogIn : List Entry → ExecLog → Type 0
IsLogIn entries l = filter (is_by l.exec) entries ≡ l.entries.items

-- Entries are an interleaving of logs: those of each executor that has a log are this log, in
-- order, and all others are the driver's.
abbrev pub Interleaves : List Entry → List ExecLog → Type 0
Interleaves entries logs =
    All (IsLogIn entries) logs × All (λ e. is_known logs e ≡ true) entries

-- what has to follow of a log behind an entry, so that the entries of its executor are the log;
-- nothing can where the log doesn't go on with the entry
abbrev pub IsBehind : ℕ → Entry → List Entry → Option (List Entry) → Type 0
IsBehind exec e log (Some rest) =
    (es : List Entry) → (filter (is_by exec) (e ∷ es) ≡ log) ↔ (filter (is_by exec) es ≡ rest)
IsBehind exec e log None = (es : List Entry) → filter (is_by exec) (e ∷ es) ≡ log → ⊥
