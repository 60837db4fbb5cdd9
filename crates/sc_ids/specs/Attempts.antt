-- How attempts are written.
use Rattle.std.specs.Prelude.{ℕ, List, ◌++◌, codes, decimal}
use Rattle.sc_ids.specs.declared.attempts.AttemptId.{AttemptId}

-- the text of an attempt: its four numbers with points between
abbrev pub attempt_text : AttemptId → List ℕ
attempt_text a =
    decimal a.stage ++ codes "." ++ decimal a.stage_attempt
    ++ codes "." ++ decimal a.partition ++ codes "." ++ decimal a.nth
