-- Who commits in a journal of a save, and when.
use Rattle.std.specs.Prelude.{ℕ, ◌≡◌, List, [], ◌∷◌, ◌++◌, Bool, Option, Some}
use Rattle.sc_commit.specs.CommitLaws.{holder_of, winner_of}
use Rattle.sc_ids.specs.Graphs.{StageData}
use Rattle.sc_ids.specs.declared.attempts.AttemptId.{AttemptId}
use Rattle.sc_ids.specs.declared.limits.Limits.{Limits}
use Rattle.sc_plan.specs.declared.lines.PlanLine.{PlanLine}
use Rattle.sc_core.specs.CoreData.{CoreData}
use Rattle.sc_core.specs.Journals.{Replays}
use Rattle.sc_core.specs.Openings.{IsOpening}
use Rattle.sc_core.specs.Posts.{is_save}
use Rattle.sc_core.specs.Sound.{IsSoundCore}
use Rattle.sc_core.specs.declared.answers.Answer.TheVariants as says
use Rattle.sc_core.specs.declared.answers.SideAnswer.TheVariants as sides
use Rattle.sc_core.specs.declared.entries.Entry.{Entry}
use Rattle.sc_core.specs.declared.events.Event.TheVariants.{Side}
use Rattle.sc_core.specs.declared.events.FileOutcome.TheVariants.{Done}
use Rattle.sc_core.specs.declared.events.Outcome.TheVariants as outcomes
use Rattle.sc_core.specs.declared.events.SideEvent.TheVariants.{Ask, Move}
use Rattle.sc_history.specs.Tellings.{telling, tellings_in}

-- an attempt holds the grant of its partition
abbrev pub HoldsGrant : CoreData → AttemptId → Type 0
HoldsGrant c a = holder_of c.committers a.partition ≡ Some a

-- an entry grants an attempt that it may commit
abbrev pub IsGrantOf : AttemptId → Entry → Type 0
IsGrantOf a e = (e.event ≡ Side (Ask a)) × (e.answer ≡ says.Side sides.Granted)

-- an entry tells that it has moved its output to where it counts
abbrev pub IsMoveOf : AttemptId → Entry → Type 0
IsMoveOf a e = (e.event ≡ Side (Move a Done)) × (e.answer ≡ says.Side sides.Moved)

-- an entry of this state tells its success, which gives the result of its partition
abbrev pub IsFinishOf : AttemptId → CoreData → Entry → Type 0
IsFinishOf a c e =
    tellings_in c e.event e.answer ≡ telling a outcomes.Result says.Finished ∷ []

-- an attempt holds its grant in the state behind the first entries, and in each one along the next
abbrev pub HoldsAlong : CoreData → List Entry → List Entry → AttemptId → Type 0
HoldsAlong opening first next a =
    (part more : List Entry) (c : CoreData) → next ≡ part ++ more
    → Replays opening (first ++ part) c → HoldsGrant c a

-- An attempt was granted that it may commit, then it has moved its output, and then its success was
-- told, with its grant held in each state from the first of these entries up to the last.
pub record WasCommitted (opening : CoreData) (entries : List Entry) (a : AttemptId) : Type 0 where
  pub first : List Entry
  pub ask : Entry
  pub second : List Entry
  pub move : Entry
  pub third : List Entry
  pub told : Entry
  pub last : List Entry
  pub parts : entries
      ≡ (first ++ ask ∷ []) ++ (second ++ move ∷ third) ++ told ∷ last
  pub granted : IsGrantOf a ask
  pub moved : IsMoveOf a move
  pub holds : HoldsAlong opening (first ++ ask ∷ []) (second ++ move ∷ third) a
  pub before : CoreData
  pub replays : Replays opening ((first ++ ask ∷ []) ++ (second ++ move ∷ third)) before
  pub finished : IsFinishOf a before told

-- no two attempts of a partition hold a grant, in any state of a journal
abbrev pub GrantsAreSole : Type 0
GrantsAreSole =
    (opening end : CoreData) (entries : List Entry) (a b : AttemptId)
    → Replays opening entries end → HoldsGrant end a → HoldsGrant end b
    → a.partition ≡ b.partition → a ≡ b

-- and who has won was committed so
abbrev pub WinnersCommit : Type 0
WinnersCommit =
    (graph : List StageData) (limits : Limits) (saves : Bool) (plan : List PlanLine)
    (last : Option CoreData) (opening end : CoreData) (entries : List Entry) (p : ℕ)
    (winner : AttemptId)
    → IsOpening graph limits saves plan last opening → IsSoundCore opening
    → Replays opening entries end → winner_of end.committers p ≡ Some winner
    → WasCommitted opening entries winner

-- a job saves in the end exactly where it did as it began
abbrev pub SavesStay : Type 0
SavesStay =
    (opening end : CoreData) (entries : List Entry) → Replays opening entries end
    → is_save end.committers ≡ is_save opening.committers
