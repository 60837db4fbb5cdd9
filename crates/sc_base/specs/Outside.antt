-- What the outside of a run shows at one moment.
use Rattle.std.specs.Prelude.{ℕ, refl, ◌≡◌, ◌≤◌, List, ◌++◌, Option, Some, None, option_map}
use Rattle.std.specs.Coded.{Coded, code_by, coded×, coded_option, coded_ℕ}
use Rattle.std.specs.List.{concat}
use Rattle.sc_base.specs.Trees.{Tree, tree_code}

-- names with their bytes; of two entries of one name the first counts
abbrev pub Files : Type 0
Files = List (List ℕ × List ℕ)

-- a source of files
pub record SourceState : Type 0 where
  -- its files, where it shows them
  pub shown : Option Files
  -- the names of the reads that it answered, in order, where it shows them
  pub asked : Option (List (List ℕ))
  -- how often a read failed
  pub faults : ℕ
  -- how often a name wasn't there
  pub misses : ℕ

-- a sink for bytes
pub record SinkState : Type 0 where
  -- what it took of each write, in order, where it shows them
  pub pieces : Option (List (List ℕ))
  -- how often a write failed
  pub faults : ℕ

-- directories and files that are written
pub record FilesState : Type 0 where
  -- what there is, where it shows
  pub shown : Option Tree
  -- how often a call failed
  pub faults : ℕ
  -- how often a call found what it asks for absent, or what it makes there
  pub clashes : ℕ

abbrev pub files_state : Option Tree → ℕ → ℕ → FilesState
files_state shown faults clashes = record { shown = shown; faults = faults; clashes = clashes }

-- such a state told by what it shows and its counts
abbrev pub files_state_code : Coded FilesState
files_state_code =
    code_by (Option Tree × (ℕ × ℕ)) (coded× (coded_option tree_code) (coded× coded_ℕ coded_ℕ))
    (λ s. (s.shown, (s.faults, s.clashes))) (λ p. files_state p.0 p.1.0 p.1.1) (λ _. refl)

-- the whole outside
pub record Outside : Type 0 where
  pub source : SourceState
  pub sink : SinkState

abbrev pub outside_of : SourceState → SinkState → Outside
outside_of source sink = record { source = source; sink = sink }

-- a source later on: it shows the same files, and its counts have not fallen
pub record IsLaterSource (before after : SourceState) : Type 0 where
  pub shown : after.shown ≡ before.shown
  pub faults : before.faults ≤ after.faults
  pub misses : before.misses ≤ after.misses

-- more of what is shown in order, behind what was shown before
abbrev pub with_more : {A : Type 0} → Option (List A) → List A → Option (List A)
with_more shown more = option_map (λ before. before ++ more) shown

-- a source was asked for these names and for no other between two moments
abbrev pub HasAsked : SourceState → SourceState → List (List ℕ) → Type 0
HasAsked before after names = after.asked ≡ with_more before.asked names

-- no count of a source rose between two moments
pub record IsQuietSource (before after : SourceState) : Type 0 where
  pub faults : after.faults ≡ before.faults
  pub misses : after.misses ≡ before.misses

-- what is shown changed so, where it is shown: what shows goes on to show, and nothing else does
abbrev pub Changes : (Tree → Tree → Type 0) → Option Tree → Option Tree → Type 0
Changes R None None = Unit {0}
Changes R (Some before) (Some after) = R before after
Changes R None (Some after) = ⊥
Changes R (Some before) None = ⊥

-- files later on: they show as they did, and their counts have not fallen
pub record IsLaterFiles (before after : FilesState) : Type 0 where
  pub shown : Changes (λ t u. Unit {0}) before.shown after.shown
  pub faults : before.faults ≤ after.faults
  pub clashes : before.clashes ≤ after.clashes

-- no count of the files rose between two moments
pub record IsQuietFiles (before after : FilesState) : Type 0 where
  pub faults : after.faults ≡ before.faults
  pub clashes : after.clashes ≡ before.clashes

-- all bytes that a sink took, where it shows them
abbrev pub bytes_taken : SinkState → Option (List ℕ)
bytes_taken sink = option_map concat sink.pieces
