-- What a read tells of a source.
use Rattle.std.specs.Prelude.{ℕ, ◌≡◌, List, [], ◌∷◌, Some, None, IfSome}
use Rattle.sc_base.specs.Counts.{Rose}
use Rattle.sc_base.specs.Lists.{content_of}
use Rattle.sc_base.specs.Outside.{SourceState, HasAsked, IsQuietSource}
use Rattle.sc_input.specs.declared.source.ReadAnswer.{ReadAnswer}
use Rattle.sc_input.specs.declared.source.ReadAnswer.TheVariants.{Bytes, NoFile, Failed, OutOfMemory}

-- a call that was answered asked for its own name once; one that wanted memory asked for none
abbrev pub AsksOnce : SourceState → SourceState → List ℕ → ReadAnswer → Type 0
AsksOnce before after name (Bytes bytes) = HasAsked before after (name ∷ [])
AsksOnce before after name NoFile = HasAsked before after (name ∷ [])
AsksOnce before after name Failed = HasAsked before after (name ∷ [])
AsksOnce before after name OutOfMemory = after ≡ before

-- a read gave bytes: no count rose, and a source that shows its files has them under the name
pub record GivesBytes (before after : SourceState) (name bytes : List ℕ) : Type 0 where
  pub quiet : IsQuietSource before after
  pub found : IfSome before.shown (λ files. content_of files name ≡ Some bytes)

-- a read missed: only the misses rose, and a source that shows its files has none of the name
pub record MissesFile (before after : SourceState) (name : List ℕ) : Type 0 where
  pub missed : Rose before.misses after.misses
  pub faults : after.faults ≡ before.faults
  pub absent : IfSome before.shown (λ files. content_of files name ≡ None)

-- a read failed: only the faults rose
pub record FailsToRead (before after : SourceState) : Type 0 where
  pub failed : Rose before.faults after.faults
  pub misses : after.misses ≡ before.misses

-- the cause of an answer: what a source that shows its files has under the name, and which count
-- rose, of which no other did
abbrev pub IsReadCause : SourceState → SourceState → List ℕ → ReadAnswer → Type 0
IsReadCause before after name (Bytes bytes) = GivesBytes before after name bytes
IsReadCause before after name NoFile = MissesFile before after name
IsReadCause before after name Failed = FailsToRead before after
IsReadCause before after name OutOfMemory = after ≡ before
