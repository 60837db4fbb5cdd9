-- What holds of a run over what it read from.
use Rattle.std.proofs.Common.{◌≡◌, ◌∙◌, ℕ, List, Option, Some, None, refl, subst, ap, rules}
use Rattle.sc_base.specs.Outside.{Files, IsLaterSource, SourceState}
use Rattle.sc_gen.specs.Script.{GeneratedData, shown_files}
use Rattle.sc_app.specs.Sources.{Over, OverMade, RunsOver, files_of_words}

-- what follows of it wherever it was read from holds likewise
made_weaker : (made : Option GeneratedData) (P Q : SourceState → SourceState → Type 0)
    → ((before after : SourceState) → P before after → Q before after)
    → (s s' : SourceState) → OverMade made P s s' → OverMade made Q s s'
made_weaker None P Q gives s s' h = gives s s' h
made_weaker (Some made) P Q gives s s' (still, (misses, h)) =
    (still, (misses, gives (shown_files made) (shown_files (record made { misses = misses })) h))

pub over_weaker : (words : List (List ℕ)) (P Q : SourceState → SourceState → Type 0)
    → ((before after : SourceState) → P before after → Q before after)
    → (s s' : SourceState) → Over words P s s' → Over words Q s s'
over_weaker words P Q gives s s' h = made_weaker (files_of_words words) P Q gives s s' h

-- and what doesn't speak of where it was read from holds
made_out : (made : Option GeneratedData) (P : SourceState → SourceState → Type 0) (R : Type 0)
    → ((before after : SourceState) → P before after → R)
    → (s s' : SourceState) → OverMade made P s s' → R
made_out None P R gives s s' h = gives s s' h
made_out (Some made) P R gives s s' (still, (misses, h)) =
    gives (shown_files made) (shown_files (record made { misses = misses })) h

pub over_out : (words : List (List ℕ)) (P : SourceState → SourceState → Type 0) (R : Type 0)
    → ((before after : SourceState) → P before after → R)
    → (s s' : SourceState) → Over words P s s' → R
over_out words P R gives s s' h = made_out (files_of_words words) P R gives s s' h

-- what holds of any source that isn't read from holds of a run that reads nothing
made_still : (made : Option GeneratedData) (P : SourceState → SourceState → Type 0)
    (s : SourceState) → ((source : SourceState) → P source source) → OverMade made P s s
made_still None P s holds = holds s
made_still (Some made) P s holds = (refl, (made.misses, holds (shown_files made)))

pub over_still : (words : List (List ℕ)) (P : SourceState → SourceState → Type 0)
    (s : SourceState) → ((source : SourceState) → P source source) → Over words P s s
over_still words P s holds = made_still (files_of_words words) P s holds

-- a source that shows the files that are made goes on to show them
pub runs_over : (made before after : GeneratedData) (P : SourceState → SourceState → Type 0)
    → before ≡ made → IsLaterSource (shown_files before) (shown_files after)
    → P (shown_files before) (shown_files after) → RunsOver made P
runs_over made before after P is later h =
    let shown : Some after.files ≡ Some before.files = later.shown in
    let same : after.files ≡ made.files =
    search (rules, shown) ∙ ap (λ (g : GeneratedData). g.files) is in (
      after.misses,
      subst (λ s. P (shown_files made) s)
          (ap (λ (files : Files). shown_files (record { files = files; misses = after.misses }))
          same)
          (subst (λ g. P (shown_files g) (shown_files after)) is h),
    )
