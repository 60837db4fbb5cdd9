-- The inputs that were taken so far, one more of them, and why the reading stops.
use Rattle.std.proofs.Common.{◌≡◌, ◌∙◌, ℕ, ◌+◌, ◌<◌, List, [], ◌∷◌, ◌++◌, length, map, take, get_or, refl, ap, sym, subst, arith, Option, Some, None, inl, inr, length-append, append_assoc}
use Rattle.std.proofs.lemmas.List.{append-nil, map_push, take_more}
use Rattle.std.proofs.lemmas.Option.{slice_get_within, slice_get_read, get_or_from_slice_get}
use Rattle.std.specs.List.{slice_get}
use Rattle.std.specs.Prelude.{Err}
use Rattle.sc_base.specs.Counts.{Rose}
use Rattle.sc_base.specs.declared.refusals.OrMemory.{OrMemory}
use Rattle.sc_base.specs.declared.refusals.OrMemory.TheVariants.{Fault, OutOfMemory}
use Rattle.sc_base.specs.Outside.{Files, SourceState, HasAsked, IsQuietSource, IsLaterSource, with_more}
use Rattle.sc_ids.specs.declared.limits.Limits.{Limits}
use Rattle.sc_lineage.specs.ScriptData.{ScriptData, input_names, name_of_input, AreTexts}
use Rattle.sc_plan.specs.declared.lines.PlanLine.{PlanLine}
use Rattle.sc_read.specs.declared.reads.Read.{Read}
use Rattle.sc_read.specs.declared.stops.InputStop.{InputStop}
use Rattle.sc_read.specs.declared.stops.InputStop.TheVariants as stops
use Rattle.sc_read.specs.declared.stops.Unreadable.{Unreadable}
use Rattle.sc_read.specs.declared.stops.Unreadable.TheVariants.{Missing, Failed}
use Rattle.sc_read.specs.Files.{IsUnreadable}
use Rattle.sc_read.specs.Inputs.{StopsAtFile, StopsAtText, TakesAsInput, TakesAsWork, TakesInput, TakesInputs}
use Rattle.sc_read.specs.Reads.{input_read, IsMissing, IsShown, AreShown}

-- more behind more
pub with_more-append : {A : Type 0} (shown : Option (List A)) (xs ys : List A)
    → with_more (with_more shown xs) ys ≡ with_more shown (xs ++ ys)
with_more-append None xs ys = refl
with_more-append (Some before) xs ys = ap Some (append_assoc before xs ys)

-- nothing more
pub with_more-none : {A : Type 0} (shown : Option (List A)) → with_more shown [] ≡ shown
with_more-none None = refl
with_more-none (Some before) = ap Some (append-nil before)

-- what was asked for behind what was asked before
pub asked-more : (a b c : SourceState) (xs ys : List (List ℕ))
    → HasAsked a b xs → HasAsked b c ys → HasAsked a c (xs ++ ys)
asked-more a b c xs ys first second =
    second ∙ ap (λ asked. with_more asked ys) first ∙ with_more-append a.asked xs ys

-- a quiet source behind a quiet one
pub quiet-more : (a b c : SourceState) → IsQuietSource a b → IsQuietSource b c → IsQuietSource a c
quiet-more a b c first second = record {
  faults = second.faults ∙ first.faults;
  misses = second.misses ∙ first.misses;
}

-- a source later than a later one
pub later-more : (a b c : SourceState)
    → IsLaterSource a b → IsLaterSource b c → IsLaterSource a c
later-more a b c first second = record {
  shown = second.shown ∙ first.shown;
  faults = omega (arith, first.faults, second.faults);
  misses = omega (arith, first.misses, second.misses);
}

AreShown-append : (shown : Option Files) (inputs : Files) (input : List ℕ × List ℕ)
    → AreShown shown inputs → IsShown shown input.0 input.1 → AreShown shown (inputs ++ input ∷ [])
AreShown-append shown [] input all one = (one, tt)
AreShown-append shown (i ∷ inputs) input all one =
    (all.0, AreShown-append shown inputs input all.1 one)

-- the first names, and one more
names-more : (names : List (List ℕ)) (inputs : Files) (input : List ℕ × List ℕ)
    → map name_of_input inputs ≡ take (length inputs) names
    → slice_get names (length inputs) ≡ Some input.0
    → map name_of_input (inputs ++ input ∷ [])
    ≡ take (length (inputs ++ input ∷ [])) names
names-more names inputs input named next =
    let len : length (inputs ++ input ∷ []) ≡ length inputs + 1 =
    length-append inputs (input ∷ []) in
    let within : length inputs < length names =
    slice_get_within names (length inputs) input.0 next in
    let more : take (length inputs + 1) names ≡ take (length inputs) names ++ input.0 ∷ [] =
    take_more names (length inputs) [] within
    ∙ ap (λ (n : List ℕ). take (length inputs) names ++ n ∷ [])
    (get_or_from_slice_get names (length inputs) input.0 [] next) in
    map_push name_of_input inputs input
    ∙ ap (λ (ns : List (List ℕ)). ns ++ input.0 ∷ []) named ∙ sym more
    ∙ ap (λ (n : ℕ). take n names) (sym len)

-- the name that a loop over all names has come to
pub next-name : (script : ScriptData) (names : List (List ℕ)) (inputs : Files) (i : ℕ)
    (name : List ℕ) → names ≡ input_names script → i < length names → name ≡ get_or names i name
    → length inputs ≡ i → slice_get (input_names script) (length inputs) ≡ Some name
next-name script names inputs i name are within is count =
    ap (slice_get (input_names script)) count
    ∙ ap (λ (ns : List (List ℕ)). slice_get ns i) (sym are)
    ∙ slice_get_read names (length names) i name refl within is

module _ (script : ScriptData) (start : SourceState) (before : List Read) where
  -- nothing was taken yet
  pub none-taken : TakesInputs script start start before before []
  none-taken = record {
    first = record { named = refl; are_shown = tt };
    kept = sym (append-nil before);
    asked = sym (with_more-none start.asked);
    quiet = record { faults = refl; misses = refl };
  }

  -- one more input is taken
  pub one-taken : (source later : SourceState) (now after : List Read) (inputs : Files)
      (name bytes : List ℕ)
      → TakesInputs script start source before now inputs → IsLaterSource start source
      → slice_get (input_names script) (length inputs) ≡ Some name
      → TakesInput source later name now after bytes
      → TakesInputs script start later before after (inputs ++ (name, bytes) ∷ [])
  one-taken source later now after inputs name bytes so_far was next taken =
      let input : List ℕ × List ℕ = (name, bytes) in
      record {
        first = record {
          named = names-more (input_names script) inputs input so_far.first.named next;
          are_shown = AreShown-append start.shown inputs input so_far.first.are_shown
              (subst (λ (files : Option Files). IsShown files name bytes) was.shown
              taken.file.shown);
        };
        kept = taken.kept ∙ ap (λ (rs : List Read). rs ++ input_read input ∷ []) so_far.kept
            ∙ append_assoc before (map input_read inputs) (input_read input ∷ [])
            ∙ ap (λ (rs : List Read). before ++ rs) (sym (map_push input_read inputs input));
        asked = subst (λ ns. HasAsked start later ns) (sym (map_push name_of_input inputs input))
            (asked-more start source later (map name_of_input inputs) (name ∷ [])
            so_far.asked taken.file.asked);
        quiet = quiet-more start source later so_far.quiet taken.file.quiet;
      }

  -- a name that gave no bytes of a later source, as the source was at the start
  pub unreadable-since : (source later : SourceState) (name : List ℕ) (why : Unreadable)
      → IsLaterSource start source → IsQuietSource start source
      → IsUnreadable source later name why → IsUnreadable start later name why
  unreadable-since source later name Missing was quiet why = (
    subst (λ misses. Rose misses later.misses) quiet.misses why.0,
    why.1 ∙ quiet.faults,
    subst (λ (shown : Option Files). IsMissing shown name) was.shown why.2,
  )
  unreadable-since source later name Failed was quiet why =
      (subst (λ faults. Rose faults later.faults) quiet.faults why.0, why.1 ∙ quiet.misses)

  -- why the next input wasn't taken is why the inputs weren't
  pub stops-taking : (plan : List PlanLine) (limits : Limits) (source later : SourceState)
      (now after : List Read) (inputs : Files) (name : List ℕ) (error : OrMemory InputStop)
      → TakesInputs script start source before now inputs → IsLaterSource start source
      → AreTexts inputs → slice_get (input_names script) (length inputs) ≡ Some name
      → TakesAsInput source later name now after (Err error)
      → TakesAsWork script plan limits start later before after (Err error)
  stops-taking plan limits source later now after inputs name (Fault (stops.Unreadable n why))
      so_far was texts next x =
      subst (λ m. StopsAtFile script start later before after m why) (sym x.0) (record {
        inputs = inputs;
        first = so_far.first;
        is_next = record { texts = texts; next = next };
        kept = x.1 ∙ so_far.kept;
        asked = asked-more start source later (map name_of_input inputs) (name ∷ []) so_far.asked
            x.2.asked;
        cause = unreadable-since source later name why was so_far.quiet x.2.cause;
      })
  stops-taking plan limits source later now after inputs name (Fault (stops.NotText n)) so_far
      was texts next x =
      subst (λ m. StopsAtText script start later before after m) (sym x.0) (record {
        inputs = inputs;
        bytes = x.1.0;
        is_next = record { texts = texts; next = next };
        taken = one-taken source later now after inputs name x.1.0 so_far was next x.1.1;
        no_text = x.1.2;
      })
  stops-taking plan limits source later now after inputs name OutOfMemory so_far was texts next
      (inl x) = (
        inputs,
        subst (λ s. TakesInputs script start s before after inputs) (sym x.1)
            (subst (λ rs. TakesInputs script start source before rs inputs) (sym x.0) so_far),
      )
  stops-taking plan limits source later now after inputs name OutOfMemory so_far was texts next
      (inr x) = (
        inputs ++ (name, x.0) ∷ [],
        one-taken source later now after inputs name x.0 so_far was next x.1,
      )

  -- an input that is text was taken
  pub input-taken : (source later : SourceState) (now after : List Read) (inputs : Files)
      (name : List ℕ) (input : List ℕ × List ℕ)
      → TakesInputs script start source before now inputs → IsLaterSource start source
      → slice_get (input_names script) (length inputs) ≡ Some name → input.0 ≡ name
      → TakesInput source later name now after input.1
      → TakesInputs script start later before after (inputs ++ input ∷ [])
  input-taken source later now after inputs name input so_far was next named taken =
      subst (λ n. TakesInputs script start later before after (inputs ++ (n, input.1) ∷ []))
      (sym named) (one-taken source later now after inputs name input.1 so_far was next taken)
