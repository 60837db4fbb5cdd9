-- The texts of a work's actions, one after another.
use Rattle.std.proofs.Common.{◌≡◌, ◌∙◌, ℕ, zero, suc, ◌+◌, ◌<◌, ◌≤◌, List, [], ◌∷◌, ◌++◌, length, take, subst, sym, ap, refl, arith, Option, Some, None, append_assoc}
use Rattle.std.specs.Prelude.{slice_get}
use Rattle.std.specs.List.{All, cons_option, filter_map}
use Rattle.std.specs.Option.{option_to_list}
use Rattle.std.proofs.lemmas.List.{append-nil, take_more}
use Rattle.std.proofs.lemmas.List.Elements.{All-nil, All-cons, All-append}
use Rattle.std.proofs.lemmas.Option.{slice_get_within, get_or_from_slice_get}
use Rattle.sc_base.specs.Lists.{at_or}
use Rattle.sc_base.specs.Outside.{FilesState, SinkState, with_more}
use Rattle.sc_lineage.specs.Actions.{action_text, some_text, texts_by, HasText}
use Rattle.sc_lineage.specs.ScriptData.{ActionData, WorkData}
use Rattle.sc_context.specs.Contexts.{ContextData, new_context}
use Rattle.sc_print.specs.Printing.{HasPrinted, PrintsAll, PrintsNext, PrintsText}

-- one more item at the end of a part
take-next : {X : Type 0} (xs : List X) (k : ℕ) (x : X) → slice_get xs k ≡ Some x
    → take (k + 1) xs ≡ take k xs ++ x ∷ []
take-next {X} xs k x e =
    take_more xs k x (slice_get_within xs k x e)
    ∙ ap (λ (y : X). take k xs ++ y ∷ []) (get_or_from_slice_get xs k x x e)

-- more behind more
pub with_more-append : {A : Type 0} (shown : Option (List A)) (xs ys : List A)
    → with_more (with_more shown xs) ys ≡ with_more shown (xs ++ ys)
with_more-append None xs ys = refl
with_more-append (Some before) xs ys = ap Some (append_assoc before xs ys)

-- nothing more
pub with_more-none : {A : Type 0} (shown : Option (List A)) → with_more shown [] ≡ shown
with_more-none None = refl
with_more-none (Some before) = ap Some (append-nil before)

-- what is found in lists one behind the other
filter_map-append : {X Y : Type 0} (h : X → Option Y) (xs : List X) (x : X)
    → filter_map h (xs ++ x ∷ []) ≡ filter_map h xs ++ option_to_list (h x)
filter_map-append h [] x = one (h x)
  where
    one : {Y : Type 0} (o : Option Y) → cons_option o [] ≡ option_to_list o
    one None = refl
    one (Some y) = refl
filter_map-append h (y ∷ xs) x = put (h y) (filter_map h (xs ++ x ∷ [])) (filter_map h xs)
    (option_to_list (h x))
    (filter_map-append h xs x)
  where
    put : {Y : Type 0} (o : Option Y) (ys zs ws : List Y) → ys ≡ zs ++ ws
        → cons_option o ys ≡ cons_option o zs ++ ws
    put None ys zs ws e = e
    put (Some z) ys zs ws e = ap (λ vs. z ∷ vs) e

-- an item that there is
pub slice_get-at : {X : Type 0} (xs : List X) (k : ℕ) (other : X) → k < length xs
    → slice_get xs k ≡ Some (at_or xs k other)
slice_get-at [] k other below = absurd (omega (arith, below))
slice_get-at (x ∷ xs) zero other below = refl
slice_get-at (x ∷ xs) (suc k) other below = slice_get-at xs k other (omega (arith, below))

module _ (work : WorkData) (start now after : SinkState) (k : ℕ) (action : ActionData)
    (is : slice_get work.script.actions k ≡ Some action) (so_far : HasPrinted work start now k)
  where
    -- the texts of one action more
    texts-next : (text : List ℕ) → action_text work action ≡ Some text
        → texts_by work (k + 1) ≡ texts_by work k ++ option_to_list (some_text (Some text))
    texts-next text printed =
        let found : ActionData → Option (List ℕ) = λ a. some_text (action_text work a) in
        ap (filter_map found) (take-next work.script.actions k action is)
        ∙ filter_map-append found (take k work.script.actions) action
        ∙ ap (λ t. texts_by work k ++ option_to_list (some_text t)) printed

    -- one action more is printed
    printed-next : (text : List ℕ) → action_text work action ≡ Some text
        → PrintsText text now after → HasPrinted work start after (k + 1)
    printed-next text printed one =
        record {
          within = omega (arith, slice_get_within work.script.actions k action is);
          texts = subst (λ as_. All (HasText work) as_)
              (sym (take-next work.script.actions k action is))
              (All-append (HasText work) (take k work.script.actions) (action ∷ []) so_far.texts
              (All-cons (HasText work) action [] (text, printed) (All-nil (HasText work))));
          pieces = one.pieces
              ∙ ap (λ s. with_more s (option_to_list (some_text (Some text)))) so_far.pieces
              ∙ with_more-append start.pieces (texts_by work k)
              (option_to_list (some_text (Some text)))
              ∙ ap (with_more start.pieces) (sym (texts-next text printed));
          quiet = one.quiet ∙ so_far.quiet;
        }

-- the next action is printed
pub printed-more : (work : WorkData) (start now after : SinkState) (c next : ContextData)
    → HasPrinted work start now c.progress.actions → PrintsNext work now after c next
    → HasPrinted work start after next.progress.actions
printed-more work start now after c next so_far one =
    subst (λ k. HasPrinted work start after k) (sym one.one_more)
    (printed-next work start now after c.progress.actions one.action one.is_action so_far one.text
    one.prints_so one.printed)

-- nothing is printed yet
pub printed-none : (work : WorkData) (state : SinkState) → HasPrinted work state state 0
printed-none work state =
    record {
      within = omega arith;
      texts = All-nil (HasText work);
      pieces = sym (with_more-none state.pieces);
      quiet = refl;
    }

-- nor in a context in which no job has run
pub printed-first : (work : WorkData) (state : SinkState) (files : FilesState) (c : ContextData)
    → c ≡ new_context work files → HasPrinted work state state c.progress.actions
printed-first work state files c new =
    subst (λ (x : ContextData). HasPrinted work state state x.progress.actions) (sym new)
    (printed-none work state)

-- all is printed
pub printed-all : (work : WorkData) (before after : SinkState) (k : ℕ)
    → length work.script.actions ≤ k → HasPrinted work before after k → PrintsAll work before after
printed-all work before after k past printed =
    let e : k ≡ length work.script.actions = omega (arith, printed.within) in
    subst (λ n. HasPrinted work before after n) e printed
