-- What rows give one after another: from a stream of values, and in two runs.
use Rattle.std.proofs.Common.{◌≡◌, ◌∙◌, ℕ, ◌≤◌, true, false, List, [], ◌∷◌, ◌++◌, Option, Some, None, Ok, Err, length, map, take, drop, refl, ap, sym, arith}
use Rattle.std.proofs.lemmas.Bool.{false≢true}
use Rattle.std.proofs.lemmas.List.{append_assoc, take-append-drop}
use Rattle.std.specs.Option.{is_some}
use Rattle.sc_value.specs.Datum.{Datum}
use Rattle.sc_expr.specs.Heads.{Outcome}
use Rattle.sc_expr.specs.declared.exprs.Raise.{Raise}
use Rattle.sc_lineage.specs.declared.streams.Stream.{Stream}
use Rattle.sc_lineage.specs.Streams.{with_rows, with_outcome, each_gives, each_until_raise, unless_raised, joined_streams}
use Rattle.sc_ops.specs.Given.{all_given}

-- what rows give with a stream of values beside them
abbrev pub given_beside : (Datum → Datum → List Datum) → List Datum → Stream → Stream
given_beside given ds values =
    record { rows = all_given given ds values.rows; raise = values.raise }

one_given : (given : Datum → Datum → List Datum) (d : Datum) (ds : List Datum) (o : Outcome)
    (rest values : Stream)
    → rest ≡ given_beside given ds values
    → with_outcome (given d) o rest
    ≡ given_beside given (d ∷ ds) (with_outcome (λ v. v ∷ []) o values)
one_given given d ds (Ok v) rest values is = ap (with_rows (given d v)) is
one_given given d ds (Err r) rest values is = refl

-- rows give what they give with the values of an expression over an element of each
pub each_gives-beside : (given : Datum → Datum → List Datum) (f : Datum → Outcome)
    (g : Datum → Datum) (ds : List Datum) (end : Option Raise)
    → each_gives given (λ d. f (g d)) ds end
    ≡ given_beside given ds (each_until_raise f (map g ds) end)
each_gives-beside given f g [] end = refl
each_gives-beside given f g (d ∷ ds) end =
    one_given given d ds (f (g d)) _ (each_until_raise f (map g ds) end)
    (each_gives-beside given f g ds end)

one_value_more : (o : Outcome) (ds : List Datum) (d : Datum) (values : Stream)
    → length values.rows ≤ length ds
    → length (with_outcome (λ v. v ∷ []) o values).rows ≤ length (d ∷ ds)
one_value_more (Ok v) ds d values within = omega arith
one_value_more (Err r) ds d values within = omega arith

-- there are no more values than rows
pub length-each_until_raise : (f : Datum → Outcome) (ds : List Datum) (end : Option Raise)
    → length (each_until_raise f ds end).rows ≤ length ds
length-each_until_raise f [] end = omega arith
length-each_until_raise f (d ∷ ds) end =
    one_value_more (f d) ds d (each_until_raise f ds end) (length-each_until_raise f ds end)

-- rows in front of what a raise may hide
pub with_rows-unless_raised : (before rows : List Datum) (end : Option Raise) (rest : Stream)
    → with_rows before (unless_raised rows end rest) ≡ unless_raised (before ++ rows) end rest
with_rows-unless_raised before rows None rest =
    ap (λ ds. record { rows = ds; raise = rest.raise }) (sym (append_assoc before rows rest.rows))
with_rows-unless_raised before rows (Some r) rest = refl

one_before : (given : Datum → List Datum) (o : Outcome) (first rest whole : Stream)
    → whole ≡ unless_raised first.rows first.raise rest
    → with_outcome given o whole
    ≡ unless_raised (with_outcome given o first).rows (with_outcome given o first).raise rest
one_before given (Ok v) first rest whole is =
    ap (with_rows (given v)) is ∙ with_rows-unless_raised (given v) first.rows first.raise rest
one_before given (Err r) first rest whole is = refl

-- two runs of rows
pub each_gives-append : (given : Datum → Datum → List Datum) (f : Datum → Outcome)
    (xs ys : List Datum) (end : Option Raise)
    → each_gives given f (xs ++ ys) end
    ≡ unless_raised (each_gives given f xs None).rows (each_gives given f xs None).raise
    (each_gives given f ys end)
each_gives-append given f [] ys end = refl
each_gives-append given f (x ∷ xs) ys end =
    one_before (given x) (f x) (each_gives given f xs None) (each_gives given f ys end) _
    (each_gives-append given f xs ys end)

-- two runs of streams
pub joined_streams-append : (ss ts : List Stream)
    → joined_streams (ss ++ ts)
    ≡ unless_raised (joined_streams ss).rows (joined_streams ss).raise (joined_streams ts)
joined_streams-append [] ts = refl
joined_streams-append (s ∷ ss) ts =
    behind s.rows s.raise (joined_streams ss) (joined_streams ts) _ (joined_streams-append ss ts)
  where
    behind : (rows : List Datum) (end : Option Raise) (first rest whole : Stream)
        → whole ≡ unless_raised first.rows first.raise rest
        → unless_raised rows end whole
        ≡ unless_raised (unless_raised rows end first).rows (unless_raised rows end first).raise
        rest
    behind rows None first rest whole is =
        ap (with_rows rows) is ∙ with_rows-unless_raised rows first.rows first.raise rest
    behind rows (Some r) first rest whole is = refl

raise_or_none : (end : Option Raise) (P : Option Raise → Type 0) → is_some end ≡ false → P None
    → P end
raise_or_none None P no_raise at = at
raise_or_none (Some r) P no_raise at = absurd (false≢true (sym no_raise))

raise_stays : (end : Option Raise) (before rows : List Datum) (rest : Stream) → is_some end ≡ true
    → with_rows before (unless_raised rows end rest) ≡ record { rows = before ++ rows; raise = end }
raise_stays None before rows rest raised = absurd (false≢true raised)
raise_stays (Some r) before rows rest raised = refl

-- what two runs of rows give is what the first gives, and behind it what the second gives, unless
-- the first raises
abbrev pub GivesInRuns : (List Datum → Option Raise → Stream) → Type 0
GivesInRuns gives = (xs ys : List Datum) (end : Option Raise) → gives (xs ++ ys) end
    ≡ unless_raised (gives xs None).rows (gives xs None).raise (gives ys end)

-- Rows of which the first run is done.
module _ (gives : List Datum → Option Raise → Stream) (in_runs : GivesInRuns gives)
    (rows run rest out after : List Datum) (end : Option Raise) (s whole : Stream)
    (are : rows ≡ run ++ rest) (is : s ≡ gives run None) (added : after ≡ out ++ s.rows)
    (so_far : whole ≡ with_rows out (gives rows end)) where
  abbrev pub behind : Stream
  behind = gives rest end

  both : whole ≡ with_rows out (unless_raised s.rows s.raise behind)
  both =
      so_far ∙ ap (with_rows out) (ap (λ ds. gives ds end) are ∙ in_runs run rest end)
      ∙ ap (λ (t : Stream). with_rows out (unless_raised t.rows t.raise behind)) (sym is)

  -- it raises nothing
  pub run-more : is_some s.raise ≡ false → whole ≡ with_rows after behind
  run-more none =
      both
      ∙ raise_or_none s.raise (λ o. with_rows out (unless_raised s.rows o behind)
      ≡ with_rows (out ++ s.rows) behind) none
      (with_rows-unless_raised out s.rows None behind)
      ∙ ap (λ ds. with_rows ds behind) (sym added)

  -- it raises
  pub run-raised : is_some s.raise ≡ true → record { rows = after; raise = s.raise } ≡ whole
  run-raised some =
      sym (both ∙ raise_stays s.raise out s.rows behind some
      ∙ ap (λ ds. record { rows = ds; raise = s.raise }) (sym added))

-- the first half of some streams raises
pub joined-raised : (ss : List Stream) (i : ℕ) (first : Stream) → first ≡ joined_streams (take i ss)
    → is_some first.raise ≡ true
    → first ≡ joined_streams ss
joined-raised ss i first is some =
    sym (ap joined_streams (sym (take-append-drop i ss))
    ∙ joined_streams-append (take i ss) (drop i ss)
    ∙ ap (λ (s : Stream). unless_raised s.rows s.raise (joined_streams (drop i ss))) (sym is)
    ∙ kept first.rows first.raise (joined_streams (drop i ss)) some)
  where
    kept : (rows : List Datum) (end : Option Raise) (rest : Stream) → is_some end ≡ true
        → unless_raised rows end rest ≡ record { rows = rows; raise = end }
    kept rows None rest raised = absurd (false≢true raised)
    kept rows (Some r) rest raised = refl

-- the first half of some streams raises nothing
pub joined-both : (ss : List Stream) (i : ℕ) (first second : Stream) (rows : List Datum)
    → first ≡ joined_streams (take i ss)
    → is_some first.raise ≡ false → second ≡ joined_streams (drop i ss)
    → rows ≡ first.rows ++ second.rows
    → record { rows = rows; raise = second.raise } ≡ joined_streams ss
joined-both ss i first second rows is none rest_is are =
    ap (λ ds. record { rows = ds; raise = second.raise }) are
    ∙ sym (ap joined_streams (sym (take-append-drop i ss))
    ∙ joined_streams-append (take i ss) (drop i ss)
    ∙ ap (λ (s : Stream). unless_raised s.rows s.raise (joined_streams (drop i ss))) (sym is)
    ∙ ap (unless_raised first.rows first.raise) (sym rest_is)
    ∙ passed first.rows first.raise second none)
  where
    passed : (rows : List Datum) (end : Option Raise) (rest : Stream) → is_some end ≡ false
        → unless_raised rows end rest ≡ with_rows rows rest
    passed rows None rest no_raise = refl
    passed rows (Some r) rest no_raise = absurd (false≢true (sym no_raise))
