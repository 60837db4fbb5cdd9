-- Printed rows, piece by piece.
use Rattle.std.proofs.Common.{◌≡◌, ◌∙◌, ℕ, ◌+◌, ◌-◌, ◌*◌, ◌<◌, ◌≤◌, List, [], ◌∷◌, ◌++◌, Result, Ok, Err, Some, None, append-nil, append_assoc, ap, ap₂, arith, codes, drop, if◌then◌else◌, length, map, refl, replicate, subst, sym, take}
use Rattle.std.proofs.lemmas.List.{flat_map_more, length-drop, length-take-le, map_push}
use Rattle.std.proofs.lemmas.Option.{slice_get-map, slice_get_within}
use Rattle.std.specs.Option.{option_map}
use Rattle.sc_value.specs.declared.texts.Span.{Span}
use Rattle.std.proofs.lemmas.Str.{IsUtf8-append}
use Rattle.std.specs.List.{slice_get, slice_range}
use Rattle.std.specs.Result.{IsErrAnd, is_ok}
use Rattle.std.specs.Str.{IsUtf8}
use Rattle.sc_value.specs.Datum.{Datum, items_of, pair, text as text_datum}
use Rattle.sc_value.specs.Printing.{printed, printed_items, printed_line, printed_lines, printed_more}
use Rattle.sc_value.proofs.PrintingLemmas.{kept_behind, kept_more, utf8_list, utf8_pair}
use Rattle.sc_columns.specs.Columns.{group_at, zip_with}
use Rattle.sc_columns.specs.Prints.{IsWritten, Writes, printed_at, printed_row, separator}
use Rattle.sc_columns.proofs.ListLemmas.{length-zip_with, slice_get-replicate, slice_get-zip_with, take_next, there}
use Rattle.sc_columns.proofs.RangeLemmas.{range_one}

-- what a refusal leaves
pub refused : {T E : Type 0} (Q : E → Type 0) (r : Result T E) (before after text : List ℕ)
    → IsErrAnd r Q → take (length before) after ≡ before → Writes r before after text
refused Q (Ok x) before after text is kept = absurd is
refused Q (Err e) before after text is kept = kept

-- what a last piece leaves, whose answer is handed on
pub wrote_last : {T E : Type 0} (r : Result T E) (before mid after last text : List ℕ)
    → after ≡ (if is_ok r then mid ++ last else mid) → take (length before) mid ≡ before
    → before ++ text ≡ mid ++ last → IsUtf8 text → Writes r before after text
wrote_last (Ok x) before mid after last text is kept whole utf8 =
    record { bytes = is ∙ sym whole; utf8 = utf8 }
wrote_last (Err e) before mid after last text is kept whole utf8 =
    ap (take (length before)) is ∙ kept

pub printed-pair : (xs ys : List Datum) (i : ℕ) → i < length (zip_with pair xs ys)
    → printed_at (zip_with pair xs ys) i
    ≡ codes "(" ++ printed_at xs i ++ codes "," ++ printed_at ys i ++ codes ")"
printed-pair xs ys i within =
    let lens = length-zip_with pair xs ys in
    let x = there xs i (omega (arith, lens)) in
    let y = there ys i (omega (arith, lens)) in
    ap printed_row (slice_get-zip_with pair xs ys i x.0 y.0 x.1 y.1)
    ∙ ap₂ (λ a b. codes "(" ++ a ++ codes "," ++ b ++ codes ")")
    (sym (ap printed_row x.1)) (sym (ap printed_row y.1))

pub printed-missing : {X : Type 0} (f : X → Datum) (xs : List X) (i : ℕ) → None ≡ slice_get xs i
    → printed_at (map f xs) i ≡ []
printed-missing f xs i is =
    ap printed_row (slice_get-map f xs i ∙ ap (option_map f) (sym is))

pub printed-copies : (n i : ℕ) (d : Datum) → i < n → printed_at (replicate n d) i ≡ printed d
printed-copies n i d within = ap printed_row (slice_get-replicate n i d within)

pub printed-list : (items : List Datum) (spans : List Span) (i : ℕ) (s : Span)
    → Some s ≡ slice_get spans i
    → printed_at (map (group_at items) spans) i
    ≡ codes "CompactBuffer(" ++ printed_items (items_of (slice_range items s.from s.to)) ++ codes
    ")"
printed-list items spans i s is =
    ap printed_row (slice_get-map (group_at items) spans i
    ∙ ap (option_map (group_at items)) (sym is))

more_items : (ds : List Datum) (d : Datum)
    → printed_more (items_of (ds ++ d ∷ []))
    ≡ printed_more (items_of ds) ++ (codes ", " ++ printed d)
more_items [] d = simp append-nil
more_items (e ∷ ds) d = rw (more_items ds d) (simp append_assoc)

one_more_item : (ds : List Datum) (d : Datum)
    → printed_items (items_of (ds ++ d ∷ []))
    ≡ printed_items (items_of ds) ++ (separator (length ds) ++ printed d)
one_more_item [] d = simp append-nil
one_more_item (e ∷ ds) d = rw (more_items ds d) (simp append_assoc)

-- the items from one place on, one item further
module _ (rows : List Datum) (from k : ℕ) (d : Datum) (ordered : from ≤ k)
    (is : slice_get rows k ≡ Some d) where
  abbrev items_to : ℕ → List ℕ
  items_to n = printed_items (items_of (slice_range rows from n))

  items_more : items_to (k + 1) ≡ items_to k ++ (separator (k - from) ++ printed d)
  items_more =
      let within = slice_get_within rows k d is in
      let count : length (slice_range rows from k) ≡ k - from =
      length-take-le (k - from) (drop from rows) (omega (arith, length-drop from rows, within)) in
      ap (λ ds. printed_items (items_of ds)) (range_one rows from k d ordered is)
      ∙ one_more_item (slice_range rows from k) d
      ∙ ap (λ n. items_to k ++ (separator n ++ printed d)) count

  pub items_written : (start before between after : List ℕ) → IsWritten start before (items_to k)
      → IsWritten before between (separator (k - from)) → IsWritten between after (printed d)
      → IsWritten start after (items_to (k + 1))
  items_written start before between after p q r = record {
    bytes = rw (items_more, r.bytes, q.bytes, p.bytes) (simp append_assoc);
    utf8 = rw items_more (IsUtf8-append _ _ p.utf8 (IsUtf8-append _ _ q.utf8 r.utf8));
  }

-- an item that is there
pub written-there : (rows : List Datum) (i : ℕ) (d : Datum) (before after : List ℕ)
    → slice_get rows i ≡ Some d → IsWritten before after (printed_at rows i)
    → IsWritten before after (printed d)
written-there rows i d before after is written =
    let P : List ℕ → Type 0 = IsWritten before after in subst P (ap printed_row is) written

pub writes-text : {T E : Type 0} (r : Result T E) (before after text other : List ℕ) → text ≡ other
    → Writes r before after text → Writes r before after other
writes-text r before after text other same writes =
    let P : List ℕ → Type 0 = Writes r before after in subst P same writes

-- the whole of a pair, once its last piece is written
pub pair_written : {T E : Type 0} (r : Result T E) (old m1 m2 m3 m4 after a b : List ℕ)
    → m1 ≡ old ++ codes "(" → IsWritten m1 m2 a → m3 ≡ m2 ++ codes "," → IsWritten m3 m4 b
    → after ≡ (if is_ok r then m4 ++ codes ")" else m4)
    → Writes r old after (codes "(" ++ a ++ codes "," ++ b ++ codes ")")
pair_written r old m1 m2 m3 m4 after a b p q s t last =
    wrote_last r old m4 after (codes ")") _ last
    (kept_more old m3 m4
    (kept_more old m2 m3
    (kept_more old m1 m2 (kept_behind old _ m1 p) (kept_behind m1 _ m2 q.bytes))
    (kept_behind m2 _ m3 s))
    (kept_behind m3 _ m4 t.bytes))
    (rw (t.bytes, s, q.bytes, p) (simp append_assoc))
    (utf8_pair a b q.utf8 t.utf8)

-- the whole of a list, once its last piece is written
pub list_written : {T E : Type 0} (r : Result T E) (old m1 m2 after a : List ℕ)
    → m1 ≡ old ++ codes "CompactBuffer(" → IsWritten m1 m2 a
    → after ≡ (if is_ok r then m2 ++ codes ")" else m2)
    → Writes r old after (codes "CompactBuffer(" ++ a ++ codes ")")
list_written r old m1 m2 after a p q last =
    wrote_last r old m2 after (codes ")") _ last
    (kept_more old m1 m2 (kept_behind old _ m1 p) (kept_behind m1 _ m2 q.bytes))
    (rw (q.bytes, p) (simp append_assoc))
    (utf8_list a q.utf8)

-- a row more is printed as a line
pub line_printed : (rows : List Datum) (i : ℕ) (d : Datum) (start before after : List ℕ)
    → slice_get rows i ≡ Some d → before ≡ start ++ printed_lines (take i rows)
    → after ≡ before ++ printed_line d → after ≡ start ++ printed_lines (take (i + 1) rows)
line_printed rows i d start before after is before_is after_is =
    after_is ∙ ap (λ o. o ++ printed_line d) before_is
    ∙ flat_map_more printed_line start (take i rows) d
    ∙ ap (λ r. start ++ printed_lines r) (sym (take_next rows i d is))

-- two rows more are printed as lines
pub two_lines_printed : (rows : List Datum) (k : ℕ) (d e : Datum) (start before after : List ℕ)
    → slice_get rows (2 * k) ≡ Some d → slice_get rows (2 * k + 1) ≡ Some e
    → before ≡ start ++ printed_lines (take (2 * k) rows)
    → after ≡ before ++ (printed_line d ++ printed_line e)
    → after ≡ start ++ printed_lines (take (2 * (k + 1)) rows)
two_lines_printed rows k d e start before after first second before_is after_is =
    let count : 2 * k + 1 + 1 ≡ 2 * (k + 1) = omega arith in
    line_printed rows (2 * k + 1) e start (before ++ printed_line d) after second
    (line_printed rows (2 * k) d start before (before ++ printed_line d) first before_is refl)
    (after_is ∙ sym (append_assoc before (printed_line d) (printed_line e)))
    ∙ ap (λ n. start ++ printed_lines (take n rows)) count

-- a row more is printed, and then its line feed
pub line_written : (rows : List Datum) (i : ℕ) (d : Datum)
    (start before with_text with_end : List ℕ)
    → slice_get rows i ≡ Some d → before ≡ start ++ printed_lines (take i rows)
    → with_text ≡ before ++ printed d → with_end ≡ with_text ++ 10 ∷ []
    → with_end ≡ start ++ printed_lines (take (i + 1) rows)
line_written rows i d start before with_text with_end is before_is text_is end_is =
    line_printed rows i d start before with_end is before_is
    (end_is ∙ ap (λ o. o ++ 10 ∷ []) text_is ∙ append_assoc before (printed d) (10 ∷ []))

-- a row more is printed as a text
pub text_printed : (rows : List Datum) (i : ℕ) (d : Datum) (before after : List (List ℕ))
    (row : List ℕ) → slice_get rows i ≡ Some d → before ≡ map printed (take i rows)
    → row ≡ printed d → after ≡ before ++ row ∷ []
    → after ≡ map printed (take (i + 1) rows)
text_printed rows i d before after row is before_is row_is after_is =
    after_is ∙ ap₂ (λ ts t. ts ++ t ∷ []) before_is row_is
    ∙ sym (map_push printed (take i rows) d)
    ∙ ap (map printed) (sym (take_next rows i d is))

pub printed-texts : (ts : List (List ℕ)) → map printed (map text_datum ts) ≡ ts
printed-texts [] = refl
printed-texts (t ∷ ts) = ap (λ r. t ∷ r) (printed-texts ts)
