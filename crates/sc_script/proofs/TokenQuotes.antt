-- A text in quotes, as the code reads it: piece by piece from the left.
use Rattle.std.proofs.Common.{◌≡◌, ℕ, suc, ◌+◌, ◌<◌, ◌≤◌, Bool, true, false, cond, not, eqb, List, [], ◌∷◌, ◌++◌, length, take, drop, get_or, Option, Some, None, option_map, refl, ap, sym, ◌∙◌, subst, ◌⊎◌, inl, inr, arith, append_assoc, append-nil, one-add}
use Rattle.std.proofs.lemmas.Bool.{or_parts, or_cases, eqb-true, cases_lt, cond-true, cond-false}
use Rattle.std.proofs.lemmas.Bool.Decides.{nat_tests}
use Rattle.std.proofs.lemmas.List.Sums.{passes_at_first, prefix_len-le-length}
use Rattle.std.proofs.lemmas.Str.{IsCharBoundary-before_ascii, IsCharBoundary-end}
use Rattle.std.specs.List.{position_or_len}
use Rattle.std.specs.Str.{IsCharBoundary, IsUtf8}
use Rattle.sc_script.specs.Tokens.{escaped_byte}
use Rattle.sc_script.specs.TokenReading.{is_mark, mark_at, escape_at, text_at, with_front, with_escaped}
use Rattle.sc_script.specs.declared.literals.Mark.{Mark}
use Rattle.sc_script.specs.declared.literals.Mark.TheVariants.{Quote, Escape}

-- bytes before a text one after the other
with_front-append : (front more : List ℕ) (read : Option (List ℕ × List ℕ))
    → with_front front (with_front more read) ≡ with_front (front ++ more) read
with_front-append front more None = refl
with_front-append front more (Some read) =
    ap (λ (t : List ℕ). Some (t, read.1)) (sym (append_assoc front more read.0))

with_front-nil : (read : Option (List ℕ × List ℕ)) → with_front [] read ≡ read
with_front-nil None = refl
with_front-nil (Some read) = refl

-- bytes that begin with a quote or a backslash, or there are none
abbrev pub IsMarked : List ℕ → Type 0
IsMarked [] = Unit {0}
IsMarked (c ∷ cs) = is_mark c ≡ true

-- the bytes before the first quote or backslash stand for themselves
record SplitsAtMark (bytes : List ℕ) (n : ℕ) : Type 0 where
  reads : text_at false bytes ≡ with_front (take n bytes) (text_at false (drop n bytes))
  marked : IsMarked (drop n bytes)

at_mark : (bytes : List ℕ) → IsMarked bytes → SplitsAtMark bytes 0
at_mark [] marked = record { reads = refl; marked = tt }
at_mark (c ∷ cs) marked =
    record { reads = sym (with_front-nil (text_at false (c ∷ cs))); marked = marked }

past_plain : (c : ℕ) (cs : List ℕ) (n : ℕ) → is_mark c ≡ false → SplitsAtMark cs n
    → SplitsAtMark (c ∷ cs) (suc n)
past_plain c cs n plain split =
    let parts = or_parts (eqb c 34) (eqb c 92) plain in
    record {
      reads =
          cond-false (eqb c 34) _ _ parts.0 ∙ cond-false (eqb c 92) _ _ parts.1
          ∙ ap (with_front (c ∷ [])) split.reads
          ∙ with_front-append (c ∷ []) (take n cs) (text_at false (drop n cs));
      marked = split.marked;
    }

splits_at_mark : (bytes : List ℕ) → SplitsAtMark bytes (position_or_len is_mark bytes)
splits_at_mark [] = record { reads = refl; marked = tt }
splits_at_mark (c ∷ cs) = go (is_mark c) refl (splits_at_mark cs)
  where
    go : (b : Bool) → is_mark c ≡ b → SplitsAtMark cs (position_or_len is_mark cs)
        → SplitsAtMark (c ∷ cs) (cond (not (is_mark c)) (1 + position_or_len is_mark cs) 0)
    go true mark later =
        subst (SplitsAtMark (c ∷ cs))
        (sym (ap (λ b. cond (not b) (1 + position_or_len is_mark cs) 0) mark))
        (at_mark (c ∷ cs) mark)
    go false mark later =
        subst (SplitsAtMark (c ∷ cs))
        (sym (one-add (position_or_len is_mark cs))
        ∙ sym (ap (λ b. cond (not b) (1 + position_or_len is_mark cs) 0) mark))
        (past_plain c cs (position_or_len is_mark cs) mark later)

-- what a quote or a backslash begins, as it is read
pub record EndsText (bytes : List ℕ) : Type 0 where
  pub some : 1 ≤ length bytes
  pub byte : get_or bytes 0 0 < 128
  pub reads : text_at false bytes ≡ Some ([], drop 1 bytes)

pub record IsEscape (bytes : List ℕ) (d : ℕ) : Type 0 where
  pub some : 2 ≤ length bytes
  pub byte : get_or bytes 1 0 < 128
  pub meant : d < 128
  pub reads : text_at false bytes ≡ with_front (d ∷ []) (text_at false (drop 2 bytes))

abbrev pub Begins : List ℕ → Option Mark → Type 0
Begins bytes None = text_at false bytes ≡ None
Begins bytes (Some Quote) = EndsText bytes
Begins bytes (Some (Escape d)) = IsEscape bytes d

escaped_from : (c d : ℕ) → escaped_byte c ≡ Some d → c < 128
escaped_from c d is = grind (arith, nat_tests)

escaped_to : (c d : ℕ) → escaped_byte c ≡ Some d → d < 128
escaped_to c d is = grind (arith, nat_tests)

escape_begins : (cs : List ℕ) → Begins (92 ∷ cs) (escape_at cs)
escape_begins [] = refl
escape_begins (c ∷ cs) = go (escaped_byte c) refl
  where
    go : (d : Option ℕ) → escaped_byte c ≡ d → Begins (92 ∷ c ∷ cs) (option_map Escape d)
    go None is = ap (λ o. with_escaped o (text_at false cs)) is
    go (Some d) is = record {
      some = omega arith;
      byte = escaped_from c d is;
      meant = escaped_to c d is;
      reads = ap (λ o. with_escaped o (text_at false cs)) is;
    }

mark_begins : (bytes : List ℕ) → IsMarked bytes → Begins bytes (mark_at bytes)
mark_begins [] marked = refl
mark_begins (c ∷ cs) marked = go (or_cases (eqb c 34) (eqb c 92) marked)
  where
    go : (eqb c 34 ≡ true) ⊎ (eqb c 92 ≡ true) → Begins (c ∷ cs) (mark_at (c ∷ cs))
    go (inl quote) =
        subst (Begins (c ∷ cs)) (sym (cond-true (eqb c 34) (Some Quote) _ quote)) (record {
          some = omega arith;
          byte = omega (arith, eqb-true c 34 quote);
          reads = cond-true (eqb c 34) _ _ quote;
        })
    go (inr backslash) =
        subst (λ (d : ℕ). Begins (d ∷ cs) (mark_at (d ∷ cs))) (sym (eqb-true c 92 backslash))
        (escape_begins cs)

-- the line is read up to the bytes that are left, as this text
pub record IsReadText (line text left : List ℕ) : Type 0 where
  pub read : with_front text (text_at false left) ≡ text_at false line

-- up to the next quote or backslash
read_plain : (line text left plain now marked : List ℕ) (n : ℕ) → n ≡ position_or_len is_mark left
    → plain ≡ take n left → marked ≡ drop n left → now ≡ text ++ plain → IsReadText line text left
    → IsReadText line now marked × IsMarked marked
read_plain line text left plain now marked n is plain_is marked_is now_is before =
    let split = subst (SplitsAtMark left) (sym is) (splits_at_mark left) in (
      record {
        read =
            ap (λ t. with_front t (text_at false marked)) (now_is ∙ ap (λ p. text ++ p) plain_is)
            ∙ ap (λ m. with_front (text ++ take n left) (text_at false m)) marked_is
            ∙ sym (with_front-append text (take n left) (text_at false (drop n left)))
            ∙ ap (with_front text) (sym split.reads)
            ∙ before.read;
      },
      subst IsMarked (sym marked_is) split.marked,
    )

-- and what stands there
pub record IsFound (line now marked : List ℕ) (found : Option Mark) : Type 0 where
  pub read : IsReadText line now marked
  pub begins : Begins marked found
  pub utf8 : IsUtf8 marked

pub found_at_mark : (line text left plain now marked left_bytes bytes : List ℕ) (n : ℕ)
    (found : Option Mark)
    → left_bytes ≡ left → n ≡ position_or_len is_mark left_bytes → plain ≡ take n left
    → marked ≡ drop n left
    → now ≡ text ++ plain → bytes ≡ marked → IsUtf8 bytes → found ≡ mark_at bytes
    → IsReadText line text left
    → IsFound line now marked found
found_at_mark line text left plain now marked left_bytes bytes n found left_is n_is plain_is
    marked_is now_is is utf8 found_is before =
    let read = read_plain line text left plain now marked n
    (n_is ∙ ap (position_or_len is_mark) left_is) plain_is marked_is now_is before in
    record {
      read = read.0;
      begins = subst (Begins marked) (sym (found_is ∙ ap mark_at is)) (mark_begins marked read.1);
      utf8 = subst IsUtf8 is utf8;
    }

-- where a text may be cut: before the first byte of some ASCII bytes
pub boundary_at_first : (test : ℕ → Bool) → ((c : ℕ) → test c ≡ true → c < 128)
    → (bytes : List ℕ) (n : ℕ)
    → n ≡ position_or_len test bytes → IsCharBoundary bytes n
boundary_at_first test ascii bytes n is = go (cases_lt n (length bytes))
  where
    go : (n < length bytes) ⊎ (length bytes ≤ n) → IsCharBoundary bytes n
    go (inl within) =
        let at_first : test (get_or bytes n 0) ≡ true =
        ap (λ i. test (get_or bytes i 0)) is ∙ passes_at_first test bytes 0 (omega (arith, is)) in
        IsCharBoundary-before_ascii bytes n within (ascii (get_or bytes n 0) at_first)
    go (inr past) =
        let whole : length bytes ≡ n =
        omega (arith, is, prefix_len-le-length (λ c. not (test c)) bytes) in
        subst (IsCharBoundary bytes) whole (IsCharBoundary-end bytes)

pub mark_is_ascii : (c : ℕ) → is_mark c ≡ true → c < 128
mark_is_ascii c mark = grind (arith, nat_tests)

-- up to the closing quote, or the end of an escape
pub read_quote : (line text left : List ℕ) → IsReadText line text left → EndsText left
    → text_at false line ≡ Some (text, drop 1 left)
read_quote line text left before ends =
    sym before.read ∙ ap (with_front text) ends.reads
    ∙ ap (λ (t : List ℕ). Some (t, drop 1 left)) (append-nil text)

pub read_escape : (line text left : List ℕ) (d : ℕ) → IsReadText line text left → IsEscape left d
    → IsReadText line (text ++ d ∷ []) (drop 2 left)
read_escape line text left d before escape = record {
  read =
      sym (with_front-append text (d ∷ []) (text_at false (drop 2 left)))
      ∙ ap (with_front text) (sym escape.reads)
      ∙ before.read;
}

-- where neither stands there is no text
pub read_none : (line text left : List ℕ) → IsReadText line text left → text_at false left ≡ None
    → text_at false line ≡ None
read_none line text left before none = sym before.read ∙ ap (with_front text) none
