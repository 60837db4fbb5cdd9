-- The tokens of a line, as the code reads them: token by token from the left.
use Rattle.std.proofs.Common.{◌≡◌, ◌≢◌, ℕ, ◌<◌, ◌≤◌, max, Bool, true, false, cond, List, [], ◌∷◌, ◌++◌, length, Some, None, refl, ap, sym, ◌∙◌, subst, arith, append_assoc, append-nil, eqb, Err, Bor}
use Rattle.std.proofs.lemmas.Bool.{false≢true, eqb-true}
use Rattle.std.proofs.lemmas.Option.{none-some}
use Rattle.sc_script.proofs.TokenFronts.{token_at_begun, begun_by_read, BeginsWith-shorter}
use Rattle.sc_script.proofs.TokenLemmas.{HasTokens-unique, tokens_exist, misplaced}
use Rattle.sc_script.specs.Lines.{KeepsLimits}
use Rattle.sc_script.specs.Parsing.{EndsEarly, IsTokensFault, AreTokensOf}
use Rattle.sc_script.specs.Limits.{depth_limit, line_limit}
use Rattle.sc_script.specs.Tokens.{TokenData, opening, closing, equals, int_token, text_token, word_token, sign_token, is_blank, begins_with_blank, stands_behind, BeginsWith, HasTokensBehind, HasTokens, at_end, at_no_token, behind_blank, behind_token, depth_of, IsShort, AreShort, IsWithinLimits}
use Rattle.sc_script.specs.TokenReading.{token_at, without_blanks, depth_after, IsShortFront, IsFaultOf, Finds, front_of}
use Rattle.sc_script.specs.declared.tokens.Token.{Token}
use Rattle.sc_script.specs.declared.faults.FaultKind.{FaultKind}
use Rattle.sc_script.specs.declared.faults.FaultKind.TheVariants.{NotText, Limit, Syntax, UnknownName, Twice, IllTyped}
use Rattle.sc_base.specs.declared.refusals.OrMemory.{OrMemory}
use Rattle.sc_base.specs.declared.refusals.OrMemory.TheVariants.{Fault, OutOfMemory}

-- blanks before tokens, where a blank is before them already
has_behind_more : (line rest : List ℕ) (tokens : List TokenData)
    → HasTokensBehind true (without_blanks line) tokens rest → HasTokensBehind true line tokens rest
has_behind_more [] rest tokens has = has
has_behind_more (c ∷ cs) rest tokens has = go (is_blank c) refl (has_behind_more cs rest tokens)
  where
    go : (b : Bool) → is_blank c ≡ b
        → (HasTokensBehind true (without_blanks cs) tokens rest
        → HasTokensBehind true cs tokens rest)
        → HasTokensBehind true (c ∷ cs) tokens rest
    go true blank later =
        let P : Bool → Type 0 = λ b. HasTokensBehind true (cond b (without_blanks cs) (c ∷ cs))
        tokens rest in
        behind_blank true c cs rest tokens blank (later (subst P blank has))
    go false plain later =
        let P : Bool → Type 0 = λ b. HasTokensBehind true (cond b (without_blanks cs) (c ∷ cs))
        tokens rest in
        subst P plain has

-- blanks before tokens, where none is before them
has_behind_blanks : (line rest : List ℕ) (tokens : List TokenData)
    → HasTokensBehind (begins_with_blank line) (without_blanks line) tokens rest
    → HasTokensBehind false line tokens rest
has_behind_blanks [] rest tokens has = has
has_behind_blanks (c ∷ cs) rest tokens has = go (is_blank c) refl
  where
    go : (b : Bool) → is_blank c ≡ b → HasTokensBehind false (c ∷ cs) tokens rest
    go true blank =
        let P : Bool → Type 0 =
        λ b. HasTokensBehind b (cond b (without_blanks cs) (c ∷ cs)) tokens rest in
        behind_blank false c cs rest tokens blank
        (has_behind_more cs rest tokens (subst P blank has))
    go false plain =
        let P : Bool → Type 0 =
        λ b. HasTokensBehind b (cond b (without_blanks cs) (c ∷ cs)) tokens rest in
        subst P plain has

no_blank_left : (line : List ℕ) → begins_with_blank (without_blanks line) ≡ false
no_blank_left [] = refl
no_blank_left (c ∷ cs) = go (is_blank c) refl (no_blank_left cs)
  where
    go : (b : Bool) → is_blank c ≡ b → begins_with_blank (without_blanks cs) ≡ false
        → begins_with_blank (cond (is_blank c) (without_blanks cs) (c ∷ cs)) ≡ false
    go true blank later = rw blank later
    go false plain later = rw plain plain

-- the depth of tokens is no less than where they begin
depth_of-above : (inside : ℕ) (tokens : List TokenData) → inside ≤ depth_of inside tokens
depth_of-above inside [] = omega arith
depth_of-above inside (opening ∷ ts) = omega arith
depth_of-above inside (closing ∷ ts) = omega arith
depth_of-above inside (equals ∷ ts) = depth_of-above inside ts
depth_of-above inside (int_token n ∷ ts) = depth_of-above inside ts
depth_of-above inside (text_token t ∷ ts) = depth_of-above inside ts
depth_of-above inside (word_token w ∷ ts) = depth_of-above inside ts
depth_of-above inside (sign_token s ∷ ts) = depth_of-above inside ts

depth_of-cons : (inside : ℕ) (token : TokenData) (ts : List TokenData)
    → depth_of inside (token ∷ ts) ≡ max inside (depth_of (depth_after inside token) ts)
depth_of-cons inside opening ts = refl
depth_of-cons inside closing ts = refl
depth_of-cons inside equals ts = omega (arith, depth_of-above inside ts)
depth_of-cons inside (int_token n) ts = omega (arith, depth_of-above inside ts)
depth_of-cons inside (text_token t) ts = omega (arith, depth_of-above inside ts)
depth_of-cons inside (word_token w) ts = omega (arith, depth_of-above inside ts)
depth_of-cons inside (sign_token s) ts = omega (arith, depth_of-above inside ts)

-- short tokens one after the other
AreShort-append : (ts us : List TokenData) → AreShort ts → AreShort us → AreShort (ts ++ us)
AreShort-append [] us first second = second
AreShort-append (t ∷ ts) us first second = (first.0, AreShort-append ts us first.1 second)

short_behind : (ts us : List TokenData) → AreShort (ts ++ us) → AreShort us
short_behind [] us all = all
short_behind (t ∷ ts) us all = short_behind ts us all.1

-- the line up to the bytes that are left is these tokens, which keep the limits and lead so deep;
-- a blank is right before the bytes that are left, or none
pub record IsReadTo
    (line : List ℕ) (tokens : List TokenData) (inside : ℕ) (blank : Bool) (left : List ℕ) : Type 0
  where
    pub has : (more : List TokenData) (rest : List ℕ) → HasTokensBehind blank left more rest
        → HasTokens line (tokens ++ more) rest
    pub reaches : (more : List TokenData) → depth_of inside more ≤ depth_of 0 (tokens ++ more)
    pub nested : (more : List TokenData) → depth_of inside more ≤ depth_limit
        → depth_of 0 (tokens ++ more) ≤ depth_limit
    pub shallow : inside ≤ depth_limit
    pub short : AreShort tokens
    pub bytes : length line ≤ line_limit
    pub starts : begins_with_blank left ≡ false

pub read_nothing_yet : (line left : List ℕ) (blank : Bool) → left ≡ without_blanks line
    → blank ≡ begins_with_blank line → length line ≤ line_limit
    → IsReadTo line [] 0 blank left
read_nothing_yet line left blank is behind bytes = record {
  has = λ more rest has. has_behind_blanks line rest more
      (subst (λ b. HasTokensBehind b (without_blanks line) more rest) behind
      (subst (λ l. HasTokensBehind blank l more rest) is has));
  reaches = λ more. omega arith;
  nested = λ more within. within;
  shallow = omega arith;
  short = tt;
  bytes = bytes;
  starts = ap begins_with_blank is ∙ no_blank_left line;
}

pub read_token : (line : List ℕ) (tokens : List TokenData) (inside : ℕ) (blank : Bool)
    (left : List ℕ) (token : TokenData) (after next : List ℕ) (deeper : ℕ) (behind : Bool)
    → IsReadTo line tokens inside blank left → token_at left ≡ Some (token, after)
    → stands_behind blank token ≡ true
    → IsShort token → deeper ≡ depth_after inside token → deeper ≤ depth_limit
    → next ≡ without_blanks after → behind ≡ begins_with_blank after
    → IsReadTo line (tokens ++ token ∷ []) deeper behind next
read_token line tokens inside blank left token after next deeper behind before read stands short
    deeper_is within next_is behind_is = record {
      has = λ more rest has.
          subst (λ ts. HasTokens line ts rest) (sym (append_assoc tokens (token ∷ []) more))
          (before.has (token ∷ more) rest
          (behind_token blank left after rest token more (begun_by_read left token after read)
          stands (has_behind_blanks after rest more
          (subst (λ b. HasTokensBehind b (without_blanks after) more rest) behind_is
          (subst (λ l. HasTokensBehind behind l more rest) next_is has)))));
      reaches = λ more.
          (let cons = depth_of-cons inside token more in
          let whole = ap (depth_of 0) (append_assoc tokens (token ∷ []) more) in
          let same = ap (λ d. depth_of d more) deeper_is in
          omega (arith, cons, whole, same, before.reaches (token ∷ more)));
      nested = λ more enough.
          (let cons = depth_of-cons inside token more in
          let whole = ap (depth_of 0) (append_assoc tokens (token ∷ []) more) in
          let same = ap (λ d. depth_of d more) deeper_is in
          let later : depth_of inside (token ∷ more) ≤ depth_limit =
          omega (arith, cons, same, before.shallow) in
          omega (arith, whole, before.nested (token ∷ more) later));
      shallow = within;
      short = AreShort-append tokens (token ∷ []) before.short (short, tt);
      bytes = before.bytes;
      starts = ap begins_with_blank next_is ∙ no_blank_left after;
    }

-- at the end the tokens are those of the line
pub read_all : (line : List ℕ) (tokens : List TokenData) (inside : ℕ) (blank : Bool)
    (left : List ℕ) → IsReadTo line tokens inside blank left
    → left ≡ [] → HasTokens line tokens [] × IsWithinLimits line tokens
read_all line tokens inside blank left before is =
    let P : List TokenData → Type 0 = λ ts. HasTokens line ts [] × IsWithinLimits line ts in
    subst P (append-nil tokens) (
      before.has [] [] (subst (λ l. HasTokensBehind blank l [] []) (sym is) (at_end blank)),
      record {
        bytes = before.bytes;
        nested = before.nested [] before.shallow;
        short = AreShort-append tokens [] before.short tt;
      },
    )

-- a line with a token next keeps the limits only where its tokens do, that one among them
kept_tokens : (line : List ℕ) (tokens : List TokenData) (inside : ℕ) (blank : Bool) (left : List ℕ)
    (token : TokenData) (after : List ℕ)
    → IsReadTo line tokens inside blank left → token_at left ≡ Some (token, after)
    → stands_behind blank token ≡ true → KeepsLimits line
    → (more : List TokenData) × IsWithinLimits line (tokens ++ token ∷ more)
kept_tokens line tokens inside blank left token after before read stands kept =
    let later = tokens_exist after in
    let has = before.has (token ∷ later.0) later.1
    (behind_token blank left after later.1 token later.0 (begun_by_read left token after read)
    stands later.2) in
    (later.0, subst (IsWithinLimits line) (HasTokens-unique kept.has has).0 kept.within)

pub too_deep : (line : List ℕ) (tokens : List TokenData) (inside : ℕ) (blank : Bool)
    (left : List ℕ) (token : TokenData) (after : List ℕ) (deeper : ℕ)
    → IsReadTo line tokens inside blank left → token_at left ≡ Some (token, after)
    → stands_behind blank token ≡ true
    → deeper ≡ depth_after inside token → depth_limit < deeper
    → KeepsLimits line → ⊥
too_deep line tokens inside blank left token after deeper before read stands deeper_is deep kept =
    let all = kept_tokens line tokens inside blank left token after before read stands kept in
    let cons = depth_of-cons inside token all.0 in
    omega (
      arith,
      cons,
      deeper_is,
      all.1.nested,
      before.reaches (token ∷ all.0),
      depth_of-above
          (depth_after inside token) all.0,
    )

-- a token that isn't short may stand anywhere
long_stands : (blank : Bool) (token : TokenData) → (IsShort token → ⊥)
    → stands_behind blank token ≡ true
long_stands blank opening long = refl
long_stands blank closing long = refl
long_stands blank equals long = absurd (long tt)
long_stands blank (int_token n) long = refl
long_stands blank (text_token t) long = refl
long_stands blank (word_token w) long = refl
long_stands blank (sign_token s) long = refl

not_short : (line : List ℕ) (tokens : List TokenData) (inside : ℕ) (blank : Bool) (left : List ℕ)
    (token : TokenData) (after : List ℕ)
    → IsReadTo line tokens inside blank left → token_at left ≡ Some (token, after)
    → (IsShort token → ⊥) → KeepsLimits line → ⊥
not_short line tokens inside blank left token after before read long kept =
    let stands = long_stands blank token long in
    let all = kept_tokens line tokens inside blank left token after before read stands kept in
    long (short_behind tokens (token ∷ all.0) all.1.short).0

-- where no token stands the tokens so far are all, and the line is longer
ends_here : (line : List ℕ) (tokens : List TokenData) (inside : ℕ) (blank : Bool) (left : List ℕ)
    → IsReadTo line tokens inside blank left → left ≢ []
    → ((token : TokenData) (after : List ℕ) → BeginsWith left token after
    → stands_behind blank token ≡ true → ⊥)
    → EndsEarly line
ends_here line tokens inside blank [] before some none = absurd (some refl)
ends_here line tokens inside blank (c ∷ cs) before some none = record {
  tokens = tokens;
  rest = c ∷ cs;
  has = subst (λ ts. HasTokens line ts (c ∷ cs)) (append-nil tokens)
      (before.has [] (c ∷ cs) (at_no_token blank c cs before.starts none));
  within = subst (IsWithinLimits line) (append-nil tokens) (record {
    bytes = before.bytes;
    nested = before.nested [] before.shallow;
    short = AreShort-append tokens [] before.short tt;
  });
  more = some;
}

no_token : (line : List ℕ) (tokens : List TokenData) (inside : ℕ) (blank : Bool) (left : List ℕ)
    → IsReadTo line tokens inside blank left
    → left ≢ [] → token_at left ≡ None → EndsEarly line
no_token line tokens inside blank left before some none =
    ends_here line tokens inside blank left before some
    (λ token after begins stands. none-some (token, after)
    (sym none ∙ token_at_begun left token after begins))

-- where the token next may not stand the tokens so far are all, and the line is longer
pub out_of_place : (line : List ℕ) (tokens : List TokenData) (inside : ℕ) (blank : Bool)
    (left : List ℕ) (token : TokenData) (after : List ℕ)
    → IsReadTo line tokens inside blank left → left ≢ [] → token_at left ≡ Some (token, after)
    → stands_behind blank token ≡ false → EndsEarly line
out_of_place line tokens inside blank left token after before some read out =
    ends_here line tokens inside blank left before some
    (misplaced blank left token after (begun_by_read left token after read) out)

-- the fault of a token is that of the line
pub refused : (line : List ℕ) (tokens : List TokenData) (inside : ℕ) (blank : Bool)
    (left : List ℕ) (kind : FaultKind)
    → IsReadTo line tokens inside blank left → left ≢ []
    → IsFaultOf IsShortFront kind (token_at left)
    → IsTokensFault line kind
refused line tokens inside blank left NotText before some fault = fault
refused line tokens inside blank left Limit before some fault =
    not_short line tokens inside blank left fault.0.0 fault.0.1 before fault.1 fault.2
refused line tokens inside blank left Syntax before some fault =
    no_token line tokens inside blank left before some fault
refused line tokens inside blank left UnknownName before some fault = fault
refused line tokens inside blank left Twice before some fault = fault
refused line tokens inside blank left IllTyped before some fault = fault

pub refused_by : (error : OrMemory FaultKind) (line : List ℕ) (tokens : List TokenData)
    (inside : ℕ) (blank : Bool) (left : List ℕ)
    → IsReadTo line tokens inside blank left → left ≢ []
    → Finds {X = Token × Bor (List ℕ)} front_of IsShortFront (Err error) (token_at left)
    → AreTokensOf line (Err error)
refused_by (Fault kind) line tokens inside blank left before some fault =
    refused line tokens inside blank left kind before some fault
refused_by OutOfMemory line tokens inside blank left before some fault = tt

-- whether bytes are left
pub none_left : (left : List ℕ) → eqb (length left) 0 ≡ true → left ≡ []
none_left [] none = refl
none_left (c ∷ cs) none = absurd (omega (arith, eqb-true (length (c ∷ cs)) 0 none))

pub some_left : (left : List ℕ) → eqb (length left) 0 ≡ false → left ≢ []
some_left left some is = false≢true (sym some ∙ ap (λ l. eqb (length l) 0) is)

-- fewer are left behind a token
length-without_blanks : (line : List ℕ) → length (without_blanks line) ≤ length line
length-without_blanks [] = omega arith
length-without_blanks (c ∷ cs) = go (is_blank c) refl (length-without_blanks cs)
  where
    go : (b : Bool) → is_blank c ≡ b → length (without_blanks cs) ≤ length cs
        → length (cond (is_blank c) (without_blanks cs) (c ∷ cs)) ≤ length (c ∷ cs)
    go true blank later = rw blank (omega (arith, later))
    go false plain later = rw plain (omega arith)

pub fewer_left : (left : List ℕ) (token : TokenData) (after next : List ℕ)
    → token_at left ≡ Some (token, after)
    → next ≡ without_blanks after → length next < length left
fewer_left left token after next read is =
    omega (
      arith,
      ap length is,
      length-without_blanks after,
      BeginsWith-shorter left token after
          (begun_by_read left token after read),
    )
