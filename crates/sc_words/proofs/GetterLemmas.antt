-- What the getters read.
use Rattle.std.proofs.Common.{◌≡◌, ◌&&◌, ap, sym, ℕ, Bool, true, false, refl, List, [], ◌∷◌, length, Option, Some, None, Result, Ok, Err, bytes_eq, codes, nat_lt, lt-ltb, ltb-true}
use Rattle.std.proofs.lemmas.Slice.Eq.{bytes_eq-Decides}
use Rattle.std.specs.List.{list_all}
use Rattle.std.specs.Option.{option_map, option_map_or, unwrap_or}
use Rattle.std.specs.Prelude.{option_and_then}
use Rattle.std.specs.Borrow.{Bor}
use Rattle.std.specs.Char.{digit_value}
use Rattle.std.specs.Str.Parse.{AllDigits, ParsesBool, ParsesUnsigned, digits_value, without_leading_plus}
use Rattle.clap.specs.ValueTests.{is_numeral}
use Rattle.clap.specs.Words.{Text}
use Rattle.clap.specs.Matches.{ReadsOne}
use Rattle.clap.proofs.WalkLemmas.{both}
use Rattle.sc_words.specs.Words.{number_of}

digits_pass : (ds : List ℕ) → AllDigits 10 ds → list_all (λ d. nat_lt (digit_value d) 10) ds ≡ true
digits_pass [] h = refl
digits_pass (d ∷ ds) h = rw (lt-ltb (digit_value d) 10 h.0) (digits_pass ds h.1)

digits_from : (ds : List ℕ) → list_all (λ d. nat_lt (digit_value d) 10) ds ≡ true → AllDigits 10 ds
digits_from [] e = tt
digits_from (d ∷ ds) e =
    let parts = both _ _ e in
    (ltb-true _ _ parts.0, digits_from ds parts.1)

abbrev fits : Text → Bool
fits ds = is_numeral ds && nat_lt (digits_value 10 ds) 4294967296

-- what a number of 32 bits is read from
abbrev ok_of : {E : Type 0} → Result ℕ E → Option ℕ
ok_of (Ok n) = Some n
ok_of (Err e) = None

parsed : {E : Type 0} (text : Text) (r : Result ℕ E) → ParsesUnsigned 32 10 text r
    → ok_of r ≡ number_of text
parsed text (Ok n) h =
    let ds = without_leading_plus text in
    rw (
      lt-ltb 0 (length ds) h.0.0.0,
      digits_pass ds h.0.0.1,
      lt-ltb (digits_value 10 ds) 4294967296 h.0.1,
    ) (ap Some h.1)
parsed text (Err e) h = go (fits (without_leading_plus text)) refl
  where
    go : (b : Bool) → fits (without_leading_plus text) ≡ b → None ≡ number_of text
    go false t = rw t refl
    go true t =
        let outer = both _ _ t in
        let inner = both _ _ outer.0 in
        absurd (h (
          (ltb-true _ _ inner.0, digits_from (without_leading_plus text) inner.1),
          ltb-true _ _ outer.1,
        ))

-- the number that a getter reads, by the text that it has
pub number_read : {E : Type 0} (G : List ℕ → Result ℕ E → Type 0) (o : Option Text) (r : Option ℕ)
    → ((u : List ℕ) (x : Result ℕ E) → G u x → ParsesUnsigned 32 10 u x)
    → ((o ≡ None) → (r ≡ None)) → ((t : List ℕ) → (o ≡ Some t) → ReadsOne G t r)
    → r ≡ option_and_then number_of o
number_read G None r only none some = none refl
number_read {E} G (Some t) (Some n) only none some =
    let r : Result ℕ E = Ok n in parsed t r (only t r (some t refl))
number_read {E} G (Some t) None only none some =
    let h = some t refl in
    let r : Result ℕ E = Err h.0 in
    parsed t r (only t r h.1)

-- whether a text that a getter reads as a truth value is `true`
flag_in : (E : Type 0) (text : Text) (r : Option Bool)
    → ReadsOne {T = Bool} {E = E} ParsesBool text r
    → unwrap_or r false ≡ bytes_eq (codes "true") text
flag_in E text (Some true) h = sym ((bytes_eq-Decides (codes "true") text).1 (sym h))
flag_in E text (Some false) h = rw h refl
flag_in E text None h = go (bytes_eq (codes "true") text) refl
  where
    go : (b : Bool) → bytes_eq (codes "true") text ≡ b → false ≡ bytes_eq (codes "true") text
    go false e = sym e
    go true e = absurd (h.1.0 (sym ((bytes_eq-Decides (codes "true") text).0 e)))

-- the flag that a getter reads, by the text that it has
pub flag_read : (E : Type 0) (o : Option Text) (r : Option Bool) → ((o ≡ None) → (r ≡ None))
    → ((t : List ℕ) → (o ≡ Some t) → ReadsOne {T = Bool} {E = E} ParsesBool t r)
    → unwrap_or r false ≡ option_map_or (bytes_eq (codes "true")) o false
flag_read E None r none some = ap (λ (q : Option Bool). unwrap_or q false) (none refl)
flag_read E (Some t) r none some = flag_in E t r (some t refl)

-- a text, or the empty one
pub text_or_empty : (o : Option (Bor Text)) (d : Bor Text) → d.now ≡ []
    → (unwrap_or o d).now ≡ unwrap_or (option_map (λ s. s.now) o) []
text_or_empty None d e = e
text_or_empty (Some t) d e = refl
