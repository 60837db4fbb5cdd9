-- The hash over the units of characters.
use Rattle.std.proofs.Common.{◌≡◌, ◌∙◌, ℕ, ◌<◌, ◌≤◌, pos, List, [], ◌∷◌, ◌++◌, refl, ap, sym, arith, length, take, subst}
use Rattle.std.specs.Char.Escape.{encode_utf16}
use Rattle.std.specs.List.{All, flat_map}
use Rattle.std.specs.Str.{IsAscii}
use Rattle.std.proofs.lemmas.Str.{chars-IsAscii}
use Rattle.std.proofs.lemmas.Str.Ascii.{All-from_ascii}
use Rattle.std.proofs.lemmas.List.{take_all}
use Rattle.std.proofs.lemmas.List.Elements.{All-head, All-tail}
use Rattle.std.proofs.lemmas.Bool.Decides.{nat_tests}
use Rattle.sc_hash.specs.Hashes.{with_units, hash_of_text}

one_unit : (c : ℕ) → c < 0x1_0000 → encode_utf16 c ≡ c ∷ []
one_unit c h = grind (arith, nat_tests)

-- bytes below 128 are the units of their characters
units-bytes : (bs : List ℕ) → All (λ b. b < 128) bs → flat_map encode_utf16 bs ≡ bs
units-bytes [] all = refl
units-bytes (b ∷ bs) all =
    let below : b < 128 = All-head (λ b. b < 128) b bs all in
    ap (λ us. us ++ flat_map encode_utf16 bs) (one_unit b (omega arith))
    ∙ ap (λ us. b ∷ us) (units-bytes bs (All-tail (λ b. b < 128) b bs all))

hash_of_text-ascii : (bs : List ℕ) → IsAscii bs → with_units (pos 0) bs ≡ hash_of_text bs
hash_of_text-ascii bs h =
    let units = units-bytes bs (All-from_ascii bs h) in
    sym (ap (λ cs. with_units (pos 0) (flat_map encode_utf16 cs)) (chars-IsAscii bs h)
    ∙ ap (with_units (pos 0)) units)

-- a loop over the bytes has seen all of them
pub hash_of_all : (bs : List ℕ) (i : ℕ) → length bs ≤ i → IsAscii (take i bs)
    → with_units (pos 0) (take i bs) ≡ hash_of_text bs
hash_of_all bs i past h =
    let all = take_all i bs past in
    ap (with_units (pos 0)) all ∙ hash_of_text-ascii bs (subst IsAscii all h)
