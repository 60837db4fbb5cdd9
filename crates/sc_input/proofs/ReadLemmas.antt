-- Reads that put bytes behind others.
use Rattle.std.proofs.Common.{◌≡◌, ◌∙◌, ℕ, ◌+◌, ◌<◌, ◌≤◌, List, ◌++◌, length, take, drop, ap, sym, subst, length-append}
use Rattle.std.proofs.Math.Seq.{take-append_seam, take-append-add, drop-append_seam}
use Rattle.std.proofs.lemmas.List.{take-append-le, length-take-le}
use Rattle.std.specs.Io.KnownBytes.{Consumes}
use Rattle.sc_input.specs.Readers.{ReaderState, GivesSome, AddsBytes}
use borrow.Rule.Slice.PartMut.{put_mid, post_of}

-- what was read into the room behind some bytes, cut to as much as was read
pub read_in_place : (old padded buf : List ℕ) (len k count : ℕ) → length old ≡ len
    → take len padded ≡ old → count ≤ length buf
    → take (len + count) (put_mid len k padded buf) ≡ old ++ take count buf
read_in_place old padded buf len k count long front fits =
    ap (λ xs. take (len + count) (xs ++ (buf ++ post_of len k padded))) front
    ∙ ap (λ n. take (n + count) (old ++ (buf ++ post_of len k padded))) (sym long)
    ∙ take-append-add old (buf ++ post_of len k padded) count
    ∙ ap (λ xs. old ++ xs) (take-append-le count buf (post_of len k padded) fits)

-- what was read stands behind the old bytes
pub AddsBytes-of : (before after : ReaderState) (old new buf : List ℕ) (count : ℕ)
    → new ≡ old ++ take count buf → 0 < length buf → GivesSome before after buf count
    → AddsBytes before after old new count
AddsBytes-of before after old new buf count all room more =
    let part = take count buf in
    record {
      kept = ap (take (length old)) all ∙ take-append_seam old part;
      longer = ap length all ∙ length-append old part
          ∙ ap (λ n. length old + n) (length-take-le count buf more.within);
      taken = subst (Consumes before.left after.left)
          (sym (ap (drop (length old)) all ∙ drop-append_seam old part)) more.given;
      ended = λ none. more.ended none room;
      faults = more.faults;
    }
