-- Texts of one code are the same, and how a code is made of bytes.
use Rattle.std.proofs.Common.{◌≡◌, ◌∙◌, ◌+◌, ◌*◌, ◌/◌, ◌^◌, ◌<◌, ◌≤◌, ◌-◌, ℕ, zero, suc, List, [], ◌∷◌, ◌++◌, bytes_eq, drop, get_or, length, nat_eq, refl, ap, ap₂, sym, subst, arith, take, ◌&&◌, Bool}
use Rattle.std.proofs.lemmas.Bool.Decides.{Decides-and, Decides-eqb, Decides-like, same_from_decides}
use Rattle.std.proofs.lemmas.List.{drop-drop, length-drop, take-append-drop, take_all}
use Rattle.std.proofs.lemmas.List.Elements.{All-from_get_or, recursion_from_All}
use Rattle.std.proofs.lemmas.Nat.{shr-shr}
use Rattle.std.proofs.lemmas.Slice.Eq.{bytes_eq-Decides}
use Rattle.sc_keys.specs.Codes.{AreBytes, code, code_and_rest, number_of}

-- texts whose first bytes are bytes
abbrev pub Begins : List ℕ → Type 0
Begins text = AreBytes (take 15 text)

pub are_bytes : (bytes : List ℕ) → ((i : ℕ) → get_or bytes i 0 < 256) → AreBytes bytes
are_bytes bytes each =
    recursion_from_All (λ b. b < 256) bytes
    (All-from_get_or (λ b. b < 256) bytes 0 (λ i within. each i))

pub bytes_drop : (k : ℕ) (bytes : List ℕ) → AreBytes bytes → AreBytes (drop k bytes)
bytes_drop zero bytes all = all
bytes_drop (suc k) [] all = all
bytes_drop (suc k) (b ∷ bytes) all = bytes_drop k bytes all.1

code_above : (bytes : List ℕ) → 0 < code bytes
code_above [] = omega arith
code_above (b ∷ bytes) = let above = code_above bytes in omega (arith, above)

same_parts : (a b m n : ℕ) → a < 256 → b < 256 → a + 256 * m ≡ b + 256 * n → (a ≡ b) × (m ≡ n)
same_parts a b m n low less is = (omega (arith, is, low, less), omega (arith, is, low, less))

one_text : (s t : List ℕ) → AreBytes s → AreBytes t → code s ≡ code t → s ≡ t
one_text [] [] p q is = refl
one_text [] (y ∷ ys) p q is = let above = code_above ys in absurd (omega (arith, is, above))
one_text (x ∷ xs) [] p q is = let above = code_above xs in absurd (omega (arith, is, above))
one_text (x ∷ xs) (y ∷ ys) p q is =
    let parts = same_parts x y (code xs) (code ys) p.0 q.0 is in
    ap₂ (λ b bs. b ∷ bs) parts.0 (one_text xs ys p.1 q.1 parts.1)

-- texts are the same where their codes are
pub codes_tell : (s t : List ℕ) → AreBytes s → AreBytes t
    → nat_eq (code s) (code t) ≡ bytes_eq s t
codes_tell s t p q =
    same_from_decides (nat_eq (code s) (code t)) (bytes_eq s t)
    (Decides-like (nat_eq (code s) (code t)) (one_text s t p q) (ap code)
    (Decides-eqb (code s) (code t)))
    (bytes_eq-Decides s t)

-- whether two codes with their rests are the same
abbrev pub same_coded : ℕ × List ℕ → ℕ × List ℕ → Bool
same_coded a b = nat_eq a.0 b.0 && bytes_eq a.1 b.1

-- texts are the same where their codes and rests are
pub codes_and_rests_tell : (s t : List ℕ) → Begins s → Begins t
    → same_coded (code_and_rest s) (code_and_rest t) ≡ bytes_eq s t
codes_and_rests_tell s t p q =
    let fronts = nat_eq (code (take 15 s)) (code (take 15 t)) in
    let rests = bytes_eq (drop 15 s) (drop 15 t) in
    same_from_decides (fronts && rests) (bytes_eq s t)
    (Decides-like (fronts && rests)
    (λ e. sym (take-append-drop 15 s)
    ∙ ap₂ (λ a b. a ++ b) (one_text (take 15 s) (take 15 t) p q e.0) e.1
    ∙ take-append-drop 15 t)
    (λ e. (ap (λ u. code (take 15 u)) e, ap (drop 15) e))
    (Decides-and fronts rests (Decides-eqb (code (take 15 s)) (code (take 15 t)))
    (bytes_eq-Decides (drop 15 s) (drop 15 t))))
    (bytes_eq-Decides s t)

-- codes of so many bytes are below twice this
abbrev pub room : ℕ → ℕ
room zero = 1
room (suc n) = 256 * room n

room_grows : (n k : ℕ) → room n ≤ room (k + n)
room_grows n zero =
    let e : zero + n ≡ n = omega arith in subst (λ m. room n ≤ room m) (sym e) (omega arith)
room_grows n (suc k) =
    let e : suc k + n ≡ suc (k + n) = omega arith in
    let less = room_grows n k in
    subst (λ m. room n ≤ room m) (sym e) (omega (arith, less))

code_below : (bytes : List ℕ) → AreBytes bytes → code bytes < 2 * room (length bytes)
code_below [] all = omega arith
code_below (b ∷ bytes) all =
    let below = code_below bytes all.1 in
    let low = all.0 in
    omega (arith, below, low)

-- codes of at most so many bytes
pub code_few : (n : ℕ) (bytes : List ℕ) → length bytes ≤ n → AreBytes bytes
    → code bytes < 2 * room n
code_few n bytes few all =
    let e : n - length bytes + length bytes ≡ n = omega arith in
    let up : room (length bytes) ≤ room n =
    subst (λ m. room (length bytes) ≤ room m) e (room_grows (length bytes) (n - length bytes)) in
    let below = code_below bytes all in
    omega (arith, up, below)

code_parts : (bytes : List ℕ) → code bytes ≡ room (length bytes) + number_of bytes
code_parts [] = refl
code_parts (b ∷ bytes) = let parts = code_parts bytes in omega (arith, parts)

-- without its first bytes a text has the higher digits of its code
code_shift : (k : ℕ) (bytes : List ℕ) → k ≤ length bytes → AreBytes bytes
    → code bytes / 2 ^ (8 * k) ≡ code (drop k bytes)
code_shift zero bytes within all = omega arith
code_shift (suc k) [] within all = absurd (omega (arith, within))
code_shift (suc k) (b ∷ bytes) within all =
    let low = all.0 in
    let e : 8 * suc k ≡ 8 + 8 * k = omega arith in
    let first : (b + 256 * code bytes) / 2 ^ 8 ≡ code bytes = omega (arith, low) in
    ap (λ n. (b + 256 * code bytes) / 2 ^ n) e
    ∙ sym (shr-shr (b + 256 * code bytes) 8 (8 * k))
    ∙ ap (λ n. n / 2 ^ (8 * k)) first
    ∙ code_shift k bytes (omega (arith, within)) all.1

-- the last bytes of a text without those that come first anyway
pub behind_first : (k : ℕ) (bytes : List ℕ) (last : ℕ) → k ≤ length bytes
    → length bytes ≤ k + k → AreBytes bytes
    → last ≡ number_of (take k (drop (length bytes - k) bytes))
    → (room k + last) / 2 ^ (8 * (k + k - length bytes)) ≡ code (drop k bytes)
behind_first k bytes last within few all is =
    let n = length bytes in
    let tail = drop (n - k) bytes in
    let long : length tail ≡ k =
    let from : n - (n - k) ≡ k = omega (arith, within) in length-drop (n - k) bytes ∙ from in
    let whole : take k tail ≡ tail = take_all k tail (omega (arith, long)) in
    let all_last : room k + last ≡ code tail =
    ap₂ (λ m x. room m + x) (sym long) (is ∙ ap number_of whole) ∙ sym (code_parts tail) in
    let reach : n - k + (k + k - n) ≡ k = omega (arith, within, few) in
    ap (λ x. x / 2 ^ (8 * (k + k - n))) all_last
    ∙ code_shift (k + k - n) tail (omega (arith, within, long)) (bytes_drop (n - k) bytes all)
    ∙ ap code (drop-drop (k + k - n) (n - k) bytes ∙ ap (λ m. drop m bytes) reach)

pub four_first : (bytes : List ℕ) → 4 ≤ length bytes
    → code (drop 4 bytes) * 4294967296 + number_of (take 4 bytes) ≡ code bytes
four_first [] within = absurd (omega (arith, within))
four_first (a ∷ []) within = absurd (omega (arith, within))
four_first (a ∷ b ∷ []) within = absurd (omega (arith, within))
four_first (a ∷ b ∷ c ∷ []) within = absurd (omega (arith, within))
four_first (a ∷ b ∷ c ∷ d ∷ bytes) within = omega arith

pub eight_first : (bytes : List ℕ) → 8 ≤ length bytes
    → code (drop 8 bytes) * 18446744073709551616 + number_of (take 8 bytes) ≡ code bytes
eight_first [] within = absurd (omega (arith, within))
eight_first (a ∷ []) within = absurd (omega (arith, within))
eight_first (a ∷ b ∷ []) within = absurd (omega (arith, within))
eight_first (a ∷ b ∷ c ∷ []) within = absurd (omega (arith, within))
eight_first (a ∷ b ∷ c ∷ d ∷ bytes) within =
    let rest = four_first bytes (omega (arith, within)) in omega (arith, rest)
