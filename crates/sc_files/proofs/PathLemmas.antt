-- Paths that are read from one end.
use Rattle.std.proofs.Common.{◌≡◌, ◌∙◌, ℕ, zero, suc, ◌<◌, false, length, take, drop, get_or, arith, not-suc-le-zero, [], ◌∷◌, refl, ap}
use Rattle.std.specs.Prelude.{Some, None}
use Rattle.sc_base.specs.Trees.{Path, dir_part, dir_step, lies_under}

-- the last slash of a path ends its directory
pub dir_part-slash : (path : Path) (k : ℕ) → k < length path → get_or path k 0 ≡ 47
    → dir_part (drop (suc k) path) ≡ None → dir_part path ≡ Some (take k path)
dir_part-slash [] k within is none = absurd (not-suc-le-zero within)
dir_part-slash (c ∷ path) zero within is none =
    ap (dir_step c) none ∙ ap (λ b. dir_step b None) is
dir_part-slash (c ∷ path) (suc k) within is none =
    ap (dir_step c) (dir_part-slash path k (omega (arith, within)) is none)

-- no path of no bytes lies under a directory that has some
pub lies_under-short : (dir : Path) (k : ℕ) → k < length dir → lies_under (drop k dir) [] ≡ false
lies_under-short [] k within = absurd (not-suc-le-zero within)
lies_under-short (d ∷ dir) zero within = refl
lies_under-short (d ∷ dir) (suc k) within = lies_under-short dir k (omega (arith, within))

pub empty-of : (path : Path) → length path ≡ 0 → path ≡ []
empty-of [] none = refl
empty-of (c ∷ path) none = absurd (omega (arith, none))
