-- Files and directories that are looked up after a change.
use Rattle.std.proofs.Common.{◌≡◌, ◌≢◌, ◌∙◌, ◌&&◌, ◌||◌, Bool, true, false, cond, not, [], refl, ap, sym}
use Rattle.std.specs.Prelude.{Some, None}
use Rattle.std.specs.Option.{unwrap_or}
use Rattle.std.specs.Ordering.{nat_cmp, eq_by_cmp}
use Rattle.std.specs.Cmp.Lexicographic.{slice_cmp, nat_list_cmp_total}
use Rattle.std.specs.FinMap as maps
use Rattle.std.specs.FinMap.{slice_cmp-IsAntisymmetric, nat_cmp-IsAntisymmetric}
use Rattle.std.specs.FinSet as sets
use Rattle.std.proofs.lemmas.Map.Text.{is_eq-slice_cmp}
use Rattle.std.proofs.lemmas.Slice.Eq.{bytes_eq-Decides}
use Rattle.sc_base.specs.Trees.{Tree, Path, file_at, has_dir, is_in, lies_under, moved, with_dir, with_file, without_file, without_tree}

-- paths are ordered by their bytes, and tie exactly where they are equal
pub by_bytes : maps.IsAntisymmetric (slice_cmp nat_cmp)
by_bytes = slice_cmp-IsAntisymmetric nat_cmp-IsAntisymmetric

pub ties-same : (q k : Path) → eq_by_cmp (slice_cmp nat_cmp) q k ≡ true → q ≡ k
ties-same q k tie = (bytes_eq-Decides q k).0 (sym (is_eq-slice_cmp q k) ∙ tie)

pub ties-itself : (q : Path) → eq_by_cmp (slice_cmp nat_cmp) q q ≡ true
ties-itself q = is_eq-slice_cmp q q ∙ (bytes_eq-Decides q q).1 refl

apart_by : (q k : Path) (b : Bool) → q ≢ k → eq_by_cmp (slice_cmp nat_cmp) q k ≡ b
    → eq_by_cmp (slice_cmp nat_cmp) q k ≡ false
apart_by q k true apart is = absurd (apart (ties-same q k is))
apart_by q k false apart is = is

pub ties-other : (q k : Path) → q ≢ k → eq_by_cmp (slice_cmp nat_cmp) q k ≡ false
ties-other q k apart = apart_by q k (eq_by_cmp (slice_cmp nat_cmp) q k) apart refl

-- after a directory was made
pub has_dir-with_dir : (t : Tree) (dir : Path) → has_dir (with_dir t dir) dir ≡ true
has_dir-with_dir t dir =
    sets.contains-insert nat_list_cmp_total t.dirs dir dir
    ∙ ap (λ b. b || has_dir t dir) (ties-itself dir)

pub has_dir-with_dir_other : (t : Tree) (dir q : Path) → q ≢ dir
    → has_dir (with_dir t dir) q ≡ has_dir t q
has_dir-with_dir_other t dir q apart =
    sets.contains-insert nat_list_cmp_total t.dirs dir q
    ∙ ap (λ b. b || has_dir t q) (ties-other q dir apart)

-- after a file was written
pub file_at-with_file : (t : Tree) (path bytes : Path)
    → file_at (with_file t path bytes) path ≡ Some bytes
file_at-with_file t path bytes =
    maps.get-insert nat_list_cmp_total t.files path bytes path
    ∙ ap (λ b. cond b (Some bytes) (file_at t path)) (ties-itself path)

pub file_at-with_file_other : (t : Tree) (path bytes q : Path) → q ≢ path
    → file_at (with_file t path bytes) q ≡ file_at t q
file_at-with_file_other t path bytes q apart =
    maps.get-insert nat_list_cmp_total t.files path bytes q
    ∙ ap (λ b. cond b (Some bytes) (file_at t q)) (ties-other q path apart)

-- after a file was removed
pub file_at-without_file_other : (t : Tree) (path q : Path) → q ≢ path
    → file_at (without_file t path) q ≡ file_at t q
file_at-without_file_other t path q apart =
    maps.get-remove nat_list_cmp_total t.files path q
    ∙ ap (λ b. cond b None (file_at t q)) (ties-other q path apart)

-- after the file of one path was put at another one
pub file_at-moved : (t : Tree) (from to bytes : Path) → file_at t from ≡ Some bytes
    → file_at (moved t from to) to ≡ Some bytes
file_at-moved t from to bytes is =
    file_at-with_file (without_file t from) to (unwrap_or (file_at t from) [])
    ∙ ap (λ o. Some (unwrap_or o [])) is

pub file_at-moved_other : (t : Tree) (from to q : Path) → q ≢ to → q ≢ from
    → file_at (moved t from to) q ≡ file_at t q
file_at-moved_other t from to q apart apart' =
    file_at-with_file_other (without_file t from) to (unwrap_or (file_at t from) []) q apart
    ∙ file_at-without_file_other t from q apart'

-- after a directory was removed with all that lay under it
pub file_at-without_tree : (t : Tree) (dir q : Path)
    → file_at (without_tree t dir) q ≡ cond (not (lies_under dir q)) (file_at t q) None
file_at-without_tree t dir q =
    maps.get-retain_keys t.files (λ k. not (lies_under dir k)) q
    (λ x tie. ap (λ k. not (lies_under dir k)) (sym (by_bytes q x tie)))

pub has_dir-without_tree : (t : Tree) (dir q : Path)
    → has_dir (without_tree t dir) q ≡ (has_dir t q && not (is_in dir q))
has_dir-without_tree t dir q =
    sets.contains-retain t.dirs (λ k. not (is_in dir k)) q
    (λ x tie. ap (λ k. not (is_in dir k)) (sym (by_bytes q x tie)))
