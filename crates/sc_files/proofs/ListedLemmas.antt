-- Lists of names and of files, as the sets and maps that they make.
use Rattle.std.proofs.Common.{◌≡◌, ◌∙◌, ℕ, Bool, true, false, cond, not, ◌&&◌, List, [], ◌∷◌, ◌++◌, filter, refl, ap, sym, bytes_eq}
use Rattle.std.specs.Prelude.{Option, Some, None}
use Rattle.std.specs.List.{list_any}
use Rattle.std.specs.Ordering.{nat_cmp, eq_by_cmp}
use Rattle.std.specs.Cmp.Lexicographic.{slice_cmp, nat_list_cmp_total, nat_list_eq_equiv}
use Rattle.std.specs.FinMap as maps
use Rattle.std.specs.FinMap.Entries.{find-where_key}
use Rattle.std.specs.FinSet as sets
use Rattle.std.proofs.lemmas.Map.Text.{is_eq-slice_cmp}
use Rattle.std.proofs.lemmas.Map.Views.{any-filter_same}
use Rattle.sc_base.specs.Lists.{content_of}
use Rattle.sc_base.specs.Trees.{Path, FileMap}
use Rattle.sc_base.proofs.TreeLemmas.{by_bytes, ties-same, ties-itself}
use Rattle.sc_files.specs.Listed.{dirs_in, files_in}

-- whether two paths tie in the order of their bytes
abbrev tie : Path → Path → Bool
tie = eq_by_cmp (slice_cmp nat_cmp)

bytes_eq-tie : (q k : Path) → bytes_eq q k ≡ tie q k
bytes_eq-tie q k = sym (is_eq-slice_cmp q k)

-- ---- directories

pub dirs_in_push : (dirs : List Path) (dir : Path)
    → dirs_in (dirs ++ dir ∷ []) ≡ sets.insert (dirs_in dirs) dir
dirs_in_push dirs dir = sets.from_list_push nat_list_cmp_total by_bytes dirs dir

pub any_is_contains : (dirs : List Path) (dir : Path)
    → list_any (bytes_eq dir) dirs ≡ sets.contains (dirs_in dirs) dir
any_is_contains dirs dir =
    (λ i. list_any (λ k. bytes_eq-tie dir k i) dirs)
    ∙ sym (sets.contains-from_list nat_list_cmp_total dirs dir)

and-swap : (a b : Bool) → (a && b) ≡ (b && a)
and-swap true true = refl
and-swap true false = refl
and-swap false true = refl
and-swap false false = refl

-- the directories that pass a test
pub dirs_in-filter : (p : Path → Bool) (dirs : List Path)
    → dirs_in (filter p dirs) ≡ sets.retain (dirs_in dirs) p
dirs_in-filter p dirs =
    sets.same_set nat_list_cmp_total by_bytes _ _ (λ q.
    sets.contains-from_list nat_list_cmp_total (filter p dirs) q
    ∙ any-filter_same (tie q) p (p q) (λ k e. ap p (sym (ties-same q k e))) dirs
    ∙ and-swap (p q) (list_any (tie q) dirs)
    ∙ ap (λ b. b && p q) (sym (sets.contains-from_list nat_list_cmp_total dirs q))
    ∙ sym (sets.contains-retain (dirs_in dirs) p q (λ x e. ap p (sym (by_bytes q x e)))))

-- ---- files

-- the files whose paths pass a test
pub files_in-filter : (p : Path → Bool) (entries : List (Path × List ℕ))
    → files_in (filter (λ entry. p entry.0) entries) ≡ maps.retain_keys (files_in entries) p
files_in-filter p entries =
    maps.same_map nat_list_cmp_total by_bytes _ _ (λ q.
    maps.get-from_entries nat_list_cmp_total (filter (λ entry. p entry.0) entries) q
    ∙ find-where_key (slice_cmp nat_cmp) p q (λ x e. ap p (sym (by_bytes q x e))) entries
    ∙ ap (λ found. cond (p q) found None) (sym (maps.get-from_entries nat_list_cmp_total entries q))
    ∙ sym (maps.get-retain_keys (files_in entries) p q (λ x e. ap p (sym (by_bytes q x e)))))

cond-not : (b : Bool) (found : Option (List ℕ)) → cond (not b) found None ≡ cond b None found
cond-not true found = refl
cond-not false found = refl

-- the files but for the one of a path
pub files_in-without : (path : Path) (entries : List (Path × List ℕ))
    → files_in (filter (λ entry. not (bytes_eq entry.0 path)) entries)
    ≡ maps.remove (files_in entries) path
files_in-without path entries =
    let others : Path → Bool = λ k. not (bytes_eq k path) in
    files_in-filter others entries
    ∙ maps.same_map nat_list_cmp_total by_bytes _ _ (λ q.
    maps.get-retain_keys (files_in entries) others q (λ x e. ap others (sym (by_bytes q x e)))
    ∙ cond-not (bytes_eq q path) (maps.get (files_in entries) q)
    ∙ ap (λ b. cond b None (maps.get (files_in entries) q)) (bytes_eq-tie q path)
    ∙ sym (maps.get-remove nat_list_cmp_total (files_in entries) path q))

cond-cond : (b : Bool) (bytes : List ℕ) (found : Option (List ℕ))
    → cond b (Some bytes) (cond b None found) ≡ cond b (Some bytes) found
cond-cond true bytes found = refl
cond-cond false bytes found = refl

-- a file behind those of other paths
pub files_in-put : (path bytes : Path) (old others : List (Path × List ℕ))
    → files_in others ≡ maps.remove (files_in old) path
    → files_in (others ++ (path, bytes) ∷ []) ≡ maps.insert (files_in old) path bytes
files_in-put path bytes old others are =
    maps.from_entries_push nat_list_cmp_total by_bytes others path bytes none
    ∙ maps.same_map nat_list_cmp_total by_bytes _ _ (λ q.
    maps.get-insert nat_list_cmp_total (files_in others) path bytes q
    ∙ ap (cond (tie q path) (Some bytes)) (gone q)
    ∙ cond-cond (tie q path) bytes (maps.get (files_in old) q)
    ∙ sym (maps.get-insert nat_list_cmp_total (files_in old) path bytes q))
  where
    gone : (q : Path)
        → maps.get (files_in others) q ≡ cond (tie q path) None (maps.get (files_in old) q)
    gone q =
        ap (λ (files : FileMap). maps.get files q) are
        ∙ maps.get-remove nat_list_cmp_total (files_in old) path q

    none : maps.find (slice_cmp nat_cmp) path others ≡ None
    none =
        sym (maps.get-from_entries nat_list_cmp_total others path) ∙ gone path
        ∙ ap (λ b. cond b None (maps.get (files_in old) path)) (ties-itself path)

content_of-find : (entries : List (Path × List ℕ)) (path : Path)
    → content_of entries path ≡ maps.find (slice_cmp nat_cmp) path entries
content_of-find [] path = refl
content_of-find (entry ∷ entries) path =
    ap (λ b. cond b (Some entry.1) (content_of entries path))
    (nat_list_eq_equiv.symm entry.0 path ∙ bytes_eq-tie path entry.0)
    ∙ ap (cond (tie path entry.0) (Some entry.1)) (content_of-find entries path)

pub content_is_get : (entries : List (Path × List ℕ)) (path : Path)
    → content_of entries path ≡ maps.get (files_in entries) path
content_is_get entries path =
    content_of-find entries path ∙ sym (maps.get-from_entries nat_list_cmp_total entries path)
