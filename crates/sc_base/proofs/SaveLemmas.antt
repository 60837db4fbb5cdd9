-- A save leaves other directories apart.
use Rattle.std.proofs.Common.{◌≡◌, ◌≢◌, ◌∙◌, ℕ, suc, ◌||◌, true, false, true≢false, cond, List, [], ◌∷◌, ◌++◌, refl, ap, sym}
use Rattle.std.specs.Prelude.{codes, Some}
use Rattle.std.specs.Cmp.Lexicographic.{nat_list_cmp_total}
use Rattle.std.specs.FinMap as maps
use Rattle.std.specs.FinSet as sets
use Rattle.sc_base.specs.Saves.{SavesKeepApart, final_path, five_digits, success_path, with_parts}
use Rattle.sc_base.specs.Trees.{Path, FileMap, has_dir, lies_under}
use Rattle.sc_base.proofs.ApartLemmas.{none_under_both}
use Rattle.sc_base.proofs.PathLemmas.{lies_under-child}
use Rattle.sc_base.proofs.TreeLemmas.{ties-other}

-- a path outside a directory is none under it
pub outside-not : (dir q path : Path) → lies_under dir q ≡ false → lies_under dir path ≡ true
    → q ≢ path
outside-not dir q path out under e =
    true≢false (sym under ∙ sym (ap (lies_under dir) e) ∙ out)

insert-other : (files : FileMap) (path bytes q : Path) → q ≢ path
    → maps.get (maps.insert files path bytes) q ≡ maps.get files q
insert-other files path bytes q apart =
    maps.get-insert nat_list_cmp_total files path bytes q
    ∙ ap (λ b. cond b (Some bytes) (maps.get files q)) (ties-other q path apart)

parts-other : (e : Path) (first : ℕ) (texts : List (List ℕ)) (files : FileMap) (q : Path)
    → lies_under e q ≡ false → maps.get (with_parts e first texts files) q ≡ maps.get files q
parts-other e first [] files q out = refl
parts-other e first (x ∷ xs) files q out =
    parts-other e (suc first) xs (maps.insert files (final_path e first) x) q out
    ∙ insert-other files (final_path e first) x q
    (outside-not e q (final_path e first) out
    (lies_under-child e (codes "part-" ++ five_digits first)))

pub saves_keep_apart : SavesKeepApart
saves_keep_apart dir e texts t apart differ one two =
    record {
      itself = sets.contains-insert nat_list_cmp_total t.dirs e dir
          ∙ ap (λ b. b || has_dir t dir) (ties-other dir e differ) ∙ apart.itself;
      dirs = λ q under. sets.contains-insert nat_list_cmp_total t.dirs e q
          ∙ ap (λ b. b || has_dir t q) (ties-other q e
          (λ is. true≢false (sym under ∙ ap (lies_under dir) is ∙ one)))
          ∙ apart.dirs q under;
      files = λ q under.
          let out = none_under_both dir e q differ one two under in
          insert-other (with_parts e 0 texts t.files) (success_path e) [] q
          (outside-not e q (success_path e) out (lies_under-child e (codes "_SUCCESS")))
          ∙ parts-other e 0 texts t.files q out ∙ apart.files q under;
    }
