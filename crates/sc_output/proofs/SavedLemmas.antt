-- What a commit and an abort leave, by look-ups.
use Rattle.std.proofs.Common.{◌≡◌, ◌≢◌, ◌∙◌, ℕ, suc, ◌<◌, ◌&&◌, ◌||◌, Bool, true, false, true≢false, cond, not, List, [], ◌∷◌, map, bytes_eq, refl, ap, sym, arith}
use Rattle.std.specs.Prelude.{codes, Option, Some, None}
use Rattle.std.specs.Cmp.Lexicographic.{slice_cmp, nat_list_cmp_total}
use Rattle.std.specs.FinMap as maps
use Rattle.std.specs.FinSet as sets
use Rattle.std.specs.Option.{unwrap_or}
use Rattle.std.specs.Ordering.{nat_cmp, eq_by_cmp}
use Rattle.std.proofs.lemmas.Slice.Eq.{bytes_eq-Decides}
use Rattle.sc_base.specs.Saves.{IsApart, final_path, success_path, with_parts}
use Rattle.sc_base.specs.Trees.{Tree, Path, FileMap, file_at, has_dir, is_in, lies_under, moved, tree, without_tree}
use Rattle.sc_base.proofs.PathLemmas.{is_in-itself, lies_under-deeper, lies_under-itself}
use Rattle.sc_base.proofs.TreeLemmas.{by_bytes, file_at-moved_other, file_at-without_tree, has_dir-without_tree, ties-other}
use Rattle.sc_ids.specs.declared.attempts.AttemptId.{AttemptId}
use Rattle.sc_output.specs.Calls.{after_calls, remove_call, write_call}
use Rattle.sc_output.specs.Commits.{AreWinnersFrom, final_rename}
use Rattle.sc_output.specs.Names.{IsWithinTypes, committed_path, staging_path}
use Rattle.sc_output.specs.Saved.{AbortedIsEmpty, CommittedIsSaved, HaveTexts, IsUnderWay}
use Rattle.sc_output.proofs.CallLemmas.{after_calls-append}
use Rattle.sc_output.proofs.NameLemmas.{committed-under, final-beside, staging-under}
use Rattle.sc_output.proofs.ReadyLemmas.{committed-final, committed-other}

-- ---- parts beside the staging area

-- one winner's file, seen at a path
put-same : (ties : Bool) (found : Option (List ℕ)) (text : List ℕ) (one two : Option (List ℕ))
    → found ≡ Some text → one ≡ two
    → cond ties (Some (unwrap_or found [])) one ≡ cond ties (Some text) two
put-same true found text one two is same = ap (λ o. Some (unwrap_or o [])) is
put-same false found text one two is same = same

-- a path that isn't in the staging area is no committed one
beside-committed : (dir : Path) (w : AttemptId) (q : Path) → lies_under (staging_path dir) q ≡ false
    → q ≢ committed_path dir w
beside-committed dir w q beside e =
    true≢false (sym (ap (lies_under (staging_path dir)) e ∙ committed-under dir w) ∙ beside)

-- a path in the staging area is no final one
within-final : (dir : Path) (p : ℕ) (q : Path) → lies_under (staging_path dir) q ≡ true
    → q ≢ final_path dir p
within-final dir p q within e =
    true≢false (sym within ∙ ap (lies_under (staging_path dir)) e ∙ final-beside dir p)

one-part : (dir : Path) (w : AttemptId) (p : ℕ) (text : List ℕ) (t : Tree) (files : FileMap)
    (q : Path) → w.partition ≡ p → file_at t (committed_path dir w) ≡ Some text
    → lies_under (staging_path dir) q ≡ false → file_at t q ≡ maps.get files q
    → file_at (moved t (committed_path dir w) (final_path dir w.partition)) q
    ≡ maps.get (maps.insert files (final_path dir p) text) q
one-part dir w p text t files q number is beside same =
    let from = committed_path dir w in
    let to = final_path dir w.partition in
    let old = maps.remove t.files from in
    maps.get-insert nat_list_cmp_total old to (unwrap_or (file_at t from) []) q
    ∙ put-same (eq_by_cmp (slice_cmp nat_cmp) q to) (file_at t from) text (maps.get old q)
    (maps.get files q) is
    (maps.get-remove nat_list_cmp_total t.files from q
    ∙ ap (λ b. cond b None (file_at t q)) (ties-other q from (beside-committed dir w q beside))
    ∙ same)
    ∙ ap (λ n. cond (eq_by_cmp (slice_cmp nat_cmp) q (final_path dir n)) (Some text)
    (maps.get files q)) number
    ∙ sym (maps.get-insert nat_list_cmp_total files (final_path dir p) text q)

-- the other winners' files keep their texts
still-texts : (dir : Path) (w : AttemptId) (first : ℕ) (ws : List AttemptId)
    (texts : List (List ℕ)) (t : Tree) → IsWithinTypes w → w.partition < first
    → AreWinnersFrom first ws → HaveTexts dir ws texts t
    → HaveTexts dir ws texts (moved t (committed_path dir w) (final_path dir w.partition))
still-texts dir w first [] [] t within below are all = tt
still-texts dir w first [] (x ∷ xs) t within below are all = all
still-texts dir w first (v ∷ vs) [] t within below are all = all
still-texts dir w first (v ∷ vs) (x ∷ xs) t within below are all = (
  file_at-moved_other t (committed_path dir w) (final_path dir w.partition)
      (committed_path dir v) (committed-final dir v w.partition)
      (committed-other dir v w are.1 within (omega (arith, below, are.0))) ∙ all.0,
  still-texts dir w (suc first) vs xs t within (omega (arith, below)) are.2 all.1,
)

-- all winners' files, seen at a path beside the staging area
parts-beside : (dir : Path) (first : ℕ) (ws : List AttemptId) (texts : List (List ℕ)) (t : Tree)
    (files : FileMap) → AreWinnersFrom first ws → HaveTexts dir ws texts t
    → ((q : Path) → lies_under (staging_path dir) q ≡ false → file_at t q ≡ maps.get files q)
    → (q : Path) → lies_under (staging_path dir) q ≡ false
    → file_at (after_calls t (map (final_rename dir) ws)) q
    ≡ maps.get (with_parts dir first texts files) q
parts-beside dir first [] [] t files are all same q beside = same q beside
parts-beside dir first [] (x ∷ xs) t files are all same q beside = absurd all
parts-beside dir first (w ∷ ws) [] t files are all same q beside = absurd all
parts-beside dir first (w ∷ ws) (x ∷ xs) t files are all same q beside =
    parts-beside dir (suc first) ws xs
    (moved t (committed_path dir w) (final_path dir w.partition))
    (maps.insert files (final_path dir first) x) are.2
    (still-texts dir w (suc first) ws xs t are.1 (omega (arith, are.0)) are.2 all.1)
    (λ k out. one-part dir w first x t files k are.0 all.0 out (same k out)) q beside

-- parts change nothing in the staging area
parts-within : (dir : Path) (first : ℕ) (texts : List (List ℕ)) (files : FileMap) (q : Path)
    → lies_under (staging_path dir) q ≡ true
    → maps.get (with_parts dir first texts files) q ≡ maps.get files q
parts-within dir first [] files q within = refl
parts-within dir first (x ∷ xs) files q within =
    parts-within dir (suc first) xs (maps.insert files (final_path dir first) x) q within
    ∙ maps.get-insert nat_list_cmp_total files (final_path dir first) x q
    ∙ ap (λ b. cond b (Some x) (maps.get files q))
    (ties-other q (final_path dir first) (within-final dir first q within))

-- ---- the staging area is gone

renames-dirs : (dir : Path) (ws : List AttemptId) (t : Tree)
    → (after_calls t (map (final_rename dir) ws)).dirs ≡ t.dirs
renames-dirs dir [] t = refl
renames-dirs dir (w ∷ ws) t =
    renames-dirs dir ws (moved t (committed_path dir w) (final_path dir w.partition))

-- the files once the staging area is removed
abbrev cleared : Path → List AttemptId → Tree → Tree
cleared dir ws t = without_tree (after_calls t (map (final_rename dir) ws)) (staging_path dir)

cleared-files : (dir : Path) (ws : List AttemptId) (texts : List (List ℕ)) (opening t : Tree)
    → IsApart dir opening → IsUnderWay dir opening t → AreWinnersFrom 0 ws
    → HaveTexts dir ws texts t → (cleared dir ws t).files ≡ with_parts dir 0 texts opening.files
cleared-files dir ws texts opening t apart way are all =
    maps.same_map nat_list_cmp_total by_bytes _ _ (λ q.
    file_at-without_tree (after_calls t (map (final_rename dir) ws)) (staging_path dir) q
    ∙ at q (lies_under (staging_path dir) q) refl)
  where
    at : (q : Path) (b : Bool) → lies_under (staging_path dir) q ≡ b
        → cond (not b) (file_at (after_calls t (map (final_rename dir) ws)) q) None
        ≡ maps.get (with_parts dir 0 texts opening.files) q
    at q true within =
        sym (parts-within dir 0 texts opening.files q within
        ∙ apart.files q (lies_under-deeper dir (codes "_temporary") q within))
    at q false beside =
        parts-beside dir 0 ws texts t opening.files are all way.files q beside

-- what is in the staging area lies under its directory
pub in_staging-under : (dir q : Path) → is_in (staging_path dir) q ≡ true → lies_under dir q ≡ true
in_staging-under dir q = by (bytes_eq (staging_path dir) q) refl
  where
    by : (b : Bool) → bytes_eq (staging_path dir) q ≡ b
        → (b || lies_under (staging_path dir) q) ≡ true → lies_under dir q ≡ true
    by true is e =
        ap (lies_under dir) (sym ((bytes_eq-Decides (staging_path dir) q).0 is))
        ∙ staging-under dir
    by false is e = lies_under-deeper dir (codes "_temporary") q e

and-false : (a : Bool) → (a && false) ≡ false
and-false true = refl
and-false false = refl

and-true : (a : Bool) → (a && true) ≡ a
and-true true = refl
and-true false = refl

cleared-dirs : (dir : Path) (ws : List AttemptId) (opening t : Tree)
    → IsApart dir opening → IsUnderWay dir opening t
    → (cleared dir ws t).dirs ≡ sets.insert opening.dirs dir
cleared-dirs dir ws opening t apart way =
    let staging = staging_path dir in
    let with_one = sets.insert opening.dirs dir in
    sets.same_set nat_list_cmp_total by_bytes _ _ (λ q.
    has_dir-without_tree (after_calls t (map (final_rename dir) ws)) staging q
    ∙ ap (λ ds. sets.contains ds q && not (is_in staging q)) (renames-dirs dir ws t ∙ way.dirs)
    ∙ at q (is_in staging q) refl)
  where
    at : (q : Path) (b : Bool) → is_in (staging_path dir) q ≡ b
        → (sets.contains (sets.insert (sets.insert opening.dirs dir) (staging_path dir)) q && not b)
        ≡ sets.contains (sets.insert opening.dirs dir) q
    at q true within =
        let under = in_staging-under dir q within in
        and-false (sets.contains (sets.insert (sets.insert opening.dirs dir) (staging_path dir)) q)
        ∙ sym (sets.contains-insert nat_list_cmp_total opening.dirs dir q
        ∙ ap (λ b. b || has_dir opening q) (ties-other q dir
        (λ e. true≢false (sym under ∙ ap (lies_under dir) e ∙ lies_under-itself dir)))
        ∙ apart.dirs q under)
    at q false beside =
        and-true (sets.contains (sets.insert (sets.insert opening.dirs dir) (staging_path dir)) q)
        ∙ sets.contains-insert nat_list_cmp_total (sets.insert opening.dirs dir)
        (staging_path dir) q
        ∙ ap (λ b. b || sets.contains (sets.insert opening.dirs dir) q)
        (ties-other q (staging_path dir)
        (λ e. true≢false (sym (ap (is_in (staging_path dir)) e ∙ is_in-itself (staging_path dir))
        ∙ beside)))

-- ---- the laws

pub committed_is_saved : CommittedIsSaved
committed_is_saved dir ws texts opening t apart way are all =
    let dirs = cleared-dirs dir ws opening t apart way in
    let files = cleared-files dir ws texts opening t apart way are all in
    after_calls-append (map (final_rename dir) ws)
    (remove_call (staging_path dir) ∷ write_call (success_path dir) [] ∷ []) t
    ∙ (λ i. tree (dirs i) (maps.insert (files i) (success_path dir) []))

pub aborted_is_empty : AbortedIsEmpty
aborted_is_empty dir opening t apart way =
    let dirs = cleared-dirs dir [] opening t apart way in
    let files = cleared-files dir [] [] opening t apart way tt tt in
    λ i. tree (dirs i) (files i)
