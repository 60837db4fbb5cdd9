-- Files that are ready for a commit.
use Rattle.std.proofs.Common.{◌≡◌, ◌≢◌, ◌∙◌, ℕ, suc, ◌<◌, ◌^◌, ◌/◌, ◌%◌, ◌&&◌, ◌||◌, Bool, true, false, true≢false, not, List, [], ◌∷◌, ◌++◌, map, append-nil, bytes_eq, refl, ap, sym, subst, arith}
use Rattle.std.specs.Prelude.{◌==◌, codes, decimal, Some, None, IfSome, Ok, is_some, if◌then◌else◌}
use Rattle.std.specs.Char.{digit_value}
use Rattle.std.specs.Str.Parse.{AllDigits}
use Rattle.std.proofs.lemmas.Bool.{eqb-true}
use Rattle.std.proofs.lemmas.Slice.Eq.{bytes_eq-Decides}
use Rattle.sc_base.specs.Saves.{final_path, five_digits, success_path}
use Rattle.sc_base.specs.Trees.{Tree, Path, dir_is_there, dir_part, dir_step, has_dir, has_place, is_in, lies_under, moved, without_tree}
use Rattle.sc_base.specs.Outside.{FilesState}
use Rattle.sc_base.proofs.ChangeLemmas.{changes-after, if_some-weaker}
use Rattle.sc_base.proofs.PathLemmas.{dir_part-append, lies_under-deeper, lies_under-itself}
use Rattle.sc_base.proofs.TreeLemmas.{file_at-moved_other, has_dir-without_tree}
use Rattle.sc_ids.specs.declared.attempts.AttemptId.{AttemptId}
use Rattle.sc_output.specs.Calls.{AreOpen, MakesCalls, after_calls, remove_call, write_call}
use Rattle.sc_output.proofs.CallLemmas.{open-back, open-front}
use Rattle.sc_output.specs.Commits.{AreCommitted, AreWinnersFrom, IsReady, commit_calls, final_rename}
use Rattle.sc_output.specs.Names.{IsWithinTypes, committed_path, staging_path}
use Rattle.sc_output.proofs.NameLemmas.{committed-injective, committed-under, decimal-digits, final-beside, staging-under}

-- ---- the directories of names

slash-no_digit : (c : ℕ) (b : Bool) → digit_value c < 10 → (c == 47) ≡ b → (c == 47) ≡ false
slash-no_digit c true digit is =
    absurd (no (subst (λ k. digit_value k < 10) (eqb-true c 47 is) digit))
  where
    no : digit_value 47 < 10 → ⊥
    no h = omega (arith, h)
slash-no_digit c false digit is = is

dir_part-digits : (xs ys : Path) → AllDigits 10 xs → dir_part ys ≡ None
    → dir_part (xs ++ ys) ≡ None
dir_part-digits [] ys all none = none
dir_part-digits (x ∷ xs) ys all none =
    ap (dir_step x) (dir_part-digits xs ys all.1 none)
    ∙ ap (λ b. if b then Some [] else None) (slash-no_digit x (x == 47) all.0 refl)

pub dir_part-decimal : (n : ℕ) (ys : Path) → n < 2 ^ 64 → dir_part ys ≡ None
    → dir_part (decimal n ++ ys) ≡ None
dir_part-decimal n ys within none =
    dir_part-digits (decimal n) ys (decimal-digits n within) none

dir_part-five_digits : (n : ℕ) → n < 2 ^ 64 → dir_part (five_digits n) ≡ None
dir_part-five_digits n within =
    dir_part-decimal (n / 10000) _ (omega (arith, within))
    (dir_part-decimal (n / 1000 % 10) _ (omega arith)
    (dir_part-decimal (n / 100 % 10) _ (omega arith)
    (dir_part-decimal (n / 10 % 10) _ (omega arith)
    (subst (λ xs. dir_part xs ≡ None) (append-nil (decimal (n % 10)))
    (dir_part-decimal (n % 10) [] (omega arith) refl)))))

dir_part-final : (dir : Path) (p : ℕ) → p < 2 ^ 64 → dir_part (final_path dir p) ≡ Some dir
dir_part-final dir p within =
    dir_part-append dir (codes "/part-" ++ five_digits p) []
    (ap (λ found. dir_step 47 (dir_step 112 (dir_step 97 (dir_step 114 (dir_step 116
    (dir_step 45 found))))))
    (dir_part-five_digits p within))
    ∙ ap Some (append-nil dir)

dir_part-success : (dir : Path) → dir_part (success_path dir) ≡ Some dir
dir_part-success dir = dir_part-append dir (codes "/_SUCCESS") [] refl ∙ ap Some (append-nil dir)

pub has_place-dir : (t : Tree) (dir path : Path) → dir_part path ≡ Some dir → has_dir t dir ≡ true
    → has_place t path ≡ true
has_place-dir t dir path is there = ap (dir_is_there t.dirs) is ∙ there

-- ---- the staging area doesn't hold its directory

pub is_in-staging : (dir : Path) → is_in (staging_path dir) dir ≡ false
is_in-staging dir =
    by (bytes_eq (staging_path dir) dir) (lies_under (staging_path dir) dir) refl refl
  where
    by : (a b : Bool) → bytes_eq (staging_path dir) dir ≡ a → lies_under (staging_path dir) dir ≡ b
        → (bytes_eq (staging_path dir) dir || lies_under (staging_path dir) dir) ≡ false
    by true b e f =
        absurd (true≢false (sym (staging-under dir)
        ∙ ap (lies_under dir) ((bytes_eq-Decides (staging_path dir) dir).0 e)
        ∙ lies_under-itself dir))
    by false true e f =
        absurd (true≢false (sym (lies_under-deeper dir (codes "_temporary") dir f)
        ∙ lies_under-itself dir))
    by false false e f =
        ap (λ x. x || lies_under (staging_path dir) dir) e ∙ f

pub has_dir-cleared : (t : Tree) (dir : Path) → has_dir t dir ≡ true
    → has_dir (without_tree t (staging_path dir)) dir ≡ true
has_dir-cleared t dir there =
    has_dir-without_tree t (staging_path dir) dir
    ∙ ap (λ b. has_dir t dir && not b) (is_in-staging dir)
    ∙ ap (λ b. b && true) there

-- ---- the files of winners

-- the file of another winner
pub committed-other : (dir : Path) (v w : AttemptId) → IsWithinTypes v → IsWithinTypes w
    → w.partition < v.partition → committed_path dir v ≢ committed_path dir w
committed-other dir v w one two below e =
    omega (
      arith,
      below,
      ap (λ (a : AttemptId). a.partition) (committed-injective dir v w one two e),
    )

-- no final name is a committed one
pub committed-final : (dir : Path) (v : AttemptId) (p : ℕ)
    → committed_path dir v ≢ final_path dir p
committed-final dir v p e =
    true≢false (sym (committed-under dir v) ∙ ap (lies_under (staging_path dir)) e
    ∙ final-beside dir p)

still-committed : (dir : Path) (w : AttemptId) (first : ℕ) (ws : List AttemptId) (t : Tree)
    → IsWithinTypes w → w.partition < first → AreWinnersFrom first ws → AreCommitted dir ws t
    → AreCommitted dir ws (moved t (committed_path dir w) (final_path dir w.partition))
still-committed dir w first [] t within below are all = tt
still-committed dir w first (v ∷ vs) t within below are all = (
  ap is_some (file_at-moved_other t (committed_path dir w) (final_path dir w.partition)
      (committed_path dir v) (committed-final dir v w.partition)
      (committed-other dir v w are.1 within (omega (arith, below, are.0)))) ∙ all.0,
  still-committed dir w (suc first) vs t within (omega (arith, below)) are.2 all.1,
)

and-true : (a b : Bool) → a ≡ true → b ≡ true → (a && b) ≡ true
and-true a b e f = ap (λ x. x && b) e ∙ f

calls-open : (dir : Path) (first : ℕ) (ws : List AttemptId) (t : Tree) → AreWinnersFrom first ws
    → has_dir t dir ≡ true → AreCommitted dir ws t → AreOpen (commit_calls dir ws) t
calls-open dir first [] t are place all = (
  tt,
  (
    has_place-dir (without_tree t (staging_path dir)) dir (success_path dir)
        (dir_part-success dir) (has_dir-cleared t dir place),
    tt,
  ),
)
calls-open dir first (w ∷ ws) t are place all = (
  and-true _ _ all.0
      (has_place-dir t dir (final_path dir w.partition)
      (dir_part-final dir w.partition are.1.partition) place),
  calls-open dir (suc first) ws (moved t (committed_path dir w) (final_path dir w.partition))
      are.2 place
      (still-committed dir w (suc first) ws t are.1 (omega (arith, are.0)) are.2 all.1),
)

-- all calls of a commit are open where the files are ready
ready-open : (dir : Path) (winners : List AttemptId) (t : Tree) → AreWinnersFrom 0 winners
    → IsReady dir winners t → AreOpen (commit_calls dir winners) t
ready-open dir winners t are ready = calls-open dir 0 winners t are ready.place ready.committed

pub ready-renames : (dir : Path) (winners : List AttemptId) (s : FilesState)
    → AreWinnersFrom 0 winners → IfSome s.shown (IsReady dir winners)
    → IfSome s.shown (AreOpen (map (final_rename dir) winners))
ready-renames dir winners s are ready =
    if_some-weaker (IsReady dir winners) (AreOpen (map (final_rename dir) winners)) s.shown
    (λ t r. open-front (map (final_rename dir) winners)
    (remove_call (staging_path dir) ∷ write_call (success_path dir) [] ∷ []) t
    (ready-open dir winners t are r)) ready

pub ready-finish : (dir : Path) (winners : List AttemptId) (s u : FilesState)
    → AreWinnersFrom 0 winners → IfSome s.shown (IsReady dir winners)
    → MakesCalls (map (final_rename dir) winners) s u (Ok tt)
    → IfSome u.shown
    (AreOpen (remove_call (staging_path dir) ∷ write_call (success_path dir) [] ∷ []))
ready-finish dir winners s u are ready made =
    let last = remove_call (staging_path dir) ∷ write_call (success_path dir) [] ∷ [] in
    changes-after (λ t k. k ≡ after_calls t (map (final_rename dir) winners))
    (IsReady dir winners) (AreOpen last) s.shown u.shown
    (λ t k r e. subst (AreOpen last) (sym e)
    (open-back (map (final_rename dir) winners) last t (ready-open dir winners t are r)))
    ready made.1
