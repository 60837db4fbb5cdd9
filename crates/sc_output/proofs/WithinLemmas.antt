-- What a commit leaves as it was.
use Rattle.std.proofs.Common.{◌≡◌, ◌≢◌, ◌∙◌, ◌⊎◌, inl, inr, ℕ, ◌&&◌, ◌||◌, Bool, true, false, true≢false, cond, not, List, [], ◌∷◌, ◌++◌, bytes_eq, refl, ap, sym, subst}
use Rattle.std.specs.Prelude.{codes, None}
use Rattle.sc_base.specs.Saves.{final_path, five_digits, success_path}
use Rattle.sc_base.specs.Trees.{Tree, Path, file_at, has_dir, is_in, lies_under, moved, with_file, without_file, without_tree}
use Rattle.sc_base.proofs.PathLemmas.{lies_under-child, lies_under-deeper}
use Rattle.sc_base.proofs.SaveLemmas.{outside-not}
use Rattle.sc_base.proofs.TreeLemmas.{file_at-moved_other, file_at-with_file_other, file_at-without_file_other, file_at-without_tree, has_dir-without_tree}
use Rattle.sc_ids.specs.declared.attempts.AttemptId.{AttemptId}
use Rattle.sc_output.specs.Calls.{Call, IsAfterFailed, IsPartOfTheWay, IsStoppedAt, after_call, after_calls, remove_call, rename_call, write_call}
use Rattle.sc_output.specs.Commits.{commit_calls}
use Rattle.sc_output.specs.Names.{committed_path, staging_path}
use Rattle.sc_output.specs.Saved.{CommitsStayWithin, IsSameOutside, StopsLeave}
use Rattle.sc_output.proofs.NameLemmas.{committed-under, final-success, success-beside}
use Rattle.sc_output.proofs.SavedLemmas.{in_staging-under}

-- ---- calls within a directory

-- what a call names lies under a directory
abbrev IsCallWithin : Path → Call → Type 0
IsCallWithin dir (rename_call from to) =
    (lies_under dir from ≡ true) × (lies_under dir to ≡ true)
IsCallWithin dir (remove_call path) = (q : Path) → is_in path q ≡ true → lies_under dir q ≡ true
IsCallWithin dir (write_call path bytes) = lies_under dir path ≡ true

abbrev AreCallsWithin : Path → List Call → Type 0
AreCallsWithin dir [] = Unit {0}
AreCallsWithin dir (call ∷ calls) = IsCallWithin dir call × AreCallsWithin dir calls

same-itself : (dir : Path) (t u : Tree) → u ≡ t → IsSameOutside dir t u
same-itself dir t u is =
    record {
      dirs = λ q out. ap (λ k. has_dir k q) is;
      files = λ q out. ap (λ k. file_at k q) is;
    }

same-then : (dir : Path) (t u v : Tree) → IsSameOutside dir t u → IsSameOutside dir u v
    → IsSameOutside dir t v
same-then dir t u v one two =
    record {
      dirs = λ q out. two.dirs q out ∙ one.dirs q out;
      files = λ q out. two.files q out ∙ one.files q out;
    }

same-written : (dir path : Path) (bytes : List ℕ) (t : Tree) → lies_under dir path ≡ true
    → IsSameOutside dir t (with_file t path bytes)
same-written dir path bytes t within =
    record {
      dirs = λ q out. refl;
      files = λ q out.
          file_at-with_file_other t path bytes q (outside-not dir q path out within);
    }

same-unwritten : (dir path : Path) (t : Tree) → lies_under dir path ≡ true
    → IsSameOutside dir t (without_file t path)
same-unwritten dir path t within =
    record {
      dirs = λ q out. refl;
      files = λ q out. file_at-without_file_other t path q (outside-not dir q path out within);
    }

same-moved : (dir from to : Path) (t : Tree) → lies_under dir from ≡ true
    → lies_under dir to ≡ true → IsSameOutside dir t (moved t from to)
same-moved dir from to t one two =
    record {
      dirs = λ q out. refl;
      files = λ q out.
          file_at-moved_other t from to q (outside-not dir q to out two)
          (outside-not dir q from out one);
    }

or-right : (a b : Bool) → b ≡ true → (a || b) ≡ true
or-right true b e = refl
or-right false b e = e

-- nothing outside is in what is removed
not-removed : (dir path q : Path) → IsCallWithin dir (remove_call path) → lies_under dir q ≡ false
    → is_in path q ≡ false
not-removed dir path q within out = by (is_in path q) refl
  where
    by : (b : Bool) → is_in path q ≡ b → b ≡ false
    by true is = absurd (true≢false (sym (within q is) ∙ out))
    by false is = refl

not-under_removed : (dir path q : Path) → IsCallWithin dir (remove_call path)
    → lies_under dir q ≡ false → lies_under path q ≡ false
not-under_removed dir path q within out = by (lies_under path q) refl
  where
    by : (b : Bool) → lies_under path q ≡ b → b ≡ false
    by true is =
        absurd (true≢false (sym (within q (or-right (bytes_eq path q) _ is)) ∙ out))
    by false is = refl

and-kept : (a : Bool) → (a && not false) ≡ a
and-kept true = refl
and-kept false = refl

same-removed : (dir path : Path) (t : Tree) → IsCallWithin dir (remove_call path)
    → IsSameOutside dir t (without_tree t path)
same-removed dir path t within =
    record {
      dirs = λ q out.
          has_dir-without_tree t path q
          ∙ ap (λ b. has_dir t q && not b) (not-removed dir path q within out)
          ∙ and-kept (has_dir t q);
      files = λ q out.
          file_at-without_tree t path q
          ∙ ap (λ b. cond (not b) (file_at t q) None) (not-under_removed dir path q within out);
    }

after-within : (dir : Path) (call : Call) (t : Tree) → IsCallWithin dir call
    → IsSameOutside dir t (after_call t call)
after-within dir (rename_call from to) t within = same-moved dir from to t within.0 within.1
after-within dir (remove_call path) t within = same-removed dir path t within
after-within dir (write_call path bytes) t within = same-written dir path bytes t within

failed-within : (dir : Path) (call : Call) (t u : Tree) → IsCallWithin dir call
    → IsAfterFailed call t u → IsSameOutside dir t u
failed-within dir (rename_call from to) t u within (inl is) = same-itself dir t u is
failed-within dir (rename_call from to) t u within (inr is) =
    subst (IsSameOutside dir t) (sym is) (same-moved dir from to t within.0 within.1)
failed-within dir (remove_call path) t u within part =
    record {
      dirs = λ q out. dirs q out (part.dirs q);
      files = λ q out. files q out (part.files q);
    }
  where
    dirs : (q : Path) → lies_under dir q ≡ false
        → (has_dir u q ≡ has_dir t q) ⊎ ((is_in path q ≡ true) × (has_dir u q ≡ false))
        → has_dir u q ≡ has_dir t q
    dirs q out (inl same) = same
    dirs q out (inr gone) = absurd (true≢false (sym (within q gone.0) ∙ out))

    files : (q : Path) → lies_under dir q ≡ false
        → (file_at u q ≡ file_at t q) ⊎ ((lies_under path q ≡ true) × (file_at u q ≡ None))
        → file_at u q ≡ file_at t q
    files q out (inl same) = same
    files q out (inr gone) =
        absurd (true≢false (sym (within q (or-right (bytes_eq path q) _ gone.0)) ∙ out))
failed-within dir (write_call path bytes) t u within (inl is) = same-itself dir t u is
failed-within dir (write_call path bytes) t u within (inr (inl is)) =
    subst (IsSameOutside dir t) (sym is) (same-unwritten dir path t within)
failed-within dir (write_call path bytes) t u within (inr (inr (n, is))) =
    subst (IsSameOutside dir t) (sym is) (same-written dir path _ t within)

all-within : (dir : Path) (calls : List Call) (t : Tree) → AreCallsWithin dir calls
    → IsSameOutside dir t (after_calls t calls)
all-within dir [] t within = same-itself dir t t refl
all-within dir (call ∷ calls) t within =
    same-then dir t (after_call t call) (after_calls (after_call t call) calls)
    (after-within dir call t within.0) (all-within dir calls (after_call t call) within.1)

stopped-within : (dir : Path) (calls : List Call) (path : Path) (t u : Tree)
    → AreCallsWithin dir calls → IsStoppedAt calls path t u → IsSameOutside dir t u
stopped-within dir [] path t u within stop = absurd stop
stopped-within dir (call ∷ calls) path t u within (inl stop) =
    failed-within dir call t u within.0 stop.1
stopped-within dir (call ∷ calls) path t u within (inr stop) =
    same-then dir t (after_call t call) u (after-within dir call t within.0)
    (stopped-within dir calls path (after_call t call) u within.1 stop)

way-within : (dir : Path) (calls : List Call) (t u : Tree) → AreCallsWithin dir calls
    → IsPartOfTheWay calls t u → IsSameOutside dir t u
way-within dir [] t u within way = same-itself dir t u way
way-within dir (call ∷ calls) t u within (inl way) = same-itself dir t u way
way-within dir (call ∷ calls) t u within (inr way) =
    same-then dir t (after_call t call) u (after-within dir call t within.0)
    (way-within dir calls (after_call t call) u within.1 way)

commit-within : (dir : Path) (winners : List AttemptId)
    → AreCallsWithin dir (commit_calls dir winners)
commit-within dir [] =
    (λ q is. in_staging-under dir q is, (lies_under-child dir (codes "_SUCCESS"), tt))
commit-within dir (w ∷ ws) = (
  (
    lies_under-deeper dir (codes "_temporary") (committed_path dir w) (committed-under dir w),
    lies_under-child dir (codes "part-" ++ five_digits w.partition),
  ),
  commit-within dir ws,
)

pub commits_stay_within : CommitsStayWithin
commits_stay_within =
    record {
      done = λ dir ws t. all-within dir (commit_calls dir ws) t (commit-within dir ws);
      stopped = λ dir ws path t u.
          stopped-within dir (commit_calls dir ws) path t u (commit-within dir ws);
      on_the_way = λ dir ws t u. way-within dir (commit_calls dir ws) t u (commit-within dir ws);
    }

-- ---- what stops leave

success-committed : (dir : Path) (w : AttemptId) → success_path dir ≢ committed_path dir w
success-committed dir w e =
    true≢false (sym (committed-under dir w)
    ∙ sym (ap (lies_under (staging_path dir)) e) ∙ success-beside dir)

success-moved : (dir : Path) (w : AttemptId) (t : Tree)
    → file_at (moved t (committed_path dir w) (final_path dir w.partition)) (success_path dir)
    ≡ file_at t (success_path dir)
success-moved dir w t =
    file_at-moved_other t (committed_path dir w) (final_path dir w.partition) (success_path dir)
    (λ e. final-success dir w.partition (sym e)) (success-committed dir w)

success-left : (dir : Path) (ws : List AttemptId) (path : Path) (t u : Tree)
    → IsStoppedAt (commit_calls dir ws) path t u → path ≢ success_path dir
    → file_at u (success_path dir) ≡ file_at t (success_path dir)
success-left dir [] path t u (inl stop) other = by (stop.1.files (success_path dir))
  where
    by : (file_at u (success_path dir) ≡ file_at t (success_path dir))
        ⊎ ((lies_under (staging_path dir) (success_path dir) ≡ true)
        × (file_at u (success_path dir) ≡ None))
        → file_at u (success_path dir) ≡ file_at t (success_path dir)
    by (inl same) = same
    by (inr gone) = absurd (true≢false (sym gone.0 ∙ success-beside dir))
success-left dir [] path t u (inr (inl stop)) other = absurd (other stop.0)
success-left dir [] path t u (inr (inr stop)) other = absurd stop
success-left dir (w ∷ ws) path t u (inl stop) other = by stop.1
  where
    by : (u ≡ t) ⊎ (u ≡ moved t (committed_path dir w) (final_path dir w.partition))
        → file_at u (success_path dir) ≡ file_at t (success_path dir)
    by (inl is) = ap (λ k. file_at k (success_path dir)) is
    by (inr is) = ap (λ k. file_at k (success_path dir)) is ∙ success-moved dir w t
success-left dir (w ∷ ws) path t u (inr stop) other =
    success-left dir ws path (moved t (committed_path dir w) (final_path dir w.partition)) u stop
    other
    ∙ success-moved dir w t

staging-left : (dir : Path) (ws : List AttemptId) (path : Path) (t u : Tree)
    → IsStoppedAt (commit_calls dir ws) path t u → path ≢ staging_path dir
    → path ≢ success_path dir → has_dir u (staging_path dir) ≡ has_dir t (staging_path dir)
staging-left dir [] path t u (inl stop) one two = absurd (one stop.0)
staging-left dir [] path t u (inr (inl stop)) one two = absurd (two stop.0)
staging-left dir [] path t u (inr (inr stop)) one two = absurd stop
staging-left dir (w ∷ ws) path t u (inl stop) one two = by stop.1
  where
    by : (u ≡ t) ⊎ (u ≡ moved t (committed_path dir w) (final_path dir w.partition))
        → has_dir u (staging_path dir) ≡ has_dir t (staging_path dir)
    by (inl is) = ap (λ k. has_dir k (staging_path dir)) is
    by (inr is) = ap (λ k. has_dir k (staging_path dir)) is
staging-left dir (w ∷ ws) path t u (inr stop) one two =
    staging-left dir ws path (moved t (committed_path dir w) (final_path dir w.partition)) u stop
    one two

pub stops_leave : StopsLeave
stops_leave = record { success = success-left; staging = staging-left }
