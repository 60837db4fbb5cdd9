-- A save under way, call by call.
use Rattle.std.proofs.Common.{◌≡◌, ◌≢◌, ◌∙◌, inr, false, true≢false, refl, ap, sym}
use Rattle.sc_base.specs.Outside.{FilesState, Changes}
use Rattle.sc_base.specs.Trees.{Tree, Path, file_at, lies_under, moved, with_dir, with_file}
use Rattle.sc_base.proofs.ChangeLemmas.{changes-weaker}
use Rattle.sc_base.proofs.TreeLemmas.{file_at-with_file_other}
use Rattle.sc_files.specs.Calls.{IsAllOrNothing, IsHalfWritten}
use Rattle.sc_ids.specs.declared.attempts.AttemptId.{AttemptId}
use Rattle.sc_output.specs.Names.{committed_path, staged_path, staging_path}
use Rattle.sc_output.proofs.NameLemmas.{committed-under, names_lie_within}
use Rattle.sc_output.proofs.SavedLemmas.{aborted_is_empty}
use Rattle.sc_staging.specs.Laws.{StaysUnderWay, WaysGoOn}
use Rattle.sc_staging.specs.Parts.{EndsPart, part_rename, part_write}
use Rattle.sc_staging.specs.declared.parts.Written.{Written}
use Rattle.sc_staging.specs.declared.parts.Written.TheVariants as ends
use Rattle.sc_staging.proofs.DoneLemmas.{half_moved-dirs, half_moved-same, half_written-dirs, half_written-same}

-- what isn't in the staging area is no file of an attempt
beside-staged : (dir : Path) (a : AttemptId) (q : Path) → lies_under (staging_path dir) q ≡ false
    → q ≢ staged_path dir a
beside-staged dir a q beside e =
    true≢false (sym (ap (lies_under (staging_path dir)) e ∙ names_lie_within.staged dir a) ∙ beside)

beside-committed : (dir : Path) (a : AttemptId) (q : Path)
    → lies_under (staging_path dir) q ≡ false → q ≢ committed_path dir a
beside-committed dir a q beside e =
    true≢false (sym (ap (lies_under (staging_path dir)) e ∙ committed-under dir a) ∙ beside)

stays : (dir : Path) (t u : Tree) → u.dirs ≡ t.dirs
    → ((q : Path) → lies_under (staging_path dir) q ≡ false → file_at u q ≡ file_at t q)
    → StaysUnderWay dir t u
stays dir t u dirs same opening way = record {
  dirs = dirs ∙ way.dirs;
  files = λ q beside. same q beside ∙ way.files q beside;
}

way-written : (dir : Path) (a : AttemptId) (text : Path) (old new : FilesState) (answer : Written)
    → EndsPart (part_write dir a text) old new answer
    → Changes (StaysUnderWay dir) old.shown new.shown
way-written dir a text old new ends.Done call =
    let path = staged_path dir a in
    changes-weaker (λ t u. u ≡ with_file t path text) (StaysUnderWay dir) old.shown new.shown
    (λ t u is. stays dir t u (ap (λ (k : Tree). k.dirs) is)
    (λ q beside. ap (λ k. file_at k q) is
    ∙ file_at-with_file_other t path text q (beside-staged dir a q beside)))
    call.1
way-written dir a text old new (ends.Failed fault) call =
    let path = staged_path dir a in
    changes-weaker (IsHalfWritten path text) (StaysUnderWay dir) old.shown new.shown
    (λ t u half. stays dir t u (half_written-dirs t u path text half)
    (λ q beside. half_written-same t u path text half q (beside-staged dir a q beside)))
    call.1

half-moved : (dir : Path) (a : AttemptId) (t u : Tree)
    → IsAllOrNothing (λ k. moved k (staged_path dir a) (committed_path dir a)) t u
    → StaysUnderWay dir t u
half-moved dir a t u half =
    stays dir t u (half_moved-dirs t u (staged_path dir a) (committed_path dir a) half)
    (λ q beside. half_moved-same t u (staged_path dir a) (committed_path dir a) half q
    (beside-staged dir a q beside) (beside-committed dir a q beside))

way-renamed : (dir : Path) (a : AttemptId) (old new : FilesState) (answer : Written)
    → EndsPart (part_rename dir a) old new answer
    → Changes (StaysUnderWay dir) old.shown new.shown
way-renamed dir a old new ends.Done call =
    changes-weaker (λ t u. u ≡ moved t (staged_path dir a) (committed_path dir a))
    (StaysUnderWay dir) old.shown new.shown (λ t u is. half-moved dir a t u (inr is)) call.1
way-renamed dir a old new (ends.Failed fault) call =
    changes-weaker (IsAllOrNothing (λ k. moved k (staged_path dir a) (committed_path dir a)))
    (StaysUnderWay dir) old.shown new.shown (λ t u half. half-moved dir a t u half) call.1

pub ways_go_on : WaysGoOn
ways_go_on = record {
  opened = λ dir opening. record { dirs = refl; files = λ q beside. refl };
  written = way-written;
  renamed = way-renamed;
  renewed = λ dir opening t apart way.
      ap (λ k. with_dir k (staging_path dir)) (aborted_is_empty dir opening t apart way);
}
