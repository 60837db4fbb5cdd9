-- Which files of attempts stand, by what they did.
use Rattle.std.proofs.Common.{◌≡◌, ◌≢◌, ◌∙◌, ◌⊎◌, inl, inr, ℕ, ◌&&◌, Bool, true, List, [], ◌∷◌, ◌++◌, take, refl, ap, sym, subst}
use Rattle.std.specs.Prelude.{IfSome, is_some}
use Rattle.sc_base.specs.Outside.{FilesState}
use Rattle.sc_base.specs.Trees.{Tree, Path, file_at, has_dir, has_place, moved, with_file}
use Rattle.sc_base.proofs.ChangeLemmas.{changes-after}
use Rattle.sc_base.proofs.TreeLemmas.{file_at-moved, file_at-moved_other, file_at-with_file, file_at-with_file_other, file_at-without_file_other}
use Rattle.sc_files.specs.Calls.{IsAllOrNothing, IsHalfWritten}
use Rattle.sc_ids.specs.declared.attempts.AttemptId.{AttemptId}
use Rattle.sc_output.specs.Calls.{IsOpen}
use Rattle.sc_output.specs.Commits.{AreCommitted, AreWinnersFrom}
use Rattle.sc_output.specs.Names.{IsWithinTypes, committed_path, staged_path, staging_path}
use Rattle.sc_output.proofs.NameLemmas.{committed-injective, staged-committed, staged-injective}
use Rattle.sc_staging.specs.Done.{Deed, DidLast, DidNone, Done, HasFiles, HaveRenamed, StandsBy, broke, done_by, rename_deed, renamed, text_of, write_deed, wrote}
use Rattle.sc_staging.specs.Laws.{FilesStand}
use Rattle.sc_staging.specs.Parts.{EndsPart, part_rename, part_write}
use Rattle.sc_staging.specs.StagingData.{AreThere}
use Rattle.sc_staging.specs.declared.parts.Written.{Written}
use Rattle.sc_staging.specs.declared.parts.Written.TheVariants as ends
use Rattle.sc_staging.proofs.OpeningLemmas.{opened-there}
use Rattle.sc_staging.proofs.PartLemmas.{committed-place}
use Rattle.sc_staging.proofs.RenewalLemmas.{renewed-there}

-- ---- what was done last

none-parts : (a : AttemptId) (ds : List Done) (d : Done) → DidNone a (ds ++ d ∷ [])
    → DidNone a ds × (d.attempt ≢ a)
none-parts a [] d none = (tt, none.0)
none-parts a (x ∷ xs) d none =
    let more = none-parts a xs d none.1 in
    ((none.0, more.0), more.1)

-- with one thing more it is that one, or it is another attempt's
abbrev IsLastWith : AttemptId → Deed → List Done → Done → Type 0
IsLastWith a deed ds d =
    ((d.attempt ≡ a) × (d.deed ≡ deed)) ⊎ ((d.attempt ≢ a) × DidLast a deed ds)

last-later : (a : AttemptId) (deed : Deed) (x : Done) (xs : List Done) (d : Done)
    → IsLastWith a deed xs d → IsLastWith a deed (x ∷ xs) d
last-later a deed x xs d (inl is) = inl is
last-later a deed x xs d (inr other) = inr (other.0, inr other.1)

pub last-push : (a : AttemptId) (deed : Deed) (ds : List Done) (d : Done)
    → DidLast a deed (ds ++ d ∷ []) → IsLastWith a deed ds d
last-push a deed [] d (inl is) = inl (is.0, is.1)
last-push a deed [] d (inr never) = absurd never
last-push a deed (x ∷ xs) d (inl is) =
    let none = none-parts a xs d is.2 in
    inr (none.1, inl (is.0, is.1, none.0))
last-push a deed (x ∷ xs) d (inr last) = last-later a deed x xs d (last-push a deed xs d last)

-- what was done at the very end was done last
pub last-same : (a : AttemptId) (deed : Deed) (ds : List Done)
    → DidLast a deed (ds ++ done_by a deed ∷ [])
last-same a deed [] = inl (refl, refl, tt)
last-same a deed (x ∷ xs) = inr (last-same a deed xs)

none-more : (a : AttemptId) (ds : List Done) (d : Done) → DidNone a ds → d.attempt ≢ a
    → DidNone a (ds ++ d ∷ [])
none-more a [] d none other = (other, tt)
none-more a (x ∷ xs) d none other = (none.0, none-more a xs d none.1 other)

-- and it changes nothing for other attempts
pub last-other : (a : AttemptId) (deed : Deed) (ds : List Done) (d : Done) → d.attempt ≢ a
    → DidLast a deed ds → DidLast a deed (ds ++ d ∷ [])
last-other a deed [] d other never = absurd never
last-other a deed (x ∷ xs) d other (inl is) =
    inl (is.0, is.1, none-more a xs d is.2 other)
last-other a deed (x ∷ xs) d other (inr last) = inr (last-other a deed xs d other last)

-- ---- one thing more

-- all files but those of one attempt are as before
abbrev IsSameBeside : Path → AttemptId → Tree → Tree → Type 0
IsSameBeside dir b t u =
    (q : Path) → q ≢ staged_path dir b → q ≢ committed_path dir b → file_at u q ≡ file_at t q

stands-other : (dir : Path) (texts : List (List ℕ)) (t u : Tree) (a b : AttemptId) (deed : Deed)
    → IsWithinTypes a → IsWithinTypes b → b ≢ a → IsSameBeside dir b t u
    → StandsBy dir texts t a deed → StandsBy dir texts u a deed
stands-other dir texts t u a b wrote one two apart same stands =
    same (staged_path dir a) (λ e. apart (sym (staged-injective dir a b one two e)))
    (staged-committed dir a b) ∙ stands
stands-other dir texts t u a b renamed one two apart same stands =
    same (committed_path dir a) (λ e. staged-committed dir b a (sym e))
    (λ e. apart (sym (committed-injective dir a b one two e))) ∙ stands
stands-other dir texts t u a b broke one two apart same stands = tt

files-more : (dir : Path) (texts : List (List ℕ)) (ds : List Done) (t u : Tree) (b : AttemptId)
    (deed : Deed) → IsWithinTypes b → AreThere dir u → IsSameBeside dir b t u
    → StandsBy dir texts u b deed → HasFiles dir texts ds t
    → HasFiles dir texts (ds ++ done_by b deed ∷ []) u
files-more dir texts ds t u b deed within there same own has = record {
  there = there;
  standing = λ a last small is. by a last small (last-push a last ds (done_by b deed) is);
}
  where
    by : (a : AttemptId) (last : Deed) → IsWithinTypes a
        → IsLastWith a last ds (done_by b deed) → StandsBy dir texts u a last
    by a last small (inl is) =
        subst (λ x. StandsBy dir texts u x last) is.0
        (subst (λ d. StandsBy dir texts u b d) is.1 own)
    by a last small (inr other) =
        stands-other dir texts t u a b last small within other.0 same
        (has.standing a last small other.1)

still-there : (dir : Path) (t u : Tree) → u.dirs ≡ t.dirs → AreThere dir t → AreThere dir u
still-there dir t u dirs there = record {
  place = has-same dir ∙ there.place;
  staging = has-same (staging_path dir) ∙ there.staging;
}
  where
    has-same : (q : Path) → has_dir u q ≡ has_dir t q
    has-same q = ap (λ k. has_dir (record t { dirs = k }) q) dirs

-- ---- a part is written

pub half_written-same : (t u : Tree) (path bytes : Path) → IsHalfWritten path bytes t u
    → (q : Path) → q ≢ path → file_at u q ≡ file_at t q
half_written-same t u path bytes (inl is) q apart = ap (λ k. file_at k q) is
half_written-same t u path bytes (inr (inl is)) q apart =
    ap (λ k. file_at k q) is ∙ file_at-without_file_other t path q apart
half_written-same t u path bytes (inr (inr (n, is))) q apart =
    ap (λ k. file_at k q) is ∙ file_at-with_file_other t path (take n bytes) q apart

pub half_written-dirs : (t u : Tree) (path bytes : Path) → IsHalfWritten path bytes t u
    → u.dirs ≡ t.dirs
half_written-dirs t u path bytes (inl is) = ap (λ (k : Tree). k.dirs) is
half_written-dirs t u path bytes (inr (inl is)) = ap (λ (k : Tree). k.dirs) is
half_written-dirs t u path bytes (inr (inr (n, is))) = ap (λ (k : Tree). k.dirs) is

files-written : (dir : Path) (texts : List (List ℕ)) (ds : List Done) (a : AttemptId)
    (old new : FilesState) (answer : Written) → IsWithinTypes a
    → EndsPart (part_write dir a (text_of texts a)) old new answer
    → IfSome old.shown (HasFiles dir texts ds)
    → IfSome new.shown (HasFiles dir texts (ds ++ done_by a (write_deed answer) ∷ []))
files-written dir texts ds a old new ends.Done within call has =
    let path = staged_path dir a in
    let text = text_of texts a in
    changes-after (λ t u. u ≡ with_file t path text) (HasFiles dir texts ds)
    (HasFiles dir texts (ds ++ done_by a wrote ∷ [])) old.shown new.shown
    (λ t u files is. files-more dir texts ds t u a wrote within
    (still-there dir t u (ap (λ (k : Tree). k.dirs) is) files.there)
    (λ q apart other. ap (λ k. file_at k q) is ∙ file_at-with_file_other t path text q apart)
    (ap (λ k. file_at k path) is ∙ file_at-with_file t path text) files)
    has call.1
files-written dir texts ds a old new (ends.Failed fault) within call has =
    let path = staged_path dir a in
    let text = text_of texts a in
    changes-after (IsHalfWritten path text) (HasFiles dir texts ds)
    (HasFiles dir texts (ds ++ done_by a broke ∷ [])) old.shown new.shown
    (λ t u files half. files-more dir texts ds t u a broke within
    (still-there dir t u (half_written-dirs t u path text half) files.there)
    (λ q apart other. half_written-same t u path text half q apart) tt files)
    has call.1

-- ---- a part is renamed

pub half_moved-same : (t u : Tree) (from to : Path)
    → IsAllOrNothing (λ k. moved k from to) t u
    → (q : Path) → q ≢ from → q ≢ to → file_at u q ≡ file_at t q
half_moved-same t u from to (inl is) q apart other = ap (λ k. file_at k q) is
half_moved-same t u from to (inr is) q apart other =
    ap (λ k. file_at k q) is ∙ file_at-moved_other t from to q other apart

pub half_moved-dirs : (t u : Tree) (from to : Path)
    → IsAllOrNothing (λ k. moved k from to) t u → u.dirs ≡ t.dirs
half_moved-dirs t u from to (inl is) = ap (λ (k : Tree). k.dirs) is
half_moved-dirs t u from to (inr is) = ap (λ (k : Tree). k.dirs) is

files-renamed : (dir : Path) (texts : List (List ℕ)) (ds : List Done) (a : AttemptId)
    (old new : FilesState) (answer : Written) → IsWithinTypes a → DidLast a wrote ds
    → EndsPart (part_rename dir a) old new answer
    → IfSome old.shown (HasFiles dir texts ds)
    → IfSome new.shown (HasFiles dir texts (ds ++ done_by a (rename_deed answer) ∷ []))
files-renamed dir texts ds a old new ends.Done within last call has =
    let from = staged_path dir a in
    let to = committed_path dir a in
    changes-after (λ t u. u ≡ moved t from to) (HasFiles dir texts ds)
    (HasFiles dir texts (ds ++ done_by a renamed ∷ [])) old.shown new.shown
    (λ t u files is. files-more dir texts ds t u a renamed within
    (still-there dir t u (ap (λ (k : Tree). k.dirs) is) files.there)
    (λ q apart other. half_moved-same t u from to (inr is) q apart other)
    (ap (λ k. file_at k to) is
    ∙ file_at-moved t from to (text_of texts a) (files.standing a wrote within last)) files)
    has call.1
files-renamed dir texts ds a old new (ends.Failed fault) within last call has =
    let from = staged_path dir a in
    let to = committed_path dir a in
    changes-after (IsAllOrNothing (λ k. moved k from to)) (HasFiles dir texts ds)
    (HasFiles dir texts (ds ++ done_by a broke ∷ [])) old.shown new.shown
    (λ t u files half. files-more dir texts ds t u a broke within
    (still-there dir t u (half_moved-dirs t u from to half) files.there)
    (λ q apart other. half_moved-same t u from to half q apart other) tt files)
    has call.1

-- ---- what may follow

both-true : (a b : Bool) → a ≡ true → b ≡ true → (a && b) ≡ true
both-true a b e f = ap (λ x. x && b) e ∙ f

rename-open : (dir : Path) (texts : List (List ℕ)) (ds : List Done) (a : AttemptId) (t : Tree)
    → IsWithinTypes a → DidLast a wrote ds → HasFiles dir texts ds t
    → IsOpen (part_rename dir a) t
rename-open dir texts ds a t within last has =
    both-true (is_some (file_at t (staged_path dir a))) (has_place t (committed_path dir a))
    (ap is_some (has.standing a wrote within last)) (committed-place dir a t within has.there)

winners-committed : (dir : Path) (texts : List (List ℕ)) (ds : List Done) (first : ℕ)
    (ws : List AttemptId) (t : Tree) → AreWinnersFrom first ws → HaveRenamed ds ws
    → HasFiles dir texts ds t → AreCommitted dir ws t
winners-committed dir texts ds first [] t are all has = tt
winners-committed dir texts ds first (w ∷ ws) t are all has = (
  ap is_some (has.standing w renamed are.1 all.0),
  winners-committed dir texts ds _ ws t are.2 all.1 has,
)

pub files_stand : FilesStand
files_stand = record {
  opened = λ dir texts t. record {
    there = opened-there dir t;
    standing = λ a deed within never. absurd never;
  };
  written = files-written;
  renamed = files-renamed;
  renewed = λ dir texts t there. record {
    there = renewed-there dir t there;
    standing = λ a deed within never. absurd never;
  };
  may_rename = rename-open;
  may_win = λ dir texts ds ws t are all has. winners-committed dir texts ds 0 ws t are all has;
}
