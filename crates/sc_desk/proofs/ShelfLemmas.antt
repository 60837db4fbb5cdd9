-- How the shelf of a desk follows that of its core.
use Rattle.std.proofs.Common.{◌≡◌, ℕ, zero, suc, ◌+◌, ◌<◌, ◌≤◌, ◌==◌, ◌++◌, not, All, Bool, true, false, cond, List, [], ◌∷◌, drop, filter, length, map, Some, option_map, slice_index_or, refl, ap, ap₂, sym, subst, ◌∙◌, arith}
use Rattle.std.specs.List.{AllPairs, find}
use Rattle.std.proofs.lemmas.List.{length-append, length-map}
use Rattle.std.proofs.lemmas.List.Elements.{All-head, All-nil, All-tail, All-weaker}
use Rattle.sc_lineage.specs.ScriptData.{WorkData}
use Rattle.sc_dag.proofs.Tests.{clash}
use Rattle.sc_core.specs.CoreData.{CoreData, has_key, job_runs}
use Rattle.sc_core.specs.declared.running.Shelved.{Shelved}
use Rattle.sc_net.specs.Reports.{ReportData, outcome_of}
use Rattle.sc_net.specs.Shelves.{IsBefore, is_under}
use Rattle.sc_net.specs.declared.shelved.ShelvedReport.{ShelvedReport}
use Rattle.sc_desk.specs.DeskData.{DeskData, core_of}
use Rattle.sc_desk.specs.Dues.{IsInTime}
use Rattle.sc_desk.specs.Posts.{attempt_of}
use Rattle.sc_desk.specs.Shelves.{IsShelvedOf, as_shelved, shelf_if, shelf_in, with_key_of, with_more, without_key}
use Rattle.sc_desk.specs.Sound.{IsSoundDesk}
use Rattle.sc_desk.proofs.KeepLemmas.{KeepsShelf, in_time_later}
use Rattle.sc_desk.proofs.PassLemmas.{EndsEmpty, IsPutOff}

abbrev Shelf : Type 0
Shelf = List (ShelvedReport ReportData)

-- ---- what is put off

-- ---- what the core has

-- the core's reports behind those that it had
drop_front : {A : Type 0} (xs ys : List A) → drop (length xs) (xs ++ ys) ≡ ys
drop_front [] ys = refl
drop_front (x ∷ xs) ys = drop_front xs ys

map_front : {A B : Type 0} (f : A → B) (xs ys : List A) → map f (xs ++ ys) ≡ map f xs ++ map f ys
map_front f [] ys = refl
map_front f (x ∷ xs) ys = ap (λ zs. f x ∷ zs) (map_front f xs ys)

-- the core's reports behind those of the desk are the new ones
pub behind :
    (shelf : Shelf) (core more news : List Shelved) → map as_shelved shelf ≡ core
    → more ≡ core ++ news → drop (length shelf) more ≡ news
behind shelf core more news tie is =
    ap₂ (λ n xs. drop n xs) (sym (length-map shelf as_shelved) ∙ ap length tie) is
    ∙ drop_front core news

-- how many the core has
pub shelf_length :
    (shelf : Shelf) (core more news : List Shelved) → map as_shelved shelf ≡ core
    → more ≡ core ++ news → length more ≡ length shelf + length news
shelf_length shelf core more news tie is =
    ap length is ∙ length-append core news
    ∙ ap (λ (n : ℕ). n + length news) (sym (ap length tie) ∙ length-map shelf as_shelved)

-- a report that is put off is what the core has of it
put_off_alike :
    (c : CoreData) (report : ReportData) (news : List Shelved)
    → All (IsPutOff c (attempt_of report) (outcome_of report.finding)) news
    → map as_shelved (map (with_key_of report) news) ≡ news
put_off_alike c report [] all = refl
put_off_alike c report (s ∷ news) all =
    let one = All-head (IsPutOff c (attempt_of report) (outcome_of report.finding)) s news all in
    let rest = put_off_alike c report news
    (All-tail (IsPutOff c (attempt_of report) (outcome_of report.finding)) s news all) in
    ap₂ (λ x xs. x ∷ xs)
    (ap₂ (λ a o. record s { attempt = a; outcome = o }) (sym one.attempt) (sym one.outcome_is))
    rest

-- the reports with those put off are what the core has with these
pub more_tie :
    (c : CoreData) (shelf : Shelf) (report : ReportData) (core more news : List Shelved)
    → map as_shelved shelf ≡ core → more ≡ core ++ news
    → All (IsPutOff c (attempt_of report) (outcome_of report.finding)) news
    → map as_shelved (with_more shelf report more) ≡ more
more_tie c shelf report core more news tie is all =
    map_front as_shelved shelf (map (with_key_of report) (drop (length shelf) more))
    ∙ ap₂ (λ xs ys. xs ++ ys) tie
    (ap (λ ss. map as_shelved (map (with_key_of report) ss)) (behind shelf core more news tie is)
    ∙ put_off_alike c report news all)
    ∙ sym is

-- ---- what is taken off

-- the report under a key, in the core and on the desk
pub under_alike : (shelf : Shelf) (core : List Shelved) (key : ℕ) → map as_shelved shelf ≡ core
    → find (has_key key) core ≡ option_map as_shelved (find (is_under key) shelf)
under_alike shelf core key tie =
    ap (λ ss. find (has_key key) ss) (sym tie)
    ∙ find_alike shelf
  where
    find_alike : (shelf : Shelf)
        → find (has_key key) (map as_shelved shelf)
        ≡ option_map as_shelved (find (is_under key) shelf)
    find_alike [] = refl
    find_alike (s ∷ shelf) = by (s.key == key) (find_alike shelf)
      where
        by : (b : Bool)
            → find (has_key key) (map as_shelved shelf)
            ≡ option_map as_shelved (find (is_under key) shelf)
            → cond b (Some (as_shelved s)) (find (has_key key) (map as_shelved shelf))
            ≡ option_map as_shelved (cond b (Some s) (find (is_under key) shelf))
        by true rest = refl
        by false rest = rest

-- without it the reports are what the core has without it
pub without_tie : (shelf : Shelf) (core : List Shelved) (key : ℕ) → map as_shelved shelf ≡ core
    → map as_shelved (without_key shelf key) ≡ filter (λ s. not (has_key key s)) core
without_tie shelf core key tie =
    alike shelf ∙ ap (λ ss. filter (λ s. not (has_key key s)) ss) tie
  where
    alike : (shelf : Shelf)
        → map as_shelved (without_key shelf key)
        ≡ filter (λ s. not (has_key key s)) (map as_shelved shelf)
    alike [] = refl
    alike (s ∷ shelf) = by (s.key == key) (alike shelf)
      where
        by : (b : Bool)
            → map as_shelved (without_key shelf key)
            ≡ filter (λ s. not (has_key key s)) (map as_shelved shelf)
            → map as_shelved (cond (not b) (s ∷ without_key shelf key) (without_key shelf key))
            ≡ cond (not b) (as_shelved s ∷ filter (λ s. not (has_key key s)) (map as_shelved shelf))
            (filter (λ s. not (has_key key s)) (map as_shelved shelf))
        by true rest = rest
        by false rest = ap (λ ss. as_shelved s ∷ ss) rest

-- a report has the same key on the desk and in the core
got_key : (shelf : Shelf) (i : ℕ) (d : ShelvedReport ReportData)
    → (slice_index_or (map as_shelved shelf) i (as_shelved d)).key ≡ (slice_index_or shelf i d).key
got_key [] i d = refl
got_key (s ∷ shelf) zero d = refl
got_key (s ∷ shelf) (suc i) d = got_key shelf i d

-- the keys on the desk rise as those in the core do
pub keys_rise : (shelf : Shelf) (core : List Shelved) → map as_shelved shelf ≡ core
    → AllPairs (λ (s t : Shelved). s.key < t.key) core → AllPairs IsBefore shelf
keys_rise shelf core tie rising =
    back shelf (subst (λ ss. AllPairs (λ (s t : Shelved). s.key < t.key) ss) (sym tie) rising)
  where
    back : (shelf : Shelf) → AllPairs (λ (s t : Shelved). s.key < t.key) (map as_shelved shelf)
        → AllPairs IsBefore shelf
    back shelf h i j d lt l =
        let pair = h i j (as_shelved d) lt (rw (length-map shelf as_shelved) l) in
        let one = got_key shelf i d in
        let two = got_key shelf j d in
        omega (arith, pair, one, two)

-- ---- what is kept

-- the shelf where an entry has left it so, while the job runs
pub shelf_keeps :
    (work : WorkData) (d after : DeskData) (shelf : Shelf)
    → after.shelf ≡ shelf_in (core_of after) shelf → EndsEmpty (core_of after)
    → (job_runs (core_of after) ≡ true → map as_shelved shelf ≡ (core_of after).shelf)
    → (job_runs (core_of after) ≡ true → All (IsShelvedOf work d.job) shelf)
    → (job_runs (core_of after) ≡ true
    → All (λ s. IsInTime work (core_of after).told s.report.finding) shelf)
    → KeepsShelf work d after
shelf_keeps work d after shelf is ends tie shelved in_time =
    by (job_runs (core_of after)) refl is
  where
    by : (b : Bool) → job_runs (core_of after) ≡ b → after.shelf ≡ shelf_if b shelf
        → KeepsShelf work d after
    by true runs e =
        record {
          tie = ap (λ ss. map as_shelved ss) e ∙ tie runs;
          shelved = subst (λ ss. All (IsShelvedOf work d.job) ss) (sym e) (shelved runs);
          in_time = subst (λ (ss : Shelf).
              All (λ s. IsInTime work (core_of after).told s.report.finding) ss) (sym e)
              (in_time runs);
          over = λ over. absurd (clash runs over);
        }
    by false over e =
        record {
          tie = ap (λ ss. map as_shelved ss) e ∙ sym (ends over);
          shelved = subst (λ ss. All (IsShelvedOf work d.job) ss) (sym e)
              (All-nil (IsShelvedOf work d.job));
          in_time = subst (λ (ss : Shelf).
              All (λ s. IsInTime work (core_of after).told s.report.finding) ss) (sym e)
              (All-nil (λ (s : ShelvedReport ReportData).
              IsInTime work (core_of after).told s.report.finding));
          over = λ h. e;
        }

-- a core whose desk's shelf is empty has an empty one
pub ends_so : (work : WorkData) (d : DeskData) → IsSoundDesk work d → EndsEmpty (core_of d)
ends_so work d sound over = sym sound.shelf ∙ ap (λ ss. map as_shelved ss) (sound.over over)

-- what is on the shelf stays in time
pub all_later :
    (work : WorkData) (told more : ℕ) (shelf : Shelf) → told ≤ more
    → All (λ s. IsInTime work told s.report.finding) shelf
    → All (λ s. IsInTime work more s.report.finding) shelf
all_later work told more shelf le all =
    All-weaker (λ (s : ShelvedReport ReportData). IsInTime work told s.report.finding)
    (λ s. IsInTime work more s.report.finding)
    (λ s h. in_time_later work told more s.report.finding le h) shelf all

-- the shelf that an entry leaves as it was
pub same_keeps :
    (work : WorkData) (d after : DeskData) → IsSoundDesk work d
    → (core_of d).told ≤ (core_of after).told → (EndsEmpty (core_of d) → EndsEmpty (core_of after))
    → (job_runs (core_of after) ≡ true → (core_of after).shelf ≡ (core_of d).shelf)
    → after.shelf ≡ shelf_in (core_of after) d.shelf → KeepsShelf work d after
same_keeps work d after sound told ends same is =
    shelf_keeps work d after d.shelf is (ends (ends_so work d sound))
    (λ runs. sound.shelf ∙ sym (same runs)) (λ runs. sound.shelved)
    (λ runs. all_later work (core_of d).told (core_of after).told d.shelf told sound.in_time)
