-- What the last report of an executor was, and what its log tells once it hears of it.
use Rattle.std.proofs.Common.{ℕ, ◌≡◌, ◌∙◌, ◌+◌, ◌<◌, ◌≤◌, ◌++◌, ◌-◌, suc, List, [], ◌∷◌, Option, Some, None, Result, Ok, Err, OnOk, get_or, length, take, refl, sym, ap, subst, false, true≢false, vec_capacity, vec_len, arith}
use Rattle.std.proofs.Math.Seq.{take-length, take-suc}
use Rattle.std.specs.Result.{is_err}
use Rattle.sc_ids.specs.declared.attempts.AttemptId.{AttemptId}
use Rattle.sc_core.specs.HandOuts.{HandOutData}
use Rattle.sc_core.specs.declared.answers.Answer.{Answer}
use Rattle.sc_core.specs.declared.answers.Answer.TheVariants as says
use Rattle.sc_core.specs.declared.entries.Entry.{Entry}
use Rattle.sc_core.specs.declared.events.Event.TheVariants as events
use Rattle.sc_core.specs.declared.events.Outcome.{Outcome}
use Rattle.sc_logs.specs.Folds.{last_take}
use Rattle.sc_logs.specs.declared.logs.ExecLog.{ExecLog}
use Rattle.sc_exec.specs.Lefts.{IsAtWork, WasTold}
use Rattle.sc_exec.specs.Logging.{IsLogged, IsSameLog}
use Rattle.sc_exec.specs.Receipts.{Awaits, Hears, LogsPost, TellsNews, last_post, told_by}
use Rattle.sc_exec.specs.declared.receipts.News.{News}
use Rattle.sc_exec.specs.declared.receipts.News.TheVariants as news
use Rattle.sc_exec.proofs.OwedLemmas.{none_owed}
use Rattle.sc_exec.proofs.TurnLemmas.{works_on, works_same}

-- one entry more
pub last_post_more : (exec : ℕ) (last : Option Entry) (entries : List Entry) (e : Entry)
    → last_post exec last (entries ++ e ∷ []) ≡ told_by exec e (last_post exec last entries)
last_post_more exec last [] e = refl
last_post_more exec last (x ∷ xs) e = last_post_more exec (told_by exec x last) xs e

-- ---- from the end of a journal

-- one entry less
pub last_post_less : (exec : ℕ) (entries : List Entry) (many seen : ℕ) (e : Entry)
    → many ≡ length entries → seen < many → e ≡ get_or entries (many - 1 - seen) e
    → last_post exec None (take (many - seen) entries)
    ≡ told_by exec e (last_post exec None (take (many - 1 - seen) entries))
last_post_less exec entries many seen e is lt at =
    let one : many - seen ≡ suc (many - 1 - seen) = omega (arith, lt) in
    let within : many - 1 - seen < length entries = omega (arith, is, lt) in
    ap (λ (m : ℕ). last_post exec None (take m entries)) one
    ∙ ap (last_post exec None) (take-suc entries (many - 1 - seen) e within
    ∙ ap (λ (x : Entry). take (many - 1 - seen) entries ++ x ∷ []) (sym at))
    ∙ last_post_more exec None (take (many - 1 - seen) entries) e

-- the walk begins behind the last entry
pub post_begins : (exec : ℕ) (entries : List Entry) (many : ℕ) → many ≡ length entries
    → last_post exec None entries ≡ last_post exec None (take (many - 0) entries)
post_begins exec entries many is =
    let whole : many - 0 ≡ length entries = omega (arith, is) in
    ap (last_post exec None) (sym (take-length entries))
    ∙ ap (λ (n : ℕ). last_post exec None (take n entries)) (sym whole)

module _ (exec : ℕ) (entries : List Entry) (many seen : ℕ) (e : Entry) (told : News)
    (many_is : many ≡ length entries)
    (so_far : last_post exec None entries ≡ last_post exec None (take (many - seen) entries))
    (within : seen < many) (at : e ≡ get_or entries (many - 1 - seen) e)
    (tells : TellsNews exec e told) where
  abbrev before : List Entry
  before = take (many - 1 - seen) entries

  by_entry : last_post exec None entries ≡ told_by exec e (last_post exec None before)
  by_entry = so_far ∙ last_post_less exec entries many seen e many_is within at

  -- it is that report's
  pub post_found : told ≡ news.Report → Some e ≡ last_post exec None entries
  post_found is =
      let tells : (last : Option Entry) → told_by exec e last ≡ Some e =
      subst (λ (n : News). TellsNews exec e n) is tells in
      sym (by_entry ∙ tells (last_post exec None before))

  -- there was none since
  pub post_missing : told ≡ news.Task → None ≡ last_post exec None entries
  post_missing is =
      let tells : (last : Option Entry) → told_by exec e last ≡ None =
      subst (λ (n : News). TellsNews exec e n) is tells in
      sym (by_entry ∙ tells (last_post exec None before))

  -- it tells nothing
  pub post_before : told ≡ news.Nothing
      → last_post exec None entries ≡ last_post exec None (take (many - (seen + 1)) entries)
  post_before is =
      let tells : (last : Option Entry) → told_by exec e last ≡ last =
      subst (λ (n : News). TellsNews exec e n) is tells in
      let less : many - 1 - seen ≡ many - (seen + 1) = omega (arith, within) in
      by_entry ∙ tells (last_post exec None before)
      ∙ ap (λ (n : ℕ). last_post exec None (take n entries)) less

-- nothing is left to look at
pub post_nowhere : (exec : ℕ) (entries : List Entry) (many seen : ℕ) → many ≤ seen
    → last_post exec None entries ≡ last_post exec None (take (many - seen) entries)
    → None ≡ last_post exec None entries
post_nowhere exec entries many seen past so_far =
    let none : many - seen ≡ 0 = omega (arith, past) in
    sym (so_far ∙ ap (λ (n : ℕ). last_post exec None (take n entries)) none)

-- ---- it hears of it

pub hears_so : {T E : Type 0} (r : Result T E) (entries : List Entry) (log then : ExecLog)
    (a : AttemptId) (e : Entry) → Some e ≡ last_post log.exec None entries
    → OnOk r (LogsPost e log a then) → OnOk r (Hears entries log (Some a) then)
hears_so (Ok x) entries log then a e is logs = (e, sym is, logs)
hears_so (Err x) entries log then a e is logs = logs

-- nothing is owed any more once its report is logged
pub heard_owed : (log then : ExecLog) (a : AttemptId) (outcome : Outcome) (answer : Answer)
    → IsAtWork (a ∷ []) log → IsLogged log (events.Post a outcome) answer then
    → IsAtWork [] then
heard_owed log then a outcome answer works logged =
    subst (λ (owed : List AttemptId). IsAtWork owed then) (none_owed a)
    (works_on log then (events.Post a outcome) answer (a ∷ []) logged refl refl works)

-- where room was taken it is there
pub taken_room : {T E : Type 0} (r : Result T E) (room : Type 0) → is_err r ≡ false → OnOk r room
    → room
taken_room (Ok x) room fine is = is
taken_room (Err e) room fine is = absurd (true≢false fine)

-- an executor that has pushed its report waits to hear of it
pub sent_awaits : (log then : ExecLog) (h : HandOutData) (a : AttemptId) → a ≡ h.attempt
    → WasTold (says.Task h) log → IsAtWork (h.attempt ∷ []) log → IsSameLog log then
    → vec_len then.entries + 1 < vec_capacity then.entries → Awaits (Some a) then
sent_awaits log then h a is told works same room = (
  subst (λ (x : AttemptId). IsAtWork (x ∷ []) then) (sym is)
      (works_same log then (h.attempt ∷ []) same works),
  (h, ap (last_take None) same.1 ∙ told, sym is),
  room,
)
