-- What a drain leaves, report by report.
use Rattle.std.proofs.Common.{ℕ, ◌≡◌, ◌∙◌, ◌<◌, ◌≤◌, ◌+◌, ◌-◌, ◌++◌, List, [], ◌∷◌, Option, Some, None, Ok, length, refl, sym, ap, subst, append_assoc, append-nil, length-append, arith}
use Rattle.sc_lineage.specs.ScriptData.{WorkData}
use Rattle.sc_queue.specs.Rule.{as_list}
use Rattle.sc_queue.specs.declared.rules.Posted.{Posted}
use Rattle.sc_net.specs.Reports.{ReportData}
use Rattle.sc_desk.specs.DeskData.{DeskData, core_of}
use Rattle.sc_exec.specs.Draining.{AreEntered, Drains, EntersNext, Gains, HasMetNext, IsEntered, Kept, TellsStrange}
use Rattle.sc_exec.specs.Logging.{IsEarlyFor, PostsAs}
use Rattle.sc_exec.specs.declared.calls.Delivery.{Delivery}
use Rattle.sc_exec.specs.declared.calls.Delivery.TheVariants as deliveries
use Rattle.sc_exec.specs.declared.calls.Refused.{Refused}
use Rattle.sc_exec.specs.declared.calls.TooEarly.{TooEarly}
use Rattle.sc_exec.specs.declared.drains.Drained.TheVariants as draineds
use Rattle.sc_exec.specs.declared.drains.Strange.{Strange}
use Rattle.sc_exec.specs.declared.drains.Strange.TheVariants as stranges

-- ---- one report

-- what comes of it where the desk was called
pub enters_next : {W : _} (work : WorkData) (d after : DeskData) (p : Posted ReportData)
    (held : Option (Posted ReportData)) (delivery : Delivery W) (strange : Option Strange)
    → held ≡ None → PostsAs work d p.exec p.report delivery after
    → TellsStrange delivery strange → EntersNext work d p after held (Ok strange)
enters_next work d after p held deliveries.Received None none posts tells = (none, posts)
enters_next work d after p held (deliveries.Stranger back refused) (Some (stranges.Report told))
    none (unknown, of, same, stays) tells = (
      none,
      stays,
      (
        unknown,
        ap (λ (r : Refused). r.attempt) tells ∙ of,
      ),
    )
enters_next work d after p held (deliveries.Early back early) (Some (stranges.Early told)) none
    (known, is_early, same, stays) tells = (
      none,
      stays,
      (
        known,
        subst (λ (e : TooEarly). IsEarlyFor work (core_of d).told p.report.finding e) (sym tells)
            is_early,
      ),
    )
enters_next work d after p held delivery strange none posts tells = absurd tells

-- and what is known of a refusal whoever hears of it
pub met_next : {W : _} (work : WorkData) (d after : DeskData) (exec : ℕ) (report : ReportData)
    (delivery : Delivery W) (strange : Option Strange)
    → PostsAs work d exec report delivery after → TellsStrange delivery strange
    → HasMetNext strange
met_next work d after exec report deliveries.Received None posts tells = tt
met_next work d after exec report (deliveries.Stranger back refused)
    (Some (stranges.Report told)) posts tells = tt
met_next work d after exec report (deliveries.Early back early) (Some (stranges.Early told))
    (known, is_early, same, stays) tells =
    subst (λ (e : TooEarly). e.due < e.found) (sym tells) is_early.before
met_next work d after exec report delivery strange posts tells = absurd tells

-- ---- all of them

-- one more is entered
entered_more : (work : WorkData) (d mid after : DeskData) (done : List (Posted ReportData))
    (p : Posted ReportData) → AreEntered work d done mid → IsEntered work mid p after
    → AreEntered work d (done ++ p ∷ []) after
entered_more work d mid after [] p same is =
    (after, subst (λ (x : DeskData). IsEntered work x p after) same is, refl)
entered_more work d mid after (q ∷ qs) p (next, one, rest) is =
    (next, one, entered_more work next mid after qs p rest is)

-- each is one entry
entered_many : (work : WorkData) (d after : DeskData) (done : List (Posted ReportData))
    → AreEntered work d done after
    → length after.journal.entries ≡ length d.journal.entries + length done
entered_many work d after [] same =
    let is : length after.journal.entries ≡ length d.journal.entries =
    ap (λ (x : DeskData). length x.journal.entries) same in
    omega (arith, is)
entered_many work d after (p ∷ ps) (mid, (receipt, receives), rest) =
    let more : length after.journal.entries ≡ length mid.journal.entries + length ps =
    entered_many work mid after ps rest in
    let one : length mid.journal.entries ≡ length d.journal.entries + 1 =
    ap length receives.enters.entries ∙ length-append d.journal.entries _ in
    omega (arith, more, one)

pub gains_nothing : (work : WorkData) (k : Kept) → Gains work k k (as_list k.held)
gains_nothing work k =
    record {
      came = [];
      done = [];
      popped = sym (append-nil k.popped);
      order = append-nil (as_list k.held);
      entered = refl;
    }

-- where nothing was on its way
pub drained_none : (work : WorkData) (k after : Kept) → after.desk ≡ k.desk
    → after.popped ≡ k.popped → k.held ≡ None → after.held ≡ None
    → Drains work k after (Ok (draineds.All 0))
drained_none work k after desk popped none after_none = (
  record {
    came = [];
    done = [];
    popped = popped ∙ sym (append-nil k.popped);
    order = append-nil (as_list k.held) ∙ ap as_list none;
    entered = desk;
  },
  refl,
  after_none,
)

-- ---- the next one comes

module _ (work : WorkData) (k mid after : Kept) (more : List (Posted ReportData))
    (gains : Gains work k mid (as_list mid.held)) (popped : after.popped ≡ mid.popped ++ more) where
  came_next : after.popped ≡ k.popped ++ (gains.came ++ more)
  came_next =
      popped ∙ ap (λ (l : List (Posted ReportData)). l ++ more) gains.popped
      ∙ append_assoc k.popped gains.came more

  order_next : as_list k.held ++ (gains.came ++ more)
      ≡ gains.done ++ (as_list mid.held ++ more)
  order_next =
      sym (append_assoc (as_list k.held) gains.came more)
      ∙ ap (λ (l : List (Posted ReportData)). l ++ more) gains.order
      ∙ append_assoc gains.done (as_list mid.held) more

  -- none came, or it wasn't entered
  pub gains_left : (left : List (Posted ReportData)) → as_list mid.held ++ more ≡ left
      → after.desk ≡ mid.desk → Gains work k after left
  gains_left left is same =
      record {
        came = gains.came ++ more;
        done = gains.done;
        popped = came_next;
        order = order_next ∙ ap (λ (l : List (Posted ReportData)). gains.done ++ l) is;
        entered = subst (λ (d : DeskData). AreEntered work k.desk gains.done d) (sym same)
            gains.entered;
      }

  -- it was entered
  pub gains_more : (p : Posted ReportData) → as_list mid.held ++ more ≡ p ∷ []
      → IsEntered work mid.desk p after.desk → Gains work k after []
  gains_more p is entered =
      record {
        came = gains.came ++ more;
        done = gains.done ++ p ∷ [];
        popped = came_next;
        order = order_next ∙ ap (λ (l : List (Posted ReportData)). gains.done ++ l) is
            ∙ sym (append-nil (gains.done ++ p ∷ []));
        entered = entered_more work k.desk mid.desk after.desk gains.done p gains.entered
            entered;
      }

-- so entries are never fewer
pub gained_many : (work : WorkData) (k after : Kept) (left : List (Posted ReportData))
    → Gains work k after left → length k.desk.journal.entries ≤ length after.desk.journal.entries
gained_many work k after left gains =
    let many : length after.desk.journal.entries
    ≡ length k.desk.journal.entries + length gains.done =
    entered_many work k.desk after.desk gains.done gains.entered in
    omega (arith, many)

-- where none is left they are as many as entries
pub drained_all : (work : WorkData) (k after : Kept) (before count now : ℕ)
    → Gains work k after [] → before ≡ length k.desk.journal.entries
    → now ≡ length after.desk.journal.entries → count ≡ now - before → after.held ≡ None
    → Drains work k after (Ok (draineds.All count))
drained_all work k after before count now gains before_is now_is count_is none =
    let many : length after.desk.journal.entries
    ≡ length k.desk.journal.entries + length gains.done =
    entered_many work k.desk after.desk gains.done gains.entered in
    (gains, omega (arith, before_is, now_is, count_is, many), none)
