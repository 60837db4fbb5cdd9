use Rattle.std.proofs.Common.{◌≡◌, ◌∙◌, ℕ, Bool, not, ap, arith, sym}
use Rattle.sc_base.specs.Lists.{numbers_below}
use Rattle.sc_taskset.specs.TaskSetData.{fresh_set}
use Rattle.sc_dag.specs.Outputs.{is_done_by, missing_by}
use Rattle.sc_dag.specs.Submission.{is_map}
use Rattle.sc_dag.proofs.NumberLemmas.{room_above, room_full, room_left, room_spare, room_taken, some_fail}
use Rattle.sc_dag.proofs.outputs.missing_set.Goals.{then-not-is_done, else-not-is_done}
use Rattle.sc_dag.proofs.outputs.missing_set.Goals as goal

pub hold-requires-clause-above : goal.hold-requires-clause-above
hold-requires-clause-above c =
    let stage = c.args.stage.now in
    room_above (λ p. not (is_done_by c.args.tracker.now stage.target c.args.results.now p))
    stage.tasks c.loop-k.k c.loop-k.room c.loop-k.invariant

pub hold-requires-clause-spare : goal.hold-requires-clause-spare
hold-requires-clause-spare c =
    let stage = c.args.stage.now in
    room_spare (λ p. not (is_done_by c.args.tracker.now stage.target c.args.results.now p))
    stage.tasks c.loop-k.k c.loop-k.room c.loop-k.invariant
    (omega (arith, c.loop-k-test.true, c.tasks-k-end.ensures))

pub loop-k-preserved : goal.loop-k-preserved
loop-k-preserved c =
    let stage = c.args.stage.now in
    let t = c.args.tracker.now in
    let test : ℕ → Bool = λ p. not (is_done_by t stage.target c.args.results.now p) in
    let is : not c.is_done.result ≡ test c.loop-k.k =
    ap not (c.is_done.ensures
    ∙ ap (λ target. is_done_by t target c.args.results.now c.loop-k.k) c.target.ensures) in
    elim c.if-not-is_done.branch [
      | then-not-is_done w ↦
          rw w.room-is (room_taken test stage.tasks c.loop-k.k c.loop-k.room w.hold.new.self
          c.loop-k.invariant (sym is ∙ ap not w.if-not-is_done.true) w.hold.ensures)
      | else-not-is_done w ↦
          rw w.room-is (room_left test stage.tasks c.loop-k.k c.loop-k.room c.loop-k.invariant
          (sym is ∙ ap not w.if-not-is_done.false))
    ]

pub begin-requires : goal.begin-requires
begin-requires c =
    let stage = c.args.stage.now in
    let done : ℕ → Bool = is_done_by c.args.tracker.now stage.target c.args.results.now in
    let all : c.loop-k.k ≡ stage.tasks =
    omega (arith, c.loop-k-test.false, c.loop-k.auto.k-end, c.tasks-k-end.ensures) in
    rw (room_full (λ p. not (done p)) stage.tasks c.loop-k.k c.loop-k.room c.loop-k.invariant all)
    (some_fail done (numbers_below stage.tasks) c.requires.incomplete)

pub returns : goal.returns
returns c =
    let stage = c.args.stage.now in
    let done : ℕ → Bool = is_done_by c.args.tracker.now stage.target c.args.results.now in
    let missing = missing_by c.args.tracker.now stage c.args.results.now in
    let all : c.loop-k.k ≡ stage.tasks =
    omega (arith, c.loop-k-test.false, c.loop-k.auto.k-end, c.tasks-k-end.ensures) in
    c.begin.ensures
    ∙ ap (λ ps. fresh_set ps c.is_map.result c.args.limits c.epoch.result)
    (room_full (λ p. not (done p)) stage.tasks c.loop-k.k c.loop-k.room c.loop-k.invariant all)
    ∙ ap (λ b. fresh_set missing b c.args.limits c.epoch.result)
    (c.is_map.ensures ∙ ap is_map c.target-2.ensures)
    ∙ ap (fresh_set missing (is_map stage.target) c.args.limits) c.epoch.ensures
