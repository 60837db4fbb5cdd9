use Rattle.std.proofs.Common.{◌≡◌, true, refl, subst, sym}
use Rattle.sc_desk.specs.DeskData.{core_of}
use Rattle.sc_desk.specs.Dues.{IsEarly}
use Rattle.sc_desk.specs.Posts.{IsGiven}
use Rattle.sc_desk.proofs.PostLemmas.{early_known, known_given}
use Rattle.sc_desk.proofs.desks.Desk.post.Goals as goal

pub returns-then-not-is_given-clause-posted : goal.returns-then-not-is_given-clause-posted
returns-then-not-is_given-clause-posted g c = (
  λ known.
      let is : c.is_given.result ≡ true =
      c.is_given.ensures.1
      (subst (λ t. IsGiven c.args.self.now t) (sym c.task.ensures)
      (known_given c.args.self.now c.args.report known)) in
      cc,
  refl,
  refl,
)

pub returns-in-Some-clause-posted : goal.returns-in-Some-clause-posted
returns-in-Some-clause-posted g c =
    let is : c.is_given.result ≡ true = cc in
    let early = subst (λ f. IsEarly g.W.Naming.work (core_of c.args.self.now).told f c.in-Some.due)
    c.finding.ensures c.in-Some.ensures.early in (
      early_known g.W.Naming.work c.args.self.now c.args.report c.in-Some.due c.is_true.ensures
          (subst (λ t. IsGiven c.args.self.now t) c.task.ensures (c.is_given.ensures.0 is)) early,
      early,
      refl,
      refl,
    )
