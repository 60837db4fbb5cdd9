use Rattle.std.proofs.Common.{[], ◌∷◌, subst, sym}
use Rattle.std.specs.Prelude.{All}
use Rattle.std.proofs.lemmas.List.Elements.{All-append, All-cons, All-nil}
use Rattle.sc_context.specs.Records.{IsGivenUp}
use Rattle.sc_context.proofs.records.Records.give_up.Goals as goal

pub returns-clause-kept : goal.returns-clause-kept
returns-clause-kept c = λ work kept given.
    record {
      logged = kept.logged;
      given_up = subst (All (IsGivenUp work)) (sym c.push_reserved.ensures.items)
          (All-append (IsGivenUp work) c.args.self.now.gave_up.items (c.args.gave_up ∷ [])
          kept.given_up
          (All-cons (IsGivenUp work) c.args.gave_up [] given (All-nil (IsGivenUp work))));
    }
