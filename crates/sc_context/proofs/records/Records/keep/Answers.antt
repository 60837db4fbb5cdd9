use Rattle.sc_context.specs.Records.{IsLogged}
use Rattle.sc_context.proofs.RecordLemmas.{all_zip_more}
use Rattle.sc_context.proofs.records.Records.keep.Goals as goal

pub returns-clause-kept : goal.returns-clause-kept
returns-clause-kept c = λ work kept.
    record {
      logged = all_zip_more (λ h logs. IsLogged h logs.items) c.args.self.now.histories.items
          c.push_reserved.new.self.items c.args.self.now.logs.items
          c.push_reserved-2.new.self.items c.args.history c.args.logs
          c.push_reserved.ensures.items c.push_reserved-2.ensures.items kept.logged
          c.requires.logged;
      given_up = kept.given_up;
    }
