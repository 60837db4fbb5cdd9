use Rattle.std.proofs.Common.{refl}
use Rattle.sc_exec.proofs.ReceiptLemmas.{heard_owed}
use Rattle.sc_exec.proofs.receipts.log_post.Goals as goal

pub returns-in-Some-clause-works : goal.returns-in-Some-clause-works
returns-in-Some-clause-works c =
    heard_owed c.args.log.now _ c.args.attempt c.in-Some.post.0 c.in-Some.post.1
    c.requires.awaits.0 (record { exec = refl; entries = c.push_reserved.ensures.items })
