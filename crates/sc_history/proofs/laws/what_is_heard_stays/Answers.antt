use Rattle.sc_history.proofs.RulingLemmas.{bogus_stays, events_forget_at_one, others_forget_none, replays_go_forward}
use Rattle.sc_history.proofs.laws.what_is_heard_stays.Goals as goal

pub returns-clause-forward : goal.returns-clause-forward
returns-clause-forward c = replays_go_forward

pub returns-clause-bogus : goal.returns-clause-bogus
returns-clause-bogus c = bogus_stays

pub returns-clause-forgets : goal.returns-clause-forgets
returns-clause-forgets c = events_forget_at_one

pub returns-clause-others : goal.returns-clause-others
returns-clause-others c = others_forget_none
