use Rattle.std.proofs.Common.{◌≡◌, ◌∙◌, inl, inr, List, [], ◌∷◌, ◌++◌, Some, ap, subst, sym}
use Rattle.std.specs.Option.{option_to_list}
use Rattle.sc_context.specs.Endings.{CanBeKept, given_by}
use Rattle.sc_context.specs.Goings.{HasRun, RunsFrom}
use Rattle.sc_context.specs.Records.{tried_in}
use Rattle.sc_core.specs.declared.journals.JobHistory.{JobHistory}
use Rattle.sc_context.specs.declared.records.GaveUp.{GaveUp}
use Rattle.sc_context.proofs.EndingLemmas.{histories_more}
use Rattle.sc_context.proofs.endings.end_job.Goals as goal

pub returns-in-Ok-clause-went : goal.returns-in-Ok-clause-went
returns-in-Ok-clause-went g c passed last to dir opened runs =
    let work = g.W.Naming.work in
    let state = g.F.Files.state in
    let went = c.in-Went.went in
    let gave_up = c.in-Went.gave_up in
    let from = subst (RunsFrom work state passed last to dir opened) c.in-Went.is runs in
    record {
      history = went.history;
      all = ◌∙◌ {A = List JobHistory} c.keep.ensures.histories
          (ap (λ hs. hs ++ went.history ∷ []) c.keep_given_up.ensures.histories);
      tried = tried_in gave_up;
      all_given = histories_more c.args.records.gave_up.items gave_up
          c.keep.new.self.gave_up.items
          (◌∙◌ {A = List GaveUp} c.keep.ensures.given c.keep_given_up.ensures.given);
      began = c.is_sound.ensures;
      ended = c.is_sound-in-Went.ensures;
      run = subst (λ rs. HasRun work passed last to dir opened (tried_in gave_up) went.history
          went.passed rs (state went.files)) c.in-Ok.is from.0;
    }

pub returns-in-Err-clause-over : goal.returns-in-Err-clause-over
returns-in-Err-clause-over g c passed last to dir opened runs =
    let work = g.W.Naming.work in
    let state = g.F.Files.state in
    let went = c.in-Went.went in
    let gave_up = c.in-Went.gave_up in
    let from = subst (RunsFrom work state passed last to dir opened) c.in-Went.is runs in
    inl (
      went.passed,
      record {
        history = went.history;
        all = ◌∙◌ {A = List JobHistory} c.keep.ensures.histories
            (ap (λ hs. hs ++ went.history ∷ []) c.keep_given_up.ensures.histories);
        tried = tried_in gave_up;
        all_given = histories_more c.args.records.gave_up.items gave_up
            c.keep.new.self.gave_up.items
            (◌∙◌ {A = List GaveUp} c.keep.ensures.given c.keep_given_up.ensures.given);
        began = c.is_sound.ensures;
        ended = c.is_sound-in-Went.ensures;
        run = subst (λ rs. HasRun work passed last to dir opened (tried_in gave_up) went.history
            went.passed rs (state went.files)) c.in-Err.is from.0;
      },
    )

pub returns-in-Refused-clause-over : goal.returns-in-Refused-clause-over
returns-in-Refused-clause-over g c passed last to dir opened runs =
    let work = g.W.Naming.work in
    let state = g.F.Files.state in
    let gave_up = c.in-Refused.gave_up in
    let from = subst (RunsFrom work state passed last to dir opened) c.in-Refused.is runs in
    inr (
      c.give_up.ensures.histories,
      (
        gave_up.history,
        histories_more c.args.records.gave_up.items (Some gave_up)
            c.give_up.new.self.gave_up.items c.give_up.ensures.given,
        from.1,
      ),
    )

pub returns-in-Ok-clause-given : goal.returns-in-Ok-clause-given
returns-in-Ok-clause-given g c =
    subst (λ run. c.keep.new.self.gave_up.items
    ≡ c.args.records.gave_up.items ++ option_to_list (given_by run))
    (sym c.in-Went.is)
    (◌∙◌ {A = List GaveUp} c.keep.ensures.given c.keep_given_up.ensures.given)

pub returns-in-Err-clause-given_over : goal.returns-in-Err-clause-given_over
returns-in-Err-clause-given_over g c =
    subst (λ run. c.keep.new.self.gave_up.items
    ≡ c.args.records.gave_up.items ++ option_to_list (given_by run))
    (sym c.in-Went.is)
    (◌∙◌ {A = List GaveUp} c.keep.ensures.given c.keep_given_up.ensures.given)

pub returns-in-Refused-clause-given_over : goal.returns-in-Refused-clause-given_over
returns-in-Refused-clause-given_over g c =
    subst (λ run. c.give_up.new.self.gave_up.items
    ≡ c.args.records.gave_up.items ++ option_to_list (given_by run))
    (sym c.in-Refused.is) c.give_up.ensures.given

pub returns-in-Ok-clause-recorded : goal.returns-in-Ok-clause-recorded
returns-in-Ok-clause-recorded g c =
    let work = g.W.Naming.work in
    c.keep.ensures.kept work
    (c.keep_given_up.ensures.kept work c.requires.before
    (subst (CanBeKept work) c.in-Went.is c.requires.run).1)

pub returns-in-Err-clause-kept : goal.returns-in-Err-clause-kept
returns-in-Err-clause-kept g c =
    let work = g.W.Naming.work in
    c.keep.ensures.kept work
    (c.keep_given_up.ensures.kept work c.requires.before
    (subst (CanBeKept work) c.in-Went.is c.requires.run).1)

pub returns-in-Refused-clause-kept : goal.returns-in-Refused-clause-kept
returns-in-Refused-clause-kept g c =
    let work = g.W.Naming.work in
    c.give_up.ensures.kept work c.requires.before
    (subst (CanBeKept work) c.in-Refused.is c.requires.run)
