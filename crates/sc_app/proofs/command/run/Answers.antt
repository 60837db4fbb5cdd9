use Rattle.sc_app.proofs.AbortLemmas.{tells_no_failure}
use Rattle.sc_app.proofs.AloneLemmas.{alone, grants-given}
use Rattle.sc_app.proofs.ExactlyLemmas.{tells_fault, tells_not_text, tells_plan_fault}
use Rattle.sc_app.proofs.WithoutTextLemmas.{tells_driver_fault, tells_never}
use Rattle.sc_app.proofs.ExistsLemmas.{tells_exists}
use Rattle.sc_app.proofs.GoodLemmas.{ends_well, zero_means_text}
use Rattle.sc_app.proofs.JobLemmas.{zero_shows_jobs}
use Rattle.sc_app.proofs.KeptLemmas.{given-kept, logged-kept}
use Rattle.sc_app.proofs.SourceLemmas.{over_out, over_weaker}
use Rattle.sc_app.proofs.SurvivalLemmas.{good_runs_survive}
use Rattle.sc_app.proofs.command.run.Goals as goal

pub returns-clause-reads : goal.returns-clause-reads
returns-clause-reads g c =
    over_weaker _ _ _ (λ before after is. is.reads) _ _ c.run_words-status.ensures.run

pub returns-clause-asked : goal.returns-clause-asked
returns-clause-asked g c =
    over_weaker _ _ _ (λ before after is. is.asked) _ _ c.run_words-status.ensures.run

pub returns-clause-headline : goal.returns-clause-headline
returns-clause-headline g c =
    over_weaker _ _ _ (λ before after is. zero_means_text _ _ _ _ is.ends) _ _
    c.run_words-status.ensures.run

pub returns-clause-histories : goal.returns-clause-histories
returns-clause-histories g c =
    over_weaker _ _ _
    (λ before after is. zero_shows_jobs c.scripts_have_one_reading.ensures
    c.plans_have_one_reading.ensures _ _ _ _ is) _ _ c.run_words-status.ensures.run

pub returns-clause-alone : goal.returns-clause-alone
returns-clause-alone g c =
    over_out _ _ _
    (λ before after is. alone c.grants_are_sole.ensures.sole c.grants_are_sole.ensures.winners
    _ _ _ _ is) _ _ c.run_words-status.ensures.run

pub returns-clause-grants : goal.returns-clause-grants
returns-clause-grants g c =
    grants-given c.grants_are_sole.ensures.sole c.grants_are_sole.ensures.winners _

pub returns-clause-ends : goal.returns-clause-ends
returns-clause-ends g c =
    over_weaker _ _ _ (λ before after is. is.ends) _ _ c.run_words-status.ensures.run

pub returns-clause-good : goal.returns-clause-good
returns-clause-good g c =
    over_weaker _ _ _ (λ before after is. ends_well c.meaning_is_lawful.ensures.saves
    c.laws_of_names.ensures.within _ _ _ _ is.ends) _ _ c.run_words-status.ensures.run

pub returns-clause-survives : goal.returns-clause-survives
returns-clause-survives g c =
    over_weaker _ _ _ (λ before after is. good_runs_survive c.meaning_is_lawful.ensures.saves
    c.laws_of_names.ensures.within _ _ _ _ is.ends) _ _ c.run_words-status.ensures.run

pub returns-clause-usage : goal.returns-clause-usage
returns-clause-usage g c =
    over_out _ _ _ (λ before after is. is.usage) _ _ c.run_words-status.ensures.run

pub returns-clause-text_exactly : goal.returns-clause-text_exactly
returns-clause-text_exactly g c =
    over_out _ _ _ (λ before after is. tells_not_text _ _ _ _ is.ends) _ _
    c.run_words-status.ensures.run

pub returns-clause-script_exactly : goal.returns-clause-script_exactly
returns-clause-script_exactly g c =
    over_out _ _ _
    (λ before after is. tells_fault c.scripts_have_one_reading.ensures _ _ _ _ is.ends) _ _
    c.run_words-status.ensures.run

pub returns-clause-never_exactly : goal.returns-clause-never_exactly
returns-clause-never_exactly g c =
    over_out _ _ _
    (λ before after is. tells_never c.scripts_have_one_reading.ensures
    c.plans_have_one_reading.ensures _ _ _ _ is.ends) _ _ c.run_words-status.ensures.run

pub returns-clause-exists_exactly : goal.returns-clause-exists_exactly
returns-clause-exists_exactly g c =
    over_weaker _ _ _
    (λ before after is. tells_exists c.scripts_have_one_reading.ensures
    c.plans_have_one_reading.ensures c.meaning_is_lawful.ensures.saves
    c.laws_of_names.ensures.within _ _ _ _ is) _ _ c.run_words-status.ensures.run

pub returns-clause-driver_exactly : goal.returns-clause-driver_exactly
returns-clause-driver_exactly g c =
    over_out _ _ _
    (λ before after is. tells_driver_fault c.scripts_have_one_reading.ensures
    c.plans_have_one_reading.ensures _ _ _ _ is.ends) _ _ c.run_words-status.ensures.run

pub returns-clause-plan_exactly : goal.returns-clause-plan_exactly
returns-clause-plan_exactly g c =
    over_out _ _ _
    (λ before after is. tells_plan_fault c.plans_have_one_reading.ensures _ _ _ _ is.ends) _ _
    c.run_words-status.ensures.run

pub returns-clause-no_failure : goal.returns-clause-no_failure
returns-clause-no_failure g c =
    over_weaker _ _ _
    (λ before after is. tells_no_failure c.scripts_have_one_reading.ensures
    c.plans_have_one_reading.ensures _ _ _ _ is.ends) _ _ c.run_words-status.ensures.run

pub returns-clause-logged : goal.returns-clause-logged
returns-clause-logged g c = logged-kept _ _ _ c.run_words-status.ensures.kept

pub returns-clause-given_up : goal.returns-clause-given_up
returns-clause-given_up g c =
    given-kept c.scripts_have_one_reading.ensures c.plans_have_one_reading.ensures _ _ _
    c.run_words-status.ensures.kept
