use Rattle.sc_value.proofs.CutLemmas.{cut_at-byte}
use Rattle.sc_value.proofs.WordLaws.{AreWords-words_of, AreCut-cut_at}
use Rattle.sc_value.proofs.laws.laws_of_words.Goals as goal

pub returns-clause-words : goal.returns-clause-words
returns-clause-words c = λ t. AreWords-words_of t

pub returns-clause-cut : goal.returns-clause-cut
returns-clause-cut c = λ separator t some. AreCut-cut_at separator t some

pub returns-clause-byte : goal.returns-clause-byte
returns-clause-byte c = λ b t. cut_at-byte b t
