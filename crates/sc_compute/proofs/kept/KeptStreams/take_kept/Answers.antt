use Rattle.sc_compute.proofs.kept.KeptStreams.take_kept.Goals as goal

pub returns-in_err-insert-clause-right : goal.returns-in_err-insert-clause-right
returns-in_err-insert-clause-right c = λ work right.
    c.insert.ensures.right work (c.remove-stream.ensures.stream work right)
    (c.remove-stream.ensures.right work right)

pub returns-clause-right : goal.returns-clause-right
returns-clause-right c = λ work right.
    c.insert.ensures.right work (c.remove-stream.ensures.stream work right)
    (c.remove-stream.ensures.right work right)
