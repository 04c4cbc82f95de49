use Rattle.std.proofs.lemmas.Result.{err_from_is_err_and}
use Rattle.service_run.specs.Profile.{profile_of}
use Rattle.service_run.proofs.Asked.{answers_bits, answers_source, answers_stopped, answers_sync}
use Rattle.service_run.proofs.answers.answer.Goals as goal

pub returns-in_err-result-in-Sync-clause-answers : goal.returns-in_err-result-in-Sync-clause-answers
returns-in_err-result-in-Sync-clause-answers g c =
    let p = err_from_is_err_and c.from_residual.result c.from_residual.ensures.1 in
    rw (c.in-Sync.is, p.1, p.2)
    (λ others history stands.
    answers_stopped _ (profile_of c.args.settings.now c.args.ranked.now) c.in-Sync.wait c.in-Sync.flags history _ _ _ _ _ _ _ c.in_err-result-in-Sync.field-0.0 (c.in_err-result-in-Sync.ensures.answers others history stands))

pub returns-in_ok-result-in-Sync-clause-answers : goal.returns-in_ok-result-in-Sync-clause-answers
returns-in_ok-result-in-Sync-clause-answers g c =
    rw c.in-Sync.is
    (λ others history stands.
    answers_sync _ (profile_of c.args.settings.now c.args.ranked.now) c.in-Sync.wait c.in-Sync.flags history _ _ _ _ _ _ _ c.in_ok-result-in-Sync.result (c.in_ok-result-in-Sync.ensures.answers others history stands))

pub returns-in-Bits-clause-answers : goal.returns-in-Bits-clause-answers
returns-in-Bits-clause-answers g c =
    rw (c.in-Bits.is, c.service_bits.ensures)
    (λ others history stands. answers_bits (profile_of c.args.settings.now c.args.ranked.now) history _ _ _ _ stands)

pub returns-in-Source-clause-answers : goal.returns-in-Source-clause-answers
returns-in-Source-clause-answers g c =
    rw c.in-Source.is
    (λ others history stands.
    answers_source (profile_of c.args.settings.now c.args.ranked.now) history _ _ _ _ c.source_name.result stands (c.source_name.ensures history stands))
