use Rattle.std.proofs.Common.{refl, ap}
use Rattle.std.proofs.lemmas.Result.{err_from_is_err_and}
use Rattle.stamp_keep.specs.Keep.{kept_mark}
use Rattle.run_deeds.specs.Weaving.{ReadingFor, ReceiptNow, Turns, arrives, gets, lost, none, quiet}
use Rattle.member_run.proofs.Receiving.{got_part, lost_part, quiet_part}
use Rattle.member_run.proofs.running.Running.receive.Goals as goal

pub returns-in_err-arrive-in-Got-clause-part : goal.returns-in_err-arrive-in-Got-clause-part
returns-in_err-arrive-in-Got-clause-part g c =
    let p = err_from_is_err_and c.from_residual.result c.from_residual.ensures.1 in
    let kept = ap kept_mark c.arrive.ensures.sends_none.keeper in
    rw (p.1, p.2, kept)
    (λ others left told failed gave counts history stands.
    got_part others _ (ReceiptNow left) (ReadingFor left c.in-Got.from c.in-Got.bytes) (Turns left) history c.arrive.new.self.member c.in-Got.from c.in-Got.bytes _ _ _ _ _ _ _ _ _ _ _ _ _ _
    (rw c.in-Got.is at gave) (rw c.in-Got.is at counts) tt (gets none) (λ time cs ls need s. gets (arrives s)) (λ time. tt)
    (c.in_err-arrive-in-Got.ensures.takes others history stands))

pub returns-in_ok-arrive-in-Got-clause-part : goal.returns-in_ok-arrive-in-Got-clause-part
returns-in_ok-arrive-in-Got-clause-part g c =
    let kept = ap kept_mark c.arrive.ensures.sends_none.keeper in
    rw kept
    (λ others left told failed gave counts history stands.
    got_part others _ (ReceiptNow left) (ReadingFor left c.in-Got.from c.in-Got.bytes) (Turns left) history c.arrive.new.self.member c.in-Got.from c.in-Got.bytes _ _ _ _ _ _ _ _ _ _ _ _ _ _
    (rw c.in-Got.is at gave) (rw c.in-Got.is at counts) tt (gets none) (λ time cs ls need s. gets (arrives s)) (λ time. tt)
    (c.in_ok-arrive-in-Got.ensures.takes others history stands))

pub returns-in-Quiet-clause-part : goal.returns-in-Quiet-clause-part
returns-in-Quiet-clause-part g c =
    rw c.count_quiet.ensures
    (λ others left told failed gave counts history stands.
    quiet_part others _ (ReceiptNow left) (Turns left) history c.args.self.now.member _ _ _ _ _ _ _ _ _ _ c.args.self.now.totals refl stands
    (rw c.in-Quiet.is at gave) (rw c.in-Quiet.is at counts) (quiet none))

pub returns-in-Failed-clause-part : goal.returns-in-Failed-clause-part
returns-in-Failed-clause-part g c =
    rw c.count_lost.ensures
    (λ others left told failed gave counts history stands.
    lost_part others _ (ReceiptNow left) (Turns left) history c.args.self.now.member _ _ _ _ _ _ _ _ _ _ c.args.self.now.totals refl stands
    (rw c.in-Failed.is at gave) (rw c.in-Failed.is at counts) (lost none))
