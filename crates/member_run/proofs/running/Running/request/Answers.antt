use Rattle.std.proofs.Common.{[], refl, ap, rules, w64}
use Rattle.std.proofs.lemmas.Int.{to_z-of_z}
use Rattle.std.proofs.lemmas.Result.{err_from_is_err_and}
use Rattle.capture_fmt.specs.declared.event.Event.TheVariants.{Resync}
use Rattle.stamp_keep.specs.Keep.{kept_mark}
use Rattle.sntp_core.specs.Standing.{conf_of, words_of}
use Rattle.run_deeds.specs.Weaving.{CallWord, behind_request, call_draws, call_reads, none, one_call}
use Rattle.member_run.specs.Running.{member_of, totals_of}
use Rattle.member_run.proofs.Counts.{asks_follow}
use Rattle.member_run.proofs.Following.{covers_cut, covers_going, covers_still, cut_keeper, going_on}
use Rattle.member_run.proofs.Parting.{last_resync}
use Rattle.member_run.proofs.Requesting.{asks_reserved, call_behind, no_count, no_reading, no_word, takes_drawn}
use Rattle.member_run.proofs.running.Running.request.Goals as goal

pub take-requires-clause-admitted : goal.take-requires-clause-admitted
take-requires-clause-admitted g c =
    let going = c.in_ok-ensure_count.ensures.going in
    let member = c.ensure_count.new.self.member in
    asks_follow (conf_of member) (words_of member) (Resync c.in_ok-now.now c.in_ok-word.word c.args.flags) _ _ refl going.begun.begun going.begun.last c.in_ok-ensure_count.ensures.room c.in_ok-ensure_count.ensures.below

pub returns-in_err-ensure_count-clause-part : goal.returns-in_err-ensure_count-clause-part
returns-in_err-ensure_count-clause-part g c =
    let p = err_from_is_err_and c.from_residual.result c.from_residual.ensures.1 in
    let e = c.in_err-ensure_count.ensures in
    rw (p.1, p.2, e.err)
    (λ others wait history stands.
    no_count others _ (one_call wait c.args.flags) (behind_request wait []) history c.args.self.now.member _ _ _ _ _ _ _ _ _ _ _ _ _ _ _ _ refl stands tt tt e.cause (λ is. e.never_version (cc is)))

pub returns-in_err-now-clause-part : goal.returns-in_err-now-clause-part
returns-in_err-now-clause-part g c =
    let p = err_from_is_err_and c.from_residual-in_err-now.result c.from_residual-in_err-now.ensures.1 in
    let member = ap member_of c.ensure_count.ensures.same in
    let totals = ap totals_of c.ensure_count.ensures.same in
    let gives = c.in_err-now.ensures.gives in
    rw (p.1, p.2, member, totals)
    (λ others wait history stands.
    no_reading others _ (one_call wait c.args.flags) (behind_request wait []) history c.args.self.now.member _ _ _ _ _ _ _ _ _ _ _ _ _ _ _ _ _ _ refl stands tt gives.0 gives.1 gives.2 c.in_ok-ensure_count.ensures.cause)

pub returns-in_err-word-clause-part : goal.returns-in_err-word-clause-part
returns-in_err-word-clause-part g c =
    let p = err_from_is_err_and c.from_residual-in_err-word.result c.from_residual-in_err-word.ensures.1 in
    let member = ap member_of c.ensure_count.ensures.same in
    let totals = ap totals_of c.ensure_count.ensures.same in
    let read = c.in_ok-now.ensures.gives in
    let drew = c.in_err-word.ensures.gives in
    rw (p.1, p.2, member, totals)
    (λ others wait history stands.
    no_word others _ (one_call wait c.args.flags) (CallWord (record { wait = wait; flags = c.args.flags }) c.in_ok-now.now []) (behind_request wait []) history c.args.self.now.member _ _ _ _ _ _ _ _ _ _ _ _ _ _ _ _ _ _ _ _ c.in_ok-now.now refl stands tt (call_reads none)
    drew.0 read.0 read.1 drew.1 drew.2 c.in_ok-ensure_count.ensures.cause)

pub returns-in_err-take-clause-part : goal.returns-in_err-take-clause-part
returns-in_err-take-clause-part g c =
    let p = err_from_is_err_and c.from_residual-in_err-take.result c.from_residual-in_err-take.ensures.1 in
    let member = ap member_of c.ensure_count.ensures.same in
    let totals = ap totals_of c.ensure_count.ensures.same in
    let time = to_z-of_z w64 c.in_ok-now.now (search rules) in
    let read = c.in_ok-now.ensures.gives in
    let drew = c.in_ok-word.ensures.gives in
    let kept = cut_keeper _ _ _ c.in_err-take.ensures.cut in
    rw (p.1, p.2, kept)
    (λ others wait history stands.
    let takes = rw (time, member, totals) at c.in_err-take.ensures.takes others history stands in
    takes_drawn others _ (one_call wait c.args.flags) (behind_request wait []) history (Resync c.in_ok-now.now c.in_ok-word.word c.args.flags) c.take.new.self.member _ _ _ _ _ _ _ _ _ _ _ _ _ _ _ _ _ _ _ _ _ _ c.in_ok-now.now c.in_ok-word.word
    read.0 read.1 drew.1 drew.2 c.in_ok-ensure_count.ensures.cause takes (λ cs ls need s. call_reads (call_draws s))
    (call_behind c.in_ok-now.now c.in_ok-word.word c.args.flags wait [])
    (last_resync _ history c.in_ok-now.now c.in_ok-word.word c.args.flags)
    (asks_reserved c.args.self.now.member history (Resync c.in_ok-now.now c.in_ok-word.word c.args.flags) _ _ _ refl stands c.requires.going.begun.last c.in_ok-ensure_count.ensures.reserves))

pub returns-clause-part : goal.returns-clause-part
returns-clause-part g c =
    let member = ap member_of c.ensure_count.ensures.same in
    let totals = ap totals_of c.ensure_count.ensures.same in
    let time = to_z-of_z w64 c.in_ok-now.now (search rules) in
    let read = c.in_ok-now.ensures.gives in
    let drew = c.in_ok-word.ensures.gives in
    let kept = ap kept_mark c.in_ok-take.ensures.taken.keeper in
    rw kept
    (λ others wait history stands.
    let takes = rw (time, member, totals) at c.in_ok-take.ensures.takes others history stands in
    takes_drawn others _ (one_call wait c.args.flags) (behind_request wait []) history (Resync c.in_ok-now.now c.in_ok-word.word c.args.flags) c.take.new.self.member _ _ _ _ _ _ _ _ _ _ _ _ _ _ _ _ _ _ _ _ _ _ c.in_ok-now.now c.in_ok-word.word
    read.0 read.1 drew.1 drew.2 c.in_ok-ensure_count.ensures.cause takes (λ cs ls need s. call_reads (call_draws s))
    (call_behind c.in_ok-now.now c.in_ok-word.word c.args.flags wait [])
    (last_resync _ history c.in_ok-now.now c.in_ok-word.word c.args.flags)
    (asks_reserved c.args.self.now.member history (Resync c.in_ok-now.now c.in_ok-word.word c.args.flags) _ _ _ refl stands c.requires.going.begun.last c.in_ok-ensure_count.ensures.reserves))

pub returns-clause-going : goal.returns-clause-going
returns-clause-going g c =
    let time = to_z-of_z w64 c.in_ok-now.now (search rules) in
    let taken = rw time at c.in_ok-take.ensures.taken in
    rw c.in_ok-take.ensures.disk_alone
    (going_on _ c.ensure_count.new.self c.take.new.self (Resync c.in_ok-now.now c.in_ok-word.word c.args.flags) _ refl c.in_ok-ensure_count.ensures.going c.in_ok-ensure_count.ensures.room taken)

pub returns-in_err-ensure_count-clause-covers : goal.returns-in_err-ensure_count-clause-covers
returns-in_err-ensure_count-clause-covers g c =
    rw c.in_err-ensure_count.ensures.err (covers_still _ _ c.args.self.now c.requires.going c.ensure_count.ensures.least)

pub returns-in_err-now-clause-covers : goal.returns-in_err-now-clause-covers
returns-in_err-now-clause-covers g c = covers_going _ c.ensure_count.new.self c.in_ok-ensure_count.ensures.going

pub returns-in_err-word-clause-covers : goal.returns-in_err-word-clause-covers
returns-in_err-word-clause-covers g c = covers_going _ c.ensure_count.new.self c.in_ok-ensure_count.ensures.going

pub returns-in_err-take-clause-covers : goal.returns-in_err-take-clause-covers
returns-in_err-take-clause-covers g c =
    let time = to_z-of_z w64 c.in_ok-now.now (search rules) in
    let cut = rw time at c.in_err-take.ensures.cut in
    rw c.in_err-take.ensures.disk_alone
    (covers_cut _ c.ensure_count.new.self c.take.new.self (Resync c.in_ok-now.now c.in_ok-word.word c.args.flags) refl c.in_ok-ensure_count.ensures.going c.in_ok-ensure_count.ensures.room cut)

pub returns-clause-covers : goal.returns-clause-covers
returns-clause-covers g c =
    let time = to_z-of_z w64 c.in_ok-now.now (search rules) in
    let taken = rw time at c.in_ok-take.ensures.taken in
    rw c.in_ok-take.ensures.disk_alone
    (covers_going _ c.take.new.self
    (going_on _ c.ensure_count.new.self c.take.new.self (Resync c.in_ok-now.now c.in_ok-word.word c.args.flags) _ refl c.in_ok-ensure_count.ensures.going c.in_ok-ensure_count.ensures.room taken))
