use Rattle.std.proofs.Common.{ap, sym}
use Rattle.w32t_calls.specs.Calling.{Client}
use Rattle.w32t_calls.proofs.Calling.{asks_later, told_by_left}
use Rattle.w32t_calls.proofs.caller.Caller.sync.Goals as goal

pub returns-clause-asks : goal.returns-clause-asks
returns-clause-asks g c =
    asks_later _ _ _ _ _ _ _ _ _ (ap (λ (k : Client). k.reader) (sym c.self.view_is)) c.ask_for_word-told.ensures.asks

pub returns-clause-told : goal.returns-clause-told
returns-clause-told g c bytes leaves not_read not_written =
    told_by_left _ _ _ _ _ _ _ _ bytes c.ask_for_word-told.ensures.asks leaves not_written not_read
