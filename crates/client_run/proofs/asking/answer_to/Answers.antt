use Rattle.std.proofs.Common.{Err, Ok, refl, rules}
use Rattle.client_run.proofs.Answering.{bits_made, source_made, sync_made}
use Rattle.client_run.proofs.asking.answer_to.Goals as goal

pub returns-in_err-sync-in-Sync-clause-asks : goal.returns-in_err-sync-in-Sync-clause-asks
returns-in_err-sync-in-Sync-clause-asks g c =
    sync_made _ _ _ _ _ _ c.in-Sync.wait c.in-Sync.flags c.args.caller.now.calls (Err c.in_err-sync-in-Sync.field-0.0) _
    c.in_err-sync-in-Sync.ensures.asks c.requires.first c.in-Sync.is (search rules)

pub returns-in_err-bits-in-Bits-clause-asks : goal.returns-in_err-bits-in-Bits-clause-asks
returns-in_err-bits-in-Bits-clause-asks g c =
    bits_made _ _ _ _ _ _ c.args.caller.now.calls (Err c.in_err-bits-in-Bits.field-0.0) _
    c.in_err-bits-in-Bits.ensures.asks c.requires.first c.in-Bits.is (search rules)

pub returns-in_err-source-in-Source-clause-asks : goal.returns-in_err-source-in-Source-clause-asks
returns-in_err-source-in-Source-clause-asks g c =
    source_made _ _ _ _ _ _ c.args.caller.now.calls (Err c.in_err-source-in-Source.field-0.0) _
    c.in_err-source-in-Source.ensures.asks c.requires.first c.in-Source.is (search rules)

pub returns-in_ok-sync-in-Sync-clause-asks : goal.returns-in_ok-sync-in-Sync-clause-asks
returns-in_ok-sync-in-Sync-clause-asks g c =
    sync_made _ _ _ _ _ _ c.in-Sync.wait c.in-Sync.flags c.args.caller.now.calls (Ok c.in_ok-sync-in-Sync.field-0) _
    c.in_ok-sync-in-Sync.ensures.asks c.requires.first c.in-Sync.is refl

pub returns-in_ok-bits-in-Bits-clause-asks : goal.returns-in_ok-bits-in-Bits-clause-asks
returns-in_ok-bits-in-Bits-clause-asks g c =
    bits_made _ _ _ _ _ _ c.args.caller.now.calls (Ok c.in_ok-bits-in-Bits.field-0) _
    c.in_ok-bits-in-Bits.ensures.asks c.requires.first c.in-Bits.is refl

pub returns-in_ok-source-in-Source-clause-asks : goal.returns-in_ok-source-in-Source-clause-asks
returns-in_ok-source-in-Source-clause-asks g c =
    source_made _ _ _ _ _ _ c.args.caller.now.calls (Ok c.in_ok-source-in-Source.field-0) _
    c.in_ok-source-in-Source.ensures.asks c.requires.first c.in-Source.is refl
