-- The key that a request asks for, and the tail of its reply.
use Rattle.std.specs.Prelude.{◌==◌, ◌%◌, ℕ, List, length, if◌then◌else◌, Option, Some, None}
use Rattle.ms_auth.specs.declared.packet.Kind.TheVariants.{Short, Extended}
use Rattle.ms_auth.specs.declared.packet.Tail.{Tail}
use Rattle.ms_auth.specs.declared.packet.Tail.TheVariants.{Plain, Short68, Ext120}
use Rattle.ms_auth.specs.Fields.{asks_previous_in, old_at, rid_at, short_rid_in}
use Rattle.dc_sign.specs.declared.keys.Asked.{Asked}

-- by the request's bytes: none where it is a header alone, or no message
abbrev pub asked_at : List ℕ → Option Asked
asked_at bytes =
    if length bytes == 68 then Some (record { rid = rid_at Short bytes; old = old_at Short bytes })
    else if length bytes == 120 then Some (record { rid = rid_at Extended bytes; old = old_at Extended bytes })
    else None

-- the same by the tail that was read
abbrev pub asked_in : Tail → Option Asked
asked_in Plain = None
asked_in (Short68 key_id sum) = Some (record { rid = short_rid_in key_id; old = asks_previous_in key_id })
asked_in (Ext120 rid reserved flags hints hash sum) = Some (record { rid = rid; old = flags % 2 == 1 })

-- the tail of a reply to a request with this tail, before its checksum is set
abbrev pub reply_tail : Tail → Tail
reply_tail Plain = Plain
reply_tail (Short68 key_id sum) = Short68 key_id sum
reply_tail (Ext120 rid reserved flags hints hash sum) = Ext120 rid 0 (flags % 2) 1 1 sum
