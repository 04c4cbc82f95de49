-- What a client keeps, and what a call of it does to the wire.
use Rattle.std.specs.Prelude.{◌≡◌, ◌≢◌, ℕ, ◌+◌, ◌<◌, Bool, true, List, Option, Result, Err}
use Rattle.base_specs.specs.Counts.{Fails}
use Rattle.edge_traits.specs.Wire.{Entry, WireWrites}
use Rattle.edge_traits.specs.declared.sink.Put.TheVariants as put
use Rattle.rpc_pdu.specs.declared.fault.PduFault.{PduFault}
use Rattle.rpc_pdu.specs.declared.pdu.Pdu.{Pdu}
use Rattle.rpc_pdu.specs.Pdu.{pdu_bytes}
use Rattle.rpc_pdu.specs.Reader.{Nexts, Reader}
use Rattle.w32t_calls.specs.declared.call_fault.CallFault.{CallFault}
use Rattle.w32t_calls.specs.declared.call_fault.CallFault.TheVariants as call_fault

-- where the next reply begins, how many calls were made, the bind among them, and whether a call may follow: the bind was
-- accepted, and no call answered an error
pub record Client : Type 0 where
  pub reader : Reader
  pub calls : ℕ
  pub bound : Bool

-- a client that may call: it is bound, and has a call identifier left
pub record MayCall (client : Client) : Type 0 where
  pub bound : client.bound ≡ true
  pub left : client.calls + 1 < 4294967296

-- The PDU was written in one write, and then one PDU was taken, by which the answer is such a one; or the write failed,
-- nothing was taken, and the answer is the other.
pub data Asks (pdu : Pdu) (is_open : Bool) (old new : Option (List Entry)) (reader later : Reader)
    (unwritten : Type 0) (answer : Result (Option Pdu) PduFault → Type 0) : Type 0 where
  Unwritten : (wrote : WireWrites put.Failed is_open (pdu_bytes pdu) old new) → (same : later ≡ reader) → unwritten
      → Asks pdu is_open old new reader later unwritten answer
  Answered : (first : Result (Option Pdu) PduFault) (between : Option (List Entry))
      → (wrote : WireWrites put.Done is_open (pdu_bytes pdu) old between)
      → (took : Nexts first reader later is_open between new) → answer first
      → Asks pdu is_open old new reader later unwritten answer

-- A read that failed raises the one count, a write that failed the other, and no other answer does.
pub record CallCounts {A : Type 0} (result : Result A CallFault) (reads reads_now writes writes_now : ℕ) : Type 0 where
  pub read : result ≡ Err call_fault.ReadFault → Fails reads reads_now
  pub no_read : result ≢ Err call_fault.ReadFault → reads_now ≡ reads
  pub write : result ≡ Err call_fault.WriteFault → Fails writes writes_now
  pub no_write : result ≢ Err call_fault.WriteFault → writes_now ≡ writes
