-- One session was asked for, and what is answered by how it ended.
use Rattle.std.proofs.Common.{◌≡◌, List, Option, Result, Ok, Err, refl, sym, subst}
use Rattle.edge_traits.specs.declared.wire.Opened.TheVariants as opened
use Rattle.edge_traits.specs.Wire.{Entry, Opens, Session, SessionTold}
use Rattle.w32t_calls.specs.declared.call.Call.{Call}
use Rattle.w32t_calls.specs.declared.call.Given.{Given}
use Rattle.w32t_calls.specs.declared.call_fault.CallFault.{CallFault}
use Rattle.w32t_calls.specs.declared.call_fault.CallFault.TheVariants as call_fault
use Rattle.client_run.specs.declared.asking.AskFault.{AskFault}
use Rattle.client_run.specs.Asking.{AsksOnce, CallEnds, EndsBy, Talks, asked_fault}

-- how a session ends after a fault of the call
ends_by_fault : (c : Call) (why : CallFault) (session : SessionTold) → CallEnds c (Err why) session → EndsBy c (Err (asked_fault why)) session
ends_by_fault c call_fault.Nak session is = (call_fault.Nak, refl, is)
ends_by_fault c call_fault.Rejected session is = (call_fault.Rejected, refl, is)
ends_by_fault c (call_fault.Fault status) session is = (call_fault.Fault status, refl, is)
ends_by_fault c (call_fault.BadReply place) session is = (call_fault.BadReply place, refl, is)
ends_by_fault c call_fault.Torn session is = (call_fault.Torn, refl, is)
ends_by_fault c call_fault.ReadFault session is = is
ends_by_fault c call_fault.WriteFault session is = is

pub asks_answered : (c : Call) (given : Given) (old mid new : Option (List Entry)) → Opens opened.Session old mid → Talks c (Ok given) mid new
    → AsksOnce c (Ok given) old new
asks_answered c given old mid new opens talks =
    let s = talks old opens.0 opens.1 in record { entry = Session s.0; one = s.1; ends = s.2 }

pub asks_in_vain : (c : Call) (why : CallFault) (result : Result Given AskFault) (old mid new : Option (List Entry)) → Opens opened.Session old mid → Talks c (Err why) mid new
    → result ≡ Err (asked_fault why) → AsksOnce c result old new
asks_in_vain c why result old mid new opens talks is =
    let s = talks old opens.0 opens.1 in
    subst (λ (r : Result Given AskFault). AsksOnce c r old new) (sym is) (record { entry = Session s.0; one = s.1; ends = ends_by_fault c why s.0 s.2 })
