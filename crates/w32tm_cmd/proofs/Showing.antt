-- What follows from a run of `/show` for each answer.
use Rattle.std.proofs.Common.{◌≡◌, ℕ, List, length, refl, arith}
use Rattle.base_specs.specs.Counts.{Fails, Rose}
use Rattle.ms_auth.specs.Packet.{IsPacketLength}
use Rattle.ms_auth.proofs.Uniqueness.{packet_length}
use Rattle.dc_sign.specs.declared.outcome.Refusal.TheVariants.{BadLength}
use Rattle.edge_seen.specs.Seen.{Seen}
use Rattle.w32tm_cmd.specs.Seen.{HasNoFault}
use Rattle.w32tm_cmd.specs.Show.{Shows, IsShowAnswer, ShowPromise}
use Rattle.w32tm_text.specs.declared.status.Status.{Status}
use Rattle.w32tm_text.specs.declared.status.Status.TheVariants.{Done, WriteFault, BadRequest}

show_answer : (bytes : List ℕ) (before now : Seen) (status : Status) → Shows bytes before now status → IsShowAnswer status
show_answer bytes before now Done shows = tt
show_answer bytes before now WriteFault shows = tt
show_answer bytes before now (BadRequest reason) shows = shows.is
show_answer bytes before now _ shows = shows

-- what was refused is no message
refused_length : (bytes : List ℕ) (before now : Seen) (status : Status) → Shows bytes before now status → status ≡ BadRequest BadLength → ¬ IsPacketLength (length bytes)
refused_length bytes before now Done shows is = cc is
refused_length bytes before now WriteFault shows is = cc is
refused_length bytes before now (BadRequest reason) shows is = shows.no_message
refused_length bytes before now _ shows is = absurd shows

-- what is no message was refused
length_refused : (bytes : List ℕ) (before now : Seen) (status : Status) → Shows bytes before now status → ¬ IsPacketLength (length bytes) → status ≡ BadRequest BadLength
length_refused bytes before now Done shows none = absurd (none (packet_length shows.message bytes shows.spelled))
length_refused bytes before now WriteFault shows none = absurd (none (packet_length shows.message bytes shows.spelled))
length_refused bytes before now (BadRequest reason) shows none = let is = shows.is in cc is
length_refused bytes before now _ shows none = absurd shows

-- what failed raised its count
rose : (before now : ℕ) → Fails before now → Rose before now
rose before now fails = omega (arith, fails.once)

-- a run without a fault, of bytes that spell a message, is done
shown : (bytes : List ℕ) (before now : Seen) (status : Status) → HasNoFault before now → IsPacketLength (length bytes) → Shows bytes before now status → status ≡ Done
shown bytes before now Done none message shows = refl
shown bytes before now WriteFault none message shows = absurd (none.write (rose _ _ shows.cause))
shown bytes before now (BadRequest reason) none message shows = absurd (shows.no_message message)
shown bytes before now _ none message shows = absurd shows

pub promises : (bytes : List ℕ) (before now : Seen) (result : Status) → Shows bytes before now result → ShowPromise bytes before now result
promises bytes before now result shows = record {
  runs = shows;
  answers = show_answer bytes before now result shows;
  exact = (refused_length bytes before now result shows, length_refused bytes before now result shows);
  complete = λ none message. shown bytes before now result none message shows;
}
