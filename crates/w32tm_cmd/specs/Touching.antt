-- Which devices a command touches, for each of its answers.
use Rattle.std.specs.Prelude.{◌≡◌}
use Rattle.w32tm_text.specs.declared.status.Status.{Status}
use Rattle.w32tm_text.specs.declared.status.Status.TheVariants.{Done, BadCapture, BadRequest, NotResynced, ReadFault, WriteFault, DiskFault, BadKeeper, StampsSpent, ClockFault, EntropyFault}
use Rattle.w32tm_cmd.specs.declared.outside.Outside.{Outside}

-- `/sign` touches the input, the clock and the output; the input alone where a read failed, and no output where no
-- reply is written
abbrev pub SignTouches : {S O L C D E W : Type 0} → Outside S O L C D E W → Outside S O L C D E W → Status → Type 0
SignTouches old new ReadFault = new ≡ record old { capture_in = new.capture_in }
SignTouches old new ClockFault = new ≡ record old { capture_in = new.capture_in; clock = new.clock }
SignTouches old new (BadRequest reason) = new ≡ record old { capture_in = new.capture_in; clock = new.clock }
SignTouches old new _ = new ≡ record old { capture_in = new.capture_in; out = new.out; clock = new.clock }

-- `/show` touches the output, and nothing where it refuses
abbrev pub ShowTouches : {S O L C D E W : Type 0} → Outside S O L C D E W → Outside S O L C D E W → Status → Type 0
ShowTouches old new (BadRequest reason) = new ≡ old
ShowTouches old new _ = new ≡ record old { out = new.out }

-- `/dc` touches the settings, the link, the clock and the output; no output where a reading failed, and nothing but the
-- settings where there are none
abbrev pub DcTouches : {S O L C D E W : Type 0} → Outside S O L C D E W → Outside S O L C D E W → Status → Type 0
DcTouches old new Done =
    new ≡ record old { config = new.config; out = new.out; link = new.link; clock = new.clock }
DcTouches old new WriteFault =
    new ≡ record old { config = new.config; out = new.out; link = new.link; clock = new.clock }
DcTouches old new ClockFault = new ≡ record old { config = new.config; link = new.link; clock = new.clock }
DcTouches old new _ = new ≡ record old { config = new.config }

-- settings, link, clock, random words and output may have changed, and nothing else
abbrev pub TouchesAsked : {S O L C D E W : Type 0} → Outside S O L C D E W → Outside S O L C D E W → Type 0
TouchesAsked old new = new ≡ record old {
  config = new.config;
  out = new.out;
  link = new.link;
  clock = new.clock;
  entropy = new.entropy;
}

-- `/monitor` touches the settings, the link, the clock, the random words and the output, and nothing but the settings
-- where there are none
abbrev pub MonitorTouches : {S O L C D E W : Type 0} → Outside S O L C D E W → Outside S O L C D E W → Status → Type 0
MonitorTouches old new Done = TouchesAsked old new
MonitorTouches old new WriteFault = TouchesAsked old new
MonitorTouches old new ClockFault = TouchesAsked old new
MonitorTouches old new EntropyFault = TouchesAsked old new
MonitorTouches old new _ = new ≡ record old { config = new.config }

-- `/replay` touches the settings, the input and the output, and nothing but the settings where there are none or no
-- partner is among them
abbrev pub ReplayTouches : {S O L C D E W : Type 0} → Outside S O L C D E W → Outside S O L C D E W → Status → Type 0
ReplayTouches old new Done = new ≡ record old { config = new.config; capture_in = new.capture_in; out = new.out }
ReplayTouches old new (BadCapture at) =
    new ≡ record old { config = new.config; capture_in = new.capture_in; out = new.out }
ReplayTouches old new ReadFault = new ≡ record old { config = new.config; capture_in = new.capture_in; out = new.out }
ReplayTouches old new WriteFault = new ≡ record old { config = new.config; capture_in = new.capture_in; out = new.out }
ReplayTouches old new _ = new ≡ record old { config = new.config }

-- all but the input and the wire may have changed
abbrev pub TouchesLived : {S O L C D E W : Type 0} → Outside S O L C D E W → Outside S O L C D E W → Type 0
TouchesLived old new = new ≡ record new { capture_in = old.capture_in; wire = old.wire }

-- `/member` touches all but the input and the wire; the settings and the disk where that is of another version, and nothing but the
-- settings where there are none or no partner is among them
abbrev pub MemberTouches : {S O L C D E W : Type 0} → Outside S O L C D E W → Outside S O L C D E W → Status → Type 0
MemberTouches old new Done = TouchesLived old new
MemberTouches old new WriteFault = TouchesLived old new
MemberTouches old new DiskFault = TouchesLived old new
MemberTouches old new BadKeeper = new ≡ record old { config = new.config; disk = new.disk }
MemberTouches old new StampsSpent = TouchesLived old new
MemberTouches old new ClockFault = TouchesLived old new
MemberTouches old new EntropyFault = TouchesLived old new
MemberTouches old new _ = new ≡ record old { config = new.config }

-- `/simulate` touches the output and the capture
abbrev pub SimulateTouches : {S O L C D E W : Type 0} → Outside S O L C D E W → Outside S O L C D E W → Type 0
SimulateTouches old new = new ≡ record old { out = new.out; capture_out = new.capture_out }

-- `/resync` and `/query` touch the wire and the output, and the wire alone where there is no answer to print
abbrev pub AskTouches : {S O L C D E W : Type 0} → Outside S O L C D E W → Outside S O L C D E W → Status → Type 0
AskTouches old new Done = new ≡ record old { out = new.out; wire = new.wire }
AskTouches old new (NotResynced result) = new ≡ record old { out = new.out; wire = new.wire }
AskTouches old new WriteFault = new ≡ record old { out = new.out; wire = new.wire }
AskTouches old new _ = new ≡ record old { wire = new.wire }

-- all but the input may have changed
abbrev pub TouchesServed : {S O L C D E W : Type 0} → Outside S O L C D E W → Outside S O L C D E W → Type 0
TouchesServed old new = new ≡ record new { capture_in = old.capture_in }

-- `/service` touches all but the input; the settings and the disk where that is of another version, and nothing but the
-- settings where there are none or no partner is among them
abbrev pub ServiceTouches : {S O L C D E W : Type 0} → Outside S O L C D E W → Outside S O L C D E W → Status → Type 0
ServiceTouches old new Done = TouchesServed old new
ServiceTouches old new ReadFault = TouchesServed old new
ServiceTouches old new WriteFault = TouchesServed old new
ServiceTouches old new DiskFault = TouchesServed old new
ServiceTouches old new BadKeeper = new ≡ record old { config = new.config; disk = new.disk }
ServiceTouches old new StampsSpent = TouchesServed old new
ServiceTouches old new ClockFault = TouchesServed old new
ServiceTouches old new EntropyFault = TouchesServed old new
ServiceTouches old new _ = new ≡ record old { config = new.config }
