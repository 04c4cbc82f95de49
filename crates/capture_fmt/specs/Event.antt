-- The events that have a record.
use Rattle.std.specs.Prelude.{◌<◌, ◌≤◌, ◌^◌, length}
use Rattle.base_specs.specs.Time.{IsReading}
use Rattle.capture_fmt.specs.declared.event.Event.{Event}
use Rattle.capture_fmt.specs.declared.event.Event.TheVariants.{Life, Tick, Resync, Arrive}

-- The moment is a reading, each other number is within its width, and there are at most 256 bytes.
abbrev pub EventFits : Event → Type 0
EventFits (Life now mark) = IsReading now × (mark < 2 ^ 32)
EventFits (Tick now word) = IsReading now × (word < 2 ^ 32)
EventFits (Resync now word flags) = IsReading now × (word < 2 ^ 32) × (flags < 2 ^ 32)
EventFits (Arrive now from bytes) = IsReading now × (from.ip < 2 ^ 32) × (from.port < 2 ^ 16) × (length bytes ≤ 256)
