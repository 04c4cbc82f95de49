-- What a wire over TCP opens, and what its session gives and takes, where the bytes of the connection are known.
use Rattle.std.specs.Prelude.{◌≡◌, ◌≢◌, ◌⊎◌, ℕ, ℤ, pos, Bool, true, false, List, Option, Some, None}
use Rattle.std.specs.IoError.{error_kind, raw_os_error}
use Rattle.std.specs.declared.io.Error.{Error}
use Rattle.std.specs.declared.io.ErrorKind.{ErrorKind}
use Rattle.std.specs.declared.io.ErrorKind.TheVariants as error
use Rattle.edge_traits.specs.declared.sink.Put.{Put}
use Rattle.edge_traits.specs.declared.sink.Put.TheVariants as write
use Rattle.edge_traits.specs.declared.source.Take.{Take}
use Rattle.edge_traits.specs.declared.source.Take.TheVariants as read
use Rattle.edge_traits.specs.declared.wire.Opened.{Opened}
use Rattle.edge_traits.specs.declared.wire.Opened.TheVariants as opened
use Rattle.edge_io.specs.Held.{ReaderGives, WriterTakes}
use Rattle.edge_io.specs.declared.tcp_wire.Side.{Side}
use Rattle.edge_io.specs.declared.tcp_wire.Side.TheVariants.{Accepting, Connecting, Ended, Closed}

-- a port accepts connections
abbrev pub is_accepting : {Listener : Type 0} → Side Listener → Bool
is_accepting (Accepting listener) = true
is_accepting (Connecting to) = false
is_accepting Ended = false
is_accepting Closed = false

-- a listener stays, and an address is used up by one request
abbrev pub used_up : {Listener : Type 0} → Side Listener → Side Listener
used_up (Accepting listener) = Accepting listener
used_up (Connecting to) = Ended
used_up Ended = Ended
used_up Closed = Closed

-- The sessions of a listener never end, and an address has one or fails. No session comes after it. Without a socket each
-- request fails.
abbrev pub Answers : {Listener : Type 0} → Opened → Side Listener → Type 0
Answers answer (Accepting listener) = answer ≢ opened.NoMore
Answers answer (Connecting to) = answer ≢ opened.NoMore
Answers answer Ended = answer ≡ opened.NoMore
Answers answer Closed = answer ≡ opened.Failed

-- A read that is answered otherwise than Failed takes the bytes of the connection, which stays. After a failed one there is no
-- connection, and without one each read of a session fails.
abbrev pub SessionGives : {Stream : Type 0} → Take → List ℕ → (Stream → Option (List ℕ)) → Option Stream → Option Stream → Type 0
SessionGives (read.Bytes count) buf remaining (Some old) (Some new) = ReaderGives (read.Bytes count) buf (remaining old) (remaining new)
SessionGives read.End buf remaining (Some old) (Some new) = ReaderGives read.End buf (remaining old) (remaining new)
SessionGives read.Failed buf remaining (Some old) (Some new) = ⊥
SessionGives taken buf remaining (Some old) None = taken ≡ read.Failed
SessionGives taken buf remaining None (Some new) = ⊥
SessionGives taken buf remaining None None = taken ≡ read.Failed

-- A write that is done adds the whole piece to the connection, which stays. After a failed one there is no connection, and
-- without one each write fails.
abbrev pub SessionTakes : {Stream : Type 0} → Put → List ℕ → (Stream → Option (List ℕ)) → Option Stream → Option Stream → Type 0
SessionTakes write.Done piece contents (Some old) (Some new) = WriterTakes write.Done piece (contents old) (contents new)
SessionTakes write.Failed piece contents (Some old) (Some new) = ⊥
SessionTakes put piece contents (Some old) None = put ≡ write.Failed
SessionTakes put piece contents None (Some new) = ⊥
SessionTakes put piece contents None None = put ≡ write.Failed

-- ---- Errors of an accept that are those of one connection, or of a signal, so that the next connection may be there

-- by its kind
abbrev pub IsPassingKind : ErrorKind → Type 0
IsPassingKind kind = (kind ≡ error.ConnectionAborted) ⊎ ((kind ≡ error.ConnectionReset) ⊎ ((kind ≡ error.HostUnreachable)
    ⊎ ((kind ≡ error.Interrupted) ⊎ ((kind ≡ error.NetworkDown) ⊎ (kind ≡ error.NetworkUnreachable)))))

-- by its number on Linux, where that has no kind of its own: no network, a protocol's error, a protocol's option that isn't
-- there, an operation that isn't supported, a host that is down
abbrev pub IsPassingNumber : Option ℤ → Type 0
IsPassingNumber number = (number ≡ Some (pos 64)) ⊎ ((number ≡ Some (pos 71)) ⊎ ((number ≡ Some (pos 92))
    ⊎ ((number ≡ Some (pos 95)) ⊎ (number ≡ Some (pos 112)))))

-- by either
abbrev pub IsPassing : Error → Type 0
IsPassing failure = IsPassingKind (error_kind failure) ⊎ IsPassingNumber (raw_os_error failure)
