-- A record has no flaw, whatever stands behind it, and no bytes begin with the records of two events.
use Rattle.std.proofs.Common.{◌≡◌, ℕ, ℤ, pos, negsuc, ◌<◌, ◌^◌, List, [], ◌∷◌, ◌++◌, length, get_or, drop, None, refl, sym, ◌∙◌, ap, arith, lit<, unsigned_abs}
use Rattle.std.proofs.lemmas.Int.{ints}
use Rattle.base_specs.specs.Time.{IsReading}
use Rattle.byte_codec.specs.Numbers.{number_bytes}
use Rattle.byte_codec.proofs.Numbers.{length-number_bytes, same_number}
use Rattle.byte_codec.proofs.Parts.{same_parts}
use Rattle.capture_fmt.specs.declared.event.Event.{Event}
use Rattle.capture_fmt.specs.declared.event.Event.TheVariants.{Life, Tick, Resync, Arrive}
use Rattle.capture_fmt.specs.Event.{EventFits}
use Rattle.capture_fmt.specs.Record as layout
use Rattle.capture_fmt.specs.Record.{event_bytes, record_flaw}
use Rattle.capture_fmt.proofs.Records.{past_magic, past_reading, past_word, past_port, past_datagram, read_life, read_tick, read_resync, read_arrive, reading_within}

-- the kind of an event's record
kind_of : Event → ℕ
kind_of (Life now mark) = layout.life_kind
kind_of (Tick now word) = layout.tick_kind
kind_of (Resync now word flags) = layout.resync_kind
kind_of (Arrive now from bytes) = layout.arrive_kind

-- the fields of an event's record, and what stands behind them
behind_kind : Event → List ℕ → List ℕ
behind_kind (Life now mark) rest = number_bytes 4 layout.magic_number ++ (number_bytes 8 (unsigned_abs now) ++ (number_bytes 4 mark ++ rest))
behind_kind (Tick now word) rest = number_bytes 8 (unsigned_abs now) ++ (number_bytes 4 word ++ rest)
behind_kind (Resync now word flags) rest = number_bytes 8 (unsigned_abs now) ++ (number_bytes 4 word ++ (number_bytes 4 flags ++ rest))
behind_kind (Arrive now from bytes) rest =
    number_bytes 8 (unsigned_abs now) ++ (number_bytes 4 from.ip ++ (number_bytes 2 from.port ++ (number_bytes 2 (length bytes) ++ (bytes ++ rest))))

parts_of : (e : Event) (rest : List ℕ) → event_bytes e ++ rest ≡ kind_of e ∷ behind_kind e rest
unfolding kind_of behind_kind
parts_of (Life now mark) rest = sym (read_life now mark _ _ _ rest refl refl refl)
parts_of (Tick now word) rest = sym (read_tick now word _ _ rest refl refl)
parts_of (Resync now word flags) rest = sym (read_resync now word flags _ _ _ rest refl refl refl)
parts_of (Arrive now from bytes) rest = sym (read_arrive now from bytes _ _ _ _ rest refl refl refl refl)

flaw_of_parts : (e : Event) (rest : List ℕ) → EventFits e → record_flaw (kind_of e ∷ behind_kind e rest) ≡ None
unfolding kind_of behind_kind record_flaw
flaw_of_parts (Life now mark) rest fits =
    past_magic (layout.reading ∷ layout.word ∷ []) _ _ refl
    ∙ past_reading (layout.word ∷ []) now _ (number_bytes 4 mark ++ rest) fits.0 refl
    ∙ past_word [] mark _ rest fits.1 refl
flaw_of_parts (Tick now word) rest fits = past_reading (layout.word ∷ []) now _ _ fits.0 refl ∙ past_word [] word _ rest fits.1 refl
flaw_of_parts (Resync now word flags) rest fits =
    past_reading (layout.word ∷ layout.word ∷ []) now _ _ fits.0 refl
    ∙ past_word (layout.word ∷ []) word _ (number_bytes 4 flags ++ rest) fits.1 refl
    ∙ past_word [] flags _ rest fits.2 refl
flaw_of_parts (Arrive now from bytes) rest fits =
    past_reading (layout.word ∷ layout.port ∷ layout.datagram ∷ []) now _ _ fits.0 refl
    ∙ past_word (layout.port ∷ layout.datagram ∷ []) from.ip _ (number_bytes 2 from.port ++ (number_bytes 2 (length bytes) ++ (bytes ++ rest))) fits.1 refl
    ∙ past_port (layout.datagram ∷ []) from.port _ (number_bytes 2 (length bytes) ++ (bytes ++ rest)) fits.2 refl
    ∙ past_datagram [] _ bytes rest fits.3 refl

pub no_flaw_of_event : (e : Event) (rest : List ℕ) → EventFits e → record_flaw (event_bytes e ++ rest) ≡ None
no_flaw_of_event e rest fits = ap record_flaw (parts_of e rest) ∙ flaw_of_parts e rest fits

-- a number, and then what stands behind it
same_numbers : (size m n : ℕ) (s t : List ℕ) → m < 256 ^ size → n < 256 ^ size → number_bytes size m ++ s ≡ number_bytes size n ++ t → (m ≡ n) × (s ≡ t)
same_numbers size m n s t fits also same =
    let parts = same_parts size (number_bytes size m) (number_bytes size n) s t (length-number_bytes size m) (length-number_bytes size n) same in
    (same_number size m n fits also parts.0, parts.1)

same_readings : (a b : ℤ) (s t : List ℕ) → IsReading a → IsReading b → number_bytes 8 (unsigned_abs a) ++ s ≡ number_bytes 8 (unsigned_abs b) ++ t → (a ≡ b) × (s ≡ t)
same_readings (pos a) (pos b) s t is also same =
    let parts = same_numbers 8 a b s t (reading_within (pos a) is).0 (reading_within (pos b) also).0 same in
    (ap pos parts.0, parts.1)
same_readings (pos a) (negsuc b) s t is also same = absurd (omega (arith, ints))
same_readings (negsuc a) b s t is also same = absurd (omega (arith, ints))

same_behind : (e f : Event) (x y : List ℕ) → EventFits e → EventFits f → kind_of e ≡ kind_of f → behind_kind e x ≡ behind_kind f y → (e ≡ f) × (x ≡ y)
unfolding kind_of behind_kind
same_behind (Life a m) (Life b n) x y fits also kind same =
    let magic = same_numbers 4 layout.magic_number layout.magic_number _ _ (lit< tt) (lit< tt) same in
    let reading = same_readings a b _ _ fits.0 also.0 magic.1 in
    let mark = same_numbers 4 m n x y fits.1 also.1 reading.1 in
    (λ i. Life (reading.0 i) (mark.0 i), mark.1)
same_behind (Life a m) (Tick b n) x y fits also kind same = absurd (omega (arith, kind))
same_behind (Life a m) (Resync b n k) x y fits also kind same = absurd (omega (arith, kind))
same_behind (Life a m) (Arrive b g t) x y fits also kind same = absurd (omega (arith, kind))
same_behind (Tick a m) (Life b n) x y fits also kind same = absurd (omega (arith, kind))
same_behind (Tick a m) (Tick b n) x y fits also kind same =
    let reading = same_readings a b _ _ fits.0 also.0 same in
    let word = same_numbers 4 m n x y fits.1 also.1 reading.1 in
    (λ i. Tick (reading.0 i) (word.0 i), word.1)
same_behind (Tick a m) (Resync b n k) x y fits also kind same = absurd (omega (arith, kind))
same_behind (Tick a m) (Arrive b g t) x y fits also kind same = absurd (omega (arith, kind))
same_behind (Resync a m l) (Life b n) x y fits also kind same = absurd (omega (arith, kind))
same_behind (Resync a m l) (Tick b n) x y fits also kind same = absurd (omega (arith, kind))
same_behind (Resync a m l) (Resync b n k) x y fits also kind same =
    let reading = same_readings a b _ _ fits.0 also.0 same in
    let word = same_numbers 4 m n _ _ fits.1 also.1 reading.1 in
    let flags = same_numbers 4 l k x y fits.2 also.2 word.1 in
    (λ i. Resync (reading.0 i) (word.0 i) (flags.0 i), flags.1)
same_behind (Resync a m l) (Arrive b g t) x y fits also kind same = absurd (omega (arith, kind))
same_behind (Arrive a f s) (Life b n) x y fits also kind same = absurd (omega (arith, kind))
same_behind (Arrive a f s) (Tick b n) x y fits also kind same = absurd (omega (arith, kind))
same_behind (Arrive a f s) (Resync b n k) x y fits also kind same = absurd (omega (arith, kind))
same_behind (Arrive a f s) (Arrive b g t) x y fits also kind same =
    let reading = same_readings a b _ _ fits.0 also.0 same in
    let ip = same_numbers 4 f.ip g.ip _ _ fits.1 also.1 reading.1 in
    let port = same_numbers 2 f.port g.port _ _ fits.2 also.2 ip.1 in
    let short : length s < 256 ^ 2 = omega (arith, fits.3) in
    let also_short : length t < 256 ^ 2 = omega (arith, also.3) in
    let size = same_numbers 2 (length s) (length t) _ _ short also_short port.1 in
    let parts = same_parts (length t) s t x y size.0 refl size.1 in
    (λ i. Arrive (reading.0 i) (record { ip = ip.0 i; port = port.0 i }) (parts.0 i), parts.1)

-- bytes that begin with the records of two events begin with one
pub one_record : (e f : Event) (x y : List ℕ) → EventFits e → EventFits f → event_bytes e ++ x ≡ event_bytes f ++ y → (e ≡ f) × (x ≡ y)
one_record e f x y fits also same =
    let parts : kind_of e ∷ behind_kind e x ≡ kind_of f ∷ behind_kind f y = sym (parts_of e x) ∙ same ∙ parts_of f y in
    same_behind e f x y fits also (ap (λ (l : List ℕ). get_or l 0 0) parts) (ap (λ (l : List ℕ). drop 1 l) parts)

-- a record has a byte, and 273 at most
pub event_begins : (e : Event) → 0 < length (event_bytes e)
unfolding event_bytes
event_begins (Life now mark) = omega arith
event_begins (Tick now word) = omega arith
event_begins (Resync now word flags) = omega arith
event_begins (Arrive now from bytes) = omega arith
