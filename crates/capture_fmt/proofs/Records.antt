-- Records that are read again, field by field.
use Rattle.std.proofs.Common.{◌≡◌, ℕ, ℤ, pos, negsuc, ◌<◌, ◌≤◌, ◌^◌, true, List, [], ◌∷◌, ◌++◌, length, take, drop, Some, refl, sym, ◌∙◌, ap, arith, lit<, unsigned_abs}
use Rattle.std.specs.Prelude.{nat_le}
use Rattle.std.proofs.lemmas.Bool.{ne_eqb, le-leb, lt-leb}
use Rattle.std.proofs.lemmas.Int.{ints}
use Rattle.std.proofs.lemmas.List.{append_assoc, length-take-le, take_all, take-append-drop}
use Rattle.base_specs.specs.Time.{IsReading}
use Rattle.edge_traits.specs.declared.datagram.Addr.{Addr}
use Rattle.capture_fmt.specs.declared.event.Event.TheVariants.{Life, Tick, Resync, Arrive}
use Rattle.capture_fmt.specs.declared.fault.Flaw.{Flaw}
use Rattle.capture_fmt.specs.declared.fault.Flaw.TheVariants.{BadKind, BadReading, BadLength, Torn}
use Rattle.byte_codec.specs.Numbers.{number_bytes}
use Rattle.capture_fmt.specs.Record as layout
use Rattle.capture_fmt.specs.Record.{Field, event_bytes, field_flaw, first_flaw}
use Rattle.capture_fmt.proofs.Fields.{first_behind, no_number, wrong_number, fewer_bytes}

-- a moment as the number in its field
pub reading_within : (now : ℤ) → IsReading now → (unsigned_abs now < 2 ^ 64) × (nat_le (unsigned_abs now) 4000000000000000000 ≡ true)
reading_within (pos n) h =
    let most : n ≤ 4000000000000000000 = omega (arith, ints) in
    (omega arith, le-leb n 4000000000000000000 most)
reading_within (negsuc n) h = absurd (omega (arith, ints))

-- where a field is in order, the first flaw is one of those behind it
pub past_magic : (fields : List Field) (bytes more : List ℕ) → bytes ≡ number_bytes 4 layout.magic_number ++ more → first_flaw (layout.magic ∷ fields) bytes ≡ first_flaw fields more
past_magic fields bytes more written =
    first_behind layout.magic fields layout.magic_number bytes [] more (record { within = lit< tt; written = written }) refl refl

pub past_reading :
    (fields : List Field) (now : ℤ) (bytes more : List ℕ) → IsReading now → bytes ≡ number_bytes 8 (unsigned_abs now) ++ more
    → first_flaw (layout.reading ∷ fields) bytes ≡ first_flaw fields more
past_reading fields now bytes more is written =
    let within = reading_within now is in
    first_behind layout.reading fields (unsigned_abs now) bytes [] more (record { within = within.0; written = written }) within.1 refl

pub past_word : (fields : List Field) (n : ℕ) (bytes more : List ℕ) → n < 2 ^ 32 → bytes ≡ number_bytes 4 n ++ more → first_flaw (layout.word ∷ fields) bytes ≡ first_flaw fields more
past_word fields n bytes more below written =
    first_behind layout.word fields n bytes [] more (record { within = below; written = written }) refl refl

pub past_port : (fields : List Field) (n : ℕ) (bytes more : List ℕ) → n < 2 ^ 16 → bytes ≡ number_bytes 2 n ++ more → first_flaw (layout.port ∷ fields) bytes ≡ first_flaw fields more
past_port fields n bytes more below written =
    first_behind layout.port fields n bytes [] more (record { within = below; written = written }) refl refl

pub past_datagram :
    (fields : List Field) (bytes part more : List ℕ) → length part ≤ 256 → bytes ≡ number_bytes 2 (length part) ++ (part ++ more)
    → first_flaw (layout.datagram ∷ fields) bytes ≡ first_flaw fields more
past_datagram fields bytes part more most written =
    let below : length part < 2 ^ 16 = omega arith in
    first_behind layout.datagram fields (length part) bytes part more (record { within = below; written = written }) (le-leb (length part) 256 most) refl

-- a field whose number isn't whole
pub cut_number : (f : Field) (bytes : List ℕ) (flaw : Flaw) → (flaw ≡ Torn) × (length bytes < f.size) → field_flaw f bytes ≡ Some flaw
cut_number f bytes flaw h = no_number f bytes h.1 ∙ ap Some (sym h.0)

-- what may not stand in its field
pub other_magic : (n : ℕ) (bytes rest : List ℕ) → bytes ≡ number_bytes 4 n ++ rest → n < 2 ^ 32 → (n ≡ layout.magic_number → ⊥) → field_flaw layout.magic bytes ≡ Some BadKind
other_magic n bytes rest written below other =
    wrong_number layout.magic n bytes rest (record { within = below; written = written }) (ne_eqb n layout.magic_number other)

pub late_reading : (n : ℕ) (bytes rest : List ℕ) → bytes ≡ number_bytes 8 n ++ rest → n < 2 ^ 64 → 4000000000000000000 < n → field_flaw layout.reading bytes ≡ Some BadReading
late_reading n bytes rest written below late =
    wrong_number layout.reading n bytes rest (record { within = below; written = written }) (lt-leb n 4000000000000000000 late)

pub long_datagram : (n : ℕ) (bytes rest : List ℕ) → bytes ≡ number_bytes 2 n ++ rest → n < 2 ^ 16 → 256 < n → field_flaw layout.datagram bytes ≡ Some BadLength
long_datagram n bytes rest written below long =
    wrong_number layout.datagram n bytes rest (record { within = below; written = written }) (lt-leb n 256 long)

-- a datagram of which bytes are missing
pub cut_datagram : (n : ℕ) (bytes rest : List ℕ) → bytes ≡ number_bytes 2 n ++ rest → n < 2 ^ 16 → n ≤ 256 → length rest < n → field_flaw layout.datagram bytes ≡ Some Torn
cut_datagram n bytes rest written below most few =
    fewer_bytes layout.datagram n bytes rest (record { within = below; written = written }) (le-leb n 256 most) few

-- a datagram behind its number
pub read_datagram :
    (n : ℕ) (bytes rest part more : List ℕ) → n ≤ 256 → n ≤ length rest → part ≡ take 256 (take n rest) → more ≡ drop n rest → bytes ≡ number_bytes 2 n ++ rest
    → (length part ≤ 256) × (bytes ≡ number_bytes 2 (length part) ++ (part ++ more))
read_datagram n bytes rest part more most enough front back written =
    let size : length (take n rest) ≡ n = length-take-le n rest enough in
    let is : part ≡ take n rest = front ∙ take_all 256 (take n rest) (omega (arith, size)) in
    let long : length part ≡ n = ap length is ∙ size in
    let joined : rest ≡ part ++ more = sym (take-append-drop n rest) ∙ ap (λ (l : List ℕ). l ++ drop n rest) (sym is) ∙ ap (λ (l : List ℕ). part ++ l) (sym back) in
    (omega (arith, long), written ∙ ap (λ (l : List ℕ). number_bytes 2 n ++ l) joined ∙ ap (λ (k : ℕ). number_bytes 2 k ++ (part ++ more)) (sym long))

-- a part, and then what begins with more parts
joined_more : (part bytes more front rest : List ℕ) → bytes ≡ part ++ more → more ≡ front ++ rest → bytes ≡ (part ++ front) ++ rest
joined_more part bytes more front rest first next = first ∙ ap (λ (l : List ℕ). part ++ l) next ∙ sym (append_assoc part front rest)

pub read_life :
    (now : ℤ) (mark : ℕ) (b0 b1 b2 rest : List ℕ)
    → b0 ≡ number_bytes 4 layout.magic_number ++ b1 → b1 ≡ number_bytes 8 (unsigned_abs now) ++ b2 → b2 ≡ number_bytes 4 mark ++ rest
    → layout.life_kind ∷ b0 ≡ event_bytes (Life now mark) ++ rest
unfolding event_bytes
read_life now mark b0 b1 b2 rest magic reading word =
    ap (λ (l : List ℕ). layout.life_kind ∷ l)
    (joined_more (number_bytes 4 layout.magic_number) b0 b1 _ rest magic
    (joined_more (number_bytes 8 (unsigned_abs now)) b1 b2 _ rest reading (joined_more (number_bytes 4 mark) b2 rest [] rest word refl)))

pub read_tick :
    (now : ℤ) (word : ℕ) (b0 b1 rest : List ℕ)
    → b0 ≡ number_bytes 8 (unsigned_abs now) ++ b1 → b1 ≡ number_bytes 4 word ++ rest
    → layout.tick_kind ∷ b0 ≡ event_bytes (Tick now word) ++ rest
unfolding event_bytes
read_tick now number b0 b1 rest reading word =
    ap (λ (l : List ℕ). layout.tick_kind ∷ l)
    (joined_more (number_bytes 8 (unsigned_abs now)) b0 b1 _ rest reading (joined_more (number_bytes 4 number) b1 rest [] rest word refl))

pub read_resync :
    (now : ℤ) (word flags : ℕ) (b0 b1 b2 rest : List ℕ)
    → b0 ≡ number_bytes 8 (unsigned_abs now) ++ b1 → b1 ≡ number_bytes 4 word ++ b2 → b2 ≡ number_bytes 4 flags ++ rest
    → layout.resync_kind ∷ b0 ≡ event_bytes (Resync now word flags) ++ rest
unfolding event_bytes
read_resync now number flags b0 b1 b2 rest reading first next =
    ap (λ (l : List ℕ). layout.resync_kind ∷ l)
    (joined_more (number_bytes 8 (unsigned_abs now)) b0 b1 _ rest reading
    (joined_more (number_bytes 4 number) b1 b2 _ rest first (joined_more (number_bytes 4 flags) b2 rest [] rest next refl)))

pub read_arrive :
    (now : ℤ) (from : Addr) (bytes b0 b1 b2 b3 rest : List ℕ)
    → b0 ≡ number_bytes 8 (unsigned_abs now) ++ b1 → b1 ≡ number_bytes 4 from.ip ++ b2 → b2 ≡ number_bytes 2 from.port ++ b3
    → b3 ≡ number_bytes 2 (length bytes) ++ (bytes ++ rest)
    → layout.arrive_kind ∷ b0 ≡ event_bytes (Arrive now from bytes) ++ rest
unfolding event_bytes
read_arrive now from bytes b0 b1 b2 b3 rest reading ip port datagram =
    ap (λ (l : List ℕ). layout.arrive_kind ∷ l)
    (joined_more (number_bytes 8 (unsigned_abs now)) b0 b1 _ rest reading
    (joined_more (number_bytes 4 from.ip) b1 b2 _ rest ip
    (joined_more (number_bytes 2 from.port) b2 b3 _ rest port
    (joined_more (number_bytes 2 (length bytes)) b3 (bytes ++ rest) bytes rest datagram refl))))
