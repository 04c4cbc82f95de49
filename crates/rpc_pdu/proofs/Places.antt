-- What stands at a place in bytes that were read part by part.
use Rattle.std.proofs.Common.{◌≡◌, ℕ, ◌+◌, ◌<◌, ◌^◌, List, [], ◌++◌, length, take, drop, get_or, refl, sym, ◌∙◌, ap, arith}
use Rattle.std.proofs.lemmas.List.{take_at, drop_at, get_or-append-add, get_or_append_left}
use Rattle.byte_codec.specs.Numbers.{low_half_word_bytes, low_number_bytes, low_number_of, low_word_at, low_word_bytes, part_at}
use Rattle.byte_codec.proofs.Numbers.{length-low_number_bytes, low_number_of-low_number_bytes}
use Rattle.byte_codec.proofs.Parts.{longer, read_more}
use Rattle.rpc_pdu.specs.Header.{low_half_word_at}

-- the part behind a front, and what stands behind the part
pub part_here : (place count : ℕ) (bytes front rest part after : List ℕ) → bytes ≡ front ++ rest → rest ≡ part ++ after → length front ≡ place → length part ≡ count
    → part_at place count bytes ≡ part
part_here place count bytes front rest part after before now long size =
    ap (λ (l : List ℕ). take count (drop place l)) before
    ∙ ap (λ (l : List ℕ). take count l) (drop_at front rest place long ∙ now)
    ∙ take_at part after count size

-- the number behind a front
pub number_here : (place count n : ℕ) (bytes front rest after : List ℕ) → bytes ≡ front ++ rest → rest ≡ low_number_bytes count n ++ after → length front ≡ place → n < 256 ^ count
    → low_number_of (part_at place count bytes) ≡ n
number_here place count n bytes front rest after before now long fits =
    ap low_number_of (part_here place count bytes front rest (low_number_bytes count n) after before now long (length-low_number_bytes count n))
    ∙ low_number_of-low_number_bytes count n fits

-- a byte behind a front
pub byte_here : (place i : ℕ) (bytes front rest part after : List ℕ) → bytes ≡ front ++ rest → rest ≡ part ++ after → length front ≡ place → i < length part
    → get_or bytes (place + i) 0 ≡ get_or part i 0
byte_here place i bytes front rest part after before now long within =
    ap (λ (k : ℕ). get_or bytes (k + i) 0) (sym long)
    ∙ ap (λ (l : List ℕ). get_or l (length front + i) 0) before
    ∙ get_or-append-add front rest i 0
    ∙ ap (λ (l : List ℕ). get_or l i 0) now
    ∙ get_or_append_left part after 0 i within

-- the parts of a context without its transfer syntaxes
pub record ContextParts (bytes counts interface : List ℕ) (id major minor : ℕ) (rest : List ℕ) : Type 0 where
  pub id_is : low_half_word_at 0 bytes ≡ id
  pub count_is : get_or bytes 2 0 ≡ get_or counts 0 0
  pub interface_is : part_at 4 16 bytes ≡ interface
  pub major_is : low_half_word_at 20 bytes ≡ major
  pub minor_is : low_half_word_at 22 bytes ≡ minor
  pub rest_is : rest ≡ drop 24 bytes

pub context_parts :
    (bytes r1 counts r2 interface r3 r4 rest : List ℕ) (id major minor : ℕ)
    → bytes ≡ low_half_word_bytes id ++ r1 → r1 ≡ counts ++ r2 → r2 ≡ interface ++ r3 → r3 ≡ low_half_word_bytes major ++ r4 → r4 ≡ low_half_word_bytes minor ++ rest
    → length counts ≡ 2 → length interface ≡ 16 → id < 2 ^ 16 → major < 2 ^ 16 → minor < 2 ^ 16
    → ContextParts bytes counts interface id major minor rest
context_parts bytes r1 counts r2 interface r3 r4 rest id major minor e1 e2 e3 e4 e5 two sixteen id_fits major_fits minor_fits =
    let f1 = low_half_word_bytes id in
    let l1 : length f1 ≡ 2 = length-low_number_bytes 2 id in
    let f2 = f1 ++ counts in
    let l2 : length f2 ≡ 4 = longer 2 2 f1 counts l1 two in
    let g2 : bytes ≡ f2 ++ r2 = read_more bytes f1 r1 counts r2 e1 e2 in
    let f3 = f2 ++ interface in
    let l3 : length f3 ≡ 20 = longer 4 16 f2 interface l2 sixteen in
    let g3 : bytes ≡ f3 ++ r3 = read_more bytes f2 r2 interface r3 g2 e3 in
    let f4 = f3 ++ low_half_word_bytes major in
    let l4 : length f4 ≡ 22 = longer 20 2 f3 (low_half_word_bytes major) l3 (length-low_number_bytes 2 major) in
    let g4 : bytes ≡ f4 ++ r4 = read_more bytes f3 r3 (low_half_word_bytes major) r4 g3 e4 in
    let f5 = f4 ++ low_half_word_bytes minor in
    let l5 : length f5 ≡ 24 = longer 22 2 f4 (low_half_word_bytes minor) l4 (length-low_number_bytes 2 minor) in
    let g5 : bytes ≡ f5 ++ rest = read_more bytes f4 r4 (low_half_word_bytes minor) rest g4 e5 in
    record {
      id_is = number_here 0 2 id bytes [] bytes r1 refl e1 refl id_fits;
      count_is = byte_here 2 0 bytes f1 r1 counts r2 e1 e2 l1 (omega (arith, two));
      interface_is = part_here 4 16 bytes f2 r2 interface r3 g2 e3 l2 sixteen;
      major_is = number_here 20 2 major bytes f3 r3 r4 g3 e4 l3 major_fits;
      minor_is = number_here 22 2 minor bytes f4 r4 rest g4 e5 l4 minor_fits;
      rest_is = sym (ap (λ (l : List ℕ). drop 24 l) g5 ∙ drop_at f5 rest 24 l5);
    }

-- the parts of a bind before its contexts
pub record BindParts (bytes fixed : List ℕ) (xmit recv group : ℕ) (rest : List ℕ) : Type 0 where
  pub xmit_is : low_half_word_at 0 bytes ≡ xmit
  pub recv_is : low_half_word_at 2 bytes ≡ recv
  pub group_is : low_word_at 4 bytes ≡ group
  pub offered_is : get_or bytes 8 0 ≡ get_or fixed 0 0
  pub rest_is : rest ≡ drop 12 bytes

pub bind_parts :
    (bytes r1 r2 r3 fixed rest : List ℕ) (xmit recv group : ℕ)
    → bytes ≡ low_half_word_bytes xmit ++ r1 → r1 ≡ low_half_word_bytes recv ++ r2 → r2 ≡ low_word_bytes group ++ r3 → r3 ≡ fixed ++ rest
    → length fixed ≡ 4 → xmit < 2 ^ 16 → recv < 2 ^ 16 → group < 2 ^ 32
    → BindParts bytes fixed xmit recv group rest
bind_parts bytes r1 r2 r3 fixed rest xmit recv group e1 e2 e3 e4 four xmit_fits recv_fits group_fits =
    let f1 = low_half_word_bytes xmit in
    let l1 : length f1 ≡ 2 = length-low_number_bytes 2 xmit in
    let f2 = f1 ++ low_half_word_bytes recv in
    let l2 : length f2 ≡ 4 = longer 2 2 f1 (low_half_word_bytes recv) l1 (length-low_number_bytes 2 recv) in
    let g2 : bytes ≡ f2 ++ r2 = read_more bytes f1 r1 (low_half_word_bytes recv) r2 e1 e2 in
    let f3 = f2 ++ low_word_bytes group in
    let l3 : length f3 ≡ 8 = longer 4 4 f2 (low_word_bytes group) l2 (length-low_number_bytes 4 group) in
    let g3 : bytes ≡ f3 ++ r3 = read_more bytes f2 r2 (low_word_bytes group) r3 g2 e3 in
    let f4 = f3 ++ fixed in
    let l4 : length f4 ≡ 12 = longer 8 4 f3 fixed l3 four in
    let g4 : bytes ≡ f4 ++ rest = read_more bytes f3 r3 fixed rest g3 e4 in
    record {
      xmit_is = number_here 0 2 xmit bytes [] bytes r1 refl e1 refl xmit_fits;
      recv_is = number_here 2 2 recv bytes f1 r1 r2 e1 e2 l1 recv_fits;
      group_is = number_here 4 4 group bytes f2 r2 r3 g2 e3 l2 group_fits;
      offered_is = byte_here 8 0 bytes f3 r3 fixed rest g3 e4 l3 (omega (arith, four));
      rest_is = sym (ap (λ (l : List ℕ). drop 12 l) g4 ∙ drop_at f4 rest 12 l4);
    }

-- the parts of a header
pub record HeaderParts (bytes fixed : List ℕ) (fragment auth call : ℕ) : Type 0 where
  pub byte_is : (i : ℕ) → i < 8 → get_or bytes i 0 ≡ get_or fixed i 0
  pub fragment_is : low_half_word_at 8 bytes ≡ fragment
  pub auth_is : low_half_word_at 10 bytes ≡ auth
  pub call_is : low_word_at 12 bytes ≡ call

pub header_parts :
    (bytes fixed r1 r2 r3 rest : List ℕ) (fragment auth call : ℕ)
    → bytes ≡ fixed ++ r1 → r1 ≡ low_half_word_bytes fragment ++ r2 → r2 ≡ low_half_word_bytes auth ++ r3 → r3 ≡ low_word_bytes call ++ rest
    → length fixed ≡ 8 → fragment < 2 ^ 16 → auth < 2 ^ 16 → call < 2 ^ 32
    → HeaderParts bytes fixed fragment auth call
header_parts bytes fixed r1 r2 r3 rest fragment auth call e1 e2 e3 e4 eight fragment_fits auth_fits call_fits =
    let f2 = fixed ++ low_half_word_bytes fragment in
    let l2 : length f2 ≡ 10 = longer 8 2 fixed (low_half_word_bytes fragment) eight (length-low_number_bytes 2 fragment) in
    let g2 : bytes ≡ f2 ++ r2 = read_more bytes fixed r1 (low_half_word_bytes fragment) r2 e1 e2 in
    let f3 = f2 ++ low_half_word_bytes auth in
    let l3 : length f3 ≡ 12 = longer 10 2 f2 (low_half_word_bytes auth) l2 (length-low_number_bytes 2 auth) in
    let g3 : bytes ≡ f3 ++ r3 = read_more bytes f2 r2 (low_half_word_bytes auth) r3 g2 e3 in
    record {
      byte_is = λ i within. let same : i ≡ 0 + i = omega arith in
          ap (λ (k : ℕ). get_or bytes k 0) same ∙ byte_here 0 i bytes [] bytes fixed r1 refl e1 refl (omega (arith, within, eight));
      fragment_is = number_here 8 2 fragment bytes fixed r1 r2 e1 e2 eight fragment_fits;
      auth_is = number_here 10 2 auth bytes f2 r2 r3 g2 e3 l2 auth_fits;
      call_is = number_here 12 4 call bytes f3 r3 rest g3 e4 l3 call_fits;
    }
