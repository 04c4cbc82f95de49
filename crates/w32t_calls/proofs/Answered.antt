-- What the server's side answers is what the client's side reads.
use Rattle.std.proofs.Common.{◌≡◌, ℕ, ◌+◌, ◌-◌, ◌*◌, ◌^◌, ◌≤◌, ◌<◌, List, ◌++◌, length, replicate, Ok, sym, ◌∙◌, ap, arith, length-append, lit<}
use Rattle.std.specs.Prelude.{All}
use Rattle.std.proofs.lemmas.List.{length-replicate, take_all}
use Rattle.byte_codec.specs.Numbers.{low_number_of, low_word_at, low_word_bytes, part_at}
use Rattle.byte_codec.proofs.Numbers.{length-low_number_bytes, low_number_of-low_number_bytes}
use Rattle.byte_codec.proofs.Parts.{longer, part_before, part_behind}
use Rattle.w32t_calls.specs.declared.call.Given.TheVariants as given
use Rattle.w32t_calls.specs.Replies.{word_in}
use Rattle.w32t_calls.specs.Stubs.{SpellsSource, answer_stub, name_units, rounded_to_four}
use Rattle.w32t_calls.proofs.Sources.{IsPrinted, name_len, same_name}

word_is : (place n : ℕ) (bytes : List ℕ) → part_at place 4 bytes ≡ low_word_bytes n → n < 256 ^ 4 → low_word_at place bytes ≡ n
word_is place n bytes is fits = ap low_number_of is ∙ low_number_of-low_number_bytes 4 n fits

-- a number alone
pub word_answered : (place n : ℕ) → n < 2 ^ 32 → word_in place (low_word_bytes n) ≡ Ok n
unfolding word_in
word_answered place n fits =
    let four = length-low_number_bytes 4 n in
    let all : part_at 0 4 (low_word_bytes n) ≡ low_word_bytes n = take_all 4 (low_word_bytes n) (omega (arith, four)) in
    let here = word_is 0 n (low_word_bytes n) all (omega arith) in
    grind (arith, four, here)

-- four numbers, one behind the other
record Words (a b c d : ℕ) (bytes : List ℕ) : Type 0 where
  size : length bytes ≡ 16
  first : part_at 0 4 bytes ≡ low_word_bytes a
  second : part_at 4 4 bytes ≡ low_word_bytes b
  third : part_at 8 4 bytes ≡ low_word_bytes c
  fourth : part_at 12 4 bytes ≡ low_word_bytes d

words : (a b c d : ℕ) → Words a b c d (low_word_bytes a ++ low_word_bytes b ++ low_word_bytes c ++ low_word_bytes d)
words a b c d =
    let wa = low_word_bytes a in
    let wb = low_word_bytes b in
    let wc = low_word_bytes c in
    let wd = low_word_bytes d in
    let la : length wa ≡ 4 = length-low_number_bytes 4 a in
    let lb : length wb ≡ 4 = length-low_number_bytes 4 b in
    let lc : length wc ≡ 4 = length-low_number_bytes 4 c in
    let ld : length wd ≡ 4 = length-low_number_bytes 4 d in
    let two : length (wa ++ wb) ≡ 8 = longer 4 4 wa wb la lb in
    let three : length (wa ++ wb ++ wc) ≡ 12 = longer 8 4 (wa ++ wb) wc two lc in
    record {
      size = longer 12 4 (wa ++ wb ++ wc) wd three ld;
      first = part_before 0 4 (wa ++ wb ++ wc) wd (omega (arith, three))
          ∙ part_before 0 4 (wa ++ wb) wc (omega (arith, two))
          ∙ part_before 0 4 wa wb (omega (arith, la)) ∙ take_all 4 wa (omega (arith, la));
      second = part_before 4 4 (wa ++ wb ++ wc) wd (omega (arith, three))
          ∙ part_before 4 4 (wa ++ wb) wc (omega (arith, two)) ∙ part_behind 4 4 wa wb la lb;
      third = part_before 8 4 (wa ++ wb ++ wc) wd (omega (arith, three)) ∙ part_behind 8 4 (wa ++ wb) wc two lc;
      fourth = part_behind 12 4 (wa ++ wb ++ wc) wd three ld;
    }

-- a name spells itself in the stub with which it is answered
pub name_answered : (name : List ℕ) → 1 ≤ length name → length name ≤ 63 → All IsPrinted name → SpellsSource name (answer_stub (given.Source name))
name_answered name least most printed =
    let count = length name + 1 in
    let front = low_word_bytes 0x20000 ++ low_word_bytes count ++ low_word_bytes 0 ++ low_word_bytes count in
    let w : Words 0x20000 count 0 count front = words 0x20000 count 0 count in
    let units = name_units name in
    let body = front ++ units in
    let body_len : length body ≡ 16 + 2 * count = longer 16 (2 * count) front units w.size (name_len name) in
    let missing = rounded_to_four (length body) - length body in
    let end = 16 + rounded_to_four (2 * count) in
    let padding : List ℕ = replicate missing 0 in
    let padding_len : length padding ≡ missing = length-replicate missing 0 in
    let filled = body ++ padding in
    let filled_len : length filled ≡ end = omega (arith, length-append body padding, padding_len, body_len) in
    let status = low_word_bytes 0 in
    let stub = filled ++ status in
    let stub_len : length stub ≡ end + 4 = longer end 4 filled status filled_len (length-low_number_bytes 4 0) in
    let kept : (place size : ℕ) → place + size ≤ length front → part_at place size stub ≡ part_at place size front =
    λ place size within. part_before place size filled status (omega (arith, filled_len, w.size))
    ∙ part_before place size body padding (omega (arith, body_len, w.size))
    ∙ part_before place size front units within in
    let referent = word_is 0 0x20000 stub (kept 0 4 (omega (arith, w.size)) ∙ w.first) (lit< tt) in
    let greatest = word_is 4 count stub (kept 4 4 (omega (arith, w.size)) ∙ w.second) (omega arith) in
    let offset = word_is 8 0 stub (kept 8 4 (omega (arith, w.size)) ∙ w.third) (lit< tt) in
    let counted = word_is 12 count stub (kept 12 4 (omega (arith, w.size)) ∙ w.fourth) (omega arith) in
    let named : part_at 16 (2 * count) stub ≡ units =
    part_before 16 (2 * count) filled status (omega (arith, filled_len))
    ∙ part_before 16 (2 * count) body padding (omega (arith, body_len))
    ∙ part_behind 16 (2 * count) front units w.size (name_len name) in
    let closed = word_is end 0 stub (part_behind end 4 filled status filled_len (length-low_number_bytes 4 0)) (lit< tt) in
    record {
      within = omega (arith, stub_len);
      referent = λ same. absurd (omega (arith, referent, same));
      greatest = omega (arith, greatest);
      offset = offset;
      count = counted;
      least = least;
      most = most;
      printed = printed;
      units = named;
      status = closed;
    }

-- a stub spells one name
pub one_name : (name other stub : List ℕ) → SpellsSource name stub → SpellsSource other stub → name ≡ other
one_name name other stub first next =
    let same : length name ≡ length other = omega (arith, first.count, next.count) in
    same_name name other
    (sym first.units ∙ ap (λ (n : ℕ). part_at 16 (2 * (n + 1)) stub) same ∙ next.units)
    first.printed next.printed
