use Rattle.std.proofs.Common.{◌≡◌, ◌++◌, refl, sym, length, get_or, ap, ◌∙◌, List, ℕ, ℤ, rules}
use Rattle.std.proofs.lemmas.Int.{to_z-of_z}
use Rattle.std.specs.Int.{w8, w32, cast_unsigned}
use Rattle.byte_codec.specs.Numbers.{word_bytes}
use Rattle.ntp_wire.proofs.Headers.{read, head_is}
use Rattle.ntp_wire.proofs.codec.header_of.Goals as goal

pub returns : goal.returns
returns c =
    let four : length c.read_array.result.0 ≡ 4 = search rules in
    let id : length c.read_array-2.result.0 ≡ 4 = search rules in
    let poll : cast_unsigned w8 c.cast_signed.result ≡ get_or c.read_array.result.0 2 0 = search rules in
    let precision : cast_unsigned w8 c.cast_signed-2.result ≡ get_or c.read_array.result.0 3 0 = search rules in
    let delay : cast_unsigned w32 c.cast_signed-3.result ≡ c.read_u32-root_delay.result.0 = search rules in
    let same_poll = ap (λ (z : ℤ). cast_unsigned w8 z) (to_z-of_z w8 c.cast_signed.result (search rules)) in
    let same_precision = ap (λ (z : ℤ). cast_unsigned w8 z) (to_z-of_z w8 c.cast_signed-2.result (search rules)) in
    let same_delay = ap (λ (z : ℤ). cast_unsigned w32 z) (to_z-of_z w32 c.cast_signed-3.result (search rules)) in
    record {
      fits = search rules;
      written = read _ c.args.bytes.now c.read_array.result.1.now c.read_u32-root_delay.result.1.now c.read_u32-root_dispersion.result.1.now c.read_array-2.result.1.now
          c.read_stamp.result.1.now c.read_stamp-2.result.1.now c.read_stamp-3.result.1.now c.read_stamp-4.result.1.now
          id
          (c.read_array.ensures.bytes ∙ ap (λ (l : List ℕ). l ++ c.read_array.result.1.now) (head_is _ c.read_array.result.0 four refl refl refl refl (same_poll ∙ poll) (same_precision ∙ precision)))
          (c.read_u32-root_delay.ensures.bytes ∙ ap (λ (n : ℕ). word_bytes n ++ c.read_u32-root_delay.result.1.now) (sym (same_delay ∙ delay)))
          c.read_u32-root_dispersion.ensures.bytes c.read_array-2.ensures.bytes c.read_stamp.ensures.bytes c.read_stamp-2.ensures.bytes c.read_stamp-3.ensures.bytes c.read_stamp-4.ensures.bytes;
    }
