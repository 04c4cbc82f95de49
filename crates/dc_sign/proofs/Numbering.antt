-- One outcome more is counted as it is defined.
use Rattle.std.proofs.Common.{◌≡◌, ◌+◌, ◌-◌, ◌^◌, ℕ, List, [], ◌∷◌, ◌++◌, Bool, true, false, if◌then◌else◌, min, refl, ◌∙◌, ap, arith}
use Rattle.std.specs.List.{count_by}
use Rattle.std.proofs.lemmas.List.Sums.{sum_by-append}
use Rattle.edge_traits.specs.declared.sink.Put.TheVariants as write
use Rattle.dc_sign.specs.declared.outcome.Refusal.TheVariants.{BadLength, BadVersion, BadMode, UnknownAccount, NoOldKey}
use Rattle.dc_sign.specs.declared.tally.TurnOutcome.{TurnOutcome}
use Rattle.dc_sign.specs.declared.tally.TurnOutcome.TheVariants.{Signed, Plain, Refused, Quiet, Lost}
use Rattle.dc_sign.specs.declared.tally.ServeEnd.{ServeEnd}
use Rattle.dc_sign.specs.declared.tally.ServeWhy.{ServeWhy}
use Rattle.dc_sign.specs.Counting.{counted, one_more}
use Rattle.dc_sign.specs.Numbers.{is_lost, is_plain, is_quiet, is_refused, is_signed, is_unsent, number, numbers_of}

-- one more where it is such an outcome
bump : Bool → ℕ → ℕ
bump true n = one_more n
bump false n = n

bumped : (n : ℕ) (such : Bool) → min (n + (0 + (if such then 1 else 0))) (2 ^ 32 - 1) ≡ bump such (min n (2 ^ 32 - 1))
unfolding bump
bumped n true = omega arith
bumped n false = omega arith

number_more : (is : TurnOutcome → Bool) (outcomes : List TurnOutcome) (o : TurnOutcome) → number is (outcomes ++ o ∷ []) ≡ bump (is o) (number is outcomes)
number_more is outcomes o = ap (λ (n : ℕ). min n (2 ^ 32 - 1)) (sum_by-append _ outcomes (o ∷ [])) ∙ bumped (count_by is outcomes) (is o)

-- the numbers with one outcome more, each by itself
bumped_all : TurnOutcome → List TurnOutcome → ServeWhy → ServeEnd
bumped_all o outcomes why = record {
  signed = bump (is_signed o) (number is_signed outcomes);
  plain = bump (is_plain o) (number is_plain outcomes);
  refused =
      bump (is_refused BadLength o) (number (is_refused BadLength) outcomes)
      ∷ bump (is_refused BadVersion o) (number (is_refused BadVersion) outcomes)
      ∷ bump (is_refused BadMode o) (number (is_refused BadMode) outcomes)
      ∷ bump (is_refused UnknownAccount o) (number (is_refused UnknownAccount) outcomes)
      ∷ bump (is_refused NoOldKey o) (number (is_refused NoOldKey) outcomes)
      ∷ [];
  quiet = bump (is_quiet o) (number is_quiet outcomes);
  lost = bump (is_lost o) (number is_lost outcomes);
  unsent = bump (is_unsent o) (number is_unsent outcomes);
  why = why;
}

each_more : (outcomes : List TurnOutcome) (o : TurnOutcome) (why : ServeWhy) → numbers_of (outcomes ++ o ∷ []) why ≡ bumped_all o outcomes why
unfolding bumped_all
each_more outcomes o why =
    let length = number_more (is_refused BadLength) outcomes o in
    let version = number_more (is_refused BadVersion) outcomes o in
    let mode = number_more (is_refused BadMode) outcomes o in
    let account = number_more (is_refused UnknownAccount) outcomes o in
    let old_key = number_more (is_refused NoOldKey) outcomes o in
    let signed = number_more is_signed outcomes o in
    let plain = number_more is_plain outcomes o in
    let quiet = number_more is_quiet outcomes o in
    let lost = number_more is_lost outcomes o in
    let unsent = number_more is_unsent outcomes o in
    λ i. record {
      signed = signed i;
      plain = plain i;
      refused = length i ∷ version i ∷ mode i ∷ account i ∷ old_key i ∷ [];
      quiet = quiet i;
      lost = lost i;
      unsent = unsent i;
      why = why;
    }

is_counted : (outcomes : List TurnOutcome) (o : TurnOutcome) (why : ServeWhy) → bumped_all o outcomes why ≡ counted o (numbers_of outcomes why)
unfolding bumped_all bump
is_counted outcomes (Signed write.Done) why = refl
is_counted outcomes (Signed write.Failed) why = refl
is_counted outcomes (Plain write.Done) why = refl
is_counted outcomes (Plain write.Failed) why = refl
is_counted outcomes (Refused BadLength) why = refl
is_counted outcomes (Refused BadVersion) why = refl
is_counted outcomes (Refused BadMode) why = refl
is_counted outcomes (Refused UnknownAccount) why = refl
is_counted outcomes (Refused NoOldKey) why = refl
is_counted outcomes Quiet why = refl
is_counted outcomes Lost why = refl

-- the numbers with one outcome more
pub numbers_more : (outcomes : List TurnOutcome) (o : TurnOutcome) (why : ServeWhy) → numbers_of (outcomes ++ o ∷ []) why ≡ counted o (numbers_of outcomes why)
numbers_more outcomes o why = each_more outcomes o why ∙ is_counted outcomes o why
