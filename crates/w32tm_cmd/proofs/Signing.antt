-- What follows from a run of `/sign` for each answer.
use Rattle.std.proofs.Common.{◌≡◌, ◌+◌, ◌<◌, ◌≤◌, ℕ, List, [], ◌∷◌, ◌++◌, length, Option, Some, None, inl, inr, length-append, refl, sym, subst, ◌∙◌, ap, arith}
use Rattle.std.proofs.lemmas.List.{append-nil}
use Rattle.std.proofs.lemmas.Bool.{cases_lt}
use Rattle.base_specs.specs.Counts.{Fails, Rose}
use Rattle.base_specs.specs.Told.{Took, IsUsedUp}
use Rattle.key_book.specs.declared.account.Account.{Account}
use Rattle.dc_sign.specs.declared.outcome.Refusal.{Refusal}
use Rattle.dc_sign.specs.Reply.{refusal_of}
use Rattle.dc_sign.proofs.Replies.{too_long}
use Rattle.edge_seen.specs.Seen.{Seen}
use Rattle.w32tm_cmd.specs.Seen.{ReadsInput, HasNoFault}
use Rattle.w32tm_cmd.specs.Sign.{request_limit, Signs, DecidesBy, IsSignAnswer, SignPromise}
use Rattle.w32tm_text.specs.declared.status.Status.{Status}
use Rattle.w32tm_text.specs.declared.status.Status.TheVariants.{Done, ReadFault, WriteFault, ClockFault, BadRequest}

-- bytes past the first 257 change no refusal
front_decides : (accounts : List Account) (all input : List ℕ) (left : Option (List ℕ)) → Took (Some all) left input → length input ≤ request_limit → (length input < request_limit → IsUsedUp left) → refusal_of accounts all ≡ refusal_of accounts input
front_decides accounts all input None took most used = absurd took
front_decides accounts all input (Some rest) took most used =
    elim (cases_lt (length input) request_limit) [
      | inl short ↦
          let whole : all ≡ input = took ∙ ap (λ (l : List ℕ). input ++ l) (used short) ∙ append-nil input in
          ap (refusal_of accounts) whole
      | inr long ↦
          let size : length all ≡ length input + length rest = ap length took ∙ length-append input rest in
          too_long accounts all (omega (arith, size, long)) ∙ sym (too_long accounts input (omega (arith, long)))
    ]

-- the bytes told before a run decide as those that it took
taken_decides : (account : Account) (bytes input : List ℕ) (before now : Seen) → before.left ≡ Some bytes → ReadsInput request_limit before now input → refusal_of (account ∷ []) bytes ≡ refusal_of (account ∷ []) input
taken_decides account bytes input before now told r =
    front_decides (account ∷ []) bytes input now.left (subst (λ (o : Option (List ℕ)). Took o now.left input) told r.took) r.most r.all

decides_by : (account : Account) (bytes : List ℕ) (before now : Seen) (status : Status) → before.left ≡ Some bytes → Signs account before now status → DecidesBy account bytes status
decides_by account bytes before now Done told signs = taken_decides account bytes signs.prepared.input before now told signs.prepared.takes.read ∙ signs.prepared.accepted
decides_by account bytes before now ReadFault told signs = tt
decides_by account bytes before now WriteFault told signs = taken_decides account bytes signs.prepared.input before now told signs.prepared.takes.read ∙ signs.prepared.accepted
decides_by account bytes before now ClockFault told signs = tt
decides_by account bytes before now (BadRequest reason) told signs = taken_decides account bytes signs.input before now told signs.takes.read ∙ signs.refused
decides_by account bytes before now _ told signs = signs

sign_answer : (account : Account) (before now : Seen) (status : Status) → Signs account before now status → IsSignAnswer status
sign_answer account before now Done signs = tt
sign_answer account before now ReadFault signs = tt
sign_answer account before now WriteFault signs = tt
sign_answer account before now ClockFault signs = tt
sign_answer account before now (BadRequest reason) signs = tt
sign_answer account before now _ signs = signs

-- what failed raised its count
rose : (before now : ℕ) → Fails before now → Rose before now
rose before now fails = omega (arith, fails.once)

-- a run without a fault, of a request that is not refused, is done
completes : (account : Account) (bytes : List ℕ) (before now : Seen) (status : Status) → HasNoFault before now → refusal_of (account ∷ []) bytes ≡ None
    → Signs account before now status → DecidesBy account bytes status → status ≡ Done
completes account bytes before now Done none accepted signs decides = refl
completes account bytes before now ReadFault none accepted signs decides = absurd (none.read (rose _ _ signs.cause))
completes account bytes before now WriteFault none accepted signs decides = absurd (none.write (rose _ _ signs.cause))
completes account bytes before now ClockFault none accepted signs decides = absurd (none.clock (rose _ _ signs.cause))
completes account bytes before now (BadRequest reason) none accepted signs decides =
    let wrong : None ≡ Some reason = sym accepted ∙ decides in
    cc wrong
completes account bytes before now _ none accepted signs decides = absurd signs

-- a run without a fault, of a request that is refused, says why
completes_refused : (account : Account) (bytes : List ℕ) (reason : Refusal) (before now : Seen) (status : Status) → HasNoFault before now → refusal_of (account ∷ []) bytes ≡ Some reason
    → Signs account before now status → DecidesBy account bytes status → status ≡ BadRequest reason
completes_refused account bytes reason before now Done none refused signs decides =
    let wrong : Some reason ≡ None = sym refused ∙ decides in
    cc wrong
completes_refused account bytes reason before now ReadFault none refused signs decides = absurd (none.read (rose _ _ signs.cause))
completes_refused account bytes reason before now WriteFault none refused signs decides = absurd (none.write (rose _ _ signs.cause))
completes_refused account bytes reason before now ClockFault none refused signs decides = absurd (none.clock (rose _ _ signs.cause))
completes_refused account bytes reason before now (BadRequest other) none refused signs decides =
    let same : Some other ≡ Some reason = sym decides ∙ refused in
    cc same
completes_refused account bytes reason before now _ none refused signs decides = absurd signs

pub promises : (account : Account) (before now : Seen) (result : Status) → Signs account before now result → SignPromise account before now result
promises account before now result signs = record {
  runs = signs;
  answers = sign_answer account before now result signs;
  exact = λ bytes told. decides_by account bytes before now result told signs;
  complete = λ bytes told none accepted. completes account bytes before now result none accepted signs (decides_by account bytes before now result told signs);
  refused = λ bytes reason told none refused. completes_refused account bytes reason before now result none refused signs (decides_by account bytes before now result told signs);
}
