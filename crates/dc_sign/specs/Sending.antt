-- What sending an answer does.
use Rattle.std.specs.Prelude.{◌≡◌, ℕ, List, [], ◌∷◌, Option}
use Rattle.base_specs.specs.Told.{Grew}
use Rattle.edge_traits.specs.Link.{LinkCall, Send}
use Rattle.edge_traits.specs.Sink.{PutCounts}
use Rattle.edge_traits.specs.declared.datagram.Addr.{Addr}
use Rattle.edge_traits.specs.declared.sink.Put.{Put}
use Rattle.dc_sign.specs.declared.outcome.Answer.{Answer}
use Rattle.dc_sign.specs.declared.outcome.Answer.TheVariants as answer
use Rattle.dc_sign.specs.declared.tally.TurnOutcome.{TurnOutcome}
use Rattle.dc_sign.specs.declared.tally.TurnOutcome.TheVariants as outcome

-- a reply was sent to this address, and this came of it
pub record SendsReply (to : Addr) (reply : List ℕ) (of_put : Put → TurnOutcome) (old new : Option (List LinkCall)) (before now : ℕ) (result : TurnOutcome) : Type 0 where
  pub put : Put
  pub is : result ≡ of_put put
  pub told : Grew old new (Send (record { to = to; bytes = reply; put = put }) ∷ [])
  pub counts : PutCounts put before now

-- nothing was sent, and this came of it
pub record SendsNothing (is_outcome : TurnOutcome) (old new : Option (List LinkCall)) (before now : ℕ) (result : TurnOutcome) : Type 0 where
  pub is : result ≡ is_outcome
  pub told : new ≡ old
  pub no_fault : now ≡ before

-- a reply is sent, and a refusal isn't
abbrev pub Sends : Addr → Answer → Option (List LinkCall) → Option (List LinkCall) → ℕ → ℕ → TurnOutcome → Type 0
Sends to (answer.Signed reply) old new before now result = SendsReply to reply outcome.Signed old new before now result
Sends to (answer.Plain reply) old new before now result = SendsReply to reply outcome.Plain old new before now result
Sends to (answer.Refused reason) old new before now result = SendsNothing (outcome.Refused reason) old new before now result
