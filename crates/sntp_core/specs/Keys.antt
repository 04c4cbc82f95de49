-- The keys of an account, made ready for messages of one kind.
use Rattle.std.specs.Prelude.{◌≡◌, ℕ, List, Option, Some, None, ⊤}
use Rattle.ms_auth.specs.declared.packet.Kind.{Kind}
use Rattle.ms_auth.specs.Ready.{ReadyKey}
use Rattle.key_book.specs.declared.account.Account.{Account}

-- the kind of the messages, and the account with its keys
pub record AccountKeys : Type 0 where
  pub kind : Kind
  pub account : Account

-- the previous key alone, where there is one
abbrev pub key_of : Option ReadyKey → Option (List ℕ)
key_of None = None
key_of (Some ready) = Some ready.key

-- two keys of one account, ready for messages of one kind
abbrev pub AreOfOne : ReadyKey → Option ReadyKey → Type 0
AreOfOne current None = ⊤
AreOfOne current (Some previous) = (previous.kind ≡ current.kind) × (previous.rid ≡ current.rid)
