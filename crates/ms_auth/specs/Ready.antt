-- A key that was made ready to check messages of one kind.
use Rattle.std.specs.Prelude.{◌≡◌, ℕ, List, [], Option, Some, None, ⊤}
use Rattle.mac_kdf.specs.declared.hmac.Hmac.{Hmac}
use Rattle.mac_kdf.specs.Digests.{ext_key}
use Rattle.mac_kdf.specs.Taken.{HasTaken}
use Rattle.ms_auth.specs.declared.packet.Kind.{Kind}
use Rattle.ms_auth.specs.declared.packet.Kind.TheVariants.{Short, Extended}
use Rattle.ms_auth.specs.declared.packet.Tail.{Tail}
use Rattle.ms_auth.specs.declared.packet.Tail.TheVariants.{Plain, Short68, Ext120}

-- the kind of the messages, the RID of the account, and its key
pub record ReadyKey : Type 0 where
  pub kind : Kind
  pub rid : ℕ
  pub key : List ℕ

-- The HMAC of an extended one was begun with the key that is derived for the RID, and has taken no text. A short one has none.
abbrev pub IsPrepared : Kind → ℕ → List ℕ → Option Hmac → Type 0
IsPrepared Short rid key None = ⊤
IsPrepared Short rid key (Some mac) = ⊥
IsPrepared Extended rid key None = ⊥
IsPrepared Extended rid key (Some mac) = HasTaken mac (ext_key key rid) []

-- the tail is that of a message of this kind, and an extended one names this RID
abbrev pub IsTailFor : Kind → ℕ → Tail → Type 0
IsTailFor kind rid Plain = ⊥
IsTailFor kind rid (Short68 key_id sum) = kind ≡ Short
IsTailFor kind rid (Ext120 other reserved flags hints hash sum) = (kind ≡ Extended) × (other ≡ rid)
