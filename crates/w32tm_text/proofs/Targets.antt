-- The service that is called, in either spelling.
use Rattle.std.proofs.Common.{◌≡◌, ℕ, inl, inr, List, ◌∷◌, ◌++◌, Option, Some, sym, subst, ◌∙◌}
use Rattle.std.proofs.lemmas.Option.{same_Some}
use Rattle.edge_traits.specs.declared.datagram.Addr.{Addr}
use Rattle.text_grammar.specs.Address.{SpellsAddress, SpellsPort}
use Rattle.text_grammar.specs.Bytes.{HasNo}
use Rattle.text_grammar.proofs.Cuts.{is_there, one_cut}
use Rattle.text_grammar.proofs.Dotted.{address_no_colon}
use Rattle.w32tm_text.specs.Options.{SpellsHost, SpellsTarget}

-- without a colon it is an address
pub is_host : (addr : Addr) (text : List ℕ) → HasNo 58 text → SpellsTarget addr text → SpellsHost addr text
is_host addr text none spells = elim spells [
  | inl host ↦ host
  | inr socket ↦ let no_colon = rw socket.written at none in absurd (is_there 58 socket.address socket.digits no_colon)
]

-- with one it is an address and a port, cut there
pub is_socket : (addr : Addr) (text first second : List ℕ) → text ≡ first ++ 58 ∷ second → HasNo 58 first → SpellsTarget addr text
    → SpellsAddress addr.ip first × SpellsPort addr.port second
is_socket addr text first second cut none spells = elim spells [
  | inl host ↦ let no_colon = rw cut at (address_no_colon addr.ip text host.ip) in absurd (is_there 58 first second no_colon)
  | inr socket ↦
      let one = one_cut 58 first second socket.address socket.digits none (address_no_colon addr.ip _ socket.address_spelled) (sym cut ∙ socket.written) in
      (subst (SpellsAddress addr.ip) (sym one.0) socket.address_spelled, subst (SpellsPort addr.port) (sym one.1) socket.port_spelled)
]

-- an address and a port make one service
pub target_is : (addr : Addr) (ip port : ℕ) → Some ip ≡ Some addr.ip → Some port ≡ Some addr.port → ◌≡◌ {A = Option Addr} (Some record { ip = ip; port = port }) (Some addr)
target_is addr ip port same_ip same_port =
    let i = same_Some _ _ same_ip in
    let p = same_Some _ _ same_port in
    λ k. Some record { ip = i k; port = p k }
