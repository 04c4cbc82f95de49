use Rattle.std.proofs.Common.{◌≡◌, rules, sym}
use denote.Enum.Bare.{same_true}
use Rattle.sntp_world.specs.contracts.packet.Destination.{the_type}
use Rattle.sntp_world.specs.declared.packet.Destination.TheVariants as to
use Rattle.sntp_world.proofs.Asked.{request_by, whole_by}
use Rattle.sntp_world.proofs.packet.Packet.is_request.Goals as goal

pub returns-then-eq : goal.returns-then-eq
returns-then-eq c =
    let goes : c.args.self.now.to ≡ to.Controller = same_true the_type (search rules) _ _ (sym c.if-eq.ensures) in
    request_by _ _ c.as_slice.result.now _ _ goes c.as_slice.ensures.bytes (whole_by _ (λ short. let e = c.in-Ok.ensures.short.1 short in let no : ⊥ = cc in no))
    c.in-Ok.ensures.fields c.eq-then-eq.ensures
