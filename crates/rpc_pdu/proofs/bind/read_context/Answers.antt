use Rattle.std.proofs.Common.{◌≡◌, ◌+◌, ◌*◌, ◌↔◌, IsTrue, ℕ, List, get_or, drop, sym, ◌∙◌, ap, arith, rules, subst}
use Rattle.std.proofs.lemmas.List.{drop-drop}
use Rattle.rpc_pdu.specs.Bind.{HasNdr, context_len}
use Rattle.rpc_pdu.proofs.Places.{ContextParts, context_parts}
use Rattle.rpc_pdu.proofs.bind.read_context.Goals as goal

parts : (c : goal.After-has_ndr) → ContextParts c.args.bytes.now c.read_array.result.0 c.read_array-2.result.0 c.read_u16_low_first-id.result.0
    c.read_u16_low_first-major.result.0 c.read_u16_low_first-minor.result.0 c.read_u16_low_first-minor.result.1.now
parts c = context_parts _ _ _ _ _ _ _ _ _ _ _
    c.read_u16_low_first-id.ensures.bytes c.read_array.ensures.bytes c.read_array-2.ensures.bytes c.read_u16_low_first-major.ensures.bytes c.read_u16_low_first-minor.ensures.bytes
    (search rules) (search rules) (search rules) (search rules) (search rules)

pub returns-clause-context : goal.returns-clause-context
returns-clause-context c =
    let p = parts c in
    let bytes = c.args.bytes.now in
    let known = c.is_known.ensures in
    record {
      id = sym p.id_is;
      known = (
        λ is. let k = known.0 is in record { interface = p.interface_is ∙ k.0; major = p.major_is ∙ k.1; minor = omega (arith, p.minor_is, k.2) },
        λ k. known.1 (sym p.interface_is ∙ k.interface, sym p.major_is ∙ k.major, omega (arith, p.minor_is, k.minor)),
      );
      ndr = subst (λ (n : ℕ). IsTrue c.has_ndr.result ↔ HasNdr n (drop 24 bytes)) (sym p.count_is)
          (subst (λ (l : List ℕ). IsTrue c.has_ndr.result ↔ HasNdr (get_or c.read_array.result.0 0 0) l) p.rest_is c.has_ndr.ensures);
    }

pub returns-clause-rest : goal.returns-clause-rest
returns-clause-rest c =
    let p = parts c in
    let bytes = c.args.bytes.now in
    let size = get_or c.read_array.result.0 0 0 * 20 in
    let whole : 24 + size ≡ context_len bytes = omega (arith, p.count_is) in
    c.split_at.ensures.back ∙ ap (λ (l : List ℕ). drop size l) p.rest_is ∙ drop-drop size 24 bytes ∙ ap (λ (k : ℕ). drop k bytes) whole
