use Rattle.std.proofs.Common.{◌≡◌, ℕ, List, length, get_or, sym, ◌∙◌, ap, arith, rules, subst, length-drop}
use Rattle.rpc_pdu.specs.Bind.{AreContexts, context_at, contexts_of, offered_of}
use Rattle.rpc_pdu.proofs.Places.{BindParts, bind_parts}
use Rattle.rpc_pdu.proofs.bind.bind_of.Goals as goal

pub first_contexts-requires : goal.first_contexts-requires
first_contexts-requires c =
    let p : BindParts c.args.body.now c.read_array.result.0 c.read_u16_low_first-max_xmit.result.0
    c.read_u16_low_first-max_recv.result.0 c.read_u32_low_first-group.result.0 c.read_array.result.1.now =
    bind_parts _ _ _ _ _ _ _ _ _
    c.read_u16_low_first-max_xmit.ensures.bytes c.read_u16_low_first-max_recv.ensures.bytes c.read_u32_low_first-group.ensures.bytes c.read_array.ensures.bytes
    (search rules) (search rules) (search rules) (search rules) in
    let body = c.args.body.now in
    let same : context_at (get_or c.read_array.result.0 0 0) c.read_array.result.1.now ≡ context_at (offered_of body) (contexts_of body) =
    ap (λ (n : ℕ). context_at n c.read_array.result.1.now) (sym p.offered_is) ∙ ap (λ (l : List ℕ). context_at (offered_of body) l) p.rest_is in
    let size = ap length p.rest_is ∙ length-drop 12 body in
    omega (arith, same, size, c.requires)

pub returns : goal.returns
returns c =
    let p : BindParts c.args.body.now c.read_array.result.0 c.read_u16_low_first-max_xmit.result.0
    c.read_u16_low_first-max_recv.result.0 c.read_u32_low_first-group.result.0 c.read_array.result.1.now =
    bind_parts _ _ _ _ _ _ _ _ _
    c.read_u16_low_first-max_xmit.ensures.bytes c.read_u16_low_first-max_recv.ensures.bytes c.read_u32_low_first-group.ensures.bytes c.read_array.ensures.bytes
    (search rules) (search rules) (search rules) (search rules) in
    record {
      max_xmit = sym p.xmit_is;
      max_recv = sym p.recv_is;
      group = sym p.group_is;
      offered = sym p.offered_is;
      contexts = subst (λ (l : List ℕ). AreContexts (get_or c.read_array.result.0 0 0) c.first_contexts.result l) p.rest_is c.first_contexts.ensures;
    }
