use Rattle.std.proofs.Common.{sym, rules, lit<}
use Rattle.rpc_pdu.proofs.Places.{HeaderParts, header_parts}
use Rattle.rpc_pdu.proofs.header.read_header.Goals as goal

pub returns : goal.returns
returns c =
    let parts : HeaderParts c.args.bytes.now c.read_array.result.0 c.read_u16_low_first-fragment_len.result.0 c.read_u16_low_first-auth_len.result.0 c.read_u32_low_first-call_id.result.0 =
    header_parts _ _ _ _ _ _ _ _ _
    c.read_array.ensures.bytes c.read_u16_low_first-fragment_len.ensures.bytes c.read_u16_low_first-auth_len.ensures.bytes c.read_u32_low_first-call_id.ensures.bytes
    (search rules) (search rules) (search rules) (search rules) in
    let version = sym (parts.byte_is 0 (lit< tt)) in
    let minor = sym (parts.byte_is 1 (lit< tt)) in
    let kind = sym (parts.byte_is 2 (lit< tt)) in
    let flags = sym (parts.byte_is 3 (lit< tt)) in
    let representation = sym (parts.byte_is 4 (lit< tt)) in
    let fragment = sym parts.fragment_is in
    let auth = sym parts.auth_is in
    let call = sym parts.call_is in
    λ i. record {
      version = version i;
      minor = minor i;
      kind = kind i;
      flags = flags i;
      representation = representation i;
      fragment_len = fragment i;
      auth_len = auth i;
      call_id = call i;
    }
