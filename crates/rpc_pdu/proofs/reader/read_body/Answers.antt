use Rattle.std.proofs.Common.{◌≡◌, ◌+◌, ◌<◌, ◌≤◌, ℕ, List, length, take, refl, ap, arith, rules}
use Rattle.std.proofs.lemmas.List.{length-take}
use Rattle.rpc_pdu.specs.declared.pdu.Pdu.{Pdu}
use Rattle.rpc_pdu.specs.Pdu.{need}
use Rattle.rpc_pdu.proofs.Written.{fits_behind}
use Rattle.rpc_pdu.proofs.Flaws.{header_bounds}
use Rattle.rpc_pdu.proofs.Reading.{first_short, first_torn, first_whole_behind, torn_behind, whole_len, fragment_is}
use Rattle.rpc_pdu.proofs.reader.read_body.Goals as goal

pub returns-in-End-clause-rest : goal.returns-in-End-clause-rest
returns-in-End-clause-rest g c head sixteen is =
    let ended = c.in-End.ensures.bytes in
    let part = take c.in-End.field-0 c.fill.new.buf in
    let room : length c.fill.new.buf + 16 ≡ c.args.header.fragment_len = search rules in
    let few : length part + 16 < c.args.header.fragment_len = omega (arith, room, ended.0, length-take c.in-End.field-0 c.fill.new.buf) in
    record {
      taken = part;
      took = ended.1;
      closed = λ closed. ap (λ (n : ℕ). take n c.fill.new.buf) (ended.2 closed);
      shows = (first_torn head part c.args.header sixteen is c.requires.sound c.args.place few, ended.3);
    }

pub returns-in-Failed-clause-rest : goal.returns-in-Failed-clause-rest
returns-in-Failed-clause-rest g c head sixteen is =
    let failed = c.in-Failed.ensures.bytes in
    let room : length c.fill.new.buf + 16 ≡ c.args.header.fragment_len = search rules in
    let few : length failed.0 + 16 < c.args.header.fragment_len = omega (arith, room, failed.1) in
    record {
      taken = failed.0;
      took = failed.2;
      closed = λ closed. absurd cc;
      shows = (torn_behind head failed.0 c.args.header sixteen is c.requires.sound few, failed.3);
    }

pub returns-then-lacks-clause-rest : goal.returns-then-lacks-clause-rest
returns-then-lacks-clause-rest g c head sixteen is =
    let filled = c.in-Whole.ensures.bytes in
    let part = c.fill.new.buf in
    let room : length part + 16 ≡ c.args.header.fragment_len = search rules in
    let lacks : length part < need c.args.header part = search rules in
    record {
      taken = part;
      took = filled.0;
      closed = filled.1;
      shows = (
        whole_len head part c.args.header sixteen is c.requires.sound room,
        first_short head part c.args.header sixteen is c.requires.sound c.args.place room lacks,
      );
    }

pub holding-requires : goal.holding-requires
holding-requires g c =
    let room : length c.fill.new.buf + 16 ≡ c.args.header.fragment_len = search rules in
    omega (arith, room, (header_bounds c.args.header c.requires.sound).1)

pub returns-clause-rest : goal.returns-clause-rest
returns-clause-rest g c head sixteen is =
    let filled = c.in-Whole.ensures.bytes in
    let part = c.fill.new.buf in
    let h = c.args.header in
    let room : length part + 16 ≡ h.fragment_len = search rules in
    let full : need h part ≤ length part = search rules in
    let bounds = header_bounds h c.requires.sound in
    let kept : c.holding.result ≡ part = c.holding.ensures in
    let pdu : Pdu = record { kind = h.kind; flags = h.flags; call_id = h.call_id; body = c.holding.result } in
    let made : pdu ≡ record { kind = h.kind; flags = h.flags; call_id = h.call_id; body = part } =
    ap (λ (l : List ℕ). record { kind = h.kind; flags = h.flags; call_id = h.call_id; body = l }) kept in
    record {
      taken = part;
      took = filled.0;
      closed = filled.1;
      shows = (
        omega (arith, whole_len head part h sixteen is c.requires.sound room, fragment_is head part h sixteen is c.requires.sound, room, ap length kept),
        first_whole_behind head part h sixteen is c.requires.sound c.args.place pdu room full made,
      );
    }

pub returns-clause-pdu : goal.returns-clause-pdu
returns-clause-pdu g c =
    let part = c.fill.new.buf in
    let h = c.args.header in
    let room : length part + 16 ≡ h.fragment_len = search rules in
    let bounds = header_bounds h c.requires.sound in
    let kept : c.holding.result ≡ part = c.holding.ensures in
    (refl, omega (arith, room, ap length kept))

pub returns-clause-fits : goal.returns-clause-fits
returns-clause-fits g c =
    let part = c.fill.new.buf in
    let h = c.args.header in
    let room : length part + 16 ≡ h.fragment_len = search rules in
    let full : need h part ≤ length part = search rules in
    let bounds = header_bounds h c.requires.sound in
    let kept : c.holding.result ≡ part = c.holding.ensures in
    fits_behind _ h part c.requires.sound room full (search rules)
    (ap (λ (l : List ℕ). record { kind = h.kind; flags = h.flags; call_id = h.call_id; body = l }) kept)
