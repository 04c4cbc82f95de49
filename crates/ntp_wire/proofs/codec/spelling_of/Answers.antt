use Rattle.std.proofs.Common.{rules}
use Rattle.ntp_wire.proofs.Headers.{written}
use Rattle.ntp_wire.proofs.codec.spelling_of.Goals as goal

pub returns-clause-spells : goal.returns-clause-spells
returns-clause-spells c = record {
  fits = search rules;
  written = written c.args.header
      c.add.new.bytes.items c.add_u32.new.bytes.items c.add_u32-2.new.bytes.items c.add-2.new.bytes.items
      c.add_stamp.new.bytes.items c.add_stamp-2.new.bytes.items c.add_stamp-3.new.bytes.items c.add_stamp-4.new.bytes.items
      (search rules)
      (search rules) c.add_u32-2.ensures.items c.add-2.ensures.items
      c.add_stamp.ensures.items c.add_stamp-2.ensures.items c.add_stamp-3.ensures.items c.add_stamp-4.ensures.items;
}
