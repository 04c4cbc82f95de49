use Rattle.std.proofs.Common.{◌≡◌, Some, map, take}
use Rattle.w32tm_text.specs.Conf.{address_at}
use Rattle.w32tm_text.proofs.conf.addresses_at.Given as goal

abbrev pub invariant-loop-place : goal.invariant-loop-place
invariant-loop-place l = map (address_at l.directory) (take l.place-index l.places) ≡ map Some l.addresses.items
