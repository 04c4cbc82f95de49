-- What a controller says of itself.
use Rattle.std.specs.Prelude.{◌≡◌, ℤ, pos, negsuc, codes}
use Rattle.ntp_wire.specs.Stamp.{IsStampOf}
use Rattle.dc_sign.specs.declared.info.ServerInfo.{ServerInfo}

-- the information of a controller that keeps the time by its own clock, at a moment
pub record IsLocalInfo (t2 : ℤ) (info : ServerInfo) : Type 0 where
  pub leap : info.leap ≡ 0
  pub stratum : info.stratum ≡ 1
  pub precision : info.precision ≡ negsuc 22
  pub root_delay : info.root_delay ≡ pos 0
  pub root_dispersion : info.root_dispersion ≡ 0
  pub reference_id : info.reference_id ≡ codes "LOCL"
  pub reference : IsStampOf t2 info.reference
