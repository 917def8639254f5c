-- What a fold leaves. It stands in no public promise.
use Rattle.std.specs.Prelude.{◌^◌, ℤ, pos, ◌-ℤ◌, ◌*ℤ◌}
use Rattle.std.specs.Int.Signed.{shr_z}
use Rattle.residues.specs.Residue.{MODULUS}

-- z less the modulus, as often as 2^31 goes into z
unfoldable pub folded : ℤ → ℤ
folded z = z -ℤ shr_z z (2 ^ 31) *ℤ pos MODULUS
