-- near of naturals is one division of naturals.
use Rattle.std.proofs.Common.{sym}
use Rattle.rounding.proofs.laws.NearLaws.{near-pos}
use Rattle.rounding.proofs.near_unsigned.Goals as goal

pub returns : goal.returns
returns c = sym (near-pos c.args.n c.args.k)
