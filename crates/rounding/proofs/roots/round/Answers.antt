-- The square of one more is within the bits taken in if what these are above the square of the root fits.
use Rattle.std.proofs.Common.{◌+◌, arith}
use Rattle.rounding.proofs.laws.RoundsLaws.{small, one_more, no_more}
use Rattle.rounding.proofs.roots.round.Goals as goal

pub overflow_mul-rest : goal.overflow_mul-rest
overflow_mul-rest c = let a = c.args in omega (arith, small a.n (a.i + 1) a.held.root a.held.rest (omega arith) c.requires)

pub overflow_mul-rest-2 : goal.overflow_mul-rest-2
overflow_mul-rest-2 c = let a = c.args in omega (arith, small a.n (a.i + 1) a.held.root a.held.rest (omega arith) c.requires)

pub overflow_shr-rest : goal.overflow_shr-rest
overflow_shr-rest c = let a = c.args in omega (arith, small a.n (a.i + 1) a.held.root a.held.rest (omega arith) c.requires)

pub overflow_add-rest : goal.overflow_add-rest
overflow_add-rest c = let a = c.args in omega (arith, small a.n (a.i + 1) a.held.root a.held.rest (omega arith) c.requires)

pub returns-then-t-rest : goal.returns-then-t-rest
returns-then-t-rest c = let a = c.args in one_more a.n a.i a.held.root a.held.rest c.requires c.if-t-rest.true

pub returns-else-t-rest : goal.returns-else-t-rest
returns-else-t-rest c = let a = c.args in no_more a.n a.i a.held.root a.held.rest c.requires c.if-t-rest.false
