-- `rule_vectors::double_of` gives no NaN to `from_bits`: the exponent's field is not full, or no digit is set.
use borrow.Author.Tests.{eq-eqb, ne_eqb}
use lib.Ieee.{nan_bits}
use Rattle.rule_vectors.proofs.double_of.Goals as goal

pub float_from_bits-result : goal.float_from_bits-result
unfolding nan_bits
float_from_bits-result c = rw (ne_eqb _ 2047 c.if-bits-ne2047.true) tt

pub float_from_bits-result-then-bits-eq0 : goal.float_from_bits-result-then-bits-eq0
unfolding nan_bits
float_from_bits-result-then-bits-eq0 c = rw (eq-eqb _ 2047 c.if-bits-ne2047.false, eq-eqb _ 0 c.if-bits-eq0.true) tt
