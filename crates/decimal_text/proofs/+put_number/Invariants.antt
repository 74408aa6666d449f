-- The number falls to its tenth and to its last digit.
use Rattle.decimal_text.proofs.+put_number.Given as goal

abbrev pub decreases-put_number : goal.decreases-put_number
decreases-put_number l = l.n
