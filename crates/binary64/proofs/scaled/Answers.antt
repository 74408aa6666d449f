-- q·scale in two words, and by k the nearest whole number from both, from the higher one, or 0 (Words).
use Rattle.binary64.proofs.Words.{large, low_fits, low-is, mid-is, high_is}
use Rattle.binary64.proofs.scaled.Goals as goal

pub returns-then-high-k : goal.returns-then-high-k
returns-then-high-k c =
    let a = c.args in
    large a.q a.scale a.k c.requires.0 c.requires.1 c.if-k-le26.true c.if-high-k.true

pub overflow_add-result-then-k-le26-2 : goal.overflow_add-result-then-k-le26-2
overflow_add-result-then-k-le26-2 c =
    let a = c.args in
    record { fits = low_fits a.q a.scale a.k c.requires.0 c.requires.1 c.if-k-le26.true c.if-high-k.false }

pub returns-else-high-k : goal.returns-else-high-k
returns-else-high-k c =
    let a = c.args in
    low-is a.q a.scale a.k c.requires.0 c.requires.1 c.if-k-le26.true c.if-high-k.false

pub returns-then-k-le82 : goal.returns-then-k-le82
returns-then-k-le82 c =
    let a = c.args in
    mid-is a.q a.scale a.k c.requires.0 c.requires.1 c.if-k-le26.false c.if-k-le82.true

pub returns-else-k-le82 : goal.returns-else-k-le82
returns-else-k-le82 c =
    let a = c.args in
    high_is a.q a.scale a.k c.requires.0 c.requires.1 c.if-k-le82.false
