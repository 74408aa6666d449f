-- After the strips below i: the sums over them, that of the lesser half-chords at most the Sun's, and that at most
-- 40,000,000 a strip, as the last half-chords are.
use Rattle.std.proofs.Common.{◌≡◌, ◌≤◌, ℕ, ◌*◌, ℤ}
use Rattle.obscuration.specs.Share.{sun, lesser, sum_of}
use Rattle.obscuration.proofs.area.share_of.Given as goal

pub record Summed (r n m : ℤ) (part all beside over i : ℕ) : Type 0 where
  pub part-is : part ≡ sum_of (lesser r n m) i
  pub all-is : all ≡ sum_of (sun r) i
  pub less : part ≤ all
  pub small : all ≤ 40000000 * i
  pub sun-small : beside ≤ 40000000
  pub moon-small : over ≤ 40000000

abbrev pub invariant-loop-i : goal.invariant-loop-i
invariant-loop-i l = Summed l.r l.n l.m l.covered l.whole l.sun l.moon l.i
