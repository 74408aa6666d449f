-- A second of the window that a call named by its number, as the next call reads it.
use Rattle.std.specs.Prelude.{◌≡◌, ℕ, ◌≤◌, ◌<◌, ℤ, nat_abs}
use Rattle.std.proofs.Common.{ap, ◌∙◌, arith, to_z, of_z}
use Rattle.std.specs.Int.{w64}
use Rattle.rounding.specs.laws.Code.{read_back}
use Rattle.requests.specs.declared.Occultation.{Occultation}
use Rattle.requests.specs.Windows.{nth_second, second_count}
use Rattle.requests.specs.WindowLaws.{second-size}
use Rattle.requests.specs.RequestLaws.{InLimits}
use Rattle.seconds.specs.Seconds.{closestOf}
use Rattle.seconds.proofs.laws.SecondLaws.{closest-within}
use Rattle.local_circumstances.specs.Courses.{second}
use Rattle.local_circumstances.specs.Course.{course_of}

module _ (o : Occultation) (i : InLimits o) (k : ℕ) (h : k < second_count o.window) {n : ℕ} {t : ℤ} (n-is : n ≡ k) (t-is : t ≡ nth_second o.window n) where
  named : t ≡ second (course_of o) k
  named = t-is ∙ ap (nth_second o.window) n-is

  pub sized : nat_abs t ≤ 10800
  sized = omega (arith, ap nat_abs named, second-size o.window i.window k h)

  pub read : to_z w64 (of_z w64 t) ≡ second (course_of o) k
  read = read_back t sized tt ∙ named

-- the closest one
module _ (o : Occultation) (i : InLimits o) {n : ℕ} {t : ℤ} (n-is : n ≡ closestOf o) (t-is : t ≡ nth_second o.window n) where
  pub closest-sized : nat_abs t ≤ 10800
  closest-sized = sized o i (closestOf o) (closest-within o i) n-is t-is

  pub closest-read : to_z w64 (of_z w64 t) ≡ second (course_of o) (closestOf o)
  closest-read = read o i (closestOf o) (closest-within o i) n-is t-is
