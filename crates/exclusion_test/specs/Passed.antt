-- What the test on two computed seconds h apart shows of their numbers. Definitions only.
use Rattle.std.specs.Prelude.{ℕ, ◌≤◌, ◌<◌, ◌⊎◌, ℤ, pos, nat_abs, ◌+ℤ◌, ◌-ℤ◌, ◌*ℤ◌, ◌≤ℤ◌}
use Rattle.shadow_geometry.specs.Shadow.{◌²}
use Rattle.shadow.specs.declared.Sample.{Sample}
use Rattle.shadow.specs.Second.{radius_in}
use Rattle.chord_bounds.specs.Margins.{slack, Spans, OneSign}
use Rattle.exclusion_test.specs.Samples.{size}

-- the bend of seconds h apart is at most q, in units
pub record Bend (h : ℕ) (q : ℤ) : Type 0 where
  pub enough : (pos 7 *ℤ (pos h *ℤ pos h)) ≤ℤ (pos 16 *ℤ q)
  pub size : nat_abs q ≤ 204120001

-- s is at least the half of r
pub record Half (r s : ℤ) : Type 0 where
  pub up : r ≤ℤ (pos 2 *ℤ s)
  pub size : nat_abs s ≤ 2300000000

-- r times n is at most p
pub record Part (p n r : ℤ) : Type 0 where
  pub low : (r *ℤ n) ≤ℤ p
  pub size : nat_abs r ≤ 1000000000

-- r is at most the root of m, and r + 1 at least
pub record Distance (m r : ℤ) : Type 0 where
  pub nonneg : pos 0 ≤ℤ r
  pub low : (r ²) ≤ℤ m
  pub high : m ≤ℤ ((r +ℤ pos 1) ²)
  pub size : nat_abs r ≤ 1000000000

-- the margins are there and span the bend q
pub record Spanning (α β q : ℤ) : Type 0 where
  pub first : pos 1 ≤ℤ α
  pub second : pos 1 ≤ℤ β
  pub spans : Spans α β q

-- both ends, of squares m and o, are inside their radii r and s: the margins without the guard and the slack, g
-- together, are k and n
pub record In (r m s o g q : ℤ) : Type 0 where
  pub first : pos 1 ≤ℤ r
  pub second : pos 1 ≤ℤ s
  pub k : ℤ
  pub n : ℤ
  pub start : (k *ℤ (pos 2 *ℤ r)) ≤ℤ (r ² -ℤ m)
  pub end : (n *ℤ (pos 2 *ℤ s)) ≤ℤ (s ² -ℤ o)
  pub spanning : Spanning (k -ℤ g) (n -ℤ g) q

-- the state of a phase is shown for all between: k and l are how far out the ends are, r and s their L, m and o their
-- M, g the guard and the slack
abbrev pub Shows : (k l r m s o g q : ℤ) → Type 0
Shows k l r m s o g q = Spanning (k -ℤ size r -ℤ g) (l -ℤ size s -ℤ g) q ⊎ (OneSign r s × In (size r) m (size s) o g q)

-- how large these are, for the code
pub record ShowsSizes (k l r m s o g q : ℤ) : Type 0 where
  pub near : nat_abs k ≤ 1000000000
  pub far : nat_abs l ≤ 1000000000
  pub start : nat_abs r ≤ 600000000
  pub start_square : nat_abs m ≤ 1000000000000000000
  pub end : nat_abs s ≤ 600000000
  pub end_square : nat_abs o ≤ 1000000000000000000
  pub guard : nat_abs g ≤ 1059
  pub bend : nat_abs q ≤ 204120001

-- neither the closest second nor a change of state lies between c and o, of which c is the nearer: k is its distance,
-- and l how far o is out in its direction
pub record PassedFrom (guard : ℤ) (near h : ℕ) (c o : Sample) : Type 0 where
  pub k : ℤ
  pub l : ℤ
  pub q : ℤ
  pub distance : Distance c.m k
  pub along : Part (c.u *ℤ o.u +ℤ c.v *ℤ o.v) (k +ℤ pos 1) l
  pub bend : Bend h q
  pub late : Spanning (k -ℤ pos near -ℤ pos slack) (l -ℤ pos near -ℤ pos slack) q
  pub phase : (f : ℕ) → f < 2 → Shows k l (radius_in c f) c.m (radius_in o f) o.m (guard +ℤ pos slack) q

-- from either of them
abbrev pub Passed : (guard : ℤ) (near h : ℕ) (a b : Sample) → Type 0
Passed guard near h a b = PassedFrom guard near h a b ⊎ PassedFrom guard near h b a
