-- The distance less L, taken as a whole, moves by less than 19 units from the exact shadow of demand 3 to the true one.
-- Over any two denominators: the exact point (E, N) and edge Ke stand over D, the true (Ut, Vt) and Kt over T. A
-- definition only.
use Rattle.std.specs.Prelude.{ℕ, ℤ, pos, ◌+ℤ◌, ◌-ℤ◌, ◌*ℤ◌}
use Rattle.shadow_geometry.specs.Shadow.{◌²}
use Rattle.shadow_geometry.specs.Exact.{AtMost, Less, AtLeast}

-- "for every whole t", here in D-ths of a unit: where the exact distance is at most the exact L and t, the true one is
-- less than the true L and t and 19 units; where it is at least the exact L and t, the true one is at least the true L
-- and t less 19 units. All over D·T.
pub record Nineteen (D T : ℕ) (E N Ke Ut Vt Kt : ℤ) : Type 0 where
  pub at_most : (t : ℤ) → AtMost (E ² +ℤ N ²) (Ke +ℤ t)
      → Less ((Ut ² +ℤ Vt ²) *ℤ (pos D *ℤ pos D)) (Kt *ℤ pos D +ℤ (t +ℤ pos 19 *ℤ pos D) *ℤ pos T)
  pub at_least : (t : ℤ) → AtLeast (E ² +ℤ N ²) (Ke +ℤ t)
      → AtLeast ((Ut ² +ℤ Vt ²) *ℤ (pos D *ℤ pos D)) (Kt *ℤ pos D +ℤ (t -ℤ pos 19 *ℤ pos D) *ℤ pos T)
