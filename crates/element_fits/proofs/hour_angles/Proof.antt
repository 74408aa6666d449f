-- `element_fits::hour_angles` meets its contract: seven calls.
use mathlib.Core.Path.{◌≡◌, ◌∙◌}
use Prim.Native.Nat.{ℕ, ◌≤◌}
use lib.Dec.{lit≤}
use lib.IntN.{ℤ, pos, negsuc, nat_abs}
use mir.Syntax.{w64}
use mir.Val.{to_z, of_z}
use Rattle.rounding.specs.laws.Code.{read_back, read-size}
use Rattle.rounding.specs.Value.{Value}
use Rattle.element_fits.specs.FromTables.{turn, offset, hour_angles}
use Rattle.element_fits.proofs.hour_angles.Statement.{statement}
use Rattle.element_fits.proofs.hour_angles.Tie as tie

abbrev read : ℤ → ℤ
read z = to_z w64 (of_z w64 z)

module _ (g a m : ℤ) where
  asked : (h : ℕ) → nat_abs g ≤ 360_000_000 → nat_abs a ≤ 360_000_000 → nat_abs m ≤ 765_000_000 → h ≤ 3
      → (nat_abs (read g) ≤ 360_000_000) × (nat_abs (read a) ≤ 360_000_000) × (h ≤ 3) × (nat_abs (read m) ≤ 765_000_000)
  asked h hg ha hm l = (read-size g 360_000_000 hg tt, read-size a 360_000_000 ha tt, l, read-size m 765_000_000 hm tt)

  -- what `relative` gave
  given : (h : ℤ) {r : ℤ} → nat_abs g ≤ 360_000_000 → nat_abs a ≤ 360_000_000 → nat_abs m ≤ 765_000_000
      → Value (offset (turn (read g) (read a) h) (read m)) 180_000_000 r → read r ≡ offset (turn g a h) m
  given h {r} hg ha hm v = read_back r v.size tt ∙ (rw (read_back g hg tt, read_back a ha tt, read_back m hm tt) at v.value)

relative-requires : tie.Need-relative-v0-requires
relative-requires c κs =
    let s = c.before.before in
    asked s.args.g.v0 s.args.a.v0 s.args.middle 3 s.requires.0.v0 s.requires.1.v0 s.requires.2 (lit≤ tt)

relative-requires-2 : tie.Need-relative-v1-requires
relative-requires-2 c κs =
    let s = c.before.before.before.before.before in
    asked s.args.g.v1 s.args.a.v1 s.args.middle 2 s.requires.0.v1 s.requires.1.v1 s.requires.2 (lit≤ tt)

relative-requires-3 : tie.Need-relative-v2-requires
relative-requires-3 c κs =
    let s = c.before.before.before.before.before.before.before.before in
    asked s.args.g.v2 s.args.a.v2 s.args.middle 1 s.requires.0.v2 s.requires.1.v2 s.requires.2 (lit≤ tt)

relative-requires-4 : tie.Need-relative-v3-requires
relative-requires-4 c κs =
    let s = c.before.before.before.before.before.before.before.before.before.before.before in
    asked s.args.g.v3 s.args.a.v3 s.args.middle 0 s.requires.0.v3 s.requires.1.v3 s.requires.2 (lit≤ tt)

relative-requires-5 : tie.Need-relative-v4-requires
relative-requires-5 c κs =
    let s = c.before.before.before.before.before.before.before.before.before.before.before.before.before.before in
    asked s.args.g.v4 s.args.a.v4 s.args.middle 1 s.requires.0.v4 s.requires.1.v4 s.requires.2 (lit≤ tt)

relative-requires-6 : tie.Need-relative-v5-requires
relative-requires-6 c κs =
    let s = c.before.before.before.before.before.before.before.before.before.before.before.before.before.before.before.before.before in
    asked s.args.g.v5 s.args.a.v5 s.args.middle 2 s.requires.0.v5 s.requires.1.v5 s.requires.2 (lit≤ tt)

relative-requires-7 : tie.Need-relative-v6-requires
relative-requires-7 c κs =
    let s = c.before.before.before.before.before.before.before.before.before.before.before.before.before.before.before.before.before.before.before.before in
    asked s.args.g.v6 s.args.a.v6 s.args.middle 3 s.requires.0.v6 s.requires.1.v6 s.requires.2 (lit≤ tt)

returns : tie.Need-returns
unfolding hour_angles
returns c =
    let s = c.before.before.before.before.before.before.before.before.before.before.before.before.before.before.before.before.before.before.before.before.before in
    rw (
      given s.args.g.v0 s.args.a.v0 s.args.middle (negsuc 2) s.requires.0.v0 s.requires.1.v0 s.requires.2 c.relative-v0.ensures,
      given s.args.g.v1 s.args.a.v1 s.args.middle (negsuc 1) s.requires.0.v1 s.requires.1.v1 s.requires.2 c.relative-v1.ensures,
      given s.args.g.v2 s.args.a.v2 s.args.middle (negsuc 0) s.requires.0.v2 s.requires.1.v2 s.requires.2 c.relative-v2.ensures,
      given s.args.g.v3 s.args.a.v3 s.args.middle (pos 0) s.requires.0.v3 s.requires.1.v3 s.requires.2 c.relative-v3.ensures,
      given s.args.g.v4 s.args.a.v4 s.args.middle (pos 1) s.requires.0.v4 s.requires.1.v4 s.requires.2 c.relative-v4.ensures,
      given s.args.g.v5 s.args.a.v5 s.args.middle (pos 2) s.requires.0.v5 s.requires.1.v5 s.requires.2 c.relative-v5.ensures,
      given s.args.g.v6 s.args.a.v6 s.args.middle (pos 3) s.requires.0.v6 s.requires.1.v6 s.requires.2 c.relative-v6.ensures,
    )

pub hour_angles_spec : {M : Type 1} → statement M
hour_angles_spec =
    tie.close
    (tie.spec relative-requires relative-requires-2 relative-requires-3 relative-requires-4
    relative-requires-5 relative-requires-6 relative-requires-7 returns)
