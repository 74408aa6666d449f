-- `besselian_rows::rows::find_plane` meets its contract: four turns, two of them by an opposite.
use mathlib.Core.Path.{◌≡◌, refl, ap, ◌∙◌}
use mathlib.Core.List.{[], ◌∷◌}
use lib.IntN.{ℤ, pos, ◌+ℤ◌, ◌-ℤ◌, ◌*ℤ◌}
use Rattle.rounding.specs.Near.{near}
use Rattle.rounding.specs.laws.Ring.{num, ◌⊕◌, ◌⊖◌, ◌⊗◌, ring, v0, v1, v2, v3}
use Rattle.rounding.specs.laws.Code.{Code, arg, lit, sub, Within, whole, ends, ◌▹◌, fits, runs, within, read_back, read-size}
use Rattle.besselian_rows.specs.Exact.{one}
use Rattle.besselian_rows.specs.Rounded.{x, q, y, z}
use Rattle.besselian_rows.specs.AcceptedLaws.{moon-sizes}
use Rattle.besselian_rows.specs.laws.Sizes
use Rattle.besselian_rows.specs.laws.ReadLaws.{same_size, back, back_size}
use Rattle.besselian_rows.proofs.rows.find_plane.Statement.{statement}
use Rattle.besselian_rows.proofs.rows.find_plane.Tie as tie

-- a turn of equal numbers, and a turn by an opposite
turn-same : {a a' s s' b b' c c' : ℤ} → a ≡ a' → s ≡ s' → b ≡ b' → c ≡ c' → near (a *ℤ s +ℤ b *ℤ c) one ≡ near (a' *ℤ s' +ℤ b' *ℤ c') one
turn-same i j k l = rw (i, j, k, l) refl

turn-back : (a s b c : ℤ) → near (a *ℤ s +ℤ (pos 0 -ℤ b) *ℤ c) one ≡ near (a *ℤ s -ℤ b *ℤ c) one
turn-back a s b c = ap (λ (n : ℤ). near n one) (ring (a ∷ s ∷ b ∷ c ∷ []) (v0 ⊗ v1 ⊕ (num 0 ⊖ v2) ⊗ v3) (v0 ⊗ v1 ⊖ v2 ⊗ v3) tt)

abbrev Opposite : Code
Opposite = sub (lit (pos 0)) (arg 0)

west : (s : tie.Start) → Within (whole s.args.p.moonx ∷ []) (6500000000 ∷ [])
west s = (moon-sizes s.args.p s.requires.0.moon).0 ▹ ends

-- where a turn is made
abbrev start : tie.After-turned-x → tie.Start
start c = c.before.before.before.before.before.before

abbrev start2 : tie.After-turned-q → tie.Start
start2 c = c.before.before.before.before.before.before.before.before.before.before.before

abbrev start3 : tie.After-turned-y → tie.Start
start3 c = c.before.before.before.before.before.before.before.before.before.before.before.before.before.before.before

abbrev start4 : tie.After-turned-z → tie.Start
start4 c =
    c.before.before.before.before.before.before.before.before.before.before.before.before.before.before.before.before.before.before.before

x-is : (c : tie.After-turned-x) → c.turned-x.result ≡ x (start c).args.p
unfolding x
x-is c =
    let s = start c in
    let p = s.args.p in
    let h = s.requires.0 in
    let d = s.requires.1 in
    c.turned-x.ensures
    ∙ turn-same (read_back p.moony (moon-sizes p h.moon).1 tt) (back d.cosa (Sizes.cos-a-size p h) tt) (runs (west s) Opposite tt)
    (back d.sina (Sizes.sin-a-size p h) tt)
    ∙ turn-back p.moony _ p.moonx _

q-is : (c : tie.After-turned-q) → c.turned-q.result ≡ q (start2 c).args.p
unfolding q
q-is c =
    let s = start2 c in
    let p = s.args.p in
    let h = s.requires.0 in
    let d = s.requires.1 in
    c.turned-q.ensures
    ∙ turn-same (read_back p.moonx (moon-sizes p h.moon).0 tt) (back d.cosa (Sizes.cos-a-size p h) tt)
    (read_back p.moony (moon-sizes p h.moon).1 tt) (back d.sina (Sizes.sin-a-size p h) tt)

inward : (c : tie.After-turned-q) → Within (whole c.turned-q.result ∷ []) (13000000000 ∷ [])
inward c = let s = start2 c in same_size (q-is c) (Sizes.q-size s.args.p s.requires.0) ▹ ends

y-is : (c : tie.After-turned-y) → c.turned-y.result ≡ y (start3 c).args.p
unfolding y
y-is c =
    let s = start3 c in
    let p = s.args.p in
    let h = s.requires.0 in
    let d = s.requires.1 in
    let k = c.before.before.before.before in
    c.turned-y.ensures
    ∙ turn-same (read_back p.moonz (moon-sizes p h.moon).2 tt) (back d.cosd (Sizes.cos-d-size p h) tt)
    (runs (inward k) Opposite tt ∙ ap (λ (n : ℤ). pos 0 -ℤ n) (q-is k)) (back d.sind (Sizes.sin-d-size p h) tt)
    ∙ turn-back p.moonz _ (q p) _

z-is : (c : tie.After-turned-z) → c.turned-z.result ≡ z (start4 c).args.p
unfolding z
z-is c =
    let s = start4 c in
    let p = s.args.p in
    let h = s.requires.0 in
    let d = s.requires.1 in
    c.turned-z.ensures
    ∙ turn-same (read_back p.moonz (moon-sizes p h.moon).2 tt) (back d.sind (Sizes.sin-d-size p h) tt)
    (back (q-is c.before.before.before.before.before.before.before.before) (Sizes.q-size p h) tt) (back d.cosd (Sizes.cos-d-size p h) tt)

turned-requires : tie.Need-turned-x-requires
turned-requires c κs =
    let s = c.before.before.before.before.before in
    let p = s.args.p in
    let h = s.requires.0 in
    let d = s.requires.1 in (
      read-size p.moony 6500000000 (moon-sizes p h.moon).1 tt,
      back_size 100000000 d.cosa (Sizes.cos-a-size p h) tt,
      within (west s) Opposite 13000000000 tt,
      back_size 100000000 d.sina (Sizes.sin-a-size p h) tt,
    )

turned-requires-2 : tie.Need-turned-q-requires
turned-requires-2 c κs =
    let s = c.before.before.before.before.before.before.before.before.before.before in
    let p = s.args.p in
    let h = s.requires.0 in
    let d = s.requires.1 in (
      read-size p.moonx 6500000000 (moon-sizes p h.moon).0 tt,
      back_size 100000000 d.cosa (Sizes.cos-a-size p h) tt,
      read-size p.moony 13000000000 (moon-sizes p h.moon).1 tt,
      back_size 100000000 d.sina (Sizes.sin-a-size p h) tt,
    )

turned-requires-3 : tie.Need-turned-y-requires
turned-requires-3 c κs =
    let k = c.before.before.before in
    let s = start2 k in
    let p = s.args.p in
    let h = s.requires.0 in
    let d = s.requires.1 in (
      read-size p.moonz 6500000000 (moon-sizes p h.moon).2 tt,
      back_size 100000000 d.cosd (Sizes.cos-d-size p h) tt,
      within (inward k) Opposite 13000000000 tt,
      back_size 100000000 d.sind (Sizes.sin-d-size p h) tt,
    )

turned-requires-4 : tie.Need-turned-z-requires
turned-requires-4 c κs =
    let k = c.before.before.before.before.before.before.before in
    let s = start2 k in
    let p = s.args.p in
    let h = s.requires.0 in
    let d = s.requires.1 in (
      read-size p.moonz 6500000000 (moon-sizes p h.moon).2 tt,
      back_size 100000000 d.sind (Sizes.sin-d-size p h) tt,
      back_size 13000000000 (q-is k) (Sizes.q-size p h) tt,
      back_size 100000000 d.cosd (Sizes.cos-d-size p h) tt,
    )

returns : tie.Need-returns
returns c =
    let s = start4 c in
    let p = s.args.p in
    let h = s.requires.0 in
    record {
      x = back (x-is c.before.before.before.before.before.before.before.before.before.before.before.before.before) (Sizes.x-size p h) tt;
      y = back (y-is c.before.before.before.before) (Sizes.y-size p h) tt;
      z = back (z-is c) (Sizes.z-size p h) tt;
    }

pub find_plane_spec : {M : Type 1} → statement M
find_plane_spec = tie.close (tie.spec (λ c. fits (west c.before.before) Opposite tt) turned-requires turned-requires-2 (λ c. fits (inward c) Opposite tt) turned-requires-3 turned-requires-4 returns)
