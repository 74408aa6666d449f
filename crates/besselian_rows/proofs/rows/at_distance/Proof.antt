-- `besselian_rows::rows::at_distance` meets its contract: a coordinate beyond the greatest distance is too far by
-- itself; else the squares are compared.
use mathlib.Core.Path.{◌≡◌, sym, ap₂, ◌∙◌}
use mathlib.Core.Bool.{Bool, ◌&&◌}
use Prim.Native.Nat.{◌≤◌}
use borrow.Author.Rules.{rules}
use lib.IntN.{nat_abs}
use lib.Signed.{le_z}
use mir.Syntax.{w64}
use mir.ValLaws.{to_z-of_z}
use Rattle.rounding.specs.laws.Code.{read_back, read-size}
use Rattle.besselian_rows.specs.Exact.{between}
use Rattle.besselian_rows.specs.Parts.{beyond}
use Rattle.besselian_rows.specs.laws.DistanceLaws.{beyond_x, beyond_y, beyond_z, not_beyond}
use Rattle.besselian_rows.proofs.rows.at_distance.Statement.{statement}
use Rattle.besselian_rows.proofs.rows.at_distance.Tie as tie

far-x : (c : tie.After-beyond-far_x) → c.beyond-far_x.result ≡ beyond c.args.x c.args.high
far-x c = let b = c.before in rw (to_z-of_z w64 b.args.x b.ranges.x, read_back b.args.high b.requires.1 tt) at c.beyond-far_x.ensures

far-y : (c : tie.After-beyond-far_y) → c.beyond-far_y.result ≡ beyond c.args.y c.args.high
far-y c = let b = c.before.before.before in rw (to_z-of_z w64 b.args.y b.ranges.y, read_back b.args.high b.requires.1 tt) at c.beyond-far_y.ensures

far-z : (c : tie.After-beyond-far_z) → c.beyond-far_z.result ≡ beyond c.args.z
    c.args.high
far-z c =
    let b = c.before.before.before.before.before in
    rw (to_z-of_z w64 b.args.z b.ranges.z, read_back b.args.high b.requires.1 tt)
    at c.beyond-far_z.ensures

returns : tie.Need-returns-then-far_x
returns c =
    let a = c.args in
    beyond_x a.x a.y a.z a.low a.high c.requires.2 (sym (far-x c.before) ∙ c.if-far_x.true)

returns-2 : tie.Need-returns-then-far_y
returns-2 c =
    let a = c.args in
    beyond_y a.x a.y a.z a.low a.high c.requires.2 (sym (far-y c.before) ∙ c.if-far_y.true)

returns-3 : tie.Need-returns-then-far_z
returns-3 c =
    let a = c.args in
    beyond_z a.x a.y a.z a.low a.high c.requires.2 (sym (far-z c.before) ∙ c.if-far_z.true)

-- none is beyond
x-size : (c : tie.Else-far_z) → nat_abs c.args.x ≤ 2400000000000
x-size c =
    let s = c.before.before.before.before.before.before in
    not_beyond s.args.x s.args.high 2400000000000 s.requires.1 s.requires.2
    (sym (far-x c.before.before.before.before.before) ∙ c.if-far_x.false)

y-size : (c : tie.Else-far_z) → nat_abs c.args.y ≤ 2400000000000
y-size c =
    let s = c.before.before.before.before.before.before in
    not_beyond s.args.y s.args.high 2400000000000 s.requires.1 s.requires.2 (sym (far-y c.before.before.before) ∙ c.if-far_y.false)

z-size : (c : tie.Else-far_z) → nat_abs c.args.z ≤ 2400000000000
z-size c =
    let s = c.before.before.before.before.before.before in
    not_beyond s.args.z s.args.high 2400000000000 s.requires.1 s.requires.2 (sym (far-z c.before) ∙ c.if-far_z.false)

sum-of-squares-requires : tie.Need-sum_of_squares-w-requires
sum-of-squares-requires c κs =
    let a = c.args in
    (read-size a.x 2406500000000 (x-size c) tt, read-size a.y 2406500000000 (y-size c) tt, read-size a.z 2406500000000 (z-size c) tt)

square-requires : tie.Need-square-a-requires
square-requires c κs =
    read-size c.args.low 2406500000000
    c.requires.0 tt

square-requires-2 : tie.Need-square-b-requires
square-requires-2 c κs =
    read-size c.args.high 2406500000000
    c.requires.1 tt

returns-4 : tie.Need-returns
unfolding between
returns-4 c =
    let a = c.args in
    let s = c.requires in
    let k = c.before.before.before.before.before in
    let w = rw (read_back a.x (x-size k) tt, read_back a.y (y-size k) tt, read_back a.z (z-size k) tt)
    at c.sum_of_squares-w.ensures.value in
    let l = rw (read_back a.low s.0 tt) at c.square-a.ensures.value in
    let h = rw (read_back a.high s.1 tt) at c.square-b.ensures.value in
    ap₂ (λ (s t : Bool). s && t) (c.at_most-enough.ensures ∙ ap₂ le_z l w) (c.at_most-near.ensures ∙ ap₂ le_z w h)

pub at_distance_spec : {M : Type 1} → statement M
at_distance_spec =
    tie.close
    (tie.spec (λ c κs. search rules) returns (λ c κs. search rules) returns-2 (λ c κs. search rules) returns-3
    sum-of-squares-requires square-requires square-requires-2 (λ c κs. search rules) (λ c κs. search rules)
    returns-4)
