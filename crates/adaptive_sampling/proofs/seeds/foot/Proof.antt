-- `adaptive_sampling::seeds::foot` meets its contract: whatever the second is, it is of the window.
use Prim.Native.Nat.{◌≤◌}
use mathlib.Core.List.{[], ◌∷◌}
use native.Mathlib.Omega.{arith}
use borrow.Author.Rules.{rules}
use lib.IntN.{ℤ, pos, neg_ℤ, ◌+ℤ◌, ◌-ℤ◌, ◌*ℤ◌}
use lib.Signed.{◌≤ℤ◌, ◌<ℤ◌}
use Rattle.rounding.specs.laws.Ring.{num, ◌⊖◌, v0}
use Rattle.rounding.specs.laws.Cert.{less, lit, ◌⊞◌, certify}
use Rattle.rounding.specs.laws.Order.{+ℤ_nonneg, square_nonneg}
use Rattle.rounding.specs.laws.Code as K
use Rattle.rounding.specs.laws.Code.{Code, arg, add, sub, mul, Within, whole, ends, ◌▹◌, fits, within, unsigned, taken-<, left-<}
use Rattle.requests.specs.WindowLaws.{seconds-few}
use Rattle.adaptive_sampling.proofs.seeds.foot.Statement.{statement}
use Rattle.adaptive_sampling.proofs.seeds.foot.Tie as tie

-- the places before
abbrev both : tie.After-struct_told-2-1 → tie.After-offset_of-b
both c = c.before.before.before.before

abbrev both4 : tie.After-struct_told-4-1 → tie.After-offset_of-b
both4 c = both c.before.before.before.before

abbrev both6 : tie.After-struct_told-6-1 → tie.After-offset_of-b
both6 c = both4 c.before.before.before.before

abbrev start : tie.After-offset_of-a → tie.Start
start c = c.before.before

abbrev start2 : tie.After-offset_of-b → tie.Start
start2 c = start c.before

-- u and v at the start and at the end
bounds : (c : tie.After-offset_of-b) → Within
    (whole c.offset_of-a.result.u ∷ whole c.offset_of-a.result.v ∷ whole c.offset_of-b.result.u ∷ whole c.offset_of-b.result.v ∷ [])
    (602170000 ∷ 703170000 ∷ 602170000 ∷ 703170000 ∷ [])
bounds c =
    let e = c.offset_of-a.ensures in
    let f = c.offset_of-b.ensures in
    e.u.size ▹ e.v.size ▹ f.u.size ▹ f.v.size ▹ ends

abbrev P : Code
P = sub (arg 2) (arg 0)

abbrev Q : Code
Q = sub (arg 3) (arg 1)

abbrev square : Code
square = add (mul P P) (mul Q Q)

abbrev along : Code
along = add (mul (arg 0) P) (mul (arg 1) Q)

-- the window is short
few : (c : tie.Start) → c.args.n ≤ 21601
few c = omega (arith, c.requires.3, seconds-few c.args.o.window c.requires.1.window)

under : (x : ℤ) → x <ℤ pos 0 → pos 0 ≤ℤ (pos 0 +ℤ neg_ℤ x)
under x h = certify 0 (x ∷ []) (num 0) (num 0 ⊖ v0) (less v0 (num 0) h ⊞ lit 1) tt

offset-of-requires : tie.Need-offset_of-a-requires
offset-of-requires c κs = let a = c.before in (a.requires.0, a.requires.1, a.requires.2, omega (arith, a.requires.3, a.requires.4))

add-offset-of : tie.Need-overflow_add-k
add-offset-of c = omega (arith, (start c).requires.4, few (start c))

offset-of-requires-2 : tie.Need-offset_of-b-requires
offset-of-requires-2 c κs = let a = start c in (a.requires.0, a.requires.1, a.requires.2, omega (arith, a.requires.3, a.requires.4))

cast-rate : tie.Need-overflow_cast-rate
cast-rate c =
    let x = (both4 c).offset_of-a.result in
    let y = (both4 c).offset_of-b.result in
    unsigned (bounds (both4 c)) square tt (+ℤ_nonneg (square_nonneg (y.u -ℤ x.u)) (square_nonneg (y.v -ℤ x.v)))

add-rate : tie.Need-overflow_add-rate
add-rate c = record { fits = omega (arith, within (bounds (both4 c)) square 4000000000000000000 tt) }

mul-along : tie.Need-overflow_mul-along
mul-along c = fits (bounds (both4 c.before.before)) (mul (arg 0) P) tt

sub-before : tie.Need-overflow_sub-before
sub-before c = fits (bounds (both6 c.before)) (sub (K.lit (pos 0)) along) tt

cast-ahead : tie.Need-overflow_cast-ahead
cast-ahead c =
    let w = bounds (both6 c.before) in
    let x = (both6 c.before).offset_of-a.result in
    let y = (both6 c.before).offset_of-b.result in
    unsigned w (sub (K.lit (pos 0)) along) tt (under (x.u *ℤ (y.u -ℤ x.u) +ℤ x.v *ℤ (y.v -ℤ x.v)) (taken-< w along (K.lit (pos 0)) tt c.if-along-lt0.true))

sub-room : tie.Need-overflow_sub-room
sub-room c = omega (arith, (start2 (both6 c.before)).requires.4)

sub-room-2 : tie.Need-overflow_sub-room-then-along-lt0
sub-room-2 c = omega (arith, (start2 (both6 c.before)).requires.4)

add-result : tie.Need-overflow_add-result
add-result c = let a = start2 (both6 c.before.before) in omega (arith, a.requires.4, few a, c.if-ahead-room.true)

returns : tie.Need-returns-then-ahead-room
returns c = let a = start2 (both6 c.before.before) in omega (arith, a.requires.4, c.if-ahead-room.true)

sub-result : tie.Need-overflow_sub-result
sub-result c = omega (arith, (start2 (both6 c.before.before)).requires.4)

returns-2 : tie.Need-returns-then-along-lt0
returns-2 c = omega (arith, (start2 (both6 c.before.before)).requires.4)

cast-back : tie.Need-overflow_cast-back
cast-back c =
    let w = bounds (both6 c.before) in
    unsigned w along tt (left-< w along (K.lit (pos 0)) tt c.if-along-lt0.false)

returns-3 : tie.Need-returns-then-back-k
returns-3 c = omega (arith, (start2 (both6 c.before.before)).requires.4, c.if-back-k.true)

returns-4 : tie.Need-returns
returns-4 c = omega (arith, (start2 (both6 c.before.before)).requires.4)

pub foot_spec : {M : Type 1} → statement M
foot_spec =
    tie.close
    (tie.spec offset-of-requires add-offset-of offset-of-requires-2 (λ c. fits (bounds (both c)) P tt)
    (λ c. fits (bounds (both4 c)) Q tt) (λ c. fits (bounds (both4 c)) (mul P P) tt)
    (λ c. fits (bounds (both4 c)) (mul Q Q) tt) (λ c. fits (bounds (both4 c)) square tt) cast-rate add-rate
    mul-along (λ c. fits (bounds (both6 c)) (mul (arg 1) Q) tt) (λ c. fits (bounds (both6 c)) along tt)
    sub-before cast-ahead (λ c. search rules) sub-room sub-room-2 add-result returns sub-result returns-2
    cast-back (λ c. search rules) (λ c. omega (arith, c.if-back-k.true)) returns-3 returns-4)
