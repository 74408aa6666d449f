-- `element_fits::missed` meets its contract: seven tests, one after another.
use Rattle.std.specs.Prelude.{Option, ℕ}
use mathlib.Core.Path.{ap, ap₂, ◌∙◌}
use mathlib.Core.Bool.{Bool}
use native.Mathlib.Omega.{arith}
use borrow.Author.Rules.{rules}
use lib.Dec.{lit≤}
use lib.IntN.{ℤ, pos, negsuc}
use Prim.Native.Nat.{◌+◌}
use Rattle.rounding.specs.laws.Code.{read_back, read-size}
use Rattle.element_fits.specs.Answers.{unless, close, missed}
use Rattle.element_fits.proofs.missed.Statement.{statement}
use Rattle.element_fits.proofs.missed.Tie as tie

close-requires : tie.Need-close-b0-requires
close-requires c κs = let s = c.before in (s.requires.0, lit≤ tt, read-size s.args.v.v0 100_000_000_000 s.requires.1.v0 tt)

close-requires-2 : tie.Need-close-b1-requires
close-requires-2 c κs = let s = c.before.before.before.before in (s.requires.0, lit≤ tt, read-size s.args.v.v1 100_000_000_000 s.requires.1.v1 tt)

close-requires-3 : tie.Need-close-b2-requires
close-requires-3 c κs = let s = c.before.before.before.before.before.before.before in (s.requires.0, lit≤ tt, read-size s.args.v.v2 100_000_000_000 s.requires.1.v2 tt)

close-requires-4 : tie.Need-close-b3-requires
close-requires-4 c κs = let s = c.before.before.before.before.before.before.before.before.before.before in (s.requires.0, lit≤ tt, read-size s.args.v.v3 100_000_000_000 s.requires.1.v3 tt)

close-requires-5 : tie.Need-close-b4-requires
close-requires-5 c κs = let s = c.before.before.before.before.before.before.before.before.before.before.before.before.before in (s.requires.0, lit≤ tt, read-size s.args.v.v4 100_000_000_000 s.requires.1.v4 tt)

close-requires-6 : tie.Need-close-b5-requires
close-requires-6 c κs = let s = c.before.before.before.before.before.before.before.before.before.before.before.before.before.before.before.before in (s.requires.0, lit≤ tt, read-size s.args.v.v5 100_000_000_000 s.requires.1.v5 tt)

close-requires-7 : tie.Need-close-b6-requires
close-requires-7 c κs = let s = c.before.before.before.before.before.before.before.before.before.before.before.before.before.before.before.before.before.before.before in (s.requires.0, lit≤ tt, read-size s.args.v.v6 100_000_000_000 s.requires.1.v6 tt)

returns : tie.Need-returns
unfolding missed
returns c =
    let u7 = c in
    let u6 = u7.before.before.before in
    let u5 = u6.before.before.before in
    let u4 = u5.before.before.before in
    let u3 = u4.before.before.before in
    let u2 = u3.before.before.before in
    let u1 = u2.before.before.before in
    let s = u1.before.before.before in
    let a = s.args in
    let e1 = u1.unless-f0.ensures ∙ ap (λ (t : Bool). unless a.found t a.place) (u1.close-b0.ensures ∙ ap (λ (x : ℤ). close a.c (negsuc 2) x a.tolerance) (read_back a.v.v0 s.requires.1.v0 tt)) in
    let e2 = u2.unless-f1.ensures ∙ ap₂ (λ (l : Option ℕ) (t : Bool). unless l t (a.place + 1)) e1 (u2.close-b1.ensures ∙ ap (λ (x : ℤ). close a.c (negsuc 1) x a.tolerance) (read_back a.v.v1 s.requires.1.v1 tt)) in
    let e3 = u3.unless-f2.ensures ∙ ap₂ (λ (l : Option ℕ) (t : Bool). unless l t (a.place + 2)) e2 (u3.close-b2.ensures ∙ ap (λ (x : ℤ). close a.c (negsuc 0) x a.tolerance) (read_back a.v.v2 s.requires.1.v2 tt)) in
    let e4 = u4.unless-f3.ensures ∙ ap₂ (λ (l : Option ℕ) (t : Bool). unless l t (a.place + 3)) e3 (u4.close-b3.ensures ∙ ap (λ (x : ℤ). close a.c (pos 0) x a.tolerance) (read_back a.v.v3 s.requires.1.v3 tt)) in
    let e5 = u5.unless-f4.ensures ∙ ap₂ (λ (l : Option ℕ) (t : Bool). unless l t (a.place + 4)) e4 (u5.close-b4.ensures ∙ ap (λ (x : ℤ). close a.c (pos 1) x a.tolerance) (read_back a.v.v4 s.requires.1.v4 tt)) in
    let e6 = u6.unless-f5.ensures ∙ ap₂ (λ (l : Option ℕ) (t : Bool). unless l t (a.place + 5)) e5 (u6.close-b5.ensures ∙ ap (λ (x : ℤ). close a.c (pos 2) x a.tolerance) (read_back a.v.v5 s.requires.1.v5 tt)) in
    u7.unless.ensures ∙ ap₂ (λ (l : Option ℕ) (t : Bool). unless l t (a.place + 6)) e6 (u7.close-b6.ensures ∙ ap (λ (x : ℤ). close a.c (pos 3) x a.tolerance) (read_back a.v.v6 s.requires.1.v6 tt))

pub missed_spec : {M : Type 1} → statement M
missed_spec =
    tie.close
    (tie.spec close-requires (λ c κs. search rules) close-requires-2
    (λ c. record { fits = omega (arith, c.requires.2) })
    (λ c κs. search rules) close-requires-3
    (λ c. record { fits = omega (arith, c.requires.2) })
    (λ c κs. search rules) close-requires-4
    (λ c. record { fits = omega (arith, c.requires.2) })
    (λ c κs. search rules) close-requires-5
    (λ c. record { fits = omega (arith, c.requires.2) })
    (λ c κs. search rules) close-requires-6
    (λ c. record { fits = omega (arith, c.requires.2) })
    (λ c κs. search rules) close-requires-7
    (λ c. record { fits = omega (arith, c.requires.2) })
    (λ c κs. search rules) returns)
