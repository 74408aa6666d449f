-- `element_fits::misfit` meets its contract: seven distances, and the larger of each with those before.
use mathlib.Core.Path.{ap, ap₂, ◌∙◌}
use borrow.Author.Rules.{rules}
use lib.Dec.{lit≤}
use lib.IntN.{pos, negsuc}
use Rattle.rounding.specs.laws.Code.{read_back, read-size}
use Rattle.element_fits.specs.Answers.{off, larger, misfit}
use Rattle.element_fits.proofs.misfit.Statement.{statement}
use Rattle.element_fits.proofs.misfit.Tie as tie

off-requires : tie.Need-off-o0-requires
off-requires c κs = let s = c.before in (s.requires.0, lit≤ tt, read-size s.args.v.v0 100_000_000_000 s.requires.1.v0 tt)

off-requires-2 : tie.Need-off-o1-requires
off-requires-2 c κs = let s = c.before.before.before in (s.requires.0, lit≤ tt, read-size s.args.v.v1 100_000_000_000 s.requires.1.v1 tt)

off-requires-3 : tie.Need-off-o2-requires
off-requires-3 c κs = let s = c.before.before.before.before.before.before in (s.requires.0, lit≤ tt, read-size s.args.v.v2 100_000_000_000 s.requires.1.v2 tt)

off-requires-4 : tie.Need-off-o3-requires
off-requires-4 c κs = let s = c.before.before.before.before.before.before.before.before.before in (s.requires.0, lit≤ tt, read-size s.args.v.v3 100_000_000_000 s.requires.1.v3 tt)

off-requires-5 : tie.Need-off-o4-requires
off-requires-5 c κs = let s = c.before.before.before.before.before.before.before.before.before.before.before.before in (s.requires.0, lit≤ tt, read-size s.args.v.v4 100_000_000_000 s.requires.1.v4 tt)

off-requires-6 : tie.Need-off-o5-requires
off-requires-6 c κs = let s = c.before.before.before.before.before.before.before.before.before.before.before.before.before.before.before in (s.requires.0, lit≤ tt, read-size s.args.v.v5 100_000_000_000 s.requires.1.v5 tt)

off-requires-7 : tie.Need-off-o6-requires
off-requires-7 c κs = let s = c.before.before.before.before.before.before.before.before.before.before.before.before.before.before.before.before.before.before in (s.requires.0, lit≤ tt, read-size s.args.v.v6 100_000_000_000 s.requires.1.v6 tt)

returns : tie.Need-returns
unfolding misfit
returns c =
    let m6 = c in
    let m5 = m6.before.before.before in
    let m4 = m5.before.before.before in
    let m3 = m4.before.before.before in
    let m2 = m3.before.before.before in
    let m1 = m2.before.before.before in
    let s = m1.before.before.before.before.before in
    let a = s.args in
    let e1 = m1.larger-m1.ensures.0 ∙ ap₂ larger (m1.off-o0.ensures.0 ∙ ap (off a.c (negsuc 2)) (read_back a.v.v0 s.requires.1.v0 tt)) (m1.off-o1.ensures.0 ∙ ap (off a.c (negsuc 1)) (read_back a.v.v1 s.requires.1.v1 tt)) in
    let e2 = m2.larger-m2.ensures.0 ∙ ap₂ larger e1 (m2.off-o2.ensures.0 ∙ ap (off a.c (negsuc 0)) (read_back a.v.v2 s.requires.1.v2 tt)) in
    let e3 = m3.larger-m3.ensures.0 ∙ ap₂ larger e2 (m3.off-o3.ensures.0 ∙ ap (off a.c (pos 0)) (read_back a.v.v3 s.requires.1.v3 tt)) in
    let e4 = m4.larger-m4.ensures.0 ∙ ap₂ larger e3 (m4.off-o4.ensures.0 ∙ ap (off a.c (pos 1)) (read_back a.v.v4 s.requires.1.v4 tt)) in
    let e5 = m5.larger-m5.ensures.0 ∙ ap₂ larger e4 (m5.off-o5.ensures.0 ∙ ap (off a.c (pos 2)) (read_back a.v.v5 s.requires.1.v5 tt)) in
    (m6.larger.ensures.0 ∙ ap₂ larger e5 (m6.off-o6.ensures.0 ∙ ap (off a.c (pos 3)) (read_back a.v.v6 s.requires.1.v6 tt)), c.larger.ensures.1)

pub misfit_spec : {M : Type 1} → statement M
misfit_spec =
    tie.close
    (tie.spec off-requires off-requires-2 (λ c κs. search rules) off-requires-3 (λ c κs. search rules)
    off-requires-4 (λ c κs. search rules) off-requires-5 (λ c κs. search rules) off-requires-6
    (λ c κs. search rules) off-requires-7 (λ c κs. search rules) returns)
