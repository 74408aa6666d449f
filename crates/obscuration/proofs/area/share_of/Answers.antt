-- One more strip, and after the last of them the share.
use Rattle.std.proofs.Common.{◌≡◌, sym, ap, ap₂, ◌∙◌, ◌*◌, ◌/◌, ◌-ℤ◌, ℕ, ℤ, arith, to_z, of_z, w64}
use mathlib.Core.List.{[], ◌∷◌}
use Rattle.rounding.specs.laws.Code.{Code, arg, sub, Within, whole, ends, ◌▹◌, runs, read_back}
use Rattle.std.proofs.lemmas.Bool.Decides.{nat_tests}
use Rattle.obscuration.specs.Share.{strips, chord, sun, moon, lesser_of, lesser, sum_of, share_of}
use Rattle.obscuration.specs.laws.StripLaws.{sum-none, sum_next}
use Rattle.obscuration.specs.laws.DiscLaws.{sun_above}
use Rattle.obscuration.proofs.area.share_of.Goals as goal

pub loop-i-init : goal.loop-i-init
loop-i-init c = record {
  part-is = sym (sum-none _);
  all-is = sym (sum-none _);
  less = omega arith;
  small = omega arith;
  sun-small = omega arith;
  moon-small = omega arith;
}

abbrev aside : Code
aside = sub (arg 0) (arg 1)

pub loop-i-preserved : goal.loop-i-preserved
unfolding sun moon lesser
loop-i-preserved c =
    let a = c.args in
    let v = c.loop-i.invariant in
    let i = c.loop-i.i in
    let n : to_z w64 (of_z w64 a.n) ≡ a.n = read_back a.n c.requires.1 tt in
    let m : to_z w64 (of_z w64 a.m) ≡ a.m = read_back a.m c.requires.2 tt in
    let bounds : Within (whole c.offset-o.result ∷ whole a.m ∷ []) (40000000 ∷ 1000000000 ∷ []) =
    c.offset-o.ensures.size ▹ c.requires.2 ▹ ends in
    let s : c.chord-sun.result ≡ sun (to_z w64 (of_z w64 a.r)) i =
    c.chord-sun.ensures.0
    ∙ ap (λ (z : ℤ). chord (to_z w64 (of_z w64 a.r)) z) (read_back c.offset-o.result c.offset-o.ensures.size tt ∙ c.offset-o.ensures.value) in
    let o : c.chord-moon.result ≡ moon (to_z w64 (of_z w64 a.r)) (to_z w64 (of_z w64 a.n)) (to_z w64 (of_z w64 a.m)) i =
    c.chord-moon.ensures.0
    ∙ ap (λ (z : ℤ). chord (to_z w64 (of_z w64 a.n)) z)
    (runs bounds aside tt ∙ ap₂ (λ (y z : ℤ). y -ℤ z) c.offset-o.ensures.value (sym m)) in
    let l : c.min-covered.result ≡ lesser_of c.chord-sun.result c.chord-moon.result =
    grind (arith, nat_tests) in
    let e : c.min-covered.result ≡ lesser (to_z w64 (of_z w64 a.r)) (to_z w64 (of_z w64 a.n)) (to_z w64 (of_z w64 a.m)) i =
    l ∙ ap₂ lesser_of s o in
    record {
      part-is = omega (arith, sum_next (lesser (to_z w64 (of_z w64 a.r)) (to_z w64 (of_z w64 a.n)) (to_z w64 (of_z w64 a.m))) i, v.part-is, e);
      all-is = omega (arith, sum_next (sun (to_z w64 (of_z w64 a.r))) i, v.all-is, s);
      less = omega (arith, v.less, c.min-covered.ensures);
      small = omega (arith, v.small, c.chord-sun.ensures.1);
      sun-small = c.chord-sun.ensures.1;
      moon-small = c.chord-moon.ensures.1;
    }

-- after the last: i is 1000
module _ (c : goal.After-loop-i) where
  abbrev r-back : to_z w64 (of_z w64 c.args.r) ≡ c.args.r
  r-back = read_back c.args.r c.requires.0 tt

  last : c.loop-i.i ≡ strips
  last = omega arith

  part-last : c.loop-i.covered ≡ sum_of (lesser c.args.r c.args.n c.args.m) strips
  part-last = cc (r-back, read_back c.args.n c.requires.1 tt, read_back c.args.m c.requires.2 tt, last, c.loop-i.invariant.part-is)

  all-last : c.loop-i.whole ≡ sum_of (sun c.args.r) strips
  all-last = cc (r-back, last, c.loop-i.invariant.all-is)

pub nonzero_div-result : goal.nonzero_div-result
nonzero_div-result c = omega (arith, all-last c, sun_above c.args.r c.requires.0 c.requires.3)

pub returns : goal.returns
unfolding share_of
returns c = ap₂ (λ (p q : ℕ). 1000000 * p / q) (part-last c) (all-last c)
