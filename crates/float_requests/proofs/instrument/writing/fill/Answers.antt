-- `float_requests::instrument::writing::fill` meets its contract: each turn writes one double more.
use Rattle.std.proofs.Common.{arith, ◌≡◌, ◌<◌, ◌+◌, List, [], ◌++◌, ℕ, suc, ℤ, pos, Float, ap, sym, subst, ◌∙◌, length, get_or, set, drop, length-set, add-one, append-nil}
use Rattle.std.proofs.Math.Seq.{paste, paste-suc, take_all}
use Rattle.std.specs.Float.{nan}
use native.Mathlib.Nat.{zero-add}
use Rattle.rounding.specs.laws.Code.{read_back, read-size}
use Rattle.binary64.specs.Doubles.{double_of}
use Rattle.float_requests.specs.Instrument.{scales}
use Rattle.float_requests.specs.Writing.{doubles_in}
use Rattle.float_requests.specs.laws.ScaleLaws.{scale_in, doubles_at, doubles_length}
use Rattle.float_requests.proofs.instrument.writing.fill.Goals as goal

pub double_of-requires : goal.double_of-requires
double_of-requires c =
    let i = c.loop-i.i in
    let h : i < 23 = omega arith in
    let scale = scale_in i h in
    let size = read-size (get_or c.args.units.now i (pos 0)) 1000000000 (c.requires.0.sizes i h) tt in
    (omega arith, omega arith, scale.1)

-- one double more
more : (old all room : List Float) (i : ℕ) (x : Float) → i < length old → i < length all → room ≡ paste old 0 all i → x ≡ get_or all i nan
    → set room i x ≡ paste old 0 all (i + 1)
more old all room i x g h e f =
    rw (e, f, add-one)
    (subst (λ (k : ℕ). set (paste old 0 all i) k (get_or all i nan) ≡ paste old 0 all (suc i)) (zero-add i) (paste-suc old 0 all i nan (omega arith) h))

pub loop-i-preserved : goal.loop-i-preserved
loop-i-preserved c =
    let l = c.loop-i in
    let us = c.args.units.now in
    let i = l.i in
    let h : i < 23 = omega arith in
    let all = doubles_in scales us in
    let given = c.double_of.ensures.value
    ∙ ap (λ (z : ℤ). double_of (get_or scales i 0) z) (read_back (get_or us i (pos 0)) (c.requires.0.sizes i h) tt)
    ∙ sym (doubles_at scales us [] i h (omega (arith, c.requires.0.count)))
    ∙ ap (λ (xs : List Float). get_or xs i nan) (append-nil all) in
    record {
      kept = length-set l.room i c.double_of.result ∙ l.invariant.kept;
      written =
          more c.args.room.now all l.room i c.double_of.result (omega (arith, c.requires.1))
          (omega (arith, doubles_length scales us c.requires.0.count, c.requires.0.count)) l.invariant.written given;
    }

pub returns : goal.returns
returns c =
    let l = c.loop-i in
    let all = doubles_in scales c.args.units.now in
    let e : l.i ≡ 23 = omega arith in
    l.invariant.written
    ∙ ap (λ (k : ℕ). paste c.args.room.now 0 all k) e
    ∙ ap (λ (xs : List Float). xs ++ drop 23 c.args.room.now)
    (take_all 23 all (omega (arith, doubles_length scales c.args.units.now c.requires.0.count, c.requires.0.count)))
