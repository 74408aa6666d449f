use Rattle.std.proofs.Common.{◌≡◌, refl, ap, ◌∙◌, ℤ, neg_ℤ, nat_abs, arith, Bool, true, false, cond}
use Rattle.std.specs.Int.{int_max, int_min}
use Rattle.std.specs.Int.Signed.{lt_z}
use Rattle.rounding.specs.Units.{one}
use Rattle.rounding.specs.laws.Code.{read_back}
use Rattle.horizon.specs.Altitude.{kept}
use Rattle.horizon.specs.laws.AltitudeLaws.{kept-size}
use Rattle.horizon.proofs.altitudes.kept.Goals as goal

clamped : (z : ℤ) → int_max (neg_ℤ one) (int_min z one) ≡ kept z
unfolding kept
clamped z = go (lt_z one z)
  where
    go : (b : Bool) → int_max (neg_ℤ one) (cond b one z) ≡ cond b one (cond (lt_z z (neg_ℤ one)) (neg_ℤ one) z)
    go true = refl
    go false = refl

pub returns : goal.returns
returns c =
    let a = c.args.a in
    let e : c.clamp.result ≡ kept a =
    c.clamp.ensures.value ∙ ap (λ (z : ℤ). int_max (neg_ℤ one) (int_min z one)) (read_back a c.requires tt) ∙ clamped a in
    read_back c.clamp.result {m = 100000000} (omega (arith, ap nat_abs e, kept-size a)) tt ∙ e
