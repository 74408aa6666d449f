-- What the machine gives for z and for 0 - z, where z is a sine or a cosine; and from the value to the promise.
use mathlib.Core.Path.{◌≡◌, ap, ◌∙◌}
use mathlib.Core.List.{[], ◌∷◌}
use Prim.Native.Nat.{ℕ, ◌≤◌, ◌<◌, ◌^◌}
use lib.IntN.{ℤ, pos, neg_ℤ, nat_abs, ◌-ℤ◌, +ℤ_idl}
use lib.Signed.{mag}
use mir.Syntax.{w64}
use mir.Val.{SFits, to_z, of_z}
use mir.ValLaws.{to_z-of_z}
use Rattle.rounding.specs.laws.Code.{arg, lit, sub, whole, ends, ◌▹◌, fits, runs}
use Rattle.sine.specs.Sine.{sine, cosine, IsSine, IsCosine}
use Rattle.sine.specs.laws.SineLaws.{sine-size, cosine-size}

pub is-sine : {a : ℕ} {r : ℤ} → r ≡ sine (pos a) → IsSine (pos a) r
is-sine {a} e = record { value = e; small = rw e (sine-size (pos a)) }

pub is-cosine : {a : ℕ} {r : ℤ} → r ≡ cosine (pos a) → IsCosine (pos a) r
is-cosine {a} e = record { value = e; small = rw e (cosine-size (pos a)) }

pub kept : {z v : ℤ} → mag z < 2 ^ 63 → z ≡ v → to_z w64 (of_z w64 z) ≡ v
kept {z} ok e = to_z-of_z w64 z record { sfits = ok } ∙ e

module _ (z : ℤ) (h : nat_abs z ≤ 100_000_000) where
  pub minus-fits : SFits w64 (pos 0 -ℤ to_z w64 (of_z w64 z))
  minus-fits = fits {env = whole z ∷ []} {bs = 100_000_000 ∷ []} (h ▹ ends) (sub (lit (pos 0)) (arg 0)) tt

  pub minus : {v : ℤ} → z ≡ v → to_z w64 (of_z w64 (pos 0 -ℤ to_z w64 (of_z w64 z))) ≡ neg_ℤ v
  minus e =
      runs {env = whole z ∷ []} {bs = 100_000_000 ∷ []} (h ▹ ends) (sub (lit (pos 0)) (arg 0)) tt ∙ +ℤ_idl (neg_ℤ z) ∙ ap neg_ℤ e
