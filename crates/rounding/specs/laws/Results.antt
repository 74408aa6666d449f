-- `Option` and `Result`: where two of them that hold pairs are equal, so are the parts; and what `ok_or` was given.
use Rattle.std.specs.Prelude.{◌≡◌, refl, Option, None, Some, Result, Ok, Err, ok_or}
use Rattle.std.proofs.Common.{ap}

module _ {A B E : Type 0} where
  abbrev ok_first : A → Result (A × B) E → A
  ok_first x (Ok p) = p.0
  ok_first x (Err e) = x

  abbrev ok_second : B → Result (A × B) E → B
  ok_second x (Ok p) = p.1
  ok_second x (Err e) = x

  pub ok_parts : {a c : A} {b d : B} → ◌≡◌ {A = Result (A × B) E} (Ok (a, b)) (Ok (c, d)) → (a ≡ c) × (b ≡ d)
  ok_parts {a} {c} {b} {d} e = (ap (ok_first a) e, ap (ok_second b) e)

module _ {A B : Type 0} where
  abbrev some_first : A → Option (A × B) → A
  some_first x (Some p) = p.0
  some_first x None = x

  abbrev some_second : B → Option (A × B) → B
  some_second x (Some p) = p.1
  some_second x None = x

  pub some_parts : {a c : A} {b d : B} → ◌≡◌ {A = Option (A × B)} (Some (a, b)) (Some (c, d)) → (a ≡ c) × (b ≡ d)
  some_parts {a} {c} {b} {d} e = (ap (some_first a) e, ap (some_second b) e)

-- what `ok_or` was given, by what it gave
module _ {A E : Type 0} where
  pub ok_or_err : (o : Option A) (e f : E) → ok_or o e ≡ Err f → (o ≡ None) × (f ≡ e)
  ok_or_err None e f q = (refl, cc)
  ok_or_err (Some x) e f q = absurd cc

  pub ok_or_ok : (o : Option A) (e : E) (x : A) → ok_or o e ≡ Ok x → o ≡ Some x
  ok_or_ok None e x q = absurd cc
  ok_or_ok (Some y) e x q = ap Some cc
