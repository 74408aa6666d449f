-- The rules' answers about an entry, by what each asks.
use Rattle.std.specs.Prelude.{ℕ, Bool}
use Rattle.std.proofs.Math.Path.{◌≡◌, refl}
use Rattle.std.proofs.Math.Bool.{true, false, cond}
use Rattle.std.proofs.Common.{arith}
use Rattle.sheet_format.specs.declared.kinds.Progress.{Progress}
use Rattle.sheet_format.specs.declared.kinds.Entry.{Entry}
use Rattle.sheet_rules.specs.declared.rules.OrderRule.TheVariants as O
use Rattle.sheet_rules.specs.declared.rules.FieldRule.TheVariants as F
use Rattle.sheet_rules.specs.Rules.{inOrder, fields_hold, order_of, fields_as, fields_of}

module _ (p : Progress) (e : Entry) where
  pub order-kept : inOrder p e ≡ true → order_of p e ≡ O.Kept
  unfolding order_of
  order-kept o = rw o

  pub order-kept-inv : order_of p e ≡ O.Kept → inOrder p e ≡ true
  unfolding order_of
  order-kept-inv t = by (inOrder p e) t
    where
      by : (o : Bool) → cond o O.Kept O.Broken ≡ O.Kept → o ≡ true
      by true t = refl
      by false t = let z : ◌≡◌ {A = ℕ} 0 1 = cc in absurd (omega arith)

  pub fields-kept : fields_hold p e ≡ true → fields_of p e ≡ F.Kept
  unfolding fields_as
  fields-kept f = rw f

  pub fields-kept-inv : fields_of p e ≡ F.Kept → fields_hold p e ≡ true
  unfolding fields_as
  fields-kept-inv t = by (fields_hold p e) t
    where
      by : (f : Bool) → cond f F.Kept F.Broken ≡ F.Kept → f ≡ true
      by true t = refl
      by false t = let z : ◌≡◌ {A = ℕ} 0 1 = cc in absurd (omega arith)

  pub fields-broken : fields_hold p e ≡ false → fields_of p e ≡ F.Broken
  unfolding fields_as
  fields-broken f = rw f
