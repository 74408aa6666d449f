-- `binary64::read` meets its contract: the sign and the size that the fields of the bits give are those of the units
-- (ReadingLaws).
use Rattle.std.specs.Prelude.{Ok}
use mathlib.Core.Path.{◌≡◌, sym, ◌∙◌, ap, subst}
use mathlib.Core.Bool.{Bool, true, false}
use mathlib.Core.List.{[], ◌∷◌}
use Prim.Native.Nat.{ℕ, ◌%◌, ◌/◌, ◌^◌, ◌≤◌, ◌<◌, min}
use native.Mathlib.Omega.{arith}
use borrow.Author.Rules.{rules}
use borrow.Author.Tests.{le-leb, lt-leb}
use lib.Dec.{T, leb}
use lib.IntN.{ℤ, pos, neg_ℤ, ◌-ℤ◌, +ℤ_idl}
use lib.Ieee.{binary64, to_bits}
use lib.Ieee.Scale.{finite}
use Rattle.rounding.specs.laws.Code as code
use Rattle.rounding.specs.laws.Code.{Code, arg, lit, sub, Within, raw, ends, ◌▹◌, runs, count-is, count-size}
use Rattle.binary64.specs.Doubles.{signed, fitted, reading_of}
use Rattle.binary64.specs.laws.Fields.{size_of}
use Rattle.binary64.proofs.laws.ReadingLaws.{finite_no_nan, units-fields, fitted_small, fitted_large, reading_none, reading-fits}
use Rattle.binary64.proofs.read.Statement.{statement}
use Rattle.binary64.proofs.read.Tie as tie

-- ---- a size that the call gave, up to 2^63, and its opposite as the machine has it
all_of : (n m : ℕ) → n ≡ min m (2 ^ 63) → n < 2 ^ 63 → m ≡ n
all_of n m e h = omega arith

over : (n m : ℕ) → n ≡ min m (2 ^ 63) → 2 ^ 63 ≤ n → 2 ^ 63 ≤ m
over n m e h = omega arith

abbrev Opposite : Code
Opposite = sub (lit (pos 0)) (arg 0)

module _ (n : ℕ) (h : n < 2 ^ 63) where
  bound : n ≤ 9223372036854775807
  bound = omega arith

  slots : Within (raw n ∷ []) (9223372036854775807 ∷ [])
  slots = count-size n bound tt ▹ ends

  opposite-is : code.run (raw n ∷ []) Opposite ≡ neg_ℤ (pos n)
  opposite-is = runs slots Opposite tt ∙ ap (λ (z : ℤ). pos 0 -ℤ z) (count-is n bound tt) ∙ +ℤ_idl (neg_ℤ (pos n))

-- ---- at the places of the code
known : (c : tie.Else-not-known) → finite c.args.x ≡ true
known c = sym c.is_finite-known.ensures ∙ c.if-not-known.false

abbrev pattern : tie.After-size-n → ℕ
pattern c = to_bits binary64 c.args.x

abbrev whole : tie.After-size-n → ℕ
whole c = size_of c.args.scale (pattern c % 2 ^ 63 / 2 ^ 52) (pattern c % 2 ^ 52)

-- what the double is read as, by its sign and size
read : (c : tie.After-size-n)
    → reading_of c.args.scale c.args.x ≡ fitted (signed (leb (2 ^ 63) (pattern c)) (whole c))
read c =
    let t = c.before.before.before in
    reading-fits t.args.scale t.args.x (known c.before)
    ∙ ap fitted (units-fields t.args.x (subst T (sym t.well_formed.0.1) tt) t.args.scale (known c.before))

-- where the size fits, it is what the call gave
read_small : (c : tie.After-size-n) (s : Bool) → c.size-n.result < 2 ^ 63 → leb (2 ^ 63) (pattern c) ≡ s
    → reading_of c.args.scale c.args.x ≡ Ok (signed s c.size-n.result)
read_small c s h e =
    read c
    ∙ ap (λ (b : Bool). fitted (signed b (whole c))) e
    ∙ ap (λ (n : ℕ). fitted (signed s n)) (all_of c.size-n.result (whole c) c.size-n.ensures h)
    ∙ fitted_small s c.size-n.result h

returns : tie.Need-returns-then-not-known
returns c =
    let t = c.before.before in
    sym (reading_none t.args.scale t.args.x (sym c.is_finite-known.ensures ∙ c.if-not-known.true))

float-to-bits-bits : tie.Need-float_to_bits-bits
float-to-bits-bits c = finite_no_nan c.args.x (known c)

returns-2 : tie.Need-returns-then-n-ge-SIGN
returns-2 c =
    let t = c.before in
    sym (read t ∙ fitted_large (leb (2 ^ 63) (pattern t)) (whole t) (over t.size-n.result (whole t) t.size-n.ensures c.if-n-ge-SIGN.true))

sub-t12 : tie.Need-overflow_sub-result
sub-t12 c = code.fits (slots c.size-n.result c.if-n-ge-SIGN.false) Opposite tt

returns-3 : tie.Need-returns-then-bits-ge-SIGN
returns-3 c =
    let t = c.before.before in
    let h = c.if-n-ge-SIGN.false in
    ap Ok (opposite-is t.size-n.result h) ∙ sym (read_small t true h (le-leb (2 ^ 63) (pattern t) c.if-bits-ge-SIGN.true))

returns-4 : tie.Need-returns-else-bits-ge-SIGN
returns-4 c =
    let t = c.before.before in
    let h = c.if-n-ge-SIGN.false in
    ap Ok (count-is t.size-n.result (bound t.size-n.result h) tt)
    ∙ sym (read_small t false h (lt-leb (2 ^ 63) (pattern t) c.if-bits-ge-SIGN.false))

pub read_spec : {M : Type 1} → statement M
read_spec =
    tie.close
    (tie.spec (λ c κs. search rules) returns float-to-bits-bits (λ c κs. search rules) returns-2
    (λ c. search rules) sub-t12 (λ c. search rules) returns-3 returns-4)
