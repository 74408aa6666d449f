-- i64 arithmetic as the machine does it. A signed local holds bits, so what a need shows of a value that was computed
-- is `to_z w64 (of_z w64 x)`, nested once for each operation on the way. `Code` is such a computation as data. Bounds on
-- its slots give, by computation, a bound on each step; where each fits, `fits` answers the need, and `runs` says that
-- the result is the exact one.
use Rattle.std.specs.Prelude.{◌≡◌, refl, Bool, true, false, ◌&&◌, List, [], ◌∷◌, ℕ, zero, suc, ◌+◌, ◌*◌, ◌%◌, ◌^◌, ◌≤◌, ◌<◌, T, leb, ℤ, pos, negsuc, nat_abs, ◌+ℤ◌, ◌-ℤ◌, ◌*ℤ◌, ◌≤ℤ◌, ◌<ℤ◌, get_or}
use Rattle.std.proofs.Common.{sym, ◌∙◌, ap, ap₂, subst, arith, mul-le-mul, div-le_self, leb→le, SFits, Fits, to_z, of_z}
use Rattle.std.proofs.Math.Nat.{mod-le}
use Rattle.std.specs.Int.Signed.{lt_z, mag, quot_z, rem_z, non_neg, yes_non_neg}
use Rattle.std.specs.Int.{w64}
use Rattle.std.proofs.lemmas.Int.{to_z-of_z, to_z_pos}
use Rattle.rounding.specs.laws.Order.{nat_abs_sum, nat_abs_minus, nat_abs_product, nat_abs_quot, nat_abs_opposite, fits64, fits64_nat_abs, lt_z_true, lt_z_false}

-- what a local holds: a whole number (a parameter, a field, an element, a call's result), or bits (a variable that a
-- loop changes)
pub data Slot : Type 0 where
  whole : ℤ → Slot
  raw : ℕ → Slot

abbrev pub held : Slot → ℤ
held (whole z) = z
held (raw n) = to_z w64 n

abbrev pub held_bits : Slot → ℕ
held_bits (whole z) = of_z w64 z
held_bits (raw n) = n

abbrev pub slot : List Slot → ℕ → Slot
slot [] i = whole (pos 0)
slot (x ∷ xs) zero = x
slot (x ∷ xs) (suc i) = slot xs i

pub data Code : Type 0 where
  arg : ℕ → Code
  lit : ℤ → Code
  add sub mul quo rem : Code → Code → Code

-- the bits that the machine has
abbrev pub bits : List Slot → Code → ℕ
bits env (arg i) = held_bits (slot env i)
bits env (lit c) = of_z w64 c
bits env (add a b) = of_z w64 (to_z w64 (bits env a) +ℤ to_z w64 (bits env b))
bits env (sub a b) = of_z w64 (to_z w64 (bits env a) -ℤ to_z w64 (bits env b))
bits env (mul a b) = of_z w64 (to_z w64 (bits env a) *ℤ to_z w64 (bits env b))
bits env (quo a b) = of_z w64 (quot_z (to_z w64 (bits env a)) (to_z w64 (bits env b)))
bits env (rem a b) = of_z w64 (rem_z (to_z w64 (bits env a)) (to_z w64 (bits env b)))

-- what they are read as
abbrev pub run : List Slot → Code → ℤ
run env e = to_z w64 (bits env e)

-- the last step's result, before it becomes bits: what a need asks of
abbrev pub exact : List Slot → Code → ℤ
exact env (arg i) = held (slot env i)
exact env (lit c) = c
exact env (add a b) = to_z w64 (bits env a) +ℤ to_z w64 (bits env b)
exact env (sub a b) = to_z w64 (bits env a) -ℤ to_z w64 (bits env b)
exact env (mul a b) = to_z w64 (bits env a) *ℤ to_z w64 (bits env b)
exact env (quo a b) = quot_z (to_z w64 (bits env a)) (to_z w64 (bits env b))
exact env (rem a b) = rem_z (to_z w64 (bits env a)) (to_z w64 (bits env b))

-- as whole numbers
abbrev pub value : List Slot → Code → ℤ
value env (arg i) = held (slot env i)
value env (lit c) = c
value env (add a b) = value env a +ℤ value env b
value env (sub a b) = value env a -ℤ value env b
value env (mul a b) = value env a *ℤ value env b
value env (quo a b) = quot_z (value env a) (value env b)
value env (rem a b) = rem_z (value env a) (value env b)

-- the slots' bounds
infixr 40 ◌▹◌
pub data Within : List Slot → List ℕ → Type 0 where
  ends : Within [] []
  ◌▹◌ : {x : Slot} {b : ℕ} {xs : List Slot} {bs : List ℕ} → nat_abs (held x) ≤ b → Within xs bs → Within (x ∷ xs) (b ∷ bs)

abbrev pub bound : List ℕ → ℕ → ℕ
bound [] i = 0
bound (x ∷ xs) zero = x
bound (x ∷ xs) (suc i) = bound xs i

-- how large it can be
abbrev pub size : List ℕ → Code → ℕ
size bs (arg i) = bound bs i
size bs (lit c) = nat_abs c
size bs (add a b) = size bs a + size bs b
size bs (sub a b) = size bs a + size bs b
size bs (mul a b) = size bs a * size bs b
size bs (quo a b) = size bs a
size bs (rem a b) = size bs a

abbrev pub room : List ℕ → Code → Bool
room bs e = leb (size bs e) 9223372036854775807

abbrev pub ok : List ℕ → Code → Bool
ok bs (arg i) = room bs (arg i)
ok bs (lit c) = room bs (lit c)
ok bs (add a b) = room bs (add a b) && (ok bs a && ok bs b)
ok bs (sub a b) = room bs (sub a b) && (ok bs a && ok bs b)
ok bs (mul a b) = room bs (mul a b) && (ok bs a && ok bs b)
ok bs (quo a b) = room bs (quo a b) && (ok bs a && ok bs b)
ok bs (rem a b) = room bs (rem a b) && (ok bs a && ok bs b)

first : (s t : Bool) → T (s && t) → T s
first true t h = tt
first false t h = h

second : (s t : Bool) → T (s && t) → T t
second true t h = h
second false t h = absurd h

slot-within : {env : List Slot} {bs : List ℕ} → Within env bs → (i : ℕ) → nat_abs (held (slot env i)) ≤ bound bs i
slot-within ends i = omega arith
slot-within (h ▹ w) zero = h
slot-within (h ▹ w) (suc i) = slot-within w i

nat_abs_rem : (a b : ℤ) → nat_abs (rem_z a b) ≤ nat_abs a
nat_abs_rem (pos a) b = mod-le a (nat_abs b)
nat_abs_rem (negsuc a) b = omega (arith, nat_abs_opposite (pos (suc a % nat_abs b)), mod-le (suc a) (nat_abs b))

held-bits : (x : Slot) → SFits w64 (held x) → to_z w64 (held_bits x) ≡ held x
held-bits (whole z) h = to_z-of_z w64 z h
held-bits (raw n) h = refl

module _ {env : List Slot} {bs : List ℕ} (w : Within env bs) where
  -- the exact value is within its bound
  pub sized : (e : Code) → nat_abs (value env e) ≤ size bs e
  sized (arg i) = slot-within w i
  sized (lit c) = omega arith
  sized (add a b) = omega (arith, nat_abs_sum (value env a) (value env b), sized a, sized b)
  sized (sub a b) = omega (arith, nat_abs_minus (value env a) (value env b), sized a, sized b)
  sized (mul a b) = omega (arith, nat_abs_product (value env a) (value env b), mul-le-mul (sized a) (sized b))
  sized (quo a b) = omega (arith, nat_abs_quot (value env a) (value env b), div-le_self (nat_abs (value env a)) (nat_abs (value env b)), sized a)
  sized (rem a b) = omega (arith, nat_abs_rem (value env a) (value env b), sized a)

  value-fits : (e : Code) → T (room bs e) → SFits w64 (value env e)
  value-fits e t = fits64 (value env e) (omega (arith, sized e, leb→le (size bs e) 9223372036854775807 t))

  -- what the machine computes is the exact value
  pub runs : (e : Code) → T (ok bs e) → run env e ≡ value env e
  runs (arg i) t = held-bits (slot env i) (value-fits (arg i) t)
  runs (lit c) t = to_z-of_z w64 c (value-fits (lit c) t)
  runs (add a b) t =
      let k = second (room bs (add a b)) (ok bs a && ok bs b) t in
      ap₂ (λ (u v : ℤ). to_z w64 (of_z w64 (u +ℤ v))) (runs a (first (ok bs a) (ok bs b) k)) (runs b (second (ok bs a) (ok bs b) k))
      ∙ to_z-of_z w64 (value env a +ℤ value env b) (value-fits (add a b) (first (room bs (add a b)) (ok bs a && ok bs b) t))
  runs (sub a b) t =
      let k = second (room bs (sub a b)) (ok bs a && ok bs b) t in
      ap₂ (λ (u v : ℤ). to_z w64 (of_z w64 (u -ℤ v))) (runs a (first (ok bs a) (ok bs b) k)) (runs b (second (ok bs a) (ok bs b) k))
      ∙ to_z-of_z w64 (value env a -ℤ value env b) (value-fits (sub a b) (first (room bs (sub a b)) (ok bs a && ok bs b) t))
  runs (mul a b) t =
      let k = second (room bs (mul a b)) (ok bs a && ok bs b) t in
      ap₂ (λ (u v : ℤ). to_z w64 (of_z w64 (u *ℤ v))) (runs a (first (ok bs a) (ok bs b) k)) (runs b (second (ok bs a) (ok bs b) k))
      ∙ to_z-of_z w64 (value env a *ℤ value env b) (value-fits (mul a b) (first (room bs (mul a b)) (ok bs a && ok bs b) t))
  runs (quo a b) t =
      let k = second (room bs (quo a b)) (ok bs a && ok bs b) t in
      ap₂ (λ (u v : ℤ). to_z w64 (of_z w64 (quot_z (u) (v)))) (runs a (first (ok bs a) (ok bs b) k)) (runs b (second (ok bs a) (ok bs b) k))
      ∙ to_z-of_z w64 (quot_z (value env a) (value env b)) (value-fits (quo a b) (first (room bs (quo a b)) (ok bs a && ok bs b) t))
  runs (rem a b) t =
      let k = second (room bs (rem a b)) (ok bs a && ok bs b) t in
      ap₂ (λ (u v : ℤ). to_z w64 (of_z w64 (rem_z (u) (v)))) (runs a (first (ok bs a) (ok bs b) k)) (runs b (second (ok bs a) (ok bs b) k))
      ∙ to_z-of_z w64 (rem_z (value env a) (value env b)) (value-fits (rem a b) (first (room bs (rem a b)) (ok bs a && ok bs b) t))

  pub exactly : (e : Code) → T (ok bs e) → exact env e ≡ value env e
  exactly (arg i) t = refl
  exactly (lit c) t = refl
  exactly (add a b) t =
      let k = second (room bs (add a b)) (ok bs a && ok bs b) t in
      ap₂ (λ (u v : ℤ). u +ℤ v) (runs a (first (ok bs a) (ok bs b) k)) (runs b (second (ok bs a) (ok bs b) k))
  exactly (sub a b) t =
      let k = second (room bs (sub a b)) (ok bs a && ok bs b) t in
      ap₂ (λ (u v : ℤ). u -ℤ v) (runs a (first (ok bs a) (ok bs b) k)) (runs b (second (ok bs a) (ok bs b) k))
  exactly (mul a b) t =
      let k = second (room bs (mul a b)) (ok bs a && ok bs b) t in
      ap₂ (λ (u v : ℤ). u *ℤ v) (runs a (first (ok bs a) (ok bs b) k)) (runs b (second (ok bs a) (ok bs b) k))
  exactly (quo a b) t =
      let k = second (room bs (quo a b)) (ok bs a && ok bs b) t in
      ap₂ (λ (u v : ℤ). quot_z u v) (runs a (first (ok bs a) (ok bs b) k)) (runs b (second (ok bs a) (ok bs b) k))
  exactly (rem a b) t =
      let k = second (room bs (rem a b)) (ok bs a && ok bs b) t in
      ap₂ (λ (u v : ℤ). rem_z u v) (runs a (first (ok bs a) (ok bs b) k)) (runs b (second (ok bs a) (ok bs b) k))

  has_room : (e : Code) → T (ok bs e) → T (room bs e)
  has_room (arg i) t = t
  has_room (lit c) t = t
  has_room (add a b) t = first (room bs (add a b)) (ok bs a && ok bs b) t
  has_room (sub a b) t = first (room bs (sub a b)) (ok bs a && ok bs b) t
  has_room (mul a b) t = first (room bs (mul a b)) (ok bs a && ok bs b) t
  has_room (quo a b) t = first (room bs (quo a b)) (ok bs a && ok bs b) t
  has_room (rem a b) t = first (room bs (rem a b)) (ok bs a && ok bs b) t

  -- for what a callee requires: the argument as the machine has it is within a bound
  pub within : (e : Code) (m : ℕ) → T (ok bs e && leb (size bs e) m) → nat_abs (run env e) ≤ m
  within e m t =
      omega (arith, ap nat_abs (runs e (first (ok bs e) (leb (size bs e) m) t)), sized e, leb→le (size bs e) m (second (ok bs e) (leb (size bs e) m) t))

  -- for the needs of +, -, * (and the second half of those of / and %): the result fits
  pub fits : (e : Code) → T (ok bs e) → SFits w64 (exact env e)
  fits e t = subst (λ (z : ℤ). SFits w64 z) (sym (exactly e t)) (value-fits e (has_room e t))

  -- for the first half of those of / and %: the divisor's bits are not 0
  pub above : (e : Code) → T (ok bs e) → pos 0 <ℤ value env e → 0 < bits env e
  above e t h = from (bits env e) (subst (λ (z : ℤ). pos 0 <ℤ z) (sym (runs e t)) h)
    where
      from : (n : ℕ) → pos 0 <ℤ to_z w64 n → 0 < n
      from zero g = absurd g.lt
      from (suc n) g = omega arith

  -- for `x as u64`
  pub unsigned : (e : Code) → T (ok bs e) → pos 0 ≤ℤ value env e → T (non_neg (run env e)) × Fits w64 (nat_abs (run env e))
  unsigned e t h = (
    yes_non_neg (subst (λ (z : ℤ). pos 0 ≤ℤ z) (sym (runs e t)) h),
    record { fits = omega (arith, ap nat_abs (runs e t), sized e, leb→le (size bs e) 9223372036854775807 (has_room e t)) },
  )

  -- for a branch
  pub taken-< : (a b : Code) → T (ok bs a && ok bs b) → lt_z (run env a) (run env b) ≡ true → value env a <ℤ value env b
  taken-< a b t h =
      lt_z_true (value env a) (value env b)
      (sym (ap₂ lt_z (runs a (first (ok bs a) (ok bs b) t)) (runs b (second (ok bs a) (ok bs b) t))) ∙ h)

  pub left-< : (a b : Code) → T (ok bs a && ok bs b) → lt_z (run env a) (run env b) ≡ false → value env b ≤ℤ value env a
  left-< a b t h =
      lt_z_false (value env a) (value env b)
      (sym (ap₂ lt_z (runs a (first (ok bs a) (ok bs b) t)) (runs b (second (ok bs a) (ok bs b) t))) ∙ h)

-- ---- the same with no bound but that the value is one of its type, `c.fits.x`
pub cast_unsigned : (x : ℤ) → SFits w64 x → pos 0 ≤ℤ x → T (non_neg (to_z w64 (of_z w64 x))) × Fits w64 (nat_abs (to_z w64 (of_z w64 x)))
cast_unsigned x f h =
    subst (λ (z : ℤ). T (non_neg z) × Fits w64 (nat_abs z)) (sym (to_z-of_z w64 x f)) (yes_non_neg h, record { fits = omega (arith, fits64_nat_abs f) })

-- ---- a number that is handed over, or that comes back, is read from its bits
pub read_back : (z : ℤ) {m : ℕ} → nat_abs z ≤ m → T (leb m 9223372036854775807) → to_z w64 (of_z w64 z) ≡ z
read_back z {m} h t = to_z-of_z w64 z (fits64 z (omega (arith, leb→le m 9223372036854775807 t)))

-- a size that is known, a size that is asked
pub read-size : (z : ℤ) {n : ℕ} (m : ℕ) → nat_abs z ≤ n → T (leb n m && leb m 9223372036854775807) → nat_abs (to_z w64 (of_z w64 z)) ≤ m
read-size z {n} m h t =
    let l = leb→le n m (first (leb n m) (leb m 9223372036854775807) t) in
    subst (λ (y : ℤ). nat_abs y ≤ m) (sym (read_back z {m = m} (omega (arith, l)) (second (leb n m) (leb m 9223372036854775807) t))) (omega (arith, l))

-- what a call gave
pub read_result : (z : ℤ) → mag z < 2 ^ 63 → to_z w64 (of_z w64 z) ≡ z
read_result z h = to_z-of_z w64 z (record { sfits = h })

-- a test of two numbers as they are read from their bits
pub read_lt_z : (x y : ℤ) {b : Bool} → mag x < 2 ^ 63 → mag y < 2 ^ 63 → lt_z (to_z w64 (of_z w64 x)) (to_z w64 (of_z w64 y)) ≡ b → lt_z x y ≡ b
read_lt_z x y hx hy t = ap₂ lt_z (sym (read_result x hx)) (sym (read_result y hy)) ∙ t

-- a count that is cast to a signed number: the slot `raw i`
pub count-is : (i : ℕ) {m : ℕ} → i ≤ m → T (leb m 9223372036854775807) → to_z w64 i ≡ pos i
count-is i {m} h t = to_z_pos w64 i (omega (arith, leb→le m 9223372036854775807 t))

pub count-size : (i : ℕ) {m : ℕ} → i ≤ m → T (leb m 9223372036854775807) → nat_abs (to_z w64 i) ≤ m
count-size i {m} h t = subst (λ (z : ℤ). nat_abs z ≤ m) (sym (count-is i {m = m} h t)) h

-- ---- a table: each entry is at most m from 0, by one computed test
abbrev pub all_within : List ℤ → ℕ → Bool
all_within [] m = true
all_within (x ∷ xs) m = leb (nat_abs x) m && all_within xs m

pub entry : (l : List ℤ) (m : ℕ) → T (all_within l m) → (i : ℕ) → nat_abs (get_or l i (pos 0)) ≤ m
entry [] m t i = omega arith
entry (x ∷ xs) m t zero = leb→le (nat_abs x) m (first (leb (nat_abs x) m) (all_within xs m) t)
entry (x ∷ xs) m t (suc i) = entry xs m (second (leb (nat_abs x) m) (all_within xs m) t) i
