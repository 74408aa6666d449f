-- Laws of one number in its bytes: they are as many as its width says, and it is read back from them.
use Rattle.std.specs.Prelude.{◌≡◌, refl, true, List, [], ◌∷◌, ◌++◌, ℕ, suc, ◌+◌, ◌-◌, ◌*◌, ◌/◌, ◌%◌, ◌≤◌, ◌<◌, ℤ, pos, negsuc, neg_ℤ, nat_abs, ◌+ℤ◌, ◌-ℤ◌, ◌≤ℤ◌, ◌<ℤ◌, length, get_or, take, drop}
use Rattle.std.proofs.Common.{sym, ap₂, ◌∙◌, arith, lt-ltb, le-ltb, get_or-drop}
use Rattle.std.proofs.Math.Path.{ap}
use Rattle.std.proofs.Math.Decide.{dec_lt}
use Rattle.rounding.specs.Parts.{same, sum, opposite}
use Rattle.rounding.specs.laws.Order.{zs}
use Rattle.big_endian.specs.Numbers.{two, two_at, four_at, Bytes}
use Rattle.request_format.specs.declared.fields.Width.{Width}
use Rattle.request_format.specs.declared.fields.Width.TheVariants as W
use Rattle.request_format.specs.Fields.{bytes_in, whole_of, holds}
use Rattle.request_format.specs.laws.WidthLaws.{Held, held, holding, held-size}
use Rattle.request_format.specs.Layout.{complement, signed, big_endian, value_at, number_bytes, number_at}

-- ---- two's complement

pub complement_below : (z : ℤ) (whole : ℕ) → z <ℤ pos 0 → nat_abs z < whole → z +ℤ pos whole ≡ pos (complement whole z)
unfolding complement
complement_below (pos a) whole l h = absurd (omega (arith, zs, l))
complement_below (negsuc a) whole l h = same (negsuc a +ℤ pos whole) (pos (whole - suc a)) (omega (arith, (sum (negsuc a) (pos whole)).is))

pub complement_above : (z : ℤ) (whole : ℕ) → pos 0 ≤ℤ z → z ≡ pos (complement whole z)
unfolding complement
complement_above (pos a) whole l = refl
complement_above (negsuc a) whole l = absurd l.le

pub complement_small : (z : ℤ) (whole : ℕ) → nat_abs z < whole → complement whole z < whole
unfolding complement
complement_small (pos a) whole h = h
complement_small (negsuc a) whole h = omega arith

pub signed_below : (half n : ℕ) → n < half → signed half n ≡ pos n
unfolding signed
signed_below half n h = rw (lt-ltb n half h)

pub signed_above : (half n : ℕ) → half ≤ n → signed half n ≡ pos n -ℤ pos (2 * half)
unfolding signed
signed_above half n h = rw (le-ltb n half h)

-- two's complement, read back
signed_back : (half : ℕ) (z : ℤ) → neg_ℤ (pos half) ≤ℤ z → z <ℤ pos half → signed half (complement (2 * half) z) ≡ z
unfolding complement
signed_back half (pos a) l h = signed_below half a (omega (arith, zs))
signed_back half (negsuc a) l h =
    let k : suc a ≤ half = omega (arith, zs, (opposite (pos half)).is) in
    let w = pos (2 * half) in
    signed_above half (2 * half - suc a) (omega arith)
    ∙ same (pos (2 * half - suc a) -ℤ w) (negsuc a) (omega (arith, (sum (pos (2 * half - suc a)) (neg_ℤ w)).is, (opposite w).is))

-- ---- its bytes

pub length-number : (w : Width) (z : ℤ) → length (number_bytes w z) ≡ bytes_in w
unfolding number_bytes
length-number W.Unsigned2 z = refl
length-number W.Signed2 z = refl
length-number W.Signed4 z = refl

-- the value of a number's bytes is the number
value_back : (w : Width) (v : ℕ) (rest : List ℕ) → v < whole_of w → value_at w (big_endian w v ++ rest) 0 ≡ v
value_back W.Unsigned2 v rest h = omega arith
value_back W.Signed2 v rest h = omega arith
value_back W.Signed4 v rest h = omega arith

pub number_back : (w : Width) (z : ℤ) (rest : List ℕ) → holds w z ≡ true → number_at w (number_bytes w z ++ rest) 0 ≡ z
unfolding number_bytes number_at
number_back W.Unsigned2 z rest e =
    let h = held W.Unsigned2 z e in
    ap pos (value_back W.Unsigned2 (complement 65536 z) rest (complement_small z 65536 (held-size W.Unsigned2 z h))) ∙ sym (complement_above z 65536 h.low)
number_back W.Signed2 z rest e =
    let h = held W.Signed2 z e in
    ap (signed 32768) (value_back W.Signed2 (complement 65536 z) rest (complement_small z 65536 (held-size W.Signed2 z h)))
    ∙ signed_back 32768 z h.low (omega (arith, zs, h.high))
number_back W.Signed4 z rest e =
    let h = held W.Signed4 z e in
    ap (signed 2147483648) (value_back W.Signed4 (complement 4294967296 z) rest (complement_small z 4294967296 (held-size W.Signed4 z h)))
    ∙ signed_back 2147483648 z h.low (omega (arith, zs, h.high))

-- ---- read, and written again

pub bytes_after : (n : ℕ) (s : List ℕ) → Bytes s → Bytes (drop n s)
bytes_after n s b i = rw (get_or-drop n s i 0) (b (n + i))

take-two : (s : List ℕ) → 2 ≤ length s → take 2 s ≡ get_or s 0 0 ∷ get_or s 1 0 ∷ []
take-two [] h = absurd (omega arith)
take-two (x ∷ []) h = absurd (omega arith)
take-two (x ∷ y ∷ s) h = refl

take-four : (s : List ℕ) → 4 ≤ length s → take 4 s ≡ get_or s 0 0 ∷ get_or s 1 0 ∷ get_or s 2 0 ∷ get_or s 3 0 ∷ []
take-four [] h = absurd (omega arith)
take-four (x ∷ []) h = absurd (omega arith)
take-four (x ∷ y ∷ []) h = absurd (omega arith)
take-four (x ∷ y ∷ z ∷ []) h = absurd (omega arith)
take-four (x ∷ y ∷ z ∷ t ∷ s) h = refl

two-again : (v a b : ℕ) → v / 256 % 256 ≡ a → v % 256 ≡ b → two v ≡ a ∷ b ∷ []
two-again v a b p q = ap₂ (λ (x y : ℕ). x ∷ y ∷ []) p q

-- the bytes of their value
value-again : (w : Width) (s : List ℕ) → Bytes s → bytes_in w ≤ length s → big_endian w (value_at w s 0) ≡ take (bytes_in w) s
value-again W.Unsigned2 s b h = two-again (two_at s 0) (get_or s 0 0) (get_or s 1 0) (omega (arith, b 0, b 1)) (omega (arith, b 0, b 1)) ∙ sym (take-two s h)
value-again W.Signed2 s b h = two-again (two_at s 0) (get_or s 0 0) (get_or s 1 0) (omega (arith, b 0, b 1)) (omega (arith, b 0, b 1)) ∙ sym (take-two s h)
value-again W.Signed4 s b h =
    let v = four_at s 0 in
    ap₂ (λ (x y : List ℕ). x ++ y)
    (two-again (v / 65536) (get_or s 0 0) (get_or s 1 0) (omega (arith, b 0, b 1, b 2, b 3)) (omega (arith, b 0, b 1, b 2, b 3)))
    (two-again v (get_or s 2 0) (get_or s 3 0) (omega (arith, b 0, b 1, b 2, b 3)) (omega (arith, b 0, b 1, b 2, b 3)))
    ∙ sym (take-four s h)

value_small : (w : Width) (s : List ℕ) → Bytes s → value_at w s 0 < whole_of w
value_small W.Unsigned2 s b = omega (arith, b 0, b 1)
value_small W.Signed2 s b = omega (arith, b 0, b 1)
value_small W.Signed4 s b = omega (arith, b 0, b 1, b 2, b 3)

-- two's complement, there and back
record Signed (half v : ℕ) (z : ℤ) : Type 0 where
  low : neg_ℤ (pos half) ≤ℤ z
  high : z <ℤ pos half
  again : complement (2 * half) z ≡ v

signed-again : (half v : ℕ) → v < 2 * half → Signed half v (signed half v)
unfolding complement
signed-again half v h =
    elim (dec_lt v half) [
      | yes l ↦ rw (signed_below half v l) (record { low = omega (arith, zs, (opposite (pos half)).is); high = omega (arith, zs); again = small })
      | no l ↦ let g : half ≤ v = omega arith in
          rw (signed_above half v g ∙ below g) (record { low = omega (arith, zs, (opposite (pos half)).is); high = omega (arith, zs); again = large g })
    ]
  where
    small : complement (2 * half) (pos v) ≡ v
    small = refl

    below : half ≤ v → pos v -ℤ pos (2 * half) ≡ negsuc (2 * half - v - 1)
    below g = let w = pos (2 * half) in same (pos v -ℤ w) (negsuc (2 * half - v - 1)) (omega (arith, (sum (pos v) (neg_ℤ w)).is, (opposite w).is))

    large : half ≤ v → complement (2 * half) (negsuc (2 * half - v - 1)) ≡ v
    large g = omega arith

-- ---- what is read is held, and has these bytes

record Again (w : Width) (s : List ℕ) (z : ℤ) : Type 0 where
  in-width : Held w z
  value : complement (whole_of w) z ≡ value_at w s 0

again : (w : Width) (s : List ℕ) → Bytes s → Again w s (number_at w s 0)
unfolding number_at complement
again W.Unsigned2 s b =
    let v = value_small W.Unsigned2 s b in
    record { in-width = record { low = omega (arith, zs); high = omega (arith, zs) }; value = refl }
again W.Signed2 s b =
    let a = signed-again 32768 (two_at s 0) (value_small W.Signed2 s b) in
    record { in-width = record { low = a.low; high = omega (arith, zs, a.high) }; value = a.again }
again W.Signed4 s b =
    let a = signed-again 2147483648 (four_at s 0) (value_small W.Signed4 s b) in
    record { in-width = record { low = a.low; high = omega (arith, zs, a.high) }; value = a.again }

module _ (w : Width) (s : List ℕ) (b : Bytes s) where
  pub number-held : holds w (number_at w s 0) ≡ true
  number-held = holding w (number_at w s 0) (again w s b).in-width

  pub number-again : bytes_in w ≤ length s → number_bytes w (number_at w s 0) ≡ take (bytes_in w) s
  unfolding number_bytes
  number-again h = ap (big_endian w) (again w s b).value ∙ value-again w s b h
