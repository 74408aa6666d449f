-- Laws of what a line says.
use Rattle.std.specs.Prelude.{◌≡◌, Bool, cond, List, [], ◌∷◌, ℕ, ◌≤◌, ◌<◌, eqb, pos, neg_ℤ, nat_abs, get_or, take, drop, Ok, Some, Err, Result, None, Option, ℤ, Option}
use Rattle.std.proofs.Math.Path.{refl, ap}
use Rattle.std.proofs.Common.{sym, ◌∙◌, arith, eq-eqb, ne_eqb}
use Rattle.std.proofs.Math.Bool.{true, false}
use Rattle.std.proofs.Math.Decide.{dec_lt}
use Rattle.std.proofs.Math.ListN.{length}
use Rattle.tokens.specs.declared.NotUnits.{NotUnits}
use Rattle.request_text.specs.declared.Fault.{Fault}
use Rattle.rounding.specs.laws.Order.{nat_abs_opposite}
use Rattle.request_format.specs.declared.fields.Shape.{Shape}
use Rattle.request_format.specs.declared.fields.Width.{Width}
use Rattle.request_format.specs.Fields.{holds, countOf}
use Rattle.request_format.specs.Rows.{decimals_of, width_of}
use Rattle.request_format.specs.laws.WidthLaws.{held, held-size, whole_small, held_not}
use Rattle.tokens.specs.declared.Class.TheVariants as C
use Rattle.tokens.specs.Text.{run_of, all_of, start_of}
use Rattle.tokens.specs.laws.TextLaws.{rest-is}
use Rattle.tokens.specs.Numbers.{is_number, is_whole, amount, capped, units_of}
use Rattle.tokens.specs.laws.NumberLaws.{part, capped_below, capped_above}
use Rattle.request_text.specs.Names.{names, named, find_in}
use Rattle.request_text.specs.laws.NameLaws.{found_at}
use Rattle.request_text.specs.Lines.{with_sign, fitted, value_of, valued, of_value, of_found, of_name, said, meaning_of, names_clock, number_in}
use Rattle.request_text.specs.Typing.{InRoom}

-- ---- a number with its sign

pub sign_minus : (minus n : ℕ) → minus ≡ 1 → with_sign minus n ≡ neg_ℤ (pos n)
unfolding with_sign
sign_minus minus n e = rw (eq-eqb minus 1 e)

pub sign_none : (minus n : ℕ) → (minus ≡ 1 → ⊥) → with_sign minus n ≡ pos n
unfolding with_sign
sign_none minus n h = rw (ne_eqb minus 1 h)

sign_size : (minus n : ℕ) → nat_abs (with_sign minus n) ≡ n
unfolding with_sign
sign_size minus n = by (eqb minus 1)
  where
    by : (b : Bool) → nat_abs (cond b (neg_ℤ (pos n)) (pos n)) ≡ n
    by true = nat_abs_opposite (pos n)
    by false = refl

-- ---- a number that fits

module _ (k : ℕ) (w : Width) (minus n : ℕ) where
  pub fitted-in : holds w (with_sign minus n) ≡ true → Ok (Some (k, (with_sign minus n))) ≡ fitted k w minus n
  unfolding fitted
  fitted-in e = rw e

  pub fitted-out : holds w (with_sign minus n) ≡ false → Err (Fault.Unfit k) ≡ fitted k w minus n
  unfolding fitted
  fitted-out e = rw e

-- numbers that no field holds need not be told apart
fitted-capped : (k : ℕ) (w : Width) (minus n : ℕ) → fitted k w minus (capped n) ≡ fitted k w minus n
fitted-capped k w minus n =
    elim (dec_lt n 4294967296) [
      | yes l ↦ ap (fitted k w minus) (capped_below n l)
      | no l ↦ let g : 4294967296 ≤ n = omega arith in
          ap (fitted k w minus) (capped_above n g)
          ∙ sym (fitted-out k w minus 4294967296 (held_not w (with_sign minus 4294967296) (omega (arith, sign_size minus 4294967296))))
          ∙ fitted-out k w minus n (held_not w (with_sign minus n) (omega (arith, sign_size minus n)))
    ]

-- what the units of a word make of it
abbrev pub of_units : Shape → ℕ → ℕ → Result ℕ NotUnits → Result (Option (ℕ × ℤ)) Fault
of_units shape k minus (Ok n) = fitted k (width_of shape k) minus n
of_units shape k minus (Err NotUnits.NotWhole) = Err (Fault.NotWhole k)
of_units shape k minus (Err NotUnits.NotNumber) = Err (Fault.NotNumber k)

pub value_by : (shape : Shape) (k : ℕ) (w : List ℕ) → of_units shape k (start_of C.Minus w) (units_of (decimals_of shape k) w) ≡ value_of shape k w
unfolding units_of value_of
value_by shape k w = by (is_number w) (is_whole (decimals_of shape k) w)
  where
    by : (a b : Bool) → of_units shape k (start_of C.Minus w) (cond a (cond b (Ok (capped (amount (decimals_of shape k) w))) (Err NotUnits.NotWhole)) (Err NotUnits.NotNumber))
        ≡ cond a (cond b (fitted k (width_of shape k) (start_of C.Minus w) (amount (decimals_of shape k) w)) (Err (Fault.NotWhole k))) (Err (Fault.NotNumber k))
    by true true = fitted-capped k (width_of shape k) (start_of C.Minus w) (amount (decimals_of shape k) w)
    by true false = refl
    by false b = refl

-- ---- a line

module _ (shape : Shape) (k : ℕ) (s : List ℕ) (n : ℕ) (e : n ≡ run_of C.Word s) where
  pub value-crowded : all_of C.Blank (part s n) ≡ false → Err (Fault.NotNumber k) ≡ of_value shape k s
  unfolding of_value
  value-crowded h = rw (← e, ← rest-is s n, h)

  pub value-alone : all_of C.Blank (part s n) ≡ true → value_of shape k (take n s) ≡ of_value shape k s
  unfolding of_value
  value-alone h = rw (← e, ← rest-is s n, h)

pub field_none : (shape : Shape) (s : List ℕ) → find_in (names shape) 0 s ≡ None → Err Fault.Unknown ≡ of_name shape s
unfolding of_name
field_none shape s e = ap (of_found shape s) (sym e)

pub field_at : (shape : Shape) (s : List ℕ) (k n gap : ℕ) → find_in (names shape) 0 s ≡ Some (k, n) → gap ≡ run_of C.Blank (part s n) → of_value shape k (part (part s n) gap) ≡ of_name shape s
unfolding of_name
field_at shape s k n gap e g =
    ap (of_value shape k) (rest-is (part s n) gap ∙ ap (λ (i : ℕ). drop i (part s n)) g ∙ ap (λ (l : List ℕ). drop (run_of C.Blank l) l) (rest-is s n))
    ∙ ap (of_found shape s) (sym e)

module _ (l : List ℕ) (n gap : ℕ) (e : n ≡ run_of C.Said l) (g : gap ≡ run_of C.Blank (take n l)) where
  pub said-is : part (take n l) gap ≡ said l
  said-is = rest-is (take n l) gap ∙ ap (λ (i : ℕ). drop i (take n l)) g ∙ ap (λ (i : ℕ). drop (run_of C.Blank (take i l)) (take i l)) e

module _ (shape : Shape) (l x : List ℕ) (e : x ≡ said l) where
  pub meaning-none : length x ≡ 0 → (Ok None) ≡ meaning_of shape l
  unfolding meaning_of
  meaning-none z = rw (eq-eqb (length (said l)) 0 (ap length (sym e) ∙ z))

  pub meaning-some : (length x ≡ 0 → ⊥) → of_name shape x ≡ meaning_of shape l
  unfolding meaning_of
  meaning-some z = ap (of_name shape) e ∙ rw (ne_eqb (length (said l)) 0 (λ q. z (ap length e ∙ q)))

-- ---- a line that gives a number

-- of what is said: a number that is given is one of the request's, its name is said, and its bytes hold it
abbrev pub InFields : Shape → List ℕ → Result (Option (ℕ × ℤ)) Fault → Type 0
InFields shape s (Ok None) = Unit {0}
InFields shape s (Err f) = Unit {0}
InFields shape s (Ok (Some (k, z))) = (k < countOf shape) × (named (get_or (names shape) k []) s ≡ true) × (holds (width_of shape k) z ≡ true)

-- so it is small
in-room : (shape : Shape) (s : List ℕ) (line : Result (Option (ℕ × ℤ)) Fault) → InFields shape s line → InRoom (countOf shape) line
in-room shape s (Ok None) i = tt
in-room shape s (Err f) i = tt
in-room shape s (Ok (Some (k, z))) i =
    (i.0, omega (arith, held-size (width_of shape k) z (held (width_of shape k) z i.2), whole_small (width_of shape k)))

module _ (shape : Shape) (s : List ℕ) (k : ℕ) (l : k < countOf shape) (m : named (get_or (names shape) k []) s ≡ true) where
  fitted-held : (minus n : ℕ) → InFields shape s (fitted k (width_of shape k) minus n)
  unfolding fitted
  fitted-held minus n = by (holds (width_of shape k) (with_sign minus n)) refl
    where
      by : (b : Bool) → holds (width_of shape k) (with_sign minus n) ≡ b → InFields shape s (cond b (Ok (Some (k, (with_sign minus n)))) (Err (Fault.Unfit k)))
      by true e = (l, m, e)
      by false e = tt

  either : (b : Bool) (x y : Result (Option (ℕ × ℤ)) Fault) → InFields shape s x → InFields shape s y → InFields shape s (cond b x y)
  either true x y p q = p
  either false x y p q = q

  value_in : (w : List ℕ) → InFields shape s (value_of shape k w)
  unfolding value_of
  value_in w =
      either (is_number w) (cond (is_whole (decimals_of shape k) w) (fitted k (width_of shape k) (start_of C.Minus w) (amount (decimals_of shape k) w))
      (Err (Fault.NotWhole k))) (Err (Fault.NotNumber k))
      (either (is_whole (decimals_of shape k) w) (fitted k (width_of shape k) (start_of C.Minus w) (amount (decimals_of shape k) w)) (Err (Fault.NotWhole k))
      (fitted-held (start_of C.Minus w) (amount (decimals_of shape k) w)) tt)
      tt

  of-value-in : (v : List ℕ) → InFields shape s (of_value shape k v)
  unfolding of_value
  of-value-in v = either (all_of C.Blank (drop (run_of C.Word v) v)) (value_of shape k (take (run_of C.Word v) v)) (Err (Fault.NotNumber k))
      (value_in (take (run_of C.Word v) v)) tt

-- a value is small, whatever is said: the field's name is said in itself
named_self : (n : List ℕ) → named n n ≡ true
unfolding named
named_self [] = refl
named_self (x ∷ n) = rw (eq-eqb x x refl, named_self n)

pub value_room : (shape : Shape) (k : ℕ) (w : List ℕ) → k < countOf shape → InRoom (countOf shape) (value_of shape k w)
value_room shape k w h =
    let n = get_or (names shape) k [] in
    in-room shape n (value_of shape k w) (value_in shape n k h (named_self n) w)

module _ (shape : Shape) where
  of-name-in : (s : List ℕ) → InFields shape s (of_name shape s)
  unfolding of_name
  of-name-in s = by (find_in (names shape) 0 s) refl
    where
      by : (f : Option (ℕ × ℕ)) → find_in (names shape) 0 s ≡ f → InFields shape s (of_found shape s f)
      by None e = tt
      by (Some (k, n)) e = let f = found_at shape s k n e in of-value-in shape s k f.0 f.2 (valued (drop n s))

  pub meaning-in : (l : List ℕ) → InFields shape (said l) (meaning_of shape l)
  unfolding meaning_of
  meaning-in l = by (eqb (length (said l)) 0)
    where
      by : (b : Bool) → InFields shape (said l) (cond b (Ok None) (of_name shape (said l)))
      by true = tt
      by false = of-name-in (said l)

  pub meaning-room : (l : List ℕ) (line : Result (Option (ℕ × ℤ)) Fault) (n : ℕ) → line ≡ meaning_of shape l → n ≡ countOf shape → InRoom n line
  meaning-room l line n e c = rw (e, c) (in-room shape (said l) (meaning_of shape l) (meaning-in l))

  -- ---- a line of a request
  pub number-in : (l : List ℕ) → InFields shape (said l) (number_in shape l)
  unfolding number_in
  number-in l = by (names_clock l)
    where
      by : (b : Bool) → InFields shape (said l) (cond b (Ok None) (meaning_of shape l))
      by true = tt
      by false = meaning-in l

  pub number-room : (l : List ℕ) (line : Result (Option (ℕ × ℤ)) Fault) (n : ℕ) → line ≡ number_in shape l → n ≡ countOf shape → InRoom n line
  number-room l line n e c = rw (e, c) (in-room shape (said l) (number_in shape l) (number-in l))

  pub number-none : (l : List ℕ) → names_clock l ≡ true → (Ok None) ≡ number_in shape l
  unfolding number_in
  number-none l e = rw e

  pub number-said : (l : List ℕ) → names_clock l ≡ false → meaning_of shape l ≡ number_in shape l
  unfolding number_in
  number-said l e = rw e
