-- `contact_times::search::contact_bracket` meets its contract: the two states, and where one is outside and one inside,
-- the search between them.
use Rattle.std.specs.Prelude.{None}
use mathlib.Core.Path.{◌≡◌, refl, ap, ◌∙◌}
use mathlib.Core.List.{[], ◌∷◌}
use Prim.Native.Nat.{ℕ, ◌+◌, ◌≤◌, ◌<◌}
use native.Mathlib.Omega.{arith}
use lib.IntN.{ℤ, pos, nat_abs, ◌+ℤ◌, ◌-ℤ◌, ◌*ℤ◌}
use Rattle.sheet_types.specs.States.{code}
use lib.Signed.{◌<ℤ◌}
use borrow.Author.Tests.{eq-eqb, ne_eqb}
use Rattle.rounding.specs.laws.Order.{<ℤ-≤, minus_nonneg}
use Rattle.rounding.specs.laws.Ring.{num, ◌⊗◌, v0, v1}
use Rattle.rounding.specs.laws.Cert.{less, lit as litC, ◌⊞◌, ◌⊠◌, certify-<}
use Rattle.rounding.specs.laws.Code.{Code, arg, lit, sub, mul, Within, whole, ends, ◌▹◌, fits, run, runs, within, unsigned}
use Rattle.contact_times.specs.declared.hundredths.Crossing.{Crossing}
use Rattle.contact_times.specs.Brackets.{state_at, narrowed, bracket_of}
use Rattle.contact_times.specs.laws.BracketLaws.{code_small}
use Rattle.contact_times.specs.laws.EndLaws.{apart, reaches, contact-order}
use Rattle.contact_times.proofs.search.contact_bracket.Statement.{statement}
use Rattle.contact_times.proofs.search.contact_bracket.Tie as tie

-- the two seconds, in hundredths
bounds : (s : tie.Start) → Within (whole s.args.from ∷ whole s.args.to ∷ []) (10800 ∷ 10800 ∷ [])
bounds s = s.requires.2 ▹ s.requires.3 ▹ ends

abbrev first : Code
first = mul (arg 0) (lit (pos 100))

abbrev last : Code
last = mul (arg 1) (lit (pos 100))

abbrev difference : Code
difference = sub last first

first-is : (s : tie.Start) → run (whole s.args.from ∷ whole s.args.to ∷ []) first ≡ s.args.from *ℤ pos 100
first-is s = runs (bounds s) first tt

last-is : (s : tie.Start) → run (whole s.args.from ∷ whole s.args.to ∷ []) last ≡ s.args.to *ℤ pos 100
last-is s = runs (bounds s) last tt

difference-is : (s : tie.Start) → run (whole s.args.from ∷ whole s.args.to ∷ []) difference ≡ s.args.to *ℤ pos 100 -ℤ s.args.from *ℤ pos 100
difference-is s = runs (bounds s) difference tt

-- to lies n hundredths after from, of what the machine has for x and for y - x
module _ (x y : ℤ) (h : x <ℤ y) where
  end-within : {a b : ℤ} → a ≡ x → b ≡ y -ℤ x → nat_abs y ≤ 1080000 → nat_abs (a +ℤ pos (nat_abs b)) ≤ 1080000
  end-within e f k = rw (e, f, reaches x y h) k

  some : {b : ℤ} → b ≡ y -ℤ x → 0 < nat_abs b
  some f = rw f (apart x y h)

hundred-< : (x y : ℤ) → x <ℤ y → (x *ℤ pos 100) <ℤ (y *ℤ pos 100)
hundred-< x y h = certify-< 0 (x ∷ y ∷ []) (v0 ⊗ num 100) (v1 ⊗ num 100) (litC 100 ⊠ less v0 v1 h ⊞ litC 99) tt

state-at-requires : tie.Need-state_at-start-requires
state-at-requires c κs = let s = c.before in (s.requires.0, s.requires.1, within (bounds s) first 1080000 tt)

state-at-requires-2 : tie.Need-state_at-end-requires
state-at-requires-2 c κs = let s = c.before.before in (s.requires.0, s.requires.1, within (bounds s) last 1080000 tt)

-- the two states
start_is : (c : tie.After-state_at-start) → let a = c.args in c.state_at-start.result ≡ code (state_at a.c (a.from *ℤ pos 100))
start_is c = let s = c.before.before in c.state_at-start.ensures ∙ ap (λ (z : ℤ). code (state_at s.args.c z)) (first-is s)

end_is : (c : tie.After-state_at-end) → let a = c.args in c.state_at-end.result ≡ code (state_at a.c (a.to *ℤ pos 100))
end_is c = let s = c.before.before.before in c.state_at-end.ensures ∙ ap (λ (z : ℤ). code (state_at s.args.c z)) (last-is s)

add-if1 : tie.Need-overflow_add-start
add-if1 c =
    let a = c.args in
    record {
      fits = omega (
        arith,
        start_is c.before,
        end_is c,
        code_small (state_at a.c (a.from *ℤ pos 100)),
        code_small (state_at a.c (a.to *ℤ pos 100)),
      );
    }

sub-n : tie.Need-overflow_sub-n
sub-n c = fits (bounds c.before.before.before.before) difference tt

-- in hundredths, where the test has passed
later : (c : tie.Then-start-end-eq1) → let a = c.args in (a.from *ℤ pos 100) <ℤ (a.to *ℤ pos 100)
later c =
    let s = c.before.before.before.before in
    hundred-< s.args.from s.args.to
    (contact-order s.args.c s.args.from s.args.to (omega (arith, start_is c.before.before, end_is c.before)) s.requires.4)

cast-n : tie.Need-overflow_cast-n
cast-n c =
    let s = c.before.before.before.before in
    unsigned (bounds s) difference tt (minus_nonneg (<ℤ-≤ (later c)))

narrow-requires : tie.Need-narrow-requires
narrow-requires c κs =
    let s = c.before.before.before.before in
    let x = s.args.from *ℤ pos 100 in
    let y = s.args.to *ℤ pos 100 in
    let h = later c in (
      s.requires.0,
      s.requires.1,
      within (bounds s) first 1080000 tt,
      within (bounds s) difference 2160000 tt,
      end-within x y h (first-is s) (difference-is s) (omega (arith, ap nat_abs (last-is s), within (bounds s) last 1080000 tt)),
      some x y h (difference-is s),
    )

-- ---- by the test on the two states
module _ (c : Crossing) (from to : ℤ) where
  contact : code (state_at c (from *ℤ pos 100)) + code (state_at c (to *ℤ pos 100)) ≡ 1
      → narrowed c (from *ℤ pos 100) (code (state_at c (from *ℤ pos 100))) (nat_abs (to *ℤ pos 100 -ℤ from *ℤ pos 100)) ≡ bracket_of c from to
  unfolding bracket_of
  contact e = rw (eq-eqb (code (state_at c (from *ℤ pos 100)) + code (state_at c (to *ℤ pos 100))) 1 e) refl

  none : (code (state_at c (from *ℤ pos 100)) + code (state_at c (to *ℤ pos 100)) ≡ 1 → ⊥) → None ≡ bracket_of c from to
  unfolding bracket_of
  none n = rw (ne_eqb (code (state_at c (from *ℤ pos 100)) + code (state_at c (to *ℤ pos 100))) 1 n) refl

same : (c : Crossing) {x a : ℤ} {j k : ℕ} {y b : ℤ} → x ≡ a → j ≡ k → y ≡ b → narrowed c x j (nat_abs y) ≡ narrowed c a k (nat_abs b)
same c e f g = rw (e, f, g) refl

returns : tie.Need-returns-then-start-end-eq1
returns c =
    let s = c.before.before.before.before.before in
    let a = s.args in
    let e = c.before.before in
    c.narrow.ensures
    ∙ same a.c (first-is s) (start_is e.before) (difference-is s)
    ∙ contact a.c a.from a.to (omega (arith, start_is e.before, end_is e))

returns-2 : tie.Need-returns
returns-2 c =
    let a = c.args in
    let e = c.before in
    none a.c a.from a.to (λ w. absurd (omega (arith, start_is e.before, end_is e)))

pub contact_bracket_spec : {M : Type 1} → statement M
contact_bracket_spec =
    tie.close (tie.spec (λ c. fits (bounds c.before) first tt) (λ c. fits (bounds c.before) last tt) state-at-requires state-at-requires-2 add-if1 sub-n cast-n narrow-requires returns returns-2)
