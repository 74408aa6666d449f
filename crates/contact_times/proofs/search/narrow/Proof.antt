-- `contact_times::search::narrow` meets its contract: two searches, the second from where the first ended.
use Rattle.std.specs.Prelude.{Some}
use mathlib.Core.Path.{◌≡◌, ap, ap₂, ◌∙◌}
use mathlib.Core.List.{[], ◌∷◌}
use Prim.Native.Nat.{ℕ, ◌+◌, ◌≤◌}
use native.Mathlib.Omega.{arith}
use lib.IntN.{ℤ, pos, ◌+ℤ◌}
use mir.Syntax.{w64}
use mir.Val.{to_z, of_z}
use Rattle.rounding.specs.laws.Order.{fits64}
use Rattle.rounding.specs.laws.Code.{Code, arg, add, Within, whole, raw, ends, ◌▹◌, fits, runs, read_back, count-is, count-size}
use Rattle.contact_times.specs.Brackets.{last_below, narrowed}
use Rattle.contact_times.proofs.search.narrow.Statement.{statement}
use Rattle.contact_times.proofs.search.narrow.Tie as tie

abbrev start : tie.After-last_below-low → tie.Start
start c = c.before.before

first-is : (s : tie.Start) → to_z w64 (of_z w64 s.args.first) ≡ s.args.first
first-is s = read_back s.args.first s.requires.2 tt

-- what the searches found
low-is : (c : tie.After-last_below-low) → let a = (start c).args in c.last_below-low.result ≡ last_below a.c a.first a.start 1 0 a.n
low-is c = let a = (start c).args in c.last_below-low.ensures.0 ∙ ap (λ (z : ℤ). last_below a.c z a.start 1 0 a.n) (first-is (start c))

high_is : (c : tie.After-last_below-high)
    → let a = (start c.before).args in c.last_below-high.result ≡ last_below a.c a.first a.start 2 (last_below a.c a.first a.start 1 0 a.n) a.n
high_is c =
    let a = (start c.before).args in
    c.last_below-high.ensures.0
    ∙ ap₂ (λ (z : ℤ) (k : ℕ). last_below a.c z a.start 2 k a.n) (first-is (start c.before)) (low-is c.before)

low-most : (c : tie.After-last_below-low) → c.last_below-low.result ≤ 2160000
low-most c = omega (arith, c.last_below-low.ensures.1, (start c).requires.3)

high-most : (c : tie.After-last_below-high) → c.last_below-high.result + 1 ≤ 2160000
high-most c = omega (arith, c.last_below-high.ensures.1, (start c.before).requires.3)

abbrev sum : Code
sum = add (arg 0) (arg 1)

low-bounds : (c : tie.After-last_below-high) → Within (whole (start c.before).args.first ∷ raw c.last_below-low.result ∷ []) (1080000 ∷ 2160000 ∷ [])
low-bounds c = (start c.before).requires.2 ▹ count-size c.last_below-low.result (low-most c.before) tt ▹ ends

high-bounds : (c : tie.After-last_below-high) → Within (whole (start c.before).args.first ∷ raw (c.last_below-high.result + 1) ∷ []) (1080000 ∷ 2160000 ∷ [])
high-bounds c = (start c.before).requires.2 ▹ count-size (c.last_below-high.result + 1) (high-most c) tt ▹ ends

last-below-requires : tie.Need-last_below-low-requires
last-below-requires c κs =
    let s = c.before in
    (s.requires.0, s.requires.1, rw (first-is s) s.requires.2, s.requires.3, rw (first-is s) s.requires.4, s.requires.5)

last-below-requires-2 : tie.Need-last_below-high-requires
last-below-requires-2 c κs =
    let s = start c in
    (s.requires.0, s.requires.1, rw (first-is s) s.requires.2, s.requires.3, rw (first-is s) s.requires.4, c.last_below-low.ensures.1)

cast-a : tie.Need-overflow_cast-a
cast-a c = fits64 (pos c.last_below-low.result) (omega (arith, low-most c.before))

cast-b : tie.Need-overflow_cast-b
cast-b c = fits64 (pos (c.last_below-high.result + 1)) (omega (arith, high-most c))

returns : tie.Need-returns
unfolding narrowed
returns c =
    let a = (start c.before).args in
    ap₂ (λ x y. Some (x, y))
    (runs (low-bounds c) sum tt ∙ ap (λ (z : ℤ). a.first +ℤ z) (count-is c.last_below-low.result {m = 2160000} (low-most c.before) tt ∙ ap pos (low-is c.before)))
    (runs (high-bounds c) sum tt ∙ ap (λ (z : ℤ). a.first +ℤ z) (count-is (c.last_below-high.result + 1) {m = 2160000} (high-most c) tt ∙ ap (λ (k : ℕ). pos (k + 1)) (high_is c)))

pub narrow_spec : {M : Type 1} → statement M
narrow_spec = tie.close (tie.spec last-below-requires last-below-requires-2 cast-a (λ c. fits (low-bounds c) sum tt) (λ c. record { fits = omega (arith, high-most c) }) cast-b (λ c. fits (high-bounds c) sum tt) returns)
