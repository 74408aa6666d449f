-- `adaptive_sampling::seeds::start` meets its contract: a foot lies on its chord, so within the window.
use Prim.Native.Nat.{ℕ, ◌+◌, ◌-◌, ◌≤◌, ◌<◌}
use mathlib.Core.Path.{◌≡◌, subst}
use Rattle.adaptive_sampling.specs.Spread.{stop}
use Rattle.adaptive_sampling.specs.laws.SpreadLaws.{stop_in, stop_rises}
use native.Mathlib.Omega.{arith}
use borrow.Author.Rules.{rules}
use Rattle.adaptive_sampling.proofs.seeds.start.Statement.{statement}
use Rattle.adaptive_sampling.proofs.seeds.start.Tie as tie

-- the one before
earlier : (n k : ℕ) → 11 < n → 0 < k → {i j : ℕ} → i ≡ stop n k → j ≡ stop n (k - 1) → (j ≤ i) × (1 ≤ i - j)
earlier n k h some {i} {j} e f =
    let z : k - 1 + 1 ≡ k = omega arith in
    let r : stop n (k - 1) < stop n k = subst (λ (m : ℕ). stop n (k - 1) < stop n m) z (stop_rises n (k - 1) h) in
    (omega (arith, r), omega (arith, r))

foot-requires : tie.Need-foot-t-requires
foot-requires c κs =
    let s = c.before.before.before.before.before in
    let n = s.args.n in
    let k = s.args.k in
    let few = c.if-k-lt4.true in
    (s.requires.3 k s.requires.2, s.requires.3 (k + 1) (omega (arith, few)), omega (arith, c.stop-j.ensures, c.stop-i.ensures, stop_rises n k s.requires.0), omega (arith, c.stop-j.ensures, s.requires.1, stop_in n (k + 1) (omega (arith, s.requires.0)) (omega (arith, few))))

returns : tie.Need-returns-then-t-gt0
returns c =
    let s = c.before.before.before.before.before.before.before in
    let n = s.args.n in
    let k = s.args.k in
    let few = c.if-k-lt4.true in
    omega (arith, c.foot-t.ensures, c.stop-j.ensures, c.stop-i.ensures, stop_rises n k s.requires.0, stop_in n (k + 1) (omega (arith, s.requires.0)) (omega (arith, few)))

sub-foot-2 : tie.Need-overflow_sub-i
sub-foot-2 c =
    let s = c.before.before.before.before.before.before in
    (earlier s.args.n s.args.k s.requires.0 c.if-k-gt0.true c.stop-i.ensures c.stop-j-then-k-gt0.ensures).0

foot-requires-2 : tie.Need-foot-t-requires-then-k-gt0
foot-requires-2 c κs =
    let s = c.before.before.before.before.before.before in
    let k = s.args.k in
    let e = earlier s.args.n k s.requires.0 c.if-k-gt0.true c.stop-i.ensures c.stop-j-then-k-gt0.ensures in
    (s.requires.3 k s.requires.2, s.requires.3 (k - 1) (omega (arith, s.requires.2)), e.1, omega (arith, c.stop-i.ensures, s.requires.1, stop_in s.args.n k (omega (arith, s.requires.0)) (omega (arith, s.requires.2))))

returns-2 : tie.Need-returns-then-k-gt0
returns-2 c =
    let s = c.before.before.before.before.before.before.before in
    omega (arith, c.stop-i.ensures, stop_in s.args.n s.args.k (omega (arith, s.requires.0)) (omega (arith, s.requires.2)))

returns-3 : tie.Need-returns
returns-3 c =
    let s = c.before.before.before.before in
    omega (arith, c.stop-i.ensures, stop_in s.args.n s.args.k (omega (arith, s.requires.0)) (omega (arith, s.requires.2)))

pub start_spec : {M : Type 1} → statement M
start_spec = tie.close (tie.spec (λ c κs. search rules) (λ c. search rules) (λ c. search rules) (λ c. search rules) (λ c κs. search rules) (λ c. search rules) (λ c. search rules) (λ c. search rules) foot-requires (λ c. search rules) returns (λ c. search rules) (λ c κs. search rules) (λ c. search rules) (λ c. search rules) sub-foot-2 foot-requires-2 (λ c. search rules) returns-2 returns-3)
