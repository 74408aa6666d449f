-- `adaptive_sampling::seeds::nearly_closest` meets its contract: each of the seconds it chooses from was seen.
use Prim.Native.Nat.{ℕ, ◌≤◌, ◌<◌}
use mathlib.Core.Path.{◌≡◌, sym, subst, ◌∙◌}
use mathlib.Core.List.{List}
use native.Mathlib.Omega.{arith}
use borrow.Author.Rules.{rules}
use lib.IntN.{ℤ}
use lib.ListN.{get_or}
use Rattle.rounding.specs.laws.Code.{read_back, read-size}
use Rattle.shadow.specs.declared.Sample.{Sample}
use Rattle.requests.specs.declared.Occultation.{Occultation}
use Rattle.requests.specs.WindowLaws.{seconds-few}
use Rattle.adaptive_sampling.specs.Reach.{Seen}
use Rattle.adaptive_sampling.specs.Spread.{stop, blank, Spread}
use Rattle.adaptive_sampling.specs.laws.SpreadLaws.{spread_sized, stop_seen}
use Rattle.adaptive_sampling.proofs.seeds.nearly_closest.Statement.{statement}
use Rattle.adaptive_sampling.proofs.seeds.nearly_closest.Lts.{then-n-i, else-n-i}
use Rattle.adaptive_sampling.proofs.seeds.nearly_closest.Tie as tie

-- a window has at most 21,601 seconds
few : (a : tie.Start) → a.args.n ≤ 21601
few a = omega (arith, a.requires.3, seconds-few a.args.o.window a.requires.1.window)

-- one of the five
one : (o : Occultation) (n k i : ℕ) (l : List Sample) → 1 ≤ n → Spread o n l → k < 5 → i ≡ stop n k → (m : ℤ) → m ≡ (get_or l k blank).m
    → Seen o n (record { second = i; m = m })
one o n k i l some s h e m f = subst (λ (j : ℕ). Seen o n (record { second = j; m = m })) (sym e) (stop_seen o n k l some s h m f)

start-requires : tie.Need-start-from-requires
start-requires c κs =
    let a = c.before.before in
    (a.requires.4, few a, c.closest-k.ensures, spread_sized a.args.o a.args.n a.args.shadows a.requires.5)

foot-requires : tie.Need-foot-second-requires
foot-requires c κs =
    let a = c.before.before.before.before in
    let s = c.start-from.ensures in
    let p = a.requires.4 in
    (a.requires.0, a.requires.1, a.requires.2, a.requires.3, elim c.if-n-i.branch [ then-n-i w ↦ omega arith | else-n-i w ↦ omega arith ])

stop-requires : tie.Need-stop-best-requires
stop-requires c κs = let a = c.before.before.before.before.before.before.before.before.before.before in (omega (arith, a.requires.4), few a, omega (arith, c.closest-k.ensures))

returns : tie.Need-returns-then-c-m
returns c =
    let a = c.before.before.before.before.before.before.before.before.before.before.before.before in
    let k = c.closest-k in
    one a.args.o a.args.n k.result c.stop-best.result a.args.shadows (omega (arith, a.requires.4)) a.requires.5 k.ensures c.stop-best.ensures _
    (read_back (get_or a.args.shadows k.result blank).m (a.requires.5 k.result k.ensures).m.size tt)

returns-2 : tie.Need-returns
returns-2 c =
    let m = c.square_of-m in
    record {
      small = c.foot-second.ensures;
      is = read_back m.result m.ensures.size tt ∙ m.ensures.value;
      size = read-size m.result 1000000000000000000 m.ensures.size tt;
    }

pub nearly_closest_spec : {M : Type 1} → statement M
nearly_closest_spec =
    tie.close
    (tie.spec (λ c κs. search rules) start-requires (λ c. search rules) (λ c. search rules) foot-requires
    (λ c κs. search rules) (λ c. search rules) (λ c. search rules) stop-requires returns returns-2)
