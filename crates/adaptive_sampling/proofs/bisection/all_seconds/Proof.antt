-- `adaptive_sampling::bisection::all_seconds` meets its contract: second 0 is kept, then all to the last; a second that
-- is nearly the closest gives the distance that is used.
use Prim.Native.Nat.{ℕ, ◌-◌}
use mathlib.Core.Path.{subst}
use mathlib.Core.List.{[]}
use native.Mathlib.Omega.{arith}
use borrow.Author.Rules.{rules}
use Rattle.rounding.specs.laws.Code.{read_back, read-size}
use Rattle.requests.specs.WindowLaws.{seconds_some}
use Rattle.adaptive_sampling.specs.Kept.{Kept}
use Rattle.adaptive_sampling.specs.laws.ReachLaws.{seen_nonneg}
use Rattle.adaptive_sampling.specs.laws.KeptLaws.{kept-nearer}
use Rattle.adaptive_sampling.proofs.bisection.all_seconds.Statement.{statement}
use Rattle.adaptive_sampling.proofs.bisection.all_seconds.Tie as tie

-- the places before
abbrev start : tie.After-second_count-n → tie.Start
start c = c.before.before.before.before

abbrev counted : tie.After-first-t → tie.After-second_count-n
counted c = c.before.before

sample-of-requires : tie.Need-sample_of-a-requires
sample-of-requires c κs = let a = start c in (a.requires.0, a.requires.1, a.requires.2, seconds_some a.args.o.window)

few-seconds-requires : tie.Need-few_seconds-requires
few-seconds-requires c κs =
    let x = c.before.before in
    let a = start (counted x) in
    ((a.requires.0, a.requires.1, a.requires.2, (counted x).second_count-n.ensures), (a.requires.3, x.first-t.ensures _))

returns : tie.Need-returns-then-n-lt12
returns c =
    let x = c.before.before.before.before.before in
    let o = (start (counted x)).args.o in
    let r = c.few_seconds in
    (subst (λ (n : ℕ). Kept o (n - 1) r.new.runs r.result) (counted x).second_count-n.ensures r.ensures.0, r.ensures.1)

nearly-closest-requires : tie.Need-nearly_closest-least-requires
nearly-closest-requires c κs =
    let x = c.before.before in
    let a = start (counted x) in
    (a.requires.0, a.requires.1, a.requires.2, (counted x).second_count-n.ensures, omega (arith, c.if-n-lt12.false), c.spread-shadows.ensures)

nearer-requires : tie.Need-nearer-lower-requires
nearer-requires c κs =
    let w = c.nearly_closest-least in
    let k = c.first-t.ensures [] in (
      k.reached.few,
      read-size w.result.m 1000000000000000000 w.ensures.size tt,
      rw (read_back w.result.m w.ensures.size tt) (seen_nonneg w.ensures),
      k.size,
    )

stretches-requires : tie.Need-stretches-requires
stretches-requires c κs =
    let x = c.before.before.before.before.before.before in
    let a = start (counted x) in
    let o = a.args.o in
    let w = c.nearly_closest-least in
    let e = (counted x).second_count-n.ensures in
    let r = rw (read_back w.result.m w.ensures.size tt) at c.nearer-lower.ensures in (
      (a.requires.0, a.requires.1, a.requires.2, e, omega (arith, c.if-n-lt12.false), c.spread-shadows.ensures),
      (a.requires.3, kept-nearer o a.requires.1 (x.first-t.ensures _) w.result.second (omega (arith, w.ensures.small, e)) w.result.m w.ensures.is _ r),
    )

returns-2 : tie.Need-returns
returns-2 c =
    let x = c.before.before.before.before.before.before.before.before.before in
    let o = (start (counted x)).args.o in
    let r = c.stretches in
    (subst (λ (n : ℕ). Kept o (n - 1) r.new.runs r.result) (counted x).second_count-n.ensures r.ensures.0, r.ensures.1)

pub all_seconds_spec : {M : Type 1} → statement M
all_seconds_spec =
    tie.close
    (tie.spec (λ c κs. search rules) sample-of-requires (λ c κs. search rules) few-seconds-requires
    (λ c. search rules) returns (λ c κs. search rules) nearly-closest-requires nearer-requires
    stretches-requires (λ c. search rules) returns-2)
