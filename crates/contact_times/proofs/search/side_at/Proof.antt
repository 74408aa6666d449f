-- `contact_times::search::side_at` meets its contract: the state there, seen from the first.
use mathlib.Core.Path.{◌≡◌, ap, ◌∙◌}
use mathlib.Core.List.{[], ◌∷◌}
use Prim.Native.Nat.{ℕ}
use lib.IntN.{ℤ, pos, ◌+ℤ◌}
use borrow.Author.Rules.{rules}
use Rattle.sheet_types.specs.States.{code}
use Rattle.rounding.specs.laws.Code.{Code, arg, add, Within, whole, raw, ends, ◌▹◌, fits, run, runs, count-is, count-size}
use Rattle.contact_times.specs.Brackets.{state_at, side_of, side_at}
use Rattle.contact_times.proofs.search.side_at.Statement.{statement}
use Rattle.contact_times.proofs.search.side_at.Tie as tie

bounds : (s : tie.Start) → Within (whole s.args.first ∷ raw s.args.k ∷ []) (1080000 ∷ 2160000 ∷ [])
bounds s = s.requires.2 ▹ count-size s.args.k s.requires.3 tt ▹ ends

abbrev sum : Code
sum = add (arg 0) (arg 1)

-- the hundredth
t-is : (s : tie.Start)
    → run (whole s.args.first ∷ raw s.args.k ∷ []) sum ≡ s.args.first +ℤ pos s.args.k
t-is s = runs (bounds s) sum tt ∙ ap (λ (z : ℤ). s.args.first +ℤ z) (count-is s.args.k {m = 2160000} s.requires.3 tt)

state-at-requires : tie.Need-state_at-s-requires
state-at-requires c κs = let s = c.before in (s.requires.0, s.requires.1, rw (t-is s) s.requires.4)

returns : tie.Need-returns
unfolding side_at
returns c =
    let s = c.before.before.before in
    c.side_of.ensures ∙ ap (λ (k : ℕ). side_of s.args.start k) (c.state_at-s.ensures ∙ ap (λ (z : ℤ). code (state_at s.args.c z)) (t-is s))

pub side_at_spec : {M : Type 1} → statement M
side_at_spec = tie.close (tie.spec (λ c. search rules) (λ c. fits (bounds c.before) sum tt) state-at-requires (λ c κs. search rules) returns)
