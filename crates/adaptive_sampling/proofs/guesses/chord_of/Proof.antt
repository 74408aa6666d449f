-- `adaptive_sampling::guesses::chord_of` meets its contract: its numbers are small.
use mathlib.Core.List.{[], ◌∷◌}
use native.Mathlib.Omega.{arith}
use Rattle.rounding.specs.laws.Code.{Code, arg, add, sub, mul, Within, whole, ends, ◌▹◌, fits, within}
use Rattle.adaptive_sampling.proofs.guesses.chord_of.Statement.{statement}
use Rattle.adaptive_sampling.proofs.guesses.chord_of.Tie as tie

-- u and v of the first, and of the second
bounds : (c : tie.Start) → Within (whole c.args.c.u ∷ whole c.args.c.v ∷ whole c.args.o.u ∷ whole c.args.o.v ∷ [])
    (1000000000 ∷ 1000000000 ∷ 1000000000 ∷ 1000000000 ∷ [])
bounds c = c.requires.0.u ▹ c.requires.0.v ▹ c.requires.1.u ▹ c.requires.1.v ▹ ends

abbrev P : Code
P = sub (arg 2) (arg 0)

abbrev Q : Code
Q = sub (arg 3) (arg 1)

abbrev square : Code
square = add (mul P P) (mul Q Q)

abbrev along : Code
along = add (mul (arg 0) P) (mul (arg 1) Q)

sub-p : tie.Need-overflow_sub-p
sub-p c = fits (bounds c.before.before.before.before) P tt

sub-q : tie.Need-overflow_sub-q
sub-q c = fits (bounds c.before.before.before.before.before.before.before.before) Q tt

abbrev start : tie.After-struct_told-6-1 → tie.Start
start c = c.before.before.before.before.before.before.before.before.before.before.before.before

mul-along : tie.Need-overflow_mul-along
mul-along c = fits (bounds c.before.before.before.before.before.before.before.before.before.before) (mul (arg 0) P) tt

size-requires : tie.Need-size-square-requires
size-requires c κs = within (bounds (start c)) square 9223372036854775807 tt

returns : tie.Need-returns
returns c = (omega (arith, c.size-square.ensures, within (bounds (start c.before)) square 8000000000000000000 tt), within (bounds (start c.before)) along 4000000000000000000 tt)

pub chord_of_spec : {M : Type 1} → statement M
chord_of_spec =
    tie.close
    (tie.spec sub-p sub-q mul-along (λ c. fits (bounds (start c)) (mul (arg 1) Q) tt)
    (λ c. fits (bounds (start c)) along tt) (λ c. fits (bounds (start c)) (mul P P) tt)
    (λ c. fits (bounds (start c)) (mul Q Q) tt) (λ c. fits (bounds (start c)) square tt) size-requires
    returns)
