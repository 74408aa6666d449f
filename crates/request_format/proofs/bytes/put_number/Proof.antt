-- `request_format::bytes::put_number` meets its contract: each arm puts the bytes of the number's complement (`done`).
use mathlib.Core.Path.{◌≡◌, sym, subst, ◌∙◌}
use mathlib.Core.Bool.{true}
use mathlib.Core.List.{List}
use Prim.Native.Nat.{ℕ, ◌+◌, ◌≤◌, ◌<◌}
use native.Mathlib.Omega.{arith}
use borrow.Author.Rules.{rules}
use lib.IntN.{ℤ, nat_abs}
use lib.ListN.{length}
use lib.Seq.{sets}
use mir.Syntax.{w64}
use mir.Val.{to_z, of_z}
use mir.ValLaws.{to_z-of_z}
use Rattle.request_format.specs.declared.fields.Width.{Width}
use Rattle.request_format.specs.Fields.{bytes_in, whole_of, holds}
use Rattle.request_format.specs.Layout.{complement, big_endian, number_bytes}
use Rattle.request_format.specs.laws.WidthLaws.{held, held-size}
use Rattle.request_format.proofs.bytes.put_number.Statement.{statement}
use Rattle.request_format.proofs.bytes.put_number.Tie as tie

-- where the width is w
module _ (c : tie.Start) (w : Width) (e : c.args.width ≡ w) where
  -- the number as it is handed over
  abbrev given : ℤ
  given = to_z w64 (of_z w64 c.args.n)

  same : given ≡ c.args.n
  same = to_z-of_z w64 c.args.n c.ranges.n

  small : nat_abs given < whole_of w
  small = subst (λ (z : ℤ). nat_abs z < whole_of w) (sym same)
      (held-size w c.args.n (held w c.args.n (subst (λ (v : Width). holds v c.args.n ≡ true) e c.requires.1)))

  room : c.args.at + bytes_in w ≤ length c.args.out.now
  room = subst (λ (v : Width). c.args.at + bytes_in v ≤ length c.args.out.now) e c.requires.0

  done : (v : ℕ) (new : List ℕ) → v ≡ complement (whole_of w) given → new ≡ sets c.args.out.now c.args.at (big_endian w v)
      → new ≡ sets c.args.out.now c.args.at (number_bytes c.args.width c.args.n)
  unfolding number_bytes
  done v new p q = q ∙ rw (p, same, e)

complement-requires : tie.Need-complement-requires
complement-requires c κs = (small c.before.before.before _ c.in-Unsigned2.is, omega arith)

put-two-requires : tie.Need-put_two-requires
put-two-requires c κs = room c.before.before.before.before _ c.in-Unsigned2.is

complement-requires-2 : tie.Need-complement-requires-in-Signed2
complement-requires-2 c κs = (small c.before.before.before _ c.in-Signed2.is, omega arith)

put-two-requires-2 : tie.Need-put_two-requires-in-Signed2
put-two-requires-2 c κs = room c.before.before.before.before _ c.in-Signed2.is

complement-requires-3 : tie.Need-complement-requires-in-Signed4
complement-requires-3 c κs = (small c.before.before.before _ c.in-Signed4.is, omega arith)

put-four-requires : tie.Need-put_four-requires
put-four-requires c κs = room c.before.before.before.before _ c.in-Signed4.is

returns : tie.Need-returns-in-Unsigned2
returns c =
    let called = c.before.before.before in
    done called.before.before.before.before _ called.in-Unsigned2.is _ _ called.complement.ensures
    c.put_two.ensures

returns-2 : tie.Need-returns-in-Signed2
returns-2 c =
    let called = c.before.before.before in
    done called.before.before.before.before _ called.in-Signed2.is _ _ called.complement-in-Signed2.ensures
    c.put_two-in-Signed2.ensures

returns-3 : tie.Need-returns-in-Signed4
returns-3 c =
    let called = c.before.before.before in
    done called.before.before.before.before _ called.in-Signed4.is _ _ called.complement-in-Signed4.ensures
    c.put_four.ensures

pub put_number_spec : {M : Type 1} → statement M
put_number_spec =
    tie.close
    (tie.spec (λ c. search rules) complement-requires put-two-requires (λ c. search rules)
    complement-requires-2 put-two-requires-2 (λ c. search rules) complement-requires-3 put-four-requires
    (λ c. search rules) returns (λ c. search rules) returns-2 (λ c. search rules) returns-3)
