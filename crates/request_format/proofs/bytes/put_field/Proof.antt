-- `request_format::bytes::put_field` meets its contract: the kind, then the number (`field_put`).
use mathlib.Core.Path.{◌∙◌}
use Prim.Native.Nat.{◌+◌, ◌≤◌}
use native.Mathlib.Omega.{arith}
use borrow.Author.Rules.{rules}
use lib.ListN.{length}
use mir.Syntax.{w64}
use mir.ValLaws.{to_z-of_z}
use Rattle.request_format.specs.Fields.{bytes_in}
use Rattle.request_format.specs.laws.RowBytes.{kind_bytes}
use Rattle.request_format.specs.laws.PutLaws.{field_length, field_put}
use Rattle.request_format.proofs.bytes.put_field.Statement.{statement}
use Rattle.request_format.proofs.bytes.put_field.Tie as tie

-- the kind fits, and so does the number after it
room : (c : tie.Start) → c.args.at + length (kind_bytes c.args.field.4) + bytes_in c.args.field.3 ≤ length c.args.out.now
room c = omega (arith, c.requires.0, field_length c.args.field c.args.n)

kind-room : (c : tie.Start) → c.args.at + length (kind_bytes c.args.field.4) ≤ length c.args.out.now
kind-room c = omega (arith, room c)

-- the place after the kind
start-room : (c : tie.After-put_kind-start)
    → c.put_kind-start.result + bytes_in c.args.field.3 ≤ length c.args.out.now
start-room c = omega (arith, room c.before.before.before, c.put_kind-start.ensures.0)

put-number-requires : tie.Need-put_number-requires
put-number-requires c κs =
    let s = c.before.before.before.before.before.before in
    let k = c.before.before.before in
    (omega (arith, start-room k, k.put_kind-start.auto.out), rw (to_z-of_z w64 s.args.n s.ranges.n) s.requires.1)

add-result : tie.Need-overflow_add-result
add-result c = record { fits = omega (arith, start-room c.before.before.before.before.before.before.before, c.bytes_in.ensures) }

returns : tie.Need-returns
returns c =
    let k = c.before.before.before.before.before.before.before in
    let s = k.before.before.before in
    let n = c.put_number in (
      omega (arith, k.put_kind-start.ensures.0, c.bytes_in.ensures, field_length s.args.field s.args.n),
      field_put s.args.field s.args.n _ _ _ _ _ k.put_kind-start.ensures.0 k.put_kind-start.ensures.1
          (n.ensures ∙ rw (to_z-of_z w64 s.args.n s.ranges.n)),
    )

pub put_field_spec : {M : Type 1} → statement M
put_field_spec =
    tie.close
    (tie.spec (λ c κs. kind-room c.before.before) put-number-requires (λ c κs. search rules) add-result
    (λ c. search rules) returns)
