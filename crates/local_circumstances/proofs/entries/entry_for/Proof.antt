-- `local_circumstances::entries::entry_for` meets its contract: its two seconds are stored, and an enter has the
-- direction at its later one, a leave at its earlier.
use mathlib.Core.Path.{◌≡◌, ap, ◌∙◌}
use Prim.Native.Nat.{ℕ, ◌≤◌, ◌<◌}
use native.Mathlib.Omega.{arith}
use borrow.Author.Rules.{rules}
use lib.IntN.{nat_abs}
use mir.Syntax.{w64}
use mir.Val.{to_z, of_z}
use Rattle.rounding.specs.laws.Code.{read-size}
use Rattle.sheet_types.specs.declared.phases.Phase.{Phase}
use Rattle.requests.specs.declared.Occultation.{Occultation}
use Rattle.requests.specs.Windows.{second_count}
use Rattle.seconds.specs.Seconds.{direction_at}
use Rattle.contacts.specs.declared.entries.Entry as Contact
use Rattle.contacts.specs.declared.entries.Entry.TheVariants as K
use Rattle.contacts.specs.Entries.{from, to}
use Rattle.sheet_format.specs.declared.kinds.Entry.{Entry}
use Rattle.sheet_format.specs.Entries.{enter, leave, graze, opened}
use Rattle.sheet_format.specs.StoredSeconds.{stored}
use Rattle.local_circumstances.specs.Courses.{second, entry_of}
use Rattle.local_circumstances.specs.Course.{course_of}
use Rattle.local_circumstances.specs.laws.NamedSecondLaws.{sized, read}
use Rattle.local_circumstances.proofs.entries.entry_for.Statement.{statement}
use Rattle.local_circumstances.proofs.entries.entry_for.Tie as tie

-- ---- its two seconds
module _ (c : tie.After-from_of) where
  earlier-counted : c.from_of.result < second_count c.args.o.window
  earlier-counted = omega (arith, c.from_of.ensures, c.requires.3)

earlier-small : (c : tie.After-nth_second-earlier) → nat_abs c.nth_second-earlier.result ≤ 10800
earlier-small c =
    let b = c.before.before.before.before in
    sized b.args.o b.requires.1 (from b.args.entry) b.requires.3 c.from_of.ensures c.nth_second-earlier.ensures

earlier-is : (c : tie.After-nth_second-earlier) → to_z w64 (of_z w64 c.nth_second-earlier.result) ≡ second (course_of c.args.o) (from c.args.entry)
earlier-is c =
    let b = c.before.before.before.before in
    read b.args.o b.requires.1 (from b.args.entry) b.requires.3 c.from_of.ensures c.nth_second-earlier.ensures

later-small : (c : tie.After-nth_second-later) → nat_abs c.nth_second-later.result ≤ 10800
later-small c =
    let b = c.before.before.before.before.before.before in
    sized b.args.o b.requires.1 (to b.args.entry) b.requires.4 c.to_of.ensures c.nth_second-later.ensures

later-is : (c : tie.After-nth_second-later)
    → to_z w64 (of_z w64 c.nth_second-later.result) ≡ second (course_of c.args.o) (to c.args.entry)
later-is c =
    let b = c.before.before.before.before.before.before in
    read b.args.o b.requires.1 (to b.args.entry) b.requires.4 c.to_of.ensures c.nth_second-later.ensures

-- as they are stored
from_is : (c : tie.After-store_second-to)
    → c.store_second-from.result ≡ stored (second (course_of c.args.o) (from c.args.entry))
from_is c = c.store_second-from.ensures.0 ∙ ap stored (earlier-is c.before.before.before.before)

to_is : (c : tie.After-store_second-to)
    → c.store_second-to.result ≡ stored (second (course_of c.args.o) (to c.args.entry))
to_is c = c.store_second-to.ensures.0 ∙ ap stored (later-is c.before.before)

-- ---- the entry, kind by kind
module _ (o : Occultation) (φ : Phase) {e : Contact.Entry} {f t : ℕ} (f-is : f ≡ stored (second (course_of o) (from e))) (t-is : t ≡ stored (second (course_of o) (to e))) where
  enter-is : {a b d : ℕ} → e ≡ K.Enter a b → d ≡ direction_at o (second (course_of o) (to e)) → enter φ f t d ≡ entry_of (course_of o) φ e
  enter-is k d-is = rw (f-is, t-is, d-is, k)

  leave-is : {a b d : ℕ} → e ≡ K.Leave a b → d ≡ direction_at o (second (course_of o) (from e)) → leave φ f t d ≡ entry_of (course_of o) φ e
  leave-is k d-is = rw (f-is, t-is, d-is, k)

  graze-is : {a b : ℕ} → e ≡ K.Graze a b → graze φ f t ≡ entry_of (course_of o) φ e
  graze-is k = rw (f-is, t-is, k)

  open_is : {a b : ℕ} → e ≡ K.Open a b → opened φ f t ≡ entry_of (course_of o) φ e
  open_is k = rw (f-is, t-is, k)

nth-second-requires : tie.Need-nth_second-earlier-requires
nth-second-requires c κs = (c.requires.1.window, earlier-counted c)

nth-second-requires-2 : tie.Need-nth_second-later-requires
nth-second-requires-2 c κs = let b = c.before.before.before.before.before in (b.requires.1.window, omega (arith, c.to_of.ensures, b.requires.4))

store-second-requires : tie.Need-store_second-from-requires
store-second-requires c κs = read-size c.nth_second-earlier.result 10800 (earlier-small c.before.before) tt

store-second-requires-2 : tie.Need-store_second-to-requires
store-second-requires-2 c κs = read-size c.nth_second-later.result 10800 (later-small c.before) tt

-- a direction may be asked for at either second
direction-at-requires : tie.Need-direction_at-direction-requires
direction-at-requires c κs =
    let n = c.before.before.before in
    let e = n.before.before in
    let b = e.before.before.before.before in
    (b.requires.0, b.requires.1, b.requires.2, omega (arith, read-size n.nth_second-later.result 10800 (later-small n) tt, read-size e.nth_second-earlier.result 10800 (earlier-small e) tt))

direction-at-requires-2 : tie.Need-direction_at-direction-requires-in-Leave
direction-at-requires-2 c κs =
    let n = c.before.before.before in
    let e = n.before.before in
    let b = e.before.before.before.before in
    (b.requires.0, b.requires.1, b.requires.2, omega (arith, read-size n.nth_second-later.result 10800 (later-small n) tt, read-size e.nth_second-earlier.result 10800 (earlier-small e) tt))

returns : tie.Need-returns-in-Enter
returns c =
    let s = c.before.before in
    let a = s.args in
    enter-is a.o a.phase (from_is s) (to_is s) c.in-Enter.is (c.direction_at-direction.ensures ∙ ap (direction_at a.o) (later-is s.before.before))

returns-2 : tie.Need-returns-in-Leave
returns-2 c =
    let s = c.before.before in
    let a = s.args in
    leave-is a.o a.phase (from_is s) (to_is s) c.in-Leave.is (c.direction_at-direction-in-Leave.ensures ∙ ap (direction_at a.o) (earlier-is s.before.before.before.before))

returns-3 : tie.Need-returns-in-Graze
returns-3 c =
    let s = c.before in
    let a = s.args in
    graze-is a.o a.phase (from_is s) (to_is s) c.in-Graze.is

returns-4 : tie.Need-returns-in-Open
returns-4 c =
    let s = c.before in
    let a = s.args in
    open_is a.o a.phase (from_is s) (to_is s) c.in-Open.is

pub entry_for_spec : {M : Type 1} → statement M
entry_for_spec =
    tie.close
    (tie.spec (λ c κs. search rules) nth-second-requires (λ c κs. search rules) nth-second-requires-2
    store-second-requires store-second-requires-2 (λ c. search rules) direction-at-requires
    (λ c. search rules) direction-at-requires-2 (λ c. search rules) (λ c. search rules) returns returns-2
    returns-3 returns-4)
