-- `circumstances::writing::write_closing` meets its contract: closest, the share where it is asked for, and end, each
-- behind the one before it.
use mathlib.Core.Path.{◌≡◌, refl, sym, ap, ◌∙◌}
use mathlib.Core.Bool.{true, false}
use Prim.Native.Nat.{ℕ, ◌+◌, ◌≤◌}
use native.Mathlib.Omega.{arith}
use borrow.Author.Rules.{rules}
use lib.ListN.{length}
use lib.Seq.{sets, length-sets}
use mathlib.Core.List.{List}
use Rattle.sheet_format.specs.Entries.{end}
use Rattle.sheet_format.specs.declared.kinds.Kind.TheVariants as K
use Rattle.sheet_format.specs.declared.kinds.Entry.{Entry}
use Rattle.sheet_format.specs.Kinds.{size_of}
use Rattle.sheet_format.specs.RecordEntries.{bytes}
use Rattle.requests.specs.Shares.{sharing}
use Rattle.local_circumstances.specs.Courses.{closestEntry, shareEntry}
use Rattle.local_circumstances.specs.laws.Lengths.{closest-size, share-size, shared-length, plain-length}
use Rattle.local_circumstances.specs.laws.Stores.{stores-shared, stores-plain}
use Rattle.local_circumstances.specs.Course.{course_of}
use Rattle.circumstances.proofs.writing.write_closing.Statement.{statement}
use Rattle.circumstances.proofs.writing.write_closing.Tie as tie

-- records put one behind the other
two : (l l1 l2 : List ℕ) (i j : ℕ) (x y a b : Entry) → x ≡ a → y ≡ b → l1 ≡ sets l i (bytes x) → l2 ≡ sets l1 j (bytes y)
    → l2 ≡ sets (sets l i (bytes a)) j (bytes b)
two l l1 l2 i j x y a b ex ey first second = rw (← ex, ← ey, ← first) second

three : (l l1 l2 l3 : List ℕ) (i j k : ℕ) (x y z a b c : Entry) → x ≡ a → y ≡ b → z ≡ c
    → l1 ≡ sets l i (bytes x) → l2 ≡ sets l1 j (bytes y) → l3 ≡ sets l2 k (bytes z) → l3 ≡ sets (sets (sets l i (bytes a)) j (bytes b)) k (bytes c)
three l l1 l2 l3 i j k x y z a b c ex ey ez first second third = rw (← ex, ← ey, ← ez, ← first, ← second) third

-- where the records stand
closest-is : (c : tie.After-closest_for-last) → size_of c.closest_for-last.result.kind ≡ size_of K.Closest
closest-is c = ap (λ (e : Entry). size_of e.kind) c.closest_for-last.ensures ∙ closest-size (course_of c.args.o)

after_closest : (c : tie.After-put-after_closest) → c.put-after_closest.result ≡ c.args.start + size_of K.Closest
after_closest c = omega (arith, c.put-after_closest.ensures.0, closest-is c.before.before)

-- the buffer's length stays
kept : (c : tie.After-put-after_closest) → length c.put-after_closest.new.buf ≡ length c.args.buf.now
kept c = ap length c.put-after_closest.ensures.1 ∙ length-sets c.args.buf.now _ (bytes c.closest_for-last.result)

-- closest and end fit at least
least : (b : tie.Start) → b.args.start + size_of K.Closest + size_of K.End ≤ length b.args.buf.now
least b =
    (elim (sharing b.args.o) as (λ s. sharing b.args.o ≡ s → b.args.start + size_of K.Closest + size_of K.End ≤ length b.args.buf.now) [
      | true ↦ λ e. omega (arith, shared-length (course_of b.args.o) e, b.requires.1)
      | false ↦ λ e. omega (arith, plain-length (course_of b.args.o) e, b.requires.1)
    ]) refl

put-requires : tie.Need-put-after_closest-requires
put-requires c κs =
    let d = c.before in
    omega (arith, closest-is d, least d.before.before.before)

share-is : (c : tie.After-share_for-share) → size_of c.share_for-share.result.kind ≡ size_of K.Share
share-is c = ap (λ (e : Entry). size_of e.kind) c.share_for-share.ensures ∙ share-size (course_of c.args.o)

-- with a share
module _ (c : tie.After-share_for-share) where
  abbrev first : tie.After-put-after_closest
  first = c.before.before.before.before.before

  abbrev base : tie.Start
  base = first.before.before.before.before.before

  asked : sharing base.args.o ≡ true
  asked = sym c.shares-shared.ensures ∙ c.if-shared.true

  room : base.args.start + (size_of K.Closest + size_of K.Share + size_of K.End) ≤ length base.args.buf.now
  room = omega (arith, shared-length (course_of base.args.o) asked, base.requires.1)

put-requires-2 : tie.Need-put-after_share-requires
put-requires-2 c κs = let s = c.before in omega (arith, share-is s, after_closest (first s), kept (first s), room s)

put-requires-3 : tie.Need-put-requires
put-requires-3 c κs =
    let p = c.before.before.before in
    let s = p.before.before in
    omega (
      arith,
      p.put-after_share.ensures.0,
      share-is s,
      after_closest (first s),
      kept (first s),
      room s,
      ap length p.put-after_share.ensures.1,
      length-sets (first s).put-after_closest.new.buf (first s).put-after_closest.result (bytes s.share_for-share.result),
    )

returns : tie.Need-returns-then-shared
returns c =
    let r = c.before.before in
    let p = r.before.before.before.before in
    let s = p.before.before in
    let f = first s in
    let o = (base s).args.o in
    let d = f.before.before in (
      omega (arith, r.put.ensures.0, p.put-after_share.ensures.0, share-is s, after_closest f, shared-length (course_of o) (asked s)),
      three (base s).args.buf.now f.put-after_closest.new.buf p.put-after_share.new.buf _ _ _ _ _ _ _ (closestEntry (course_of o)) (shareEntry (course_of o)) end
          d.closest_for-last.ensures s.share_for-share.ensures refl f.put-after_closest.ensures.1 p.put-after_share.ensures.1 r.put.ensures.1
          ∙ (stores-shared (course_of o) (asked s) (base s).args.buf.now (base s).args.start f.put-after_closest.result p.put-after_share.result
          (after_closest f ∙ ap (λ (n : ℕ). (base s).args.start + n) (sym (closest-size (course_of o))))
          (p.put-after_share.ensures.0 ∙ ap (λ (n : ℕ). f.put-after_closest.result + n) (share-is s ∙ sym (share-size (course_of o))))),
    )

put-requires-4 : tie.Need-put-requires-2
put-requires-4 c κs =
    let f = c.before.before.before.before.before in
    omega (arith, after_closest f, kept f, least f.before.before.before.before.before)

returns-2 : tie.Need-returns
returns-2 c =
    let r = c.before.before in
    let i = r.before.before in
    let f = i.before.before.before.before in
    let plain = sym i.shares-shared.ensures ∙ i.if-shared.false in
    let d = f.before.before in
    let b = d.before.before.before in
    let o = b.args.o in (
      omega (arith, r.put-2.ensures.0, after_closest f, plain-length (course_of o) plain),
      two b.args.buf.now f.put-after_closest.new.buf _ _ _ _ _ (closestEntry (course_of o)) end d.closest_for-last.ensures refl f.put-after_closest.ensures.1 r.put-2.ensures.1
          ∙ (stores-plain (course_of o) plain b.args.buf.now b.args.start f.put-after_closest.result
          (after_closest f ∙ ap (λ (n : ℕ). b.args.start + n) (sym (closest-size (course_of o))))),
    )

pub write_closing_spec : {M : Type 1} → statement M
write_closing_spec =
    tie.close
    (tie.spec (λ c κs. search rules) put-requires (λ c κs. search rules) (λ c κs. search rules) put-requires-2
    put-requires-3 (λ c. search rules) returns put-requires-4 (λ c. search rules) returns-2)
