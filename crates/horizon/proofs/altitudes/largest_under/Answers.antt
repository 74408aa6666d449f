-- The sines after the first are those of 1 to 900 tenths of a degree, and they rise.
use Rattle.std.proofs.Common.{◌≡◌, ap, ◌∙◌, ℕ, List, ◌+◌, ◌-◌, ◌≤◌, ◌<◌, leb, length, get_or, drop, take, arith, rules}
use mathlib.Core.Logic.{⊎_elim}
use native.Mathlib.Nat.{eq-or-lt_of_le}
use borrow.Author.Tests.{leb-true, leb-false}
use Rattle.std.proofs.lemmas.Grind.{get_or_after_one}
use Rattle.std.proofs.lemmas.List.{get_or-take, get_or_default, length-take-le, length-drop}
use Rattle.std.proofs.lemmas.List.Sorted.{IsPartitionedBy-leb, IsPartitionPoint-from_clause}
use Rattle.sine_table.specs.Table.{S, Sines}
use Rattle.sine_table.specs.laws.TableLaws.{entry_0}
use Rattle.horizon.specs.Altitude.{LargestUnder}
use Rattle.horizon.specs.laws.AltitudeLaws.{largest-unique, under-is, rises-≤}
use Rattle.horizon.proofs.altitudes.largest_under.Goals as goal

module _ (xs : List ℕ) (s : Sines xs) where
  later : List ℕ
  later = take 900 (drop 1 xs)

  later-length : length (take 900 (drop 1 xs)) ≡ 900
  later-length = length-take-le 900 (drop 1 xs) (omega (arith, length-drop 1 xs, s.size))

  later-is : (k d : ℕ) → k < 900 → get_or (take 900 (drop 1 xs)) k d ≡ S (k + 1)
  later-is k d h =
      get_or-take 900 (drop 1 xs) k d h ∙ get_or_after_one xs k d
      ∙ get_or_default xs (1 + k) d 0 (omega (arith, s.size)) ∙ (s.entry (1 + k) (omega arith)).value ∙ ap S (omega arith)

pub returns : goal.returns
returns c =
    let a = c.args.a in
    let xs = c.args.table.now in
    let l = later-length xs c.requires in
    let at : (k d : ℕ) → k < 900 → get_or (take 900 (drop 1 xs)) k d ≡ S (k + 1) = later-is xs c.requires in
    let p = IsPartitionPoint-from_clause (λ (y : ℕ). leb y a) (take 900 (drop 1 xs)) c.partition_point.result c.partition_point.ensures.partitioned
    (IsPartitionedBy-leb (λ (y : ℕ). y) (take 900 (drop 1 xs)) a
    (λ i j d h k. rw (at i d (omega (arith, l)), at j d (omega (arith, l))) (rises-≤ (i + 1) (j + 1) (omega arith) (omega (arith, l)))))
    (λ x r q k. search rules) in
    let r = c.partition_point.result in
    let few : r ≤ 900 = omega (arith, l, c.partition_point.ensures.bound) in
    let holds : S r ≤ a =
    ⊎_elim (λ (e : 0 ≡ r). omega (arith, ap S e, entry_0))
    (λ (h : 0 < r). let e : r - 1 + 1 ≡ r = omega arith in
    omega (arith, ap S e, at (r - 1) 0 (omega arith), leb-true _ _ (p.0 (r - 1) 0 (omega arith) (omega arith))))
    (eq-or-lt_of_le (omega arith)) in
    let largest : LargestUnder S a 900 r =
    record {
      small = few;
      holds = holds;
      above = λ j h k. let e : j - 1 + 1 ≡ j = omega arith in
          omega (arith, ap S e, at (j - 1) 0 (omega arith), leb-false _ _ (p.1 (j - 1) 0 (omega arith) (omega (arith, l))));
    } in
    largest-unique S largest (under-is a)
