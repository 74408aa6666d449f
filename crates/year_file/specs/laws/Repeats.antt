-- A walk that does not read again what it has read. Where an open entry of one second stands again and again, a head
-- can stand in each two of them, and a read from each head runs on to the same end: a file of n bytes would take n·n
-- steps. But where the 14 bytes of a head and of such an entry stand 5 bytes before too, what is a sheet here is one
-- there, with the entry once more. So none begins here if none began there.
use Rattle.std.specs.Prelude.{ℕ, suc, ◌+◌, ◌-◌, ◌≤◌, ◌<◌, ◌≡◌, refl, ◌&&◌, ◌||◌, Some, Ok}
use Rattle.std.proofs.Math.Path.{sym, ap}
use Rattle.std.proofs.Common.{◌∙◌, arith, add-zero, leb-true, take-append-drop, take_at, drop_at}
use mathlib.Core.List.{List, [], ◌∷◌, ◌++◌, append_assoc}
use Rattle.std.proofs.Math.Nat.{add_assoc}
use Rattle.std.proofs.Math.Dec.{leb, eqb}
use Rattle.std.proofs.Math.ListN.{length, take, drop, get_or, length-append, length-drop}
use Rattle.std.proofs.Math.Seq.{drop-drop, get_or-drop, get_or-take, length-take-le, ext_get_or}
use Rattle.sheet_types.specs.declared.phases.Phase.{Phase}
use Rattle.sheet_format.specs.declared.kinds.Kind.TheVariants as K
use Rattle.sheet_format.specs.declared.kinds.Entry.{Entry}
use Rattle.sheet_format.specs.declared.kinds.Stage.TheVariants as S
use Rattle.sheet_format.specs.declared.kinds.Crossing.TheVariants as C
use Rattle.sheet_format.specs.Entries.{opened}
use Rattle.sheet_format.specs.FieldRules.{in_window, open_holds}
use Rattle.rounding.specs.laws.Tests.{both}
use Rattle.sheet_format.specs.Kinds.{kind_for, size_of, plain}
use Rattle.big_endian.specs.Numbers.{two_at, Bytes}
use Rattle.sheet_format.specs.RecordEntries.{bytes, bytes_of}
use Rattle.sheet_format.specs.laws.EntryLaws.{length-bytes, bytes_cons}
use Rattle.sheet_format.specs.Records.{entry_at, record_at}
use Rattle.sheet_format.specs.laws.RecordLaws.{record-inv}
use Rattle.sheet_rules.specs.Rules.{start, reached}
use Rattle.sheet_codec.specs.Sheets.{Sheet, sheet, refused, stored_at, read_sheet}
use Rattle.sheet_codec.specs.laws.SheetLaws.{read-start}
use Rattle.sheet_codec.specs.laws.StandLaws.{Stand, well-from}
use Rattle.sheet_codec.specs.laws.StoredLaws.{stored_steady, stand-bytes}
use Rattle.sheet_codec.specs.RoundTrip.{read_back}
use Rattle.sheet_codec.specs.laws.WellFormed.{WellFormed}
use Rattle.sheet_codec.specs.laws.WellFormedLaws.{well_step, step-open}
use Rattle.year_file.specs.Leading.{leading}
use Rattle.year_file.specs.laws.BoundLaws.{sheet_bounds}

-- the 14 bytes at a place stand 5 bytes before it too
abbrev pub SameBefore : List ℕ → ℕ → Type 0
SameBefore file at = (i : ℕ) → i < 14 → get_or file (at - 5 + i) 0 ≡ get_or file (at + i) 0

-- an open entry from and to one second stands at a place
pub record OpenOnce (file : List ℕ) (at : ℕ) : Type 0 where
  pub phase : Phase
  pub kind : kind_for (get_or file at 0) ≡ Some (K.Open phase)
  pub high : get_or file (at + 1) 0 ≡ get_or file (at + 3) 0
  pub low : get_or file (at + 2) 0 ≡ get_or file (at + 4) 0

-- the 14 bytes are a head, and such an entry
pub record Again (file : List ℕ) (at : ℕ) : Type 0 where
  pub back : 5 ≤ at
  pub long : at + 14 ≤ length file
  pub same : SameBefore file at
  pub head : get_or file at 0 ≡ 0x01
  pub opens : OpenOnce file (at + 9)

-- ---- the entry once more keeps the rules

module _ (f l a : ℕ) (φ : Phase) (tail : List Entry) where
  once_more : WellFormed (reached S.Head f l) (opened φ a a ∷ tail) → WellFormed (reached S.Head f l) (opened φ a a ∷ opened φ a a ∷ tail)
  unfolding WellFormed
  once_more w =
      let p = reached S.Head f l in
      let rule = (both (plain (opened φ a a)) (open_holds p a a) w.1).1 in
      let x = both (in_window p a && in_window p a && leb a a) (eqb a f || eqb a l) rule in
      let y = both (in_window p a && in_window p a) (leb a a) x.0 in
      let z = (both (in_window p a) (in_window p a) y.0).0 in
      let u = both (leb f a) (leb a l) z in
      let again = step-open φ f l a C.Neither a a (omega arith) (leb-true f a u.0) (leb-true a l u.1) (omega arith) x.1 in
      (w.0, w.1, well_step tail again w.2)

-- ---- the bytes that stand at a place and 5 bytes before it

module _ (file : List ℕ) (at : ℕ) (b : Bytes file) (g : Again file at) where
  here : List ℕ
  here = drop at file

  there : List ℕ
  there = drop (at - 5) file

  at_here : (i : ℕ) → get_or here i 0 ≡ get_or file (at + i) 0
  unfolding here
  at_here i = get_or-drop at file i 0

  same_start : take 14 there ≡ take 14 here
  unfolding here there
  same_start =
      let k = length-drop at file in
      let l = length-drop (at - 5) file in
      let m = length-take-le 14 here (omega (arith, g.long)) in
      let n = length-take-le 14 there (omega (arith, g.long, g.back)) in
      ext_get_or 0 (take 14 there) (take 14 here) (n ∙ sym m)
      (λ i h. get_or-take 14 there i 0 (omega arith) ∙ get_or-drop (at - 5) file i 0 ∙ g.same i (omega arith) ∙ sym (get_or-drop at file i 0)
      ∙ sym (get_or-take 14 here i 0 (omega arith)))

  then-here : drop 14 there ≡ drop 9 here
  unfolding here there
  then-here =
      let e : at - 5 + 14 ≡ at + 9 = omega (arith, g.back) in
      drop-drop 14 (at - 5) file ∙ ap (λ k. drop k file) e ∙ sym (drop-drop 9 at file)

  there-is : there ≡ take 14 here ++ drop 9 here
  there-is = sym (take-append-drop 14 there) ∙ ap (λ x. x ++ drop 14 there) same_start ∙ ap (λ x. take 14 here ++ x) then-here

  -- the head's entry, the open's, and the second
  head-entry : Entry
  head-entry = entry_at K.Head here 1

  second : ℕ
  second = two_at here 10

  entry : Entry
  entry = opened g.opens.phase second second

  is-head : (h : Entry) (n : ℕ) → record_at here 0 ≡ Ok (h, n) → h ≡ head-entry
  unfolding head-entry
  is-head h n q =
      let t = record-inv here 0 h n q in
      let e : Some h.kind ≡ Some K.Head = sym t.named ∙ ap kind_for (at_here 0 ∙ ap (λ k. get_or file k 0) (add-zero at) ∙ g.head) in
      let k : h.kind ≡ K.Head = cc in
      t.is ∙ ap (λ x. entry_at x here 1) k

  is_open : (x : Entry) (n : ℕ) → record_at here 9 ≡ Ok (x, n) → x ≡ entry
  unfolding entry second
  is_open x n q =
      let t = record-inv here 9 x n q in
      let e : Some x.kind ≡ Some (K.Open g.opens.phase) = sym t.named ∙ ap kind_for (at_here 9) ∙ g.opens.kind in
      let k : x.kind ≡ K.Open g.opens.phase = cc in
      let same : (i j : ℕ) → get_or file (at + 9 + i) 0 ≡ get_or file (at + 9 + j) 0 → get_or here (9 + j) 0 ≡ get_or here (9 + i) 0 =
      λ i j h. at_here (9 + j) ∙ sym (rw (add_assoc at 9 i, add_assoc at 9 j) at h) ∙ sym (at_here (9 + i)) in
      let u : get_or here 12 0 ≡ get_or here 10 0 = same 1 3 g.opens.high in
      let v : get_or here 13 0 ≡ get_or here 11 0 = same 2 4 g.opens.low in
      t.is ∙ ap (λ y. entry_at y here 10) k ∙ rw (u, v)

  begins : (es : List Entry) → WellFormed start es → Stand (stored_at here) 0 0 es → (tail : List Entry) × (es ≡ head-entry ∷ entry ∷ tail)
  unfolding WellFormed Stand head-entry
  begins [] w st = absurd w
  begins (h ∷ []) w st =
      let e = is-head h (0 + size_of h.kind) st.0 in
      let v : WellFormed start (head-entry ∷ []) = rw e at w in
      absurd v.2
  begins (h ∷ x ∷ tail) w st =
      let e = is-head h (0 + size_of h.kind) st.0 in
      let v : Stand (stored_at here) 0 0 (head-entry ∷ x ∷ tail) = rw e at st in
      (tail, ap (λ y. y ∷ x ∷ tail) e ∙ ap (λ y. head-entry ∷ y ∷ tail) (is_open x _ v.1.0))

  module _ (tail : List Entry) (n : ℕ) (q : read_sheet here ≡ sheet (head-entry ∷ entry ∷ tail) n) where
    behind : List ℕ
    behind = drop (0 + length (bytes_of (head-entry ∷ entry ∷ tail))) here

    stands : WellFormed start (head-entry ∷ entry ∷ tail) × Stand (stored_at here) 0 0 (head-entry ∷ entry ∷ tail)
        × (n ≡ 0 + length (bytes_of (head-entry ∷ entry ∷ tail)))
    stands =
        well-from (stored_at here) (stored_steady here) (suc (length here - 0)) start 0 0 (head-entry ∷ entry ∷ tail) n (sym (read-start here) ∙ q)

    well : WellFormed start (head-entry ∷ entry ∷ entry ∷ tail)
    unfolding WellFormed head-entry entry
    well = let w = stands.0 in (w.0, w.1, once_more head-entry.b head-entry.c second g.opens.phase tail w.2)

    sizes : (size_of head-entry.kind ≡ 9) × (size_of entry.kind ≡ 5)
    unfolding head-entry entry
    sizes = (refl, refl)

    -- the bytes here
    open-behind : List ℕ
    open-behind = bytes entry ++ (bytes_of tail ++ behind)

    here-is : here ≡ bytes head-entry ++ open-behind
    unfolding open-behind behind here
    here-is =
        stand-bytes here (λ i. rw (get_or-drop at file i 0) (b (at + i))) (head-entry ∷ entry ∷ tail) 0 0 stands.1
        ∙ ap (λ x. x ++ behind) (bytes_cons head-entry (entry ∷ tail) ∙ ap (λ x. bytes head-entry ++ x) (bytes_cons entry tail))
        ∙ append_assoc (bytes head-entry) (bytes entry ++ bytes_of tail) behind
        ∙ ap (λ x. bytes head-entry ++ x) (append_assoc (bytes entry) (bytes_of tail) behind)

    there-bytes : there ≡ bytes_of (head-entry ∷ entry ∷ entry ∷ tail) ++ behind
    unfolding open-behind
    there-bytes =
        let x = bytes head-entry in
        let y = bytes entry in
        let z = bytes_of tail ++ behind in
        let k : length (x ++ y) ≡ 14 = omega (arith, length-append x y, length-bytes head-entry, length-bytes entry, sizes) in
        there-is
        ∙ ap (λ l. take 14 l ++ drop 9 here) (here-is ∙ sym (append_assoc x y z)) ∙ ap (λ l. l ++ drop 9 here) (take_at (x ++ y) z 14 k)
        ∙ ap (λ l. (x ++ y) ++ drop 9 l) here-is ∙ ap (λ l. (x ++ y) ++ l) (drop_at x (y ++ z) 9 (length-bytes head-entry ∙ sizes.0))
        ∙ append_assoc x y (y ++ z) ∙ sym (simp (bytes_cons, append_assoc))

    sheet_there : read_sheet there ≡ sheet (head-entry ∷ entry ∷ entry ∷ tail) (length (bytes_of (head-entry ∷ entry ∷ entry ∷ tail)))
    sheet_there = ap read_sheet there-bytes ∙ read_back (head-entry ∷ entry ∷ entry ∷ tail) well behind

  here-too : (w v : Sheet) → read_sheet here ≡ w → read_sheet there ≡ v → leading v ≡ 0 → leading w ≡ 0
  here-too (refused r) v p t none = refl
  here-too (sheet es n) v p t none =
      let r = well-from (stored_at here) (stored_steady here) (suc (length here - 0)) start 0 0 es n (sym (read-start here) ∙ p) in
      let e = begins es r.0 r.1 in
      let s = sheet_there e.0 n (p ∙ ap (λ x. sheet x n) e.1) in
      let l = (sheet_bounds there _ _ s).0 in
      let m : leading v ≡ length (bytes_of (head-entry ∷ entry ∷ entry ∷ e.0)) = ap leading (sym t ∙ s) in
      absurd (omega arith)

-- where no sheet began 5 bytes before, none begins here
pub again_none : (file : List ℕ) (at : ℕ) → Bytes file → Again file at → leading (read_sheet (drop (at - 5) file)) ≡ 0
    → leading (read_sheet (drop at file)) ≡ 0
unfolding here there
again_none file at b g none = here-too file at b g (read_sheet (drop at file)) (read_sheet (drop (at - 5) file)) refl refl none
