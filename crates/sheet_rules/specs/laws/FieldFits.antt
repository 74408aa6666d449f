-- Fields that keep their rules fit their bytes.
use Rattle.std.specs.Prelude.{ℕ, ◌≤◌, ◌<◌, ◌≡◌, refl, Bool, true, false, cond, ◌&&◌, ◌||◌, leb, ltb, eqb}
use Rattle.std.proofs.Common.{sym, ap, ◌∙◌, arith, leb-true, eqb-true}
use Rattle.sheet_types.specs.declared.phases.Phase.TheVariants.{Star}
use Rattle.sheet_format.specs.declared.kinds.Entry.{Entry}
use Rattle.sheet_format.specs.declared.kinds.Kind.{Kind}
use Rattle.sheet_format.specs.declared.kinds.Kind.TheVariants as K
use Rattle.sheet_format.specs.declared.kinds.Stage.{Stage}
use Rattle.sheet_format.specs.declared.kinds.Progress.{Progress}
use Rattle.sheet_format.specs.Kinds.{plain, table}
use Rattle.sheet_format.specs.laws.KindLaws.{plain_inv}
use Rattle.sheet_format.specs.FieldRules.{guard_holds, head_holds, in_window, is_direction, is_within, greatestMagnitude, span_holds}
use Rattle.sheet_format.specs.laws.RecordTrip.{FitsIn}
use Rattle.rounding.specs.laws.Tests.{both}
use Rattle.sheet_rules.specs.Rules.{start, fields_hold, after_of}

-- a window that its head had accepted: seconds fit two bytes
abbrev pub Small : Progress → Type 0
Small p = p.last < 65536

direction-fits : (d : ℕ) → is_direction d ≡ true → d < 65536
direction-fits d q = by (leb d 3599) refl
  where
    by : (b : Bool) → leb d 3599 ≡ b → d < 65536
    by true l = let h = leb-true d 3599 l in omega arith
    by false l = let h = eqb-true d 65535 (sym (ap (λ b. b || eqb d 65535) l) ∙ q) in omega arith

window-fits : (p : Progress) (x : ℕ) → Small p → in_window p x ≡ true → x < 65536
window-fits p x h q = let b = leb-true x p.last (both (leb p.first x) (leb x p.last) q).1 in omega arith

both_fit : (p : Progress) (f t : ℕ) → Small p → (in_window p f && in_window p t) ≡ true → (f < 65536) × (t < 65536)
both_fit p f t h q = let y = both (in_window p f) (in_window p t) q in (window-fits p f h y.0, window-fits p t h y.1)

span_fits : (p : Progress) (f t : ℕ) → Small p → span_holds p f t ≡ true → (f < 65536) × (t < 65536)
span_fits p f t h q = both_fit p f t h (both (in_window p f && in_window p t) (ltb f t) q).0

head-fits : (s f l g : ℕ) → head_holds s f l g ≡ true → (s < 65536) × (f < 65536) × (l < 65536) × (g < 65536)
head-fits s f l g q =
    let w = both (leb 1 s && leb s 999 && leb f l && leb l 21600) (guard_holds g) q in
    let x = both (leb 1 s && leb s 999 && leb f l) (leb l 21600) w.0 in
    let y = both (leb 1 s && leb s 999) (leb f l) x.0 in
    let z = both (leb 1 s) (leb s 999) y.0 in
    let a = leb-true l 21600 x.1 in
    let b = leb-true f l y.1 in
    let c = leb-true s 999 z.1 in
    let d = leb-true g 1000 (both (leb 16 g) (leb g 1000) w.1).1 in
    (omega arith, omega arith, omega arith, omega arith)

greatest-magnitude : (s : Stage) → greatestMagnitude s ≤ 1300000
greatest-magnitude s = by (is_within s Star)
  where
    by : (b : Bool) → cond b 0 1300000 ≤ 1300000
    by true = omega arith
    by false = omega arith

zero : (x : ℕ) → eqb x 0 ≡ true → x ≡ 0
zero x q = eqb-true x 0 q

-- fields that keep their rules fit their bytes
kind_fits : (p : Progress) (k : Kind) (a b c d : ℕ) → Small p → let e : Entry = record { kind = k; a = a; b = b; c = c; d = d } in
    plain e ≡ true → (table k).rule p e ≡ true → FitsIn e
kind_fits p K.Head a b c d h n q =
    let x = head-fits a b c d q in
    record { a = x.0; b = x.1; c = x.2; d = x.3 }
kind_fits p (K.Enter φ) a b c d h n q =
    let u = plain_inv _ n in let x = both (span_holds p a b) (is_direction c) q in let y = span_fits p a b h x.0 in
    record { a = y.0; b = y.1; c = direction-fits c x.1; d = zero d u.3 }
kind_fits p (K.Leave φ) a b c d h n q =
    let u = plain_inv _ n in let x = both (span_holds p a b) (is_direction c) q in let y = span_fits p a b h x.0 in
    record { a = y.0; b = y.1; c = direction-fits c x.1; d = zero d u.3 }
kind_fits p (K.Graze φ) a b c d h n q =
    let u = plain_inv _ n in let y = span_fits p a b h q in
    record { a = y.0; b = y.1; c = zero c u.2; d = zero d u.3 }
kind_fits p (K.Open φ) a b c d h n q =
    let u = plain_inv _ n in
    let x = both (in_window p a && in_window p b && leb a b) (eqb a p.first || eqb b p.last) q in
    let y = both_fit p a b h (both (in_window p a && in_window p b) (leb a b) x.0).0 in
    record { a = y.0; b = y.1; c = zero c u.2; d = zero d u.3 }
kind_fits p K.Closest a b c d h n q =
    let u = plain_inv _ n in
    let x = both (in_window p a) (leb b (greatestMagnitude p.stage)) q in
    let m = leb-true b (greatestMagnitude p.stage) x.1 in
    let most = greatest-magnitude p.stage in
    record { a = window-fits p a h x.0; b = omega arith; c = zero c u.2; d = zero d u.3 }
kind_fits p K.Share a b c d h n q =
    let u = plain_inv _ n in
    let m = leb-true a 1000000 q in
    record { a = omega arith; b = zero b u.1; c = zero c u.2; d = zero d u.3 }
kind_fits p K.End a b c d h n q =
    let u = plain_inv _ n in
    record { a = zero a u.0; b = zero b u.1; c = zero c u.2; d = zero d u.3 }

pub fields_fit : (p : Progress) (e : Entry) → Small p → fields_hold p e ≡ true → FitsIn e
fields_fit p e h q = let x = both (plain e) ((table e.kind).rule p e) q in kind_fits p e.kind e.a e.b e.c e.d h x.0 x.1

pub start_small : Small start
start_small = omega arith

kind_small : (p : Progress) (k : Kind) (a b c d : ℕ) → Small p → let e : Entry = record { kind = k; a = a; b = b; c = c; d = d } in
    (table k).rule p e ≡ true → Small (after_of p e)
kind_small p K.Head a b c d h q = (head-fits a b c d q).2
kind_small p (K.Enter φ) a b c d h q = h
kind_small p (K.Leave φ) a b c d h q = h
kind_small p (K.Graze φ) a b c d h q = h
kind_small p (K.Open φ) a b c d h q = h
kind_small p K.Closest a b c d h q = h
kind_small p K.Share a b c d h q = h
kind_small p K.End a b c d h q = h

pub after_small : (p : Progress) (e : Entry) → Small p → fields_hold p e ≡ true → Small (after_of p e)
after_small p e h q = kind_small p e.kind e.a e.b e.c e.d h (both (plain e) ((table e.kind).rule p e) q).1
