-- The second pass of a reader and of a writer, which puts the part of each entry, its numbers or its bytes, behind the
-- one before it: what is still to be put, once put, gives what the pass is to leave (`target`). The first pass found a
-- sheet, so each record is there.
use Rattle.std.specs.Prelude.{Result, Err, Ok, ℕ}
use Prim.Native.Nat.{ℕ, ◌+◌, ◌≤◌, ◌<◌}
use mathlib.Core.Path.{◌≡◌, sym, ap, ◌∙◌}
use mathlib.Core.List.{List, [], ◌∷◌, ◌++◌}
use mathlib.Core.Bool.{true, false}
use native.Mathlib.Omega.{arith}
use lib.ListN.{length, length-append}
use lib.Seq.{sets, length-sets}
use Rattle.rounding.specs.laws.Stores.{sets_append}
use Rattle.sheet_types.specs.declared.refusals.Refusal.{Refusal}
use Rattle.sheet_format.specs.declared.kinds.Entry.{Entry}
use Rattle.sheet_format.specs.Kinds.{is_end}
use Rattle.sheet_codec.specs.laws.Rests.{Rest, rest-there, behind, rest-split, rest-last, rest_more}

-- the parts of a list of entries are those of its entries, one after the other
pub record Parts (part : Entry → List ℕ) (parts : List Entry → List ℕ) : Type 0 where
  pub nil : parts [] ≡ []
  pub cons : (e : Entry) (es : List Entry) → parts (e ∷ es) ≡ part e ++ parts es

-- the pass is at the n-th record, at byte `at` of the sheet, and puts the next part at `pos`
pub record Passing (given : ℕ → ℕ → Result (Entry × ℕ) Refusal) (len : ℕ) (parts : List Entry → List ℕ) (target out : List ℕ) (n at pos : ℕ) : Type 0 where
  pub rest : Rest given len n at
  pub fits : pos + length (parts rest.es) ≤ length out
  pub left : sets out pos (parts rest.es) ≡ target

module _ {given : ℕ → ℕ → Result (Entry × ℕ) Refusal} {len : ℕ} {part : Entry → List ℕ} {parts : List Entry → List ℕ} (ps : Parts part parts)
    {target out : List ℕ} {n at pos : ℕ} (f : Passing given len parts target out n at pos) where
  pub pass-never : (r : Refusal) → given n at ≡ Err r → ⊥
  pass-never r q = rest-there f.rest r q

  module _ (e : Entry) (next : ℕ) (q : given n at ≡ Ok (e, next)) where
    split : parts f.rest.es ≡ part e ++ parts (behind f.rest)
    split = ap parts (rest-split f.rest e next q) ∙ ps.cons e (behind f.rest)

    room : pos + length (part e) + length (parts (behind f.rest)) ≤ length out
    room = omega (arith, f.fits, ap length split, length-append (part e) (parts (behind f.rest)))

    pub pass_fits : pos + length (part e) ≤ length out
    pass_fits = omega (arith, room)

    pushed : sets (sets out pos (part e)) (pos + length (part e)) (parts (behind f.rest)) ≡ target
    pushed = sym (ap (sets out pos) split ∙ sets_append (part e) (parts (behind f.rest)) out pos) ∙ f.left

    pub pass-end : is_end e.kind ≡ true → sets out pos (part e) ≡ target
    pass-end b =
        let t : parts (behind f.rest) ≡ [] = ap parts (rest-last f.rest e next q b) ∙ ps.nil in
        sym (ap (sets (sets out pos (part e)) (pos + length (part e))) t) ∙ pushed

    pub pass-more : is_end e.kind ≡ false → n < len → Passing given len parts target (sets out pos (part e)) (n + 1) next (pos + length (part e))
    pass-more b h =
        record {
          rest = rest_more f.rest e next q b h;
          fits = rw (length-sets out pos (part e)) room;
          left = pushed;
        }
