-- The first pass of a reader and of a writer, which counts: what the sheet from the n-th record on gives, with the n
-- entries before it counted, is the answer. A turn of the loop is one of the sheet.
use Rattle.std.specs.Prelude.{Result, Err, Ok, ℕ}
use Prim.Native.Nat.{ℕ, suc, ◌+◌, ◌-◌, ◌<◌}
use mathlib.Core.Path.{◌≡◌, sym, ap, ◌∙◌}
use mathlib.Core.Bool.{true, false}
use Rattle.sheet_types.specs.declared.refusals.Refusal.{Refusal}
use Rattle.sheet_types.specs.Refusals.{refusal}
use Rattle.sheet_format.specs.declared.kinds.Entry.{Entry}
use Rattle.sheet_format.specs.declared.kinds.Progress.{Progress}
use Rattle.sheet_rules.specs.declared.rules.OrderRule.TheVariants as O
use Rattle.sheet_rules.specs.declared.rules.FieldRule.TheVariants as F
use Rattle.sheet_format.specs.Kinds.{is_end}
use Rattle.sheet_rules.specs.Rules.{after_of, order_of, fields_of}
use Rattle.sheet_codec.specs.Sheets.{Sheet, sheet_from, extent_of}
use Rattle.sheet_codec.specs.laws.GivenLaws.{from-refused, from-unsound, from_end, extent-turn}
use Rattle.sheet_codec.specs.laws.Passes.{extent}
use Rattle.sheet_codec.proofs.laws.DisorderLaws.{from-disorder}

pub record Counting (given : ℕ → ℕ → Result (Entry × ℕ) Refusal) (len : ℕ) (w : Sheet) (p : Progress) (n at : ℕ) : Type 0 where
  pub is : extent_of w ≡ extent n (sheet_from given (suc (len - n)) p n at)

module _ {given : ℕ → ℕ → Result (Entry × ℕ) Refusal} {len : ℕ} {w : Sheet} {p : Progress} {n at : ℕ} (f : Counting given len w p n at) where
  pub count-refused : (r : Refusal) → given n at ≡ Err r → Err r ≡ extent_of w
  count-refused r q = sym (f.is ∙ ap (extent n) (from-refused given (len - n) p n at r q))

  module _ (e : Entry) (next : ℕ) (q : given n at ≡ Ok (e, next)) where
    pub count-disorder : order_of p e ≡ O.Broken → Err (refusal 8 at) ≡ extent_of w
    count-disorder t = sym (f.is ∙ ap (extent n) (from-disorder given (len - n) p n at e next q t))

    module _ (t : order_of p e ≡ O.Kept) where
      pub count-unsound : fields_of p e ≡ F.Broken → Err (refusal 7 at) ≡ extent_of w
      count-unsound u = sym (f.is ∙ ap (extent n) (from-unsound given (len - n) p n at e next q t u))

      pub count-end : fields_of p e ≡ F.Kept → is_end e.kind ≡ true → Ok (n + 1, next) ≡ extent_of w
      count-end u b = sym (f.is ∙ ap (extent n) (from_end given (len - n) p n at e next q t u b))

      pub count-more : fields_of p e ≡ F.Kept → is_end e.kind ≡ false → n < len
          → Counting given len w (after_of p e) (n + 1) next
      count-more u b h = record { is = f.is ∙ extent-turn given len p n at e next q t u b h }
