-- A pass over the records of a sheet that was found well-formed, as reader, writer and listing make one: what is still
-- before it, and one record further.
use Rattle.std.specs.Prelude.{ℕ, suc, ◌+◌, ◌-◌, ◌<◌, ◌≡◌, List, [], ◌∷◌, true, false, Result, Err, Ok}
use Rattle.std.proofs.Common.{sym, ap, ◌∙◌, arith}
use Rattle.rounding.specs.laws.Results.{ok_parts}
use Rattle.sheet_types.specs.declared.refusals.Refusal.{Refusal}
use Rattle.sheet_format.specs.declared.kinds.Entry.{Entry}
use Rattle.sheet_format.specs.declared.kinds.Progress.{Progress}
use Rattle.sheet_format.specs.Kinds.{is_end}
use Rattle.sheet_rules.specs.Rules.{after_of}
use Rattle.sheet_codec.specs.Sheets.{sheet, sheet_from}
use Rattle.sheet_codec.specs.laws.GivenLaws.{Went, from-inv}

-- the pass is at the n-th record, at byte `at` of the sheet, and the entries `es` are before it
pub record Rest (given : ℕ → ℕ → Result (Entry × ℕ) Refusal) (len n at : ℕ) : Type 0 where
  pub p : Progress
  pub es : List Entry
  pub long : ℕ
  pub is : sheet_from given (suc (len - n)) p n at ≡ sheet es long

module _ {given : ℕ → ℕ → Result (Entry × ℕ) Refusal} {len n at : ℕ} (f : Rest given len n at) where
  pub first : Went given (len - n) f.p n at f.es f.long
  first = from-inv given (len - n) f.p n at f.es f.long f.is

  -- the record is there
  pub rest-there : (r : Refusal) → given n at ≡ Err r → ⊥
  rest-there r q = let t = first.got in let z : ◌≡◌ {A = ℕ} 0 1 = cc in omega arith

  -- the entries behind the first
  abbrev pub behind : List Entry
  behind = first.tail

  module _ (e : Entry) (next : ℕ) (q : given n at ≡ Ok (e, next)) where
    same-entry : first.e ≡ e
    same-entry = (ok_parts (sym first.got ∙ q)).0

    same_next : first.n ≡ next
    same_next = (ok_parts (sym first.got ∙ q)).1

    ended : is_end first.e.kind ≡ is_end e.kind
    ended = ap (λ x. is_end x.kind) same-entry

    pub rest-split : f.es ≡ e ∷ behind
    rest-split = first.all ∙ ap (λ x. x ∷ behind) same-entry

    pub rest-last : is_end e.kind ≡ true → behind ≡ []
    rest-last b = (first.last (ended ∙ b)).0

    pub rest_goes : is_end e.kind ≡ false → n < len → sheet_from given (suc (len - (n + 1))) (after_of f.p first.e) (n + 1) next ≡ sheet behind f.long
    rest_goes b h = let k : len - n ≡ suc (len - (n + 1)) = omega arith in rw (← k, ← same_next) (first.goes (ended ∙ b))

    abbrev pub rest_more : is_end e.kind ≡ false → n < len → Rest given len (n + 1) next
    rest_more b h = record { p = after_of f.p first.e; es = behind; long = f.long; is = rest_goes b h }
