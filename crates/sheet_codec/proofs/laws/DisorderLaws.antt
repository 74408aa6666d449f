-- A record that breaks the order is refused for that, whatever its fields: "in it 5, 6, 8, 7".
use Rattle.std.specs.Prelude.{ℕ, suc, ◌≡◌, refl, Result, Err, Ok}
use Rattle.std.proofs.Common.{ap, ◌∙◌}
use Rattle.sheet_types.specs.declared.refusals.Refusal.{Refusal}
use Rattle.sheet_format.specs.declared.kinds.Entry.{Entry}
use Rattle.sheet_format.specs.declared.kinds.Progress.{Progress}
use Rattle.sheet_types.specs.Refusals.{refusal}
use Rattle.sheet_rules.specs.declared.rules.OrderRule.{OrderRule}
use Rattle.sheet_rules.specs.declared.rules.OrderRule.TheVariants as O
use Rattle.sheet_rules.specs.declared.rules.FieldRule.{FieldRule}
use Rattle.sheet_rules.specs.Rules.{order_of, fields_of, of_fields, of_order}
use Rattle.sheet_codec.specs.Sheets.{refused, sheet_from, judged}
use Rattle.sheet_codec.specs.laws.GivenLaws.{by-judged}

module _ (given : ℕ → ℕ → Result (Entry × ℕ) Refusal) (fuel : ℕ) (p : Progress) (i at : ℕ) where
  module _ (e : Entry) (n : ℕ) (got : given i at ≡ Ok (e, n)) where
    -- by the answers to both questions
    asked : (o : OrderRule) (f : FieldRule) → order_of p e ≡ o → fields_of p e ≡ f
        → judged p at (given i at) ≡ of_order at (of_fields at (Ok (e, n)) f) o
    asked o f t u = ap (judged p at) got ∙ rw (t, u)

    pub from-disorder : order_of p e ≡ O.Broken → sheet_from given (suc fuel) p i at ≡ refused (refusal 8 at)
    from-disorder t = by-judged given fuel p i at (Err (refusal 8 at)) (asked O.Broken (fields_of p e) t refl)
