-- What the units say decides (`value_by`).
use Rattle.std.specs.Prelude.{◌≡◌, ℕ, List, Result, Err}
use Rattle.std.proofs.Common.{rules, sym, ◌∙◌}
use Rattle.std.proofs.Math.Path.{ap}
use Rattle.tokens.specs.declared.NotUnits.{NotUnits}
use Rattle.tokens.specs.declared.Class.TheVariants as C
use Rattle.tokens.specs.Text.{start_of}
use Rattle.tokens.specs.Numbers.{units_of}
use Rattle.tokens.specs.laws.NumberLaws.{units_small}
use Rattle.request_format.specs.declared.fields.Field.{Field}
use Rattle.request_format.specs.declared.fields.Shape.{Shape}
use Rattle.request_format.specs.Rows.{rowAt, decimals_of}
use Rattle.request_text.specs.Lines.{fitted, value_of}
use Rattle.request_text.specs.laws.LineLaws.{of_units, value_by}
use Rattle.request_text.proofs.value_of.Goals as goal

told : (shape : Shape) (field minus : ℕ) (word : List ℕ) (row : Field) (found u : Result ℕ NotUnits) → row ≡ rowAt shape field
    → minus ≡ start_of C.Minus word → found ≡ units_of row.2 word → found ≡ u → of_units shape field minus u ≡ value_of shape field word
told shape field minus word row found u e m q w =
    ap (of_units shape field minus) (sym w ∙ q) ∙ ap (λ (f : Field). of_units shape field minus (units_of f.2 word)) e
    ∙ ap (λ (k : ℕ). of_units shape field k (units_of (decimals_of shape field) word)) m ∙ value_by shape field word

pub fit-requires : goal.fit-requires
fit-requires c = units_small _ _ _ (sym c.units_in-found.ensures ∙ c.in-Ok.is)

pub returns-in-Ok : goal.returns-in-Ok
returns-in-Ok c =
    c.fit.ensures ∙ ap (λ (f : Field). fitted c.args.field f.3 c.start-minus.result c.in-Ok.n) c.field_at-row.ensures
    ∙ told _ _ _ _ _ _ _ c.field_at-row.ensures c.start-minus.ensures.0 c.units_in-found.ensures c.in-Ok.is

pub returns-in-Err-NotWhole : goal.returns-in-Err-NotWhole
returns-in-Err-NotWhole c =
    let why : c.units_in-found.result ≡ Err NotUnits.NotWhole = search rules in
    told _ _ _ _ _ _ _ c.field_at-row.ensures c.start-minus.ensures.0 c.units_in-found.ensures why

pub returns-in-Err-NotNumber : goal.returns-in-Err-NotNumber
returns-in-Err-NotNumber c =
    let why : c.units_in-found.result ≡ Err NotUnits.NotNumber = search rules in
    told _ _ _ _ _ _ _ c.field_at-row.ensures c.start-minus.ensures.0 c.units_in-found.ensures why
