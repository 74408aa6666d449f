-- The name is found in the table of a request, or nowhere.
use Rattle.std.specs.Prelude.{Ok}
use Rattle.std.proofs.Common.{sym, ◌∙◌}
use Rattle.std.proofs.Math.Path.{ap}
use Rattle.request_format.specs.declared.fields.Shape.TheVariants as S
use Rattle.request_text.specs.laws.NameLaws.{found_at}
use Rattle.network_text.specs.declared.Said.TheVariants as Said
use Rattle.network_text.specs.laws.LineLaws.{told-nowhere, told-station, told-unknown, told-number}
use Rattle.network_text.proofs.tell.Goals as goal

pub returns-in_default : goal.returns-in_default
returns-in_default c =
    ap (λ l. Ok (Said.Request l)) c.meaning.ensures ∙ told-nowhere _ _ c.said-said.ensures _ c.find.ensures c.in_default.is

pub slice_bounds-of_station-count : goal.slice_bounds-of_station-count
slice_bounds-of_station-count c = (found_at S.Eclipse _ _ _ (sym c.find.ensures ∙ c.in-Some.is)).1

pub slice_bounds-of_station-start : goal.slice_bounds-of_station-start
slice_bounds-of_station-start c = (found_at S.Eclipse _ _ _ (sym c.find.ensures ∙ c.in-Some.is)).1

pub returns-then-field-eq22 : goal.returns-then-field-eq22
returns-then-field-eq22 c =
    c.of_station.ensures ∙ told-station _ _ c.said-said.ensures _ c.find.ensures _ _ c.in-Some.is c.if-field-eq22.true

pub returns-then-field : goal.returns-then-field
returns-then-field c =
    told-unknown _ _ c.said-said.ensures _ c.find.ensures _ _ c.in-Some.is c.if-field-eq22.false c.if-field.true

pub returns : goal.returns
returns c =
    ap (λ l. Ok (Said.Request l)) c.meaning-2.ensures
    ∙ told-number _ _ c.said-said.ensures _ c.find.ensures _ _ c.in-Some.is c.if-field-eq22.false c.if-field.false
