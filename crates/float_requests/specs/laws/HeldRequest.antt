-- The request that the code goes on with, where a unit is too large for 64 bits: its sheet is that of the exact one.
use Rattle.std.specs.Prelude.{◌≡◌, refl, List, ℕ, pos, neg_ℤ, Ok, Result, Err}
use Rattle.std.proofs.Common.{sym, subst, ◌∙◌, arith}
use Rattle.rounding.specs.Limits.{row, first_out_of_range}
use Rattle.sheet_types.specs.declared.refusals.Refusal.{Refusal}
use Rattle.sheet_types.specs.laws.RefusalLaws.{both-within, of_limits_within}
use Rattle.elements.specs.Elements as E
use Rattle.elements.specs.Elements.{elements_checked}
use Rattle.station.specs.declared.Station.{Station}
use Rattle.station.specs.Station as S
use Rattle.station.specs.Station.{station_checked}
use Rattle.station.specs.Sizes.{station_sizes}
use Rattle.requests.specs.declared.Request.{Request}
use Rattle.requests.specs.declared.Occultation.{Occultation}
use Rattle.requests.specs.Requests.{of_eclipse, window_checked, guard_checked, checked}
use Rattle.requests.specs.RequestLaws.{checked-order}
use Rattle.requests.proofs.laws.AdmissionLaws.{admitted-refused}
use Rattle.circumstances.specs.Sheet.{sheet_answer, sheet_buffer, sheet_sines}
use Rattle.circumstances.specs.Demand3.{Claimed}
use Rattle.circumstances.specs.laws.Claims.{sheet-is}
use Rattle.binary64.specs.Doubles.{held}
use Rattle.binary64.specs.laws.HeldLaws.{held_small, row-held}
use Rattle.float_requests.specs.HeldElements.{held_elements, checked-held, same-held}

abbrev pub held_station : Station → Station
held_station s = record { number = s.number; latitude = s.latitude; longitude = held s.longitude; height = s.height; deltat = s.deltat }

unfoldable pub held_request : Request → Request
held_request q =
    record { elements = held_elements q.elements; station = held_station q.station; window = q.window; guard = q.guard; share = q.share }

-- ---- the station
station-held : (s : Station) → station_checked (held_station s) ≡ station_checked s
unfolding S.range_of S.ranges first_out_of_range
station-held s = rw (row-held (row s.longitude (neg_ℤ (pos 180000000)) (pos 180000000)) tt)

-- ---- the request: refused alike, and within its limits the same
module _ (q : Request) where
  pub checked-alike : checked (of_eclipse (held_request q)) ≡ checked (of_eclipse q)
  unfolding held_request
  checked-alike = rw (checked-order (of_eclipse (held_request q)), checked-order (of_eclipse q), checked-held q.elements, station-held q.station)

  pub same-within : checked (of_eclipse q) ≡ Ok tt → held_request q ≡ q
  unfolding held_request
  same-within e =
      let after-window = both-within (window_checked q.window) _ (sym (checked-order (of_eclipse q)) ∙ e) in
      let after-guard = both-within (guard_checked q.guard) _ after-window.1 in
      let both = both-within (elements_checked q.elements) (station_checked q.station) after-guard.1 in
      let sizes = station_sizes q.station (of_limits_within 3 (S.range_of q.station) both.1) in
      rw (same-held q.elements (of_limits_within 2 (E.range_of q.elements) both.0), held_small q.station.longitude (omega (arith, sizes.longitude)))

-- ---- what is promised of a sheet: the answer is r, and these bytes and this buffer are left
abbrev pub Promised : Occultation → (sines old : List ℕ) → Result ℕ Refusal → (new room : List ℕ) → Type 0
Promised o sines old r new room = (r ≡ sheet_answer o sines old)
    × ((new ≡ sheet_buffer o sines old) × ((room ≡ sheet_sines o sines) × Claimed o r new))

module _ (sines old : List ℕ) where
  refused-is : (o : Occultation) (x : Refusal) → checked o ≡ Err x → Promised o sines old (Err x) old sines
  refused-is o x e = sheet-is o sines old (Err x) (sym (admitted-refused o sines x e).0) (Err x) old sines refl refl refl

  pub sheet-held : (q : Request) (r : Result ℕ Refusal) (new room : List ℕ) → Promised (of_eclipse (held_request q)) sines old r new room
      → Promised (of_eclipse q) sines old r new room
  sheet-held q r new room p = by (checked (of_eclipse q)) refl
    where
      by : (c : Result Unit Refusal) → checked (of_eclipse q) ≡ c → Promised (of_eclipse q) sines old r new room
      by (Ok tt) e = subst (λ (x : Request). Promised (of_eclipse x) sines old r new room) (same-within q e) p
      by (Err x) e =
          let this = refused-is (of_eclipse q) x e in
          let that = refused-is (of_eclipse (held_request q)) x (checked-alike q ∙ e) in
          let answer = p.0 ∙ sym that.0 in (
            answer ∙ this.0,
            (
              p.1.0 ∙ sym that.1.0 ∙ this.1.0,
              (p.1.1.0 ∙ sym that.1.1.0 ∙ this.1.1.0, subst (λ (y : Result ℕ Refusal). Claimed (of_eclipse q) y new) (sym answer) this.1.1.1),
            ),
          )
