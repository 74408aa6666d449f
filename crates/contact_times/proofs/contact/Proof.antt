-- `contact_times::contact` meets its contract: the phase's cone, the axis and the place are put together, and the
-- search is that of hundredths.
use mathlib.Core.Path.{◌≡◌, refl, sym, ap, ◌∙◌, subst}
use lib.IntN.{ℤ}
use borrow.Author.Rules.{rules}
use mir.Syntax.{w64}
use mir.Val.{to_z, of_z}
use Rattle.rounding.specs.laws.Code.{read_back, read-size}
use Rattle.sheet_types.specs.declared.phases.Phase.{Phase}
use Rattle.elements.specs.declared.Axis.{Axis}
use Rattle.elements.specs.declared.Cone.{Cone}
use Rattle.station.specs.declared.Place.{Place}
use Rattle.contact_times.specs.declared.hundredths.Crossing.{Crossing}
use Rattle.contact_times.specs.Brackets.{bracket_of}
use Rattle.contact_times.specs.Sizes.{CrossingSizes}
use Rattle.requests.specs.RequestLaws.{InLimits}
use Rattle.rounding.specs.laws.Order.{nat_abs_between}
use Rattle.contact_times.specs.Contacts.{used_guard, crossing}
use Rattle.contact_times.proofs.laws.ContactLaws.{crossing_sizes}
use Rattle.contact_times.proofs.contact.Statement.{statement}
use Rattle.contact_times.proofs.contact.Tie as tie

-- the parts, put together
together : {a b : Axis} {k l : Cone} {p q : Place} (φ : Phase) {g h : ℤ} → a ≡ b → k ≡ l → p ≡ q → g ≡ h
    → ◌≡◌ {A = Crossing} (record { axis = a; cone = k; place = p; phase = φ; guard = g }) (record { axis = b; cone = l; place = q; phase = φ; guard = h })
together φ e f m n = rw (e, f, m, n) refl

same : {c d : Crossing} {f g t u : ℤ} → c ≡ d → f ≡ g → t ≡ u → bracket_of c f t ≡ bracket_of d g u
same e f g = rw (e, f, g) refl

-- what was put together
put : (c : tie.After-used_guard-guard)
    → let a = c.args in InLimits a.o
    → ◌≡◌ {A = Crossing} (record { axis = c.axis_of-axis.result; cone = c.cone_of-cone.result; place = c.geocentric-place.result; phase = a.phase; guard = to_z w64 (of_z w64 c.used_guard-guard.result) }) (crossing a.o a.phase)
put c i =
    let a = c.args in
    let e : c.used_guard-guard.result ≡ used_guard a.o.guard =
    c.used_guard-guard.ensures ∙ ap used_guard (read_back a.o.guard (nat_abs_between a.o.guard 16 i.guard.low i.guard.high) tt) in
    together a.phase c.axis_of-axis.ensures c.cone_of-cone.ensures c.geocentric-place.ensures
    (read_back c.used_guard-guard.result {m = 1000} (rw e (crossing_sizes a.o i a.phase).guard) tt ∙ e)

contact-bracket-requires : tie.Need-contact_bracket-requires
contact-bracket-requires c κs =
    let s = c.before.before.before.before.before.before.before in
    let a = s.args in
    let f = read_back a.from s.requires.2 tt in
    let t = read_back a.to s.requires.3 tt in (
      s.requires.0,
      subst CrossingSizes (sym (put c s.requires.1)) (crossing_sizes a.o s.requires.1 a.phase),
      read-size a.from 10800 s.requires.2 tt,
      read-size a.to 10800 s.requires.3 tt,
      rw (f, t) s.requires.4,
    )

returns : tie.Need-returns
returns c =
    let b = c.before in
    let s = b.before.before.before.before.before.before.before in
    let a = s.args in
    c.contact_bracket.ensures ∙ same (put b s.requires.1) (read_back a.from s.requires.2 tt) (read_back a.to s.requires.3 tt)

pub contact_spec : {M : Type 1} → statement M
contact_spec = tie.close (tie.spec (λ c κs. search rules) (λ c κs. search rules) (λ c κs. search rules) (λ c κs. search rules) contact-bracket-requires returns)
