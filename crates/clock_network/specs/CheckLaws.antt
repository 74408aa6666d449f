-- What callers use of a list's refusals.
--   all-within                              of a list that is not refused, each station's request is within its limits
--   stations-..                             one station more
--   clocks-..                               the ways of 14, 15, 16
--   checked-..                              the ways of a check
use Rattle.std.specs.Prelude.{◌≡◌, refl, Bool, true, false, cond, ◌&&◌, ℕ, zero, suc, ◌+◌, ◌*◌, ◌≤◌, ◌<◌, ltb, leb, ℤ, get_or, drop, Result, Ok, Err}
use Rattle.std.proofs.Common.{sym, ap, ◌∙◌, arith, add-one, zero-add, drop_of_length-le, drop-cons}
use mathlib.Core.List.{List, [], ◌∷◌}
use borrow.Author.Tests.{lt-ltb, le-ltb, ltb-false, le-leb, leb-true}
use Rattle.std.proofs.Math.ListN.{length}
use Rattle.sheet_types.specs.declared.refusals.Refusal.{Refusal}
use Rattle.sheet_types.specs.Refusals.{refusal, andThen}
use Rattle.sheet_types.specs.laws.RefusalLaws.{not_within, both-within, then_within, then_refused}
use Rattle.elements.specs.declared.Body.TheVariants.{Sun}
use Rattle.elements.specs.Stars.{body_checked}
use Rattle.station.specs.Station.{station_checked}
use Rattle.requests.specs.declared.Occultation.{Occultation}
use Rattle.requests.specs.Requests as Requests
use Rattle.requests.specs.Requests.{of_eclipse, window_checked, guard_checked}
use Rattle.requests.specs.RequestLaws.{InLimits, in-limits, checked-order}
use Rattle.clock_network.specs.Defined.{firstRepeat, firstStray, first_lost}
use Rattle.clock_network.specs.laws.DefinedLaws.{first-repeat}
use Rattle.clock_network.specs.declared.stations.Node.{Node}
use Rattle.clock_network.specs.Held.{blank_node}
use Rattle.clock_network.specs.Nodes.{numbers_of, clocks_of}
use Rattle.clock_network.specs.declared.checks.Eclipse.{Eclipse}
use Rattle.clock_network.specs.Checks.{request_of, size_checked, eclipse_checked, at_place, stations_checked, place_checked, clocks_checked, checked}

-- the request that each station would send alone is within its limits
abbrev pub AllWithin : Eclipse → List Node → Type 0
AllWithin e l = (i : ℕ) → i < length l → InLimits (of_eclipse (request_of e (get_or l i blank_node).station))

-- ten times the first place adds nothing
at_first : (c : Result Unit Refusal) → at_place 0 c ≡ c
at_first (Ok tt) = refl
at_first (Err r) = ap (λ (k : ℕ). Err (refusal r.number k)) (zero-add r.place)

-- ---- one station more
module _ (l : List Node) (i : ℕ) (h : i < length l) where
  abbrev here : Result Unit Refusal
  here = station_checked (get_or l i blank_node).station

  stations-step : stations_checked i (drop i l) ≡ andThen (at_place i here) (stations_checked (i + 1) (drop (i + 1) l))
  stations-step = rw (drop-cons l i blank_node h, add-one i)

  pub stations-refused : (r : Refusal) → here ≡ Err r → stations_checked i (drop i l) ≡ Err (refusal r.number (10 * i + r.place))
  stations-refused r e = stations-step ∙ rw e

  pub stations-more : here ≡ Ok tt → stations_checked i (drop i l) ≡ stations_checked (i + 1) (drop (i + 1) l)
  stations-more e = stations-step ∙ rw e

pub stations-end : (l : List Node) (i : ℕ) → length l ≤ i → stations_checked i (drop i l) ≡ Ok tt
stations-end l i h = rw (drop_of_length-le l h)

-- each station is within its ranges
place_within : (i : ℕ) (c : Result Unit Refusal) → at_place i c ≡ Ok tt → c ≡ Ok tt
place_within i (Ok tt) e = refl
place_within i (Err r) e = absurd (not_within e)

each-station : (i : ℕ) (l : List Node) → stations_checked i l ≡ Ok tt → (k : ℕ) → k < length l → station_checked (get_or l k blank_node).station ≡ Ok tt
each-station i [] e k h = absurd (omega arith)
each-station i (n ∷ l) e zero h = place_within i (station_checked n.station) (both-within (at_place i (station_checked n.station)) (stations_checked (suc i) l) e).0
each-station i (n ∷ l) e (suc k) h = each-station (suc i) l (both-within (at_place i (station_checked n.station)) (stations_checked (suc i) l) e).1 k (omega arith)

-- ---- 14, 15, 16
module _ (ns cs : List ℤ) where
  pub clocks-14 : firstRepeat ns < length ns → clocks_checked ns cs ≡ Err (refusal 14 (firstRepeat ns))
  unfolding clocks_checked
  clocks-14 h = rw (lt-ltb (firstRepeat ns) (length ns) h)

  module _ (a : length ns ≤ firstRepeat ns) where
    -- no number is used twice
    pub once : firstRepeat ns ≡ length ns
    once = omega (arith, (first-repeat ns).within)

    pub clocks-15 : firstStray ns cs < length ns → clocks_checked ns cs ≡ Err (refusal 15 (firstStray ns cs))
    unfolding clocks_checked
    clocks-15 h = rw (le-ltb (firstRepeat ns) (length ns) a, lt-ltb (firstStray ns cs) (length ns) h)

    module _ (b : length ns ≤ firstStray ns cs) where
      pub clocks-16 : first_lost ns cs < length ns → clocks_checked ns cs ≡ Err (refusal 16 (first_lost ns cs))
      unfolding clocks_checked
      clocks-16 h = rw (le-ltb (firstRepeat ns) (length ns) a, le-ltb (firstStray ns cs) (length ns) b, lt-ltb (first_lost ns cs) (length ns) h)

      pub clocks-within : length ns ≤ first_lost ns cs → clocks_checked ns cs ≡ Ok tt
      unfolding clocks_checked
      clocks-within h = rw (le-ltb (firstRepeat ns) (length ns) a, le-ltb (firstStray ns cs) (length ns) b, le-ltb (first_lost ns cs) (length ns) h)

  -- and back: a place that is none
  none_there : (number p n : ℕ) → place_checked number p n ≡ Ok tt → n ≤ p
  none_there number p n e = go (ltb p n) refl e
    where
      go : (b : Bool) → ltb p n ≡ b → ◌≡◌ {A = Result Unit Refusal} (cond b (Err (refusal number p)) (Ok tt)) (Ok tt) → n ≤ p
      go true d h = absurd (not_within h)
      go false d h = ltb-false p n d

  abbrev first-check : Result Unit Refusal
  first-check = place_checked 14 (firstRepeat ns) (length ns)

  abbrev second-check : Result Unit Refusal
  second-check = place_checked 15 (firstStray ns cs) (length ns)

  pub accepted-14 : clocks_checked ns cs ≡ Ok tt → length ns ≤ firstRepeat ns
  unfolding clocks_checked
  accepted-14 e = none_there 14 (firstRepeat ns) (length ns) (both-within first-check _ e).0

  pub accepted-16 : clocks_checked ns cs ≡ Ok tt → length ns ≤ first_lost ns cs
  unfolding clocks_checked
  accepted-16 e = none_there 16 (first_lost ns cs) (length ns) (both-within second-check _ (both-within first-check _ e).1).1

-- ---- 19
pub size_in : (n : ℕ) → ◌≡◌ {A = Result Unit Refusal} (cond (leb 1 n && leb n 64) (Ok tt) (Err (refusal 19 0))) (Ok tt) → (1 ≤ n) × (n ≤ 64)
size_in n e = go (leb 1 n) (leb n 64) refl refl e
  where
    go : (a b : Bool) → leb 1 n ≡ a → leb n 64 ≡ b → ◌≡◌ {A = Result Unit Refusal} (cond (a && b) (Ok tt) (Err (refusal 19 0))) (Ok tt) → (1 ≤ n) × (n ≤ 64)
    go true true p q h = (leb-true 1 n p, leb-true n 64 q)
    go true false p q h = absurd (not_within h)
    go false b p q h = absurd (not_within h)

-- ---- all of them
-- where a request of the first station is refused, so is the list
as_first : (w g b s x y : Result Unit Refusal) (r : Refusal) → andThen w (andThen g (andThen b s)) ≡ Err r
    → andThen (andThen w (andThen g b)) (andThen (andThen s x) y) ≡ Err r
as_first (Err q) g b s x y r e = e
as_first (Ok tt) (Err q) b s x y r e = e
as_first (Ok u) (Ok v) (Err q) s x y r e = e
as_first (Ok u) (Ok v) (Ok w2) s x y r e = rw e

module _ (e : Eclipse) (l : List Node) where
  abbrev alone : ℕ → Occultation
  alone i = of_eclipse (request_of e (get_or l i blank_node).station)

  pub checked-size : (leb 1 (length l) && leb (length l) 64) ≡ false → checked e l ≡ Err (refusal 19 0)
  unfolding checked
  checked-size h = rw h

  module _ (low : 0 < length l) (high : length l ≤ 64) where
    sized : size_checked l ≡ Ok tt
    sized = rw (le-leb 1 (length l) (omega arith), le-leb (length l) 64 high)

    pub checked-alone : (r : Refusal) → Requests.checked (alone 0) ≡ Err r → checked e l ≡ Err r
    unfolding checked
    checked-alone r h = then_within (size_checked l) _ sized ∙ go l low (sym (checked-order (alone 0)) ∙ h)
      where
        go : (k : List Node) → 0 < length k
            → andThen (window_checked e.window) (andThen (guard_checked e.guard) (andThen (body_checked (Sun e.elements)) (station_checked (get_or k 0 blank_node).station))) ≡ Err r
            → andThen (eclipse_checked e) (andThen (stations_checked 0 k) (clocks_checked (numbers_of l) (clocks_of l))) ≡ Err r
        go [] b h = absurd (omega arith)
        go (n ∷ k) b h =
            rw (at_first (station_checked n.station))
            (as_first (window_checked e.window) (guard_checked e.guard) (body_checked (Sun e.elements)) (station_checked n.station) _ _ r h)

    module _ (first : Requests.checked (alone 0) ≡ Ok tt) where
      rest : checked e l ≡ andThen (stations_checked 0 l) (clocks_checked (numbers_of l) (clocks_of l))
      unfolding checked
      rest =
          let w = both-within (window_checked e.window) _ (sym (checked-order (alone 0)) ∙ first) in
          let g = both-within (guard_checked e.guard) _ w.1 in
          let b = both-within (body_checked (Sun e.elements)) _ g.1 in
          then_within (size_checked l) _ sized ∙ rw (w.0, g.0, b.0)

      pub checked-stations : (r : Refusal) → stations_checked 0 l ≡ Err r → checked e l ≡ Err r
      checked-stations r h = rest ∙ then_refused (stations_checked 0 l) _ r h

      pub checked-clocks : stations_checked 0 l ≡ Ok tt → checked e l ≡ clocks_checked (numbers_of l) (clocks_of l)
      checked-clocks h = rest ∙ then_within (stations_checked 0 l) _ h

  -- ---- a list that is not refused
  module _ (ok : checked e l ≡ Ok tt) where
    parts : (size_checked l ≡ Ok tt) × (eclipse_checked e ≡ Ok tt) × (stations_checked 0 l ≡ Ok tt) × (clocks_checked (numbers_of l) (clocks_of l) ≡ Ok tt)
    unfolding checked
    parts =
        let a = both-within (size_checked l) _ ok in
        let b = both-within (eclipse_checked e) _ a.1 in
        let c = both-within (stations_checked 0 l) _ b.1 in
        (a.0, b.0, c.0, c.1)

    pub at_most : length l ≤ 64
    at_most = (size_in (length l) parts.0).1

    pub clocks-accepted : clocks_checked (numbers_of l) (clocks_of l) ≡ Ok tt
    clocks-accepted = parts.3

    pub all-within : AllWithin e l
    all-within i h =
        let w = both-within (window_checked e.window) _ parts.1 in
        let g = both-within (guard_checked e.guard) _ w.1 in
        in-limits (alone i) (checked-order (alone i) ∙ rw (w.0, g.0, g.1) (each-station 0 l parts.2 i h))
