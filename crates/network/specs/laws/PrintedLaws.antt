-- What is printed, part by part.
use Rattle.std.specs.Prelude.{ℕ, ◌≤◌, ◌<◌, min, List, [], ◌∷◌, ◌++◌, ℤ, pos, length, get_or, take, Result, Ok, Err}
use Rattle.std.proofs.Math.Path.{◌≡◌, refl, sym, ap, subst}
use Rattle.std.proofs.Common.{ap₂, ◌∙◌, append-nil, to_z, of_z, arith, lt-ltb, le-ltb, get_or-take, length-take-le}
use Rattle.std.specs.Int.{w32}
use Rattle.sine_table.specs.Table.{Sines}
use Rattle.sine_table.specs.laws.RoomLaws.{filled-sines}
use Rattle.sheet_types.specs.declared.refusals.Refusal.{Refusal}
use Rattle.sheet_types.specs.Refusals.{andThen}
use Rattle.requests.specs.Admission.{sines_after}
use Rattle.sheet_format.specs.StoredSeconds.{second_of}
use Rattle.clock_network.specs.Defined.{earliestOf}
use Rattle.clock_network.specs.declared.stations.Node.{Node}
use Rattle.clock_network.specs.Held.{blank_node}
use Rattle.clock_network.specs.Nodes.{number_of}
use Rattle.clock_network.specs.declared.checks.Eclipse.{Eclipse}
use Rattle.clock_network.specs.CheckLaws.{AllWithin, at_most, all-within}
use Rattle.networks.specs.Network as network
use Rattle.clock_network.specs.Checks.{eclipse_of, checked}
use Rattle.networks.specs.Network.{tos_of, shape_checked, admitted, answer_to, steps_for, sines_for}
use Rattle.networks.specs.Enters.{never}
use Rattle.decimal_text.specs.Decimals.{decimal, signed}
use Rattle.decimal_text.specs.Patterns.{piece, filled}
use Rattle.decimal_text.specs.Rows.{rows}
use Rattle.decimal_text.specs.Texts.{letters, Put}
use Rattle.station.specs.declared.Station.{Station}
use Rattle.listing_lines.specs.declared.clock.Altitude.{Altitude}
use Rattle.listing_lines.specs.Lines.{refusal_line}
use Rattle.program_io.specs.Inputs.{Read, zeros}
use Rattle.program_io.specs.Outputs.{Sent, to_output, to_error}
use Rattle.program_io.proofs.laws.InputLaws.{read_same}
use Rattle.program_io.specs.laws.OutputLaws.{put-cut}
use Rattle.network_text.specs.declared.Fault.{Fault}
use Rattle.network_text.specs.Typing.{Typing, given, refused, typing_of, answer_of, held, held_from, numbers_from}
use Rattle.network.specs.Printed.{station_line, station_lines, sun_at, sun_text, to_line, to_text, first_line, named_text, answer_by, answer_text, fault_text, output_by, output, error_by, error}

-- ---- the lines of the stations

-- line k of the first n stations that are held
abbrev pub line_at : List Node → ℕ → List ℕ → ℕ → List ℕ
line_at nodes n ss k = station_line (number_of (get_or (take n nodes) k blank_node)) (get_or ss k 0)

pub lines-all : (nodes : List Node) (n : ℕ) (ss : List ℕ) → n ≤ length nodes → rows (line_at nodes n ss) n ≡ station_lines (take n nodes) ss
unfolding station_lines
lines-all nodes n ss h = ap (rows (line_at nodes n ss)) (sym (length-take-le n nodes h))

pub station-filled : (z : ℤ) → filled (z ∷ []) 0 (letters "station # steps ") ≡ letters "station " ++ signed z ++ letters " steps "
unfolding filled piece
station-filled z = refl

-- ---- the first

pub to-filled : (z : ℤ) → filled (z ∷ []) 0 (letters " to #") ≡ letters " to " ++ signed z
unfolding filled piece
to-filled z = ap (λ l. letters " to " ++ l) (append-nil (signed z))

-- its parts: the second, the Sun, the end of the line
pub to-line : (e : Eclipse) (s : Station) (to : ℕ) (z : ℤ) (x : Altitude) → z ≡ second_of to → x ≡ sun_at e s z
    → filled (z ∷ []) 0 (letters " to #") ++ sun_text x ++ letters "\n" ≡ to_line e s to
unfolding to_line
to-line e s to z x p q =
    ap₂ (λ a b. a ++ sun_text b ++ letters "\n") (to-filled z ∙ ap (λ k. letters " to " ++ signed k) p) (q ∙ ap (sun_at e s) p)

module _ (e : Eclipse) (nodes : List Node) (tos : List ℕ) (named best : ℕ) (q : best ≡ earliestOf tos never) where
  first_by : (letters "first " ++ decimal named) ++ to_text e (take (length tos) nodes) tos best ≡ first_line e (take (length tos) nodes) named tos
  unfolding first_line
  first_by = ap (λ k. (letters "first " ++ decimal named) ++ to_text e (take (length tos) nodes) tos k) q

  pub first-none : length tos ≤ best → (letters "first " ++ decimal named) ++ letters "\n" ≡ first_line e (take (length tos) nodes) named tos
  first-none h = sym (ap (λ t. (letters "first " ++ decimal named) ++ t) none) ∙ first_by
    where
      none : to_text e (take (length tos) nodes) tos best ≡ letters "\n"
      none = rw (le-ltb best (length tos) h)

  pub first_some : best < length tos → (s : Station) (to : ℕ) → s ≡ (get_or nodes best blank_node).station → to ≡ get_or tos best 0
      → (letters "first " ++ decimal named) ++ to_line e s to ≡ first_line e (take (length tos) nodes) named tos
  first_some h s to p r = ap (λ t. (letters "first " ++ decimal named) ++ t) (sym some) ∙ first_by
    where
      some : to_text e (take (length tos) nodes) tos best ≡ to_line e s to
      some = rw (lt-ltb best (length tos) h, get_or-take (length tos) nodes best blank_node h, p, r)

-- of the first n of some numbers
pub first_as : (e : Eclipse) (nodes : List Node) (tos : List ℕ) (n named : ℕ) (ts : List ℕ) → n ≤ length tos → take n tos ≡ ts
    → first_line e (take (length (take n tos)) nodes) named (take n tos) ≡ first_line e (take n nodes) named ts
first_as e nodes tos n named ts h q =
    ap (λ k. first_line e (take k nodes) named (take n tos)) (length-take-le n tos h) ∙ ap (first_line e (take n nodes) named) q

-- ---- a list that has an answer

within : (c d : Result Unit Refusal) → andThen c d ≡ Ok tt → (c ≡ Ok tt) × (d ≡ Ok tt)
within (Ok tt) d e = (refl, e)
within (Err r) d e = let z : ◌≡◌ {A = ℕ} 0 1 = cc in absurd (omega arith)

module _ (sines steps : List ℕ) (ns : List ℤ) (l : List Node) (n : ℕ) where
  module _ (e : answer_to ns l sines steps ≡ Ok n) where
    admission : admitted ns l sines steps ≡ Ok tt
    unfolding answer_to
    admission = by (admitted ns l sines steps) e
      where
        by : (c : Result Unit Refusal) → network.answer_by c (eclipse_of ns) l ≡ Ok n → c ≡ Ok tt
        by (Ok tt) q = refl
        by (Err r) q = let z : ◌≡◌ {A = ℕ} 0 1 = cc in absurd (omega arith)

    named-checked : checked (eclipse_of ns) l ≡ Ok tt
    unfolding admitted
    named-checked =
        let a = within (shape_checked ns steps) _ admission in
        (within (checked (eclipse_of ns) l) _ a.1).0

    pub named-sines : Sines (sines_for ns l sines steps)
    unfolding sines_for
    named-sines = subst (λ (c : Result Unit Refusal). Sines (sines_after c sines)) (sym admission) (filled-sines sines)

    named-text : named_text (eclipse_of ns) n (tos_of (eclipse_of ns) l) l (steps_for ns l sines steps) ≡ answer_text sines steps ns l
    unfolding answer_text
    named-text = ap (λ a. answer_by a (eclipse_of ns) (tos_of (eclipse_of ns) l) l (steps_for ns l sines steps)) (sym e)

    -- of what is held
    pub named-as : (x : Eclipse) (m : List Node) (ss : List ℕ) → x ≡ eclipse_of ns → m ≡ l → ss ≡ steps_for ns l sines steps → named_text x n (tos_of x m) m ss ≡ answer_text sines steps ns l
    named-as x m ss p q r =
        ap (λ y. named_text y n (tos_of y m) m ss) p ∙ ap (λ y. named_text (eclipse_of ns) n (tos_of (eclipse_of ns) y) y ss) q ∙ ap (named_text (eclipse_of ns) n (tos_of (eclipse_of ns) l) l) r ∙ named-text

    pub named-within : (x : Eclipse) (m : List Node) → x ≡ eclipse_of ns → m ≡ l → (length m ≤ 64) × AllWithin x m
    named-within x m p q = rw (p, q) (at_most (eclipse_of ns) l named-checked, all-within (eclipse_of ns) l named-checked)

pub refused_text : (sines steps : List ℕ) (ns : List ℤ) (l : List Node) (r : Refusal) → answer_to ns l sines steps ≡ Err r → refusal_line r.number r.place ≡ answer_text sines steps ns l
unfolding answer_text
refused_text sines steps ns l r e = ap (λ a. answer_by a (eclipse_of ns) (tos_of (eclipse_of ns) l) l (steps_for ns l sines steps)) (sym e)

-- ---- a text

module _ (text : List ℕ) where
  module _ (long : 65536 < length text) where
    pub long-output : [] ≡ output text
    unfolding output
    long-output = rw (lt-ltb 65536 (length text) long)

    pub long-error : letters "the text has more than 65,536 bytes\n" ≡ error text
    unfolding error
    long-error = rw (lt-ltb 65536 (length text) long)

  module _ (short : length text ≤ 65536) where
    output-is : output text ≡ output_by (typing_of text)
    unfolding output
    output-is = rw (le-ltb 65536 (length text) short)

    error-is : error text ≡ error_by text (typing_of text)
    unfolding error
    error-is = rw (le-ltb 65536 (length text) short)

    pub refused-streams : (i : ℕ) (f : Fault) → Err (i, f) ≡ answer_of (typing_of text) → ([] ≡ output text) × (fault_text text i f ≡ error text)
    refused-streams i f e = by (typing_of text) refl e
      where
        by : (x : Typing) → typing_of text ≡ x → Err (i, f) ≡ answer_of x → ([] ≡ output text) × (fault_text text i f ≡ error text)
        by (given ns l) q a = let z : ◌≡◌ {A = ℕ} 0 1 = cc in absurd (omega arith)
        by (refused j g) q a =
            let p : ◌≡◌ {A = ℕ × Fault} (i, f) (j, g) = cc in
            let k : i ≡ j = ap (λ (x : ℕ × Fault). x.0) p in
            let h : f ≡ g = ap (λ (x : ℕ × Fault). x.1) p in
            (sym (output-is ∙ ap output_by q), sym (error-is ∙ ap (error_by text) q ∙ rw (k, h)))

    -- the numbers and the stations that it gives
    pub record Given (old : List ℤ) : Type 0 where
      pub list : List Node
      pub stations : held_from (typing_of text) ≡ held list
      pub printed : answer_text (zeros 901) (zeros 64) (numbers_from (typing_of text) old) list ≡ output text
      pub silent : [] ≡ error text

    pub given-streams : (old : List ℤ) → (Ok tt) ≡ answer_of (typing_of text) → Given old
    unfolding held_from
    given-streams old e = by (typing_of text) refl e
      where
        by : (x : Typing) → typing_of text ≡ x → (Ok tt) ≡ answer_of x → Given old
        by (refused j g) q a = let z : ◌≡◌ {A = ℕ} 0 1 = cc in absurd (omega arith)
        by (given ns l) q a =
            record {
              list = l;
              stations = ap held_from q;
              printed = ap (λ x. answer_text (zeros 901) (zeros 64) (numbers_from x old) l) q ∙ sym (output-is ∙ ap output_by q);
              silent = sym (error-is ∙ ap (error_by text) q);
            }

-- ---- one of the two outputs has nothing

module _ (text x : List ℕ) where
  pub to-error : [] ≡ output text → x ≡ error text
      → (x ≡ output text ++ error text) × Sent (pos 2) (output text ++ error text) (output text) (error text)
  to-error o e =
      let w : error text ≡ output text ++ error text = ap (λ l. l ++ error text) o in
      (e ∙ w, to_error refl o (sym w))

  pub to-output : x ≡ output text → [] ≡ error text
      → (x ≡ output text ++ error text) × Sent (pos 1) (output text ++ error text) (output text) (error text)
  to-output o e =
      let w : output text ≡ output text ++ error text = sym (append-nil (output text)) ∙ ap (λ l. output text ++ l) e in
      (o ∙ w, to_output refl (sym w) e)

-- ---- what was read

-- a text that fills the array is too long, and so is the whole input; any other was read whole
module _ (array : List ℕ) (n : ℕ) (c : n ≤ length array) (l : length array ≡ 65537) (input : List ℕ)
    (q : Read input array n) where
  same-output : output (take n array) ≡ output input
  same-output = read_same input array n q output [] (λ s k. sym (long-output s (omega arith))) c

  same-error : error (take n array) ≡ error input
  same-error =
      read_same input array n q error (letters "the text has more than 65,536 bytes\n")
      (λ s k. sym (long-error s (omega arith))) c

  -- a field of 32 bits, read from one struct and stored in another
  pub text_out : (d : ℤ) (old new : List ℕ) (end r : ℕ) → length old ≡ 65623
      → Put old 0 (output (take n array) ++ error (take n array)) new end
      → Sent d (output (take n array) ++ error (take n array)) (output (take n array)) (error (take n array))
      → r ≡ min end (length new)
      → Sent (to_z w32 (of_z w32 d)) (take r new) (take 65623 (output input)) (take 65623 (error input))
  text_out d old new end r k p s e = by s
    where
      cut : take r new ≡ take 65623 (output (take n array) ++ error (take n array))
      cut =
          (put-cut (output (take n array) ++ error (take n array)) old new end p (omega arith) r e).0
          ∙ ap (λ j. take j (output (take n array) ++ error (take n array))) k

      by : Sent d (output (take n array) ++ error (take n array)) (output (take n array)) (error (take n array))
          → Sent (to_z w32 (of_z w32 d)) (take r new) (take 65623 (output input)) (take 65623 (error input))
      by (to_output a o m) =
          to_output (ap (λ z. to_z w32 (of_z w32 z)) a) (cut ∙ ap (take 65623) (o ∙ same-output))
          (ap (take 65623) (m ∙ same-error))
      by (to_error a o m) =
          to_error (ap (λ z. to_z w32 (of_z w32 z)) a) (ap (take 65623) (o ∙ same-output))
          (cut ∙ ap (take 65623) (m ∙ same-error))
