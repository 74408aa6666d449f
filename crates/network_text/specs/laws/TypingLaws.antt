-- Laws of a text's lines, one after the other.
use Prim.Native.Nat.{ℕ, zero, suc, ◌+◌, ◌≤◌, ◌<◌}
use Rattle.std.specs.Prelude.{◌≡◌, Bool, true, false, cond, ◌&&◌, eqb, ltb, ℤ, pos, get_or, take, drop, set, replicate, Result, Ok, Err, Option, None, Some, is_ok, is_err}
use Rattle.std.proofs.Math.Path.{refl, ap, subst}
use Rattle.std.proofs.Common.{sym, ◌∙◌, add-zero, arith, le-ltb, ltb-true, ltb-false, length-set, length-append, get_or-append-add}
use mathlib.Core.List.{List, [], ◌∷◌, ◌++◌}
use Rattle.std.proofs.Math.ListN.{length, get_or-append}
use Rattle.request_text.specs.declared.Fault as request
use Rattle.clock_network.specs.declared.stations.Node.{Node}
use Rattle.clock_network.specs.declared.stations.Held.{Held}
use Rattle.clock_network.specs.Held.{blank_node, pick, least64, empty_of, put_of, held_of}
use Rattle.clock_network.specs.laws.HeldLaws.{held-holds}
use Rattle.request_format.specs.declared.fields.Shape.TheVariants as S
use Rattle.tokens.specs.declared.Class.TheVariants as C
use Rattle.tokens.specs.Text.{all_of, lines_of}
use Rattle.request_text.specs.Names.{names, find_in}
use Rattle.request_text.specs.Lines.{said, word_in, after_word, meaning_of}
use Rattle.request_text.specs.laws.LineLaws.{meaning-room}
use Rattle.request_text.specs.laws.TextLineLaws.{few-lines}
use Rattle.request_text.specs.Typing as typing
use Rattle.request_text.specs.laws.TypingLaws.{Noting}
use Rattle.network_text.specs.declared.Fault.{Fault}
use Rattle.network_text.specs.declared.Said.{Said}
use Rattle.network_text.specs.declared.Reading.{Reading}
use Rattle.network_text.specs.Stations as station
use Rattle.network_text.specs.Stations.{station_of}
use Rattle.network_text.specs.Lines.{by_name, told_of}
use Rattle.network_text.specs.Typing.{Listed, taken, faulty, listed_by, noted_of, marks_after, numbers_after, nodes_after, Typing, given, refused, onward, read_lines, marks_before, typing_of, eclipse_in, answer_of, held, held_from, numbers_from}

-- ---- the list

-- one more station, stored where it fits
abbrev pub add_of : Held → Node → Held
add_of h n = record { nodes = cond (ltb h.count 64) (set h.nodes h.count n) h.nodes; count = h.count + 1 }

abbrev pub heldAfter : Result Said Fault → Held → Held
heldAfter (Ok (Said.Request line)) h = h
heldAfter (Ok (Said.Station n)) h = add_of h n
heldAfter (Err f) h = h

module _ (l : List Node) (n : Node) where
  -- the places before the new one
  before : (i : ℕ) → i ≤ length l → held_of (l ++ n ∷ []) i ≡ record { nodes = (held_of l i).nodes; count = length l + 1 }
  unfolding held_of
  before zero h = ap empty_of (length-append l (n ∷ []))
  before (suc i) h =
      ap (λ g. put_of g i (get_or (l ++ n ∷ []) i blank_node)) (before i (omega arith))
      ∙ ap (λ x. put_of (record { nodes = (held_of l i).nodes; count = length l + 1 }) i x) (get_or-append l (n ∷ []) blank_node i (omega arith))

  held-suc : (m : List Node) (i : ℕ) → held_of m (suc i) ≡ put_of (held_of m i) i (get_or m i blank_node)
  unfolding held_of
  held-suc m i = refl

  least-low : (k : ℕ) → k ≤ 64 → least64 k ≡ k
  least-low k h = by (ltb k 64) refl
    where
      by : (b : Bool) → ltb k 64 ≡ b → pick b k 64 ≡ k
      by true e = refl
      by false e = omega (arith, ltb-false k 64 e)

  least-high : (k : ℕ) → 64 ≤ k → least64 k ≡ 64
  least-high k h = rw (le-ltb k 64 h)

  last : get_or (l ++ n ∷ []) (length l) blank_node ≡ n
  last = ap (λ i. get_or (l ++ n ∷ []) i blank_node) (sym (add-zero (length l))) ∙ get_or-append-add l (n ∷ []) 0 blank_node

  -- a list of c stations and one more
  abbrev added : ℕ → Held → Held
  added c h = record { nodes = cond (ltb c 64) (set h.nodes c n) h.nodes; count = c + 1 }

  pub held_more : add_of (held l) n ≡ held (l ++ n ∷ [])
  held_more = ap (λ c. added c (held l)) (held-holds l).count ∙ by (ltb (length l) 64) refl
    where
      one : length (l ++ n ∷ []) ≡ suc (length l)
      one = length-append l (n ∷ []) ∙ omega arith

      by : (b : Bool) → ltb (length l) 64 ≡ b → added (length l) (held l) ≡ held (l ++ n ∷ [])
      by true e =
          let h = ltb-true (length l) 64 e in
          let stored : added (length l) (held l) ≡ record { nodes = set (held l).nodes (length l) n; count = length l + 1 } = rw e in
          stored ∙ ap (λ i. record { nodes = set (held_of l i).nodes (length l) n; count = length l + 1 }) (least-low (length l) (omega arith))
          ∙ sym (ap (held_of (l ++ n ∷ [])) (least-low (length (l ++ n ∷ [])) (omega (arith, one)) ∙ one) ∙ held-suc (l ++ n ∷ []) (length l)
          ∙ ap (put_of (held_of (l ++ n ∷ []) (length l)) (length l)) last
          ∙ ap (λ g. put_of g (length l) n) (before (length l) (omega arith)))
      by false e =
          let h = ltb-false (length l) 64 e in
          let counted : added (length l) (held l) ≡ record { nodes = (held l).nodes; count = length l + 1 } = rw e in
          counted ∙ ap (λ i. record { nodes = (held_of l i).nodes; count = length l + 1 }) (least-high (length l) h)
          ∙ sym (ap (held_of (l ++ n ∷ [])) (least-high (length (l ++ n ∷ [])) (omega (arith, one))) ∙ before 64 h)

pub held_after : (told : Result Said Fault) (l : List Node) → heldAfter told (held l) ≡ held (nodes_after told l)
held_after (Ok (Said.Request line)) l = refl
held_after (Ok (Said.Station n)) l = held_more l n
held_after (Err f) l = refl

pub nodes_more : (told : Result Said Fault) (l : List Node) → length (nodes_after told l) ≤ length l + 1
nodes_more (Ok (Said.Request line)) l = omega arith
nodes_more (Ok (Said.Station n)) l = omega (arith, length-append l (n ∷ []))
nodes_more (Err f) l = omega arith

-- what taking line i answers, and the stations, marks and numbers after it
abbrev pub answer_by : Listed → ℕ → Result Unit (ℕ × Fault)
answer_by taken i = Ok tt
answer_by (faulty f) i = Err (i, f)

abbrev pub taken_of : Result Said Fault → ℕ → List ℕ → Held → Reading
taken_of told i marks h = record { answer = answer_by (noted_of told marks) i; held = heldAfter told h }

abbrev Taking : Result Said Fault → ℕ → Held → List ℕ → List ℤ → Reading → List ℕ → List ℤ → Type 0
Taking told i h marks ns r new after = (r ≡ taken_of told i marks h) × ((new ≡ marks_after told marks) × (after ≡ numbers_after told marks ns))

module _ (l : List ℕ) (told : Result Said Fault) (is : told ≡ told_of l) (i : ℕ) (h : Held) (marks : List ℕ) (ns : List ℤ) where
  as-told : (x : Result Said Fault) (r : Reading) (new : List ℕ) (after : List ℤ) → told ≡ x → Taking x i h marks ns r new after → Taking (told_of l) i h marks ns r new after
  as-told x r new after e t = subst (λ (y : Result Said Fault). Taking y i h marks ns r new after) (sym e ∙ is) t

  pub take-number : (line : Result (Option (ℕ × ℤ)) request.Fault) → told ≡ (Ok (Said.Request line)) → (noted : Result Unit request.Fault) (new : List ℕ) (after : List ℤ) → Noting line marks ns noted new after
      → (answer : Result Unit (ℕ × Fault)) → answer ≡ answer_by (listed_by noted) i → Taking (told_of l) i h marks ns (record { answer = answer; held = h }) new after
  take-number line e noted new after n answer q =
      as-told (Ok (Said.Request line)) _ new after e (ap (λ (a : Result Unit (ℕ × Fault)). record { answer = a; held = h }) (q ∙ ap (λ (m : Result Unit request.Fault). answer_by (listed_by m) i) n.0), n.1)

  pub take-station : (n : Node) (g : Held) → told ≡ (Ok (Said.Station n)) → g ≡ add_of h n → Taking (told_of l) i h marks ns (record { answer = Ok tt; held = g }) marks ns
  take-station n g e q = as-told (Ok (Said.Station n)) _ marks ns e (ap (λ (x : Held). record { answer = Ok tt; held = x }) q, (refl, refl))

  pub take-faulty : (f : Fault) → told ≡ (Err f) → Taking (told_of l) i h marks ns (record { answer = Err (i, f); held = h }) marks ns
  take-faulty f e = as-told (Err f) _ marks ns e (refl, (refl, refl))

-- ---- a line that gives a number

abbrev pub InRoom : ℕ → Result Said Fault → Type 0
InRoom n (Ok (Said.Request line)) = typing.InRoom n line
InRoom n (Ok (Said.Station x)) = Unit {0}
InRoom n (Err f) = Unit {0}

module _ (m : ℕ) where
  either : (b : Bool) (x y : Result Said Fault) → InRoom m x → InRoom m y → InRoom m (cond b x y)
  either true x y p q = p
  either false x y p q = q

  -- a station's line gives none
  onward-room : (x : Result ℤ Fault) (r : Result Said Fault) → InRoom m r → InRoom m (station.onward x r)
  onward-room (Ok z) r p = p
  onward-room (Err f) r p = tt

  words-room : (n k : ℕ) (vs : List ℤ) (s : List ℕ) → InRoom m (station.words_from n k vs s)
  unfolding station.words_from
  words-room zero k vs s = either (all_of C.Blank s) _ _ tt tt
  words-room (suc n) k vs s = onward-room (station.word_of k (word_in s)) _ (words-room n (k + 1) _ (after_word s))

  station-room : (s : List ℕ) → InRoom m (station_of s)
  unfolding station.station_of
  station-room s = words-room 6 0 [] s

  pub told-room : (l : List ℕ) (told : Result Said Fault) → told ≡ told_of l → m ≡ 30 → InRoom m told
  unfolding told_of
  told-room l told e c = subst (InRoom m) (sym e) (by (find_in (names S.Eclipse) 0 (said l)))
    where
      number : InRoom m (Ok (Said.Request (meaning_of S.Eclipse l)))
      number = meaning-room S.Eclipse l (meaning_of S.Eclipse l) m refl c

      by : (f : Option (ℕ × ℕ)) → InRoom m (by_name (said l) (meaning_of S.Eclipse l) f)
      by None = number
      by (Some (k, n)) = either (eqb k 22) _ _ (station-room (drop n (said l))) (either (ltb 22 k && ltb k 27) _ _ tt number)

-- ---- the lines one after the other

pub read-end : (i : ℕ) (ns : List ℤ) (marks : List ℕ) (l : List Node)
    → read_lines [] i ns marks l ≡ onward (listed_by (typing.missing 0 (take (typing.required S.Eclipse) marks))) i (given ns l)
unfolding read_lines
read-end i ns marks l = refl

pub read-line : (x : List ℕ) (xs : List (List ℕ)) (i : ℕ) (ns : List ℤ) (marks : List ℕ) (l : List Node)
    → read_lines (x ∷ xs) i ns marks l
    ≡ onward (noted_of (told_of x) marks) i (read_lines xs (i + 1) (numbers_after (told_of x) marks ns) (marks_after (told_of x) marks) (nodes_after (told_of x) l))
unfolding read_lines
read-line x xs i ns marks l = refl

-- the lines before those that are left were taken, and left these marks, numbers and stations; the next is line i
pub record Walked (text : List ℕ) (marks : List ℕ) (ns : List ℤ) (h : Held) (left : List (List ℕ)) (i : ℕ) : Type 0 where
  pub nodes : List Node
  pub reading : typing_of text ≡ read_lines left i ns marks nodes
  pub holding : h ≡ held nodes
  pub few : length nodes < i
  pub lines : i + length left ≤ length text + 1
  pub marked : length marks ≡ 30
  pub fields : length ns ≡ 30

pub walked_start : (text marks : List ℕ) (ns : List ℤ) (h : Held) (left : List (List ℕ)) → marks ≡ marks_before → ns ≡ replicate 30 (pos 0)
    → h ≡ empty_of 0 → left ≡ lines_of text → Walked text marks (set ns 29 (pos 16)) h left 1
unfolding typing_of held_of
walked_start text marks ns h left m n e l =
    record {
      nodes = [];
      reading = rw (m, n, l);
      holding = e;
      few = omega arith;
      lines = rw l (omega (arith, few-lines text));
      marked = ap length m;
      fields = length-set ns 29 (pos 16) ∙ ap length n;
    }

-- one more can be counted
pub walked_count : (text marks : List ℕ) (ns : List ℤ) (h : Held) (left : List (List ℕ)) (i : ℕ) → Walked text marks ns h left i → h.count < i
walked_count text marks ns h left i w = omega (arith, w.few, ap (λ (g : Held). g.count) w.holding, (held-holds w.nodes).count)

-- a text without a fault, its numbers and its stations
pub record Whole (text : List ℕ) (h : Held) (found : List ℤ) : Type 0 where
  pub nodes : List Node
  pub holding : h ≡ held nodes
  pub reading : typing_of text ≡ given found nodes

abbrev pub Read : List ℕ → Result Unit (ℕ × Fault) → Held → List ℤ → Type 0
Read text (Ok tt) h found = Whole text h found
Read text (Err (i, f)) h found = typing_of text ≡ refused i f

module _ (text marks : List ℕ) (ns : List ℤ) (h : Held) (left : List (List ℕ)) (i : ℕ) (w : Walked text marks ns h left i) where
  at-end : left ≡ [] → typing_of text ≡ onward (listed_by (typing.missing 0 (take 29 marks))) i (given ns w.nodes)
  at-end e = w.reading ∙ ap (λ (x : List (List ℕ)). read_lines x i ns marks w.nodes) e ∙ read-end i ns marks w.nodes

  -- by what its marks answer
  pub read-end-by : left ≡ [] → (answer : Result Unit (ℕ × Fault)) → answer ≡ answer_by (listed_by (typing.missing 0 (take 29 marks))) i → Read text answer h ns
  read-end-by e answer q = subst (λ (a : Result Unit (ℕ × Fault)). Read text a h ns) (sym q) (by (listed_by (typing.missing 0 (take 29 marks))) (at-end e))
    where
      by : (m : Listed) → typing_of text ≡ onward m i (given ns w.nodes) → Read text (answer_by m i) h ns
      by taken t = record { nodes = w.nodes; holding = w.holding; reading = t }
      by (faulty f) t = t

  -- the line that stands there, and those after it
  module _ (line : List ℕ) (next : List (List ℕ)) (b : left ≡ line ∷ next) where
    abbrev pub told : Result Said Fault
    told = told_of line

    abbrev rest : Typing
    rest = read_lines next (i + 1) (numbers_after told marks ns) (marks_after told marks) (nodes_after told w.nodes)

    at-line : typing_of text ≡ onward (noted_of told marks) i rest
    at-line = w.reading ∙ ap (λ (x : List (List ℕ)). read_lines x i ns marks w.nodes) b ∙ read-line line next i ns marks w.nodes

    -- by what taking it answers
    pub line_refused : (r : Result Unit (ℕ × Fault)) (g : Held) (found : List ℤ) → r ≡ answer_by (noted_of told marks) i → is_err r ≡ true
        → Read text r g found
    line_refused r g found e t = subst (λ (a : Result Unit (ℕ × Fault)). Read text a g found) (sym e) (by (noted_of told marks) at-line (sym (ap is_err e) ∙ t))
      where
        by : (m : Listed) → typing_of text ≡ onward m i rest → is_err (answer_by m i) ≡ true → Read text (answer_by m i) g found
        by taken p q = absurd cc
        by (faulty f) p q = p

    listed : (m : Listed) → is_err (answer_by m i) ≡ false → m ≡ taken
    listed taken q = refl
    listed (faulty f) q = absurd cc

    pub line_taken : (new : List ℕ) (after : List ℤ) (r : Result Unit (ℕ × Fault)) (g : Held) → r ≡ answer_by (noted_of told marks) i → is_err r ≡ false
        → g ≡ heldAfter told h
        → new ≡ marks_after told marks → after ≡ numbers_after told marks ns → length new ≡ 30 → length after ≡ 30 → Walked text new after g next (i + 1)
    line_taken new after x g e t s p r lm la =
        record {
          nodes = nodes_after told w.nodes;
          reading = at-line ∙ ap (λ (m : Listed). onward m i rest) (listed (noted_of told marks) (sym (ap is_err e) ∙ t)) ∙ rw (p, r);
          holding = s ∙ ap (heldAfter told) w.holding ∙ held_after told w.nodes;
          few = omega (arith, w.few, nodes_more told w.nodes);
          lines = omega (arith, w.lines, ap (λ (l : List (List ℕ)). length l) b);
          marked = lm;
          fields = la;
        }

-- ---- what is promised

no_stations : (i : ℕ) (f : Fault) → empty_of 0 ≡ held_from (refused i f)
unfolding held_from held_of
no_stations i f = refl

module _ (text : List ℕ) (r : Result Unit (ℕ × Fault)) (h : Held) (found old : List ℤ) (l : Read text r h found) where
  abbrev Promised : Held → List ℤ → Type 0
  Promised g new = ((r ≡ answer_of (typing_of text)) × (g ≡ held_from (typing_of text))) × (new ≡ numbers_from (typing_of text) old)

  pub network-typed : is_ok r ≡ true → (new : List ℤ) → new ≡ eclipse_in found → Promised h new
  unfolding held_from
  network-typed t new q = by r refl t
    where
      by : (x : Result Unit (ℕ × Fault)) → r ≡ x → is_ok x ≡ true → Promised h new
      by (Ok u) e y = let w = subst (λ (x : Result Unit (ℕ × Fault)). Read text x h found) e l in rw (e, w.reading) ((refl, w.holding), q)
      by (Err x) e y = absurd cc

  pub network-refused : is_ok r ≡ false → Promised (empty_of 0) old
  network-refused t = by r refl t
    where
      by : (x : Result Unit (ℕ × Fault)) → r ≡ x → is_ok x ≡ false → Promised (empty_of 0) old
      by (Ok u) e y = absurd cc
      by (Err (i, f)) e y = let t = subst (λ (x : Result Unit (ℕ × Fault)). Read text x h found) e l in rw (e, t) ((refl, no_stations i f), refl)
