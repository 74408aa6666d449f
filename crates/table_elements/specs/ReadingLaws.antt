-- A line read word by word.
use Prim.Native.Nat.{ℕ, suc, ◌+◌, ◌-◌, ◌≤◌, ◌<◌}
use Rattle.std.specs.Prelude.{◌≡◌, Bool, true, false, cond, List, [], ◌∷◌, ◌++◌, eqb, ltb, ℤ, pos, length, get_or, take, drop, set, Result, Ok, Err}
use Rattle.std.proofs.Math.Path.{refl, ap}
use Rattle.std.proofs.Common.{sym, ◌∙◌, add-zero, add-one, length-append, length-drop, length-set, take-suc-set, take_all, take_at, length-take-le, drop-cons, drop-drop}
use native.Mathlib.Omega.{arith}
use borrow.Author.Tests.{lt-ltb, le-ltb, ltb-true, ltb-false, eqb-true, ne_eqb}
use Rattle.std.proofs.lemmas.List.Edits.{sets, sets-eq}
use Rattle.tokens.specs.declared.Class.TheVariants as C
use Rattle.tokens.specs.Text.{run_of}
use Rattle.tokens.specs.laws.TextLaws.{run-le, rest-is}
use Rattle.table_elements.specs.declared.typed_rows.Fault.{Fault}
use Rattle.table_elements.specs.declared.typed_rows.Fault.TheVariants as F
use Rattle.table_elements.specs.declared.typed_rows.Word.{Word}
use Rattle.table_elements.specs.Reading.{Said, nothing, row, faulty}
use Rattle.table_elements.specs.Reading.{number_of, words_of, whole, said_by, content_of, line_of, numbers_after}

-- what a line says, without its numbers
abbrev pub answer_of : Said → Result Bool Fault
answer_of nothing = Ok false
answer_of (row ns) = Ok true
answer_of (faulty f) = Err f

-- the same by how many numbers there are
abbrev pub line_with : ℕ → Result Bool Fault
line_with k = cond (eqb k 0) (Ok false) (cond (eqb k 6) (Ok true) (Err F.Fewer))

-- a word's fault, passed on
abbrev pub fault_of : Result ℤ Fault → Result Bool Fault
fault_of (Ok z) = Ok false
fault_of (Err f) = Err f

-- the next word from a place on
abbrev pub next_word : List ℕ → ℕ → Word
next_word s at =
    let from = at + run_of C.Blank (drop at s) in
    record { from = from; end = from + run_of C.Word (drop from s) }

pub next-is : (s : List ℕ) (at gap size : ℕ) → gap ≡ run_of C.Blank (take (length s - at) (drop at s))
    → size ≡ run_of C.Word (take (length s - (at + gap)) (drop (at + gap) s)) → ◌≡◌ {A = Word} (record { from = at + gap; end = at + gap + size }) (next_word s at)
next-is s at gap size e q =
    let g : gap ≡ run_of C.Blank (drop at s) = e ∙ ap (run_of C.Blank) (rest-is s at) in
    let w : size ≡ run_of C.Word (drop (at + gap) s) = q ∙ ap (run_of C.Word) (rest-is s (at + gap)) in
    rw (w, g)

-- where a line is a row, these are its numbers
abbrev pub IsRow : Said → List ℤ → Type 0
IsRow s numbers = (ns : List ℤ) → s ≡ row ns → numbers ≡ ns

-- a fault is no row
faulty_row : {s : Said} {x : Fault} {numbers : List ℤ} → s ≡ faulty x → IsRow s numbers
faulty_row t ns q = let z : ◌≡◌ {A = ℕ} 0 1 = cc in absurd (omega arith)

-- ---- words

module _ (fuel : ℕ) (s t : List ℕ) (n : ℕ) (q : t ≡ drop (run_of C.Blank s) s) (e : n ≡ run_of C.Word t) where
  words-none : n ≡ 0 → words_of (suc fuel) s ≡ []
  unfolding words_of
  words-none h = rw (← q, ← e, h)

  words_next : 0 < n → words_of (suc fuel) s ≡ take n t ∷ words_of fuel (drop n t)
  unfolding words_of
  words_next h = let z : n ≡ 0 → ⊥ = λ x. omega arith in rw (← q, ← e, ne_eqb n 0 z)

said-nil : (ns : List ℤ) → said_by ns [] ≡ whole ns
unfolding said_by
said-nil ns = refl

module _ (ns : List ℤ) (w : List ℕ) (ws : List (List ℕ)) where
  said-faulty : (f : Fault) → number_of w ≡ Err f → said_by ns (w ∷ ws) ≡ faulty f
  unfolding said_by
  said-faulty f e = rw e

  said_more : (z : ℤ) → number_of w ≡ Ok z → 6 ≤ length ns → said_by ns (w ∷ ws) ≡ faulty F.More
  unfolding said_by
  said_more z e h = rw (e, le-ltb (length ns) 6 h)

  said-next : (z : ℤ) → number_of w ≡ Ok z → length ns < 6 → said_by ns (w ∷ ws) ≡ said_by (ns ++ (z ∷ [])) ws
  unfolding said_by
  said-next z e h = rw (e, lt-ltb (length ns) 6 h)

-- ---- a line

-- how many numbers a line has, by what it says
module _ (ns : List ℤ) where
  by_count : (P : Said → Type 0) → (length ns ≡ 0 → P nothing) → (length ns ≡ 6 → P (row ns)) → P (faulty F.Fewer) → P (whole ns)
  by_count P none six other = by (eqb (length ns) 0) refl (eqb (length ns) 6) refl
    where
      by : (a : Bool) → eqb (length ns) 0 ≡ a → (b : Bool) → eqb (length ns) 6 ≡ b → P (cond a nothing (cond b (row ns) (faulty F.Fewer)))
      by true e b q = none (eqb-true (length ns) 0 e)
      by false e true q = six (eqb-true (length ns) 6 q)
      by false e false q = other

  answer-whole : line_with (length ns) ≡ answer_of (whole ns)
  answer-whole = by (eqb (length ns) 0) (eqb (length ns) 6)
    where
      by : (a b : Bool) → cond a (Ok false) (cond b (Ok true) (Err F.Fewer)) ≡ answer_of (cond a nothing (cond b (row ns) (faulty F.Fewer)))
      by true b = refl
      by false true = refl
      by false false = refl

  row-whole : (numbers : List ℤ) → length numbers ≡ 6 → take (length ns) numbers ≡ ns → IsRow (whole ns) numbers
  row-whole numbers l e =
      by_count (λ s. IsRow s numbers)
      (λ h ms q. let z : ◌≡◌ {A = ℕ} 0 1 = cc in absurd (omega arith))
      (λ h ms q. let t : ns ≡ ms = cc in sym (take_all (length ns) numbers (omega arith)) ∙ e ∙ t)
      (λ ms q. let z : ◌≡◌ {A = ℕ} 0 1 = cc in absurd (omega arith))

  six-whole : (ms : List ℤ) → whole ns ≡ row ms → length ms ≡ 6
  six-whole =
      by_count (λ s. (ms : List ℤ) → s ≡ row ms → length ms ≡ 6)
      (λ h ms q. let z : ◌≡◌ {A = ℕ} 0 1 = cc in absurd (omega arith))
      (λ h ms q. let t : ns ≡ ms = cc in ap length (sym t) ∙ h)
      (λ ms q. let z : ◌≡◌ {A = ℕ} 0 1 = cc in absurd (omega arith))

-- a row has six numbers
six_said : (ws : List (List ℕ)) (ns ms : List ℤ) → said_by ns ws ≡ row ms → length ms ≡ 6
six_said [] ns ms q = six-whole ns ms (sym (said-nil ns) ∙ q)
six_said (w ∷ ws) ns ms q = by (number_of w) refl (ltb (length ns) 6) refl (λ longer. six_said ws longer ms)
  where
    by : (n : Result ℤ Fault) → number_of w ≡ n → (b : Bool) → ltb (length ns) 6 ≡ b
        → ((longer : List ℤ) → said_by longer ws ≡ row ms → length ms ≡ 6) → length ms ≡ 6
    by (Err f) e b t go = let x = said-faulty ns w ws f e in let z : ◌≡◌ {A = ℕ} 0 1 = cc in absurd (omega arith)
    by (Ok n) e true t go = go (ns ++ (n ∷ [])) (sym (said-next ns w ws n e (ltb-true (length ns) 6 t)) ∙ q)
    by (Ok n) e false t go =
        let x = said_more ns w ws n e (ltb-false (length ns) 6 t) in
        let z : ◌≡◌ {A = ℕ} 0 1 = cc in
        absurd (omega arith)

-- the numbers after a line, by what is answered of it
pub after_row : (s : Said) (start : ℕ) (old new six : List ℤ) → (Ok true) ≡ answer_of s → IsRow s six
    → new ≡ sets old start six → new ≡ numbers_after s start old
after_row (row ns) start old new six a i e = e ∙ ap (sets old start) (i ns refl)
after_row nothing start old new six a i e = let z : ◌≡◌ {A = ℕ} 0 1 = cc in absurd (omega arith)
after_row (faulty f) start old new six a i e = let z : ◌≡◌ {A = ℕ} 0 1 = cc in absurd (omega arith)

pub after_nothing : (s : Said) (start : ℕ) (old : List ℤ) → (Ok false) ≡ answer_of s → old ≡ numbers_after s start old
after_nothing (row ns) start old a = let z : ◌≡◌ {A = ℕ} 0 1 = cc in absurd (omega arith)
after_nothing nothing start old a = refl
after_nothing (faulty f) start old a = refl

pub after_faulty : (s : Said) (start : ℕ) (old : List ℤ) (x : Fault) → Err x ≡ answer_of s
    → old ≡ numbers_after s start old
after_faulty (row ns) start old x a = let z : ◌≡◌ {A = ℕ} 0 1 = cc in absurd (omega arith)
after_faulty nothing start old x a = refl
after_faulty (faulty f) start old x a = refl

-- the same for a reader of rows: those before `start` stay, and a row's follow them
pub record Stored (s : Said) (start : ℕ) (old new : List ℤ) : Type 0 where
  pub none : s ≡ nothing → take start new ≡ take start old
  pub some : (ns : List ℤ) → s ≡ row ns → (length ns ≡ 6) × (take (start + 6) new ≡ take start old ++ ns)

pub after_stored : (line : List ℕ) (start : ℕ) (old new : List ℤ) → start + 6 ≤ length old
    → new ≡ numbers_after (line_of line) start old → Stored (line_of line) start old new
unfolding line_of
after_stored line start old new h e =
    record {
      none = λ t. ap (take start) (e ∙ ap (λ s. numbers_after s start old) t);
      some = λ ns t.
          let six : length ns ≡ 6 = six_said _ [] ns t in
          let k : length (take start old ++ ns) ≡ start + 6 =
          length-append (take start old) ns ∙ omega (arith, length-take-le start old (omega arith)) in
          let s : sets old start ns ≡ (take start old ++ ns) ++ drop (start + length ns) old =
          sets-eq ns old start (omega arith) in
          (six, ap (take (start + 6)) (e ∙ ap (λ x. numbers_after x start old) t ∙ s) ∙ take_at _ _ (start + 6) k);
    }

-- ---- the stores of a row, place by place

pub put_start : (six old : List ℤ) (start : ℕ) → sets old (start + 0) (drop 0 six) ≡ sets old start six
put_start six old start = rw add-zero

pub put_turn : (six numbers : List ℤ) (start i : ℕ) → i < length six
    → sets (set numbers (start + i) (get_or six i (pos 0))) (start + (i + 1)) (drop (i + 1) six)
    ≡ sets numbers (start + i) (drop i six)
put_turn six numbers start i h =
    let k : start + (i + 1) ≡ suc (start + i) = omega arith in
    rw (k, add-one i, drop-cons six i (pos 0))

-- the words before byte `at` are taken, and their numbers stored
pub record Taking (line content : List ℕ) (numbers : List ℤ) (at column : ℕ) : Type 0 where
  pub fuel : ℕ
  pub ns : List ℤ
  pub count : length ns ≡ column
  pub few : column ≤ 6
  pub within : at ≤ length content
  pub enough : length content < at + fuel
  pub same : length numbers ≡ 6
  pub stored : take column numbers ≡ ns
  pub left : said_by ns (words_of fuel (drop at content)) ≡ line_of line

module _ (line content : List ℕ) where
  pub taking-start : (numbers : List ℤ) → length numbers ≡ 6 → content ≡ content_of line
      → Taking line content numbers 0 0
  unfolding line_of
  taking-start numbers six e =
      record {
        fuel = suc (length content);
        ns = [];
        count = refl;
        few = omega arith;
        within = omega arith;
        enough = omega arith;
        same = six;
        stored = refl;
        left = rw e;
      }

  module _ (numbers : List ℤ) (at column : ℕ) (f : Taking line content numbers at column)
      (w : Word) (is : w ≡ next_word content at) where
    size : ℕ
    size = run_of C.Word (drop w.from content)

    from_is : w.from ≡ at + run_of C.Blank (drop at content)
    from_is = ap (λ x. x.from) is

    end_is : w.end ≡ w.from + size
    unfolding size
    end_is = ap (λ x. x.end) is ∙ ap (λ k. k + run_of C.Word (drop k content)) (sym from_is)

    rest : drop w.from content ≡ drop (run_of C.Blank (drop at content)) (drop at content)
    rest = ap (λ k. drop k content) from_is ∙ sym (drop-drop (run_of C.Blank (drop at content)) at content)

    size_is : size ≡ run_of C.Word (drop w.from content)
    unfolding size
    size_is = refl

    pub word-within : (at ≤ w.from) × (w.from ≤ w.end) × (w.end ≤ length content)
    word-within =
        let a = run-le C.Blank (drop at content) in
        let b = length-drop at content in
        let c = run-le C.Word (drop w.from content) in
        let d = length-drop w.from content in
        (omega (arith, from_is), omega (arith, end_is), omega (arith, f.within, from_is, end_is, size_is))

    abbrev more : ℕ
    more = f.fuel - 1

    fuelled : f.fuel ≡ suc more
    fuelled = omega (arith, f.enough, f.within)

    -- no word is left
    pub taking-end : w.from ≡ w.end → (line_with column ≡ answer_of (line_of line)) × IsRow (line_of line) numbers
    taking-end h =
        let e : whole f.ns ≡ line_of line =
        sym (said-nil f.ns) ∙ ap (said_by f.ns) (sym (ap (λ k. words_of k (drop at content)) fuelled ∙ words-none more (drop at content) (drop w.from content) size rest size_is (omega (arith, end_is)))) ∙ f.left in (
          ap line_with (sym f.count) ∙ answer-whole f.ns ∙ ap answer_of e,
          rw (← e) (row-whole f.ns numbers f.same (ap (λ k. take k numbers) f.count ∙ f.stored)),
        )

    module _ (h : w.from ≡ w.end → ⊥) (number : Result ℤ Fault) (said : number ≡ number_of (take (w.end - w.from) (drop w.from content))) where
      some : 0 < size
      some = omega (arith, h, end_is)

      q : number ≡ number_of (take size (drop w.from content))
      q = let k : w.end - w.from ≡ size = omega (arith, end_is) in said ∙ ap (λ j. number_of (take j (drop w.from content))) k

      next : words_of f.fuel (drop at content) ≡ take size (drop w.from content) ∷ words_of more (drop size (drop w.from content))
      next = ap (λ k. words_of k (drop at content)) fuelled ∙ words_next more (drop at content) (drop w.from content) size rest size_is some

      pub taking-faulty : (x : Fault) → number ≡ Err x
          → (fault_of number ≡ answer_of (line_of line)) × IsRow (line_of line) numbers
      taking-faulty x e =
          let t : line_of line ≡ faulty x = sym f.left ∙ ap (said_by f.ns) next ∙ said-faulty f.ns _ _ x (sym q ∙ e) in
          (ap fault_of e ∙ sym (ap answer_of t), faulty_row t)

      module _ (z : ℤ) (e : number ≡ Ok z) where
        pub taking-more : column ≡ 6 → (Err F.More ≡ answer_of (line_of line)) × IsRow (line_of line) numbers
        taking-more c =
            let t : line_of line ≡ faulty F.More = sym f.left ∙ ap (said_by f.ns) next ∙ said_more f.ns _ _ z (sym q ∙ e) (omega (arith, f.count)) in
            (sym (ap answer_of t), faulty_row t)

        pub taking-turn : (column ≡ 6 → ⊥) → Taking line content (set numbers column z) w.end (column + 1)
        taking-turn c =
            let low : column < 6 = omega (arith, f.few, c) in
            record {
              fuel = more;
              ns = f.ns ++ (z ∷ []);
              count = length-append f.ns (z ∷ []) ∙ omega (arith, f.count);
              few = omega arith;
              within = word-within.2;
              enough = omega (arith, f.enough, word-within, end_is, some);
              same = length-set numbers column z ∙ f.same;
              stored =
                  rw (add-one column)
                  (take-suc-set numbers column z (omega (arith, f.same)) ∙ ap (λ l. l ++ (z ∷ [])) f.stored);
              left =
                  ap (λ l. said_by (f.ns ++ (z ∷ [])) (words_of more l)) (ap (λ k. drop k content) end_is ∙ sym (drop-drop size w.from content))
                  ∙ sym (said-next f.ns _ _ z (sym q ∙ e) (omega (arith, f.count))) ∙ ap (said_by f.ns) (sym next) ∙ f.left;
            }
