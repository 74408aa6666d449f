-- Entries that stand one after the other in what is given. Well-formed entries that stand so are a sheet
-- (`from-well`), and the entries of a sheet are well formed and stand so (`well-from`).
use Prim.Native.Nat.{ℕ, zero, suc, ◌+◌, ◌≤◌}
use Rattle.std.specs.Prelude.{◌≡◌, Result, Ok, ℕ}
use Rattle.std.proofs.Math.Path.{refl, ap, subst}
use Rattle.std.proofs.Common.{sym, ◌∙◌, arith}
use mathlib.Core.List.{List, [], ◌∷◌}
use Rattle.std.proofs.Math.Bool.{true, false, cond}
use Rattle.std.proofs.Math.ListN.{length}
use Rattle.sheet_types.specs.declared.refusals.Refusal.{Refusal}
use Rattle.sheet_format.specs.declared.kinds.Entry.{Entry}
use Rattle.sheet_format.specs.declared.kinds.Progress.{Progress}
use Rattle.sheet_format.specs.Kinds.{is_end, size_of}
use Rattle.sheet_format.specs.RecordEntries.{bytes_of}
use Rattle.sheet_format.specs.laws.EntryLaws.{bytes-nil, length-bytes_cons}
use Rattle.sheet_rules.specs.Rules.{after_of}
use Rattle.sheet_rules.specs.laws.RuleLaws.{order-kept, fields-kept}
use Rattle.sheet_codec.specs.Sheets.{sheet, more, sheet_from}
use Rattle.sheet_codec.specs.laws.GivenLaws.{from_end, from_more, from-inv, from_nothing}
use Rattle.sheet_codec.specs.laws.WellFormed.{WellFormed}

-- the i-th and the next are these, each record right behind the one before it
unfoldable pub Stand : (ℕ → ℕ → Result (Entry × ℕ) Refusal) → ℕ → ℕ → List Entry → Type 0
Stand given i at [] = Unit
Stand given i at (e ∷ es) = (given i at ≡ Ok (e, at + size_of e.kind)) × Stand given (i + 1) (at + size_of e.kind) es

-- a record that is given stands right before the next
abbrev pub Steady : (ℕ → ℕ → Result (Entry × ℕ) Refusal) → Type 0
Steady given = (i at : ℕ) (e : Entry) (n : ℕ) → given i at ≡ Ok (e, n) → n ≡ at + size_of e.kind

module _ (given : ℕ → ℕ → Result (Entry × ℕ) Refusal) where
  pub from-well : (es : List Entry) (p : Progress) → WellFormed p es → (i at fuel : ℕ) → Stand given i at es → length es ≤ fuel
      → sheet_from given fuel p i at ≡ sheet es (at + length (bytes_of es))
  unfolding WellFormed Stand
  from-well [] p w i at fuel st h = absurd w
  from-well (e ∷ es) p w i at zero st h = absurd (omega arith)
  from-well (e ∷ es) p w i at (suc fuel) st h =
      let next = at + size_of e.kind in
      let o = order-kept p e w.0 in
      let f = fields-kept p e w.1 in
      let long = length-bytes_cons e es in
      (elim (is_end e.kind) as (λ b. is_end e.kind ≡ b → cond b (es ≡ []) (WellFormed (after_of p e) es)
      → sheet_from given (suc fuel) p i at ≡ sheet (e ∷ es) (at + length (bytes_of (e ∷ es)))) [
        | true ↦ λ b none.
            let short : length (bytes_of es) ≡ 0 = ap (λ x. length (bytes_of x)) none ∙ ap length bytes-nil in
            from_end given fuel p i at e next st.0 o f b
            ∙ ap (λ x. sheet (e ∷ x) next) (sym none) ∙ ap (sheet (e ∷ es)) (omega arith)
        | false ↦ λ b v.
            from_more given fuel p i at e next st.0 o f b
            ∙ ap (more e) (from-well es (after_of p e) v (i + 1) next fuel st.1 (omega arith)) ∙ ap (sheet (e ∷ es)) (omega arith)
      ]) refl w.2

  pub well-from : Steady given → (fuel : ℕ) (p : Progress) (i at : ℕ) (es : List Entry) (len : ℕ) → sheet_from given fuel p i at ≡ sheet es len
      → WellFormed p es × Stand given i at es × (len ≡ at + length (bytes_of es))
  unfolding WellFormed Stand
  well-from steady zero p i at es len w = absurd (from_nothing given p i at es len w)
  well-from steady (suc fuel) p i at es len w =
      let g = from-inv given fuel p i at es len w in
      let e = g.e in
      let long = length-bytes_cons e g.tail in
      let n = steady i at e g.n g.got in
      let here : given i at ≡ Ok (e, at + size_of e.kind) = g.got ∙ ap (λ m. Ok (e, m)) n in
      subst (λ x. WellFormed p x × Stand given i at x × (len ≡ at + length (bytes_of x))) (sym g.all)
      ((elim (is_end e.kind) as (λ b. is_end e.kind ≡ b
      → WellFormed p (e ∷ g.tail) × Stand given i at (e ∷ g.tail) × (len ≡ at + length (bytes_of (e ∷ g.tail)))) [
        | true ↦ λ b.
            let l = g.last b in
            let short : length (bytes_of g.tail) ≡ 0 = ap (λ x. length (bytes_of x)) l.0 ∙ ap length bytes-nil in
            ((g.order, g.fields, rw b l.0), (here, rw l.0 tt), omega arith)
        | false ↦ λ b.
            let r = well-from steady fuel (after_of p e) (i + 1) g.n g.tail len (g.goes b) in
            ((g.order, g.fields, rw b r.0), (here, rw (← n) r.1), omega arith)
      ]) refl)
