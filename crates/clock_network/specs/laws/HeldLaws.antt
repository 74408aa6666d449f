-- What a value holds.
--   held-holds                 what was gathered holds the list
--   some-list                  every value holds some list
--   listed, first-node, part   of a list of at most 64: it, its first node, and something of each of its nodes
use Rattle.std.specs.Prelude.{◌≡◌, refl, ℕ, zero, suc, ◌<◌, ◌≤◌, Bool, true, false, ltb, List, [], ◌∷◌, ◌++◌, map, length, get_or, set, take, drop, replicate, min}
use Rattle.std.proofs.Common.{sym, ap, ◌∙◌, arith, ltb-true, ltb-false, length-set, take_all, take-suc, take-suc-set, get_or-take, length-take-le}
use Rattle.std.proofs.Math.Decide.{dec_lt}
use Rattle.std.proofs.lemmas.List.{length-replicate}
use Rattle.clock_network.specs.declared.stations.Node.{Node}
use Rattle.clock_network.specs.Held.{blank_node, blank_nodes, pick, least64, held_of}
use Rattle.clock_network.specs.declared.stations.Held.{Held}
use Rattle.clock_network.specs.Nodes.{Holds}
use Rattle.clock_network.specs.laws.Copy.{take-map}

held-count : (l : List Node) (i : ℕ) → (held_of l i).count ≡ length l
unfolding held_of
held-count l zero = refl
held-count l (suc i) = held-count l i

held_64 : (l : List Node) (i : ℕ) → length (held_of l i).nodes ≡ 64
unfolding held_of
held_64 l zero = refl
held_64 l (suc i) = length-set (held_of l i).nodes i (get_or l i blank_node) ∙ held_64 l i

held-take : (l : List Node) (i : ℕ) → i ≤ 64 → i ≤ length l → take i (held_of l i).nodes ≡ take i l
unfolding held_of
held-take l zero a b = refl
held-take l (suc i) a b =
    let e : length (held_of l i).nodes ≡ 64 = held_64 l i in
    take-suc-set (held_of l i).nodes i (get_or l i blank_node) (omega arith) ∙ (ap (λ (s : List Node). s ++ (get_or l i blank_node ∷ [])) (held-take l i (omega arith) (omega arith)) ∙ sym (take-suc l i blank_node (omega arith)))

least-is : (t : Bool) (n : ℕ) → t ≡ ltb n 64 → n ≤ 64 → pick t n 64 ≡ n
least-is true n e h = refl
least-is false n e h = let l : 64 ≤ n = ltb-false n 64 (sym e) in omega arith

-- one node more, in front of what is left of the 64 places
front : (l b : List Node) (i : ℕ) → i < length l → i < length b → set (take i l ++ drop i b) i (get_or l i blank_node) ≡ take (suc i) l ++ drop (suc i) b
front [] b i h k = absurd (omega arith)
front (x ∷ l) [] i h k = absurd (omega arith)
front (x ∷ l) (y ∷ b) zero h k = refl
front (x ∷ l) (y ∷ b) (suc i) h k = ap (λ (s : List Node). x ∷ s) (front l b i (omega arith) (omega arith))

held-front : (l : List Node) (i : ℕ) → i ≤ 64 → i ≤ length l → (held_of l i).nodes ≡ take i l ++ drop i blank_nodes
unfolding held_of
held-front l zero a b = refl
held-front l (suc i) a b =
    ap (λ (s : List Node). set s i (get_or l i blank_node)) (held-front l i (omega arith) (omega arith))
    ∙ front l blank_nodes i (omega arith) (rw length-replicate (omega arith))

least-min : (t : Bool) (n : ℕ) → t ≡ ltb n 64 → pick t n 64 ≡ min n 64
least-min true n e = let l : n < 64 = ltb-true n 64 (sym e) in omega arith
least-min false n e = let l : 64 ≤ n = ltb-false n 64 (sym e) in omega arith

-- as many nodes as fit are copied to the front
pub gathered-is : (l a : List Node) (n : ℕ) (b : Node) → n ≡ min (length l) 64 → a ≡ take n l → b ≡ blank_node
    → record { nodes = a ++ drop n (replicate 64 b); count = length l } ≡ held_of l (least64 (length l))
gathered-is l a n b e f g =
    let m : n ≡ least64 (length l) = e ∙ sym (least-min (ltb (length l) 64) (length l) refl) in
    let h : (held_of l n).nodes ≡ take n l ++ drop n blank_nodes = held-front l n (omega arith) (omega arith) in
    ap (λ (s : List Node). record { nodes = s ++ drop n (replicate 64 b); count = length l }) f
    ∙ (ap (λ (x : Node). record { nodes = take n l ++ drop n (replicate 64 x); count = length l }) g
    ∙ (ap (λ (s : List Node). record { nodes = s; count = length l }) (sym h)
    ∙ (ap (λ (k : ℕ). record { nodes = (held_of l n).nodes; count = k }) (sym (held-count l n)) ∙ ap (held_of l) m)))

held_list : (l : List Node) → length l ≤ 64 → take (length l) (held_of l (least64 (length l))).nodes ≡ l
held_list l h =
    let e : least64 (length l) ≡ length l = least-is (ltb (length l) 64) (length l) refl h in
    ap (λ (i : ℕ). take (length l) (held_of l i).nodes) e ∙ (held-take l (length l) h (omega arith) ∙ take_all (length l) l (omega arith))

pub held-holds : (l : List Node) → Holds (held_of l (least64 (length l))) l
held-holds l = record { room = held_64 l (least64 (length l)); count = held-count l (least64 (length l)); listed = held_list l }

-- ---- a value's own list
module _ (h : Held) (room : length h.nodes ≡ 64) where
  pub few-listed : h.count ≤ 64 → Holds h (take h.count h.nodes)
  few-listed few =
      let e : length (take h.count h.nodes) ≡ h.count = length-take-le h.count h.nodes (omega arith) in
      record { room = room; count = sym e; listed = λ _. ap (λ (k : ℕ). take k h.nodes) e }

  pub some-list : (l : List Node) × Holds h l
  some-list = elim (dec_lt 64 h.count) [
    | yes many ↦ (
      replicate h.count blank_node,
      record {
        room = room;
        count = sym (length-replicate h.count blank_node);
        listed = λ few. let e : length (replicate h.count blank_node) ≡ h.count = length-replicate h.count blank_node in absurd (omega (arith, many));
      },
    )
    | no few ↦ (take h.count h.nodes, few-listed (omega (arith, few)))
  ]

-- ---- of a list of at most 64
module _ (h : Held) (l : List Node) (k : Holds h l) (few : h.count ≤ 64) where
  pub listed : take h.count h.nodes ≡ l
  listed = let e : h.count ≡ length l = k.count in ap (λ (n : ℕ). take n h.nodes) e ∙ k.listed (omega arith)

  pub first-node : 0 < h.count → get_or l 0 blank_node ≡ get_or h.nodes 0 blank_node
  first-node some = ap (λ (m : List Node). get_or m 0 blank_node) (sym listed) ∙ get_or-take h.count h.nodes 0 blank_node some

  pub part : {A : Type 0} (f : Node → A) (a : List A) → a ≡ map f h.nodes → take h.count a ≡ map f l
  part f a e = ap (take h.count) e ∙ (take-map f h.count h.nodes ∙ ap (map f) listed)
