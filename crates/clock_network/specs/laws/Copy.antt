-- Something of each node is copied into an array, place by place.
use Rattle.std.specs.Prelude.{◌≡◌, refl, ℕ, zero, suc, ◌+◌, ◌<◌, ◌≤◌, List, [], ◌∷◌, ◌++◌, map, length, get_or, take, set}
use Rattle.std.proofs.Common.{sym, ap, ◌∙◌, add-one, arith, take-suc, take-suc-set, length-take-le, ext_get_or}
use Rattle.std.proofs.lemmas.List.{length-map}
use Rattle.std.proofs.Math.ListN.{get_or-map}
use denote.Param.Members.{Mut}
use Rattle.std.specs.Array.{IsMapOf}
use Rattle.std.specs.Fn.{Called}
use Rattle.clock_network.specs.declared.stations.Node.{Node}
use Rattle.clock_network.specs.Held.{blank_node}

module _ {A : Type 0} where
  -- one place more
  pub grow : (l a : List A) (i : ℕ) (v d : A) → i < length a → i < length l → v ≡ get_or l i d → take i a ≡ take i l → take (i + 1) (set a i v) ≡ take (i + 1) l
  grow l a i v d b c e h =
      rw (add-one i)
      (take-suc-set a i v b ∙ (ap (λ (s : List A). s ++ (v ∷ [])) h ∙ (ap (λ (x : A). take i l ++ (x ∷ [])) e ∙ sym (take-suc l i d c))))

  pub take-map : (f : Node → A) (n : ℕ) (l : List Node) → take n (map f l) ≡ map f (take n l)
  take-map f zero l = refl
  take-map f (suc n) [] = refl
  take-map f (suc n) (x ∷ l) = ap (λ (s : List A). f x ∷ s) (take-map f n l)

  -- the first n of 64 numbers that were copied
  pub prefix-length : (f : Node → A) (l : List Node) (a : List A) (n : ℕ) → a ≡ map f l → length l ≡ 64 → n ≤ 64 → length (take n a) ≡ n
  prefix-length f l a n e b c = length-take-le n a (rw e (rw length-map (omega arith)))

module _ {A : Type 0} (f : Node → A) (l : List Node) (a : List A) where
  pub copy_step : (i : ℕ) (v : A) → i < length a → i < length l → v ≡ f (get_or l i blank_node) → take i a ≡ take i (map f l) → take (i + 1) (set a i v) ≡ take (i + 1) (map f l)
  copy_step i v b c e h = grow (map f l) a i v (f blank_node) b (rw length-map c) (e ∙ sym (get_or-map f l i blank_node)) h

-- what a closure that gives h of each item made of a list
pub mapped : {F A B : Type 0} {g : Mut F (A × Unit {0}) B} {f : F} {n : ℕ} (h : A → B) (xs : List A) (ys : List B) (d : A) → IsMapOf g f xs ys n → length xs ≡ n → ((x : A) (y : B) (p q : F) → Called g p (x, tt) y q → y ≡ h x) → ys ≡ map h xs
mapped {n = n} h xs ys d m e c =
    let k : length (map h xs) ≡ n = rw length-map e in
    ext_get_or (h d) ys (map h xs) (m.long ∙ sym k)
    (λ i l. let b : i < n = rw m.long at l in let w = m.at i d (h d) b in c _ _ w.0 w.1 w.2 ∙ sym (get_or-map h xs i d))
