-- Lists worked out: the definitions compute.
use Rattle.std.specs.Prelude.{◌≡◌, refl, List, [], ◌∷◌, ◌++◌, replicate, ℤ, pos, negsuc}
use Rattle.clock_network.specs.Defined.{first_of, repeat_b, stray_b, lost_b, chain, steps_of}

-- stations 7, 3, 9, 4, 5: 7 follows the antenna, 3 follows 7, 9 follows 3, 4 and 5 follow each other
abbrev ns : List ℤ
ns = pos 7 ∷ pos 3 ∷ pos 9 ∷ pos 4 ∷ pos 5 ∷ []

abbrev cs : List ℤ
cs = pos 0 ∷ pos 7 ∷ pos 3 ∷ pos 5 ∷ pos 4 ∷ []

steps : steps_of ns cs ≡ (1 ∷ 2 ∷ 3 ∷ []) ++ replicate 61 0
unfolding steps_of chain first_of
steps = refl

lost_4 : first_of (lost_b ns cs) 5 ≡ 3
unfolding chain first_of
lost_4 = refl

repeat_2 : first_of (repeat_b (pos 7 ∷ pos 3 ∷ pos 7 ∷ [])) 3 ≡ 2
unfolding first_of
repeat_2 = refl

stray_1 : first_of (stray_b (pos 7 ∷ pos 3 ∷ []) (pos 0 ∷ negsuc 6 ∷ [])) 2 ≡ 1
unfolding first_of
stray_1 = refl
