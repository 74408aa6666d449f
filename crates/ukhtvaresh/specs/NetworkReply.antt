-- What a caller gets of a network. Definitions only.
use Rattle.std.specs.Prelude.{◌≡◌, List, ℕ, ℤ, Result, Ok, Err}
use Rattle.sheet_types.specs.declared.refusals.Refusal.{Refusal}
use Rattle.clock_network.specs.declared.stations.Node.{Node}
use Rattle.networks.specs.Network.{answer_to, sines_for, steps_for}
use Rattle.ukhtvaresh.specs.declared.replies.Reply.{Reply}
use Rattle.ukhtvaresh.specs.Replies.{refused_reply}

-- the station named, 0 for none; or the refusal's place
abbrev pub network_reply : Result ℕ Refusal → Reply
network_reply (Ok n) = record { number = 0; value = n }
network_reply (Err r) = refused_reply r

-- the reply to a list: number, value, buffer and steps afterwards
pub record Told (ns : List ℤ) (l : List Node) (sines steps : List ℕ) (number : ℕ) (sines' steps' : List ℕ) (value : ℕ) : Type 0 where
  pub is-number : number ≡ (network_reply (answer_to ns l sines steps)).number
  pub is_value : value ≡ (network_reply (answer_to ns l sines steps)).value
  pub is_room : sines' ≡ sines_for ns l sines steps
  pub is_steps : steps' ≡ steps_for ns l sines steps
